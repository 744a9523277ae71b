-- Lists that grow by a beginning of what is to be added.
use Rattle.std.proofs.Common.{◌≡◌, List, [], ◌++◌, length, refl, sym, ap, ◌∙◌, append-nil, append_assoc}
use Rattle.std.proofs.{Math.Seq.{take-append_seam}, lemmas.List.{append_cancel_left}}
use Rattle.html_flow_convert.specs.Beginnings.{AddsBeginning}

-- a list has the first of these, and perhaps more after them
pub record Grows {A : Type 0} (old new : List A) : Type 0 where
  pub more : List A
  pub is : new ≡ old ++ more

pub grows_by_none : {A : Type 0} (old : List A) → Grows old old
grows_by_none old = record { more = []; is = sym (append-nil old) }

pub grows_more : {A : Type 0} {old made new : List A} (more : List A) → Grows old made →
    new ≡ made ++ more → Grows old new
grows_more {old = old} more g e = record {
  more = g.more ++ more;
  is = e ∙ (ap (λ l. l ++ more) g.is ∙ append_assoc old g.more more);
}

-- what is made is a beginning, if all stands there once what is left comes after it
pub begins : {A : Type 0} {old made new : List A} (left added : List A) → Grows old made →
    new ≡ made → made ++ left ≡ old ++ added → AddsBeginning old new added
begins {old = old} left added g is e =
    let whole : g.more ++ left ≡ added =
    append_cancel_left old (g.more ++ left) added (rw (← append_assoc, ← g.is) e) in
    (length g.more, is ∙ (g.is ∙ rw (← whole, take-append_seam g.more left) refl))
