-- What was read, and what is remembered of it.
use Rattle.std.proofs.Common.{◌≡◌, ◌≢◌, ℕ, List, [], ◌∷◌, ◌++◌, Option, Some, None, option_map, Result, Ok, Err, option_to_list, refl, sym, ap, ◌∙◌, subst}
use Rattle.html_names_core.proofs.Faults.{some_first}
use Rattle.html_names_core.specs.NameFaults as name
use Rattle.html_names_core.specs.{Names.{tag_fault}, declared.fault.NameFault.{NameFault}}
use Rattle.html_names_core.specs.declared.fault.NameFault.TheVariants as name_fault
use Rattle.html_dom_tree.specs.{Tree.{TextPair}, declared.span.Span.{Span}}
use Rattle.typst_html_json.specs.{Fields.{element_from}, LeftForms.{Left, mapped, and_then, IsLeft}, Marks.{Mark}}
use Rattle.typst_html_json.specs.NameRefusals.{Refusal, refusals, pairs_refusals, own_refusals}
use Rattle.typst_html_json.specs.{Reading.{first_of, mark, IsWrong, IsRead, Reads, marked}, Refusals.{IsFirst}}
use Rattle.typst_html_json.specs.declared.fault.{Fault.{Fault}, InputPlace.{InputPlace}, Fault.TheVariants.{OutOfMemory, BadInput, Refused}}
use Rattle.typst_html_json.specs.declared.{fault.InputPlace.TheVariants.{Unknown, Text, Form}, reader.Reader.{Reader}}

pub first_of_nil : (o : Option (ℕ × Span)) → first_of o [] ≡ o
first_of_nil (Some r) = refl
first_of_nil None = refl

pub first_of_more : (o : Option (ℕ × Span)) (rs ss : List Refusal)
    → first_of (first_of o rs) ss ≡ first_of o (rs ++ ss)
first_of_more (Some r) rs ss = refl
first_of_more None [] ss = refl
first_of_more None (r ∷ rs) ss = refl

pub first_of_none : (o : Option (ℕ × Span)) (rs : List Refusal) → first_of o rs ≡ None
    → (o ≡ None) × (rs ≡ [])
first_of_none (Some r) rs h = absurd (cc)
first_of_none None [] h = (refl, refl)
first_of_none None (r ∷ rs) h = absurd (cc)

left_by : {A B : Type 0} (o : Left A) (p : Left B) (place : InputPlace)
    → ((n : ℕ) → o ≡ Err n → p ≡ Err n) → IsLeft o place → IsLeft p place
left_by o p Unknown f h = absurd h
left_by o p (Text line column) f h = absurd h
left_by o p (Form n) f h = f n h

pub wrong_by : {A B : Type 0} (o : Left A) (p : Left B) (e : Fault)
    → ((n : ℕ) → o ≡ Err n → p ≡ Err n) → IsWrong o e → IsWrong p e
wrong_by o p OutOfMemory f h = tt
wrong_by o p (BadInput place) f h = left_by o p place f h
wrong_by o p (Refused n span) f h = absurd h

pub read_clean : {B : Type 0} (refusals : B → List Refusal) (made : B) (wanted : Left (B × Mark))
    (before after : Reader) → wanted ≡ Ok (made, mark after) → refusals made ≡ []
    → after.refused ≡ before.refused → IsRead refusals made wanted before after
read_clean refusals made wanted before after is clean kept = record {
  whole = made;
  spelled = is;
  noted = kept ∙ sym (ap (first_of before.refused) clean ∙ first_of_nil before.refused);
  same = λ h. refl;
}

-- read from where as much was refused
pub read_from : {B : Type 0} (refusals : B → List Refusal) (made : B) (wanted : Left (B × Mark))
    (before since after : Reader) → since.refused ≡ before.refused
    → IsRead refusals made wanted since after → IsRead refusals made wanted before after
read_from refusals made wanted before since after kept r = record {
  whole = r.whole;
  spelled = r.spelled;
  noted = r.noted ∙ ap (λ o. first_of o (refusals r.whole)) kept;
  same = r.same;
}

pub reads_from : {A B : Type 0} (view : A → B) (refusals : B → List Refusal) (r : Result A Fault)
    (wanted : Left (B × Mark)) (before since after : Reader) → since.refused ≡ before.refused
    → Reads view refusals r wanted since after → Reads view refusals r wanted before after
reads_from view refusals (Ok a) wanted before since after kept h =
    read_from refusals (view a) wanted before since after kept h
reads_from view refusals (Err e) wanted before since after kept h = h

-- a part of something that has the same names
pub read_mapped : {A B : Type 0} (f : A → B) (ones : A → List Refusal) (others : B → List Refusal)
    (made : A) (wanted : Left (A × Mark)) (before after : Reader)
    → ((a : A) → others (f a) ≡ ones a) → IsRead ones made wanted before after
    → IsRead others (f made) (mapped (λ p. (f p.0, p.1)) wanted) before after
read_mapped f ones others made wanted before after agrees r = record {
  whole = f r.whole;
  spelled = rw r.spelled refl;
  noted = r.noted ∙ ap (first_of before.refused) (sym (agrees r.whole));
  same = λ h. ap f (r.same h);
}

-- what is refused in the end is the first refusal
first_refused : (rs : List Refusal) (code : ℕ) (span : Span) → first_of None rs ≡ Some (code, span)
    → IsFirst (Refused code span) rs
first_refused [] code span h = absurd (cc)
first_refused (r ∷ rs) code span h =
    let same : Some r ≡ Some (code, span.0) =
    ap (option_map (λ (p : ℕ × Span). (p.0, p.1.0))) h in
    (rs, cc)

pub refused_whole : {B : Type 0} (refusals : B → List Refusal) (made : B) (wanted : Left (B × Mark))
    (before after : Reader) (code : ℕ) (span : Span) → before.refused ≡ None
    → after.refused ≡ Some (code, span) → (r : IsRead refusals made wanted before after)
    → IsFirst (Refused code span) (refusals r.whole)
refused_whole refusals made wanted before after code span clear is r =
    first_refused (refusals r.whole) code span
    (ap (λ o. first_of o (refusals r.whole)) (sym clear) ∙ sym r.noted ∙ is)

one_refusal : (f : NameFault) (span : ℕ) (o : Option NameFault)
    → name.IsFirst f (option_to_list o) → name.number_of f ≢ 0
    → refusals span o ≡ (name.number_of f, span) ∷ []
one_refusal name_fault.OutOfMemory span o h other = absurd (other refl)
one_refusal f span o h other = ap (refusals span) (some_first o _ _ h.1)

pub name_refused : (fault : List ℕ → Option NameFault) (text made : List ℕ) (f : NameFault)
    (span : Span) (before after : Reader)
    → name.IsFirst f (option_to_list (fault text)) → (name.number_of f ≢ 0) × (after
    ≡ record before { refused = first_of before.refused ((name.number_of f, span.0) ∷ []) })
    → IsRead (λ t. refusals span.0 (fault t)) made (Ok (text, mark before)) before after
name_refused fault text made f span before after first noted =
    let agrees = one_refusal f span.0 (fault text) first noted.0 in
    let seen : after.refused ≡ first_of before.refused (refusals span.0 (fault text)) =
    ap (λ r. r.refused) noted.1 ∙ ap (first_of before.refused) (sym agrees) in
    record {
      whole = text;
      spelled = ap (λ r. Ok (text, mark r)) (sym noted.1);
      noted = seen;
      same = λ h. absurd (cc ((first_of_none before.refused _ (sym seen ∙ h)).1, agrees));
    }

-- a part, and then the rest
abbrev pub then_from : {A B C : Type 0} → (f : A → B → C) → Left (A × Mark)
    → (rest : Mark → Left (B × Mark)) → Left (C × Mark)
then_from f first rest = and_then (λ p. mapped (λ q. (f p.0 q.0, q.1)) (rest p.1)) first

pub then_read : {A B C : Type 0} (f : A → B → C) (ones : A → List Refusal)
    (alls : B → List Refusal) (both : C → List Refusal)
    → ((a : A) (b : B) → both (f a b) ≡ ones a ++ alls b)
    → (first : Left (A × Mark)) (rest : Mark → Left (B × Mark)) (x : A) (y : B) (s t u : Reader)
    → IsRead ones x first s t → IsRead alls y (rest (mark t)) t u
    → IsRead both (f x y) (then_from f first rest) s u
then_read f ones alls both joins first rest x y s t u a b = record {
  whole = f a.whole b.whole;
  spelled = rw (a.spelled, b.spelled) refl;
  noted =
      b.noted ∙ ap (λ o. first_of o (alls b.whole)) a.noted
      ∙ first_of_more s.refused (ones a.whole) (alls b.whole)
      ∙ ap (first_of s.refused) (sym (joins a.whole b.whole));
  same = λ h.
      let before = first_of_none t.refused (alls b.whole) (sym b.noted ∙ h) in
      rw (a.same before.0, b.same h) refl;
}

-- an element's own names are refused before those of what it holds
abbrev pub IsOwnFirst : {A B : Type 0} (made : ℕ → List ℕ → List TextPair → A → B)
    (ones : B → List Refusal) (alls : A → List Refusal) → Type 0
IsOwnFirst {A = A} made ones alls = (span : ℕ) (tag : List ℕ) (pairs : List TextPair) (inside : A)
    → ones (made span tag pairs inside) ≡ own_refusals span tag pairs ++ alls inside

own_then : {A B : Type 0} (made : List ℕ → List TextPair → A → B) (tag : List ℕ)
    (pairs : Option (List TextPair)) (inside : Mark → Left (A × Mark)) (m : Mark)
    → then_from (λ (own : List ℕ × List TextPair) held. made own.0 own.1 held)
    (then_from (λ t ps. (t, ps)) (Ok (tag, m)) (λ n. marked n pairs)) inside
    ≡ element_from made m (Some tag) pairs (inside m)
own_then made tag None inside m = refl
own_then made tag (Some ps) inside m = refl

-- an element of its parts, which are read in its own list
pub read_element : {A B : Type 0} (made : ℕ → List ℕ → List TextPair → A → B)
    (ones : B → List Refusal) (alls : A → List Refusal) → IsOwnFirst made ones alls
    → (tag tag_made : List ℕ) (pairs : Option (List TextPair)) (pairs_made : List TextPair)
    (inside : Mark → Left (A × Mark)) (inside_made : A) (span : ℕ) (s t u v : Reader)
    → span ≡ s.lists
    → IsRead (λ name. refusals span (tag_fault name)) tag_made (Ok (tag, mark s)) s t
    → IsRead (pairs_refusals span) pairs_made (marked (mark t) pairs) t u
    → IsRead alls inside_made (inside (mark u)) u v
    → IsRead ones (made s.lists tag_made pairs_made inside_made)
    (element_from (made s.lists) (mark s) (Some tag) pairs (inside (mark s))) s v
read_element made ones alls own tag tag_made pairs pairs_made inside inside_made
    span s t u v here a b c =
    let Whole : ℕ → Type 0 = λ k. IsRead ones (made k tag_made pairs_made inside_made)
    (element_from (made k) (mark s) (Some tag) pairs (inside (mark s))) s v in
    subst Whole here
    (rw (← own_then (made span) tag pairs inside (mark s))
    (then_read (λ (o : List ℕ × List TextPair) held. made span o.0 o.1 held)
    (λ o. own_refusals span o.0 o.1) alls ones
    (λ o held. own span o.0 o.1 held) _ inside (tag_made, pairs_made) inside_made s u v
    (then_read (λ n ps. (n, ps)) (λ name. refusals span (tag_fault name)) (pairs_refusals span)
    (λ o. own_refusals span o.0 o.1) (λ n ps. refl) (Ok (tag, mark s))
    (λ m. marked m pairs) tag_made pairs_made s t u a b) c))
