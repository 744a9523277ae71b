use Rattle.std.proofs.{Common.{◌≡◌, eqb, length, true, [], chars, refl, string_bytes, sym, ap, ◌∙◌, append-nil}, StrCases.{chars_of_empty}}
use Rattle.std.proofs.lemmas.Bool.{eqb-true}
use Rattle.html_dom_tree.specs.Views.{text_view}
use Rattle.typst_html_read.specs.Stretches.{all_grow, continues}
use Rattle.typst_html_read.proofs.stretch.add_reference.Goals as goal

pub returns-then-not-is_empty : goal.returns-then-not-is_empty
returns-then-not-is_empty c = record {
  front = [];
  parts = refl;
  within = refl;
  added = sym (append-nil (text_view c.args.since.now));
}

pub returns : goal.returns
returns c =
    let since = c.args.since.now in
    let front = chars c.split_reference.result.0.now in
    let long : eqb (length (string_bytes since)) 0 ≡ true =
    ap (λ n. eqb n 0) (sym since.bytes.ok.0)
    ∙ (sym c.is_empty.ensures ∙ c.if-not-is_empty.false) in
    let none : text_view since ≡ [] = chars_of_empty _ (eqb-true _ 0 long) in
    record {
      front = front;
      parts = c.split_reference.ensures.parts;
      within = ap (λ t. all_grow continues t front) none ∙ c.split_reference.ensures.begins;
      added = c.in_ok-add_text.ensures;
    }
