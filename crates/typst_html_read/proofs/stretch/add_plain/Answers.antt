use Rattle.std.proofs.{Common.{◌≡◌, ◌++◌, [], append-nil, chars, sym, ap, ◌∙◌}, StrCases.{chars_of_empty}, lemmas.Bool.{eqb-true}}
use Rattle.html_dom_tree.specs.Views.{text_view}
use Rattle.typst_html_read.{proofs.Stretches.{all_alike}, specs.Stretches.{is_plain}}
use Rattle.typst_html_read.proofs.stretch.add_plain.Goals as goal

pub returns-then-is_empty : goal.returns-then-is_empty
returns-then-is_empty c =
    let read = text_view c.args.read.now in
    let front = chars c.split_plain.result.0.now in
    let none : front ≡ [] =
    chars_of_empty _ (eqb-true _ 0 (sym c.is_empty.ensures ∙ c.if-is_empty.true)) in
    record {
      front = front;
      parts = c.split_plain.ensures.parts;
      within = all_alike (is_plain c.args.end) front read c.split_plain.ensures.within;
      added = sym (append-nil read) ∙ ap (λ l. read ++ l) (sym none);
    }

pub returns : goal.returns
returns c =
    let front = chars c.split_plain.result.0.now in
    record {
      front = front;
      parts = c.split_plain.ensures.parts;
      within = all_alike (is_plain c.args.end) front (text_view c.args.read.now)
          c.split_plain.ensures.within;
      added = c.in_ok-add_text.ensures;
    }
