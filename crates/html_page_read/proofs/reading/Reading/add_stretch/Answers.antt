use Rattle.std.proofs.{Common.{◌≡◌, ◌+◌, ◌-◌, ◌++◌, false, eqb, length, sym, ap, ◌∙◌}, lemmas.Str.{chars-IsAscii}}
use Rattle.html_text.proofs.Fronts.{common_ascii}
use Rattle.html_page_read.{proofs.PageStretches.{grown, stretch_some}, specs.PageReaderViews.{reading_of}}
use Rattle.html_page_read.proofs.reading.Reading.add_stretch.Goals as goal

pub returns : goal.returns
returns c =
    let r = reading_of c.args.self.now in
    let front = c.args.front.now in
    let start = r.place + (length front - 1) in
    let place = r.place + length front in
    let some : eqb (length front) 0 ≡ false = sym c.is_empty.ensures ∙ c.if-is_empty.false in
    ap (λ p. record {
      page = record p { start = start };
      place = place;
      fresh = false;
      after_return = false;
    }) c.in_ok-add_text.ensures
    ∙ (ap (λ l. grown r (r.page.text ++ l) start place)
    (chars-IsAscii front (common_ascii front c.requires.common))
    ∙ sym (stretch_some front r some))
