use Rattle.std.proofs.Common.{◌≡◌, ◌-◌, [], length, eqb-true, append-nil, sym, ap, ◌∙◌, Ok}
use Rattle.std.proofs.lemmas.List.{nil_from_length}
use Rattle.html_page_encoding.proofs.Utf16Steps.{continued, none_left}
use Rattle.html_page_encoding.proofs.utf16.utf16_text.Goals as goal

pub returns : goal.returns
returns c =
    let at = c.loop-rest in
    let rest = at.rest.now in
    let empty : rest ≡ [] = nil_from_length rest
    (eqb-true (length rest) 0 (sym c.is_empty.ensures ∙ c.loop-rest-test.false)) in
    let place = length c.args.bytes.now - length rest in
    record {
      made = sym at.invariant.same
          ∙ (ap (continued at.text) (none_left c.args.big place rest empty)
          ∙ ap Ok (append-nil at.text ∙ sym c.into_string.ensures));
      fault = tt;
    }
