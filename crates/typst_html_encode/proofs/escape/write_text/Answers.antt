use Rattle.std.proofs.{Common.{◌≡◌, [], chars, sym, ◌∙◌}, lemmas.List.{append-nil}}
use Rattle.typst_html_encode.proofs.{Escapes.{value-empty}, Stretches.{lone_text, lone_faults}}
use Rattle.typst_html_encode.proofs.escape.write_text.Goals as goal

pub returns-then-is_empty : goal.returns-then-is_empty
returns-then-is_empty c =
    let wrote = c.in_ok-rest.ensures in
    let empty : chars c.in_ok-rest.rest.now ≡ []
    = value-empty _ (sym c.is_empty.ensures ∙ c.if-is_empty.true) in
    record {
      appended = sym (append-nil _) ∙ rw empty at wrote.agrees;
      clean = sym (rw empty at (wrote.clean c.args.span.0));
      fault = tt;
    }

pub returns-in-Some : goal.returns-in-Some
returns-in-Some c =
    let lone = c.in-Some.ensures in
    let e = c.args.escaping in
    record {
      appended = rw (lone.0, lone_text e c.in-Some.byte lone.1) c.in_ok-push.ensures.added;
      clean = rw lone.0 (lone_faults e c.args.span.0 c.in-Some.byte lone.1);
      fault = tt;
    }
