use Rattle.std.proofs.{Common.{◌≡◌, ◌++◌, chars, ap, sym, ◌∙◌, append_assoc}, StrCases.{chars_of_empty}}
use Rattle.std.proofs.lemmas.{List.{append-nil}, Result.{err_from_is_err_and}, Str.{chars_past_char}}
use Rattle.typst_html_encode.proofs.Firsts.{first_of_more}
use Rattle.typst_html_encode.proofs.escape.write_rest.Goals as goal
use lib.Utf8.{encode}

pub loop-c-preserved : goal.loop-c-preserved
loop-c-preserved c =
    let held = c.loop-c.invariant in
    let wrote = c.in_ok-rest.ensures in
    let char = c.in-Some.c in
    let parts : c.loop-c.rest.now ≡ encode char ++ c.as_str.result.now =
    sym c.chars-left.ensures.rest ∙ (c.in-Some.ensures.steps.0
    ∙ ap (λ l. encode char ++ l) (sym c.as_str.ensures)) in
    let step = chars_past_char _ _ char held.is_text parts in
    let agrees = rw step at held.agrees in
    let clean = rw (step, c.in_ok-write_char.ensures.clean) at held.clean in
    record {
      is_text = wrote.rest_utf8;
      agrees = wrote.agrees ∙ rw (c.in_ok-write_char.ensures.appended, append_assoc) agrees;
      clean = wrote.clean c.args.span.0 ∙ clean;
    }

pub returns-in_err-write_char : goal.returns-in_err-write_char
returns-in_err-write_char c =
    let held = c.loop-c.invariant in
    let step = chars_past_char _ _ c.in-Some.c held.is_text
    (sym c.chars-left.ensures.rest ∙ c.in-Some.ensures.steps.0) in
    let all = sym (rw step at held.clean) in
    let failed = err_from_is_err_and c.from_residual.result
    c.from_residual.ensures.1 in
    record {
      appended = rw failed.1 tt;
      clean = rw failed.1 tt;
      fault = rw (failed.1, failed.2, all) (first_of_more _ _ _ c.in_err-write_char.ensures.fault);
    }

pub returns-in_default : goal.returns-in_default
returns-in_default c =
    let held = c.loop-c.invariant in
    let empty = ap chars (sym c.chars-left.ensures.rest)
    ∙ chars_of_empty _ c.in_default.ensures.steps.0.0 in
    record {
      appended = sym (append-nil _) ∙ rw empty at held.agrees;
      clean = sym (rw empty at held.clean);
      fault = tt;
    }
