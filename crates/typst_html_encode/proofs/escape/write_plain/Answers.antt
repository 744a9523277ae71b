use Rattle.std.proofs.Common.{◌≡◌, ◌++◌, length, chars, refl, sym, ap, subst, ◌∙◌, append_assoc, arith}
use Rattle.std.{proofs.lemmas.List.{length-append}, proofs.lemmas.Str.{IsCharBoundary-at_seam, chars-append}, specs.Str.{IsCharBoundary}}
use Rattle.typst_html_encode.{proofs.Stretches.{escaped_plain, faults_plain}, specs.ExportFaults.{text_faults}}
use Rattle.typst_html_encode.proofs.escape.write_plain.Goals as goal
use native.Mathlib.Numerals.{unary_clauses}
use Rattle.html_names_core.proofs.Basics.{front_length, front_taken}

pub range-requires-clause-end_boundary : goal.range-requires-clause-end_boundary
range-requires-clause-end_boundary c =
    let passed = c.past_plain-rest.ensures in
    let text = c.args.text.now in
    let rest = c.past_plain-rest.result.now in
    subst (IsCharBoundary text) (front_length text passed.front rest passed.split)
    (IsCharBoundary-at_seam text passed.front rest passed.split passed.rest_utf8)

pub returns : goal.returns
returns c =
    let passed = c.past_plain-rest.ensures in
    let text = c.args.text.now in
    let front = passed.front in
    let rest = c.past_plain-rest.result.now in
    let escaping = c.args.escaping in
    let all : chars text ≡ chars front ++ chars rest =
    ap chars passed.split ∙ chars-append front rest passed.front_utf8 in
    let pushed : c.range.result.now ≡ front =
    (simp unary_clauses at c.range.ensures.value) ∙ front_taken text front rest passed.split in
    record {
      agrees = rw (
        c.in_ok-push_str.ensures.added,
        pushed,
        all,
        append_assoc,
        escaped_plain escaping (chars front) (chars rest) passed.plain,
      ) refl;
      clean = λ span. sym (ap (text_faults escaping span) all
          ∙ faults_plain escaping span (chars front) (chars rest) passed.plain);
      rest_utf8 = passed.rest_utf8;
      left = omega (arith, ap length passed.split, length-append front rest);
    }
