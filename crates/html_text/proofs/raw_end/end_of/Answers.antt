use Rattle.std.proofs.Common.{◌≡◌, ◌+◌, ◌-◌, ◌≤◌, chars, sym, ap, ◌∙◌, length, arith, bytes_eq, drop, map, subst}
use Rattle.std.{proofs.lemmas.Bool.{false≢true, false_from_ne_true, and_right}, specs.Char.{to_ascii_lowercase}}
use Rattle.html_text.specs.ClosingTags as ending
use Rattle.html_text.{proofs.RawEnds.{by_characters, by_bytes, end_is}, proofs.TagNames.{name_is}, specs.RawEnds.{EndsAt}}
use Rattle.html_text.proofs.raw_end.end_of.Goals as goal

pub returns-then-text-closing : goal.returns-then-text-closing
returns-then-text-closing c =
    let same = ap length (name_is c.args.name.now c.utf8.name c.requires) in
    and_right (ending.is_tag_end c.args.c) _ (false_from_ne_true _ (λ e.
    let long = (by_characters (chars c.args.name.now) c.args.text.now c.requires c.utf8.text e).0 in
    omega (arith, same, long)))

pub returns-then-not-is_closing : goal.returns-then-not-is_closing
returns-then-not-is_closing c =
    let bytes = c.args.name.now in
    let text = c.args.text.now in
    let own = name_is bytes c.utf8.name c.requires in
    let name = chars bytes in
    let begin = length text - (length bytes + 2) in
    let end = end_is text c.as_bytes.result.now begin c.as_bytes.ensures.value in
    let same : begin ≡ length text - (length name + 2) =
    ap (λ n. length text - (length n + 2)) own in
    and_right (ending.is_tag_end c.args.c) _ (false_from_ne_true _ (λ e.
    let found = (by_characters name text c.requires c.utf8.text e).1 in
    false≢true (sym c.if-not-is_closing.true ∙ c.is_closing.ensures.1
    (ap (map to_ascii_lowercase) end ∙ (ap (λ k. map to_ascii_lowercase (drop k text)) same
    ∙ (found ∙ sym (ap ending.closing (c.as_bytes-2.ensures.value ∙ own))))))))

pub returns : goal.returns
returns c =
    let bytes = c.args.name.now in
    let text = c.args.text.now in
    let own = name_is bytes c.utf8.name c.requires in
    let name = chars bytes in
    let begin = length text - (length bytes + 2) in
    let end = end_is text c.as_bytes.result.now begin c.as_bytes.ensures.value in
    let same : begin ≡ length text - (length name + 2) =
    ap (λ n. length text - (length n + 2)) own in
    let fits : length name + 2 ≤ length text = omega (arith, ap length own) in
    let is : map to_ascii_lowercase (drop begin text) ≡ ending.closing name =
    sym (ap (map to_ascii_lowercase) end) ∙ (c.is_closing.ensures.0 c.if-not-is_closing.false
    ∙ ap ending.closing (c.as_bytes-2.ensures.value ∙ own)) in
    let exact : c.eq.result ≡ bytes_eq (drop 2 (drop begin text)) name =
    c.eq.ensures ∙ (ap (λ l. bytes_eq l c.as_bytes-3.result.now)
    (end_is (drop begin text) _ 2 end)
    ∙ ap (bytes_eq (drop 2 (drop begin text))) (c.as_bytes-3.ensures.value ∙ own)) in
    subst (λ k. EndsAt name text c.args.c (k, c.eq.result)) (sym same)
    (by_bytes name text c.requires c.utf8.text fits
    (ap (λ k. map to_ascii_lowercase (drop k text)) (sym same) ∙ is) c.args.c
    (sym c.is_tag_end.ensures ∙ c.if-not-is_tag_end.false) c.eq.result
    (exact ∙ ap (λ k. bytes_eq (drop 2 (drop k text)) name) same))
