use Rattle.std.proofs.Common.{◌≡◌, ◌++◌, codes, take, string_bytes, refl, ◌∙◌, sym, append_assoc, arith}
use Rattle.std.proofs.lemmas.{Grind.{put_four}, List.{take_all}}
use Rattle.html_values_css.proofs.Styles.{following_bytes, inline_is}
use Rattle.html_values_css.proofs.inline.InlineDisplay.fmt.Goals as goal

pub returns-clause-writes : goal.returns-clause-writes
returns-clause-writes g c =
    let first = c.in-Some.first.now in
    let others = c.in-Some.others.now in
    let name = c.as_str.ensures.value in
    let value = c.as_str-2.ensures.value in
    let all : take c.loop-property.property-index others ≡ others =
    take_all c.loop-property.property-index others
    (omega (arith, c.loop-property-test.false, c.loop-property.auto.property-index-end)) in
    rw (inline_is c.args.self.now.0.now, c.in-Some.ensures.cases.0) (λ plain ok.
    let one = c.in_ok-write_str.ensures.writes plain refl in
    let two = c.in_ok-write_str-2.ensures.writes one.plain refl in
    let three = c.in_ok-write_str-3.ensures.writes two.plain refl in
    let rest = rw all at (c.loop-property.invariant three.plain) in
    put_four g.W.Write.write_str_gives _ _ _ _ _ _ _ _ _ _ one two three rest
    (rw (name, value) (sym (append_assoc (string_bytes first.name ++ codes ": ")
    (string_bytes first.value) (following_bytes others)
    ∙ append_assoc (string_bytes first.name) (codes ": ")
    (string_bytes first.value ++ following_bytes others)))))
