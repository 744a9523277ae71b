use Rattle.std.proofs.Common.{◌≡◌, IfOk, chars, string_bytes, subst, ◌∙◌}
use Rattle.html_links.{proofs.TakenFragments.{in_characters}, specs.Indicated.{decoding, url_fragment}}
use Rattle.html_links.proofs.indicated.decoded_name.Goals as goal

pub returns : goal.returns
returns c =
    in_characters c.decoding.result (decoding (url_fragment (chars c.args.fragment.now)))
    (subst (λ f. IfOk c.decoding.result (λ text. string_bytes text ≡ decoding f))
    (c.as_str.ensures.value ∙ c.in_ok-fragment.ensures.bytes) c.decoding.ensures)
