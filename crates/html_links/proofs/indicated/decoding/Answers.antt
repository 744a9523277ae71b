use Rattle.std.{proofs.Common.{◌≡◌, IfOk, string_bytes, ap, subst, ◌∙◌}, specs.Str.Lossy.{utf8_lossy}}
use Rattle.percent_encoding.specs.Percent.{percent_decode}
use Rattle.html_links.specs.Indicated.{decoding}
use Rattle.html_links.proofs.indicated.decoding.Goals as goal

pub returns : goal.returns
unfolding decoding
returns c =
    subst (λ bs. IfOk c.into_owned.result (λ text. string_bytes text ≡ bs))
    (c.in_ok-decoded.ensures.exact
    ∙ ap utf8_lossy (c.percent_decode.ensures.bytes ∙ ap percent_decode c.as_bytes.ensures.value))
    c.into_owned.ensures.ok
