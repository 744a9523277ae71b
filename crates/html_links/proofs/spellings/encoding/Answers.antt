use Rattle.std.proofs.{Common.{◌≡◌, chars, string_bytes, refl, ap, ◌∙◌}, lemmas.Str.{chars-IsAscii}}
use Rattle.percent_encoding.{proofs.PercentLemmas.{IsAscii-percent_encode}, specs.Percent.{percent_encode}}
use Rattle.html_links.proofs.spellings.encoding.Goals as goal

pub returns : goal.returns
returns c =
    let bytes : string_bytes c.append_to.new.out ≡ percent_encode c.args.set c.args.text.now =
    rw (
      c.in_ok-append_to.ensures.ok,
      c.new-made.ensures.bytes,
      c.utf8_percent_encode.ensures.text,
    ) refl in
    ap chars bytes
    ∙ chars-IsAscii _ (IsAscii-percent_encode c.args.set c.args.text.now)
