use Rattle.std.proofs.{Common.{◌≡◌, [], chars, sym, ap, ◌∙◌}, lemmas.Str.{chars-IsAscii}}
use Rattle.html_page_read.proofs.{Fronts.{small_some}, PageStretches.{chars_some}}
use Rattle.html_page_read.specs.{PageReaderViews.{reading_of}, PageTokens.{TagName}}
use Rattle.html_text.proofs.Fronts.{name_ascii}
use Rattle.html_page_read.proofs.reader.Reader.begin_tag.Goals as goal

pub returns : goal.returns
returns c =
    let name = c.args.name.now in
    let same : chars name ≡ name = chars-IsAscii name (name_ascii name c.requires.names) in
    ap (λ d. record { state = TagName d; reading = reading_of c.pass.new.self })
    (c.in_ok-begin_named.ensures ∙ ap (λ n. record { is_end = c.args.is_end; name = n; attrs = [] }) same)
    ∙ ap (λ r. record {
      state = TagName (record { is_end = c.args.is_end; name = name; attrs = [] });
      reading = r;
    }) (c.pass.ensures
    ∙ sym (chars_some name (reading_of c.args.self.now.reading) (small_some name c.requires.small)))
