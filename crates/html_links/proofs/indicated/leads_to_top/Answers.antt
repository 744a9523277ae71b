use Rattle.std.proofs.Common.{◌≡◌, chars, length, string_bytes, sym, ap, ◌∙◌, rules}
use Rattle.html_links.{proofs.TakenFragments.{decoded_leads, empty_leads}, specs.Indicated.{decoding, is_top, url_fragment}}
use Rattle.html_links.proofs.indicated.leads_to_top.Goals as goal

pub returns-then-is_empty : goal.returns-then-is_empty
returns-then-is_empty c =
    let none : length (string_bytes c.in_ok-fragment.fragment) ≡ 0 = search rules in
    empty_leads (url_fragment (chars c.args.fragment.now))
    (ap length (sym c.in_ok-fragment.ensures.bytes) ∙ none)

pub returns : goal.returns
returns c =
    let some : length (string_bytes c.in_ok-fragment.fragment) ≡ 0 → ⊥ = search rules in
    c.is_top.ensures
    ∙ (ap is_top (c.as_str-2.ensures.value
    ∙ (c.in_ok-decoded.ensures ∙ ap decoding (c.as_str.ensures.value ∙ c.in_ok-fragment.ensures.bytes)))
    ∙ decoded_leads (url_fragment (chars c.args.fragment.now))
    (λ e. some (ap length c.in_ok-fragment.ensures.bytes ∙ e)))
