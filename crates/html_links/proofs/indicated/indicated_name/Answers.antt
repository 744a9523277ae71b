use Rattle.std.proofs.Common.{◌≡◌, Some, true, false, chars, length, string_bytes, sym, ap, ◌∙◌, rules}
use Rattle.html_links.proofs.TakenFragments.{indicated_as_decoded, indicated_as_it_is, none_indicated}
use Rattle.html_links.specs.{Indicated.{decoding, if_place, indicated_name, url_fragment}, UsedNames.{used_in}}
use Rattle.html_links.proofs.indicated.indicated_name.Goals as goal

pub returns-then-is_empty : goal.returns-then-is_empty
unfolding indicated_name
returns-then-is_empty c =
    let none : length (string_bytes c.in_ok-as_it_is.as_it_is) ≡ 0 = search rules in
    none_indicated (used_in c.args.places.now) (url_fragment (chars c.args.fragment.now))
    (ap length (sym c.in_ok-as_it_is.ensures.bytes) ∙ none)

pub returns-then-is_used : goal.returns-then-is_used
unfolding indicated_name
returns-then-is_used c =
    let places = used_in c.args.places.now in
    let some : length (string_bytes c.in_ok-as_it_is.as_it_is) ≡ 0 → ⊥ = search rules in
    let found : c.is_used.result ≡ true = search rules in
    ap Some c.in_ok-as_it_is.ensures.text
    ∙ indicated_as_it_is places (url_fragment (chars c.args.fragment.now))
    (λ e. some (ap length c.in_ok-as_it_is.ensures.bytes ∙ e))
    (ap places (sym c.in_ok-as_it_is.ensures.text) ∙ (sym c.is_used.ensures ∙ found))

pub returns : goal.returns
unfolding indicated_name
returns c =
    let places = used_in c.args.places.now in
    let some : length (string_bytes c.in_ok-as_it_is.as_it_is) ≡ 0 → ⊥ = search rules in
    let lost : c.is_used.result ≡ false = search rules in
    c.if_place.ensures
    ∙ (ap (λ bs. if_place places (chars bs))
    (c.in_ok-decoded.ensures ∙ ap decoding (c.as_str.ensures.value ∙ c.in_ok-as_it_is.ensures.bytes))
    ∙ indicated_as_decoded places (url_fragment (chars c.args.fragment.now))
    (λ e. some (ap length c.in_ok-as_it_is.ensures.bytes ∙ e))
    (ap places (sym c.in_ok-as_it_is.ensures.text) ∙ (sym c.is_used.ensures ∙ lost)))
