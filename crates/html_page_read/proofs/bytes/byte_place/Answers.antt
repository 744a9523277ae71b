use Rattle.std.proofs.Common.{◌≡◌, ℕ, chars, length, take, string_bytes, Ok, sym, ap, ◌∙◌}
use Rattle.std.proofs.lemmas.Str.{encodes-chars, IsUtf8-string_bytes}
use lib.Utf8.{encodes}
use Rattle.html_page_encoding.specs.Decoded.{decoded}
use Rattle.html_page_read.specs.PagePlaces.{place_at}
use Rattle.html_text.specs.declared.place.Place.{Place}
use Rattle.html_page_read.proofs.bytes.byte_place.Goals as goal

abbrev with_offset : ℕ → Place → Place
with_offset n p = record p { offset = n }

pub returns : goal.returns
returns c =
    let e = c.args.encoding in
    let n = c.args.offset in
    let page = c.args.page.now in
    let bytes = string_bytes c.in-Ok.text in
    let found : decoded e (take n page) ≡ Ok (chars bytes) =
    sym (ap (decoded e) c.front.ensures) ∙ c.in-Ok.ensures.made in
    let long : length bytes ≡ length (encodes (chars bytes)) =
    ap length (sym (encodes-chars bytes (IsUtf8-string_bytes c.in-Ok.text))) in
    let place : c.place_at-line.result ≡ place_at (chars bytes) (length (encodes (chars bytes))) =
    c.place_at-line.ensures ∙ (ap (λ t. place_at (chars t) (length t)) c.as_str-text.ensures.value
    ∙ ap (place_at (chars bytes)) long) in
    rw found (ap (with_offset n) place)
