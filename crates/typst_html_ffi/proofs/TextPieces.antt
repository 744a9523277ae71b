-- What is appended to a text in pieces, and what is copied of one.
use Rattle.std.proofs.Common.{◌≡◌, ◌∙◌, sym, ap, ℕ, ◌+◌, ◌≤◌, ◌<◌, List, [], ◌∷◌, ◌++◌, Ok, String, drop, length, take, string_bytes, refl, arith, append_assoc}
use Rattle.std.proofs.lemmas.{Bool.{le-leb, lt-leb}, List.{append-nil, drop-drop, length-append, length-drop, take_at}}
use lib.Seq.{drop-append-add}
use Rattle.std.specs.declared.alloc.Global.{Global}
use Rattle.typst_html_ffi.specs.{CallReplies.{without_text}, LongTexts.{pieces_bytes, text_bytes}, PageReports.{Report, Reports, made}}
use Rattle.typst_html_ffi.specs.declared.{pieces.LongText.{LongText}, reply.Reply.{Reply}}

pub with_last_piece : (pieces : List (String Global)) (last : String Global) →
    pieces_bytes (pieces ++ last ∷ []) ≡ pieces_bytes pieces ++ string_bytes last
with_last_piece [] last = append-nil (string_bytes last)
with_last_piece (piece ∷ pieces) last =
    ap (λ bytes. string_bytes piece ++ bytes) (with_last_piece pieces last)
    ∙ sym (append_assoc (string_bytes piece) (pieces_bytes pieces) (string_bytes last))

pub appended : (text : LongText) (last : String Global) (bytes : List ℕ) →
    string_bytes last ≡ string_bytes text.last ++ bytes →
    text_bytes (record text { last = last }) ≡ text_bytes text ++ bytes
appended text last bytes is =
    let whole = pieces_bytes text.whole.items in
    ap (λ l. whole ++ l) is ∙ sym (append_assoc whole (string_bytes text.last) bytes)

-- a piece that is broken off stays in the text
pub broken_off : (text : LongText) (whole : List (String Global)) (piece last : String Global) →
    whole ≡ text.whole.items ++ piece ∷ [] → string_bytes piece ≡ string_bytes text.last →
    string_bytes last ≡ [] → pieces_bytes whole ++ string_bytes last ≡ text_bytes text
broken_off text whole piece last is same empty =
    let before = text.whole.items in
    ap (λ bytes. pieces_bytes whole ++ bytes) empty
    ∙ (append-nil (pieces_bytes whole)
    ∙ (ap pieces_bytes is
    ∙ (with_last_piece before piece ∙ ap (λ bytes. pieces_bytes before ++ bytes) same)))

-- one piece more is copied behind those that are in the buffer
module _ (first now written bytes : List ℕ) (at : ℕ)
    (held : now ≡ written ++ drop (length written) first) (end : at ≡ length written) where
  pub piece_fits : (all later : List ℕ) → length all ≤ length first →
      written ++ (bytes ++ later) ≡ all → at + length bytes ≤ length now
  piece_fits all later room is =
      let whole = ap length (sym is) ∙ length-append written (bytes ++ later) in
      let parts = length-append bytes later in
      let long = ap length held ∙ length-append written (drop (length written) first) in
      omega (arith, room, whole, parts, long, end, length-drop (length written) first)

  pub piece_copied : (new : List ℕ) →
      new ≡ take at now ++ (bytes ++ drop (at + length bytes) now) →
      new ≡ (written ++ bytes) ++ drop (length (written ++ bytes)) first
  piece_copied new is =
      let rest = drop (length written) first in
      let n = length bytes in
      is
      ∙ (ap (λ xs. take at xs ++ (bytes ++ drop (at + n) xs)) held
      ∙ (ap (λ k. take k (written ++ rest) ++ (bytes ++ drop (k + n) (written ++ rest))) end
      ∙ (ap (λ xs. xs ++ (bytes ++ drop (length written + n) (written ++ rest)))
      (take_at written rest (length written) refl)
      ∙ (ap (λ xs. written ++ (bytes ++ xs)) (drop-append-add written rest n
      ∙ (drop-drop n (length written) first ∙ ap (λ k. drop k first) (sym (length-append written bytes))))
      ∙ sym (append_assoc written bytes (drop (length (written ++ bytes)) first))))))

-- the reply for a text of that length, which fits, and for one which does not
module _ (report : Report) (bytes old : List ℕ) (n : ℕ) (reply : Reply) (new : List ℕ)
    (is : report ≡ Ok bytes) (long : n ≡ length bytes) where
  pub put_whole : n ≤ length old → reply ≡ record (without_text 0 0 0) { length = n } →
      new ≡ bytes ++ drop (length bytes) old → Reports report old reply new
  put_whole fits replied copied =
      let within = le-leb (length bytes) (length old) (rw long at fits) in
      made bytes is (rw (replied, long, within) refl) (rw (copied, within) refl)

  pub put_not : length old < n → reply ≡ record (without_text 4 0 0) { length = n } →
      new ≡ old → Reports report old reply new
  put_not past replied kept =
      let beyond = lt-leb (length bytes) (length old) (rw long at past) in
      made bytes is (rw (replied, long, beyond) refl) (rw (kept, beyond) refl)
