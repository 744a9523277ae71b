-- Steps of the reader at which more than one test decides.
use Rattle.std.proofs.Common.{◌≡◌, ℕ, true, false, List, [], ◌∷◌, ◌++◌, None, String, Global, string_bytes, eqb, length, refl, sym, ap, ◌∙◌, ne_eqb, eq-eqb}
use Rattle.std.proofs.lemmas.Str.{encodes-chars, IsUtf8-string_bytes}
use lib.Utf8.{encodes}
use Rattle.html_names_core.specs.{Characters.{is_tag_char, is_attr_char}, Names.{attr_fault}}
use Rattle.html_dom_tree.specs.{PlainTree.{no_plains}, Tree.{TextPair}, Views.{text_view}}
use Rattle.html_text.specs.ClosingTags.{is_tag_end, ends_closing, ends_exact, before_closing}
use Rattle.typst_html_encode.specs.Reader.{Open, AttrName, EndName, Raw, Stop, with_text, complete, after, close, step}
use Rattle.typst_html_read.specs.LimitedReading.{ends_at, next_state}

-- an attribute without a value
pub attr_step : (name : List ℕ) (attrs : List TextPair) (attr : List ℕ) (stack : List Open)
    (c : ℕ) → is_attr_char c ≡ false → attr_fault attr ≡ None → (c ≡ 61 → ⊥) →
    after name (attrs ++ (attr, []) ∷ []) stack c ≡ next_state (AttrName name attrs attr stack) c
attr_step name attrs attr stack c h k m =
    let other : eqb c 61 ≡ false = ne_eqb c 61 m in rw (h, k, other) refl

-- an exact closing tag of a raw element
pub raw_step : (name : List ℕ) (attrs : List TextPair) (text : List ℕ) (stack : List Open) (c : ℕ) →
    is_tag_end c ≡ true → ends_closing name text ≡ true → c ≡ 62 → ends_exact name text ≡ true →
    complete name attrs (with_text (before_closing name text) no_plains) stack
    ≡ step (Raw name attrs text stack) c
raw_step name attrs text stack c h k m e =
    let last : eqb c 62 ≡ true = eq-eqb c 62 m in rw (h, k, last, e) refl

-- a character in the name of an end tag

end_place : (word : String Global) (bytes : List ℕ) → bytes ≡ string_bytes word →
    length (encodes (text_view word)) ≡ length bytes
end_place word bytes e =
    ap length (encodes-chars (string_bytes word) (IsUtf8-string_bytes word) ∙ sym e)

module _ (word : String Global) (stack : List Open) (bytes : List ℕ) (c : ℕ)
    (e : bytes ≡ string_bytes word) where
  pub end_stops : ends_at stack (length bytes) c ≡ false → Stop ≡ next_state (EndName (text_view word) stack) c
  end_stops h = rw (end_place word bytes e, h) refl

  pub end_more : ends_at stack (length bytes) c ≡ true → is_tag_char c ≡ true →
      EndName (text_view word ++ c ∷ []) stack ≡ next_state (EndName (text_view word) stack) c
  end_more h k = rw (end_place word bytes e, h, k) refl

  pub end_closes : ends_at stack (length bytes) c ≡ true → is_tag_char c ≡ false → c ≡ 62 →
      close (text_view word) stack ≡ next_state (EndName (text_view word) stack) c
  end_closes h k m =
      let last : eqb c 62 ≡ true = eq-eqb c 62 m in rw (end_place word bytes e, h, k, last) refl
