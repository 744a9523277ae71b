-- Names are equal where they are held alike.
use Rattle.std.proofs.Common.{◌≡◌, ℕ, ◌<◌, ◌==◌, Bool, true, List, [], refl, sym, ◌∙◌, chars, length, get_or, arith, bytes_eq, string_bytes}
use Rattle.std.proofs.lemmas.Str.{IsUtf8-string_bytes}
use Rattle.html_names_core.proofs.{Ascending.{differs, places_differ, stands}, Basics.{bytes_eq-refl, bytes_eq-sym}}
use Rattle.html_names_core.proofs.{Held.{tag_long, attr_long}, Lists.{bytes_eq-chars}}
use Rattle.html_names_core.specs.{Characters.{is_tag_char, is_attr_char}, Held.{held_text, IsHeld, same_held}, Names.{rises}}
use Rattle.html_names_core.specs.{Tables.{known_tags, known_attrs, tag_count, attr_count}, declared.name.Name.{Name}}
use Rattle.html_names_core.specs.declared.name.Name.TheVariants.{Known, Own}

pub tags_rise : rises known_tags ≡ true
unfolding known_tags
tags_rise = refl

pub attrs_rise : rises known_attrs ≡ true
unfolding known_attrs
attrs_rise = refl

-- two places of an ascending table are one where their texts are
pub places : (table : List (List ℕ)) → rises table ≡ true → (m n : ℕ) → m < length table →
    n < length table → (m == n) ≡ bytes_eq (get_or table m []) (get_or table n [])
places table up m n h l =
    grind (
      arith,
      places_differ table up m n,
      places_differ table up n m,
      bytes_eq-refl,
      bytes_eq-sym (get_or table m []) (get_or table n []),
    )

module _ (count : ℕ) (table : List (List ℕ)) (p : ℕ → Bool) (up : rises table ≡ true)
    (long : length table ≡ count) where
  pub same_by : (x y : Name) → IsHeld count table p x → IsHeld count table p y →
      same_held x y ≡ bytes_eq (held_text table x) (held_text table y)
  same_by (Known m) (Known n) h l =
      places table up m n (omega (arith, long, h)) (omega (arith, long, l))
  same_by (Own s) (Own t) h l =
      let a = string_bytes s in
      let b = string_bytes t in
      sym (bytes_eq-chars a b (IsUtf8-string_bytes s) (IsUtf8-string_bytes t))
  same_by (Known m) (Own t) h l =
      sym (differs table _ (chars (string_bytes t)) (stands table m (omega (arith, long, h))) l.1)
  same_by (Own s) (Known n) h l =
      let text = chars (string_bytes s) in
      let differ = differs table _ text (stands table n (omega (arith, long, l))) h.1 in
      sym (bytes_eq-sym text (get_or table n []) ∙ differ)

pub tag_same : (x y : Name) → IsHeld tag_count known_tags is_tag_char x →
    IsHeld tag_count known_tags is_tag_char y →
    same_held x y ≡ bytes_eq (held_text known_tags x) (held_text known_tags y)
tag_same x y h l = same_by tag_count known_tags is_tag_char tags_rise tag_long x y h l

pub attr_same : (x y : Name) → IsHeld attr_count known_attrs is_attr_char x →
    IsHeld attr_count known_attrs is_attr_char y →
    same_held x y ≡ bytes_eq (held_text known_attrs x) (held_text known_attrs y)
attr_same x y h l = same_by attr_count known_attrs is_attr_char attrs_rise attr_long x y h l
