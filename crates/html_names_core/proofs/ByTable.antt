-- The tables by number against the definitions by lists.
use Rattle.std.proofs.Common.{◌≡◌, ℕ, zero, suc, ◌<◌, Bool, true, false, List, [], ◌∷◌, refl, sym, chars, length, get_or, arith, map, string_bytes, None}
use Rattle.std.{proofs.lemmas.Bool.{and_parts}, specs.List.{list_all}}
use Rattle.html_names_core.{proofs.Ascending.{differs}, specs.ByNumber.{has_kind, name_has, name_display}, specs.Characters.{is_tag_char}}
use Rattle.html_names_core.specs.{Displays.{Row, first_row, rows, default_display}, Held.{held_text, IsHeld}}
use Rattle.html_names_core.specs.Kinds.{is_void, void_names, is_raw, raw_names, is_escapable_raw, escapable_raw_names, is_foreign_self_closing, foreign_self_closing_names, is_mathml, mathml_names, is_token, token_names, is_metadata_content, metadata_content_names, is_sectioning_content, sectioning_content_names, is_heading_content, heading_content_names, is_phrasing_content, phrasing_content_names, is_flow_beside_phrasing, flow_beside_phrasing_names, is_not_palpable, not_palpable_names, is_embedded_content, embedded_content_names, is_interactive_content, interactive_content_names, is_script_supporting_element, script_supporting_element_names, is_replaced, replaced_names, line_break_names, is_line_break}
use Rattle.html_names_core.specs.{Names.{stands_in}, Tables.{known_tags, tag_count}, declared.name.Name.{Name}}
use Rattle.html_names_core.specs.declared.{name.Name.TheVariants.{Known, Own}, table.TheConstants.{KINDS, DISPLAYS}}
use Rattle.html_names_core.specs.declared.table.kinds.TheConstants.{VOID, RAW, ESCAPABLE_RAW, FOREIGN_SELF_CLOSING, MATHML, TOKEN, METADATA, SECTIONING, HEADING, PHRASING, FLOW_BESIDE_PHRASING, NOT_PALPABLE, EMBEDDED, INTERACTIVE, SCRIPT_SUPPORTING, REPLACED, LINE_BREAK}

at_place : {A B C : Type 0} (f : A → C) (g : B → C) (as' : List A) (bs : List B) (a : A) (b : B)
    (n : ℕ) → map f as' ≡ map g bs → n < length bs → f (get_or as' n a) ≡ g (get_or bs n b)
at_place f g as' [] a b n e h = absurd (omega arith)
at_place f g [] (y ∷ ys) a b n e h = cc
at_place f g (x ∷ xs) (y ∷ ys) a b zero e h = cc
at_place f g (x ∷ xs) (y ∷ ys) a b (suc n) e h = at_place f g xs ys a b n (cc) (omega arith)

-- a text outside a list is outside each part of it
pub outside : (table list : List (List ℕ)) (t : List ℕ) → list_all (stands_in table) list ≡ true →
    stands_in table t ≡ false → stands_in list t ≡ false
unfolding stands_in
outside table [] t a h = refl
outside table (l ∷ ls) t a h = grind (arith, differs table l t, outside table ls t)

-- the table says of each known tag whether it is of the kind, as the test of its text does
abbrev pub HasKind : (kind : ℕ) → (test : List ℕ → Bool) → Type 0
HasKind kind test = (name : Name) → IsHeld tag_count known_tags is_tag_char name →
    name_has kind name ≡ test (held_text known_tags name)

by_table : (kind : ℕ) (list : List (List ℕ)) →
    map (has_kind kind) KINDS ≡ map (stands_in list) known_tags →
    list_all (stands_in known_tags) list ≡ true → length known_tags ≡ tag_count →
    HasKind kind (stands_in list)
by_table kind list e a l (Known n) h =
    at_place (has_kind kind) (stands_in list) KINDS known_tags 0 [] n e (omega (arith, l, h))
by_table kind list e a l (Own s) h = sym (outside known_tags list (chars (string_bytes s)) a h.1)

no_row : (table : List (List ℕ)) (rs : List Row) (t : List ℕ) →
    list_all (λ r. list_all (stands_in table) r.1) rs ≡ true → stands_in table t ≡ false →
    first_row rs t ≡ None
no_row table [] t a h = refl
no_row table (r ∷ rs) t a h =
    let both = and_parts (list_all (stands_in table) r.1)
    (list_all (λ r. list_all (stands_in table) r.1) rs) a in
    rw (outside table r.1 t both.0 h, first_row) (no_row table rs t both.1 h)

pub void_by_table : HasKind VOID is_void
unfolding is_void known_tags stands_in
void_by_table = by_table VOID void_names refl refl refl

pub raw_by_table : HasKind RAW is_raw
unfolding is_raw known_tags stands_in
raw_by_table = by_table RAW raw_names refl refl refl

pub escapable_raw_by_table : HasKind ESCAPABLE_RAW is_escapable_raw
unfolding is_escapable_raw known_tags stands_in
escapable_raw_by_table = by_table ESCAPABLE_RAW escapable_raw_names refl refl refl

pub foreign_self_closing_by_table : HasKind FOREIGN_SELF_CLOSING is_foreign_self_closing
unfolding is_foreign_self_closing known_tags stands_in
foreign_self_closing_by_table =
    by_table FOREIGN_SELF_CLOSING foreign_self_closing_names refl refl refl

pub mathml_by_table : HasKind MATHML is_mathml
unfolding is_mathml known_tags stands_in
mathml_by_table = by_table MATHML mathml_names refl refl refl

pub token_by_table : HasKind TOKEN is_token
unfolding is_token known_tags stands_in
token_by_table = by_table TOKEN token_names refl refl refl

pub metadata_content_by_table : HasKind METADATA is_metadata_content
unfolding is_metadata_content known_tags stands_in
metadata_content_by_table = by_table METADATA metadata_content_names refl refl refl

pub sectioning_content_by_table : HasKind SECTIONING is_sectioning_content
unfolding is_sectioning_content known_tags stands_in
sectioning_content_by_table = by_table SECTIONING sectioning_content_names refl refl refl

pub heading_content_by_table : HasKind HEADING is_heading_content
unfolding is_heading_content known_tags stands_in
heading_content_by_table = by_table HEADING heading_content_names refl refl refl

pub phrasing_content_by_table : HasKind PHRASING is_phrasing_content
unfolding is_phrasing_content known_tags stands_in
phrasing_content_by_table = by_table PHRASING phrasing_content_names refl refl refl

pub flow_beside_phrasing_by_table : HasKind FLOW_BESIDE_PHRASING is_flow_beside_phrasing
unfolding is_flow_beside_phrasing known_tags stands_in
flow_beside_phrasing_by_table =
    by_table FLOW_BESIDE_PHRASING flow_beside_phrasing_names refl refl refl

pub not_palpable_by_table : HasKind NOT_PALPABLE is_not_palpable
unfolding is_not_palpable known_tags stands_in
not_palpable_by_table = by_table NOT_PALPABLE not_palpable_names refl refl refl

pub embedded_content_by_table : HasKind EMBEDDED is_embedded_content
unfolding is_embedded_content known_tags stands_in
embedded_content_by_table = by_table EMBEDDED embedded_content_names refl refl refl

pub interactive_content_by_table : HasKind INTERACTIVE is_interactive_content
unfolding is_interactive_content known_tags stands_in
interactive_content_by_table = by_table INTERACTIVE interactive_content_names refl refl refl

pub script_supporting_element_by_table : HasKind SCRIPT_SUPPORTING
    is_script_supporting_element
unfolding is_script_supporting_element known_tags stands_in
script_supporting_element_by_table =
    by_table SCRIPT_SUPPORTING script_supporting_element_names refl refl refl

pub replaced_by_table : HasKind REPLACED is_replaced
unfolding is_replaced known_tags stands_in
replaced_by_table = by_table REPLACED replaced_names refl refl refl

pub line_break_by_table : HasKind LINE_BREAK is_line_break
unfolding known_tags stands_in
line_break_by_table = by_table LINE_BREAK line_break_names refl refl refl

pub display_by_table : (name : Name) → IsHeld tag_count known_tags is_tag_char name →
    name_display name ≡ default_display (held_text known_tags name)
unfolding default_display known_tags stands_in
display_by_table (Known n) h =
    at_place (λ d. d) default_display DISPLAYS known_tags None [] n refl h
display_by_table (Own s) h = sym (no_row known_tags rows (chars (string_bytes s)) refl h.1)
