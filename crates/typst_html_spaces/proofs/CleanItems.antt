-- Clean items of plain flow become nodes without a fault.
use Rattle.std.proofs.Common.{◌≡◌, ℕ, true, false, ◌||◌, List, [], ◌∷◌, Option, None, Some, inl, inr, refl, ◌∙◌, sym, codes}
use Rattle.std.proofs.lemmas.Bool.{cases_Bool, false≢true, and_parts, or_cases}
use Rattle.html_names_core.specs.{Characters.{all, is_text_char}, Kinds.{is_void}, Names.{stands_in}}
use Rattle.html_flow_convert.specs.Converted.{RoleText, item_role, passes_role, role_pairs, element_head, body_level, body_whitespace, body_role, text_item_nodes, body_nodes, converted_nodes}
use Rattle.html_flow_convert.specs.{Items.{RoleView, inherits, sets, unsets, ElemHead, BodyView, absent, present}, Nodes.{is_one}}
use Rattle.html_flow_convert.specs.Pieces.{PieceView, stretch, alone, line_break, is_in_stretch, in_stretch, pieces_after, piece_node}
use Rattle.html_flow_convert.specs.declared.convert.{ConversionLevel.{ConversionLevel}, Whitespace.{Whitespace}}
use Rattle.html_flow_convert.specs.declared.convert.{ConversionLevel.TheVariants.{Block}, Whitespace.TheVariants.{Normal, Pre}}
use Rattle.typst_html_spaces.proofs.Anchored.{span_is_not_void}
use Rattle.typst_html_spaces.proofs.CleanNodes.{clean_values-append, made_clean, styled_are_clean, plain_clean}
use Rattle.typst_html_spaces.proofs.{DeepNodes.{Known, HoldsOfItems, of_converted, HoldsOnTheWay}, Each.{Each, Each-map}}
use Rattle.typst_html_spaces.proofs.{MadeHeads.{stands_for_block}, MadeNodes.{break_made, wrap_made, block_made}}
use Rattle.typst_html_spaces.proofs.{PlainParts.{plain_head as plain_parts, element_made}, ReadyRuns.{one_char}, TextPieces.{each_outside}}
use Rattle.typst_html_spaces.specs.CleanItems.{is_clean_role, is_absent, is_clean_item, are_clean_items, is_clean_body, CleanItemsMakeCleanNodes}
use Rattle.typst_html_spaces.specs.{CleanNodes.{is_clean_text, are_clean_values, IsCleanText}, DeepNodes.{is_empty, HoldsOf}}
use Rattle.typst_html_spaces.specs.PlainFlow.{is_plain_item, are_plain_items, is_plain_body}

div_is_not_void : is_void (codes "div") ≡ false
unfolding is_void stands_in
div_is_not_void = refl

clean_blank : (s : List ℕ) → (is_one 32 s || is_one 9 s) ≡ true → IsCleanText true s
clean_blank s e = elim (or_cases _ _ e) [
  | inl f ↦ rw (one_char 32 s f) (refl, λ t. refl)
  | inr f ↦ rw (one_char 9 s f) (refl, λ t. refl)
]

clean_way : HoldsOnTheWay made_clean
clean_way = record {
  wrap = λ span b. record {
    made = wrap_made span;
    values = refl;
    void = λ e. absurd (false≢true (sym span_is_not_void ∙ e));
  };
  blank = clean_blank;
  line = λ span. record { made = break_made span; values = refl; void = λ e. refl };
  block = λ span b. record {
    made = block_made span;
    values = refl;
    void = λ e. absurd (false≢true (sym div_is_not_void ∙ e));
  };
  lone = λ h kids change c e. record {
    made = (stands_for_block h kids change c.made e).made;
    values = c.values;
    void = c.void;
  };
}

-- texts

abbrev CleanPiece : PieceView → Type 0
CleanPiece (stretch s) = all is_text_char s ≡ true
CleanPiece (alone c) = is_text_char c ≡ true
CleanPiece line_break = Unit {0}

clean_in_stretch : (c : ℕ) (ps : List PieceView) → is_text_char c ≡ true → Each CleanPiece ps →
    Each CleanPiece (in_stretch c ps)
clean_in_stretch c (stretch s ∷ ps) e r = (rw e (r.0), r.1)
clean_in_stretch c ps e r = (rw e refl, r)

clean_pieces : (before : Option ℕ) (cs : List ℕ) → all is_text_char cs ≡ true →
    Each CleanPiece (pieces_after before cs)
unfolding pieces_after
clean_pieces before [] e = tt
clean_pieces before (c ∷ cs) e =
    let both = and_parts _ _ e in
    let others = clean_pieces (Some c) cs both.1 in
    elim (cases_Bool (is_in_stretch before c cs)) [
      | inl f ↦ rw f (clean_in_stretch c (pieces_after (Some c) cs) both.0 others)
      | inr f ↦ rw f (each_outside CleanPiece before c (pieces_after (Some c) cs) tt (λ g k. both.0)
          others)
    ]

clean_piece : (span : ℕ) (p : PieceView) → CleanPiece p → HoldsOf made_clean false (piece_node span p)
clean_piece span (stretch s) r = plain_clean s r
clean_piece span (alone c) r = plain_clean (c ∷ []) (rw r refl)
clean_piece span line_break r = (clean_way.line span, tt)

clean_text : (whitespace : Whitespace) (s : List ℕ) (span : ℕ) → all is_text_char s ≡ true →
    Each (HoldsOf made_clean false) (text_item_nodes whitespace s span)
clean_text Pre s span e = (plain_clean s e, tt)
clean_text Normal s span e = Each-map CleanPiece (HoldsOf made_clean false) (piece_node span) (clean_piece span)
    (pieces_after None s) (clean_pieces None s e)

-- elements

clean_role_pairs : (role : RoleText) → is_clean_text role ≡ true →
    are_clean_values (role_pairs role) ≡ true
clean_role_pairs None e = refl
clean_role_pairs (Some text) e = rw e refl

clean_attrs : (role : RoleText) (h : ElemHead) → is_clean_text role ≡ true →
    are_clean_values h.attrs ≡ true → are_clean_values (element_head role h).attrs ≡ true
clean_attrs role h r e = elim (cases_Bool (passes_role h.name)) [
  | inl t ↦ rw t e
  | inr t ↦ rw t (clean_values-append h.attrs (role_pairs role) e (clean_role_pairs role r))
]

clean_body_role : (role : RoleText) (h : ElemHead) → is_clean_text role ≡ true →
    is_clean_text (body_role role h) ≡ true
clean_body_role role h e = elim (cases_Bool (passes_role h.name)) [
  | inl t ↦ rw t e
  | inr t ↦ rw t refl
]

clean_item_role : (role : RoleText) (own : RoleView) → is_clean_text role ≡ true →
    is_clean_role own ≡ true → is_clean_text (item_role role own) ≡ true
clean_item_role role inherits e f = e
clean_item_role role (sets text) e f = f
clean_item_role role unsets e f = refl

absent_is_empty : (level : ConversionLevel) (whitespace : Whitespace) (role : RoleText)
    (body : BodyView) → is_absent body ≡ true → is_empty (body_nodes level whitespace role body) ≡ true
unfolding body_nodes
absent_is_empty level whitespace role absent e = refl
absent_is_empty level whitespace role (present items) e = absurd (false≢true e)

-- items

abbrev clean_flow : Known
clean_flow = record {
  item = λ s role i. (is_clean_text role ≡ true) × (is_plain_item s i ≡ true)
      × (is_clean_item i ≡ true);
  items = λ s role items. (is_clean_text role ≡ true) × (are_plain_items s items ≡ true)
      × (are_clean_items items ≡ true);
  body = λ s role body. (is_clean_text role ≡ true) × (is_plain_body s body ≡ true)
      × (is_clean_body body ≡ true);
}

clean_items : HoldsOfItems made_clean clean_flow
unfolding is_plain_item is_clean_item
clean_items = record {
  tag = λ s role t c. c.2;
  element = λ s role h body c.
      let plain = and_parts _ _ c.1 in
      let both = and_parts _ _ c.2 in
      let own = and_parts _ _ both.0 in (
        record {
          made = element_made role h (plain_parts h plain.0);
          values = clean_attrs role h c.0 own.0;
          void = λ v. absent_is_empty (body_level h) (body_whitespace s h) (body_role role h) body
              (rw v at own.1);
        },
        (clean_body_role role h c.0, plain.1, both.1),
      );
  space = plain_clean (32 ∷ []) refl;
  text = λ s role t span c. clean_text s t span c.2;
  feed = plain_clean (10 ∷ []) refl;
  box = λ s role body span c. absurd (false≢true c.1);
  block = λ s role body span c. (c.0, (and_parts _ _ c.1).1, c.2);
  frame = λ s role f c. false≢true c.1;
  first = λ s role i own items c.
      let plain = and_parts _ _ c.1 in
      let both = and_parts _ _ c.2 in
      let one = and_parts _ _ both.0 in
      ((clean_item_role role own c.0 one.0, plain.0, one.1), (c.0, plain.1, both.1));
  inside = λ s role items c. c;
}

pub clean_items_make_clean_nodes : CleanItemsMakeCleanNodes
clean_items_make_clean_nodes role items r e c =
    styled_are_clean (converted_nodes Block Normal role items)
    (of_converted made_clean clean_way clean_flow clean_items Block Normal role items (r, e, c))
