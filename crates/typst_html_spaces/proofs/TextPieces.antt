-- The pieces of a text, and what is done to a list of nodes, don't change what is seen.
use Rattle.std.proofs.Common.{◌≡◌, ℕ, true, false, ◌==◌, List, [], ◌∷◌, ◌++◌, map, Option, None, Some, inl, inr, refl, ap, ◌∙◌, arith, append-nil}
use Rattle.std.proofs.lemmas.{Bool.{cases_Bool, and_parts, or_cases, not-true}, Bool.Decides.{nat_tests}}
use Rattle.html_names_core.specs.{Characters.{is_blank, is_ignorable}, Names.{stands_in}}
use Rattle.html_dom_tree.specs.{Tree.{NodeView}, Views.{nodes_of}}
use Rattle.html_dom_shown.specs.Collapsing.{Piece, char, line}
use Rattle.html_flow_convert.specs.{BareSpaces.{bare_spaces}, Converted.{list_nodes, text_item_nodes, break_item_node}, Nodes.{break_node}}
use Rattle.html_flow_convert.specs.Pieces.{PieceView, stretch, alone, line_break, is_normal, is_in_stretch, in_stretch, is_carriage_return, outside_stretch, pieces_after, piece_node}
use Rattle.html_flow_convert.specs.Runs.{nodes_with_runs}
use Rattle.html_flow_convert.specs.declared.convert.{ConversionLevel.{ConversionLevel}, Whitespace.{Whitespace}}
use Rattle.html_flow_convert.specs.declared.convert.{ConversionLevel.TheVariants.{Block, Inline}, Whitespace.TheVariants.{Normal, Pre}}
use Rattle.typst_html_spaces.proofs.{Changed.{protected_is_changed}, Each.{Each}}
use Rattle.typst_html_spaces.proofs.{OwnPieces.{node_pieces, nodes_pieces, list_pieces, wraps_pieces}, Runs.{runs_pieces}}
use Rattle.typst_html_spaces.specs.ItemText.{chars_by_line, text_pieces, break_piece}

pub break_node_pieces : (span : ℕ) → node_pieces (break_node span) ≡ line ∷ []
unfolding stands_in
break_node_pieces span = refl

-- in a stretch stands no carriage return and no line feed

pub normal_parts : (c : ℕ) → is_normal c ≡ true → (is_blank c ≡ false) × (is_ignorable c ≡ false)
normal_parts c e =
    let both = and_parts _ _ e in
    (not-true _ both.0, not-true _ both.1)

no_blank : (c : ℕ) → is_blank c ≡ false → ((c == 13) ≡ false) × ((c == 10) ≡ false)
no_blank c e = (grind (arith, nat_tests), grind (arith, nat_tests))

no_return : (c : ℕ) → (c == 32) ≡ true → ((c == 13) ≡ false) × ((c == 10) ≡ false)
no_return c e = (grind (arith, nat_tests), grind (arith, nat_tests))

pub in_stretch_no_line : (before : Option ℕ) (c : ℕ) (after : List ℕ) →
    is_in_stretch before c after ≡ true → ((c == 13) ≡ false) × ((c == 10) ≡ false)
in_stretch_no_line before c after e =
    elim (or_cases _ _ e) [
      | inl f ↦ no_blank c (normal_parts c f).0
      | inr f ↦ no_return c (and_parts _ _ (and_parts _ _ f).0).0
    ]

-- pieces behind a character outside of stretches

pub each_outside : (P : PieceView → Type 0) (before : Option ℕ) (c : ℕ) (ps : List PieceView) →
    P line_break → ((c == 13) ≡ false → (c == 10) ≡ false → P (alone c)) → Each P ps →
    Each P (outside_stretch before c ps)
each_outside P before c ps broken other r = elim (cases_Bool (c == 13)) [
  | inl e ↦ rw e (broken, r)
  | inr e ↦ elim (cases_Bool (c == 10)) [
    | inl f ↦ elim (cases_Bool (is_carriage_return before)) [
      | inl g ↦ rw (e, f, g) r
      | inr g ↦ rw (e, f, g) (broken, r)
    ]
    | inr f ↦ rw (e, f) (other e f, r)
  ]
]

-- the nodes of pieces

abbrev seen : (span : ℕ) → List PieceView → List Piece
seen span ps = list_pieces (map (piece_node span) ps)

in_stretch_seen : (span c : ℕ) (ps : List PieceView) →
    seen span (in_stretch c ps) ≡ char c ∷ seen span ps
in_stretch_seen span c (stretch s ∷ ps) = refl
in_stretch_seen span c ps = refl

break_seen : (span : ℕ) (ps : List PieceView) → seen span (line_break ∷ ps) ≡ line ∷ seen span ps
break_seen span ps = ap (λ qs. qs ++ seen span ps) (break_node_pieces span)

pieces_seen : (span : ℕ) (before : Option ℕ) (cs : List ℕ) →
    seen span (pieces_after before cs) ≡ chars_by_line (is_carriage_return before) cs
unfolding pieces_after
pieces_seen span before [] = refl
pieces_seen span before (c ∷ cs) =
    let others = pieces_after (Some c) cs in
    let more : seen span others ≡ chars_by_line (c == 13) cs = pieces_seen span (Some c) cs in
    elim (cases_Bool (is_in_stretch before c cs)) [
      | inl e ↦
          let plain = in_stretch_no_line before c cs e in
          rw (e, plain.0, plain.1) (in_stretch_seen span c others
          ∙ ap (λ ps. char c ∷ ps) (more ∙ ap (λ b. chars_by_line b cs) plain.0))
      | inr e ↦ elim (cases_Bool (c == 13)) [
        | inl f ↦ rw (e, f) (break_seen span others
            ∙ ap (λ ps. line ∷ ps) (more ∙ ap (λ b. chars_by_line b cs) f))
        | inr f ↦
            let on : seen span others ≡ chars_by_line false cs =
            more ∙ ap (λ b. chars_by_line b cs) f in
            elim (cases_Bool (c == 10)) [
              | inl g ↦ elim (cases_Bool (is_carriage_return before)) [
                | inl h ↦ rw (e, f, g, h) on
                | inr h ↦ rw (e, f, g, h) (break_seen span others ∙ ap (λ ps. line ∷ ps) on)
              ]
              | inr g ↦ rw (e, f, g) (ap (λ ps. char c ∷ ps) on)
            ]
      ]
    ]

pub text_item_pieces : (whitespace : Whitespace) (s : List ℕ) (span : ℕ) →
    list_pieces (text_item_nodes whitespace s span) ≡ text_pieces whitespace s
text_item_pieces Normal s span = pieces_seen span None s
text_item_pieces Pre s span = append-nil (map char s)

pub break_item_pieces : (whitespace : Whitespace) (span : ℕ) →
    node_pieces (break_item_node whitespace span) ≡ break_piece whitespace ∷ []
break_item_pieces Normal span = break_node_pieces span
break_item_pieces Pre span = refl

-- what is done to the nodes of a list

pub list_nodes_pieces : (level : ConversionLevel) (whitespace : Whitespace) (ns : List NodeView) →
    nodes_pieces (list_nodes level whitespace ns) ≡ list_pieces ns
list_nodes_pieces level Pre ns = refl
list_nodes_pieces Inline Normal ns = runs_pieces ns
list_nodes_pieces Block Normal ns =
    let runs = nodes_of (nodes_with_runs ns) in
    wraps_pieces (protected_is_changed runs (bare_spaces runs)) ∙ runs_pieces ns
