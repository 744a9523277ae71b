-- What pretty writing puts indents around or inside is a border in the nodes of plain flow.
use Rattle.std.proofs.Common.{◌≡◌, ◌⊎◌, ℕ, Bool, true, false, not, ◌||◌, List, Option, Some, inl, inr, refl, ap, ◌∙◌, sym, codes, bytes_eq, ◌&&◌}
use Rattle.std.{specs.List.{list_all}, proofs.lemmas.Bool.{both_ways, false≢true, and_parts, or_cases, not-true, false_from_ne_true}}
use Rattle.html_names_core.{proofs.Basics.{bytes_eq-same}, specs.Displays.{default_display}}
use Rattle.html_names_core.specs.Kinds.{is_replaced, is_mathml, mathml_names, is_token, is_metadata_content, metadata_content_names, shows_border}
use Rattle.html_names_core.specs.{Names.{stands_in}, declared.property.Display.{Display}}
use Rattle.html_names_core.specs.declared.property.Display.TheVariants as display
use Rattle.html_names_core.proofs.Basics.{implied}
use Rattle.html_dom_tree.specs.Styled.{styled_attrs, head_with_style, styled_node, styled_nodes}
use Rattle.html_dom_tree.specs.Tree.{Head, tag_node, text_node, element_node, frame_node, NodesView, none, node}
use Rattle.html_dom_shown.specs.Collapsing.{has_border_display}
use Rattle.typst_html_encode.specs.IndentsCollapse.{HeadIsEdged, NodesAreEdged}
use Rattle.typst_html_encode.specs.Layout.{is_of_lines, allows_pretty_inside, wants_pretty_around}
use Rattle.html_flow_convert.specs.{Converted.{RoleText, converted_nodes}, Items.{ItemsView}}
use Rattle.html_flow_convert.specs.{declared.convert.ConversionLevel.TheVariants.{Block}, declared.convert.Whitespace.TheVariants.{Normal}}
use Rattle.typst_html_spaces.proofs.MadeHeads.{MadeHead, head_style_is, wrap_preserves, is_wrap, is_away, plain_is_there, plain_is_no_math, listed_pass}
use Rattle.typst_html_spaces.proofs.{MadeNodes.{made, items_made}, ReadyElements.{plain_is_not_raw, pre_is_border}}
use Rattle.typst_html_spaces.specs.{DeepNodes.{HoldsOfAll}, PlainFlow.{is_plain_name, is_plain_flow}}

-- names

of_lines : (d : Option Display) → is_of_lines d ≡ true →
    (shows_border d ≡ true) ⊎ (is_away d ≡ true)
of_lines (Some display.TableColumn) e = inr refl
of_lines (Some display.TableColumnGroup) e = inr refl
of_lines d e = inl e

plain_lines : (name : List ℕ) → is_plain_name name ≡ true →
    is_of_lines (default_display name) ≡ true → has_border_display name ≡ true
plain_lines name p e = elim (of_lines (default_display name) e) [
  | inl f ↦ f
  | inr f ↦ absurd (false≢true (sym (plain_is_there name p) ∙ f))
]

plain_listed : (names : List (List ℕ)) →
    list_all (λ n. not (is_plain_name n) || has_border_display n) names ≡ true → (name : List ℕ) →
    is_plain_name name ≡ true → stands_in names name ≡ true → has_border_display name ≡ true
plain_listed names all name p e = implied _ _
    (listed_pass (λ n. not (is_plain_name n) || has_border_display n) names name all e) p

plain_mathml : (name : List ℕ) → is_plain_name name ≡ true → is_mathml name ≡ true →
    has_border_display name ≡ true
unfolding is_mathml is_plain_name is_replaced default_display stands_in
plain_mathml = plain_listed mathml_names refl

plain_metadata : (name : List ℕ) → is_plain_name name ≡ true → is_metadata_content name ≡ true →
    has_border_display name ≡ true
unfolding is_metadata_content is_plain_name is_replaced default_display stands_in
plain_metadata = plain_listed metadata_content_names refl

-- a fact of one name
of_name : (p : List ℕ → Bool) (name own : List ℕ) → p own ≡ true → bytes_eq name own ≡ true →
    p name ≡ true
of_name p name own e f = ap p (bytes_eq-same _ _ f) ∙ e

head_is_not_plain : (not (is_plain_name (codes "head")) || has_border_display (codes "head")) ≡ true
unfolding is_plain_name is_replaced default_display stands_in
head_is_not_plain = refl

plain_head : (name : List ℕ) → is_plain_name name ≡ true → bytes_eq name (codes "head") ≡ true →
    has_border_display name ≡ true
plain_head name p e = implied (is_plain_name name) (has_border_display name)
    (of_name (λ n. not (is_plain_name n) || has_border_display n) name (codes "head")
    head_is_not_plain e) p

pre_shuts : not (allows_pretty_inside (codes "pre")) ≡ true
unfolding allows_pretty_inside is_mathml is_token default_display stands_in
pre_shuts = refl

-- indents inside

inside_border : (name : List ℕ) → is_plain_name name ≡ true → allows_pretty_inside name ≡ true →
    has_border_display name ≡ true
unfolding allows_pretty_inside
inside_border name p e =
    elim (or_cases (is_mathml name && not (is_token name))
    ((is_of_lines (default_display name) && not (bytes_eq name (codes "pre")))
    || bytes_eq name (codes "head")) e) [
      | inl f ↦ plain_mathml name p (and_parts (is_mathml name) (not (is_token name)) f).0
      | inr f ↦ elim (or_cases (is_of_lines (default_display name)
          && not (bytes_eq name (codes "pre"))) (bytes_eq name (codes "head")) f) [
            | inl g ↦ plain_lines name p (and_parts (is_of_lines (default_display name))
                (not (bytes_eq name (codes "pre"))) g).0
            | inr g ↦ plain_head name p g
          ]
    ]

inside_no_pre : (name : List ℕ) → allows_pretty_inside name ≡ true →
    bytes_eq name (codes "pre") ≡ false
inside_no_pre name e = false_from_ne_true _ (λ f. both_ways _ (not-true _
    (of_name (λ n. not (allows_pretty_inside n)) name (codes "pre") pre_shuts f)) e)

-- indents around

around_border : (h : Head) → is_plain_name h.name ≡ true → wants_pretty_around h ≡ true →
    has_border_display h.name ≡ true
unfolding wants_pretty_around
around_border h p e =
    let f : (is_mathml h.name || (bytes_eq h.name (codes "pre")
    || (is_metadata_content h.name || allows_pretty_inside h.name))) ≡ true =
    rw (plain_is_no_math h.name p) at e in
    elim (or_cases _ _ f) [
      | inl g ↦ plain_mathml h.name p g
      | inr g ↦ elim (or_cases _ _ g) [
        | inl k ↦ of_name has_border_display h.name (codes "pre") pre_is_border k
        | inr k ↦ elim (or_cases _ _ k) [
          | inl l ↦ plain_metadata h.name p l
          | inr l ↦ inside_border h.name p l
        ]
      ]
    ]

-- blanks inside

border_no_wrap : (h : Head) (m : MadeHead h) → has_border_display h.name ≡ true →
    is_wrap m.kind ≡ false
border_no_wrap h m e =
    false_from_ne_true _ (λ w. both_ways _ (m.in_line w) e)

pub made_is_edged : (h : Head) → MadeHead h → HeadIsEdged (head_with_style h)
made_is_edged h m = (
  plain_is_not_raw h.name m.named,
  around_border (head_with_style h) m.named,
  λ e. let b = inside_border h.name m.named e in (
    b,
    wrap_preserves h.name (styled_attrs h.css h.attrs) m.kind (head_style_is h m)
        ∙ rw (inside_no_pre h.name e, border_no_wrap h m b) refl,
  ),
)

pub made_are_edged : (ns : NodesView) (p : Bool) → HoldsOfAll made p ns →
    NodesAreEdged (styled_nodes ns)
unfolding styled_node
made_are_edged none p r = tt
made_are_edged (node (tag_node t) ns) p r = made_are_edged ns p r.1
made_are_edged (node (text_node s span) ns) p r = made_are_edged ns p r.1
made_are_edged (node (element_node h kids) ns) p r =
    ((made_is_edged h r.0.0, made_are_edged kids h.pre_span r.0.1), made_are_edged ns p r.1)
made_are_edged (node (frame_node f) ns) p r = absurd r.0

pub converted_are_edged : (role : RoleText) (items : ItemsView) → is_plain_flow items ≡ true →
    NodesAreEdged (styled_nodes (converted_nodes Block Normal role items))
converted_are_edged role items e =
    made_are_edged (converted_nodes Block Normal role items) false (items_made Block Normal role items e)
