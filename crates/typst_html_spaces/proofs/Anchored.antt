-- Anchors are not seen, nor is an `href`.
use Rattle.std.proofs.Common.{◌≡◌, ℕ, Bool, true, false, ◌||◌, List, ◌∷◌, ◌++◌, refl, ap, ◌∙◌, sym, append-nil, codes}
use Rattle.std.proofs.lemmas.Bool.{false≢true}
use Rattle.html_names_core.specs.Displays.{default_display}
use Rattle.html_names_core.specs.{Kinds.{is_void, is_replaced, is_raw, is_mathml, is_token, is_metadata_content}, Names.{stands_in}}
use Rattle.html_names_core.specs.Texts.{TextPair}
use Rattle.html_dom_tree.specs.Tree.{Head, text_node, element_node, NodesView, none, node}
use Rattle.html_dom_shown.{proofs.NodeAtoms.{nodes_atoms, normal_atoms}, specs.Collapsing.{text_atoms, preserves, has_border}}
use Rattle.typst_html_encode.specs.{IndentsCollapse.{HeadIsEdged, NodesAreEdged}, Layout.{allows_pretty_inside, wants_pretty_around}}
use Rattle.typst_html_spaces.proofs.{Changed.{HoldsThen, holds_then, heads_then}, CleanNodes.{plain_clean}, MadeNodes.{made_are_named}}
use Rattle.typst_html_spaces.specs.Anchored.{NewAttribute, new_id, new_href, attribute_name, with_front_attribute, anchor_head, IsAnchor, anchor, IsGiven, nothing, given, anchors, Anchored, IsAny, AnchorsAreUnseen, AnchorsKeepEdges, AnchorsKeepPlainNodes}
use Rattle.typst_html_spaces.specs.Changed.{at_end, at_tag, after_tag, at_text, around_text, at_element, at_frame}
use Rattle.typst_html_spaces.specs.{CleanNodes.{IsCleanHead, clean, IsCleanValue, AnchorsKeepCleanNodes}, DeepNodes.{of_heads}}
use Rattle.typst_html_spaces.specs.PlainFlow.{is_plain_name}

-- a new attribute says nothing of how an element is shown

new_preserves : (a : NewAttribute) (value name : List ℕ) (attrs : List TextPair) →
    preserves name ((attribute_name a, value) ∷ attrs) ≡ preserves name attrs
unfolding preserves
new_preserves new_id value name attrs = refl
new_preserves new_href value name attrs = refl

new_border : (a : NewAttribute) (value name : List ℕ) (attrs : List TextPair) →
    has_border name ((attribute_name a, value) ∷ attrs) ≡ has_border name attrs
unfolding has_border
new_border new_id value name attrs = refl
new_border new_href value name attrs = refl

new_around : (a : NewAttribute) (value : List ℕ) (h : Head) →
    wants_pretty_around (with_front_attribute a value h) ≡ wants_pretty_around h
unfolding wants_pretty_around
new_around new_id value h = refl
new_around new_href value h = refl

-- atoms

anchor_atoms : (k : Bool) (id : List ℕ) (span : ℕ) (kids ns : NodesView) →
    nodes_atoms k (node (element_node (anchor_head id span) kids) ns)
    ≡ nodes_atoms k kids ++ nodes_atoms k ns
unfolding preserves has_border default_display stands_in is_replaced
anchor_atoms true id span kids ns = refl
anchor_atoms false id span kids ns = refl

module _ {P : NewAttribute → List ℕ → Type 0} where
  given_by : {h g : Head} → IsGiven P h g → (k : Bool) (new ms : NodesView) →
      nodes_atoms k (node (element_node g new) ms) ≡ nodes_atoms k (node (element_node h new) ms)
  given_by nothing k new ms = refl
  given_by (given {h = h} a value i) k new ms =
      rw (new_preserves a value h.name h.attrs, new_border a value h.name h.attrs) refl

  anchored_atoms : {ns ms : NodesView} → Anchored P ns ms → (k : Bool) →
      nodes_atoms k ms ≡ nodes_atoms k ns
  anchored_atoms at_end k = refl
  anchored_atoms (at_tag r) k = anchored_atoms r k
  anchored_atoms (after_tag {ms = ms} (anchor id span i) r) k =
      anchor_atoms k id span none ms ∙ anchored_atoms r k
  anchored_atoms (at_text {s = s} r) k = ap (λ xs. text_atoms k s ++ xs) (anchored_atoms r k)
  anchored_atoms (around_text {s = s} {span = span} {ms = ms} (anchor id own i) r) k =
      anchor_atoms k id own (node (text_node s span) none) ms
      ∙ rw (append-nil (text_atoms k s), anchored_atoms r k) refl
  anchored_atoms (at_element {h = h} {new = new} {ms = ms} i q r) k =
      given_by i k new ms
      ∙ rw (anchored_atoms q (k || preserves h.name h.attrs), anchored_atoms r k) refl
  anchored_atoms (at_frame r) k = anchored_atoms r k

pub anchors_are_unseen : AnchorsAreUnseen
anchors_are_unseen ns ms r k =
    normal_atoms ms k ∙ (anchored_atoms r k ∙ sym (normal_atoms ns k))

-- edges

anchor_edged : (id : List ℕ) (span : ℕ) → HeadIsEdged (anchor_head id span)
unfolding wants_pretty_around allows_pretty_inside is_raw is_mathml is_token is_metadata_content default_display stands_in
anchor_edged id span = (refl, λ e. absurd (false≢true e), λ e. absurd (false≢true e))

new_edged : (a : NewAttribute) (value : List ℕ) (h : Head) → HeadIsEdged h →
    HeadIsEdged (with_front_attribute a value h)
new_edged a value h c = (
  c.0,
  λ e. c.1 (sym (new_around a value h) ∙ e),
  λ e. ((c.2 e).0, new_preserves a value h.name h.attrs ∙ (c.2 e).1),
)

module _ {P : NewAttribute → List ℕ → Type 0} where
  anchor_is_edged : {h : Head} → IsAnchor P h → HeadIsEdged h
  anchor_is_edged (anchor id span i) = anchor_edged id span

  given_edged : {h g : Head} → IsGiven P h g → HeadIsEdged h → HeadIsEdged g
  given_edged nothing c = c
  given_edged (given {h = h} a value i) c = new_edged a value h c

  anchored_edged : {ns ms : NodesView} → Anchored P ns ms → NodesAreEdged ns → NodesAreEdged ms
  anchored_edged at_end c = tt
  anchored_edged (at_tag r) c = anchored_edged r c
  anchored_edged (after_tag i r) c = ((anchor_is_edged i, tt), anchored_edged r c)
  anchored_edged (at_text r) c = anchored_edged r c
  anchored_edged (around_text i r) c = ((anchor_is_edged i, tt), anchored_edged r c)
  anchored_edged (at_element i q r) c =
      ((given_edged i c.0.0, anchored_edged q c.0.1), anchored_edged r c.1)
  anchored_edged (at_frame r) c = absurd c

pub anchors_keep_edges : AnchorsKeepEdges
anchors_keep_edges ns ms r c = anchored_edged r c

-- what holds at any depth

module _ (P : NewAttribute → List ℕ → Type 0) (Q : Head → Type 0) (F : Type 0)
    (new_anchor : (id : List ℕ) (span : ℕ) → Q (anchor_head id span))
    (new : (a : NewAttribute) (value : List ℕ) (h : Head) → P a value → Q h →
    Q (with_front_attribute a value h)) where
  of_anchor : {h : Head} → IsAnchor P h → Q h
  of_anchor (anchor id span i) = new_anchor id span

  of_given : {h g : Head} → IsGiven P h g → (Q h → Q g) × (g.pre_span ≡ h.pre_span)
  of_given nothing = (λ r. r, refl)
  of_given (given {h = h} a value i) = (new a value h i, refl)

  pub heads_anchored : HoldsThen (of_heads Q F) (of_heads Q F) (anchors P)
  heads_anchored = heads_then Q Q F (anchors P) (λ h i. of_anchor i) (λ h s i. of_anchor i)
      (λ h g i. of_given i)

pub anchors_keep_plain_nodes : AnchorsKeepPlainNodes
anchors_keep_plain_nodes ns ms a r = holds_then
    (heads_anchored IsAny (λ h. is_plain_name h.name ≡ true) ⊥ (λ id span. made_are_named.1)
    (λ a value h i e. e)) a false r

-- clean nodes

pub span_is_not_void : is_void (codes "span") ≡ false
unfolding is_void stands_in
span_is_not_void = refl

abbrev IsClean : NewAttribute → List ℕ → Type 0
IsClean a value = IsCleanValue value

anchor_is_clean : {h : Head} → IsAnchor IsClean h → (b : Bool) →
    IsCleanHead h b × (h.pre_span ≡ false)
anchor_is_clean (anchor id span i) b = (
  record {
    named = made_are_named.1;
    values = rw i refl;
    void = λ e. absurd (false≢true (sym span_is_not_void ∙ e));
  },
  refl,
)

given_clean : {h g : Head} → IsGiven IsClean h g → (b : Bool) → IsCleanHead h b → IsCleanHead g b
given_clean nothing b c = c
given_clean (given a value i) b c =
    record { named = c.named; values = rw i (c.values); void = c.void }

given_flag : {h g : Head} → IsGiven IsClean h g → g.pre_span ≡ h.pre_span
given_flag nothing = refl
given_flag (given a value i) = refl

pub anchors_keep_clean_nodes : AnchorsKeepCleanNodes
anchors_keep_clean_nodes p ns ms a c = holds_then {v = clean} {w = clean} (record {
  after = λ h i. (anchor_is_clean i true).0;
  around = λ p h s i c. let own = anchor_is_clean i false in (own.0, rw own.1 (plain_clean s c.0));
  head = λ h g i. given_clean i;
  flag = λ h g i. given_flag i;
  text = λ p s c. c;
  tag = λ t c. c;
  frame = λ c. c;
}) a p c
