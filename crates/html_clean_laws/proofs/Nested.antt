-- Nothing in clean nodes is misnested.
use Rattle.std.proofs.Common.{◌≡◌, ℕ, suc, Bool, true, false, not, ◌&&◌, List, [], ◌∷◌, ◌++◌, codes, refl, ap, sym, ◌∙◌, None}
use Rattle.std.proofs.lemmas.Bool.{false≢true}
use Rattle.std.specs.Prelude.{if◌then◌else◌, Option, Some, is_some}
use Rattle.html_dom_tree.specs.Tree.{Head, NodeView, tag_node, text_node, element_node, frame_node, NodesView, none, node}
use Rattle.html_page_names.specs.{ForeignNames.{keeps_case}, PageNames.{of}}
use Rattle.html_page_names.specs.declared.kind.Kind.TheVariants as kind
use Rattle.html_page_nesting.proofs.Walks.{nodes_found}
use Rattle.html_page_nesting.specs.Ancestors.{Ancestor, ancestor, is_read_as_html, is_search}
use Rattle.html_page_nesting.specs.Contents.{content_misnesting, is_listing, is_raw_when_read}
use Rattle.html_page_nesting.specs.{Kept.{in_body}}
use Rattle.html_page_nesting.specs.Misnested.{found, misnested_nodes, node_misnested, nodes_misnested}
use Rattle.html_page_nesting.specs.NestingRules.{element_misnesting, foreign_misnesting, html_misnesting, is_too_deep, read_misnesting, text_misnesting}
use Rattle.html_page_nesting.specs.{Surroundings.{surroundings_of}, Walks.{node_walk, nodes_walk, surroundings_in}, WrittenTags.{tag_misnesting}}
use Rattle.html_page_nesting.specs.declared.misnesting.Misnesting.TheVariants as why
use Rattle.html_page_nesting.specs.declared.{reading.Reading.TheVariants.{AsHtml}, surroundings.Surroundings.{Surroundings}}
use Rattle.typst_html_nesting_laws.proofs.{Branches.{if_none, or_none, pick, skip}, KindFacts.{names}}
use Rattle.typst_html_nesting_laws.specs.FragmentsStay.{bare_head, fragment_root}
use Rattle.html_clean_policy.proofs.Allowed.{allowed_name}
use Rattle.html_clean_policy.specs.Policies.{PolicyView, allows}
use Rattle.html_clean_laws.proofs.Names.{not_listing, not_script}
use Rattle.html_clean_laws.specs.CleanNodes.{AreClean, IsClean}

none_there : {A : Type 0} (x : Option A) → not (is_some x) ≡ true → x ≡ None
none_there None h = refl
none_there (Some a) h = absurd (false≢true h)

both : (a b : Bool) → not a && not b ≡ true → (a ≡ false) × (not b ≡ true)
both true b h = absurd (false≢true h)
both false b h = (refl, h)

fails_first : (a b : Bool) → a ≡ false → a && b ≡ false
fails_first a b h = rw h refl

picked : {A : Type 0} {b : Bool} {x : A} (y : A) {r : A} → b ≡ true → (if b then x else y) ≡ r →
    x ≡ r
picked y h k = rw h at k

module _ (p : PolicyView) (around : Surroundings) (html : around.reading ≡ AsHtml) (h : Head)
    (allowed : allows p h.name ≡ true) where
  -- the content of an allowed element breaks no rule with it, whatever it is
  any_content : (kids : NodesView) → content_misnesting h none ≡ None →
      content_misnesting h kids ≡ None
  any_content kids n =
      let closing = if_none why.StaysOpen n in
      let unread = if_none why.UnreadEnd closing.1 in
      skip (Some why.StaysOpen) closing.0 (skip (Some why.UnreadEnd) unread.0
      (skip (Some why.RawText) (fails_first (is_raw_when_read h.name) _
      (fails_first (of kind.Raw h.name) _ (allowed_name p h.name allowed).no_raw))
      (skip (Some why.FirstLineFeed) (fails_first (is_listing h.name) _
      (not_listing p h.name allowed))
      (skip (Some why.ScriptComment) (fails_first (of kind.Script h.name) _
      (not_script p h.name allowed)) refl))))

  html_any : (kids : NodesView) → html_misnesting h none around ≡ None →
      html_misnesting h kids around ≡ None
  html_any kids n =
      let parts = or_none {x = content_misnesting h none} n in
      rw (any_content kids parts.0) parts.1

  read_any : (kids : NodesView) → read_misnesting h none around ≡ None →
      read_misnesting h kids around ≡ None
  read_any kids n =
      let is_read : is_read_as_html around.reading h.name ≡ true =
      ap (λ r. is_read_as_html r h.name) html in
      pick (foreign_misnesting h kids) is_read (html_any kids (picked (foreign_misnesting h none) is_read n))

  pub element_any : (kids : NodesView) → element_misnesting h none around ≡ None →
      element_misnesting h kids around ≡ None
  element_any kids n =
      let parts = or_none {x = tag_misnesting _ h} n in
      rw parts.0 (read_any kids parts.1)

  -- and is read as HTML
  pub html_inside : (surroundings_in h around).reading ≡ AsHtml
  html_inside =
      let name = allowed_name p h.name allowed in
      rw (html, name.no_svg, name.no_math) refl

mutual
  unfolding IsClean AreClean node_walk nodes_walk

  pub node_stays : (p : PolicyView) (path : List ℕ) (around : Surroundings) (first : Bool)
      (n : NodeView) → around.reading ≡ AsHtml → IsClean p around first n →
      node_walk path around n ≡ []
  node_stays p path around first (tag_node t) html clean = absurd clean
  node_stays p path around first (text_node s span) html clean =
      ap (found path span) (none_there (text_misnesting s around) clean.kept)
  node_stays p path around first (element_node h kids) html clean =
      let stays = both (is_too_deep around) _ clean.0.kept in
      let own = element_any p around html h clean.0.allowed kids (none_there _ stays.1) in
      skip _ stays.0 (ap (λ m. found path h.span m ++ nodes_walk path 0 (surroundings_in h around) kids)
      own ∙ nodes_stay p path 0 (surroundings_in h around) true kids
      (html_inside p around html h clean.0.allowed) clean.2)
  node_stays p path around first (frame_node f) html clean = absurd clean

  pub nodes_stay : (p : PolicyView) (path : List ℕ) (i : ℕ) (around : Surroundings)
      (first : Bool) (ns : NodesView) → around.reading ≡ AsHtml → AreClean p around first ns →
      nodes_walk path i around ns ≡ []
  nodes_stay p path i around first none html clean = refl
  nodes_stay p path i around first (node n ns) html clean =
      ap (λ fs. fs ++ nodes_walk path (suc i) around ns)
      (node_stays p (path ++ i ∷ []) around first n html clean.0)
      ∙ nodes_stay p path (suc i) around false ns html clean.1

abbrev html_above : List Ancestor
html_above = ancestor (bare_head (codes "html")) [] ∷ []

abbrev body_above : List Ancestor
body_above = ancestor (bare_head (codes "body")) html_above ∷ html_above

above_is : surroundings_of body_above ≡ in_body
unfolding names is_search
above_is = refl

page_found : (ns : NodesView) →
    misnested_nodes (fragment_root ns) ≡ nodes_misnested (1 ∷ []) 0 body_above ns ++ []
unfolding names keeps_case node_misnested nodes_misnested
page_found ns = refl

pub page_nested : (p : PolicyView) (ns : NodesView) → AreClean p in_body true ns →
    misnested_nodes (fragment_root ns) ≡ []
page_nested p ns clean = page_found ns
    ∙ ap (λ fs. fs ++ []) (sym (nodes_found (1 ∷ []) 0 body_above ns)
    ∙ (ap (λ s. nodes_walk (1 ∷ []) 0 s ns) above_is
    ∙ nodes_stay p (1 ∷ []) 0 in_body true ns refl clean))
