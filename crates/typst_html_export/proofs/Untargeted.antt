-- A document to which no link leads stays as it is.
use Rattle.std.proofs.{Common.{◌≡◌, ℕ, zero, suc, true, false, None, refl, ap, sym, ◌∙◌}, Math.Path.{fun_ext}}
use Rattle.std.proofs.lemmas.List.{nil_from_length}
use Rattle.std.specs.{BTreeMap.{BTreeMap, IsEmpty}, BTreeSet.{BTreeSet, btree_set_len}, Prelude.{String}, declared.alloc.Global.{Global}}
use Rattle.html_dom_tree.specs.{Tree.{element_node, NodesView, none, node}, declared.introspection.Location.{Location}}
use Rattle.html_dom_document.specs.Documents.{DocumentView, document_root, element_at_index, given_root, is_element_at, with_element}
use Rattle.html_dom_document.specs.Introspectors.{has_location, location_text}
use Rattle.html_anchors.{proofs.Consequences.{no_target_no_change}, specs.LinkAnchors.{document_anchor, document_targets}}
use Rattle.typst_html_export.specs.Linked.{document_with_anchors}

put_again : (ns : NodesView) (i : ℕ) → is_element_at ns i ≡ true →
    with_element ns i (given_root (element_at_index ns i)) ≡ ns
put_again none i there = refl
put_again (node n ns) (suc i) there = ap (node n) (put_again ns i there)
put_again (node (element_node h kids) ns) zero there = refl
put_again (node n ns) zero there = cc

pub nothing_in : (set : BTreeSet Location) → btree_set_len set ≡ 0 → (l : ℕ) → has_location set l ≡ false
nothing_in set short l = let no_keys = nil_from_length set.keys short in rw no_keys refl

pub no_text_in : (map : BTreeMap Location (String Global)) → IsEmpty map →
    location_text map ≡ (λ l. None)
no_text_in map empty = fun_ext (λ l. rw empty refl)

pub without_targets : (d : DocumentView) →
    is_element_at d.output.nodes d.output.root ≡ true →
    ((l : ℕ) → d.introspector.is_link_target l ≡ false) →
    record d { introspector = record d.introspector { anchor = λ l. None } }
    ≡ document_with_anchors d
without_targets d stands nowhere =
    let is_target = d.introspector.is_link_target in
    let idle = no_target_no_change (document_targets is_target d) (document_root d) nowhere in
    let anchors : document_anchor is_target d ≡ (λ l. None) = fun_ext idle.1 in
    let nodes =
    ap (λ e. with_element d.output.nodes d.output.root e) idle.0
    ∙ put_again d.output.nodes d.output.root stands in
    sym (
    ap (λ ns. record d {
      output = record d.output { nodes = ns };
      introspector = record d.introspector { anchor = document_anchor is_target d };
    }) nodes
    ∙ ap (λ a. record d { introspector = record d.introspector { anchor = a } }) anchors
    )
