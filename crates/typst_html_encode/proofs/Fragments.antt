-- Nodes by themselves are written as the children of a `div` are.
use Rattle.std.proofs.Common.{◌≡◌, ℕ, Bool, false, true, List, [], ◌++◌, codes, Result, refl, ap, ◌∙◌, sym, subst, append-nil}
use Rattle.html_names_core.specs.{Kinds.{is_void, is_raw, is_escapable_raw, is_foreign_self_closing}, Names.{stands_in}}
use Rattle.html_dom_tree.specs.{FrameFree.{NodesAreFrameFree}, Tree.{NodesView, none, node}}
use Rattle.typst_html_encode.{proofs.ReadingBack.{reads_back}, specs.Endings.{Adds}, specs.ExportFaults.{node_faults, nodes_faults}}
use Rattle.typst_html_encode.specs.{Fragments.{fragment_text, fragment_faults, div_head, text_in_div, ReadsInDiv}, FrameWriters.{Frames}}
use Rattle.typst_html_encode.specs.{Layout.{deeper, due_after}, Reader.{drops_feed, read}}
use Rattle.typst_html_encode.specs.ReadingBack.{NodeIsNamed, NodesAreNamed, ElementIsNamed}
use Rattle.typst_html_encode.specs.{Text.{node_text, nodes_text, plain_options, root_margin, document_text}, WriterWalk.{outside_text}}
use Rattle.typst_html_encode.specs.declared.fault.ExportFault.{ExportFault}

module _ (frames : Frames) where
  inside : (due : Bool) (ns : NodesView) → outside_text frames (deeper (root_margin plain_options)) ns
      ≡ nodes_text frames false due (root_margin plain_options) ns
  unfolding nodes_text
  inside due none = refl
  inside due (node n ns) = ap
      (λ rest. node_text frames false (deeper (root_margin plain_options)) n ++ rest)
      (inside (due_after due n) ns)

  -- a walk over these nodes alone writes that text
  pub fragment_writes : (tree ns : NodesView) → tree ≡ ns → (r : Result (Unit {0}) ExportFault)
      (old new : List ℕ) →
      Adds r old new (outside_text frames (deeper (root_margin plain_options)) tree)
      (nodes_faults frames false false tree) →
      Adds r old new (fragment_text frames ns) (fragment_faults frames ns)
  fragment_writes tree ns is r old new w =
      let text = ap (outside_text frames (deeper (root_margin plain_options))) is
      ∙ inside true ns in
      subst (λ fs. Adds r old new (fragment_text frames ns) fs)
      (ap (nodes_faults frames false false) is)
      (subst (λ t. Adds r old new t (nodes_faults frames false false tree)) text w)

  in_div : (ns : NodesView) → text_in_div (fragment_text frames ns)
      ≡ document_text frames plain_options (div_head, ns)
  unfolding node_text is_void is_raw is_escapable_raw is_foreign_self_closing stands_in drops_feed
  in_div ns = ap (λ rest. codes "<!DOCTYPE html><div>" ++ rest)
      (sym (append-nil (fragment_text frames ns ++ codes "</div>")))

  div_named : (ns : NodesView) → NodesAreNamed ns → ElementIsNamed (div_head, ns)
  unfolding NodeIsNamed
  div_named ns named = (((refl, refl), tt), named)

  pub reads_in_div : (ns : NodesView) → NodesAreNamed ns → NodesAreFrameFree ns →
      fragment_faults frames ns ≡ [] → ReadsInDiv (fragment_text frames ns) ns
  unfolding node_faults is_void is_raw is_escapable_raw is_foreign_self_closing stands_in
  reads_in_div ns named frameless clean = ap read (in_div ns)
      ∙ (reads_back frames).0 (div_head, ns) (div_named ns named) frameless clean
