-- The children of a raw or an escapable raw element, one after another.
use Rattle.std.proofs.Common.{◌≡◌, List, [], ◌++◌, ℕ, sym, ◌∙◌, append_assoc, append-nil, subst}
use Rattle.html_dom_tree.specs.Tree.{NodeView, NodesView, none, node}
use Rattle.typst_html_encode.proofs.{Escapes.{escaped_text-append}, Firsts.{first_of_more}}
use Rattle.typst_html_encode.specs.ExportFaults.{IsFirst, node_raw_faults, nodes_raw_faults}
use Rattle.typst_html_encode.specs.{Text.{escaped_text, node_raw_text, nodes_raw_text}, declared.escape.Escaping.{Escaping}}
use Rattle.typst_html_encode.specs.declared.fault.ExportFault.{ExportFault}

-- a loop over all children: with those that are left, the text and the faults are those of all
pub record RawLeft (escaping : Escaping) (left all : NodesView) (out start : List ℕ) : Type 0 where
  pub agrees : out ++ escaped_text escaping (nodes_raw_text left)
      ≡ start ++ escaped_text escaping (nodes_raw_text all)
  pub clean : nodes_raw_faults escaping left ≡ nodes_raw_faults escaping all

module _ {escaping : Escaping} {left all : NodesView} {out start : List ℕ}
    (held : RawLeft escaping left all out start) where
  pub child_written : {child : NodeView} {others : NodesView} {new_out : List ℕ} →
      left ≡ node child others →
      new_out ≡ out ++ escaped_text escaping (node_raw_text child) →
      node_raw_faults escaping child ≡ [] → RawLeft escaping others all new_out start
  child_written {child} {others} is wrote clean =
      record {
        agrees = rw (
          wrote,
          append_assoc,
          ← escaped_text-append escaping (node_raw_text child) (nodes_raw_text others),
        )
            (rw is at held.agrees);
        clean = rw clean at (rw is at held.clean);
      }

  -- the first fault of a child is the first that is left
  pub child_refused : {child : NodeView} {others : NodesView} (e : ExportFault) →
      left ≡ node child others → IsFirst e (node_raw_faults escaping child) →
      IsFirst e (nodes_raw_faults escaping all)
  child_refused e is refused =
      subst (IsFirst e) (rw is at held.clean) (first_of_more e _ _ refused)

  pub all_written : left ≡ none →
      (out ≡ start ++ escaped_text escaping (nodes_raw_text all))
      × (nodes_raw_faults escaping all ≡ [])
  all_written is =
      let done = rw is at held in
      (sym (append-nil out) ∙ done.agrees, sym done.clean)
