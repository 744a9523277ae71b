-- Laws of dead fragments and of repeated ids.
use Rattle.std.specs.{List.{All, Contains}, Prelude.{◌≡◌, true, List, [], map, Some}}
use Rattle.html_dom_tree.specs.{FrameFree.{ElementIsFrameFree}, PlainTree.{element_normal}, Tree.{ElementView}}
use Rattle.html_links.specs.{Distinct.{are_distinct}, InDocument.{in_document}, TreeNames.{Name, element_names}}
use Rattle.html_page_findings.specs.{ElementPaths.{element_at}, Fragments.{dead_fragments, fragments}, Hyperlinks.{ElementHasNoHyperlink}}
use Rattle.html_page_findings.specs.{PlacedTexts.{Placed, TextKind, head_texts}, RepeatedIds.{ids, placed_ids, repeated_ids, tree_ids}}

-- the texts that are found, without their paths
abbrev pub texts_of : List Placed → List Name
texts_of = map (λ (p : Placed). p.1)

-- the ids that are found with their paths are the ids of the document
abbrev pub PlacedIdsAreIds : Type 0
PlacedIdsAreIds = (e : ElementView) → texts_of (placed_ids e) ≡ tree_ids (in_document e)

-- no id is repeated if all names of a tree differ
abbrev pub DistinctAreNotRepeated : Type 0
DistinctAreNotRepeated = (e : ElementView) → are_distinct (element_names e) ≡ true →
    repeated_ids e ≡ []

-- an element is at the path, and the text that is found is one of its texts
abbrev pub StandsAt : TextKind → ElementView → Placed → Type 0
StandsAt kind e p =
    (a : ElementView) × (element_at p.0 e ≡ Some a) × Contains (head_texts kind a.0) p.1

-- the path of each dead fragment leads to its link, and in a tree without frames that of each
-- repeated id to an element with that id
pub record FindingsStand (e : ElementView) : Type 0 where
  pub dead : All (StandsAt fragments e) (dead_fragments e)
  pub repeated : ElementIsFrameFree e → All (StandsAt ids e) (repeated_ids e)

abbrev pub AllFindingsStand : Type 0
AllFindingsStand = (e : ElementView) → FindingsStand e

-- a tree without hyperlinks has no dead fragment
abbrev pub NoHyperlinkNoDeadFragment : Type 0
NoHyperlinkNoDeadFragment = (e : ElementView) → ElementHasNoHyperlink e → dead_fragments e ≡ []

-- both trees have the same dead fragments and the same repeated ids, apart from their paths
pub record AgreeOnFindings (e f : ElementView) : Type 0 where
  pub dead : texts_of (dead_fragments e) ≡ texts_of (dead_fragments f)
  pub repeated : texts_of (repeated_ids e) ≡ texts_of (repeated_ids f)

-- trees without frames that have the same normal form agree on their findings
abbrev pub NormalFormsAgree : Type 0
NormalFormsAgree = (e f : ElementView) → ElementIsFrameFree e → ElementIsFrameFree f →
    element_normal e ≡ element_normal f → AgreeOnFindings e f
