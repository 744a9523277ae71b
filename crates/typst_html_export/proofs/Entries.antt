-- What holds of each entry of a document's head.
use Rattle.std.proofs.Common.{ℕ, List, [], ◌∷◌, ◌++◌, codes, Option, None, Some}
use Rattle.html_dom_tree.specs.Tree.{NodeView}
use Rattle.html_dom_document.specs.Documents.{InfoView}
use Rattle.typst_html_spaces.proofs.Each.{Each, Each-append}
use Rattle.typst_html_export.specs.DocumentHead.{entry_node, title_node, title_nodes, description_nodes, joined_text, list_meta_nodes, entry_nodes}

module _ (P : NodeView → Type 0) (title : (t : List ℕ) → P (title_node t))
    (named : (name content : List ℕ) → P (entry_node name content)) where
  of_title : (t : Option (List ℕ)) → Each P (title_nodes t)
  of_title None = tt
  of_title (Some t) = (title t, tt)

  of_description : (t : Option (List ℕ)) → Each P (description_nodes t)
  of_description None = tt
  of_description (Some t) = (named (codes "description") t, tt)

  of_texts : (name : List ℕ) (ts : List (List ℕ)) → Each P (list_meta_nodes name ts)
  of_texts name [] = tt
  of_texts name (t ∷ ts) = (named name (joined_text (t ∷ ts)), tt)

  pub of_entries : (info : InfoView) → Each P (entry_nodes info)
  of_entries info =
      let authors = list_meta_nodes (codes "authors") info.author in
      let keywords = list_meta_nodes (codes "keywords") info.keywords in
      Each-append P (title_nodes info.title)
      (description_nodes info.description ++ (authors ++ keywords)) (of_title info.title)
      (Each-append P (description_nodes info.description) (authors ++ keywords)
      (of_description info.description) (Each-append P authors keywords
      (of_texts (codes "authors") info.author) (of_texts (codes "keywords") info.keywords)))
