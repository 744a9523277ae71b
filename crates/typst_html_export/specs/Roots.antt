-- The root of a document, with styles.
use Rattle.html_dom_tree.specs.Styled.{styled_element}
use Rattle.html_dom_document.specs.Documents.{OutputView, root_of, given_root, with_root}

-- an output with the styles of its root only
abbrev pub styled_root : OutputView → OutputView
styled_root o = with_root o (styled_element (given_root (root_of o)))
