-- An output after a mutable borrow of its root.
use Rattle.std.specs.{Borrow.{Lends, MutBor, Fml}, Vec.{with_item}}
use Rattle.html_dom_tree.specs.declared.node.{HtmlElement.{HtmlElement}, HtmlNode.TheVariants.{Element}}
use Rattle.html_dom_tree.specs.contracts.node.HtmlElement as element
use Rattle.html_dom_document.specs.{RootPlaces.{put_stands}, contracts.output.HtmlOutput.{the_row}, declared.output.HtmlOutput.{HtmlOutput}}

-- the output with that element as its root
abbrev pub with_root_element : HtmlOutput → HtmlElement → HtmlOutput
with_root_element o e = record {
  nodes = with_item o.nodes o.root_index (Element e);
  root_index = o.root_index;
  root_is_element = put_stands o.nodes.items o.root_index e o.root_is_element;
}

-- the output ends with the last element behind the reference as its root
abbrev pub LendsRoot : MutBor HtmlOutput → MutBor HtmlElement → Fml
LendsRoot output root = Lends the_row element.the_row output root (with_root_element output.now)
