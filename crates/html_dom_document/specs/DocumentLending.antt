-- A document after a mutable borrow of its information, its introspector or its root.
use Rattle.std.specs.Borrow.{Lends, MutBor, Fml}
use Rattle.html_dom_tree.specs.declared.node.HtmlElement.{HtmlElement}
use Rattle.html_dom_tree.specs.contracts.node.HtmlElement as element
use Rattle.html_dom_document.specs.declared.introspect.HtmlIntrospector.{HtmlIntrospector}
use Rattle.html_dom_document.specs.contracts.introspect.HtmlIntrospector as introspector
use Rattle.html_dom_document.specs.{Lending.{with_root_element}, declared.document.HtmlDocument.{HtmlDocument}}
use Rattle.html_dom_document.specs.declared.info.DocumentInfo.{DocumentInfo}
use Rattle.html_dom_document.specs.contracts.info.DocumentInfo as info
use Rattle.html_dom_document.specs.contracts.document.HtmlDocument.{the_row}

-- the document ends with the last information behind the reference
abbrev pub LendsInfo : MutBor HtmlDocument → MutBor DocumentInfo → Fml
LendsInfo document information =
    Lends the_row info.the_row document information (λ last. record document.now { info = last })

-- the document ends with the last introspector behind the reference
abbrev pub LendsIntrospector : MutBor HtmlDocument → MutBor HtmlIntrospector → Fml
LendsIntrospector document known =
    Lends the_row introspector.the_row document known
    (λ last. record document.now { introspector = last })

-- the document with that element as the root of its output
abbrev pub with_document_root : HtmlDocument → HtmlElement → HtmlDocument
with_document_root document root =
    record document { output = with_root_element document.output root }

-- the document ends with the last element behind the reference as its root
abbrev pub LendsDocumentRoot : MutBor HtmlDocument → MutBor HtmlElement → Fml
LendsDocumentRoot document root =
    Lends the_row element.the_row document root (with_document_root document.now)
