-- The results of the parts of assembly.
use Rattle.std.specs.{Borrow.{Bor}, Prelude.{ℕ}}
use Rattle.html_dom_tree.specs.{Tree.{Head}, Views.{element_view}, declared.node.HtmlElement.{HtmlElement}}
use Rattle.typst_html_export.specs.Assembled as assembled
use Rattle.typst_html_export.specs.declared.document.{Outline.{Outline}, Outline.TheVariants.{OwnHtml, OwnBody, NothingOwn}}

abbrev pub outline_view : Outline → assembled.Outline
outline_view (OwnHtml place) = assembled.own_html place
outline_view OwnBody = assembled.own_body
outline_view NothingOwn = assembled.nothing_own

-- an element and its index
abbrev pub own_view : ℕ × Bor HtmlElement → ℕ × Head
own_view own = (own.0, (element_view own.1.now).0)
