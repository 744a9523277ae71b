-- The result of reading: the element that is read, if no element is too deep, or a fault.
use Rattle.std.specs.Prelude.{◌≡◌, ℕ, List, [], Option, Some, Result, IfOk, OnOk, IfErr}
use Rattle.html_dom_tree.specs.{Tree.{ElementView}, Views.{element_view}, declared.node.HtmlElement.{HtmlElement}}
use Rattle.typst_html_read.specs.{ReadFaults.{IsFirst}, declared.fault.ReadFault.{ReadFault}}

pub record Gives (r : Result HtmlElement ReadFault) (text : List ℕ) (element : Option ElementView)
    (too_deep : List ℕ) (unread : ℕ) : Type 0 where
  pub made : IfOk r (λ e. Some (element_view e) ≡ element)
  pub clean : OnOk r (too_deep ≡ [])
  pub fault : IfErr r (IsFirst text element too_deep unread)
