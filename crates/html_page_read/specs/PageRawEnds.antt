-- The end of the text in an element of text alone, by its bytes.
use Rattle.std.specs.{Borrow.{Bor}, Prelude.{◌≡◌, ℕ, Some, chars, string_bytes, take}, Str.{IsCharBoundary}}
use Rattle.html_dom_tree.specs.Views.{text_view}
use Rattle.html_names_core.specs.declared.html_tag.HtmlTag.{HtmlTag}
use Rattle.html_text.specs.ClosingTags.{before_closing}
use Rattle.html_page_read.specs.PageTokens.{ended_name}
use Rattle.html_page_stack.specs.{PageViews.{stack_of}, declared.page.Page.{Page}}

-- the closing tag of that name begins at that byte of the text
pub record IsRawEnd (page : Page) (depth run c : ℕ) (end : Bor HtmlTag × ℕ) : Type 0 where
  pub ends : ended_name (stack_of page.stack) depth run (text_view page.text) c ≡ Some end.0.now
  pub boundary : IsCharBoundary (string_bytes page.text) end.1
  pub before : chars (take end.1 (string_bytes page.text))
      ≡ before_closing end.0.now (text_view page.text)
