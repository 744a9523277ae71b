-- The page around a fragment whose context is a `body` of a document without quirks (HTML Standard
-- 13.4).
use Rattle.std.specs.Prelude.{true, [], codes}
use Rattle.html_page_stack.specs.{Pages.{Page, closed, opened}, declared.modes.TableRule.TheVariants.{ClosesP}}

-- a page in whose `body` a fragment is read
unfoldable pub fragment_begun : Page → Page
fragment_begun p = opened (codes "body") [] (closed true (opened (codes "head") []
    (opened (codes "html") [] (record p { tables = ClosesP }))))
