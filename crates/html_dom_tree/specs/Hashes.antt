-- Equal lists of attributes have equal hashes.
use Rattle.std.{proofs.Common.{ap}, specs.Prelude.{◌≡◌, true}}
pub use Rattle.html_names_core.specs.Hashes.{pair_writes, pairs_writes}
use Rattle.html_dom_tree.specs.{NodeEqual.{same, same_decides, pairs_discrete}, Views.{attrs_view}, declared.attrs.HtmlAttrs.{HtmlAttrs}}

pub equal_fed : (a b : HtmlAttrs) → same attrs_view pairs_discrete a b ≡ true →
    pairs_writes (attrs_view a) ≡ pairs_writes (attrs_view b)
equal_fed a b equal = ap pairs_writes ((same_decides attrs_view pairs_discrete a b).0 equal)
