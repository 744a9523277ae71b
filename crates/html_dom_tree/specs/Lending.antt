-- An attribute list after a mutable borrow of one of its values has ended.
use denote.RattleType.{RattleType}
use Rattle.std.specs.{Prelude.{ℕ, String, slice_index_or, []}, Vec.{with_item}, declared.alloc.Global.{Global}}
use Rattle.std.specs.contracts.alloc.Global as global
use Rattle.std.specs.contracts.string.String as text
use Rattle.std.specs.contracts.impls.GlobalAllocator.TheImpl.{ghosts}
use Rattle.html_dom_tree.specs.declared.attrs.HtmlAttrs.{HtmlAttrs}

-- the type of a text, as the logic names it
abbrev pub text_row : RattleType
text_row = text.the_row global.the_row ghosts

-- an attribute list with that text as the value of the pair at an index
abbrev pub with_text_at : HtmlAttrs → ℕ → String Global → HtmlAttrs
with_text_at attrs place value =
    let name = (slice_index_or attrs.0.items place ([], value)).0 in
    record attrs { 0 = with_item attrs.0 place (name, value) }
