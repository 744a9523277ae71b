-- Each element that items of plain flow become is made as conversion makes elements.
use Rattle.std.proofs.{Common.{◌≡◌, ℕ, true, false, [], refl, codes}, lemmas.Bool.{false≢true, and_parts}}
use Rattle.html_names_core.specs.{Displays.{default_display}, Kinds.{is_replaced, shows_border}, Names.{stands_in}}
use Rattle.html_dom_tree.specs.Tree.{NodesView}
use Rattle.html_flow_convert.specs.{Converted.{RoleText, body_nodes, converted_nodes}, Items.{ItemsView, BodyView}}
use Rattle.html_flow_convert.specs.{LoneNode.{block_head}, Nodes.{made_head, pre_wrap_head}}
use Rattle.html_flow_convert.specs.declared.convert.{ConversionLevel.{ConversionLevel}, Whitespace.{Whitespace}}
use Rattle.typst_html_spaces.proofs.DeepNodes.{Known, HoldsOfItems, of_body, of_converted, HoldsOnTheWay, of_text}
use Rattle.typst_html_spaces.proofs.MadeHeads.{plain, wrap, MadeHead, stands_for_block}
use Rattle.typst_html_spaces.{proofs.PlainParts.{plain_head as plain_parts, element_made}, specs.DeepNodes.{Wanted, HoldsOfAll, of_heads}}
use Rattle.typst_html_spaces.specs.PlainFlow.{is_plain_name, is_plain_item, are_plain_items, is_plain_body}

-- no frame, and each element is made as conversion makes it
abbrev pub made : Wanted
made = of_heads MadeHead ⊥

abbrev pub AreMade : NodesView → Type 0
AreMade = HoldsOfAll made false

-- what conversion itself makes

pub made_are_named : (is_plain_name (codes "br") ≡ true) × (is_plain_name (codes "span") ≡ true)
    × (is_plain_name (codes "div") ≡ true)
unfolding is_plain_name is_replaced default_display stands_in
made_are_named = (refl, refl, refl)

span_in_line : shows_border (default_display (codes "span")) ≡ false
unfolding default_display stands_in
span_in_line = refl

pub break_made : (span : ℕ) → MadeHead (made_head (codes "br") [] span)
break_made span = record { kind = plain; css_is = refl; no_style = refl; named = made_are_named.0; in_line = λ e. absurd (false≢true e) }

pub wrap_made : (span : ℕ) → MadeHead (pre_wrap_head span)
wrap_made span = record { kind = wrap; css_is = refl; no_style = refl; named = made_are_named.1; in_line = λ e. span_in_line }

pub block_made : (span : ℕ) → MadeHead (block_head span)
block_made span = record { kind = plain; css_is = refl; no_style = refl; named = made_are_named.2; in_line = λ e. absurd (false≢true e) }

made_way : HoldsOnTheWay made
made_way = record {
  wrap = λ span b. wrap_made span;
  blank = λ s e. tt;
  line = break_made;
  block = λ span b. block_made span;
  lone = λ h kids change m e. (stands_for_block h kids change m e).made;
}

-- items

abbrev plain_flow : Known
plain_flow = record {
  item = λ s role i. is_plain_item s i ≡ true;
  items = λ s role items. are_plain_items s items ≡ true;
  body = λ s role body. is_plain_body s body ≡ true;
}

made_items : HoldsOfItems made plain_flow
unfolding is_plain_item
made_items = record {
  tag = λ s role t e. tt;
  element = λ s role h body e.
      let both = and_parts _ _ e in
      (element_made role h (plain_parts h both.0), both.1);
  space = tt;
  text = λ s role t span e. of_text made made_way (λ u. tt) s t span;
  feed = tt;
  box = λ s role body span e. absurd (false≢true e);
  block = λ s role body span e. (and_parts _ _ e).1;
  frame = λ s role f e. false≢true e;
  first = λ s role i own items e. and_parts _ _ e;
  inside = λ s role items e. e;
}

pub items_made : (level : ConversionLevel) (whitespace : Whitespace) (role : RoleText)
    (items : ItemsView) → are_plain_items whitespace items ≡ true →
    AreMade (converted_nodes level whitespace role items)
items_made = of_converted made made_way plain_flow made_items

pub body_made : (level : ConversionLevel) (whitespace : Whitespace) (role : RoleText)
    (body : BodyView) → is_plain_body whitespace body ≡ true →
    AreMade (body_nodes level whitespace role body)
body_made = of_body made made_way plain_flow made_items
