use Rattle.std.proofs.Common.{◌≡◌, ◌++◌, chars, map}
use denote.Text.{Utf8}
use denote.Shadow.{shadow}
use Rattle.std.specs.Str.Iter.{chars_rest}
use Rattle.html_dom_tree.specs.Views.{node_view}
use Rattle.html_flow_convert.{proofs.Beginnings.{Grows}, proofs.Passing.{Pending}, specs.Pieces.{text_nodes}}
use Rattle.html_flow_convert.proofs.pieces.push_pieces.Given as goal

abbrev pub invariant-loop-c : goal.invariant-loop-c
invariant-loop-c l =
    let made = map node_view l.nodes.items in
    let old = map node_view l.fn.nodes.items in
    let all = old ++ text_nodes l.span.0 (chars l.fn.text) in
    record {
      pending_is_text : shadow (Utf8 l.pending);
      rest_is_text : shadow (Utf8 l.rest);
      at : chars_rest l.left ≡ l.rest;
      held : Pending l.span.0 l.returned l.ends_normal l.pending l.rest made all;
      grown : Grows old made;
    }
