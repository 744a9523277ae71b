use Rattle.std.proofs.{Common.{◌≡◌, rules, string_bytes, string_len}, lemmas.Str.{IsUtf8-string_bytes}}
use Rattle.html_flow_lists.proofs.Cuts.{first_char_gone, none_gone}
use Rattle.html_flow_lists.proofs.item_list.cut_first_char.Goals as goal

pub returns-then-not-is_empty : goal.returns-then-not-is_empty
returns-then-not-is_empty c =
    let old = c.args.text.now in
    let left = c.remove.ensures.bytes in
    first_char_gone (string_bytes old) (string_bytes c.remove.new.self) left.0 c.remove.result
    (IsUtf8-string_bytes old) left.1 left.2

pub returns-else-not-is_empty : goal.returns-else-not-is_empty
returns-else-not-is_empty c =
    let none : string_len c.args.text.now ≡ 0 = search rules in none_gone c.args.text.now none
