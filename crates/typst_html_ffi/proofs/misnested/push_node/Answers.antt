use Rattle.std.proofs.Common.{◌++◌, false, true, codes, string_bytes, ap, ◌∙◌}
use Rattle.serde_json.specs.{Data.{string, member}, Written.{compact_text}}
use Rattle.html_page_nesting.specs.MisnestingTexts.{rule_name, rule_words}
use Rattle.typst_html_ffi.proofs.Pages.{no_member_yet, one_more_member}
use Rattle.typst_html_ffi.specs.FindingLists.{where_behind}
use Rattle.typst_html_ffi.proofs.misnested.push_node.Goals as goal

pub returns : goal.returns
returns c =
    let rule = string (rule_name c.args.why) in
    let why = string (rule_words c.args.why) in
    let behind = where_behind c.args.previous.now c.args.path.now c.args.place in
    let later = member (codes "why") why behind in
    let named = string_bytes c.push_key.new.text in
    let worded = string_bytes c.push_key-2.new.text in
    c.in_ok-push_where.ensures
    ∙ one_more_member true (codes "why") why behind _ _ _ _
    (one_more_member false (codes "rule") rule later _ _ _ _
    (no_member_yet (member (codes "rule") rule later) _ _ c.in_ok-push_str.ensures.bytes)
    c.in_ok-push_key.ensures (c.in_ok-push_string.ensures
    ∙ ap (λ name. named ++ compact_text (string name)) c.name.ensures))
    c.in_ok-push_key-2.ensures (c.in_ok-push_string-2.ensures
    ∙ ap (λ words. worded ++ compact_text (string words)) c.words.ensures)
