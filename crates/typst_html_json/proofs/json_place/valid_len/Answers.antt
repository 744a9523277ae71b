use Rattle.std.proofs.{Common.{IsUtf8, sym, rules}, lemmas.Str.{utf8_valid_len-IsUtf8}}
use Rattle.typst_html_json.proofs.json_place.valid_len.Goals as goal

pub returns-in-Ok-clause-count : goal.returns-in-Ok-clause-count
returns-in-Ok-clause-count c =
    let is_text : IsUtf8 c.args.text.now = search rules in
    sym (utf8_valid_len-IsUtf8 c.args.text.now is_text)
