use Rattle.std.proofs.{Common.{◌≡◌, rules, sym, ◌∙◌, string_bytes}, lemmas.Str.{IsUtf8-string_bytes}}
use Rattle.std.specs.{Cmp.Lexicographic.{slice_cmp}, Ordering.{nat_cmp}}
use Rattle.html_values_css.proofs.Names.{by_name_bytes}
use Rattle.html_values_css.proofs.property_list.compare.Goals as goal

pub returns : goal.returns
returns c =
    let bytes : c.cmp.result ≡ slice_cmp nat_cmp (string_bytes c.args.property.now.name)
    c.args.name.now = search rules in
    bytes ∙ sym (by_name_bytes (string_bytes c.args.property.now.name) c.args.name.now
    (IsUtf8-string_bytes c.args.property.now.name) c.utf8.name)
