use Rattle.std.proofs.Common.{rules, subst}
use Rattle.std.specs.{Prelude.{string_bytes}, Str.{IsUtf8}}
use Rattle.html_clean_policy.proofs.FirstKept.{none_stays, some_stays}
use Rattle.html_clean_policy.proofs.kept.unless_empty.Goals as goal

pub returns-then-is_empty : goal.returns-then-is_empty
returns-then-is_empty c = none_stays (string_bytes c.args.text) (search rules)

pub returns-else-is_empty : goal.returns-else-is_empty
returns-else-is_empty c =
    let utf8 = subst IsUtf8 c.as_str.ensures.value c.as_str.utf8 in
    some_stays (string_bytes c.args.text) utf8 (search rules)
