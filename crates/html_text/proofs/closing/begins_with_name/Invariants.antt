use Rattle.std.{proofs.Common.{◌≡◌, ℕ, List, IsUtf8, chars, map}, specs.Char.{to_ascii_lowercase}, specs.Str.Iter.{chars_rest}}
use Rattle.html_text.specs.ClosingTags as ending
use Rattle.html_text.proofs.closing.begins_with_name.Given as goal

abbrev pub invariant-loop-expected : goal.invariant-loop-expected
invariant-loop-expected l =
    let small : List ℕ → List ℕ = λ name. map to_ascii_lowercase (chars name) in
    record {
      name_utf8 : IsUtf8 (chars_rest l.expected-iterator);
      text_utf8 : IsUtf8 (chars_rest l.left);
      same : ending.begins_closing (small (chars_rest l.expected-iterator)) (chars (chars_rest l.left))
          ≡ ending.begins_closing (small l.name) (chars l.text);
    }
