use Rattle.std.{proofs.Common.{◌≡◌, ◌++◌, IsUtf8, chars, true}, specs.List.{list_all}, specs.Str.Iter.{chars_rest}}
use Rattle.html_names_core.specs.Characters.{is_tag_char}
use Rattle.html_page_read.specs.PageTokens.{coded_chars, coded_name}
use Rattle.html_page_read.proofs.draft.coded_text.Given as goal

abbrev pub invariant-loop-c : goal.invariant-loop-c
invariant-loop-c l =
    record {
      utf8 : IsUtf8 (chars_rest l.c-iterator);
      coded : l.text ++ coded_chars (chars (chars_rest l.c-iterator)) ≡ coded_name (chars l.name);
      valid : list_all is_tag_char l.text ≡ true;
    }
