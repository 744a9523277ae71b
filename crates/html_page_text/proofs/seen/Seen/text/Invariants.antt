use Rattle.std.{proofs.Common.{◌≡◌, chars, IsUtf8}, specs.Str.Iter.{chars_rest}}
use Rattle.html_dom_shown.specs.Collapsing.{text_atoms}
use Rattle.html_page_text.specs.{Gathering.{run}, PageViews.{seen_view}}
use Rattle.html_page_text.proofs.seen.Seen.text.Given as goal

abbrev pub invariant-loop-c : goal.invariant-loop-c
invariant-loop-c l =
    record {
      utf8 : IsUtf8 (chars_rest l.c-iterator);
      agrees : run (seen_view l.self) (text_atoms l.preserved (chars (chars_rest l.c-iterator)))
          ≡ run (seen_view l.fn.self) (text_atoms l.preserved (chars l.fn.text));
    }
