use Rattle.std.proofs.Common.{◌≡◌, ◌++◌, chars, length, map}
use Rattle.html_clean_values.proofs.Prefixing.{continued}
use Rattle.html_clean_values.specs.{Prefixes.{prefixed, prefixed_words}, Words.{words}}
use denote.Shadow.{shadow}
use denote.Text.{Utf8}
use Rattle.html_clean_values.proofs.prefixes.prefixed_words.Given as goal

abbrev pub invariant-loop-word : goal.invariant-loop-word
invariant-loop-word l = record {
  is_text : shadow (Utf8 l.left);
  is_separator : shadow (Utf8 l.separator);
  same : l.made
      ++ continued (chars l.separator) (map (prefixed (chars l.prefix)) (words (chars l.left)))
      ≡ prefixed_words (chars l.prefix) (chars l.text);
}

abbrev pub decreases-loop-word : goal.decreases-loop-word
decreases-loop-word l = length (chars l.left)
