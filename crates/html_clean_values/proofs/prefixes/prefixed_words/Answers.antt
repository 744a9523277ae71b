use Rattle.std.proofs.Common.{rules, ◌++◌, ◌∷◌, [], List, ℕ, lit<, chars, map, sym, ap, ◌∙◌}
use Rattle.std.proofs.lemmas.Str.{IsUtf8-from_ascii, IsUtf8-nil, chars-IsAscii, chars-nil}
use Rattle.std.proofs.lemmas.Str.Ascii.{IsAscii-cons, IsAscii-nil}
use Rattle.std.specs.Str.{IsAscii}
use Rattle.html_clean_values.proofs.Prefixing.{continued, joined_is, one_continued}
use Rattle.html_clean_values.specs.{Prefixes.{prefixed, prefixed_words}, Words.{words}}
use Rattle.html_clean_values.proofs.prefixes.prefixed_words.Goals as goal

space : IsAscii (32 ∷ [])
space = IsAscii-cons 32 [] (lit< tt) IsAscii-nil

pub loop-word-init : goal.loop-word-init
unfolding prefixed_words
loop-word-init c =
    let ws = map (prefixed (chars c.args.prefix.now)) (words (chars c.args.text.now)) in
    record {
      is_text = search rules;
      is_separator = IsUtf8-nil;
      same = ap (λ l. l ++ continued (chars []) ws) c.new-made.ensures
          ∙ (ap (λ s. continued s ws) chars-nil ∙ sym (joined_is ws));
    }

pub loop-word-preserved : goal.loop-word-preserved
loop-word-preserved c =
    let held = c.loop-word.invariant in
    let p : List ℕ → List ℕ = prefixed (chars c.args.prefix.now) in
    let made = c.loop-word.made in
    let before = chars c.loop-word.separator.now in
    let word = p (chars c.in-Some.word.now) in
    let others = map p (words (chars c.in-Some.rest.now)) in
    record {
      is_text = search rules;
      is_separator = IsUtf8-from_ascii (32 ∷ []) space;
      same = ap (λ l. l ++ continued (chars (32 ∷ [])) others)
          (c.in_ok-push_prefixed.ensures ∙ ap (λ m. m ++ word) c.in_ok-push_str.ensures.added)
          ∙ (ap (λ s. ((made ++ before) ++ word) ++ continued s others)
          (chars-IsAscii (32 ∷ []) space)
          ∙ (sym (one_continued made before word others)
          ∙ (ap (λ ws. made ++ continued before (map p ws)) (sym c.in-Some.ensures.words)
          ∙ held.same)));
    }
