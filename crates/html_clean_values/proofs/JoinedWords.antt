-- Laws of words with a prefix.
use Rattle.std.proofs.Common.{◌≡◌, ℕ, Bool, true, false, not, ◌&&◌, List, [], ◌∷◌, ◌++◌, eqb, filter, map, refl, ap, ◌∙◌}
use Rattle.std.proofs.lemmas.{Bool.{and_from, and_parts, not_from_false, not-true}, List.Splits.{slice_split-cons_no, slice_split-cons_yes}}
use Rattle.std.specs.{Char.{is_ascii_whitespace}, List.{list_all, onto_first, slice_split, starts_with}}
use Rattle.html_names_core.specs.Characters.{all}
use Rattle.html_clean_values.proofs.PrefixLaws.{all_append, prefix_comes, prefix_stays, prefixed_once, prefixed_passes}
use Rattle.html_clean_values.specs.Prefixes.{prefixed, prefixed_words}
use Rattle.html_clean_values.specs.{ValueLaws.{PrefixedWordsOnce, PrefixedWordsPasses}, Words.{is_some_word, joined, words}}

abbrev is_word_char : ℕ → Bool
is_word_char c = not (is_ascii_whitespace c)

-- the parts between white space

onto_first_passes : (is : ℕ → Bool) (c : ℕ) (parts : List (List ℕ)) → is c ≡ true →
    list_all (all is) parts ≡ true → list_all (all is) (onto_first c parts) ≡ true
onto_first_passes is c [] first h =
    and_from (all is (c ∷ [])) true (and_from (is c) true first refl) refl
onto_first_passes is c (p ∷ ps) first h =
    let both = and_parts (all is p) (list_all (all is) ps) h in
    and_from (all is (c ∷ p)) (list_all (all is) ps)
    (and_from (is c) (all is p) first both.0) both.1

abbrev parts : List ℕ → List (List ℕ)
parts = slice_split is_ascii_whitespace

parts_step : (is : ℕ → Bool) (c : ℕ) (cs : List ℕ) (b : Bool) → is_ascii_whitespace c ≡ b →
    (is_ascii_whitespace c ≡ false → is c ≡ true) → list_all (all is) (parts cs) ≡ true →
    list_all (all is) (parts (c ∷ cs)) ≡ true
parts_step is c cs true blank first h =
    ap (list_all (all is)) (slice_split-cons_yes is_ascii_whitespace c cs blank) ∙ h
parts_step is c cs false blank first h =
    ap (list_all (all is)) (slice_split-cons_no is_ascii_whitespace c cs blank)
    ∙ onto_first_passes is c (parts cs) (first blank) h

parts_pass : (is : ℕ → Bool) (cs : List ℕ) → all is cs ≡ true → list_all (all is) (parts cs) ≡ true
parts_pass is [] h = refl
parts_pass is (c ∷ cs) h =
    let both = and_parts (is c) (all is cs) h in
    parts_step is c cs (is_ascii_whitespace c) refl (λ _. both.0) (parts_pass is cs both.1)

parts_are : (cs : List ℕ) → list_all (all is_word_char) (parts cs) ≡ true
parts_are [] = refl
parts_are (c ∷ cs) =
    parts_step is_word_char c cs (is_ascii_whitespace c) refl
    (λ blank. not_from_false (is_ascii_whitespace c) blank) (parts_are cs)

-- the words are the parts that are not empty

abbrev is_word : (is : ℕ → Bool) → List ℕ → Bool
is_word is w = is_some_word w && all is w

some_words : (is : ℕ → Bool) (ps : List (List ℕ)) → list_all (all is) ps ≡ true →
    list_all (is_word is) (filter is_some_word ps) ≡ true
some_words is [] h = refl
some_words is ([] ∷ ps) h = some_words is ps h
some_words is ((c ∷ cs) ∷ ps) h =
    let both = and_parts (all is (c ∷ cs)) (list_all (all is) ps) h in
    and_from (all is (c ∷ cs)) (list_all (is_word is) (filter is_some_word ps)) both.0
    (some_words is ps both.1)

words_pass : (is : ℕ → Bool) (text : List ℕ) → all is text ≡ true →
    list_all (is_word is) (words text) ≡ true
unfolding words
words_pass is text h = some_words is (parts text) (parts_pass is text h)

words_are : (text : List ℕ) → list_all (is_word is_word_char) (words text) ≡ true
unfolding words
words_are text = some_words is_word_char (parts text) (parts_are text)

-- words that are joined

part_alone : (w : List ℕ) → all is_word_char w ≡ true → parts w ≡ w ∷ []
part_alone [] h = refl
part_alone (c ∷ cs) h =
    let both = and_parts (is_word_char c) (all is_word_char cs) h in
    slice_split-cons_no is_ascii_whitespace c cs (not-true (is_ascii_whitespace c) both.0)
    ∙ ap (onto_first c) (part_alone cs both.1)

part_first : (w text : List ℕ) → all is_word_char w ≡ true →
    parts (w ++ 32 ∷ text) ≡ w ∷ parts text
part_first [] text h = slice_split-cons_yes is_ascii_whitespace 32 text refl
part_first (c ∷ cs) text h =
    let both = and_parts (is_word_char c) (all is_word_char cs) h in
    slice_split-cons_no is_ascii_whitespace c (cs ++ 32 ∷ text)
    (not-true (is_ascii_whitespace c) both.0)
    ∙ ap (onto_first c) (part_first cs text both.1)

some_first : (w : List ℕ) (ps : List (List ℕ)) → is_some_word w ≡ true →
    filter is_some_word (w ∷ ps) ≡ w ∷ filter is_some_word ps
some_first w ps is = rw is refl

words_of_joined : (ws : List (List ℕ)) → list_all (is_word is_word_char) ws ≡ true →
    words (joined ws) ≡ ws
unfolding words
words_of_joined [] h = refl
words_of_joined (w ∷ []) h =
    let word = and_parts (is_some_word w) (all is_word_char w)
    (and_parts (is_word is_word_char w) true h).0 in
    ap (filter is_some_word) (part_alone w word.1) ∙ some_first w [] word.0
words_of_joined (w ∷ v ∷ ws) h =
    let both = and_parts (is_word is_word_char w) (list_all (is_word is_word_char) (v ∷ ws)) h in
    let word = and_parts (is_some_word w) (all is_word_char w) both.0 in
    ap (filter is_some_word) (part_first w (joined (v ∷ ws)) word.1)
    ∙ (some_first w (parts (joined (v ∷ ws))) word.0
    ∙ ap (λ l. w ∷ l) (words_of_joined (v ∷ ws) both.1))

-- a prefix

longer : (prefix w : List ℕ) → is_some_word w ≡ true → is_some_word (prefix ++ w) ≡ true
longer [] w h = h
longer (c ∷ cs) w h = refl

some_stays : (prefix w : List ℕ) → is_some_word w ≡ true →
    is_some_word (prefixed prefix w) ≡ true
some_stays prefix w h = by (starts_with eqb w prefix) refl where
  by : (b : Bool) → starts_with eqb w prefix ≡ b → is_some_word (prefixed prefix w) ≡ true
  by true begins = ap is_some_word (prefix_stays prefix w begins) ∙ h
  by false begins = ap is_some_word (prefix_comes prefix w begins) ∙ longer prefix w h

all_prefixed : (is : ℕ → Bool) (prefix : List ℕ) (ws : List (List ℕ)) → all is prefix ≡ true →
    list_all (is_word is) ws ≡ true → list_all (is_word is) (map (prefixed prefix) ws) ≡ true
all_prefixed is prefix [] front h = refl
all_prefixed is prefix (w ∷ ws) front h =
    let both = and_parts (is_word is w) (list_all (is_word is) ws) h in
    let word = and_parts (is_some_word w) (all is w) both.0 in
    and_from (is_word is (prefixed prefix w)) (list_all (is_word is) (map (prefixed prefix) ws))
    (and_from (is_some_word (prefixed prefix w)) (all is (prefixed prefix w))
    (some_stays prefix w word.0) (prefixed_passes is prefix w front word.1))
    (all_prefixed is prefix ws front both.1)

all_once : (prefix : List ℕ) (ws : List (List ℕ)) →
    map (prefixed prefix) (map (prefixed prefix) ws) ≡ map (prefixed prefix) ws
all_once prefix [] = refl
all_once prefix (w ∷ ws) =
    ap (λ v. v ∷ map (prefixed prefix) (map (prefixed prefix) ws)) (prefixed_once prefix w)
    ∙ ap (λ l. prefixed prefix w ∷ l) (all_once prefix ws)

pub prefixed_words_once : PrefixedWordsOnce
unfolding prefixed_words
prefixed_words_once prefix text front =
    let ws = map (prefixed prefix) (words text) in
    ap (λ l. joined (map (prefixed prefix) l)) (words_of_joined ws
    (all_prefixed is_word_char prefix (words text) front (words_are text)))
    ∙ ap joined (all_once prefix (words text))

joined_pass : (is : ℕ → Bool) (ws : List (List ℕ)) → is 32 ≡ true →
    list_all (is_word is) ws ≡ true → all is (joined ws) ≡ true
joined_pass is [] space h = refl
joined_pass is (w ∷ []) space h =
    (and_parts (is_some_word w) (all is w) (and_parts (is_word is w) true h).0).1
joined_pass is (w ∷ v ∷ ws) space h =
    let both = and_parts (is_word is w) (list_all (is_word is) (v ∷ ws)) h in
    all_append is w (32 ∷ joined (v ∷ ws)) (and_parts (is_some_word w) (all is w) both.0).1
    (and_from (is 32) (all is (joined (v ∷ ws))) space (joined_pass is (v ∷ ws) space both.1))

pub prefixed_words_passes : PrefixedWordsPasses
unfolding prefixed_words
prefixed_words_passes is prefix text space front back =
    joined_pass is (map (prefixed prefix) (words text)) space
    (all_prefixed is prefix (words text) front (words_pass is text back))
