-- The texts in an element that breaks no rule, and how they are written.
use Rattle.std.proofs.Common.{◌≡◌, ℕ, suc, Bool, true, false, ◌||◌, List, [], ◌∷◌, ◌++◌, None, refl, sym, ap, ◌∙◌, arith}
use Rattle.std.proofs.{Math.Bool.{or-false}, lemmas.Bool.{and_from, and_parts, false≢true, not-true, or_from, or_parts}}
use Rattle.std.proofs.lemmas.{Bool.Decides.{nat_tests}, List.Folds.{list_all-append, list_any-append}}
use Rattle.std.specs.{Char.{to_ascii_lowercase}, List.{list_all}, Prelude.{◌==◌}}
use Rattle.html_names_core.{proofs.Basics.{all_append}, specs.Characters.{all, is_element_text_char, is_text_char}}
use Rattle.html_dom_tree.specs.Tree.{tag_node, text_node, element_node, frame_node, NodesView, none, node}
use Rattle.html_page_nesting.specs.{Ancestors.{Ancestor}, Contents.{are_plain, begin_with_feed}, ScriptTexts.{joined_text}}
use Rattle.html_page_nesting.specs.{Misnested.{node_misnested, nodes_misnested}, NestingRules.{text_misnesting}}
use Rattle.html_page_nesting.specs.{Surroundings.{surroundings_of}, WrittenTexts.{has_return, is_plain_char, is_plain_text, is_return}}
use Rattle.html_page_nesting.specs.declared.surroundings.Surroundings.{Surroundings}
use Rattle.html_page_nesting.specs.declared.misnesting.Misnesting.TheVariants as why
use Rattle.typst_html_encode.proofs.{Escapes.{escaped_text-append}, Plainly.{shut}, References.{text_good}, Runs.{left_empty, right_empty}}
use Rattle.typst_html_encode.specs.{ExportFaults.{node_faults, nodes_faults, text_faults}, FrameWriters.{Frames}}
use Rattle.typst_html_encode.specs.Text.{begins_with_feed, escaped_text, escaping_of, node_text, nodes_raw_text, nodes_text}
use Rattle.html_text.specs.ClosingTags.{holds_closing}
use Rattle.typst_html_nesting_laws.proofs.{Branches.{if_none}, Forms.{are_texts}, Rules.{found_none}, Texts.{begins_with_lf}}

pub no_return : (s : List ℕ) (around : Surroundings) → text_misnesting s around ≡ None →
    has_return s ≡ false
no_return s around m = (if_none why.CarriageReturn m).0

pub all_pass : (s : List ℕ) → list_all (λ c. true) s ≡ true
all_pass [] = refl
all_pass (c ∷ cs) = all_pass cs

pub no_returns : (path : List ℕ) (index : ℕ) (above : List Ancestor) (ns : NodesView) →
    nodes_misnested path index above ns ≡ [] → has_return (nodes_raw_text ns) ≡ false
unfolding node_misnested nodes_misnested
no_returns path index above none m = refl
no_returns path index above (node (tag_node t) ns) m = no_returns path (suc index) above ns m
no_returns path index above (node (text_node s span) ns) m =
    list_any-append is_return s (nodes_raw_text ns)
    ∙ or_from _ _ (no_return s (surroundings_of above) (found_none _ _ _ (left_empty _ _ m)))
    (no_returns path (suc index) above ns (right_empty _ _ m))
no_returns path index above (node n ns) m = no_returns path (suc index) above ns (right_empty _ _ m)

-- without one, the writer and the reader agree whether a line feed stands first
pub feed_is : (ns : NodesView) → has_return (nodes_raw_text ns) ≡ false →
    begins_with_feed ns ≡ begin_with_feed ns
feed_is none r = refl
feed_is (node (tag_node t) ns) r = feed_is ns r
feed_is (node (text_node [] span) ns) r = feed_is ns r
feed_is (node (text_node (c ∷ cs) span) ns) r =
    ap (λ b. (c == 10) || b) (or_parts _ _ r).0 ∙ or-false (c == 10)
feed_is (node n ns) r = refl

pub first_feed : (ns : NodesView) → are_texts ns ≡ true → begin_with_feed ns ≡ false →
    begins_with_lf (nodes_raw_text ns) ≡ false
first_feed none a h = refl
first_feed (node (tag_node t) ns) a h = first_feed ns a h
first_feed (node (text_node [] span) ns) a h = first_feed ns a h
first_feed (node (text_node (c ∷ cs) span) ns) a h = h
first_feed (node n ns) a h = absurd (false≢true a)

-- both join the same texts
pub joined_is : (ns : NodesView) → joined_text ns ≡ nodes_raw_text ns
joined_is none = refl
joined_is (node (tag_node t) ns) = joined_is ns
joined_is (node (text_node s span) ns) = ap (λ l. s ++ l) (joined_is ns)
joined_is (node (element_node h kids) ns) = joined_is ns
joined_is (node (frame_node f) ns) = joined_is ns

plain_text_chars : (pre_span : Bool) (s : List ℕ) → is_plain_text pre_span s ≡ true →
    list_all is_plain_char s ≡ true
plain_text_chars pre_span [] h = refl
plain_text_chars pre_span (c ∷ cs) h = (and_parts _ _ h).1

-- plain nodes are texts alone, of plain characters
pub plain_texts : (pre_span : Bool) (ns : NodesView) → are_plain pre_span ns ≡ true →
    (are_texts ns ≡ true) × (list_all is_plain_char (nodes_raw_text ns) ≡ true)
plain_texts pre_span none h = (refl, refl)
plain_texts pre_span (node (tag_node t) ns) h = plain_texts pre_span ns h
plain_texts pre_span (node (text_node s span) ns) h =
    let both = and_parts _ _ h in
    let more = plain_texts pre_span ns both.1 in
    let plain = and_from _ _ (plain_text_chars pre_span s both.0) more.1 in
    (more.0, list_all-append is_plain_char s (nodes_raw_text ns) ∙ plain)
plain_texts pre_span (node n ns) h = absurd (false≢true h)

no_less : (c : ℕ) → is_plain_char c ≡ true → (to_ascii_lowercase c == 60) ≡ false
no_less c h = grind (arith, nat_tests)

-- where no `<` is, no tag is closed
pub none_closes : (name s : List ℕ) → list_all is_plain_char s ≡ true → holds_closing name s ≡ false
none_closes name [] h = refl
none_closes name (c ∷ cs) h =
    let both = and_parts _ _ h in
    rw (no_less c both.0) (none_closes name cs both.1)

all_split : (test : ℕ → Bool) (xs ys : List ℕ) → all test (xs ++ ys) ≡ true →
    (all test xs ≡ true) × (all test ys ≡ true)
all_split test xs ys h = and_parts (all test xs) _ (sym (list_all-append test xs ys) ∙ h)

-- how texts are written

element_char : (c : ℕ) → is_plain_char c ≡ true → is_text_char c ≡ true →
    is_element_text_char c ≡ true
element_char c h k =
    let x = or_parts (c == 38) (c == 60) (not-true _ h) in
    rw (k, x.0, x.1) refl

chars_written : (s : List ℕ) → list_all is_plain_char s ≡ true → all is_text_char s ≡ true →
    escaped_text (escaping_of false) s ≡ s
chars_written [] h k = refl
chars_written (c ∷ cs) h k =
    let plain = and_parts _ _ h in
    let good = and_parts _ _ k in
    rw (element_char c plain.0 good.0) (ap (λ l. c ∷ l) (chars_written cs plain.1 good.1))

plain_written : (pre_span : Bool) (s : List ℕ) → is_plain_text pre_span s ≡ true →
    all is_text_char s ≡ true → escaped_text (escaping_of pre_span) s ≡ s
plain_written pre_span [] h k = refl
plain_written true (c ∷ cs) h k = absurd (false≢true h)
plain_written false (c ∷ cs) h k = chars_written (c ∷ cs) h k

text_clean : (span : ℕ) (s : List ℕ) → all is_text_char s ≡ true →
    text_faults (escaping_of false) span s ≡ []
text_clean span [] h = refl
text_clean span (c ∷ cs) h =
    let both = and_parts (is_text_char c) (all is_text_char cs) h in
    rw both.0 (text_clean span cs both.1)

module _ (frames : Frames) where
  -- plain texts are written as they are
  pub plains_written : (pre_span due : Bool) (level : ℕ) (ns : NodesView) →
      are_plain pre_span ns ≡ true → all is_text_char (nodes_raw_text ns) ≡ true →
      nodes_text frames pre_span due (shut level) ns ≡ nodes_raw_text ns
  unfolding node_text nodes_text
  plains_written pre_span due level none h k = refl
  plains_written pre_span due level (node (tag_node t) ns) h k =
      plains_written pre_span due level ns h k
  plains_written pre_span due level (node (text_node s span) ns) h k =
      let both = and_parts _ _ h in
      let good = all_split is_text_char s (nodes_raw_text ns) k in
      ap (λ l. l ++ nodes_text frames pre_span false (shut level) ns)
      (plain_written pre_span s both.0 good.0)
      ∙ ap (λ l. s ++ l) (plains_written pre_span false level ns both.1 good.1)
  plains_written pre_span due level (node n ns) h k = absurd (false≢true h)

  -- and texts as they are joined
  pub texts_written : (due : Bool) (level : ℕ) (ns : NodesView) → are_texts ns ≡ true →
      nodes_text frames false due (shut level) ns
      ≡ escaped_text (escaping_of false) (nodes_raw_text ns)
  unfolding node_text nodes_text
  texts_written due level none h = refl
  texts_written due level (node (tag_node t) ns) h = texts_written due level ns h
  texts_written due level (node (text_node s span) ns) h = rw (texts_written false level ns h)
      (sym (escaped_text-append (escaping_of false) s (nodes_raw_text ns)))
  texts_written due level (node n ns) h = absurd (false≢true h)

  pub texts_clean : (ns : NodesView) → are_texts ns ≡ true →
      all is_text_char (nodes_raw_text ns) ≡ true → nodes_faults frames false false ns ≡ []
  unfolding node_faults nodes_faults
  texts_clean none h k = refl
  texts_clean (node (tag_node t) ns) h k = texts_clean ns h k
  texts_clean (node (text_node s span) ns) h k =
      let good = all_split is_text_char s (nodes_raw_text ns) k in
      rw (text_clean span s good.0) (texts_clean ns h good.1)
  texts_clean (node n ns) h k = absurd (false≢true h)

  pub texts_good : (pre_span : Bool) (ns : NodesView) → are_texts ns ≡ true →
      nodes_faults frames pre_span false ns ≡ [] → all is_text_char (nodes_raw_text ns) ≡ true
  unfolding node_faults nodes_faults
  texts_good pre_span none h f = refl
  texts_good pre_span (node (tag_node t) ns) h f = texts_good pre_span ns h f
  texts_good pre_span (node (text_node s span) ns) h f = all_append is_text_char s
      (nodes_raw_text ns) (text_good (escaping_of pre_span) span s (left_empty _ _ f))
      (texts_good pre_span ns h (right_empty _ _ f))
  texts_good pre_span (node n ns) h f = absurd (false≢true h)
