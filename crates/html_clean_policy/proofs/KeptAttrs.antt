-- The attributes that stay of an element.
use Rattle.std.proofs.Common.{◌≡◌, ◌≤◌, ◌⊎◌, ℕ, Bool, true, false, not, ◌&&◌, cond, List, [], ◌∷◌, ◌++◌, Option, Some, None, ap, arith, length, refl, subst, sym, ◌∙◌, take}
use Rattle.std.proofs.lemmas.{Bool.{and_parts}, Bool.Decides.{nat_tests}, List.{length-append, length-take, take-take}}
use Rattle.std.specs.{Char.{is_ascii_whitespace}, List.{AllByRecursion, filter_map, list_all}, Prelude.{codes}}
use Rattle.html_names_core.specs.{Characters.{all}, Names.{stands_in}, Texts.{TextPair}}
use Rattle.html_clean_values.specs.Replaced.{is_plain_char}
use Rattle.html_clean_values.proofs.JoinedWords.{prefixed_words_once, prefixed_words_passes}
use Rattle.html_clean_values.proofs.PrefixLaws.{prefixed_href_once, prefixed_href_passes, prefixed_name_once, prefixed_name_passes}
use Rattle.html_clean_styles.specs.Styles.{clean_style, is_property_name}
use Rattle.html_clean_styles.proofs.Again.{clean_styles_are_text, clean_styles_stay}
use Rattle.html_clean_policy.proofs.KeptTexts.{TextLaws, is_written, kept_again, kept_allowed, kept_parts, kept_written, rel_allowed, rel_stays}
use Rattle.html_clean_policy.proofs.Pairs.{Stays, all_are, all_filtered, all_mapped, all_taken, all_tested, all_with_last, each_tested, length_filtered, mapped_stay}
use Rattle.html_clean_policy.proofs.Rels.{rel_again}
use Rattle.html_clean_policy.specs.AttrNames.{is_barred, is_srcdoc, may_stay}
use Rattle.html_clean_policy.specs.AttrUses.{use_of}
use Rattle.html_clean_policy.specs.KeptAttrs.{attrs_kept, kept_pair, pairs_kept, urls_stay}
use Rattle.html_clean_policy.specs.Laws.{FewAttrsAreKept, KeptAttrsStay, KeptNamesAreThere, KeptUrlsAreAllowed, KeptValuesAreWritten, NoBarredAttrIsKept}
use Rattle.html_clean_policy.specs.LinkRels.{cut_pairs, is_link, is_rel, leads, with_rel, without_rel}
use Rattle.html_clean_policy.specs.{Policies.{IsSound, PolicyView}, Sound.{is_prefix_char, is_rel_text}}

-- what is known of a policy's texts

all_from : (p q : ℕ → Bool) → ((c : ℕ) → p c ≡ true → q c ≡ true) → (cs : List ℕ) →
    list_all p cs ≡ true → all q cs ≡ true
all_from p q each [] is = refl
all_from p q each (c ∷ cs) is =
    let both = and_parts (p c) (list_all p cs) is in
    ap (λ b. b && all q cs) (each c both.0) ∙ all_from p q each cs both.1

prefix_plain : (c : ℕ) → is_prefix_char c ≡ true → is_plain_char c ≡ true
prefix_plain c is = grind (arith, nat_tests)

prefix_no_space : (c : ℕ) → is_prefix_char c ≡ true → not (is_ascii_whitespace c) ≡ true
prefix_no_space c is = grind (arith, nat_tests)

pub laws_of : (p : PolicyView) → IsSound p → TextLaws p
laws_of p sound =
    let both = and_parts (list_all is_property_name p.properties && list_all is_prefix_char p.prefix)
    (is_rel_text p.rel) sound in
    let first = and_parts (list_all is_property_name p.properties) (list_all is_prefix_char p.prefix)
    both.0 in
    let plain : all is_plain_char p.prefix ≡ true =
    all_from is_prefix_char is_plain_char prefix_plain p.prefix first.1 in
    let solid : all (λ c. not (is_ascii_whitespace c)) p.prefix ≡ true =
    all_from is_prefix_char (λ c. not (is_ascii_whitespace c)) prefix_no_space p.prefix first.1 in
    record {
      style_again = λ t. clean_styles_stay p.properties t first.0;
      href_again = λ t. prefixed_href_once p.prefix t;
      name_again = λ t. prefixed_name_once p.prefix t;
      words_again = λ t. prefixed_words_once p.prefix t solid;
      style_written = λ t. all_from is_plain_char is_plain_char (λ c e. e)
          (clean_style p.properties t) (clean_styles_are_text p.properties t first.0);
      href_written = λ t is. prefixed_href_passes is_plain_char p.prefix t plain is;
      name_written = λ t is. prefixed_name_passes is_plain_char p.prefix t plain is;
      words_written = λ t is. prefixed_words_passes is_plain_char p.prefix t refl plain is;
    }

rel_written : (p : PolicyView) → IsSound p → (rel : List ℕ) → p.rel ≡ Some rel →
    is_written rel ≡ true
rel_written p sound rel is =
    let both = and_parts (list_all is_property_name p.properties && list_all is_prefix_char p.prefix)
    (is_rel_text p.rel) sound in
    all_from is_plain_char is_plain_char (λ c e. e) rel (ap is_rel_text (sym is) ∙ both.1)

-- what holds of each attribute that stays and of the `rel` holds of all

module _ (P : TextPair → Type 0) where
  rel_given : (rel : List ℕ) (pairs : List TextPair) → AllByRecursion P pairs →
      P (codes "rel", rel) → AllByRecursion P (with_rel rel pairs)
  rel_given rel pairs all last = by (leads pairs)
    where
      by : (b : Bool) →
          AllByRecursion P (cond b (without_rel pairs ++ (codes "rel", rel) ∷ []) pairs)
      by true = all_with_last P (without_rel pairs) (codes "rel", rel)
          (all_filtered P (λ pair. not (is_rel pair.0)) pairs all) last
      by false = all

  pub all_cut : (element : List ℕ) (pairs : List TextPair) → AllByRecursion P pairs →
      (rel : Option (List ℕ)) → ((text : List ℕ) → rel ≡ Some text → P (codes "rel", text)) →
      AllByRecursion P (cut_pairs rel element pairs)
  all_cut element pairs all None last = all_taken P 256 pairs all
  all_cut element pairs all (Some text) last = by (is_link element)
    where
      by : (b : Bool) →
          AllByRecursion P (cond b (with_rel text (take 255 pairs)) (take 256 pairs))
      by true = rel_given text (take 255 pairs) (all_taken P 255 pairs all) (last text refl)
      by false = all_taken P 256 pairs all

  pub all_kept : (R : TextPair → Type 0) (p : PolicyView) (element : List ℕ)
      (pairs : List TextPair) → AllByRecursion R pairs →
      ((pair kept : TextPair) → R pair → kept_pair p element pair ≡ Some kept → P kept) →
      ((text : List ℕ) → p.rel ≡ Some text → P (codes "rel", text)) →
      AllByRecursion P (attrs_kept p element pairs)
  unfolding attrs_kept
  all_kept R p element pairs all each last =
      all_cut element (pairs_kept p element pairs)
      (all_mapped (kept_pair p element) R P each pairs all) p.rel last

abbrev pub Any : TextPair → Type 0
Any pair = Unit {0}

pub any : (pairs : List TextPair) → AllByRecursion Any pairs
any = all_are (λ pair. tt)

-- the laws

pub kept_values_are_written : KeptValuesAreWritten
kept_values_are_written p element pairs sound =
    all_tested (λ pair. is_written pair.1) (attrs_kept p element pairs)
    (all_kept (λ pair. is_written pair.1 ≡ true) Any p element pairs (any pairs)
    (λ pair kept _ e. kept_written p (laws_of p sound) element pair kept e)
    (λ text is. rel_written p sound text is))

pub kept_urls_are_allowed : KeptUrlsAreAllowed
kept_urls_are_allowed p element pairs =
    all_tested (λ pair. urls_stay p (use_of pair.0) pair.1) (attrs_kept p element pairs)
    (all_kept (λ pair. urls_stay p (use_of pair.0) pair.1 ≡ true) Any p element pairs (any pairs)
    (λ pair kept _ e. kept_allowed p element pair kept e)
    (λ text is. rel_allowed p text))

rel_not_barred : not (is_barred (codes "rel")) ≡ true
unfolding is_barred is_srcdoc stands_in
rel_not_barred = refl

may_not_barred : (p : PolicyView) (element name : List ℕ) → may_stay p element name ≡ true →
    not (is_barred name) ≡ true
unfolding may_stay
may_not_barred p element name may = (and_parts _ (not (is_barred name)) may).1

pub no_barred_attr_is_kept : NoBarredAttrIsKept
no_barred_attr_is_kept p element pairs =
    all_tested (λ pair. not (is_barred pair.0)) (attrs_kept p element pairs)
    (all_kept (λ pair. not (is_barred pair.0) ≡ true) Any p element pairs (any pairs)
    (λ pair kept _ e. let parts = kept_parts p element pair kept e in
    ap (λ n. not (is_barred n)) parts.name ∙ may_not_barred p element pair.0 parts.may)
    (λ text is. rel_not_barred))

pub kept_names_are_there : KeptNamesAreThere
kept_names_are_there is_name p element pairs rel all =
    all_tested (λ pair. is_name pair.0) (attrs_kept p element pairs)
    (all_kept (λ pair. is_name pair.0 ≡ true) (λ pair. is_name pair.0 ≡ true) p element pairs
    (each_tested (λ pair. is_name pair.0) pairs all)
    (λ pair kept is e. ap is_name (kept_parts p element pair kept e).name ∙ is)
    (λ text is. rel))

-- the same of a property of names
pub kept_names_have : (P : List ℕ → Type 0) (p : PolicyView) (element : List ℕ)
    (pairs : List TextPair) → P (codes "rel") → AllByRecursion (λ pair. P pair.0) pairs →
    AllByRecursion (λ pair. P pair.0) (attrs_kept p element pairs)
kept_names_have P p element pairs rel all =
    all_kept (λ pair. P pair.0) (λ pair. P pair.0) p element pairs all
    (λ pair kept is e. subst P (sym (kept_parts p element pair kept e).name) is)
    (λ text is. rel)

few_taken : (n : ℕ) (pairs : List TextPair) → length (take n pairs) ≤ n
few_taken n pairs = omega (arith, length-take n pairs)

few_given : (rel : List ℕ) (pairs : List TextPair) → length pairs ≤ 255 →
    length (with_rel rel pairs) ≤ 256
few_given rel pairs few = by (leads pairs)
  where
    by : (b : Bool) → length (cond b (without_rel pairs ++ (codes "rel", rel) ∷ []) pairs) ≤ 256
    by true = omega (
      arith,
      few,
      length_filtered (λ pair. not (is_rel pair.0)) pairs,
      length-append (without_rel pairs) ((codes "rel", rel) ∷ []),
    )
    by false = omega (arith, few)

few_cut : (rel : Option (List ℕ)) (element : List ℕ) (pairs : List TextPair) →
    length (cut_pairs rel element pairs) ≤ 256
few_cut None element pairs = few_taken 256 pairs
few_cut (Some text) element pairs = by (is_link element)
  where
    by : (b : Bool) →
        length (cond b (with_rel text (take 255 pairs)) (take 256 pairs)) ≤ 256
    by true = few_given text (take 255 pairs) (few_taken 255 pairs)
    by false = few_taken 256 pairs

pub few_attrs_are_kept : FewAttrsAreKept
unfolding attrs_kept
few_attrs_are_kept p element pairs = few_cut p.rel element (pairs_kept p element pairs)

taken_again : (f : TextPair → Option TextPair) (n : ℕ) (pairs : List TextPair) →
    AllByRecursion (Stays f) pairs → take n (filter_map f (take n pairs)) ≡ take n pairs
taken_again f n pairs all =
    ap (take n) (mapped_stay f (take n pairs) (all_taken (Stays f) n pairs all))
    ∙ take-take n n pairs (omega arith)

cut_again : (f : TextPair → Option TextPair) (element : List ℕ) (pairs : List TextPair) →
    AllByRecursion (Stays f) pairs → (rel : Option (List ℕ)) →
    ((text : List ℕ) → rel ≡ Some text →
    (f (codes "rel", text) ≡ None) ⊎ (f (codes "rel", text) ≡ Some (codes "rel", text))) →
    cut_pairs rel element (filter_map f (cut_pairs rel element pairs))
    ≡ cut_pairs rel element pairs
cut_again f element pairs all None stays = taken_again f 256 pairs all
cut_again f element pairs all (Some text) stays = by (is_link element)
  where
    by : (b : Bool) →
        cond b
        (with_rel text (take 255
        (filter_map f (cond b (with_rel text (take 255 pairs)) (take 256 pairs)))))
        (take 256 (filter_map f (cond b (with_rel text (take 255 pairs)) (take 256 pairs))))
        ≡ cond b (with_rel text (take 255 pairs)) (take 256 pairs)
    by true = rel_again f text (stays text refl) 255 (take 255 pairs)
        (all_taken (Stays f) 255 pairs all) (few_taken 255 pairs)
    by false = taken_again f 256 pairs all

pub kept_attrs_stay : KeptAttrsStay
unfolding attrs_kept
kept_attrs_stay p element pairs sound =
    cut_again (kept_pair p element) element (pairs_kept p element pairs)
    (all_mapped (kept_pair p element) Any (Stays (kept_pair p element))
    (λ pair kept _ e. kept_again p (laws_of p sound) element pair kept e) pairs (any pairs))
    p.rel (λ text is. rel_stays p element text (rel_written p sound text is))
