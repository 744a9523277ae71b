-- The text of a sum is worth the sum of its parts.
use Rattle.std.proofs.Common.{◌≡◌, ℕ, zero, suc, ◌<◌, ◌/◌, ◌%◌, ◌^◌, ◌==◌, ℤ, pos, negsuc, neg_ℤ, List, [], ◌∷◌, ◌++◌, length, map, Bool, true, false, not, cond, if◌then◌else◌, Some, option_map, refl, sym, ap, ◌∙◌, codes, append_assoc, append-nil, arith}
use Rattle.std.proofs.lemmas.{Bool.Decides.{nat_tests}, Fmt.{decimal_is_IsNumeral}}
use Rattle.std.specs.{Fmt.{decimal}, List.{AllByRecursion, filter, flat_map}, Str.Parse.{AllDigits}}
use lib.IntN.{+ℤ_idl, +ℤ_idr}
use Rattle.html_names_core.specs.Names.{listed_names}
use Rattle.html_values_css.proofs.Digits.{whole_fits, power_above}
use Rattle.html_values_css.proofs.Values.{of_abs, of_em, of_ratio, abs_value, em_value, ratio_value, fraction_all}
use Rattle.html_values_css.specs.Lengths.{Amounts, nothing, negative_amounts, amounts_sum, both, part_value, value_with_sign, terms, sum_value, before_close, of_body, css_value, round, LengthValue, RelValue}
use Rattle.html_values_css.specs.Quantities.{IsQuantity, is_zero, is_negative, nearest_hundreds, point_text, sign_text, fixed_text}
use Rattle.html_values_css.specs.Sums.{Part, following_part, whole_sum, sum_text, quantity_part}

abbrev pub IsWord : List ℕ → Type 0
IsWord = AllByRecursion (λ c. (c == 32) ≡ false)

words_join : (a b : List ℕ) → IsWord a → IsWord b → IsWord (a ++ b)
words_join [] b p q = q
words_join (c ∷ cs) b p q = (p.0, words_join cs b p.1 q)

one_word : (a : List ℕ) → IsWord a → listed_names a ≡ a ∷ []
one_word [] p = refl
one_word (c ∷ cs) p = rw (p.0, one_word cs p.1) refl

first_word : (a b : List ℕ) → IsWord a → listed_names (a ++ 32 ∷ b) ≡ a ∷ listed_names b
first_word [] b p = refl
first_word (c ∷ cs) b p = rw (p.0, first_word cs b p.1) refl

digits_word : (ds : List ℕ) → AllDigits 10 ds → IsWord ds
digits_word [] a = tt
digits_word (d ∷ ds) a = (grind (arith, nat_tests, a.0), digits_word ds a.1)

sign_word : (z : ℤ) (r : ℕ) → IsWord (sign_text z r)
sign_word (pos n) r = tt
sign_word (negsuc n) zero = tt
sign_word (negsuc n) (suc r) = (refl, tt)

point_word : (k f : ℕ) → f < 10 ^ k → IsWord (point_text k f)
point_word k zero h = tt
point_word k (suc f) h = (refl, digits_word _ (fraction_all k (suc f) h))

-- more than one character, and the first is no `c`
pub record IsPart (text : List ℕ) : Type 0 where
  pub first : ℕ
  pub second : ℕ
  pub rest : List ℕ
  pub is : text ≡ first ∷ second ∷ rest
  pub no_call : (first == 99) ≡ false

two : (d u : ℕ) (ds us : List ℕ) → (d == 99) ≡ false → IsPart ((d ∷ ds) ++ u ∷ us)
two d u [] us h = record { first = d; second = u; rest = us; is = refl; no_call = h }
two d u (e ∷ ds) us h =
    record { first = d; second = e; rest = ds ++ u ∷ us; is = refl; no_call = h }

begins_part : (ds rest : List ℕ) → 0 < length ds → AllDigits 10 ds → 0 < length rest
    → IsPart (ds ++ rest)
begins_part [] rest h a l = absurd (omega (arith, h))
begins_part (d ∷ ds) [] h a l = absurd (omega (arith, l))
begins_part (d ∷ ds) (u ∷ us) h a l = two d u ds us (grind (arith, nat_tests, a.0))

signed_part : (z : ℤ) (r : ℕ) (ds rest : List ℕ) → 0 < length ds → AllDigits 10 ds → 0 < length rest
    → IsPart (sign_text z r ++ (ds ++ rest))
signed_part (pos n) r ds rest h a l = begins_part ds rest h a l
signed_part (negsuc n) zero ds rest h a l = begins_part ds rest h a l
signed_part (negsuc n) (suc r) [] rest h a l = absurd (omega (arith, h))
signed_part (negsuc n) (suc r) (d ∷ ds) rest h a l = two 45 d [] (ds ++ rest) refl

longer : (a b : List ℕ) → 0 < length b → 0 < length (a ++ b)
longer [] b h = h
longer (c ∷ cs) b h = omega arith

module _ (k : ℕ) (u : List ℕ) (unit_word : IsWord u) (some_unit : 0 < length u) (z : ℤ)
    (q : IsQuantity z) where
  whole : List ℕ
  whole = decimal (nearest_hundreds z / 10 ^ k)

  point : List ℕ
  point = point_text k (nearest_hundreds z % 10 ^ k)

  parted : fixed_text k z ++ u ≡ sign_text z (nearest_hundreds z) ++ (whole ++ (point ++ u))
  unfolding whole point
  parted = append_assoc (sign_text z (nearest_hundreds z) ++ whole) point u
      ∙ append_assoc (sign_text z (nearest_hundreds z)) whole (point ++ u)

  pub text_word : IsWord (fixed_text k z ++ u)
  unfolding whole point
  text_word =
      let above = power_above k in
      let numeral = decimal_is_IsNumeral (nearest_hundreds z / 10 ^ k) (whole_fits k z q) in
      rw parted (words_join (sign_text z (nearest_hundreds z)) (whole ++ (point ++ u))
      (sign_word z (nearest_hundreds z))
      (words_join whole (point ++ u) (digits_word whole numeral.0.1)
      (words_join point u (point_word k (nearest_hundreds z % 10 ^ k) (omega arith)) unit_word)))

  pub text_part : IsPart (fixed_text k z ++ u)
  unfolding whole point
  text_part =
      let numeral = decimal_is_IsNumeral (nearest_hundreds z / 10 ^ k) (whole_fits k z q) in
      rw parted (signed_part z (nearest_hundreds z) whole (point ++ u) numeral.0.0 numeral.0.1
      (longer point u some_unit))

-- a quantity in a sum, with what its text is worth
pub record Term : Type 0 where
  pub text : ℤ → List ℕ
  pub amount : ℤ → Amounts
  pub z : ℤ
  pub value : part_value (text z) ≡ Some (amount (round z))
  pub word : IsWord (text z)
  pub part : IsPart (text z)
  pub opposite_value : part_value (text (neg_ℤ z)) ≡ Some (amount (round (neg_ℤ z)))
  pub opposite_word : IsWord (text (neg_ℤ z))
  pub turns : (a : ℤ) → negative_amounts (amount a) ≡ amount (neg_ℤ a)
  pub zero_is : amount (pos 0) ≡ nothing

abbrev as_part : Term → Part
as_part t = quantity_part t.text t.z

abbrev total : List Term → Amounts
total [] = nothing
total (t ∷ ts) = amounts_sum (t.amount (round t.z)) (total ts)

abbrev words : List Term → List (List ℕ)
words [] = []
words (t ∷ ts) = (if is_negative t.z then codes "-" else codes "+") ∷
    (if is_negative t.z then t.text (neg_ℤ t.z) else t.text t.z) ∷ words ts

next_word : (b : Bool) (w x y rest : List ℕ) (ws : List (List ℕ)) → IsWord w → IsWord x → IsWord y
    → ((v : List ℕ) → IsWord v → listed_names (v ++ rest) ≡ v ∷ ws)
    → listed_names (w ++ ((if b then codes " - " ++ x else codes " + " ++ y) ++ rest))
    ≡ w ∷ (if b then codes "-" else codes "+") ∷ (if b then x else y) ∷ ws
next_word true w x y rest ws p q r h = first_word w (codes "- " ++ x ++ rest) p
    ∙ ap (λ l. w ∷ l) (first_word (codes "-") (x ++ rest) (refl, tt)
    ∙ ap (λ l. codes "-" ∷ l) (h x q))
next_word false w x y rest ws p q r h = first_word w (codes "+ " ++ y ++ rest) p
    ∙ ap (λ l. w ∷ l) (first_word (codes "+") (y ++ rest) (refl, tt)
    ∙ ap (λ l. codes "+" ∷ l) (h y r))

listed_sum : (ts : List Term) (w : List ℕ) → IsWord w
    → listed_names (w ++ flat_map following_part (map as_part ts)) ≡ w ∷ words ts
listed_sum [] w p = ap listed_names (append-nil w) ∙ one_word w p
listed_sum (t ∷ ts) w p = next_word (is_negative t.z) w (t.text (neg_ℤ t.z)) (t.text t.z)
    (flat_map following_part (map as_part ts)) (words ts) p t.opposite_word t.word (listed_sum ts)

signed_value : (t : Term) → value_with_sign (if is_negative t.z then codes "-" else codes "+")
    (part_value (if is_negative t.z then t.text (neg_ℤ t.z) else t.text t.z))
    ≡ Some (t.amount (round t.z))
signed_value t = by t.z t.value t.opposite_value
  where
    by : (z : ℤ) → part_value (t.text z) ≡ Some (t.amount (round z)) → part_value (t.text (neg_ℤ z))
        ≡ Some (t.amount (round (neg_ℤ z)))
        → value_with_sign (if is_negative z then codes "-" else codes "+")
        (part_value (if is_negative z then t.text (neg_ℤ z) else t.text z))
        ≡ Some (t.amount (round z))
    by (pos n) v o = v
    by (negsuc n) v o = ap (option_map negative_amounts) o ∙ ap Some (t.turns (round (pos (suc n))))

terms_value : (ts : List Term) → terms (words ts) ≡ Some (total ts)
terms_value [] = refl
terms_value (t ∷ ts) = rw (signed_value t, terms_value ts) refl

without_end : (b : List ℕ) → before_close (b ++ codes ")") ≡ Some b
without_end [] = refl
without_end (c ∷ []) = refl
without_end (c ∷ d ∷ cs) = ap (option_map (λ body. c ∷ body)) (without_end (d ∷ cs))

alone : (text : List ℕ) → IsPart text → css_value text ≡ part_value text
alone text p = rw p.is (grind (arith, p.no_call))

added_nothing : (a : Amounts) → amounts_sum a nothing ≡ a
added_nothing a = rw (+ℤ_idr a.ratio, +ℤ_idr a.em, +ℤ_idr a.abs) refl

nothing_added : (a : Amounts) → amounts_sum nothing a ≡ a
nothing_added a = rw (+ℤ_idl a.ratio, +ℤ_idl a.em, +ℤ_idl a.abs) refl

enclosed_value : (ts : List Term) → css_value (whole_sum (map as_part ts)) ≡ Some (total ts)
enclosed_value [] = refl
enclosed_value (t ∷ []) = alone (t.text t.z) t.part ∙ t.value
    ∙ ap Some (sym (added_nothing (t.amount (round t.z))))
enclosed_value (t ∷ s ∷ ts) =
    let first = t.text t.z in
    let others = flat_map following_part (map as_part (s ∷ ts)) in
    ap css_value (append_assoc (codes "calc(" ++ first) others (codes ")")
    ∙ append_assoc (codes "calc(") first (others ++ codes ")")
    ∙ ap (λ l. codes "calc(" ++ l) (sym (append_assoc first others (codes ")"))))
    ∙ ap (of_body (codes "calc(" ++ ((first ++ others) ++ codes ")")))
    (without_end (first ++ others))
    ∙ ap sum_value (listed_sum (s ∷ ts) first t.word)
    ∙ ap (λ v. both v (terms (words (s ∷ ts)))) t.value
    ∙ ap (both (Some (t.amount (round t.z)))) (terms_value (s ∷ ts))

live : List Term → List Term
live ts = filter (λ t. not (is_zero t.z)) ts

live_parts : (ts : List Term) → filter (λ p. not (is_zero p.number)) (map as_part ts)
    ≡ map as_part (live ts)
unfolding live
live_parts [] = refl
live_parts (t ∷ ts) = grind (arith, live_parts ts)

live_total : (ts : List Term) → total (live ts) ≡ total ts
unfolding live
live_total [] = refl
live_total (t ∷ ts) = by t.z refl (live_total ts)
  where
    zero_part : t.z ≡ pos 0 → total (live ts) ≡ total ts → total (live ts)
        ≡ amounts_sum (t.amount (round t.z)) (total ts)
    zero_part e h = h ∙ sym (nothing_added (total ts))
        ∙ ap (λ a. amounts_sum a (total ts)) (sym (ap (λ z. t.amount (round z)) e ∙ t.zero_is))

    by : (z : ℤ) → t.z ≡ z → total (live ts) ≡ total ts
        → total (cond (not (is_zero z)) (t ∷ live ts) (live ts))
        ≡ amounts_sum (t.amount (round t.z)) (total ts)
    by (pos zero) e h = zero_part e h
    by (pos (suc n)) e h = ap (amounts_sum (t.amount (round t.z))) h
    by (negsuc n) e h = ap (amounts_sum (t.amount (round t.z))) h

pub sum_worth : (ts : List Term) → css_value (sum_text (map as_part ts)) ≡ Some (total ts)
sum_worth ts = ap (λ ps. css_value (whole_sum ps)) (live_parts ts) ∙ enclosed_value (live ts)
    ∙ ap Some (live_total ts)

-- a term of each unit
opposite_fits : (z : ℤ) → IsQuantity z → IsQuantity (neg_ℤ z)
opposite_fits (pos zero) q = q
opposite_fits (pos (suc n)) q = q
opposite_fits (negsuc n) q = q

module _ (k : ℕ) (u : List ℕ) (amount : ℤ → Amounts) (unit_word : IsWord u)
    (some_unit : 0 < length u) (turned : (a : ℤ) → negative_amounts (amount a) ≡ amount (neg_ℤ a))
    (none : amount (pos 0) ≡ nothing)
    (worth : (z : ℤ) → IsQuantity z → part_value (fixed_text k z ++ u) ≡ Some (amount (round z)))
  where
    abbrev unit_term : (z : ℤ) → IsQuantity z → Term
    unit_term z q = record {
      text = λ n. fixed_text k n ++ u;
      amount = amount;
      z = z;
      value = worth z q;
      word = text_word k u unit_word some_unit z q;
      part = text_part k u unit_word some_unit z q;
      opposite_value = worth (neg_ℤ z) (opposite_fits z q);
      opposite_word = text_word k u unit_word some_unit (neg_ℤ z) (opposite_fits z q);
      turns = turned;
      zero_is = none;
    }

abbrev abs_term : (z : ℤ) → IsQuantity z → Term
abs_term =
    unit_term 4 (codes "pt") of_abs (refl, (refl, tt)) (omega arith) (λ a. refl) refl abs_value

abbrev em_term : (z : ℤ) → IsQuantity z → Term
em_term = unit_term 4 (codes "em") of_em (refl, (refl, tt)) (omega arith) (λ a. refl) refl em_value

abbrev ratio_term : (z : ℤ) → IsQuantity z → Term
ratio_term = unit_term 2 (codes "%") of_ratio (refl, tt) (omega arith) (λ a. refl) refl ratio_value

pub length_value : LengthValue
length_value em abs p q =
    sum_worth (em_term em p ∷ abs_term abs q ∷ [])
    ∙ ap Some (ap (amounts_sum (of_em (round em))) (added_nothing (of_abs (round abs)))
    ∙ rw (+ℤ_idr (round em), +ℤ_idl (round abs)) refl)

pub rel_value : RelValue
rel_value ratio em abs o p q =
    sum_worth (ratio_term ratio o ∷ em_term em p ∷ abs_term abs q ∷ [])
    ∙ ap Some (ap (λ a. amounts_sum (of_ratio (round ratio)) (amounts_sum (of_em (round em)) a))
    (added_nothing (of_abs (round abs))) ∙ rw (
      +ℤ_idr (round ratio),
      +ℤ_idr (round em),
      +ℤ_idl (round em),
      +ℤ_idl (round abs),
      +ℤ_idl (round abs),
    ) refl)
