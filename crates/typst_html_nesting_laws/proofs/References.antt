-- References that are written are read as the characters that they stand for.
use Rattle.std.proofs.Common.{◌≡◌, ℕ, ◌+◌, ◌<◌, Bool, true, false, not, ◌||◌, ◌&&◌, subst, eqb, List, [], ◌∷◌, ◌++◌, Some, None, codes, length, arith, refl, ap, ◌∙◌, sym, append_assoc}
use Rattle.std.proofs.lemmas.{Bool.{eqb-true, and_from, and_parts, ne_eqb, not-true, ltb-true}, Fmt.{digits_is_IsNumeral}}
use Rattle.std.{proofs.lemmas.{List.{append-nil}, Bool.Decides.{nat_tests}}, specs.{Char.{digit_value, len_utf8}, Fmt.{digits}}}
use Rattle.std.specs.{Prelude.{if◌then◌else◌, nat_lt, nat_le}, Str.Parse.{AllDigits, digits_value}}
use Rattle.html_names_core.specs.Characters.{is_text_char, is_control, is_noncharacter}
use Rattle.html_page_nesting.specs.WrittenTexts.{is_return}
use Rattle.typst_html_encode.{proofs.References.{numeric_is, text_scalar}, specs.References.{numeric, reference_to}}
use Rattle.html_page_names.specs.NamedReferences.{legacy_reference, named_reference, value_in_groups}
use Rattle.html_page_names.specs.ReferenceRows.{legacy_groups, other_groups}
use Rattle.html_page_stack.specs.Pages.{Page}
use Rattle.html_page_tree.specs.PageBodies.{is_space}
use Rattle.html_page_read.{proofs.PageStretches.{other}, specs.PageReading.{run}}
use Rattle.html_page_read.specs.PageReferences.{Resolved, continues, continues_number, is_hex_digit, is_surrogate, numbered, numbered_char, number_error, resolved}
use Rattle.html_page_read.specs.PageTokens.{TagDraft, TokenState, Value, Reference, PageReader, in_value, past_char, reference_read, step}
use Rattle.typst_html_nesting_laws.proofs.{Readers.{reading_at, run_on}, Branches.{decide}}
use lib.Utf8.{scalar, scalar_fits}

-- what stands for that character alone
abbrev whole : ℕ → Resolved
whole c = record { chars = c ∷ []; takes_end = true; missing = None; error = None }

-- the characters of the five names are computed where this unfolds
unfoldable named : Unit {0}
unfolding named_reference legacy_reference value_in_groups legacy_groups other_groups
named = tt

-- numbers: a text character stands for itself, and no error is in it
abbrev is_known_control : ℕ → Bool
is_known_control c = not (is_control c) || (eqb c 9) || (eqb c 10) || (eqb c 12) || (eqb c 13)

not_beyond : (c : ℕ) → scalar c ≡ true → nat_lt 0x10_ffff c ≡ false
not_beyond c h = grind (arith, nat_tests)

no_surrogate : (c : ℕ) → scalar c ≡ true → is_surrogate c ≡ false
no_surrogate c h = grind (arith, nat_tests)

not_windows : (c : ℕ) → is_known_control c ≡ true → (nat_le 128 c && nat_lt c 160) ≡ false
not_windows c h = grind (arith, nat_tests)

no_control : (c : ℕ) → is_known_control c ≡ true → (is_control c && not (is_space c)) ≡ false
no_control c h = grind (arith, nat_tests)

number_whole : (c : ℕ) → is_text_char c ≡ true → is_return c ≡ false →
    numbered c (Some 59) ≡ whole c
number_whole c h n =
    let both = and_parts _ _ h in
    let first = and_parts _ _ both.0 in
    let some = other is_text_char c 0 h refl in
    let beyond : nat_lt 0x10_ffff c ≡ false = not_beyond c first.0 in
    let surrogate : is_surrogate c ≡ false = no_surrogate c first.0 in
    let nocharacter : is_noncharacter c ≡ false = not-true _ first.1 in
    let windows : (nat_le 128 c && nat_lt c 160) ≡ false = not_windows c both.1 in
    let control : (is_control c && not (is_space c)) ≡ false = no_control c both.1 in
    let char : numbered_char c ≡ c = rw (some, beyond, surrogate, windows) refl in
    let error : number_error c ≡ None =
    rw (some, beyond, surrogate, nocharacter, control, n) refl in
    cc

number_resolved : (v : Bool) (ds : List ℕ) (c : ℕ) → 0 < length ds → digits_value 16 ds ≡ c →
    is_text_char c ≡ true → is_return c ≡ false → resolved v (35 ∷ 120 ∷ ds) (Some 59) ≡ whole c
unfolding resolved
number_resolved v [] c long e h n = absurd (omega arith)
number_resolved v (d ∷ ds) c long e h n = ap (λ m. numbered m (Some 59)) e ∙ number_whole c h n

-- a character that may stand in a reference
abbrev is_inner : ℕ → Bool
is_inner c = nat_lt 13 c

abbrev all_continue : (since cs : List ℕ) → Bool
all_continue since [] = true
all_continue since (c ∷ cs) = (is_inner c && continues since c) && all_continue (since ++ c ∷ []) cs

digit_continues : (d : ℕ) → digit_value d < 16 → (is_inner d && is_hex_digit d) ≡ true
digit_continues d h = grind (arith, nat_tests)

digits_continue : (xs ds : List ℕ) → AllDigits 16 ds → all_continue (35 ∷ 120 ∷ xs) ds ≡ true
digits_continue xs [] h = refl
digits_continue xs (d ∷ ds) h =
    and_from _ _ (digit_continues d h.0) (digits_continue (xs ++ d ∷ []) ds h.1)

-- what stands between `&` and `;`, where a character is written as a reference
abbrev Spelled : ℕ → Type 0
Spelled c = (between : List ℕ) × (reference_to c ≡ 38 ∷ (between ++ 59 ∷ []))
    × (all_continue [] between ≡ true) × ((v : Bool) → resolved v between (Some 59) ≡ whole c)

by_name : (c named s : ℕ) (ss : List ℕ) → eqb c named ≡ true →
    reference_to named ≡ 38 ∷ ((s ∷ ss) ++ 59 ∷ []) → all_continue [] (s ∷ ss) ≡ true →
    eqb s 35 ≡ false → named_reference (s ∷ ss) ≡ Some (named ∷ []) → Spelled c
unfolding resolved
by_name c named s ss e written inner no_number found = subst Spelled (sym (eqb-true _ _ e))
    (s ∷ ss, written, inner, λ v. rw (no_number, found) refl)

by_number : (c : ℕ) → is_text_char c ≡ true → is_return c ≡ false → reference_to c ≡ numeric c →
    Spelled c
by_number c h n e =
    let small = scalar_fits c (text_scalar c h) in
    let ds = digits 16 false c in
    let k = digits_is_IsNumeral 16 false (omega arith) (omega arith) c (omega arith) in (
      35 ∷ 120 ∷ ds,
      e ∙ numeric_is c,
      digits_continue [] ds k.0.1,
      λ v. number_resolved v ds c k.0.0 k.1 h n,
    )

spelled : (c : ℕ) → is_text_char c ≡ true → is_return c ≡ false → Spelled c
spelled c h n =
    decide (eqb c 38) (λ e. by_name c 38 97 (codes "mp") e refl refl refl (unfold named in refl))
    (λ e38. decide (eqb c 60)
    (λ e. by_name c 60 108 (codes "t") e refl refl refl (unfold named in refl))
    (λ e60. decide (eqb c 62)
    (λ e. by_name c 62 103 (codes "t") e refl refl refl (unfold named in refl))
    (λ e62. decide (eqb c 34)
    (λ e. by_name c 34 113 (codes "uot") e refl refl refl (unfold named in refl))
    (λ e34. decide (eqb c 39)
    (λ e. by_name c 39 97 (codes "pos") e refl refl refl (unfold named in refl))
    (λ e39. by_number c h n (rw (e38, e60, e62, e34, e39) refl))))))

either_false : (b : Bool) → (if b then false else false) ≡ false
either_false true = refl
either_false false = refl

ends_number : (ss : List ℕ) → continues_number ss 59 ≡ false
ends_number [] = refl
ends_number (d ∷ ds) = either_false _

ends_here : (since : List ℕ) → continues since 59 ≡ false
ends_here [] = refl
ends_here (s ∷ ss) = rw (ends_number ss) (either_false (eqb s 35))

-- within a reference
module _ (s : TokenState) (fresh : Bool) (p : Page) where
  abbrev since_at : List ℕ → (place : ℕ) → PageReader
  since_at since place = record { state = Reference since s; reading = reading_at fresh place p }

  one_since : (since : List ℕ) (place c : ℕ) → is_inner c ≡ true → continues since c ≡ true →
      step (since_at since place) c ≡ since_at (since ++ c ∷ []) (place + len_utf8 c)
  one_since since place c inner more =
      let above = ltb-true 13 c inner in
      let e0 : eqb c 0 ≡ false = ne_eqb c 0 (λ e. omega (arith, above, e)) in
      let e10 : eqb c 10 ≡ false = ne_eqb c 10 (λ e. omega (arith, above, e)) in
      let e13 : eqb c 13 ≡ false = ne_eqb c 13 (λ e. omega (arith, above, e)) in
      rw (e0, e10, e13, more) refl

  many_since : (since cs : List ℕ) (place : ℕ) → all_continue since cs ≡ true →
      (end : ℕ) × (run (since_at since place) cs ≡ since_at (since ++ cs) end)
  many_since since [] place h = (place, ap (λ l. since_at l place) (sym (append-nil since)))
  many_since since (c ∷ cs) place h =
      let both = and_parts _ _ h in
      let here = and_parts _ _ both.0 in
      let more = many_since (since ++ c ∷ []) cs (place + len_utf8 c) both.1 in (
        more.0,
        ap (λ q. run q cs) (one_since since place c here.0 here.1)
            ∙ (more.1 ∙ ap (λ l. since_at l more.0) (append_assoc since (c ∷ []) cs)),
      )

  end_since : (since : List ℕ) (place c : ℕ) → ((v : Bool) → resolved v since (Some 59) ≡ whole c) →
      step (since_at since place) 59
      ≡ past_char 59 place (reference_read (c ∷ []) s (reading_at fresh place p))
  end_since since place c e =
      let ended = ends_here since in
      let found = e (in_value s) in
      rw (ended, found) refl

-- where `&` leads to a reference, one that is written does what its character does
pub reference_leads : (s : TokenState) (q : PageReader) (fresh : Bool) (place : ℕ) (p : Page)
    (c : ℕ) → is_text_char c ≡ true → is_return c ≡ false →
    step q 38 ≡ record { state = Reference [] s; reading = reading_at fresh place p } →
    (end : ℕ) × (run q (reference_to c)
    ≡ past_char 59 end (reference_read (c ∷ []) s (reading_at fresh end p)))
reference_leads s q fresh place p c h n start =
    let x : Spelled c = spelled c h n in
    let more = many_since s fresh p [] x.0 place x.2 in
    let last : run (since_at s fresh p x.0 more.0) (59 ∷ [])
    ≡ past_char 59 more.0 (reference_read (c ∷ []) s (reading_at fresh more.0 p)) =
    end_since s fresh p x.0 more.0 c x.3 in (
      more.0,
      ap (run q) x.1 ∙ (ap (λ t. run t (x.0 ++ 59 ∷ [])) start ∙ run_on _ _ _ x.0
          (59 ∷ []) more.1 last),
    )

-- within the quotes of a value
abbrev pub value_at : TagDraft → (attr value : List ℕ) (fresh : Bool) (place : ℕ) → Page →
    PageReader
value_at tag attr value fresh place p =
    record { state = Value tag attr value 34; reading = reading_at fresh place p }

pub value_reference : (tag : TagDraft) (attr value : List ℕ) (fresh : Bool) (place : ℕ) (p : Page)
    (c : ℕ) → is_text_char c ≡ true → is_return c ≡ false →
    (end : ℕ) × (run (value_at tag attr value fresh place p) (reference_to c)
    ≡ value_at tag attr (value ++ c ∷ []) fresh end p)
value_reference tag attr value fresh place p c h n =
    let x = reference_leads (Value tag attr value 34) (value_at tag attr value fresh place p) fresh
    (place + 1) p c h n refl in
    (x.0 + 1, x.1)
