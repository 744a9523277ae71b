-- The fragment of an `href`, character by character, and where it leads.
use Rattle.std.proofs.Common.{◌≡◌, ◌==◌, ℕ, List, [], ◌∷◌, ◌++◌, Bool, true, false, None, Some, String, Global, IfOk, chars, length, string_bytes, refl, sym, ap, ◌∙◌, arith, append-nil, append_assoc}
use Rattle.std.proofs.lemmas.{Bool.{and_parts}, Str.{IsUtf8-string_bytes, chars-nil, chars_past_char, encodes-chars, encodes-IsAscii}}
use Rattle.std.specs.{List.{filter, list_all}, Prelude.{Result, Ok, Err}, Str.{IsUtf8}, declared.alloc.AllocError.{AllocError}}
use lib.Utf8.{encode, encodes}
use Rattle.percent_encoding.{proofs.PercentLemmas.{IsAscii-percent_encode}, specs.Percent.{percent_encode}}
use Rattle.html_names_core.specs.Texts.{text_view}
use Rattle.html_links.{proofs.SpelledNames.{encoding_is, fragment_set_is, no_blank_is_kept}, specs.Directives.{without_directive}}
use Rattle.html_links.specs.Indicated.{before_end, behind_hash, decoding, if_place, indicated_at, is_control_or_space, is_dropped, is_kept, is_top, leads_to_top, unless_empty, url_end, url_fragment, without_end_blanks}
use Rattle.html_links.specs.{Spellings.{is_in_fragment_set}, TreeNames.{Name}, declared.spellings.TheConstants.{FRAGMENT}}

-- what stands behind the `#`

module _ (rest later : List ℕ) (c : ℕ) (u : IsUtf8 rest) (parts : rest ≡ encode c ++ later) where
  pub at_hash : (c == 35) ≡ true → behind_hash (chars rest) ≡ Some (chars later)
  at_hash e = ap behind_hash (chars_past_char rest later c u parts) ∙ rw e refl

  pub at_blank : (c == 35) ≡ false → is_control_or_space c ≡ true →
      behind_hash (chars rest) ≡ behind_hash (chars later)
  at_blank e b = ap behind_hash (chars_past_char rest later c u parts) ∙ rw (e, b) refl

  pub at_other : (c == 35) ≡ false → is_control_or_space c ≡ false → behind_hash (chars rest) ≡ None
  at_other e b = ap behind_hash (chars_past_char rest later c u parts) ∙ rw (e, b) refl

pub at_no_hash : (rest : List ℕ) → rest ≡ [] → behind_hash (chars rest) ≡ None
at_no_hash rest none = ap (λ l. behind_hash (chars l)) none ∙ ap behind_hash chars-nil

-- the end of a URL

shown_stays : (c : ℕ) (cs : List ℕ) → is_control_or_space c ≡ false → before_end c cs ≡ c ∷ cs
shown_stays c [] e = rw e refl
shown_stays c (d ∷ ds) e = refl

-- blanks before a character that shows stay
blanks_stay : (bs : List ℕ) (c : ℕ) (cs : List ℕ) → is_control_or_space c ≡ false →
    without_end_blanks (bs ++ c ∷ cs) ≡ bs ++ c ∷ without_end_blanks cs
blanks_stay [] c cs e = shown_stays c (without_end_blanks cs) e
blanks_stay (b ∷ bs) c cs e = ap (before_end b) (blanks_stay bs c cs e) ∙ by bs
  where
    by : (ds : List ℕ) → before_end b (ds ++ c ∷ without_end_blanks cs)
        ≡ b ∷ (ds ++ c ∷ without_end_blanks cs)
    by [] = refl
    by (d ∷ ds) = refl

all_go : (bs : List ℕ) → list_all is_control_or_space bs ≡ true → without_end_blanks bs ≡ []
all_go [] e = refl
all_go (b ∷ bs) e =
    let both = and_parts (is_control_or_space b) (list_all is_control_or_space bs) e in
    ap (before_end b) (all_go bs both.1) ∙ rw both.0 refl

more_blanks : (bs : List ℕ) (c : ℕ) → list_all is_control_or_space bs ≡ true →
    is_control_or_space c ≡ true →
    list_all is_control_or_space (bs ++ c ∷ []) ≡ true
more_blanks [] c all one = rw one refl
more_blanks (b ∷ bs) c all one =
    let both = and_parts (is_control_or_space b) (list_all is_control_or_space bs) all in
    rw both.0 (more_blanks bs c both.1 one)

-- where a text is being taken: what is written, the blanks behind it, and what is left
pub record IsTaken (end blanks rest whole : List ℕ) : Type 0 where
  pub utf8 : IsUtf8 rest
  pub blank : list_all is_control_or_space blanks ≡ true
  pub agrees : end ++ without_end_blanks (blanks ++ filter is_kept (chars rest)) ≡ url_end whole

module _ (end blanks rest later whole : List ℕ) (c : ℕ) (so_far : IsTaken end blanks rest whole)
    (parts : rest ≡ encode c ++ later) (u : IsUtf8 later) where
  left : filter is_kept (chars rest) ≡ filter is_kept (c ∷ chars later)
  left = ap (filter is_kept) (chars_past_char rest later c so_far.utf8 parts)

  pub dropped : is_dropped c ≡ true → IsTaken end blanks later whole
  dropped e = record {
    utf8 = u;
    blank = so_far.blank;
    agrees = ap (λ l. end ++ without_end_blanks (blanks ++ l)) (sym (left ∙ rw e refl))
        ∙ so_far.agrees;
  }

  pub held : is_dropped c ≡ false → is_control_or_space c ≡ true →
      IsTaken end (blanks ++ c ∷ []) later whole
  held e b = record {
    utf8 = u;
    blank = more_blanks blanks c so_far.blank b;
    agrees = ap (λ l. end ++ without_end_blanks l)
        (append_assoc blanks (c ∷ []) (filter is_kept (chars later))
        ∙ ap (λ l. blanks ++ l) (sym (left ∙ rw e refl)))
        ∙ so_far.agrees;
  }

  pub written : is_control_or_space c ≡ false → IsTaken ((end ++ blanks) ++ c ∷ []) [] later whole
  written b = record {
    utf8 = u;
    blank = refl;
    agrees = ap (λ l. l ++ without_end_blanks (filter is_kept (chars later)))
        (append_assoc end blanks (c ∷ []))
        ∙ (append_assoc end (blanks ++ c ∷ []) (without_end_blanks (filter is_kept (chars later)))
        ∙ (ap (λ l. end ++ l)
        (append_assoc blanks (c ∷ []) (without_end_blanks (filter is_kept (chars later)))
        ∙ (sym (blanks_stay blanks c (filter is_kept (chars later)) b)
        ∙ ap (λ l. without_end_blanks (blanks ++ l)) (sym (left ∙ rw (no_blank_is_kept c b) refl))))
        ∙ so_far.agrees));
  }

pub all_taken : (end blanks rest whole : List ℕ) → IsTaken end blanks rest whole → rest ≡ [] →
    end ≡ url_end whole
all_taken end blanks rest whole so_far none =
    sym (append-nil end)
    ∙ (ap (λ l. end ++ l) (sym (all_go blanks so_far.blank)
    ∙ (ap without_end_blanks (sym (append-nil blanks))
    ∙ ap (λ l. without_end_blanks (blanks ++ filter is_kept l))
    (sym (ap chars none ∙ chars-nil))))
    ∙ so_far.agrees)

pub none_unless : (s text : List ℕ) → length s ≡ 0 → chars s ≡ text → [] ≡ unless_empty text
none_unless [] text e is = ap unless_empty (sym chars-nil ∙ is)
none_unless (b ∷ bs) text e is = absurd (omega (arith, e))

pub some_unless : (s text : List ℕ) → IsUtf8 s → (length s ≡ 0 → ⊥) → chars s ≡ text →
    chars s ∷ [] ≡ unless_empty text
some_unless s text u some is = ap (λ t. t ∷ []) is ∙ by text is
  where
    by : (cs : List ℕ) → chars s ≡ cs → cs ∷ [] ≡ unless_empty cs
    by [] is = absurd (some (ap length (sym (encodes-chars s u) ∙ ap encodes is)))
    by (c ∷ cs) is = refl

-- where a fragment leads

-- a URL is ASCII, so its characters are its bytes
pub url_bytes : (s text : List ℕ) → IsUtf8 s → chars s ≡ url_fragment text → s ≡ url_fragment text
url_bytes s text u is =
    let cut = without_directive text in
    let whole = encoding_is FRAGMENT is_in_fragment_set fragment_set_is cut in
    sym (encodes-chars s u)
    ∙ (ap encodes (is ∙ sym whole)
    ∙ (encodes-IsAscii (percent_encode FRAGMENT (encodes cut))
    (IsAscii-percent_encode FRAGMENT (encodes cut)) ∙ whole))

pub url_fragment_bytes : (r : Result (String Global) AllocError) (text : List ℕ) →
    IfOk r (λ s. text_view s ≡ url_fragment text) → IfOk r (λ s. string_bytes s ≡ url_fragment text)
url_fragment_bytes (Ok s) text is = url_bytes (string_bytes s) text (IsUtf8-string_bytes s) is
url_fragment_bytes (Err e) text is = is

pub in_characters : (r : Result (String Global) AllocError) (bytes : List ℕ) →
    IfOk r (λ s. string_bytes s ≡ bytes) → IfOk r (λ s. text_view s ≡ chars bytes)
in_characters (Ok s) bytes is = ap chars is
in_characters (Err e) bytes is = is

module _ (is_place : Name → Bool) where
  pub none_indicated : (f : List ℕ) → length f ≡ 0 → None ≡ indicated_at is_place f
  none_indicated [] e = refl
  none_indicated (c ∷ cs) e = absurd (omega (arith, e))

  pub indicated_as_it_is : (f : List ℕ) → (length f ≡ 0 → ⊥) → is_place f ≡ true →
      Some f ≡ indicated_at is_place f
  indicated_as_it_is [] some e = absurd (some refl)
  indicated_as_it_is (c ∷ cs) some e = rw e refl

  pub indicated_as_decoded : (f : List ℕ) → (length f ≡ 0 → ⊥) → is_place f ≡ false →
      if_place is_place (chars (decoding f)) ≡ indicated_at is_place f
  indicated_as_decoded [] some e = absurd (some refl)
  indicated_as_decoded (c ∷ cs) some e = rw e refl

pub empty_leads : (f : List ℕ) → length f ≡ 0 → true ≡ leads_to_top f
empty_leads [] e = refl
empty_leads (c ∷ cs) e = absurd (omega (arith, e))

pub decoded_leads : (f : List ℕ) → (length f ≡ 0 → ⊥) → is_top (decoding f) ≡ leads_to_top f
decoded_leads [] some = absurd (some refl)
decoded_leads (c ∷ cs) some = refl
