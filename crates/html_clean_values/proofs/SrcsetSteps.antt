-- The URLs of a `srcset`, candidate by candidate.
use Rattle.std.proofs.Common.{◌≡◌, ℕ, ◌≤◌, Bool, true, false, ◌||◌, List, [], ◌∷◌, ◌++◌, append-nil, append_assoc, eqb, if◌then◌else◌, length, refl, sym, ap, ◌∙◌, arith}
use Rattle.std.proofs.lemmas.Bool.{eqb-true, false≢true}
use Rattle.std.specs.{Char.{is_ascii_whitespace}, List.{after_first, before_first, list_all}}
use Rattle.html_clean_values.proofs.{Cuts.{after_here, after_later, after_shorter, before_here, before_later}, SchemeSteps.{allowed_without}}
use Rattle.html_clean_values.specs.Srcsets.{Between, Descriptors, Parentheses, Position, TakesUrl, Url, behind_char, behind_url, ends_candidate, ends_in_comma, is_comma, is_separator, urls_from, without_commas}
use Rattle.html_clean_values.specs.Urls.{url_is_allowed}

pub none_left : urls_from Between [] ≡ []
unfolding urls_from
none_left = refl

pub separator_passed : (c : ℕ) (cs : List ℕ) → is_separator c ≡ true →
    urls_from Between (c ∷ cs) ≡ urls_from Between cs
unfolding urls_from
separator_passed c cs is = rw is refl

none_behind : (b : Bool) → urls_from (if b then Between else Descriptors) [] ≡ []
unfolding urls_from
none_behind true = refl
none_behind false = refl

abbrev read : (url rest : List ℕ) → List (List ℕ)
read url rest = without_commas url ∷ urls_from (behind_url url) rest

url_ends : (so_far : List ℕ) (c : ℕ) (cs : List ℕ) → is_ascii_whitespace c ≡ true →
    urls_from (Url so_far) (c ∷ cs) ≡ read so_far cs
unfolding urls_from
url_ends so_far c cs is = rw is refl

url_grows : (so_far : List ℕ) (c : ℕ) (cs : List ℕ) → is_ascii_whitespace c ≡ false →
    urls_from (Url so_far) (c ∷ cs) ≡ urls_from (Url (so_far ++ c ∷ [])) cs
unfolding urls_from
url_grows so_far c cs is = rw is refl

url_last : (so_far : List ℕ) → urls_from (Url so_far) [] ≡ read so_far []
unfolding urls_from
url_last so_far = ap (λ us. without_commas so_far ∷ us) (sym (none_behind (ends_in_comma so_far)))

url_read : (so_far cs : List ℕ) → urls_from (Url so_far) cs
    ≡ read (so_far ++ before_first is_ascii_whitespace cs) (after_first is_ascii_whitespace cs)
url_read so_far [] = url_last so_far ∙ ap (λ u. read u []) (sym (append-nil so_far))
url_read so_far (c ∷ cs) =
    by (url_read (so_far ++ c ∷ []) cs) (is_ascii_whitespace c) refl where
      by : urls_from (Url (so_far ++ c ∷ [])) cs
          ≡ read ((so_far ++ c ∷ []) ++ before_first is_ascii_whitespace cs)
          (after_first is_ascii_whitespace cs) →
          (b : Bool) → is_ascii_whitespace c ≡ b → urls_from (Url so_far) (c ∷ cs)
          ≡ read (so_far ++ before_first is_ascii_whitespace (c ∷ cs))
          (after_first is_ascii_whitespace (c ∷ cs))
      by held true is =
          let front = ap (λ w. so_far ++ w) (before_here is_ascii_whitespace c cs is)
          ∙ append-nil so_far in
          url_ends so_far c cs is
          ∙ (ap (λ u. read u cs) (sym front)
          ∙ ap (read (so_far ++ before_first is_ascii_whitespace (c ∷ cs)))
          (sym (after_here is_ascii_whitespace c cs is)))
      by held false is =
          let front = append_assoc so_far (c ∷ []) (before_first is_ascii_whitespace cs)
          ∙ ap (λ w. so_far ++ w) (sym (before_later is_ascii_whitespace c cs is)) in
          url_grows so_far c cs is
          ∙ (held ∙ (ap (λ u. read u (after_first is_ascii_whitespace cs)) front
          ∙ ap (read (so_far ++ before_first is_ascii_whitespace (c ∷ cs)))
          (sym (after_later is_ascii_whitespace c cs is))))

url_begun : (c : ℕ) (cs : List ℕ) → is_separator c ≡ false →
    urls_from Between (c ∷ cs) ≡ urls_from (Url (c ∷ [])) cs
unfolding urls_from
url_begun c cs is = rw is refl

no_blank : (a b : Bool) → (a || b) ≡ false → a ≡ false
no_blank true b h = h
no_blank false b h = refl

url_taken : (c : ℕ) (cs : List ℕ) → is_separator c ≡ false → urls_from Between (c ∷ cs)
    ≡ read (before_first is_ascii_whitespace (c ∷ cs)) (after_first is_ascii_whitespace (c ∷ cs))
url_taken c cs is =
    let other = no_blank (is_ascii_whitespace c) (is_comma c) is in
    url_begun c cs is ∙ (url_read (c ∷ []) cs
    ∙ (ap (λ u. read u (after_first is_ascii_whitespace cs))
    (sym (before_later is_ascii_whitespace c cs other))
    ∙ ap (read (before_first is_ascii_whitespace (c ∷ cs)))
    (sym (after_later is_ascii_whitespace c cs other))))

pub takes_url : (srcset left : List ℕ) (c : ℕ) (cs url rest : List ℕ) →
    urls_from Between left ≡ urls_from Between srcset → length left ≤ length srcset →
    left ≡ c ∷ cs → is_separator c ≡ false →
    url ≡ before_first is_ascii_whitespace left → rest ≡ after_first is_ascii_whitespace left →
    TakesUrl srcset url rest
takes_url srcset left c cs url rest same long begins is first last =
    let front = first ∙ ap (before_first is_ascii_whitespace) begins in
    let back = last ∙ ap (after_first is_ascii_whitespace) begins in
    record {
      urls = sym same ∙ (ap (urls_from Between) begins
          ∙ (url_taken c cs is ∙ rw (front, back) refl));
      shorter = omega (
        arith,
        after_shorter is_ascii_whitespace c cs,
        ap length back,
        ap length begins,
        long,
      );
    }

-- descriptors

abbrev pub in_descriptors : (in_parentheses : Bool) → Position
in_descriptors b = if b then Parentheses else Descriptors

pub descriptors_end : (b : Bool) → urls_from (in_descriptors b) [] ≡ []
unfolding urls_from
descriptors_end true = refl
descriptors_end false = refl

pub candidate_ends : (b : Bool) (c : ℕ) (cs : List ℕ) → ends_candidate b c ≡ true →
    urls_from (in_descriptors b) (c ∷ cs) ≡ urls_from Between cs
unfolding urls_from
candidate_ends true c cs is = absurd (false≢true is)
candidate_ends false c cs is = rw is refl

stays : (b : Bool) (c : ℕ) (cs : List ℕ) (x y : Bool) → ends_candidate b c ≡ false →
    eqb c 40 ≡ x → eqb c 41 ≡ y →
    urls_from (in_descriptors b) (c ∷ cs) ≡ urls_from (in_descriptors (behind_char b c)) cs
unfolding urls_from
stays true c cs true y goes e f = rw (eqb-true c 40 e) refl
stays true c cs false true goes e f = rw (e, f) refl
stays true c cs false false goes e f = rw (e, f) refl
stays false c cs true y goes e f = rw (goes, e) refl
stays false c cs false true goes e f = rw (goes, e, f) refl
stays false c cs false false goes e f = rw (goes, e, f) refl

pub candidate_goes_on : (b : Bool) (c : ℕ) (cs : List ℕ) → ends_candidate b c ≡ false →
    urls_from (in_descriptors b) (c ∷ cs) ≡ urls_from (in_descriptors (behind_char b c)) cs
candidate_goes_on b c cs goes = stays b c cs (eqb c 40) (eqb c 41) goes refl refl

-- a candidate

pub first_refused : (schemes : List (List ℕ)) (relative : Bool) (srcset url rest : List ℕ) →
    TakesUrl srcset url rest → url_is_allowed schemes relative url ≡ false →
    list_all (url_is_allowed schemes relative) (urls_from Between srcset) ≡ false
first_refused schemes relative srcset url rest taken is =
    rw (taken.urls, allowed_without schemes relative url, is) refl

pub first_allowed : (schemes : List (List ℕ)) (relative : Bool) (srcset url rest next : List ℕ) →
    TakesUrl srcset url rest → url_is_allowed schemes relative url ≡ true →
    urls_from Between next ≡ urls_from (behind_url url) rest →
    list_all (url_is_allowed schemes relative) (urls_from Between next)
    ≡ list_all (url_is_allowed schemes relative) (urls_from Between srcset)
first_allowed schemes relative srcset url rest next taken is same =
    rw (taken.urls, allowed_without schemes relative url, is, same) refl
