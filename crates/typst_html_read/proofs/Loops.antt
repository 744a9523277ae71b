-- Reading by what is left of the characters.
use Rattle.std.proofs.Common.{◌≡◌, ℕ, ◌+◌, ◌-◌, true, false, inl, inr, List, [], ◌∷◌, ◌++◌, bytes_eq, chars, take, drop, length, refl, sym, ap, ◌∙◌}
use Rattle.std.proofs.lemmas.{Bool.{cases_Bool}, List.{take-append-drop}, Slice.Eq.{bytes_eq-Decides}}
use Rattle.std.specs.{Prelude.{if◌then◌else◌}, Str.{IsUtf8}}
use lib.Utf8.{encodes}
use Rattle.html_names_core.specs.Names.{is_ascii}
use Rattle.typst_html_encode.specs.Reader.{ReaderState, Stop}
use Rattle.typst_html_read.specs.LimitedReading.{next_state, begins_deep, deep_places, is_stop, stop_place}
use Rattle.html_text.proofs.Words.{word_before}

pub deep_later : (limit before : ℕ) (s : ReaderState) (c : ℕ) (cs : List ℕ) →
    begins_deep limit s c ≡ false →
    deep_places limit before s (c ∷ cs) ≡ deep_places limit (before + 1) (next_state s c) cs
unfolding deep_places
deep_later limit before s c cs h =
    ap (λ b. (if b then (before - 1) ∷ [] else [])
    ++ deep_places limit (before + 1) (next_state s c) cs) h

pub deep_here : (limit before : ℕ) (s : ReaderState) (c : ℕ) (cs : List ℕ) →
    begins_deep limit s c ≡ true → deep_places limit before s (c ∷ cs)
    ≡ (before - 1) ∷ deep_places limit (before + 1) (next_state s c) cs
unfolding deep_places
deep_here limit before s c cs h =
    ap (λ b. (if b then (before - 1) ∷ [] else [])
    ++ deep_places limit (before + 1) (next_state s c) cs) h

pub deep_stopped : (limit before : ℕ) (cs : List ℕ) → deep_places limit before Stop cs ≡ []
unfolding deep_places
deep_stopped limit before [] = refl
deep_stopped limit before (c ∷ cs) = deep_stopped limit (before + 1) cs

pub not_stop : (s : ReaderState) → (s ≡ Stop → ⊥) → is_stop s ≡ false
not_stop Stop h = absurd (h refl)
not_stop s h = refl

pub stop_later : (before : ℕ) (s : ReaderState) (c : ℕ) (cs : List ℕ) →
    is_stop (next_state s c) ≡ false →
    stop_place before s (c ∷ cs) ≡ stop_place (before + 1) (next_state s c) cs
unfolding stop_place
stop_later before s c cs h =
    ap (λ b. if b then before else stop_place (before + 1) (next_state s c) cs) h

pub stop_here : (before : ℕ) (s : ReaderState) (c : ℕ) (cs : List ℕ) → next_state s c ≡ Stop →
    stop_place before s (c ∷ cs) ≡ before
unfolding stop_place
stop_here before s c cs h =
    ap (λ t. if is_stop t then before else stop_place (before + 1) (next_state s c) cs) h

-- a text that does not begin with a word
pub begins_otherwise : (n s : List ℕ) → is_ascii n ≡ true → IsUtf8 s →
    ((rest : List ℕ) → s ≡ n ++ rest → ⊥) → bytes_eq (take (length n) (chars s)) n ≡ false
begins_otherwise n s a u h =
    let k = length n in
    elim (cases_Bool (bytes_eq (take k (chars s)) n)) [
      | inl e ↦
          let front : take k (chars s) ≡ n = (bytes_eq-Decides (take k (chars s)) n).0 e in
          absurd (h (encodes (drop k (chars s))) (word_before n s (drop k (chars s)) a u
          (sym (take-append-drop k (chars s)) ∙ ap (λ l. l ++ drop k (chars s)) front)))
      | inr e ↦ e
    ]
