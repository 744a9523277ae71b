-- What stands before a place of a text that grows, and what stands after it.
use Rattle.std.proofs.Common.{◌≡◌, ℕ, ◌≤◌, List, [], ◌++◌, length, take, drop, Bool, false, ◌||◌, Result, Ok, Err, refl, sym, ap, subst, ◌∙◌, append_assoc, append-nil, codes, chars, IsUtf8, arith}
use Rattle.std.proofs.Math.{Bool.{or-false}, Seq.{drop-append_seam}}
use Rattle.std.proofs.lemmas.List.{take-append-drop, take-append-le, drop_all, append_cancel_left, length-append, length-take-le}
use Rattle.std.{proofs.lemmas.Str.{chars-nil, chars-append, encodes-chars, encodes-append}, specs.Result.{OnOk, OnErr}}
use Rattle.std.specs.declared.alloc.AllocError.{AllocError}
use lib.Utf8.{encodes}
use Rattle.html_names_core.proofs.Lists.{chars_ascii}
use Rattle.html_values_css.proofs.{Beginnings.{StartsWith-append, StartsWith-trans, rest_of}, Giving.{hands_then}}
use Rattle.html_values_css.specs.{Calc.{next_part_text, with_opening}, Sink.{StartsWith, SinkAnswers, Hands}}
use Rattle.html_values_css.specs.{Sums.{Part, Parts, Zero, One, More, with_part}, Writer.{WriterState, Emits, SumsUp, fails}}
use Rattle.html_values_css.specs.declared.sink.Warning.{Warning}

grown : (b d : List ℕ) → IsUtf8 b → IsUtf8 d → StartsWith (chars d) (chars b) → d ≡ b
    ++ encodes (drop (length (chars b)) (chars d))
grown b d utf8_b utf8_d begins =
    let more = drop (length (chars b)) (chars d) in
    sym (encodes-chars d utf8_d) ∙ ap encodes (rest_of (chars d) (chars b) begins)
    ∙ encodes-append (chars b) more ∙ ap (λ l. l ++ encodes more) (encodes-chars b utf8_b)

module _ (at : ℕ) (b d : List ℕ) (within : at ≤ length b) where
  pub kept_front : IsUtf8 b → IsUtf8 d → StartsWith (chars d) (chars b) → take at d ≡ take at b
  kept_front u v h = ap (take at) (grown b d u v h) ∙ take-append-le at b _ within

  pub kept_within : IsUtf8 b → IsUtf8 d → StartsWith (chars d) (chars b) → at ≤ length d
  kept_within u v h =
      let more = encodes (drop (length (chars b)) (chars d)) in
      omega (arith, within, ap length (grown b d u v h), length-append b more)

-- the characters before a place and after it
parted : (at : ℕ) (b : List ℕ) → IsUtf8 (take at b) → chars b ≡ chars (take at b)
    ++ chars (drop at b)
parted at b u = ap chars (sym (take-append-drop at b)) ∙ chars-append (take at b) (drop at b) u

module _ (at : ℕ) (b d : List ℕ) (u : IsUtf8 (take at b)) (front : take at d ≡ take at b) where
  from_grown : (t : List ℕ) → chars d ≡ chars b ++ t → chars (drop at d) ≡ chars (drop at b) ++ t
  from_grown t e =
      let split_d : chars d ≡ chars (take at b) ++ chars (drop at d) =
      parted at d (rw front u) ∙ ap (λ f. chars f ++ chars (drop at d)) front in
      let split_b : chars b ++ t ≡ chars (take at b) ++ (chars (drop at b) ++ t) =
      ap (λ l. l ++ t) (parted at b u) ∙ append_assoc (chars (take at b)) (chars (drop at b)) t
      in
      append_cancel_left (chars (take at b)) _ _ (sym split_d ∙ e ∙ split_b)

  from_kept : StartsWith (chars d) (chars b) → StartsWith (chars (drop at d)) (chars (drop at b))
  from_kept h = rw (from_grown _ (rest_of (chars d) (chars b) h))
      (StartsWith-append (chars (drop at b)) _)

  from_appended : (r : Result (Unit {0}) AllocError) (t : List ℕ) → OnOk r (chars d ≡ chars b ++ t)
      → OnOk r (chars (drop at d) ≡ chars (drop at b) ++ t)
  from_appended (Ok x) t e = from_grown t e
  from_appended (Err x) t e = tt

  pub emits_from : {S : Type 0} {takes : SinkAnswers S} (r : Result (Unit {0}) AllocError)
      (old new : WriterState S) (t : List ℕ) (ws : List Warning)
      → Emits takes r (record old { text = chars b }) (record new { text = chars d }) t ws
      → Emits takes r (record old { text = chars (drop at b) })
      (record new { text = chars (drop at d) }) t ws
  emits_from r old new t ws emitted = record {
    appended = from_appended r t emitted.appended;
    kept = from_kept emitted.kept;
    failed = emitted.failed;
    steady = emitted.steady;
    given = emitted.given;
  }

is_text : IsUtf8 (codes "calc(")
unfolding lib.Utf8.encode
is_text = (codes "calc(", (refl, refl))

-- what stands after a place where the opening was put
pub after_opening : (at : ℕ) (b d : List ℕ) → at ≤ length b → d ≡ take at b
    ++ (codes "calc(" ++ drop at b) → chars (drop at d) ≡ codes "calc(" ++ chars (drop at b)
after_opening at b d within opened_is =
    let t = codes "calc(" in
    let long : length (take at b) ≡ at = length-take-le at b within in
    let rest : drop at d ≡ t ++ drop at b = subst (λ n. drop n d ≡ t ++ drop at b) long
    (rw opened_is (drop-append_seam (take at b) (t ++ drop at b))) in
    ap chars rest ∙ chars-append t (drop at b) is_text
    ∙ ap (λ l. l ++ chars (drop at b)) (chars_ascii t refl)

then_failed : (r : Result (Unit {0}) AllocError) (a b d f : Bool) → b ≡ (a || f)
    → OnOk r (d ≡ (b || false)) → OnOk r (d ≡ (a || f))
then_failed (Ok x) a b d f p q = q ∙ or-false b ∙ p
then_failed (Err x) a b d f p q = tt

then_kept : (r : Result (Unit {0}) AllocError) (a m d : List ℕ) → StartsWith m a
    → OnErr r (StartsWith d m) → OnErr r (StartsWith d a)
then_kept (Ok x) a m d p q = tt
then_kept (Err x) a m d p q = StartsWith-trans d m a q p

-- a part that is appended, and then the opening
pub Adds-then : {S : Type 0} {takes : SinkAnswers S} (r : Result (Unit {0}) AllocError)
    (a b d : WriterState S)
    (t : List ℕ) (with_opening : List ℕ → List ℕ) (ws : List Warning)
    → Emits takes (Ok tt) a b t ws → SumsUp takes r b d (with_opening b.text) []
    → SumsUp takes r a d (with_opening (a.text ++ t)) ws
Adds-then {S} {takes} r a b d t with_opening ws emitted added = record {
  written = subst (λ x. OnOk r (d.text ≡ with_opening x)) emitted.appended added.written;
  kept = then_kept r a.text b.text d.text emitted.kept added.kept;
  failed = then_failed r a.failed b.failed d.failed (fails ws) emitted.failed added.failed;
  steady = λ none. added.steady refl ∙ emitted.steady none;
  given = subst (λ vs. Hands takes r a.sink vs d.sink) (append-nil ws)
      (hands_then takes r a.sink b.sink d.sink ws [] emitted.given added.given);
}

pub with_appended : (parts : Parts) (own : List ℕ) (p : Part)
    → with_opening parts (own ++ next_part_text parts p) ≡ with_part parts own p
with_appended Zero own p = refl
with_appended One own p = refl
with_appended More own p = refl

-- the opening, at the second part
pub opens : {S : Type 0} {takes : SinkAnswers S} (parts : Parts) (a b : WriterState S) → parts ≡ One
    → b.text ≡ codes "calc(" ++ a.text → b.failed ≡ a.failed → b.sink ≡ a.sink
    → SumsUp takes (Ok tt) a b (with_opening parts a.text) []
opens parts a b second text f same = record {
  written = rw second text;
  kept = tt;
  failed = f ∙ sym (or-false a.failed);
  steady = λ _. f;
  given = same;
}

pub nothing_after : (b : List ℕ) (n : ℕ) → n ≡ length b → chars (drop n b) ≡ []
nothing_after b n e = ap chars (drop_all n b (omega (arith, e))) ∙ chars-nil

pub begins_before : (at : ℕ) (b : List ℕ) → IsUtf8 (take at b)
    → StartsWith (chars b) (chars (take at b))
begins_before at b u = rw (parted at b u) (StartsWith-append (chars (take at b))
    (chars (drop at b)))

whole_text : (r : Result (Unit {0}) AllocError) (at : ℕ) (b new t : List ℕ) → IsUtf8 (take at b)
    → OnOk r (new ≡ chars b ++ t) → OnOk r (new ≡ chars (take at b) ++ (chars (drop at b) ++ t))
whole_text (Ok x) at b new t u e = e ∙ ap (λ l. l ++ t) (parted at b u)
    ∙ append_assoc (chars (take at b)) (chars (drop at b)) t
whole_text (Err x) at b new t u e = tt

-- what is appended at the end is appended, with all that was written from a place on, to what stood
-- before the place
pub emits_whole : {S : Type 0} {takes : SinkAnswers S} (r : Result (Unit {0}) AllocError) (at : ℕ)
    (b : List ℕ)
    (old new : WriterState S) (t : List ℕ) (ws : List Warning) → IsUtf8 (take at b)
    → Emits takes r (record old { text = chars b }) new t ws
    → Emits takes r (record old { text = chars (take at b) }) new (chars (drop at b) ++ t) ws
emits_whole r at b old new t ws utf8 emitted = record {
  appended = whole_text r at b new.text t utf8 emitted.appended;
  kept = StartsWith-trans new.text (chars b) (chars (take at b)) emitted.kept
      (begins_before at b utf8);
  failed = emitted.failed;
  steady = emitted.steady;
  given = emitted.given;
}
