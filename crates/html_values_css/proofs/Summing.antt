-- What a sum writes part by part is its text.
use Rattle.std.proofs.Common.{◌≡◌, arith, ℕ, ℤ, List, [], ◌∷◌, ◌++◌, not, Result, Ok, Err, refl, ap, subst, ◌∙◌, append_assoc, append-nil, codes}
use Rattle.std.specs.{List.{filter, flat_map}, declared.alloc.AllocError.{AllocError}}
use Rattle.html_values_css.{proofs.Giving.{handed_none}, specs.Quantities.{is_zero}, specs.Sink.{StartsWith, SinkAnswers}}
use Rattle.html_values_css.specs.Sums.{Part, Parts, Zero, One, More, following_part, whole_sum, sum_text, written_sum, next_parts, next_text, next_warnings, sum_end, quantity_part}
use Rattle.html_values_css.specs.{Writer.{WriterState, Emits, SumsUp}, declared.sink.Warning.{Warning}}

abbrev shown : List Part → List Part
shown ps = filter (λ p. not (is_zero p.number)) ps

-- the parts after a second one
after_more : (ps : List Part) (own : List ℕ) → written_sum More own ps ≡ own
    ++ (flat_map following_part (shown ps) ++ codes ")")
after_more [] own = refl
after_more (p ∷ ps) own = grind (arith, append_assoc, after_more ps)

abbrev with_first : List ℕ → List Part → List ℕ
with_first own [] = own
with_first own (q ∷ qs) = codes "calc(" ++ own ++ flat_map following_part (q ∷ qs) ++ codes ")"

after_one : (ps : List Part) (own : List ℕ) → written_sum One own ps ≡ with_first own (shown ps)
after_one [] own = append-nil own
after_one (p ∷ ps) own =
    grind (arith, append_assoc, after_one ps own, after_more ps (codes "calc(" ++ own ++ following_part p))

first_is : (p : Part) (ps : List Part) → with_first p.text ps ≡ whole_sum (p ∷ ps)
first_is p [] = refl
first_is p (q ∷ qs) = refl

pub sums : (ps : List Part) → written_sum Zero [] ps ≡ sum_text ps
sums [] = refl
sums (p ∷ ps) = grind (arith, sums ps, after_one ps p.text, first_is p (shown ps))

pub never_warns : (parts : Parts) (text : ℤ → List ℕ) (z : ℤ)
    → next_warnings parts (quantity_part text z) ≡ []
never_warns Zero text z = grind arith
never_warns One text z = grind arith
never_warns More text z = grind arith

-- A sum of `all` that still lacks `left`, which began at a writer in `start`: what stood before it,
-- how many parts it has, and what it has written.
pub record Going {S : Type 0} (start : WriterState S) (all left : List Part) (before : List ℕ)
    (parts : Parts) (own : WriterState S) : Type 0 where
  pub at : before ≡ start.text
  pub agrees : written_sum parts own.text left ≡ sum_text all
  pub failed : own.failed ≡ start.failed
  pub sink : own.sink ≡ start.sink

pub begun : {S : Type 0} (start : WriterState S) (all : List Part) (before : List ℕ) (parts : Parts)
    (own : WriterState S)
    → before ≡ start.text → own ≡ record start { text = [] } → parts ≡ Zero
    → Going start all all before parts own
begun {S} start all before parts own b o p = record {
  at = b;
  agrees = rw (p, o) (sums all);
  failed = ap (λ (s : WriterState S). s.failed) o;
  sink = ap (λ (s : WriterState S). s.sink) o;
}

added_text : {S : Type 0} (takes : SinkAnswers S) (q : Result (Unit {0}) AllocError) (u : Unit {0})
    (a b : WriterState S) (t : List ℕ) (ws : List Warning)
    → q ≡ Ok u → SumsUp takes q a b t ws → b.text ≡ t
added_text takes q u a b t ws ok added =
    let done : SumsUp takes (Ok u) a b t ws
    = subst (λ (r : Result (Unit {0}) AllocError). SumsUp takes r a b t ws) ok added in
    done.written

pub going : {S : Type 0} {takes : SinkAnswers S} {q : Result (Unit {0}) AllocError} {u : Unit {0}}
    {start : WriterState S} {all qs : List Part}
    {before before' : List ℕ} {parts parts' : Parts} {own own' : WriterState S} (p : Part)
    → Going start all (p ∷ qs) before parts own → q ≡ Ok u → before' ≡ before → parts'
    ≡ next_parts parts p
    → SumsUp takes q own own' (next_text parts own.text p) (next_warnings parts p)
    → next_warnings parts p ≡ [] → Going start all qs before' parts' own'
going {S} {takes} {q} {u} {start} {all} {qs} {before} {before'} {parts} {parts'} {own} {own'} p
    held ok stays counted added none = record {
      at = stays ∙ held.at;
      agrees = rw (counted, added_text takes q u own own' _ _ ok added) held.agrees;
      failed = added.steady none ∙ held.failed;
      sink = handed_none takes q own.sink own'.sink _ none added.given ∙ held.sink;
    }

pub done : {S : Type 0} {takes : SinkAnswers S} {r : Result (Unit {0}) AllocError} {start : WriterState S}
    {all : List Part}
    {before : List ℕ} {parts : Parts} {own final : WriterState S}
    → Going start all [] before parts own → Emits takes r (record own { text = before }) final
    (own.text ++ sum_end parts) []
    → Emits takes r start final (sum_text all) []
done {S} {takes} {r} {start} {all} {before} {parts} {own} {final} held closes =
    let same : record own { text = before } ≡ start = as_state held.at held.failed held.sink in
    subst (λ (t : List ℕ). Emits takes r start final t []) held.agrees
    (subst (λ (s : WriterState S). Emits takes r s final (own.text ++ sum_end parts) []) same closes)
  where
    as_state : before ≡ start.text → own.failed ≡ start.failed → own.sink ≡ start.sink
        → record own { text = before } ≡ start
    as_state a b c = rw (a, b, c) refl

-- at a refusal of a part
pub broken : {S : Type 0} {takes : SinkAnswers S} {q r : Result (Unit {0}) AllocError}
    {e e' : AllocError} {start : WriterState S} {all qs : List Part}
    {before before' : List ℕ} {parts : Parts} {own own' : WriterState S} (p : Part) (text final : List ℕ)
    → Going start all (p ∷ qs) before parts own → q ≡ Err e → r ≡ Err e' → before' ≡ before
    → StartsWith final before'
    → SumsUp takes q own own' (next_text parts own.text p) (next_warnings parts p)
    → next_warnings parts p ≡ []
    → Emits takes r start (record own' { text = final }) text []
broken {S} {takes} {q} {r} {e} {e'} {start} {all} {qs} {before} {before'} {parts} {own} {own'} p
    text final held was is stays begins added none =
    rw is record {
      appended = tt;
      kept = rw (← held.at, ← stays) begins;
      failed = tt;
      steady = λ _. added.steady none ∙ held.failed;
      given = handed_none takes q own.sink own'.sink _ none added.given ∙ held.sink;
    }
