-- What is appended to a writer, one after another.
use Rattle.std.proofs.Common.{◌≡◌, ℕ, List, [], ◌∷◌, ◌++◌, if◌then◌else◌, Result, Ok, Err, is_ok, refl, sym, ap, subst, ◌∙◌, chars, IsUtf8}
use Rattle.std.{proofs.Math.Bool.{or-false}, specs.declared.alloc.AllocError.{AllocError}}
use Rattle.html_names_core.proofs.Texts.{chars_add}
use Rattle.html_values_css.proofs.{Beginnings.{StartsWith-same, StartsWith-append}, Giving.{not_begun, interrupted_more}}
use Rattle.html_values_css.specs.{Sink.{SinkAnswers}, Writer.{WriterState, Emits}, declared.sink.Warning.{Warning}}

both_none : (first second : List Warning) → first ++ second ≡ [] → (first ≡ []) × (second ≡ [])
both_none [] second none = (refl, none)
both_none (w ∷ ws) second none = absurd (cc)

module _ {S : Type 0} (takes : SinkAnswers S) where
  -- a text that `push_str` appended, or did not
  pub pushed : (r : Result (Unit {0}) AllocError) (old new : WriterState S) (b d s : List ℕ)
      → IsUtf8 b → old.text ≡ chars b → new.text ≡ chars d → d ≡ (if is_ok r then b ++ s else b)
      → new.failed ≡ old.failed → new.sink ≡ old.sink → Emits takes r old new (chars s) []
  pushed (Ok u) old new b d s utf8 old_is new_is grew same_flag same_sink =
      let grown : new.text ≡ old.text ++ chars s =
      new_is ∙ (chars_add b d s utf8 grew ∙ ap (λ t. t ++ chars s) (sym old_is)) in
      record {
        appended = grown;
        kept = rw grown (StartsWith-append old.text (chars s));
        failed = same_flag ∙ sym (or-false old.failed);
        steady = λ _. same_flag;
        given = same_sink;
      }
  pushed (Err x) old new b d s utf8 old_is new_is grew same_flag same_sink = record {
    appended = tt;
    kept = StartsWith-same old.text new.text (new_is ∙ (ap chars grew ∙ sym old_is));
    failed = tt;
    steady = λ _. same_flag;
    given = same_sink;
  }

-- at a refusal the text to be written does not matter, nor the warnings to come
pub refused_emits : {S : Type 0} {takes : SinkAnswers S} {q r : Result (Unit {0}) AllocError}
    {a b : WriterState S}
    {x : List ℕ} {first : List Warning} {e e' : AllocError} (y : List ℕ) (second : List Warning)
    → Emits takes r a b x first → r ≡ Err e → q ≡ Err e' → Emits takes q a b y (first ++ second)
refused_emits {S} {takes} {q} {r} {a} {b} {x} {first} {e} {e'} y second emitted was is =
    let at : Emits takes (Err e) a b x first = subst
    (λ (s : Result (Unit {0}) AllocError). Emits takes s a b x first) was emitted in
    rw is record {
      appended = tt;
      kept = at.kept;
      failed = tt;
      steady = λ none. at.steady (both_none first second none).0;
      given = interrupted_more takes a.sink b.sink first second at.given;
    }

pub nothing_yet : {S : Type 0} {takes : SinkAnswers S} (old : WriterState S) (text : List ℕ)
    (ws : List Warning) (e : AllocError)
    → Emits takes (Err e) old old text ws
nothing_yet {S} {takes} old text ws e = record {
  appended = tt;
  kept = StartsWith-same old.text old.text refl;
  failed = tt;
  steady = λ _. refl;
  given = not_begun takes old.sink old.sink ws refl;
}
