-- The state of a css writer, and what a call adds.
use Rattle.std.specs.Prelude.{◌≡◌, ℕ, List, [], ◌∷◌, ◌++◌, Bool, true, false, ◌||◌, Result, OnOk, OnErr}
use Rattle.std.specs.declared.alloc.AllocError.{AllocError}
use Rattle.html_names_core.specs.Texts.{text_view}
use Rattle.html_values_css.specs.{Sink.{StartsWith, SinkAnswers, Hands}, declared.sink.Warning.{Warning}}
use Rattle.html_values_css.specs.declared.writer.CssWriter.{CssWriter}

-- a writer as its callers see it: its text, whether a value failed, and its sink
pub record WriterState (S : Type 0) : Type 0 where
  pub text : List ℕ
  pub failed : Bool
  pub sink : S

abbrev pub text_of : {S : Type 0} → CssWriter S → List ℕ
text_of w = text_view w.text

abbrev pub writer_state : {S : Type 0} → CssWriter S → WriterState S
writer_state w = record { text = text_of w; failed = w.failed; sink = w.sink }

abbrev pub empty : {S : Type 0} → S → WriterState S
empty sink = record { text = []; failed = false; sink = sink }

-- whether a value with these warnings fails: it does if it warns
abbrev pub fails : List Warning → Bool
fails [] = false
fails (w ∷ ws) = true

-- the effect of a call: the text grows by `text`, or by any text if the call fails; the sink
-- receives the warnings; the flag stays if there are none
pub record Emits {S : Type 0} (takes : SinkAnswers S) (r : Result (Unit {0}) AllocError)
    (old new : WriterState S) (text : List ℕ) (warnings : List Warning) : Type 0 where
  pub appended : OnOk r (new.text ≡ old.text ++ text)
  pub kept : StartsWith new.text old.text
  pub failed : OnOk r (new.failed ≡ (old.failed || fails warnings))
  pub steady : warnings ≡ [] → new.failed ≡ old.failed
  pub given : Hands takes r old.sink warnings new.sink

-- the effect of a step of a sum: the text that the sum itself has written becomes `text`, or still
-- begins with the old one if the step fails
pub record SumsUp {S : Type 0} (takes : SinkAnswers S) (r : Result (Unit {0}) AllocError)
    (old new : WriterState S) (text : List ℕ) (warnings : List Warning) : Type 0 where
  pub written : OnOk r (new.text ≡ text)
  pub kept : OnErr r (StartsWith new.text old.text)
  pub failed : OnOk r (new.failed ≡ (old.failed || fails warnings))
  pub steady : warnings ≡ [] → new.failed ≡ old.failed
  pub given : Hands takes r old.sink warnings new.sink
