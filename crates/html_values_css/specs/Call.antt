-- The parts of a call's text (CSS Values 4, functional notation).
use Rattle.std.specs.{Borrow.{Fml, RattleType, MutBor, RestsIfErr}, Prelude.{◌≡◌, ℕ, List, [], Bool, if◌then◌else◌, codes, Result}}
use Rattle.std.specs.declared.alloc.AllocError.{AllocError}
use Rattle.html_values_css.specs.declared.call.{Call.{Call}, Separator.{Separator}, Separator.TheVariants.{Space, Slash}}
use Rattle.html_values_css.specs.declared.writer.CssWriter.{CssWriter}
use Rattle.html_values_css.specs.contracts.writer.CssWriter as writer
use Rattle.html_values_css.specs.{Sink.{StartsWith}, Writer.{WriterState, writer_state}}

abbrev pub separator_text : Separator → List ℕ
separator_text Space = codes " "
separator_text Slash = codes " / "

-- the separator before an argument; there is none before the first one
abbrev pub before_argument : Bool → Separator → List ℕ
before_argument has_argument separator = if has_argument then separator_text separator else []

-- what a writer keeps when a call fails
abbrev pub KeepsWriter : {S : Type 0} → WriterState S → WriterState S → Type 0
KeepsWriter old new = StartsWith new.text old.text × (new.failed ≡ old.failed) × (new.sink ≡ old.sink)

abbrev pub writer_rests : (S : RattleType) → MutBor (CssWriter S.Denot)
    → Result (Call S.Denot) AllocError → Fml
writer_rests S w r =
    RestsIfErr (writer.the_row S) w (λ c. c.out.ghost_name) r
    (λ last. KeepsWriter (writer_state w.now) (writer_state last))
