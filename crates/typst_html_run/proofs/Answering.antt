-- What a text or a fault answers.
use Rattle.std.proofs.Common.{◌≡◌, List, [], ◌++◌, ℕ, Option, Some, Result, Ok, Err, string_bytes, String, refl, sym, ap, ◌∙◌}
use Rattle.std.{proofs.lemmas.Str.{encodes-chars, IsUtf8-string_bytes}, specs.declared.alloc.Global.{Global}}
use lib.Utf8.{encodes}
use Rattle.serde_json.specs.Data.{Data}
use Rattle.html_dom_tree.specs.Views.{text_view}
use Rattle.typst_html_run.specs.{Answers.{Answer, bad_input, first_refusal_or_text, answer_if, answer_to}, Replies.{GivesAnswer, Says}}
use Rattle.typst_html_json.specs.{LeftForms.{Left, IsLeft}, NameRefusals.{Refusal}, Reading.{IsNoJson}, Refusals.{Gives, IsFirst}}
use Rattle.typst_html_json.specs.{Spelling.{IsSpellingFault}, declared.fault.Fault.{Fault}, declared.fault.InputPlace.{InputPlace}}
use Rattle.typst_html_json.specs.declared.fault.Fault.TheVariants.{OutOfMemory, BadInput, Refused}
use Rattle.typst_html_json.specs.declared.fault.InputPlace.TheVariants.{Unknown, Text, Form}

first_said : (refusals : List Refusal) (text : List ℕ) (f : Fault) → IsFirst f refusals
    → Says (first_refusal_or_text refusals text) f
first_said refusals text OutOfMemory h = tt
first_said refusals text (BadInput place) h = absurd h
first_said refusals text (Refused number span) h = rw h.1 refl

pub text_said : (names others : List Refusal) (text : List ℕ) (r : Result (String Global) Fault)
    → names ≡ [] → Gives text_view r text others
    → GivesAnswer r (first_refusal_or_text (names ++ others) text)
text_said names others text (Ok s) named given =
    let same : encodes text ≡ string_bytes s =
    ap encodes (sym given.made) ∙ encodes-chars (string_bytes s) (IsUtf8-string_bytes s) in
    rw (named, given.clean, same) refl
text_said names others text (Err f) named given = rw named (first_said others text f given.fault)

left_said : {A : Type 0} (answer : A → Answer) (wanted : Left A) (place : InputPlace)
    → IsLeft wanted place → answer_to answer wanted ≡ bad_input place
left_said answer wanted Unknown h = absurd h
left_said answer wanted (Text line column) h = absurd h
left_said answer wanted (Form n) h = rw h refl

pub name_said : {A : Type 0} (names others : A → List Refusal) (text : A → List ℕ)
    (wanted : Left A) (f : Fault) → IsSpellingFault names wanted f
    → Says (answer_to (λ a. first_refusal_or_text (names a ++ others a) (text a)) wanted) f
name_said names others text wanted OutOfMemory h = tt
name_said names others text wanted (BadInput place) h = left_said _ wanted place h
name_said names others text (Err n) (Refused number span) h = absurd h
name_said names others text (Ok a) (Refused number span) h = rw h.1 refl

pub no_json_said : (answer : Data → Answer) (wanted : Option Data) (wrong : InputPlace) (f : Fault)
    → IsNoJson wanted wrong f → Says (answer_if wrong answer wanted) f
no_json_said answer wanted wrong OutOfMemory h = tt
no_json_said answer wanted wrong (BadInput place) h = rw h.1 (ap bad_input (sym h.0))
no_json_said answer wanted wrong (Refused number span) h = absurd h

pub json_said : (answer : Data → Answer) (wanted : Option Data) (wrong : InputPlace) (d : Data)
    (r : Result (String Global) Fault) → wanted ≡ Some d → GivesAnswer r (answer d)
    → GivesAnswer r (answer_if wrong answer wanted)
json_said answer wanted wrong d r is given = rw is given
