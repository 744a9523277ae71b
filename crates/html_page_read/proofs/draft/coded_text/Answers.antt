use Rattle.std.proofs.{Common.{◌≡◌, ◌++◌, ◌∷◌, [], append-nil, append_assoc, chars, false, sym, ap, ◌∙◌}, StrCases.{chars_of_empty}}
use Rattle.std.proofs.lemmas.Str.{IsUtf8-past_char, chars_past_char}
use Rattle.std.specs.{Fmt.{digits}, List.{list_all}, Str.Iter.{chars_rest}}
use Rattle.html_names_core.specs.Characters.{is_tag_char}
use Rattle.html_page_read.{proofs.TagNames.{name_from}, specs.PageTokens.{coded_chars, coded_name, is_name}}
use Rattle.html_page_read.proofs.draft.coded_text.Goals as goal

pub loop-c-preserved : goal.loop-c-preserved
loop-c-preserved c =
    let held = c.loop-c.invariant in
    let d = c.in-Some.c in
    let text = c.loop-c.text in
    let later = chars (chars_rest c.next.new.self) in
    let left = chars_past_char _ _ d held.utf8 c.in-Some.ensures.steps.0 in
    record {
      utf8 = IsUtf8-past_char _ _ d held.utf8 c.in-Some.ensures.steps.0;
      coded = ap (λ t. t ++ coded_chars later) c.in_ok-push_coded.ensures.added
          ∙ (append_assoc text (digits 16 false d ++ 45 ∷ []) (coded_chars later)
          ∙ (sym (ap (λ cs. text ++ coded_chars cs) left) ∙ held.coded));
      valid = c.in_ok-push_coded.ensures.valid held.valid;
    }

pub returns-clause-coded : goal.returns-clause-coded
returns-clause-coded c =
    let held = c.loop-c.invariant in
    let text = c.loop-c.text in
    let left = chars_of_empty _ c.in-None.ensures.steps.0.0 in
    c.into_string.ensures
    ∙ (sym (append-nil text) ∙ (sym (ap (λ cs. text ++ coded_chars cs) left) ∙ held.coded))

pub returns-clause-valid : goal.returns-clause-valid
returns-clause-valid c =
    let held = c.loop-c.invariant in
    let name = chars c.args.name.now in
    let left = chars_of_empty _ c.in-None.ensures.steps.0.0 in
    let whole : c.loop-c.text ≡ coded_name name =
    sym (append-nil c.loop-c.text)
    ∙ (sym (ap (λ cs. c.loop-c.text ++ coded_chars cs) left) ∙ held.coded) in
    ap is_name (c.into_string.ensures ∙ whole)
    ∙ name_from 45 (coded_chars name) (sym (ap (list_all is_tag_char) whole) ∙ held.valid)
