use Rattle.std.proofs.Common.{◌≡◌, ◌∷◌, ◌++◌, ◌-◌, arith, length, refl, sym, ap, ◌∙◌, subst, take}
use Rattle.html_names_core.specs.Characters.{IsOf, is_tag_char}
use Rattle.typst_html_read.proofs.{EndTags.{some_weaker}, Stacks.{top_is}, Stretches.{names_ascii}}
use Rattle.typst_html_read.specs.OpenViews.{list_of, open_of}
use Rattle.html_text.proofs.{TagNames.{name_is, name_listed}, Words.{chars_after_ascii, chars_after_char}}
use Rattle.typst_html_read.proofs.stack.Stack.past_end_tag.Goals as goal

pub returns : goal.returns
returns c =
    let top = c.in_ok-top.top.now in
    let found = c.in_ok-top.ensures.item in
    let items = c.deref.result.now in
    let tag = top.element.tag in
    let named = name_listed tag c.resolve.ensures.valid in
    let own : c.resolve.result.now ≡ tag =
    name_is c.resolve.result.now c.resolve.utf8
    (subst (IsOf is_tag_char) (sym c.resolve.ensures.text) c.resolve.ensures.valid)
    ∙ c.resolve.ensures.text in
    let slash = c.in_ok-slash.slash.now in
    let name = c.in_ok-name.name.now in
    let end = c.in_ok-end.end.now in
    let first = c.in_ok-slash.ensures.cases in
    let second = c.in_ok-name.ensures.cases in
    let third = c.in_ok-end.ensures.cases in
    let behind_less = chars_after_char 60 first.0 c.args.text.now slash (omega arith) first.1 first.2 in
    let behind_slash = chars_after_char 47 second.0 slash name (omega arith) second.1 second.2 in
    let behind_name = chars_after_ascii tag name end (names_ascii tag named)
    (third.1.1 ∙ (sym (ap (λ l. c.resolve.result.now ++ l) third.2) ∙ ap (λ l. l ++ end) own)) in
    some_weaker _ _ _ c.strip_prefix-4.result c.strip_prefix-4.ensures.cases (λ rest last. record {
      top = open_of top;
      others = list_of (take (length items - 1) items);
      stands = ap list_of (sym c.deref.ensures.value)
          ∙ top_is items _ refl found.3.0 top found.1;
      named = named;
      parts = behind_less ∙ ap (λ l. 60 ∷ l) (behind_slash ∙ ap (λ l. 47 ∷ l)
          (behind_name ∙ ap (λ l. tag ++ l)
          (chars_after_char 62 last.0 end rest.now (omega arith) last.1 last.2)));
    })
