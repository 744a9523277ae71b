use Rattle.std.{proofs.Common.{◌≡◌, Some, bytes_eq, chars, sym, ap, ◌∙◌}, proofs.lemmas.Str.{chars-IsAscii}, specs.Prelude.{option_map}}
use Rattle.html_names_core.proofs.Basics.{is_ascii_is}
use Rattle.html_dom_tree.specs.{Attributes.{first}, Views.{text_view, attrs_view}}
use Rattle.html_page_names.specs.ForeignNames.{lowered}
use Rattle.html_page_stack.specs.Formats.{has_value}
use Rattle.html_page_tree.proofs.frameset.is_word.Goals as goal

pub returns-in-Some : goal.returns-in-Some
returns-in-Some c =
    let word = c.args.word.now in
    let value = c.in-Some.value.now in
    let is : Some (text_view value) ≡ first (attrs_view c.args.attrs.now) c.args.attr.now =
    ap (option_map (λ v. text_view v.now)) (sym c.in-Some.is) ∙ c.get.ensures in
    c.is_same_lowered.ensures
    ∙ (ap (λ t. bytes_eq (lowered (chars t)) (chars word)) c.as_str.ensures.value
    ∙ (ap (bytes_eq (lowered (text_view value))) (chars-IsAscii word (is_ascii_is word c.requires))
    ∙ ap (λ v. has_value (option_map lowered v) word) is))
