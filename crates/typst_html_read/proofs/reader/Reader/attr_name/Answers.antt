use Rattle.std.{proofs.Common.{◌≡◌, ◌++◌, ◌∷◌, [], chars, sym, ap, ◌∙◌, subst}, proofs.lemmas.Str.{chars-nil}, specs.Result.{OnOk}}
use Rattle.html_names_core.specs.Names.{attr_fault}
use Rattle.html_dom_tree.specs.Views.{attrs_view, text_view}
use Rattle.typst_html_encode.specs.Reader.{after}
use Rattle.typst_html_read.proofs.Steps.{attr_step}
use Rattle.typst_html_read.specs.{LimitedReading.{next_state}, OpenViews.{stack_of}, ReaderViews.{reader_state, state_at}}
use Rattle.typst_html_read.proofs.reader.Reader.attr_name.Goals as goal

pub returns-in_ok-push-in-Some-2 : goal.returns-in_ok-push-in-Some-2
returns-in_ok-push-in-Some-2 c =
    let self = c.args.self.now in
    let d = c.args.c in
    let word = text_view self.word in
    let attrs = attrs_view self.attrs in
    let stack = stack_of self.stack in
    let named = rw c.in-Some.is at c.in_ok-attr_named.ensures in
    let read : chars c.as_str.result.now ≡ word = ap chars c.as_str.ensures.value in
    let empty : text_view c.new.result ≡ [] = ap chars c.new.ensures.bytes ∙ chars-nil in
    let more : attrs_view c.push.new.self ≡ attrs ++ (word, []) ∷ [] =
    c.in_ok-push-in-Some-2.ensures.ok
    ∙ (ap (λ a. attrs ++ (a, text_view c.new.result) ∷ []) (named.0 ∙ read)
    ∙ ap (λ v. attrs ++ (word, v) ∷ []) empty) in
    let step = attr_step self.tag attrs word stack d
    (sym c.is_valid_in_attribute_name.ensures ∙ c.if-is_valid_in_attribute_name.false)
    (sym (ap attr_fault read) ∙ named.1) c.if-c-eq61.false in
    subst (λ s. OnOk c.after.result (reader_state c.after.new.self ≡ s))
    (ap (λ a. after self.tag a stack d) more
    ∙ (step ∙ ap (λ m. next_state (state_at m self) d) (sym c.requires))) c.after.ensures
