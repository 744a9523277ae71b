use Rattle.std.proofs.Common.{◌≡◌, ℕ, Bool, chars, take, sym, ap, ◌∙◌, subst, string_bytes}
use Rattle.std.specs.{Result.{OnOk}, Str.{IsCharBoundary}}
use Rattle.html_names_core.proofs.Texts.{text_views}
use Rattle.html_dom_tree.specs.{PlainTree.{no_plains}, Views.{attrs_view, text_view}}
use Rattle.html_text.specs.{ClosingTags.{before_closing}, RawEnds.{EndsAt}}
use Rattle.typst_html_encode.specs.Reader.{Open, with_text, complete}
use Rattle.typst_html_read.proofs.Steps.{raw_step}
use Rattle.typst_html_read.specs.{LimitedReading.{next_state}, OpenViews.{open_of, stack_of}, ReaderViews.{reader_state, state_at}}
use Rattle.typst_html_read.specs.declared.stack.Stack.{Stack}
use Rattle.typst_html_read.proofs.reader.Reader.raw.Goals as goal

pub truncate-requires : goal.truncate-requires
truncate-requires c =
    let bytes : c.as_str.result.now ≡ string_bytes c.take-text.result =
    c.as_str.ensures.value ∙ text_views c.args.self.now.text c.take-text.result
    (sym c.take-text.ensures.taken) in
    let cut = subst (λ l. IsCharBoundary l c.in-Some.length) bytes c.in-Some.ensures.boundary in
    λ h. (cut.0, λ p. cut.1)

pub returns : goal.returns
returns c =
    let self = c.args.self.now in
    let d = c.args.c in
    let name = self.tag in
    let attrs = attrs_view self.attrs in
    let text = text_view self.text in
    let stack = stack_of self.stack in
    let at : ℕ × Bool = (c.in-Some.length, c.in-Some.is_exact) in
    let end = subst (λ n. EndsAt n (string_bytes self.text) d at) c.resolve.ensures.text
    (subst (λ t. EndsAt (chars c.resolve.result.now) t d at) c.as_str.ensures.value
    c.in-Some.ensures) in
    let left : text_view c.truncate.new.self ≡ before_closing name text =
    ap chars c.truncate.ensures.bytes
    ∙ (ap (λ l. chars (take c.in-Some.length l))
    (text_views c.take-text.result self.text c.take-text.ensures.taken) ∙ end.before) in
    let own : Open = record { name = name; attrs = attrs; children = no_plains } in
    let element : open_of c.add_text.new.self
    ≡ record own { children = with_text (before_closing name text) no_plains } =
    c.in_ok-add_text.ensures
    ∙ (ap (λ (o : Open). record o {
      children = with_text (text_view c.truncate.new.self) o.children;
    })
    c.take_tag-element.ensures.element
    ∙ ap (λ t. record own { children = with_text t no_plains }) left) in
    let step = raw_step name attrs text stack d end.tag_end end.ends c.if-c-ne62.false
    (sym end.exact ∙ c.if-not-is_exact.false) in
    subst (λ s. OnOk c.complete.result (reader_state c.complete.new.self ≡ s))
    (ap (λ (o : Open). complete o.name o.attrs o.children (stack_of c.take_tag-element.new.self.stack))
    element
    ∙ (ap (λ (s : Stack). complete name attrs (with_text (before_closing name text) no_plains)
    (stack_of s))
    c.take_tag-element.ensures.stack
    ∙ (step ∙ ap (λ m. next_state (state_at m self) d) (sym c.requires)))) c.complete.ensures
