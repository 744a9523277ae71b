use Rattle.std.{proofs.Common.{◌≡◌, chars, sym, ap, ◌∙◌, subst}, specs.Prelude.{OnOk, if◌then◌else◌}}
use Rattle.html_dom_tree.specs.Views.{text_view}
use Rattle.html_page_read.specs.PageReaderViews.{holder_at, reader_of, reading_of, resolved_of}
use Rattle.html_page_read.specs.PageTokens.{erring_some, reference_erring, reference_read, resolved_read, text_read}
use Rattle.html_page_read.proofs.reader.Reader.take_reference.Goals as goal

pub returns : goal.returns
returns c =
    let self = c.args.self.now in
    let d = c.args.c in
    let start = reading_of self.reading in
    let found = resolved_of c.args.found in
    let s = holder_at self.holder self in
    let mid = reader_of c.add_reference.new.self in
    let agrees : reading_of c.note_some-2.new.self ≡ reference_erring found start =
    c.in_ok-note_some-2.ensures ∙ ap (erring_some found.error) c.in_ok-note_some.ensures in
    let text : text_view c.args.found.text ≡ chars c.as_str.result.now =
    ap chars (sym c.as_str.ensures.value) in
    let made : reference_read found.chars s (reference_erring found start) ≡ mid =
    ap (λ cs. reference_read cs s (reference_erring found start)) text
    ∙ (ap (reference_read (chars c.as_str.result.now) s) (sym agrees)
    ∙ sym c.in_ok-add_reference.ensures) in
    let expected : resolved_read found s d start ≡ text_read d mid =
    ap (λ q. if found.takes_end then q else text_read d q) made
    ∙ ap (λ b. if b then mid else text_read d mid) c.if-found.false in
    subst (λ x. OnOk c.behind_reference.result (reader_of c.behind_reference.new.self ≡ x))
    (sym expected) c.behind_reference.ensures
