use Rattle.std.proofs.Common.{chars, refl}
use Rattle.html_dom_tree.specs.Views.{attrs_view, text_view}
use Rattle.typst_html_read.proofs.Stretches.{in_attr_name, in_reference, in_start_name, in_text, in_value, in_value_reference, read_at, reads_none}
use Rattle.typst_html_read.specs.{OpenViews.{stack_of}, ReaderViews.{reader_state, state_at}}
use Rattle.typst_html_read.proofs.reader.Reader.read_stretch.Goals as goal

pub returns-in-Content : goal.returns-in-Content
returns-in-Content c =
    let self = c.args.self.now in
    let new = record self { text = c.add_plain.new.read } in
    read_at (in_text (stack_of self.stack)) (λ m. state_at m self)
    (λ m. state_at m new) (chars c.args.text.now) c.add_plain.result
    c.in-Content.is refl refl c.add_plain.ensures

pub returns-in-Value : goal.returns-in-Value
returns-in-Value c =
    let self = c.args.self.now in
    let new = record self { text = c.add_plain-in-Value.new.read } in
    read_at (in_value self.tag (attrs_view self.attrs) self.attr (stack_of self.stack))
    (λ m. state_at m self) (λ m. state_at m new) (chars c.args.text.now) c.add_plain-in-Value.result
    c.in-Value.is refl refl c.add_plain-in-Value.ensures

pub returns-in-StartName : goal.returns-in-StartName
returns-in-StartName c =
    let self = c.args.self.now in
    let new = record self { word = c.add_name.new.read } in
    read_at (in_start_name (stack_of self.stack)) (λ m. state_at m self)
    (λ m. state_at m new) (chars c.args.text.now) c.add_name.result
    c.in-StartName.is refl refl c.add_name.ensures

pub returns-in-AttrName : goal.returns-in-AttrName
returns-in-AttrName c =
    let self = c.args.self.now in
    let new = record self { word = c.add_name-in-AttrName.new.read } in
    read_at (in_attr_name self.tag (attrs_view self.attrs) (stack_of self.stack))
    (λ m. state_at m self) (λ m. state_at m new) (chars c.args.text.now)
    c.add_name-in-AttrName.result c.in-AttrName.is refl refl c.add_name-in-AttrName.ensures

pub returns-in-Reference : goal.returns-in-Reference
returns-in-Reference c =
    let self = c.args.self.now in
    let new = record self { word = c.add_reference.new.since } in
    read_at (in_reference (text_view self.text) (stack_of self.stack)) (λ m. state_at m self)
    (λ m. state_at m new) (chars c.args.text.now) c.add_reference.result
    c.in-Reference.is refl refl c.add_reference.ensures

pub returns-in-ValueReference : goal.returns-in-ValueReference
returns-in-ValueReference c =
    let self = c.args.self.now in
    let new = record self { word = c.add_reference-in-ValueReference.new.since } in
    let attrs = attrs_view self.attrs in
    let grows = in_value_reference self.tag attrs self.attr (text_view self.text)
    (stack_of self.stack) in
    read_at grows (λ m. state_at m self)
    (λ m. state_at m new) (chars c.args.text.now) c.add_reference-in-ValueReference.result
    c.in-ValueReference.is refl refl c.add_reference-in-ValueReference.ensures

pub returns-in_default : goal.returns-in_default
returns-in_default c = reads_none (reader_state c.args.self.now) (chars c.args.text.now)
