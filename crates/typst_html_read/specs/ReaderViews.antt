-- The states of the program's reader as those of the definition.
use Rattle.std.specs.Prelude.{option_map}
use Rattle.html_dom_tree.specs.Views.{text_view, attrs_view}
use Rattle.typst_html_encode.specs.Reader as reader
use Rattle.typst_html_encode.specs.Reader.{ReaderState}
use Rattle.typst_html_read.specs.{OpenViews.{open_of, stack_of}, PlainViews.{completed}, declared.reader.Mode.{Mode}}
use Rattle.typst_html_read.specs.declared.reader.Mode.TheVariants as mode
use Rattle.typst_html_read.specs.declared.reader.Reader.{Reader}

abbrev pub state_at : Mode → Reader → ReaderState
state_at mode.Outside r = reader.Outside (option_map (λ o. completed (open_of o)) r.root)
state_at mode.Content r = reader.Content (text_view r.text) (stack_of r.stack)
state_at mode.Fresh r = reader.Fresh (stack_of r.stack)
state_at mode.Reference r =
    reader.Reference (text_view r.text) (text_view r.word) (stack_of r.stack)
state_at mode.Raw r = reader.Raw r.tag (attrs_view r.attrs) (text_view r.text) (stack_of r.stack)
state_at mode.Less r = reader.Less (stack_of r.stack)
state_at mode.StartName r = reader.StartName (text_view r.word) (stack_of r.stack)
state_at mode.Space r = reader.Space r.tag (attrs_view r.attrs) (stack_of r.stack)
state_at mode.AttrName r =
    reader.AttrName r.tag (attrs_view r.attrs) (text_view r.word) (stack_of r.stack)
state_at mode.Equals r = reader.Equals r.tag (attrs_view r.attrs) r.attr (stack_of r.stack)
state_at mode.Value r =
    reader.Value r.tag (attrs_view r.attrs) r.attr (text_view r.text) (stack_of r.stack)
state_at mode.ValueReference r = reader.ValueReference r.tag (attrs_view r.attrs) r.attr
    (text_view r.text) (text_view r.word) (stack_of r.stack)
state_at mode.Quoted r = reader.Quoted r.tag (attrs_view r.attrs) (stack_of r.stack)
state_at mode.Slash r = reader.Slash r.tag (attrs_view r.attrs) (stack_of r.stack)
state_at mode.EndName r = reader.EndName (text_view r.word) (stack_of r.stack)
state_at mode.Stop r = reader.Stop

abbrev pub reader_state : Reader → ReaderState
reader_state r = state_at r.mode r
