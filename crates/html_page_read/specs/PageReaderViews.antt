-- The program's reader as that of the definition.
use Rattle.std.specs.Prelude.{ℕ}
use Rattle.html_dom_tree.specs.Views.{text_view, attrs_view}
use Rattle.html_page_stack.specs.PageViews.{page_of}
use Rattle.html_page_read.specs.PageReferences as references
use Rattle.html_page_read.specs.PageTokens as tokens
use Rattle.html_page_read.specs.declared.{draft.Draft.{Draft}, reader.Brackets.{Brackets}}
use Rattle.html_page_read.specs.declared.reader.Brackets.TheVariants as brackets
use Rattle.html_page_read.specs.declared.reader.Depth.{Depth}
use Rattle.html_page_read.specs.declared.reader.Depth.TheVariants as depth
use Rattle.html_page_read.specs.declared.reader.Holder.{Holder}
use Rattle.html_page_read.specs.declared.reader.Holder.TheVariants as holder
use Rattle.html_page_read.specs.declared.reader.{Reader.{Reader}, State.{State}}
use Rattle.html_page_read.specs.declared.reader.State.TheVariants as state
use Rattle.html_page_read.specs.declared.{reading.Reading.{Reading}, reference.Resolved.{Resolved}}

abbrev pub reading_of : Reading → tokens.Reading
reading_of r = record {
  page = page_of r.page;
  place = r.place;
  fresh = r.fresh;
  after_return = r.after_return;
}

abbrev pub draft_of : Draft → tokens.TagDraft
draft_of d = record { is_end = d.is_end; name = text_view d.name; attrs = attrs_view d.attrs }

abbrev pub resolved_of : Resolved → references.Resolved
resolved_of found = record {
  chars = text_view found.text;
  takes_end = found.takes_end;
  missing = found.missing;
  error = found.error;
}

abbrev pub bracket_count : Brackets → ℕ
bracket_count brackets.None = 0
bracket_count brackets.One = 1
bracket_count brackets.Two = 2

abbrev pub depth_of : Depth → ℕ
depth_of depth.Outside = 0
depth_of depth.Comment = 1
depth_of depth.Script = 2

abbrev pub value_at : Reader → tokens.TokenState
value_at r = tokens.Value (draft_of r.draft) (text_view r.draft.attr) (text_view r.draft.value)
    r.draft.quote

abbrev pub raw_at : Reader → tokens.TokenState
raw_at r = tokens.Raw (depth_of r.depth) r.run

-- the state before a reference, by its context
abbrev pub holder_of : Holder → (value raw : tokens.TokenState) → tokens.TokenState
holder_of holder.Data value raw = tokens.Data
holder_of holder.Value value raw = value
holder_of holder.Raw value raw = raw

abbrev pub holder_at : Holder → Reader → tokens.TokenState
holder_at h r = holder_of h (value_at r) (raw_at r)

abbrev pub state_at : State → Reader → tokens.TokenState
state_at state.Data r = tokens.Data
state_at state.TagOpen r = tokens.TagOpen
state_at state.EndTagOpen r = tokens.EndTagOpen
state_at state.TagName r = tokens.TagName (draft_of r.draft)
state_at state.BeforeAttr r = tokens.BeforeAttr (draft_of r.draft)
state_at state.AttrName r = tokens.AttrName (draft_of r.draft) (text_view r.draft.attr)
state_at state.AfterAttrName r = tokens.AfterAttrName (draft_of r.draft) (text_view r.draft.attr)
state_at state.BeforeValue r = tokens.BeforeValue (draft_of r.draft) (text_view r.draft.attr)
state_at state.Value r = value_at r
state_at state.AfterValue r = tokens.AfterValue (draft_of r.draft)
state_at state.SelfClosing r = tokens.SelfClosing (draft_of r.draft)
state_at state.Markup r = tokens.Markup (text_view r.inner)
state_at state.BogusComment r = tokens.BogusComment
state_at state.Comment r = tokens.Comment r.part
state_at state.Doctype r = tokens.Doctype (text_view r.inner)
state_at state.Cdata r = tokens.Cdata (bracket_count r.brackets)
state_at state.Raw r = raw_at r
state_at state.Plaintext r = tokens.Plaintext
state_at state.Reference r = tokens.Reference (text_view r.since.text) (holder_at r.holder r)

abbrev pub reader_of : Reader → tokens.PageReader
reader_of r = record { state = state_at r.state r; reading = reading_of r.reading }
