-- The tokens of a page, read from left to right (HTML Standard 13.2.5).
use Rattle.std.specs.{Char.{len_utf8, to_ascii_lowercase}, Fmt.{digits}, List.{list_all, starts_with}}
use Rattle.std.specs.Prelude.{ℕ, zero, suc, ◌+◌, min, Bool, true, false, not, ◌&&◌, ◌||◌, ◌==◌, nat_lt, nat_le, List, [], ◌∷◌, ◌++◌, if◌then◌else◌, codes, bytes_eq, length, Option, Some, None, is_some}
use Rattle.html_dom_tree.specs.{Attributes.{has_name}, Tree.{TextPair}}
use Rattle.html_names_core.specs.{Characters.{is_tag_char}, Names.{attr_fault}}
use Rattle.html_text.specs.{ClosingTags.{is_tag_end, closing, before_closing}, RawEnds.{ends_in, ends_raw}}
use Rattle.html_page_read.specs.DocumentTypes.{table_rule}
use Rattle.html_page_names.specs.{ForeignNames.{lowered}, PageNames.{of}}
use Rattle.html_page_stack.specs.OpenElements.{OpenElement, current_name, is_at, is_in_foreign}
use Rattle.html_page_tree.specs.PageBodies.{is_space}
use Rattle.html_page_names.specs.declared.kind.Kind.TheVariants as kind
use Rattle.html_page_read.specs.PageReferences.{is_letter, continues, Resolved, resolved}
use Rattle.html_page_tree.specs.PageTrees.{text_ended, token_read, is_unseen}
use Rattle.html_page_stack.specs.Pages.{Page, Notes, most_attrs, with_note, StartTag, Token, Char, Start, End, Finish, noted_if, refused}
use Rattle.html_page_stack.specs.declared.error.PageError.{PageError}
use Rattle.html_page_stack.specs.declared.error.PageError.TheVariants as error
use Rattle.html_page_stack.specs.declared.fault.PageRefusal.{PageRefusal}
use Rattle.html_page_stack.specs.declared.fault.PageRefusal.TheVariants as refusal
use Rattle.html_page_read.specs.declared.comment.CommentPart.{CommentPart}
use Rattle.html_page_read.specs.declared.comment.CommentPart.TheVariants as comment

-- the part of a tag that is read so far
pub record TagDraft : Type 0 where
  pub is_end : Bool
  pub name : List ℕ
  pub attrs : List TextPair

pub data TokenState : Type 0 where
  Data : TokenState
  -- after `<`
  TagOpen : TokenState
  -- after `</`
  EndTagOpen : TokenState
  TagName : TagDraft → TokenState
  BeforeAttr : TagDraft → TokenState
  AttrName : TagDraft → (attr : List ℕ) → TokenState
  AfterAttrName : TagDraft → (attr : List ℕ) → TokenState
  BeforeValue : TagDraft → (attr : List ℕ) → TokenState
  -- in a value: the quote around it, or 0 for none
  Value : TagDraft → (attr value : List ℕ) (quote : ℕ) → TokenState
  AfterValue : TagDraft → TokenState
  -- after the `/` of a tag
  SelfClosing : TagDraft → TokenState
  -- after `<!`: the text since
  Markup : (since : List ℕ) → TokenState
  BogusComment : TokenState
  Comment : CommentPart → TokenState
  -- after `<!DOCTYPE`: the text since
  Doctype : (since : List ℕ) → TokenState
  -- within `<![CDATA[`: the number of brackets since, at most two
  Cdata : (brackets : ℕ) → TokenState
  -- in an element of text alone: the depth in a script's comments, and the number of characters
  -- since the last reference, at most 255
  Raw : (depth run : ℕ) → TokenState
  -- behind `<plaintext>`, where all is text (13.2.5.5)
  Plaintext : TokenState
  -- after `&`: the text since, and the state before it
  Reference : (since : List ℕ) → TokenState → TokenState

-- the progress in a page, without the state
pub record Reading : Type 0 where
  pub page : Page
  -- the number of bytes that were read
  pub place : ℕ
  -- whether the last token was a start tag that drops a following line feed
  pub fresh : Bool
  -- whether the last character was a carriage return
  pub after_return : Bool

pub record PageReader : Type 0 where
  pub state : TokenState
  pub reading : Reading

abbrev pub goes : TokenState → Reading → PageReader
goes s r = record { state = s; reading = r }

abbrev pub with_notes : Notes → Reading → Reading
with_notes notes r = record r { page = record r.page { notes = notes } }

-- records an error at the next character
abbrev pub erring : PageError → Reading → Reading
erring e r = with_notes (with_note e r.place r.page.notes) r

abbrev pub erring_if : Bool → PageError → Reading → Reading
erring_if is_error e r =
    with_notes (if is_error then with_note e r.place r.page.notes else r.page.notes) r

abbrev pub with_some_note : Option PageError → (place : ℕ) → Notes → Notes
with_some_note None place notes = notes
with_some_note (Some e) place notes = with_note e place notes

abbrev pub erring_some : Option PageError → Reading → Reading
erring_some e r = with_notes (with_some_note e r.place r.page.notes) r

-- refuses the page for the token, unless it is refused already
abbrev pub refusing : PageRefusal → Reading → Reading
refusing refusal r = record r { page = refused refusal r.page }

-- marks that a token begins at the next character
abbrev pub beginning : Reading → Reading
beginning r = record r { page = record r.page { start = r.place } }

abbrev pub emitted : Token → Reading → Reading
emitted token r = record r { page = token_read token r.page; fresh = false }

-- emits a character, but drops a line feed right behind a start tag that drops it
abbrev pub char_emitted : ℕ → Reading → Reading
char_emitted c r = if r.fresh && c == 10 then record r { fresh = false } else emitted (Char c) r

abbrev pub chars_emitted : List ℕ → Reading → Reading
chars_emitted [] r = r
chars_emitted (c ∷ cs) r = chars_emitted cs (char_emitted c r)

-- the state behind a start tag, which depends on whether it opens an element of text alone
abbrev pub behind_start : List OpenElement → TokenState
behind_start stack = if is_at (of kind.Raw) stack then Raw 0 0
    else (if is_at (of kind.Plaintext) stack then Plaintext else Data)

abbrev pub behind_start_tag : (drops_feed : Bool) → Reading → PageReader
behind_start_tag drops_feed r = record {
  state = behind_start r.page.stack;
  reading = record r { fresh = drops_feed && is_at (of kind.DropsFeed) r.page.stack };
}

abbrev pub start_emitted : StartTag → Reading → PageReader
start_emitted tag r = behind_start_tag (of kind.DropsFeed tag.name) (emitted (Start tag) r)

abbrev pub end_emitted : TagDraft → (closed : Bool) → Reading → PageReader
end_emitted tag closed r = goes Data (emitted (End tag.name)
    (erring_if closed error.EndTagWithTrailingSolidus
    (erring_if (not (length tag.attrs == 0)) error.EndTagWithAttributes r)))

-- a name of an element: one or more letters, digits and `-`
abbrev pub is_name : List ℕ → Bool
is_name name = not (length name == 0) && list_all is_tag_char name

abbrev pub named_emitted : (closed : Bool) → TagDraft → Reading → PageReader
named_emitted closed tag r = if tag.is_end then end_emitted tag closed r
    else start_emitted (record { name = tag.name; attrs = tag.attrs; closed = closed }) r

abbrev pub coded_chars : List ℕ → List ℕ
coded_chars [] = []
coded_chars (c ∷ cs) = (digits 16 false c ++ 45 ∷ []) ++ coded_chars cs

-- a name that no element can have, in characters of names; it begins with `-`, as the name of no tag
-- does, so that the end tag finds its element
abbrev pub coded_name : List ℕ → List ℕ
coded_name name = 45 ∷ coded_chars name

-- records an error at the token, unless the tag is an end tag
abbrev pub tag_noted : PageError → TagDraft → Reading → Reading
tag_noted e tag r = record r { page = noted_if (not tag.is_end) e r.page }

-- emits a complete tag; the element of a name that no element can have gives place to its children
abbrev pub tag_emitted : (closed : Bool) → TagDraft → Reading → PageReader
tag_emitted closed tag r = if is_name tag.name then named_emitted closed tag r
    else named_emitted closed (record tag { name = coded_name tag.name })
    (tag_noted error.UnknownTag tag r)

-- a tag that is being read, and the progress in its page
abbrev pub TagReading : Type 0
TagReading = TagDraft × Reading

-- adds a complete attribute to the tag, unless no attribute can have its name; of two with one name
-- the first counts
abbrev pub attr_added : (attr value : List ℕ) → TagDraft → Reading → TagReading
attr_added attr value tag r = if is_some (attr_fault attr)
    then (tag, erring error.UnknownAttribute r)
    else (if has_name tag.attrs attr then (tag, erring error.DuplicateAttribute r)
    else (if nat_le most_attrs (length tag.attrs) then (tag, refusing refusal.TooManyAttributes r)
    else (record tag { attrs = tag.attrs ++ (attr, value) ∷ [] }, r)))

abbrev pub with_attr : (attr value : List ℕ) → TagDraft → Reading →
    (TagDraft → Reading → PageReader) → PageReader
with_attr attr value tag r then_goes =
    let added = attr_added attr value tag r in then_goes added.0 added.1

abbrev pub data_read : ℕ → Reading → PageReader
data_read c r = if c == 60 then goes TagOpen (beginning r)
    else (if c == 38 then goes (Reference [] Data) (beginning r)
    else goes Data (char_emitted c (beginning r)))

-- reads a character behind `<plaintext>`
abbrev pub plaintext_read : ℕ → Reading → PageReader
plaintext_read c r = goes Plaintext (char_emitted c (beginning r))

-- the progress behind a comment or a document type, which leaves nothing
abbrev pub behind_comment : Reading → Reading
behind_comment r = record r { page = text_ended r.page; fresh = false }

abbrev pub bogus_read : ℕ → Reading → PageReader
bogus_read c r = if c == 62 then goes Data (behind_comment r) else goes BogusComment r

abbrev pub tag_open_read : ℕ → Reading → PageReader
tag_open_read c r = if is_letter c
    then goes (TagName (record { is_end = false; name = to_ascii_lowercase c ∷ []; attrs = [] })) r
    else (if c == 47 then goes EndTagOpen r
    else (if c == 33 then goes (Markup []) r
    else (if c == 63 then bogus_read c (erring error.UnexpectedQuestionMarkInsteadOfTagName r)
    else data_read c (char_emitted 60 (erring error.InvalidFirstCharacterOfTagName r)))))

abbrev pub end_tag_open_read : ℕ → Reading → PageReader
end_tag_open_read c r = if is_letter c
    then goes (TagName (record { is_end = true; name = to_ascii_lowercase c ∷ []; attrs = [] })) r
    else (if c == 62 then goes Data (erring error.MissingEndTagName r)
    else bogus_read c (erring error.InvalidFirstCharacterOfTagName r))

abbrev pub tag_name_read : TagDraft → ℕ → Reading → PageReader
tag_name_read tag c r = if is_space c then goes (BeforeAttr tag) r
    else (if c == 47 then goes (SelfClosing tag) r
    else (if c == 62 then tag_emitted false tag r
    else goes (TagName (record tag { name = tag.name ++ to_ascii_lowercase c ∷ [] })) r))

abbrev pub before_attr_read : TagDraft → ℕ → Reading → PageReader
before_attr_read tag c r = if is_space c then goes (BeforeAttr tag) r
    else (if c == 47 then goes (SelfClosing tag) r
    else (if c == 62 then tag_emitted false tag r
    else goes (AttrName tag (to_ascii_lowercase c ∷ [])) r))

abbrev pub attr_name_read : TagDraft → (attr : List ℕ) → ℕ → Reading → PageReader
attr_name_read tag attr c r = if is_space c then goes (AfterAttrName tag attr) r
    else (if c == 61 then goes (BeforeValue tag attr) r
    else (if c == 47 then with_attr attr [] tag r (λ t. goes (SelfClosing t))
    else (if c == 62 then with_attr attr [] tag r (tag_emitted false)
    else goes (AttrName tag (attr ++ to_ascii_lowercase c ∷ [])) r)))

abbrev pub after_attr_name_read : TagDraft → (attr : List ℕ) → ℕ → Reading → PageReader
after_attr_name_read tag attr c r = if is_space c then goes (AfterAttrName tag attr) r
    else (if c == 61 then goes (BeforeValue tag attr) r
    else with_attr attr [] tag r (λ t. before_attr_read t c))

-- whether the character makes a value without quotes look as if quotes were missing
abbrev pub looks_quoted : ℕ → Bool
looks_quoted c = (c == 34) || (c == 39) || (c == 60) || (c == 61) || (c == 96)

abbrev pub unquoted_read : TagDraft → (attr value : List ℕ) → ℕ → Reading → PageReader
unquoted_read tag attr value c r = if is_space c
    then with_attr attr value tag r (λ t. goes (BeforeAttr t))
    else (if c == 62 then with_attr attr value tag r (tag_emitted false)
    else (if c == 38 then goes (Reference [] (Value tag attr value 0)) r
    else goes (Value tag attr (value ++ c ∷ []) 0)
    (erring_if (looks_quoted c) error.UnexpectedCharacterInUnquotedAttributeValue r)))

abbrev pub value_read : TagDraft → (attr value : List ℕ) (quote : ℕ) → ℕ → Reading →
    PageReader
value_read tag attr value quote c r = if quote == 0 then unquoted_read tag attr value c r
    else (if c == quote then with_attr attr value tag r (λ t. goes (AfterValue t))
    else (if c == 38 then goes (Reference [] (Value tag attr value quote)) r
    else goes (Value tag attr (value ++ c ∷ []) quote) r))

abbrev pub before_value_read : TagDraft → (attr : List ℕ) → ℕ → Reading → PageReader
before_value_read tag attr c r = if is_space c then goes (BeforeValue tag attr) r
    else (if (c == 34) || (c == 39) then goes (Value tag attr [] c) r
    else (if c == 62
    then with_attr attr [] tag (erring error.MissingAttributeValue r) (tag_emitted false)
    else unquoted_read tag attr [] c r))

abbrev pub after_value_read : TagDraft → ℕ → Reading → PageReader
after_value_read tag c r = before_attr_read tag c (erring_if
    (not (is_space c || (c == 47) || (c == 62))) error.MissingWhitespaceBetweenAttributes r)

abbrev pub self_closing_read : TagDraft → ℕ → Reading → PageReader
self_closing_read tag c r = if c == 62 then tag_emitted true tag r
    else before_attr_read tag c (erring error.UnexpectedSolidusInTag r)

abbrev pub begins : (front : List ℕ) → List ℕ → Bool
begins front text = starts_with ◌==◌ text front

-- whether markup that may stand behind `<!` begins with the text: `--`, `doctype` in any case, or
-- `[CDATA[`
abbrev pub begins_markup : List ℕ → Bool
begins_markup since = begins since (codes "--") || begins (lowered since) (codes "doctype")
    || begins since (codes "[CDATA[")

-- reads `<![CDATA[` as a comment, unless it stands in SVG or MathML
abbrev pub cdata_begun : Reading → PageReader
cdata_begun r = if is_in_foreign r.page.stack then goes (Cdata 0) r
    else goes BogusComment (erring error.CdataInHtmlContent r)

abbrev pub markup_read : (since : List ℕ) → ℕ → Reading → PageReader
markup_read since c r = let now = since ++ c ∷ [] in
    if bytes_eq now (codes "--") then goes (Comment comment.Start) r
    else (if bytes_eq (lowered now) (codes "doctype") then goes (Doctype []) r
    else (if bytes_eq now (codes "[CDATA[") then cdata_begun r
    else (if begins_markup now then goes (Markup now) r
    else bogus_read c (erring error.IncorrectlyOpenedComment r))))

abbrev pub within_comment : ℕ → CommentPart
within_comment c = if c == 60 then comment.Less
    else (if c == 45 then comment.EndDash else comment.Within)

-- the part of a comment after a character, or None if it ends (13.2.5.43 to 13.2.5.52)
abbrev pub next_part : CommentPart → ℕ → Option CommentPart
next_part comment.Start c = if c == 45 then Some comment.StartDash
    else (if c == 62 then None else Some (within_comment c))
next_part comment.StartDash c = if c == 45 then Some comment.End
    else (if c == 62 then None else Some (within_comment c))
next_part comment.Within c = Some (within_comment c)
next_part comment.Less c = if c == 33 then Some comment.LessBang else Some (within_comment c)
next_part comment.LessBang c = if c == 45 then Some comment.LessBangDash
    else Some (within_comment c)
next_part comment.LessBangDash c = if c == 45 then Some comment.LessBangDashes
    else Some (within_comment c)
next_part comment.LessBangDashes c = if c == 62 then None
    else (if c == 33 then Some comment.EndBang
    else (if c == 45 then Some comment.End else Some (within_comment c)))
next_part comment.EndDash c = if c == 45 then Some comment.End else Some (within_comment c)
next_part comment.End c = if c == 62 then None
    else (if c == 33 then Some comment.EndBang
    else (if c == 45 then Some comment.End else Some (within_comment c)))
next_part comment.EndBang c = if c == 45 then Some comment.EndDash
    else (if c == 62 then None else Some (within_comment c))

abbrev pub comment_error : CommentPart → ℕ → Option PageError
comment_error comment.Start c = if c == 62 then Some error.AbruptClosingOfEmptyComment else None
comment_error comment.StartDash c = if c == 62 then Some error.AbruptClosingOfEmptyComment else None
comment_error comment.LessBangDashes c = if c == 62 then None else Some error.NestedComment
comment_error comment.EndBang c = if c == 62 then Some error.IncorrectlyClosedComment else None
comment_error part c = None

abbrev pub part_read : Option CommentPart → Reading → PageReader
part_read None r = goes Data (behind_comment r)
part_read (Some part) r = goes (Comment part) r

abbrev pub comment_read : CommentPart → ℕ → Reading → PageReader
comment_read part c r = part_read (next_part part c) (erring_some (comment_error part c) r)

-- reads a document type, which counts only before all other tokens
abbrev pub doctype_taken : (inner : List ℕ) → Reading → Reading
doctype_taken inner r = if is_unseen r.page.tables
    then record r { page = record r.page { tables = table_rule inner }; fresh = false }
    else erring error.MisplacedDocumentType (behind_comment r)

abbrev pub doctype_read : (since : List ℕ) → ℕ → Reading → PageReader
doctype_read since c r = if c == 62 then goes Data (doctype_taken since r)
    else goes (Doctype (since ++ c ∷ [])) r

abbrev pub brackets_emitted : ℕ → Reading → Reading
brackets_emitted zero r = r
brackets_emitted (suc n) r = brackets_emitted n (char_emitted 93 r)

abbrev pub cdata_read : (brackets : ℕ) → ℕ → Reading → PageReader
cdata_read brackets c r = if c == 93 then (if brackets == 2
    then goes (Cdata 2) (char_emitted c r) else goes (Cdata (brackets + 1)) r)
    else (if c == 62 && brackets == 2 then goes Data r
    else goes (Cdata 0) (char_emitted c (brackets_emitted brackets r)))

-- the depth of a script in comments behind a text and one more character (13.2.5.18 to 13.2.5.31):
-- 1 after `<!--`, and 2 after `<script` in it
abbrev pub script_depth : (depth : ℕ) (text : List ℕ) → ℕ → ℕ
script_depth zero text c = if c == 45 && ends_in (codes "<!-") text then 1 else 0
script_depth (suc n) text c = if c == 62 && ends_in (codes "--") text then 0
    else (if is_tag_end c && n == 0 && ends_in (codes "<script") text then 2
    else (if is_tag_end c && n == 1 && ends_in (codes "</script") text then 1 else suc n))

abbrev pub depth_behind : (depth : ℕ) → Page → ℕ → ℕ
depth_behind depth p c = if is_at (of kind.Script) p.stack then script_depth depth p.text c else 0

-- reads a character of the text in an element of text alone
abbrev pub raw_char_read : (depth run : ℕ) → ℕ → Reading → PageReader
raw_char_read depth run c r =
    goes (Raw (depth_behind depth r.page c) (min (run + 1) 255)) (char_emitted c r)

-- whether a closing tag of that name may end here: no reference stands for any of it, and no script
-- in a comment is open
abbrev pub may_end : (name : List ℕ) (depth run : ℕ) → Bool
may_end name depth run = nat_lt depth 2 && nat_le (length (closing name)) run

-- the name, if the character ends its closing tag
abbrev pub ended_of : Option (List ℕ) → (depth run : ℕ) (text : List ℕ) → ℕ → Option (List ℕ)
ended_of None depth run text c = None
ended_of (Some name) depth run text c =
    if may_end name depth run && ends_raw name text c then Some name else None

-- the current node's name, if the character ends its closing tag
abbrev pub ended_name : List OpenElement → (depth run : ℕ) (text : List ℕ) → ℕ → Option (List ℕ)
ended_name stack depth run text c = ended_of (current_name stack) depth run text c

abbrev pub raw_text_read : (depth run : ℕ) → ℕ → Reading → PageReader
raw_text_read depth run c r = if c == 38 && is_at (of kind.EscapableRaw) r.page.stack
    then goes (Reference [] (Raw depth run)) r else raw_char_read depth run c r

abbrev pub raw_end_read : (depth run : ℕ) → Option (List ℕ) → ℕ → Reading → PageReader
raw_end_read depth run None c r = raw_text_read depth run c r
raw_end_read depth run (Some name) c r =
    tag_name_read (record { is_end = true; name = name; attrs = [] }) c
    (record r { page = record r.page { text = before_closing name r.page.text } })

abbrev pub raw_read : (depth run : ℕ) → ℕ → Reading → PageReader
raw_read depth run c r =
    raw_end_read depth run (ended_name r.page.stack depth run r.page.text c) c r

-- appends the characters of a reference where it stands
abbrev pub reference_read : List ℕ → TokenState → Reading → PageReader
reference_read cs (Value tag attr value quote) r = goes (Value tag attr (value ++ cs) quote) r
reference_read cs (Raw depth run) r = goes (Raw depth 0) (chars_emitted cs r)
reference_read cs s r = goes Data (chars_emitted cs r)

-- reads a character in a state to which a reference leads back
abbrev pub text_read_in : TokenState → ℕ → Reading → PageReader
text_read_in (Value tag attr value quote) c r = value_read tag attr value quote c r
text_read_in (Raw depth run) c r = raw_read depth run c r
text_read_in s c r = data_read c r

abbrev pub text_read : ℕ → PageReader → PageReader
text_read c q = text_read_in q.state c q.reading

abbrev pub in_value : TokenState → Bool
in_value (Value tag attr value quote) = true
in_value s = false

-- records the errors of a reference
abbrev pub reference_erring : Resolved → Reading → Reading
reference_erring found r = erring_some found.error (erring_some found.missing r)

abbrev pub resolved_read : Resolved → TokenState → ℕ → Reading → PageReader
resolved_read found s c r =
    let q = reference_read found.chars s (reference_erring found r) in
    if found.takes_end then q else text_read c q

abbrev pub reference_state_read : (since : List ℕ) → TokenState → ℕ → Reading → PageReader
reference_state_read since s c r = if continues since c then goes (Reference (since ++ c ∷ []) s) r
    else resolved_read (resolved (in_value s) since (Some c)) s c r

abbrev pub moved : TokenState → ℕ → Reading → PageReader
moved Data c r = data_read c r
moved TagOpen c r = tag_open_read c r
moved EndTagOpen c r = end_tag_open_read c r
moved (TagName tag) c r = tag_name_read tag c r
moved (BeforeAttr tag) c r = before_attr_read tag c r
moved (AttrName tag attr) c r = attr_name_read tag attr c r
moved (AfterAttrName tag attr) c r = after_attr_name_read tag attr c r
moved (BeforeValue tag attr) c r = before_value_read tag attr c r
moved (Value tag attr value quote) c r = value_read tag attr value quote c r
moved (AfterValue tag) c r = after_value_read tag c r
moved (SelfClosing tag) c r = self_closing_read tag c r
moved (Markup since) c r = markup_read since c r
moved BogusComment c r = bogus_read c r
moved (Comment part) c r = comment_read part c r
moved (Doctype since) c r = doctype_read since c r
moved (Cdata brackets) c r = cdata_read brackets c r
moved (Raw depth run) c r = raw_read depth run c r
moved Plaintext c r = plaintext_read c r
moved (Reference since s) c r = reference_state_read since s c r

abbrev pub past_char : ℕ → (place : ℕ) → PageReader → PageReader
past_char c place q =
    record q { reading = record q.reading { place = place + len_utf8 c; after_return = c == 13 } }

-- whether U+0000 is kept in the state, for the rules of the tree; elsewhere it is read as U+FFFD
abbrev pub keeps_null : TokenState → Bool
keeps_null Data = true
keeps_null TagOpen = true
keeps_null (Cdata brackets) = true
keeps_null (Reference since Data) = true
keeps_null s = false

-- the character that is read for one: CR stands for a line feed (13.2.3.5)
abbrev pub read_as : TokenState → ℕ → ℕ
read_as s c = if c == 13 then 10 else (if c == 0 && not (keeps_null s) then 0xfffd else c)

-- reads a character; a line feed behind a carriage return is part of it (13.2.3.5)
abbrev pub step : PageReader → ℕ → PageReader
step q c = if c == 10 && q.reading.after_return
    then record q {
      reading = record q.reading {
        place = q.reading.place + 1;
        after_return = false;
      };
    }
    else past_char c q.reading.place (moved q.state (read_as q.state c)
    (erring_if (c == 0) error.UnexpectedNullCharacter q.reading))

-- emits the characters of a reference at the end of the text
abbrev pub end_chars_emitted : Resolved → Reading → Reading
end_chars_emitted found r = chars_emitted found.chars (reference_erring found r)

abbrev pub left_over_reference : (since : List ℕ) → TokenState → Reading → Reading
left_over_reference since (Value tag attr value quote) r = erring error.EofInTag r
left_over_reference since s r = end_chars_emitted (resolved false since None) r

abbrev pub left_over : TokenState → Reading → Reading
left_over Data r = beginning r
left_over TagOpen r = char_emitted 60 (erring error.EofBeforeTagName r)
left_over EndTagOpen r = char_emitted 47 (char_emitted 60 (erring error.EofBeforeTagName r))
left_over (Markup since) r = erring error.IncorrectlyOpenedComment r
left_over BogusComment r = r
left_over (Comment part) r = erring error.EofInComment r
left_over (Doctype since) r = doctype_taken since (erring error.EofInDoctype r)
left_over (Cdata brackets) r = brackets_emitted brackets (erring error.EofInCdata r)
left_over (Raw depth run) r =
    erring_if (not (depth == 0)) error.EofInScriptHtmlCommentLikeText r
left_over Plaintext r = beginning r
left_over (Reference since s) r = left_over_reference since s r
left_over s r = erring error.EofInTag r

abbrev pub finished : PageReader → Reading
finished q = emitted Finish (left_over q.state q.reading)
