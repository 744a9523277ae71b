-- Stretches of common characters, each of which is only appended to the current node or to a value.
use Rattle.std.specs.{Prelude.{◌≡◌, ℕ, ◌+◌, true, false, List, [], ◌∷◌, chars, length, ◌≤◌}, Str.{IsUtf8}}
use Rattle.html_page_read.specs.{PageReading.{run}, PageTokens.{TagDraft, Data, Value, PageReader, Reading, beginning}}
use Rattle.html_page_read.specs.declared.reader.Reader.{Reader}
use Rattle.html_page_read.specs.declared.reader.State.TheVariants as state
use Rattle.html_page_stack.specs.Pages.{with_char}
use Rattle.html_page_tree.specs.TakenTexts.{takes_text}

-- the reader in text
abbrev pub in_data : Reading → PageReader
in_data r = record { state = Data; reading = r }

-- each common character is only appended to the current node
pub record TakesCommon (q : PageReader) : Type 0 where
  pub state : q ≡ in_data q.reading
  pub fresh : q.reading.fresh ≡ false
  pub taken : takes_text q.reading.page ≡ true

abbrev pub behind_char : ℕ → Reading → Reading
behind_char c r = record {
  page = with_char c (beginning r).page;
  place = r.place + 1;
  fresh = false;
  after_return = false;
}

abbrev pub behind_stretch : List ℕ → Reading → Reading
behind_stretch [] r = r
behind_stretch (c ∷ cs) r = behind_stretch cs (behind_char c r)

-- the reader in a value in double quotes
abbrev pub in_quotes : TagDraft → (attr value : List ℕ) → Reading → PageReader
in_quotes tag attr value r = record { state = Value tag attr value 34; reading = r }

pub record IsInQuotes (r : Reader) : Type 0 where
  pub state : r.state ≡ state.Value
  pub quote : r.draft.quote ≡ 34

-- the progress behind ASCII characters that change nothing else
abbrev pub behind_chars : List ℕ → Reading → Reading
behind_chars [] r = r
behind_chars (c ∷ cs) r =
    behind_chars cs (record r { place = r.place + 1; after_return = false })

-- a call reads some characters of the text, and leaves the rest
pub record ReadsFront (old new : PageReader) (text rest : List ℕ) : Type 0 where
  pub same : run old (chars text) ≡ run new (chars rest)
  pub place : new.reading.place + length rest ≡ old.reading.place + length text
  pub fewer : length rest ≤ length text
  pub rest_utf8 : IsUtf8 rest
