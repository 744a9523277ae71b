-- Names of tags and of attributes, and end tags, that are read at once.
use Rattle.std.specs.Prelude.{◌≡◌, ℕ, ◌+◌, Bool, true, false, List, [], ◌∷◌, ◌++◌, Some}
use Rattle.html_names_core.specs.Characters.{all}
use Rattle.html_text.specs.Fronts.{BeginsWith, is_name_char}
use Rattle.html_page_read.specs.{Fronts.{begins_small}, PageStretches.{behind_chars, in_data}}
use Rattle.html_page_read.specs.PageTokens.{PageReader, Reading, TokenState, TagName, TagOpen, EndTagOpen}
use Rattle.html_page_stack.specs.{OpenElements.{current_name}, Pages.{closed}}
use Rattle.html_page_tree.specs.OwnEnds.{takes_own_end}

-- the state after `<` or `</`
abbrev pub tag_open : (is_end : Bool) → TokenState
tag_open true = EndTagOpen
tag_open false = TagOpen

-- the reader behind the name of a tag
abbrev pub in_name : (is_end : Bool) (name : List ℕ) → Reading → PageReader
in_name is_end name r = record {
  state = TagName (record { is_end = is_end; name = name; attrs = [] });
  reading = behind_chars name r;
}

-- the text begins with the name and the `>` of the current node's end tag, which only closes it
pub record EndsOwn (r : Reading) (text rest : List ℕ) : Type 0 where
  pub name : List ℕ
  pub current : current_name r.page.stack ≡ Some name
  pub taken : takes_own_end r.page ≡ true
  pub small : begins_small name ≡ true
  pub are : all is_name_char name ≡ true
  pub begins : BeginsWith (name ++ 62 ∷ []) text rest

-- the reader behind so many more characters, with which the current node's end tag closes it
abbrev pub behind_own_end : (length : ℕ) → Reading → PageReader
behind_own_end length r = in_data (record {
  page = closed true r.page;
  place = r.place + length;
  fresh = false;
  after_return = false;
})
