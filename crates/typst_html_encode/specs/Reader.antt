-- A reader of HTML text, from left to right, with a stack of open elements and their children so
-- far: the syntax of HTML Standard 13.1 without a browser's repairs, narrowed by this project to
-- values in double quotes, exact names, and the references of `References`. Carriage returns and
-- repeated attributes stay.
use Rattle.std.specs.Prelude.{ℕ, Bool, false, not, ◌&&◌, ◌||◌, ◌==◌, List, [], ◌∷◌, ◌++◌, if◌then◌else◌, codes, Option, Some, None, bytes_eq, take, drop}
use Rattle.html_names_core.specs.Characters.{is_tag_char, is_attr_char, is_blank}
use Rattle.html_names_core.specs.Kinds.{is_void, is_foreign_self_closing, is_raw, is_escapable_raw}
use Rattle.html_dom_tree.specs.{PlainTree.{Plain, words, branch, Plains, no_plains, plain}, Tree.{TextPair}}
use Rattle.typst_html_encode.specs.References.{reference}
use Rattle.html_text.specs.ClosingTags.{is_tag_end, ends_closing, ends_exact, before_closing}

-- after the start tag of these elements a line feed is dropped (HTML Standard 13.1.2.5)
unfoldable pub drops_feed : List ℕ → Bool
drops_feed name = bytes_eq name (codes "pre") || bytes_eq name (codes "textarea")

infixl 20 ◌then◌
abbrev pub ◌then◌ : Plains → Plains → Plains
no_plains then qs = qs
(plain p ps) then qs = plain p (ps then qs)

-- an open element, and its children so far
pub record Open : Type 0 where
  pub name : List ℕ
  pub attrs : List TextPair
  pub children : Plains

pub data ReaderState : Type 0 where
  -- outside the root, which may have been read
  Outside : (root : Option Plain) → ReaderState
  -- within an element: the text since its last child
  Content : (text : List ℕ) (stack : List Open) → ReaderState
  -- right after a start tag behind which a line feed is dropped
  Fresh : (stack : List Open) → ReaderState
  -- after `&`: the text before it, and what stands since
  Reference : (text since : List ℕ) (stack : List Open) → ReaderState
  -- within a raw element, which is not on the stack: all that stands since its start tag
  Raw : (name : List ℕ) (attrs : List TextPair) (text : List ℕ) (stack : List Open) → ReaderState
  -- after `<`
  Less : (stack : List Open) → ReaderState
  StartName : (name : List ℕ) (stack : List Open) → ReaderState
  -- after the space before an attribute
  Space : (name : List ℕ) (attrs : List TextPair) (stack : List Open) → ReaderState
  AttrName : (name : List ℕ) (attrs : List TextPair) (attr : List ℕ) (stack : List Open) → ReaderState
  -- after `=`
  Equals : (name : List ℕ) (attrs : List TextPair) (attr : List ℕ) (stack : List Open) → ReaderState
  Value : (name : List ℕ) (attrs : List TextPair) (attr value : List ℕ) (stack : List Open) → ReaderState
  ValueReference : (name : List ℕ) (attrs : List TextPair) (attr value since : List ℕ)
      (stack : List Open) → ReaderState
  -- after a value
  Quoted : (name : List ℕ) (attrs : List TextPair) (stack : List Open) → ReaderState
  -- after the `/` of a start tag
  Slash : (name : List ℕ) (attrs : List TextPair) (stack : List Open) → ReaderState
  EndName : (name : List ℕ) (stack : List Open) → ReaderState
  Stop : ReaderState

-- children with a text at the end, unless the text is empty
abbrev pub with_text : List ℕ → Plains → Plains
with_text [] ps = ps
with_text (c ∷ cs) ps = ps then plain (words (c ∷ cs)) no_plains

-- the innermost element has the text as its last child, unless the text is empty
abbrev pub add_text : List ℕ → List Open → List Open
add_text text [] = []
add_text text (o ∷ os) = record o { children = with_text text o.children } ∷ os

-- the state once an element is complete
abbrev pub complete : List ℕ → List TextPair → Plains → List Open → ReaderState
complete name attrs kids [] = Outside (Some (branch name attrs kids))
complete name attrs kids (o ∷ os) = Content []
    (record o { children = o.children then plain (branch name attrs kids) no_plains } ∷ os)

-- the innermost element may hold only text
abbrev pub holds_text_alone : List Open → Bool
holds_text_alone [] = false
holds_text_alone (o ∷ os) = is_escapable_raw o.name

-- the state once a start tag without `/` is read
abbrev pub after_start_tag : List ℕ → List TextPair → List Open → ReaderState
after_start_tag name attrs stack = if is_void name then complete name attrs no_plains stack
    else (if is_raw name then Raw name attrs [] stack
    else (if drops_feed name then Fresh (record { name = name; attrs = attrs; children = no_plains }
    ∷ stack)
    else Content [] (record { name = name; attrs = attrs; children = no_plains } ∷ stack)))

-- the state after the character that follows the name or an attribute in a start tag
abbrev pub after : List ℕ → List TextPair → List Open → ℕ → ReaderState
after name attrs stack c = if c == 32 then Space name attrs stack
    else (if is_foreign_self_closing name then (if c == 47 then Slash name attrs stack else Stop)
    else (if c == 62 then after_start_tag name attrs stack else Stop))

abbrev pub close : List ℕ → List Open → ReaderState
close name [] = Stop
close name (o ∷ os) = if bytes_eq name o.name then complete o.name o.attrs o.children os else Stop

abbrev pub or_stop : Option ℕ → (ℕ → ReaderState) → ReaderState
or_stop None f = Stop
or_stop (Some c) f = f c

-- the state after a character of a text
abbrev pub in_content : List ℕ → List Open → ℕ → ReaderState
in_content text stack c = if c == 60 then Less (add_text text stack)
    else (if c == 38 then Reference text [] stack else Content (text ++ c ∷ []) stack)

-- after `<` outside the root
abbrev pub before_root : Option Plain → ReaderState
before_root None = Less []
before_root (Some root) = Stop

abbrev pub step : ReaderState → ℕ → ReaderState
step (Outside root) c = if is_blank c then Outside root
    else (if c == 60 then before_root root else Stop)
step (Content text stack) c = in_content text stack c
step (Fresh stack) c = if c == 10 then Content [] stack else in_content [] stack c
step (Reference text since stack) c = if c == 59
    then or_stop (reference since) (λ d. Content (text ++ d ∷ []) stack)
    else Reference text (since ++ c ∷ []) stack
step (Raw name attrs text stack) c = if is_tag_end c && ends_closing name text
    then (if (c == 62) && ends_exact name text
    then complete name attrs (with_text (before_closing name text) no_plains) stack else Stop)
    else Raw name attrs (text ++ c ∷ []) stack
step (Less stack) c = if c == 47 then EndName [] stack
    else (if is_tag_char c && not (holds_text_alone stack) then StartName (c ∷ []) stack else Stop)
step (StartName name stack) c = if is_tag_char c then StartName (name ++ c ∷ []) stack
    else after name [] stack c
step (Space name attrs stack) c = if is_attr_char c then AttrName name attrs (c ∷ []) stack
    else Stop
step (AttrName name attrs attr stack) c = if is_attr_char c
    then AttrName name attrs (attr ++ c ∷ []) stack
    else (if c == 61 then Equals name attrs attr stack
    else after name (attrs ++ (attr, []) ∷ []) stack c)
step (Equals name attrs attr stack) c = if c == 34 then Value name attrs attr [] stack else Stop
step (Value name attrs attr value stack) c = if c == 34
    then Quoted name (attrs ++ (attr, value) ∷ []) stack
    else (if c == 38 then ValueReference name attrs attr value [] stack
    else Value name attrs attr (value ++ c ∷ []) stack)
step (ValueReference name attrs attr value since stack) c = if c == 59
    then or_stop (reference since) (λ d. Value name attrs attr (value ++ d ∷ []) stack)
    else ValueReference name attrs attr value (since ++ c ∷ []) stack
step (Quoted name attrs stack) c = after name attrs stack c
step (Slash name attrs stack) c = if c == 62 then complete name attrs no_plains stack else Stop
step (EndName name stack) c = if is_tag_char c then EndName (name ++ c ∷ []) stack
    else (if c == 62 then close name stack else Stop)
step Stop c = Stop

abbrev pub run : ReaderState → List ℕ → ReaderState
run s [] = s
run s (c ∷ cs) = run (step s c) cs

-- the root, once the whole text is read
abbrev pub final_root : ReaderState → Option Plain
final_root (Outside root) = root
final_root _ = None

-- the element that the text spells
abbrev pub read : List ℕ → Option Plain
read text = if bytes_eq (take 15 text) (codes "<!DOCTYPE html>")
    then final_root (run (Outside None) (drop 15 text)) else None
