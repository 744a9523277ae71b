-- A text is read as an element just where all names of its tags are names.
use Rattle.std.proofs.Common.{arith, ◌≡◌, ℕ, Bool, true, false, not, ◌&&◌, ◌∷◌, ◌++◌, ◌⊎◌, inl, inr, List, [], Option, Some, None, eqb, refl, sym, ap, ◌∙◌, subst}
use Rattle.std.specs.{List.{list_all}, Prelude.{if◌then◌else◌, is_some, is_none}}
use Rattle.html_names_core.specs.{Characters.{is_tag_char, is_attr_char}, Names.{tag_fault, attr_fault}}
use Rattle.html_dom_tree.specs.{PlainTree.{Plain, words, branch, Plains, no_plains, plain}, Tree.{TextPair, ElementView}}
use Rattle.html_text.specs.ClosingTags.{before_closing}
use Rattle.typst_html_encode.specs.Reader.{◌then◌, Open, ReaderState, Outside, Content, Fresh, Reference, Raw, Less, StartName, Space, AttrName, Equals, Value, ValueReference, Quoted, Slash, EndName, Stop, with_text, add_text, complete, after_start_tag, after, close, or_stop, in_content, step, run, final_root}
use Rattle.typst_html_encode.specs.References.{reference}
use Rattle.typst_html_read.specs.PlainElements.{plain_element, is_named, are_named, accepted}

-- all names so far are names, but for the one that is being read

abbrev pub open_taken : Open → Bool
open_taken o = is_named o.name o.attrs && are_named o.children

abbrev pub stack_taken : List Open → Bool
stack_taken [] = true
stack_taken (o ∷ os) = open_taken o && stack_taken os

abbrev pub root_taken : Option Plain → Bool
root_taken None = true
root_taken (Some (words t)) = true
root_taken (Some (branch name attrs kids)) = is_named name attrs && are_named kids

abbrev pub taken : ReaderState → Bool
taken (Outside root) = root_taken root
taken (Content text stack) = stack_taken stack
taken (Fresh stack) = stack_taken stack
taken (Reference text since stack) = stack_taken stack
taken (Raw name attrs text stack) = is_named name attrs && stack_taken stack
taken (Less stack) = stack_taken stack
taken (StartName name stack) = stack_taken stack
taken (Space name attrs stack) = is_named name attrs && stack_taken stack
taken (AttrName name attrs attr stack) = is_named name attrs && stack_taken stack
taken (Equals name attrs attr stack) =
    (is_named name attrs && is_none (attr_fault attr)) && stack_taken stack
taken (Value name attrs attr value stack) =
    (is_named name attrs && is_none (attr_fault attr)) && stack_taken stack
taken (ValueReference name attrs attr value since stack) =
    (is_named name attrs && is_none (attr_fault attr)) && stack_taken stack
taken (Quoted name attrs stack) = is_named name attrs && stack_taken stack
taken (Slash name attrs stack) = is_named name attrs && stack_taken stack
taken (EndName name stack) = stack_taken stack
taken Stop = true

-- with the character a name ends that is none
abbrev pub ends_refused : ReaderState → ℕ → Bool
ends_refused (StartName name stack) c = not (is_tag_char c) && is_some (tag_fault name)
ends_refused (AttrName name attrs attr stack) c =
    not (is_attr_char c) && is_some (attr_fault attr)
ends_refused s c = false

-- the answer for a state, unless it has stopped
abbrev pub Holds : ReaderState → Bool → Type 0
Holds s g = (s ≡ Stop) ⊎ (taken s ≡ g)

or_holds : (o : Option ℕ) (f : ℕ → ReaderState) (g : Bool) → ((d : ℕ) → Holds (f d) g) →
    Holds (or_stop o f) g
or_holds None f g h = inl refl
or_holds (Some d) f g h = h d

and_between : (a b c d : Bool) → (a && (b && (c && d))) ≡ ((a && (b && c)) && d)
and_between a b c d = grind arith

-- names of lists

none_named : are_named no_plains ≡ true
unfolding are_named
none_named = refl

named_then : (ps qs : Plains) → are_named (ps then qs) ≡ (are_named ps && are_named qs)
unfolding are_named
named_then no_plains qs = refl
named_then (plain (words t) ps) qs = named_then ps qs
named_then (plain (branch name attrs kids) ps) qs =
    ap (λ b. is_named name attrs && (are_named kids && b)) (named_then ps qs)
    ∙ and_between (is_named name attrs) (are_named kids) (are_named ps) (are_named qs)

one_named : (name : List ℕ) (attrs : List TextPair) (kids : Plains) →
    are_named (plain (branch name attrs kids) no_plains) ≡ (is_named name attrs && are_named kids)
unfolding are_named
one_named name attrs kids = grind arith

words_named : (t : List ℕ) (ps : Plains) → are_named (with_text t ps) ≡ are_named ps
unfolding are_named
words_named [] ps = refl
words_named (c ∷ cs) ps = grind (arith, named_then ps (plain (words (c ∷ cs)) no_plains))

text_taken : (t : List ℕ) (stack : List Open) → stack_taken (add_text t stack) ≡ stack_taken stack
text_taken t [] = refl
text_taken t (o ∷ os) = grind (arith, words_named t o.children)

all_more : (p : TextPair → Bool) (xs : List TextPair) (x : TextPair) →
    list_all p (xs ++ x ∷ []) ≡ (list_all p xs && p x)
all_more p [] x = grind arith
all_more p (y ∷ ys) x = grind (arith, all_more p ys x)

named_more : (name : List ℕ) (attrs : List TextPair) (attr value : List ℕ) →
    is_named name (attrs ++ (attr, value) ∷ [])
    ≡ (is_named name attrs && is_none (attr_fault attr))
named_more name attrs attr value =
    grind (arith, all_more (λ p. is_none (attr_fault p.0)) attrs (attr, value))

-- tags

complete_holds : (name : List ℕ) (attrs : List TextPair) (kids : Plains) (stack : List Open) →
    Holds (complete name attrs kids stack)
    ((is_named name attrs && are_named kids) && stack_taken stack)
complete_holds name attrs kids [] = grind arith
complete_holds name attrs kids (o ∷ os) = grind (
  arith,
  named_then o.children (plain (branch name attrs kids) no_plains),
  one_named name attrs kids,
)

bare_holds : (name : List ℕ) (attrs : List TextPair) (kids : Plains) (stack : List Open) →
    are_named kids ≡ true → Holds (complete name attrs kids stack)
    (is_named name attrs && stack_taken stack)
bare_holds name attrs kids stack h = grind (arith, complete_holds name attrs kids stack)

start_holds : (name : List ℕ) (attrs : List TextPair) (stack : List Open) →
    Holds (after_start_tag name attrs stack) (is_named name attrs && stack_taken stack)
start_holds name attrs stack =
    grind (arith, none_named, bare_holds name attrs no_plains stack none_named)

after_holds : (name : List ℕ) (attrs : List TextPair) (stack : List Open) (c : ℕ) →
    Holds (after name attrs stack c) (is_named name attrs && stack_taken stack)
after_holds name attrs stack c = grind (arith, start_holds name attrs stack)

close_holds : (name : List ℕ) (stack : List Open) → Holds (close name stack) (stack_taken stack)
close_holds name [] = inl refl
close_holds name (o ∷ os) = grind (arith, complete_holds o.name o.attrs o.children os)

content_holds : (text : List ℕ) (stack : List Open) (c : ℕ) →
    Holds (in_content text stack c) (stack_taken stack)
content_holds text stack c = grind (arith, text_taken text stack)

-- behind the name of an attribute, which may be none
attr_holds : {F : Type 0} (more equals : Bool) (fault : Option F) (s t u : ReaderState)
    (n k : Bool) →
    Holds s (n && k) → Holds t ((n && is_none fault) && k) → Holds u ((n && is_none fault) && k) →
    Holds (if more then s else (if equals then t else u))
    (not (not more && is_some fault) && (n && k))
attr_holds more equals fault s t u n k h i j = grind arith

pub step_holds : (s : ReaderState) (c : ℕ) →
    Holds (step s c) (not (ends_refused s c) && taken s)
step_holds (Outside None) c = grind arith
step_holds (Outside (Some root)) c = grind arith
step_holds (Content text stack) c = content_holds text stack c
step_holds (Fresh stack) c = grind (arith, content_holds [] stack c)
step_holds (Reference text since stack) c = grind (
  arith,
  or_holds (reference since)
      (λ d. Content (text ++ d ∷ []) stack) (stack_taken stack) (λ d. inr refl),
)
step_holds (Raw name attrs text stack) c =
    let words = with_text (before_closing name text) no_plains in
    let named : are_named words ≡ true =
    words_named (before_closing name text) no_plains ∙ none_named in
    let whole : Holds (complete name attrs words stack) (is_named name attrs && stack_taken stack) =
    bare_holds name attrs words stack named in
    grind arith
step_holds (Less stack) c = grind arith
step_holds (StartName name stack) c = grind (arith, after_holds name [] stack c)
step_holds (Space name attrs stack) c = grind arith
step_holds (AttrName name attrs attr stack) c =
    let more = attrs ++ (attr, []) ∷ [] in
    attr_holds (is_attr_char c) (eqb c 61) (attr_fault attr) _ _ _ (is_named name attrs)
    (stack_taken stack) (inr refl) (inr refl)
    (subst (λ b. Holds (after name more stack c) (b && stack_taken stack))
    (named_more name attrs attr []) (after_holds name more stack c))
step_holds (Equals name attrs attr stack) c = grind arith
step_holds (Value name attrs attr value stack) c = grind (arith, named_more name attrs attr value)
step_holds (ValueReference name attrs attr value since stack) c = grind (
  arith,
  or_holds
      (reference since) (λ d. Value name attrs attr (value ++ d ∷ []) stack)
      (taken (Value name attrs attr value stack)) (λ d. inr refl),
)
step_holds (Quoted name attrs stack) c = after_holds name attrs stack c
step_holds (Slash name attrs stack) c =
    grind (arith, bare_holds name attrs no_plains stack none_named)
step_holds (EndName name stack) c = grind (arith, close_holds name stack)
step_holds Stop c = inl refl

-- what is read once all is read

abbrev pub outcome : ReaderState → List ℕ → Option ElementView
outcome s cs = accepted (final_root (run s cs))

pub stopped : (cs : List ℕ) → outcome Stop cs ≡ None
stopped [] = refl
stopped (c ∷ cs) = stopped cs

root_none : (root : Option Plain) → root_taken root ≡ false → accepted root ≡ None
root_none None h = refl
root_none (Some (words t)) h = refl
root_none (Some (branch name attrs kids)) h = rw h refl

state_none : (s : ReaderState) → taken s ≡ false → accepted (final_root s) ≡ None
state_none (Outside root) h = root_none root h
state_none s h = refl

pub none_after : (cs : List ℕ) (s : ReaderState) → Holds s false → outcome s cs ≡ None
none_after cs s (inl e) = ap (λ t. outcome t cs) e ∙ stopped cs
none_after [] s (inr e) = state_none s e
none_after (c ∷ cs) s (inr e) = none_after cs (step s c)
    (grind (arith, step_holds s c))

pub root_accepted : (name : List ℕ) (attrs : List TextPair) (kids : Plains) →
    root_taken (Some (branch name attrs kids)) ≡ true →
    accepted (Some (branch name attrs kids)) ≡ Some (plain_element name attrs kids)
root_accepted name attrs kids h = rw h refl

pub root_read : (s : ReaderState) (p : Plain) → Some p ≡ final_root s →
    taken s ≡ root_taken (Some p)
root_read (Outside root) p e = ap root_taken (sym e)
root_read s p e = cc
