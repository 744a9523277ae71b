-- An element that was read is its own normal form: no text is empty, and none follows another.
use Rattle.std.proofs.Common.{◌≡◌, arith, ℕ, Bool, ◌∷◌, ◌++◌, List, [], Option, Some, None, eqb, refl, sym, ap, ◌∙◌}
use Rattle.std.specs.Prelude.{if◌then◌else◌}
use Rattle.html_names_core.specs.Characters.{is_attr_char}
use Rattle.html_dom_tree.specs.{PlainTree.{Plain, words, branch, Plains, no_plains, plain, put_words, nodes_normal}, Tree.{TextPair}}
use Rattle.html_text.specs.ClosingTags.{before_closing}
use Rattle.typst_html_encode.proofs.Normals.{then_assoc, then_none}
use Rattle.typst_html_encode.specs.Reader.{◌then◌, Open, ReaderState, Outside, Content, Fresh, Reference, Raw, Less, StartName, Space, AttrName, Equals, Value, ValueReference, Quoted, Slash, EndName, Stop, with_text, add_text, complete, after_start_tag, after, close, or_stop, in_content, step, run}
use Rattle.typst_html_encode.specs.References.{reference}
use Rattle.typst_html_read.specs.PlainElements.{plain_nodes}

-- the normal form of plain nodes
abbrev normal : Plains → Plains
normal ps = nodes_normal (plain_nodes ps)

abbrev pub IsNormal : Plains → Type 0
IsNormal ps = normal ps ≡ ps

-- whatever follows them stays apart from them
abbrev pub Ended : Plains → Type 0
Ended ps = (qs : Plains) → normal (ps then qs) ≡ (ps then normal qs)

-- an element that follows them does
abbrev pub Parted : Plains → Type 0
Parted ps = IsNormal ps × ((name : List ℕ) (attrs : List TextPair) (kids qs : Plains) →
    normal (ps then plain (branch name attrs kids) qs)
    ≡ (ps then plain (branch name attrs (normal kids)) (normal qs)))

none_ended : Ended no_plains
none_ended qs = refl

none_normal : normal no_plains ≡ no_plains
unfolding plain_nodes nodes_normal
none_normal = refl

element_normal_is : (name : List ℕ) (attrs : List TextPair) (kids qs : Plains) →
    normal (plain (branch name attrs kids) qs) ≡ plain (branch name attrs (normal kids)) (normal qs)
unfolding plain_nodes nodes_normal
element_normal_is name attrs kids qs = refl

words_normal : (t : List ℕ) (qs : Plains) → normal (plain (words t) qs) ≡ put_words t (normal qs)
unfolding plain_nodes nodes_normal
words_normal t qs = refl

ended_parted : (ps : Plains) → Ended ps → Parted ps
ended_parted ps h = (
  ap normal (sym (then_none ps)) ∙ (h no_plains
      ∙ (ap (λ n. ps then n) none_normal ∙ then_none ps)),
  λ name attrs kids qs. h (plain (branch name attrs kids) qs)
      ∙ ap (λ n. ps then n) (element_normal_is name attrs kids qs),
)

text_parted : (t : List ℕ) (ps : Plains) → Ended ps → Parted (with_text t ps)
text_parted [] ps h = ended_parted ps h
text_parted (c ∷ cs) ps h =
    let one = plain (words (c ∷ cs)) no_plains in (
      h one ∙ ap (λ n. ps then n) (words_normal (c ∷ cs) no_plains
          ∙ ap (put_words (c ∷ cs)) none_normal),
      λ name attrs kids qs.
          let more = plain (branch name attrs kids) qs in
          ap normal (then_assoc ps one more)
          ∙ (h (plain (words (c ∷ cs)) more)
          ∙ (ap (λ n. ps then n) (words_normal (c ∷ cs) more
          ∙ ap (put_words (c ∷ cs)) (element_normal_is name attrs kids qs))
          ∙ sym (then_assoc ps one (plain (branch name attrs (normal kids)) (normal qs))))),
    )

element_ended : (ps : Plains) (name : List ℕ) (attrs : List TextPair) (kids : Plains) →
    Parted ps → IsNormal kids → Ended (ps then plain (branch name attrs kids) no_plains)
element_ended ps name attrs kids h k qs =
    let one = plain (branch name attrs kids) no_plains in
    ap normal (then_assoc ps one qs) ∙ (h.1 name attrs kids qs
    ∙ (ap (λ l. ps then plain (branch name attrs l) (normal qs)) k
    ∙ sym (then_assoc ps one (normal qs))))

-- the elements that are open, before an element or an end tag, and before a text

abbrev pub AreParted : List Open → Type 0
AreParted [] = Unit {0}
AreParted (o ∷ os) = Parted o.children × AreParted os

abbrev pub AreEnded : List Open → Type 0
AreEnded [] = Unit {0}
AreEnded (o ∷ os) = Ended o.children × AreParted os

abbrev pub RootIsNormal : Option Plain → Type 0
RootIsNormal None = Unit {0}
RootIsNormal (Some (words t)) = Unit {0}
RootIsNormal (Some (branch name attrs kids)) = IsNormal kids

abbrev pub Fits : ReaderState → Type 0
Fits (Outside root) = RootIsNormal root
Fits (Content text stack) = AreEnded stack
Fits (Fresh stack) = AreEnded stack
Fits (Reference text since stack) = AreEnded stack
Fits (Raw name attrs text stack) = AreParted stack
Fits (Less stack) = AreParted stack
Fits (StartName name stack) = AreParted stack
Fits (Space name attrs stack) = AreParted stack
Fits (AttrName name attrs attr stack) = AreParted stack
Fits (Equals name attrs attr stack) = AreParted stack
Fits (Value name attrs attr value stack) = AreParted stack
Fits (ValueReference name attrs attr value since stack) = AreParted stack
Fits (Quoted name attrs stack) = AreParted stack
Fits (Slash name attrs stack) = AreParted stack
Fits (EndName name stack) = AreParted stack
Fits Stop = Unit {0}

if_fits : (b : Bool) (s t : ReaderState) → Fits s → Fits t → Fits (if b then s else t)
if_fits b s t h k = grind arith

or_fits : (o : Option ℕ) (f : ℕ → ReaderState) → ((d : ℕ) → Fits (f d)) → Fits (or_stop o f)
or_fits None f h = tt
or_fits (Some d) f h = h d

complete_fits : (name : List ℕ) (attrs : List TextPair) (kids : Plains) (stack : List Open) →
    IsNormal kids → AreParted stack → Fits (complete name attrs kids stack)
complete_fits name attrs kids [] k h = k
complete_fits name attrs kids (o ∷ os) k h = (element_ended o.children name attrs kids h.0 k, h.1)

start_fits : (name : List ℕ) (attrs : List TextPair) (stack : List Open) → AreParted stack →
    Fits (after_start_tag name attrs stack)
start_fits name attrs stack h =
    grind (arith, none_ended, complete_fits name attrs no_plains stack none_normal h)

after_fits : (name : List ℕ) (attrs : List TextPair) (stack : List Open) (c : ℕ) →
    AreParted stack → Fits (after name attrs stack c)
after_fits name attrs stack c h = grind (arith, start_fits name attrs stack h)

close_fits : (name : List ℕ) (stack : List Open) → AreParted stack → Fits (close name stack)
close_fits name [] h = tt
close_fits name (o ∷ os) h = grind (arith, complete_fits o.name o.attrs o.children os h.0.0 h.1)

text_fits : (text : List ℕ) (stack : List Open) → AreEnded stack → AreParted (add_text text stack)
text_fits text [] h = tt
text_fits text (o ∷ os) h = (text_parted text o.children h.0, h.1)

content_fits : (text : List ℕ) (stack : List Open) (c : ℕ) → AreEnded stack →
    Fits (in_content text stack c)
content_fits text stack c h = grind (arith, text_fits text stack h)

step_fits : (s : ReaderState) (c : ℕ) → Fits s → Fits (step s c)
step_fits (Outside None) c h = grind arith
step_fits (Outside (Some root)) c h = grind arith
step_fits (Content text stack) c h = content_fits text stack c h
step_fits (Fresh stack) c h = grind (arith, content_fits [] stack c h)
step_fits (Reference text since stack) c h =
    if_fits (eqb c 59) _ _ (or_fits (reference since) _ (λ d. h)) h
step_fits (Raw name attrs text stack) c h = grind (
  arith,
  complete_fits name attrs (with_text (before_closing name text) no_plains) stack
      (text_parted (before_closing name text) no_plains none_ended).0 h,
)
step_fits (StartName name stack) c h = grind (arith, after_fits name [] stack c h)
step_fits (AttrName name attrs attr stack) c h = if_fits (is_attr_char c) _ _ h
    (if_fits (eqb c 61) _ _ h (after_fits name (attrs ++ (attr, []) ∷ []) stack c h))
step_fits (ValueReference name attrs attr value since stack) c h =
    if_fits (eqb c 59) _ _ (or_fits (reference since) _ (λ d. h)) h
step_fits (Quoted name attrs stack) c h = after_fits name attrs stack c h
step_fits (Slash name attrs stack) c h =
    grind (arith, complete_fits name attrs no_plains stack none_normal h)
step_fits (EndName name stack) c h = grind (arith, close_fits name stack h)
step_fits Stop c h = tt
step_fits s c h = grind arith

pub run_fits : (cs : List ℕ) (s : ReaderState) → Fits s → Fits (run s cs)
run_fits [] s h = h
run_fits (c ∷ cs) s h = run_fits cs (step s c) (step_fits s c h)
