-- The insertion mode by what is known at the current node, and elements that come and go.
use Rattle.std.proofs.Common.{◌≡◌, ℕ, List, [], ◌∷◌, ◌++◌, length, map, reverse, Option, Some, None, refl, sym, ap, ◌∙◌}
use Rattle.std.proofs.{Math.Dec.{eqb-suc-zero}, lemmas.List.{map-append, reverse-append}}
use Rattle.std.specs.Prelude.{Bool, true, false, ◌&&◌, if◌then◌else◌, option_map, unwrap_or}
use Rattle.html_dom_tree.specs.Tree.{ElementView}
use Rattle.html_page_stack.proofs.Stacks.{last_first}
use Rattle.html_page_names.specs.PageNames.{of}
use Rattle.html_page_names.specs.declared.kind.Kind.TheVariants as kind
use Rattle.html_page_stack.specs.declared.modes.Mode.TheVariants.{AfterHead, BeforeHead, InHead, InHeadNoscript, InBody, InText, InTable, InCaption, InColumns, InSection, InRow, InCell, InTemplate, InFrameset}
use Rattle.html_page_stack.specs.Contexts.{AreKnown, brought_mode, context, context_of, contexts, own_mode, root_mode, some_or}
use Rattle.html_page_stack.specs.{ElementViews.{element_of, list_of}, OpenElements.{OpenElement, has_elements, mode, mode_inside, named_mode, is_at, is_html, placed, placed_in, with_text}}
use Rattle.html_page_stack.specs.declared.modes.Destination.{Destination}
use Rattle.html_page_stack.specs.declared.modes.Destination.TheVariants as to
use Rattle.html_page_stack.specs.declared.{context.Context.{Context}, element.PageElement.{PageElement}, modes.Mode.{Mode}}

inner_mode : (own m : Option Mode) (n : Mode) →
    unwrap_or own (unwrap_or m n) ≡ unwrap_or (some_or own m) n
inner_mode None m n = refl
inner_mode (Some own) m n = refl

outer_mode : (o p : OpenElement) (ps : List OpenElement) →
    mode (o ∷ p ∷ ps) ≡ unwrap_or (own_mode o (p ∷ ps)) (mode_inside (mode (p ∷ ps)))
outer_mode o p ps = rw (eqb-suc-zero (length ps)) refl

-- no element sets the mode before the head
named_inside : (n : List ℕ) (os : List OpenElement) →
    option_map mode_inside (named_mode n os) ≡ named_mode n os
named_inside n os =
    first (of kind.Cell n) InCell refl
    (first (of kind.Section n) InSection refl
    (first (of kind.Tr n) InRow refl
    (first (of kind.Caption n) InCaption refl
    (first (of kind.Colgroup n) InColumns refl
    (first (of kind.Table n) InTable refl
    (first (of kind.Body n) InBody refl
    (first (of kind.Head n) InHead refl
    (first (of kind.Raw n) InText refl
    (first (of kind.Noscript n && is_at (of kind.Head) os) InHeadNoscript refl
    (first (of kind.Template n) InTemplate refl
    (first (of kind.Frameset n) InFrameset refl refl))))))))))) where
      first : (b : Bool) (m : Mode) → mode_inside m ≡ m → {other : Option Mode} →
          option_map mode_inside other ≡ other →
          option_map mode_inside (if b then Some m else other) ≡ (if b then Some m else other)
      first true m same h = ap Some same
      first false m same h = h

own_inside : (o : OpenElement) (os : List OpenElement) →
    option_map mode_inside (own_mode o os) ≡ own_mode o os
own_inside o os = by_space (is_html o.space) where
  by_space : (b : Bool) → option_map mode_inside (if b then named_mode o.head.name os else None)
      ≡ (if b then named_mode o.head.name os else None)
  by_space true = named_inside o.head.name os
  by_space false = refl

some_inside : (own other : Option Mode) → option_map mode_inside own ≡ own →
    option_map mode_inside other ≡ other →
    option_map mode_inside (some_or own other) ≡ some_or own other
some_inside None other h k = k
some_inside (Some m) other h k = h

brought_inside : (os : List OpenElement) →
    option_map mode_inside (brought_mode os) ≡ brought_mode os
brought_inside [] = refl
brought_inside (o ∷ os) =
    some_inside (own_mode o os) (brought_mode os) (own_inside o os) (brought_inside os)

root_inside : (o : OpenElement) (os : List OpenElement) →
    mode_inside (root_mode (o ∷ os)) ≡ AfterHead
root_inside o [] = by_content (has_elements o.children) where
  by_content : (b : Bool) → mode_inside (if b then AfterHead else BeforeHead) ≡ AfterHead
  by_content true = refl
  by_content false = refl
root_inside o (p ∷ ps) = refl

inside : (m : Option Mode) (n : Mode) → option_map mode_inside m ≡ m →
    mode_inside (unwrap_or m n) ≡ unwrap_or m (mode_inside n)
inside None n h = refl
inside (Some m) n h = ap (λ x. unwrap_or x n) h

pub mode_known : (os : List OpenElement) → mode os ≡ unwrap_or (brought_mode os) (root_mode os)
mode_known [] = refl
mode_known (o ∷ []) = inner_mode (own_mode o []) None (root_mode (o ∷ []))
mode_known (o ∷ p ∷ ps) = outer_mode o p ps
    ∙ ap (λ m. unwrap_or (own_mode o (p ∷ ps)) (mode_inside m)) (mode_known (p ∷ ps))
    ∙ ap (unwrap_or (own_mode o (p ∷ ps)))
    (inside (brought_mode (p ∷ ps)) (root_mode (p ∷ ps)) (brought_inside (p ∷ ps))
    ∙ ap (unwrap_or (brought_mode (p ∷ ps))) (root_inside p ps))
    ∙ inner_mode (own_mode o (p ∷ ps)) (brought_mode (p ∷ ps)) AfterHead

-- a text or a child of the current node changes nothing that is known
pub text_keeps : (t : List ℕ) (o : OpenElement) (os : List OpenElement) →
    context (with_text t o ∷ os) ≡ context (o ∷ os)
text_keeps [] o os = refl
text_keeps (c ∷ cs) o os = refl

placed_keeps : (d : Destination) (e : ElementView) (p : OpenElement) (os : List OpenElement) →
    context (placed_in d e p ∷ os) ≡ context (p ∷ os)
placed_keeps to.Parent e p os = refl
placed_keeps to.Head e p os = refl
placed_keeps to.Replaced e p os = refl
placed_keeps to.BeforeTable e p os = refl
placed_keeps to.ReplacedBeforeTable e p os = refl

pub child_keeps : (o p : OpenElement) (os : List OpenElement) →
    context (placed o p ∷ os) ≡ context (p ∷ os)
child_keeps o p os = placed_keeps o.destination (o.head, o.children) p os

contexts_last : (es : List PageElement) (e : PageElement) →
    reverse (map context_of (es ++ e ∷ [])) ≡ e.context ∷ reverse (map context_of es)
contexts_last es e = ap reverse (map-append context_of es (e ∷ []))
    ∙ reverse-append (map context_of es) (e.context ∷ [])

pub one_more : (es : List PageElement) (e : PageElement) → AreKnown es →
    e.context ≡ context (element_of e ∷ list_of es) → AreKnown (es ++ e ∷ [])
one_more es e known is = contexts_last es e
    ∙ (ap (λ c. c ∷ reverse (map context_of es)) is
    ∙ (ap (λ l. context (element_of e ∷ list_of es) ∷ l) known
    ∙ ap contexts (sym (last_first es e))))

-- what is known where the last is there, and where it is gone
both : (es : List PageElement) (e : PageElement) → AreKnown (es ++ e ∷ []) →
    e.context ∷ reverse (map context_of es)
    ≡ context (element_of e ∷ list_of es) ∷ contexts (list_of es)
both es e known = sym (contexts_last es e) ∙ (known ∙ ap contexts (last_first es e))

abbrev head_of : Context → List Context → Context
head_of c [] = c
head_of c (d ∷ ds) = d

pub last_known : (es : List PageElement) (e : PageElement) → AreKnown (es ++ e ∷ []) →
    e.context ≡ context (element_of e ∷ list_of es)
last_known es e known = ap (head_of e.context) (both es e known)

abbrev tail_of : List Context → List Context
tail_of [] = []
tail_of (c ∷ cs) = cs

pub rest_known : (es : List PageElement) (e : PageElement) → AreKnown (es ++ e ∷ []) → AreKnown es
rest_known es e known = ap tail_of (both es e known)
