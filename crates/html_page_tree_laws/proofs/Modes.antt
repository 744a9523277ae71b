-- In which pages a token comes before `html`, before the head and in a `template` without a mode.
use Rattle.std.proofs.{Common.{◌≡◌, ℕ, Bool, true, false, ◌&&◌, List, [], ◌∷◌, length, refl, sym, ap, ◌∙◌, ◌==◌, Option, Some, None}, Math.Dec.{eqb-suc-zero}}
use Rattle.std.{proofs.lemmas.Bool.{false_from_ne_true, false≢true}, specs.Prelude.{if◌then◌else◌, unwrap_or}}
use Rattle.html_dom_tree.specs.Tree.{Head, NodesView, none, node, tag_node, text_node, element_node, frame_node, with_last}
use Rattle.html_page_names.specs.PageNames.{of}
use Rattle.html_page_names.specs.declared.kind.Kind.TheVariants as kind
use Rattle.html_page_stack.specs.OpenElements.{OpenElement, has_elements, html_mode, is_at, is_html, mode, mode_inside, named_mode}
use Rattle.html_page_stack.specs.declared.modes.{Mode.{Mode}, FramesetRule.{FramesetRule}, Space.{Space}, TemplateMode.{TemplateMode}}
use Rattle.html_page_stack.specs.declared.modes.FramesetRule.TheVariants as frameset
use Rattle.html_page_stack.specs.declared.modes.Mode.TheVariants.{BeforeHtml, BeforeHead, AfterHead, InTemplate, AfterFrameset}
use Rattle.html_page_stack.specs.declared.modes.TemplateMode.TheVariants as modes
use Rattle.html_page_tree.specs.PageTrees.{mode_of, mode_within}
use Rattle.html_page_tree_laws.proofs.Branches.{either_way}
use Rattle.html_page_tree_laws.proofs.Lengths.{unset}

-- no name of an element brings the modes outside of head and body

is_brought : Option Mode → Bool
is_brought (Some BeforeHtml) = false
is_brought (Some BeforeHead) = false
is_brought (Some AfterHead) = false
is_brought m = true

named_brought : (n : List ℕ) (os : List OpenElement) → is_brought (named_mode n os) ≡ true
unfolding is_brought
named_brought n os = let by = is_brought in
    either_way by (of kind.Cell n) refl (either_way by (of kind.Section n) refl
    (either_way by (of kind.Tr n) refl (either_way by (of kind.Caption n) refl
    (either_way by (of kind.Colgroup n) refl (either_way by (of kind.Table n) refl
    (either_way by (of kind.Body n) refl (either_way by (of kind.Head n) refl
    (either_way by (of kind.Raw n) refl
    (either_way by (of kind.Noscript n && is_at (of kind.Head) os) refl
    (either_way by (of kind.Template n) refl
    (either_way by (of kind.Frameset n) refl refl)))))))))))

-- the mode that an element brings
abbrev pub own : Space → (name : List ℕ) → List OpenElement → Option Mode
own s n os = if is_html s then named_mode n os else None

own_brought : (s : Space) (n : List ℕ) (os : List OpenElement) → is_brought (own s n os) ≡ true
unfolding is_brought
own_brought s n os = either_way is_brought (is_html s) (named_brought n os) refl

-- where an element is open, the mode is not that before `html`

is_begun : Mode → Bool
is_begun BeforeHtml = false
is_begun m = true

-- and where two are open, it is not that before the head

is_headed : Mode → Bool
is_headed BeforeHead = false
is_headed m = true

begun_brought : (m : Mode) → is_brought (Some m) ≡ true → is_begun m ≡ true
unfolding is_brought is_begun
begun_brought BeforeHtml h = h
begun_brought _ h = refl

headed_brought : (m : Mode) → is_brought (Some m) ≡ true → is_headed m ≡ true
unfolding is_brought is_headed
headed_brought BeforeHead h = h
headed_brought _ h = refl

-- what holds of what is brought, and of the mode around, holds of the mode
either_mode : (test : Mode → Bool) (n : Option Mode) (m : Mode) → ((l : Mode) →
    is_brought (Some l) ≡ true → test l ≡ true) → is_brought n ≡ true → test m ≡ true →
    test (unwrap_or n m) ≡ true
either_mode test None m all b h = h
either_mode test (Some l) m all b h = all l b

html_begun : (ns : NodesView) → is_begun (html_mode ns) ≡ true
unfolding is_begun
html_begun ns = either_way is_begun (has_elements ns) refl refl

inside_begun : (m : Mode) → is_begun m ≡ true → is_begun (mode_inside m) ≡ true
unfolding is_begun
inside_begun BeforeHead h = refl
inside_begun BeforeHtml h = h
inside_begun _ h = refl

inside_headed : (m : Mode) → is_headed (mode_inside m) ≡ true
unfolding is_headed
inside_headed BeforeHead = refl
inside_headed _ = refl

mode_begun : (o : OpenElement) (os : List OpenElement) → is_begun (mode (o ∷ os)) ≡ true
mode_begun o [] = either_mode is_begun (own o.space o.head.name []) (html_mode o.children)
    begun_brought (own_brought o.space o.head.name []) (html_begun o.children)
mode_begun o (p ∷ ps) = either_mode is_begun (own o.space o.head.name (p ∷ ps)) _ begun_brought
    (own_brought o.space o.head.name (p ∷ ps)) (either_way is_begun (length (p ∷ ps) == 0)
    (html_begun o.children) (inside_begun (mode (p ∷ ps)) (mode_begun p ps)))

mode_headed : (o p : OpenElement) (ps : List OpenElement) → is_headed (mode (o ∷ p ∷ ps)) ≡ true
mode_headed o p ps = either_mode is_headed (own o.space o.head.name (p ∷ ps)) _ headed_brought
    (own_brought o.space o.head.name (p ∷ ps))
    (rw (eqb-suc-zero (length ps)) (inside_headed (mode (p ∷ ps))))

-- and so of the mode of a page, if it holds of those of templates and behind a frameset
within : (test : Mode → Bool) → ((m : TemplateMode) → test (mode_of m) ≡ true) →
    test AfterFrameset ≡ true → (m : Mode) (ms : List TemplateMode) (r : FramesetRule) →
    test m ≡ true → test (mode_within m ms r) ≡ true
within test set behind InTemplate [] r h = h
within test set behind InTemplate (m ∷ ms) r h = set m
within test set behind AfterHead ms frameset.Behind h = behind
within test set behind AfterHead ms frameset.BehindHtml h = behind
within test set behind AfterHead ms _ h = h
within test set behind _ ms r h = h

within_begun : (m : Mode) (ms : List TemplateMode) (r : FramesetRule) → is_begun m ≡ true →
    is_begun (mode_within m ms r) ≡ true
unfolding is_begun
within_begun = within is_begun in_template refl where
  in_template : (m : TemplateMode) → is_begun (mode_of m) ≡ true
  in_template modes.Unset = refl
  in_template _ = refl

within_headed : (m : Mode) (ms : List TemplateMode) (r : FramesetRule) → is_headed m ≡ true →
    is_headed (mode_within m ms r) ≡ true
unfolding is_headed
within_headed = within is_headed in_template refl where
  in_template : (m : TemplateMode) → is_headed (mode_of m) ≡ true
  in_template modes.Unset = refl
  in_template _ = refl

-- before `html` no element is open
pub none_open : (os : List OpenElement) (ms : List TemplateMode) (r : FramesetRule) →
    mode_within (mode os) ms r ≡ BeforeHtml → os ≡ []
unfolding is_begun
none_open [] ms r e = refl
none_open (o ∷ os) ms r e = absurd (false≢true (sym (ap is_begun e)
    ∙ within_begun (mode (o ∷ os)) ms r (mode_begun o os)))

-- before the head one is open, that brings no mode
pub record IsBeforeHead (os : List OpenElement) : Type 0 where
  pub root : OpenElement
  pub alone : os ≡ root ∷ []
  pub unbrought : own root.space root.head.name [] ≡ None

brings_none : (n : Option Mode) (m : Mode) → is_brought n ≡ true →
    is_headed (unwrap_or n m) ≡ false → n ≡ None
brings_none None m b h = refl
brings_none (Some l) m b h = absurd (false≢true (sym h ∙ headed_brought l b))

pub one_open : (os : List OpenElement) (ms : List TemplateMode) (r : FramesetRule) →
    mode_within (mode os) ms r ≡ BeforeHead → IsBeforeHead os
unfolding is_headed
one_open [] ms r e = absurd (false≢true (sym (ap is_headed e)))
one_open (o ∷ []) ms r e = record {
  root = o;
  alone = refl;
  unbrought = brings_none (own o.space o.head.name []) (html_mode o.children)
      (own_brought o.space o.head.name []) (false_from_ne_true _ (λ h. false≢true
      (sym (ap is_headed e) ∙ within_headed (mode (o ∷ [])) ms r h)));
}
one_open (o ∷ p ∷ ps) ms r e = absurd (false≢true (sym (ap is_headed e)
    ∙ within_headed (mode (o ∷ p ∷ ps)) ms r (mode_headed o p ps)))

-- an element that brings none and has one in it is behind the head
pub behind_head : (o : OpenElement) → own o.space o.head.name [] ≡ None →
    has_elements o.children ≡ true → mode (o ∷ []) ≡ AfterHead
behind_head o e h = rw (e, h) refl

pub last_element : (ns : NodesView) (h : Head) (kids : NodesView) →
    has_elements (with_last ns (element_node h kids)) ≡ true
last_element none h kids = refl
last_element (node (tag_node t) ns) h kids = last_element ns h kids
last_element (node (text_node text span) ns) h kids = last_element ns h kids
last_element (node (element_node g gs) ns) h kids = refl
last_element (node (frame_node f) ns) h kids = last_element ns h kids

-- the modes of a `template` without one

is_template : Mode → Bool
is_template InTemplate = true
is_template m = false

set_none : (m : Mode) (ms : List TemplateMode) (r : FramesetRule) →
    is_template (mode_within m ms r) ≡ true → unset ms ≡ 1
unfolding is_template
set_none InTemplate [] r h = refl
set_none InTemplate (modes.Unset ∷ ms) r h = refl
set_none InTemplate (m ∷ ms) r h = absurd (false≢true h)
set_none AfterHead ms frameset.Behind h = absurd (false≢true h)
set_none AfterHead ms frameset.BehindHtml h = absurd (false≢true h)
set_none AfterHead ms _ h = absurd (false≢true h)
set_none _ ms r h = absurd (false≢true h)

pub no_mode : (m : Mode) (ms : List TemplateMode) (r : FramesetRule) →
    mode_within m ms r ≡ InTemplate → unset ms ≡ 1
unfolding is_template
no_mode m ms r e = set_none m ms r (ap is_template e)
