-- The modes of the open `template` elements, where what stands in them is that of a body or a head.
use Rattle.std.proofs.{Common.{◌≡◌, ℕ, Bool, true, false, not, ◌&&◌, ◌||◌, ◌==◌, List, [], ◌∷◌, drop, length, refl, sym, ap, subst, ◌∙◌}, Math.Dec.{eqb-suc-zero}}
use Rattle.std.proofs.lemmas.Bool.{and_from, and_parts, false≢true, or_left, or_right}
use Rattle.std.specs.Prelude.{if◌then◌else◌, Option, Some, None, unwrap_or}
use Rattle.html_dom_tree.specs.Tree.{NodesView}
use Rattle.html_page_names.specs.PageNames.{of}
use Rattle.html_page_names.specs.declared.kind.Kind.TheVariants as kind
use Rattle.html_page_stack.specs.OpenElements.{OpenElement, has, has_elements, html_mode, is_at, is_html, is_of, mode, mode_inside, named_mode, with_last_text, with_text}
use Rattle.html_page_stack.specs.Pages.{Page, closed}
use Rattle.html_page_stack.specs.declared.modes.FramesetRule.TheVariants as frameset
use Rattle.html_page_stack.specs.declared.modes.{Mode.{Mode, TheVariants.{AfterHead, BeforeHead, InBody, InFrameset, InTemplate}}, TemplateMode.{TemplateMode}}
use Rattle.html_page_stack.specs.declared.modes.TemplateMode.TheVariants as modes
use Rattle.html_page_tree.specs.PageTrees.{mode_of, mode_within, page_mode}
use Rattle.typst_html_nesting_laws.proofs.{Branches.{decide, either_way, second_false}, Modes.{tells, template_mode}, Turns.{is_told, read_mode}}

abbrev pub is_template : OpenElement → Bool
is_template = is_of (of kind.Template)

-- the modes of the open templates, innermost first
abbrev pub TemplateModes : Type 0
TemplateModes = List TemplateMode

-- the modes of a `template` in which no part of a table stands: nothing but content of the head is
-- begun in it, or it is read as a body
abbrev pub is_template_mode : Mode → Bool
is_template_mode InTemplate = true
is_template_mode InBody = true
is_template_mode m = false

abbrev begin_well : TemplateModes → Bool
begin_well [] = false
begin_well (m ∷ ms) = is_template_mode (mode_of m)

-- whether the innermost `template` is read as a body, if one is open
abbrev pub reads_body : TemplateModes → Bool
reads_body [] = true
reads_body (modes.Body ∷ ms) = true
reads_body ms = false

-- whether these are the modes of the templates among the open elements, of which each that holds an
-- element other than content of the head is read as a body
abbrev pub are_modes : List OpenElement → TemplateModes → Bool
are_modes [] [] = true
are_modes [] (m ∷ ms) = false
are_modes (o ∷ os) ms = if is_template o then begin_well ms && are_modes os (drop 1 ms)
    else (is_of (of kind.Raw) o || reads_body ms) && are_modes os ms

-- an element that may stand in the innermost `template`, as it is read
abbrev pub ReadsBody : OpenElement → TemplateModes → Type 0
ReadsBody o ms = (is_template o || (is_of (of kind.Raw) o || reads_body ms)) ≡ true

-- whether a `template` is open, by its mode
abbrev pub hold_modes : TemplateModes → Bool
hold_modes ms = not (length ms == 0)

-- the modes once an element is opened, and once it is closed

abbrev pub modes_if : (template : Bool) → TemplateModes → TemplateModes
modes_if template ms = if template then modes.Unset ∷ ms else ms

abbrev pub modes_in : OpenElement → TemplateModes → TemplateModes
modes_in o ms = modes_if (is_template o) ms

abbrev pub modes_behind : OpenElement → TemplateModes → TemplateModes
modes_behind o ms = if is_template o then drop 1 ms else ms

-- the modes once the innermost `template` is read as a body
abbrev pub read_modes : TemplateModes → TemplateModes
read_modes ms = modes.Body ∷ drop 1 ms

-- the page once the current node is closed by its own end tag
abbrev pub closed_own : OpenElement → Page → Page
closed_own o p = record (closed true p) { templates = modes_behind o p.templates }

pub closed_plain : (o : OpenElement) (p : Page) → is_template o ≡ false →
    closed_own o p ≡ closed true p
closed_plain o p h = ap (λ b. record (closed true p) {
  templates = if b then drop 1 p.templates else p.templates;
}) h

-- by whether an element is a `template`, or one of text alone

abbrev modes_by : (template raw : Bool) → List OpenElement → TemplateModes → Bool
modes_by template raw os ms = if template then begin_well ms && are_modes os (drop 1 ms)
    else (raw || reads_body ms) && are_modes os ms

in_by : (template raw : Bool) (os : List OpenElement) (ms : TemplateModes) →
    are_modes os ms ≡ true → (template || (raw || reads_body ms)) ≡ true →
    modes_by template raw os (modes_if template ms) ≡ true
in_by true raw os ms h reads = h
in_by false raw os ms h reads = and_from _ _ reads h

behind_by : (template raw : Bool) (os : List OpenElement) (ms : TemplateModes) →
    modes_by template raw os ms ≡ true →
    are_modes os (if template then drop 1 ms else ms) ≡ true
behind_by true raw os ms h = (and_parts _ _ h).1
behind_by false raw os ms h = (and_parts _ _ h).1

back_by : (template : Bool) (ms : TemplateModes) →
    (if template then drop 1 (modes_if template ms) else modes_if template ms) ≡ ms
back_by true ms = refl
back_by false ms = refl

deeper_by : (template : Bool) (ms : TemplateModes) →
    hold_modes (modes_if template ms) ≡ (template || hold_modes ms)
deeper_by true ms = ap not (eqb-suc-zero (length ms))
deeper_by false ms = refl

holds_by : (template raw : Bool) (os : List OpenElement) (ms : TemplateModes) →
    (are_modes os ms ≡ true → hold_modes ms ≡ has (of kind.Template) os) →
    modes_by template raw os ms ≡ true →
    hold_modes ms ≡ (template || has (of kind.Template) os)
holds_by true raw os [] rest h = absurd (false≢true h)
holds_by true raw os (m ∷ ms) rest h = ap not (eqb-suc-zero (length ms))
holds_by false raw os ms rest h = rest (and_parts _ _ h).1

reads_by : (template raw : Bool) (os : List OpenElement) (ms : TemplateModes) →
    template ≡ false → raw ≡ false → modes_by template raw os ms ≡ true → reads_body ms ≡ true
reads_by true raw os ms e k h = absurd (false≢true (sym e))
reads_by false true os ms e k h = absurd (false≢true (sym k))
reads_by false false os ms e k h = (and_parts _ _ h).0

read_by : (template raw : Bool) (os : List OpenElement) (ms : TemplateModes) → template ≡ true →
    modes_by template raw os ms ≡ true → modes_by template raw os (read_modes ms) ≡ true
read_by true raw os ms e h = (and_parts _ _ h).1
read_by false raw os ms e h = absurd (false≢true e)

begins_by : (template raw : Bool) (os : List OpenElement) (ms : TemplateModes) → template ≡ true →
    modes_by template raw os ms ≡ true → begin_well ms ≡ true
begins_by true raw os ms e h = (and_parts _ _ h).0
begins_by false raw os ms e h = absurd (false≢true e)

-- an element is opened
pub modes_opened : (o : OpenElement) (os : List OpenElement) (ms : TemplateModes) →
    are_modes os ms ≡ true → ReadsBody o ms → are_modes (o ∷ os) (modes_in o ms) ≡ true
modes_opened o os ms h reads = in_by (is_template o) (is_of (of kind.Raw) o) os ms h reads

-- the current node is closed
pub modes_closed : (o : OpenElement) (os : List OpenElement) (ms : TemplateModes) →
    are_modes (o ∷ os) ms ≡ true → are_modes os (modes_behind o ms) ≡ true
modes_closed o os ms h = behind_by (is_template o) (is_of (of kind.Raw) o) os ms h

pub modes_back : (o : OpenElement) (ms : TemplateModes) → modes_behind o (modes_in o ms) ≡ ms
modes_back o ms = back_by (is_template o) ms

-- texts change nothing of that

pub modes_with_text : (text : List ℕ) (os : List OpenElement) (ms : TemplateModes) →
    are_modes os ms ≡ true → are_modes (with_last_text text os) ms ≡ true
modes_with_text text [] ms h = h
modes_with_text [] (o ∷ os) ms h = h
modes_with_text (c ∷ cs) (o ∷ os) ms h = h

pub modes_without_text : (text : List ℕ) (o : OpenElement) (os : List OpenElement)
    (ms : TemplateModes) → are_modes (with_text text o ∷ os) ms ≡ true →
    are_modes (o ∷ os) ms ≡ true
modes_without_text [] o os ms h = h
modes_without_text (c ∷ cs) o os ms h = h

pub has_with_text : (text : List ℕ) (o : OpenElement) (os : List OpenElement) →
    has (of kind.Template) (with_text text o ∷ os) ≡ has (of kind.Template) (o ∷ os)
has_with_text [] o os = refl
has_with_text (c ∷ cs) o os = refl

-- whether a `template` is open, by the open elements

pub modes_there : (os : List OpenElement) (ms : TemplateModes) → are_modes os ms ≡ true →
    hold_modes ms ≡ has (of kind.Template) os
modes_there [] [] h = refl
modes_there [] (m ∷ ms) h = absurd (false≢true h)
modes_there (o ∷ os) ms h =
    holds_by (is_template o) (is_of (of kind.Raw) o) os ms (modes_there os ms) h

pub modes_deeper : (o : OpenElement) (ms : TemplateModes) →
    hold_modes (modes_in o ms) ≡ (is_template o || hold_modes ms)
modes_deeper o ms = deeper_by (is_template o) ms

-- where the current node is no `template`, the innermost is read as a body
pub reads_inside : (os : List OpenElement) (ms : TemplateModes) → are_modes os ms ≡ true →
    is_at (of kind.Template) os ≡ false → is_at (of kind.Raw) os ≡ false → reads_body ms ≡ true
reads_inside [] [] h e k = refl
reads_inside [] (m ∷ ms) h e k = absurd (false≢true h)
reads_inside (o ∷ os) ms h e k =
    reads_by (is_template o) (is_of (of kind.Raw) o) os ms e k h

-- and where it is one, it may be so from now on
pub modes_read : (os : List OpenElement) (ms : TemplateModes) → is_at (of kind.Template) os ≡ true →
    are_modes os ms ≡ true → are_modes os (read_modes ms) ≡ true
modes_read [] ms e h = absurd (false≢true e)
modes_read (o ∷ os) ms e h = read_by (is_template o) (is_of (of kind.Raw) o) os ms e h

-- the mode of a page

-- no element but a `template` brings its mode
named_told : (n : List ℕ) (os : List OpenElement) → of kind.Template n ≡ false →
    tells (named_mode n os) ≡ true
named_told n os h =
    either_way tells (of kind.Cell n) refl
    (either_way tells (of kind.Section n) refl
    (either_way tells (of kind.Tr n) refl
    (either_way tells (of kind.Caption n) refl
    (either_way tells (of kind.Colgroup n) refl
    (either_way tells (of kind.Table n) refl
    (either_way tells (of kind.Body n) refl
    (either_way tells (of kind.Head n) refl
    (either_way tells (of kind.Raw n) refl
    (either_way tells (of kind.Noscript n && is_at (of kind.Head) os) refl
    (ap (λ b. tells (if b then Some InTemplate
    else (if of kind.Frameset n then Some InFrameset else None))) h
    ∙ either_way tells (of kind.Frameset n) refl refl))))))))))

own_told : (o : OpenElement) (os : List OpenElement) → is_template o ≡ false →
    tells (if is_html o.space then named_mode o.head.name os else None) ≡ true
own_told o os h =
    let own = λ (b : Bool). tells (if b then named_mode o.head.name os else None) in
    decide (is_html o.space) (λ e. ap own e ∙ named_told o.head.name os (second_false h e)) (ap own)

or_told : (own : Option Mode) (m : Mode) → tells own ≡ true → unwrap_or own m ≡ InTemplate →
    m ≡ InTemplate
or_told None m t e = e
or_told (Some n) m t e = absurd (false≢true (sym (ap is_told e) ∙ t))

html_told : (children : NodesView) → is_told (html_mode children) ≡ true
html_told children = either_way is_told (has_elements children) refl refl

inside_template : (m : Mode) → mode_inside m ≡ InTemplate → m ≡ InTemplate
inside_template BeforeHead e = absurd (cc)
inside_template _ e = e

mode_holds : (os : List OpenElement) → mode os ≡ InTemplate → has (of kind.Template) os ≡ true
mode_holds [] e = absurd (cc)
mode_holds (o ∷ []) e = decide (is_template o) (or_left (is_template o) _)
    (λ t. absurd (false≢true (sym (ap is_told (or_told _ (html_mode o.children)
    (own_told o [] t) e)) ∙ html_told o.children)))
mode_holds (o ∷ q ∷ qs) e = decide (is_template o) (or_left (is_template o) _)
    (λ t. or_right (is_template o) _ (mode_holds (q ∷ qs)
    (inside_template (mode (q ∷ qs)) (or_told _ (mode_inside (mode (q ∷ qs)))
    (own_told o (q ∷ qs) t)
    (sym (ap (λ b. unwrap_or (if is_html o.space then named_mode o.head.name (q ∷ qs) else None)
    (if b then html_mode o.children else mode_inside (mode (q ∷ qs)))) (eqb-suc-zero (length qs)))
    ∙ e)))))

within_body : (m : Mode) (ms : TemplateModes) → (m ≡ InTemplate → hold_modes ms ≡ true) →
    reads_body ms ≡ true → mode_within m ms frameset.Ignored ≡ read_mode m
within_body InTemplate [] there reads = absurd (false≢true (there refl))
within_body InTemplate (modes.Body ∷ ms) there reads = refl
within_body InTemplate (m ∷ ms) there reads = absurd (false≢true reads)
within_body AfterHead ms there reads = refl
within_body _ ms there reads = refl

-- where the innermost `template` is read as a body
pub body_mode : (p : Page) → p.framesets ≡ frameset.Ignored →
    are_modes p.stack p.templates ≡ true → reads_body p.templates ≡ true →
    page_mode p ≡ read_mode (mode p.stack)
body_mode p barred modes reads = ap (mode_within (mode p.stack) p.templates) barred
    ∙ within_body (mode p.stack) p.templates
    (λ e. modes_there p.stack p.templates modes ∙ mode_holds p.stack e) reads

within_template : (ms : TemplateModes) → begin_well ms ≡ true → reads_body ms ≡ false →
    mode_within InTemplate ms frameset.Ignored ≡ InTemplate
within_template [] h reads = absurd (false≢true h)
within_template (modes.Unset ∷ ms) h reads = refl
within_template (modes.Body ∷ ms) h reads = absurd (false≢true (sym reads))
within_template (m ∷ ms) h reads = absurd (false≢true h)

at_template : (os : List OpenElement) → is_at (of kind.Template) os ≡ true → mode os ≡ InTemplate
at_template [] e = absurd (false≢true e)
at_template (o ∷ os) e =
    let both = and_parts (is_html o.space) _ e in template_mode o os both.0 both.1

begins_at : (os : List OpenElement) (ms : TemplateModes) → is_at (of kind.Template) os ≡ true →
    are_modes os ms ≡ true → begin_well ms ≡ true
begins_at [] ms e h = absurd (false≢true e)
begins_at (o ∷ os) ms e h = begins_by (is_template o) (is_of (of kind.Raw) o) os ms e h

-- and in a `template` that is not
pub head_mode : (p : Page) → p.framesets ≡ frameset.Ignored →
    is_at (of kind.Template) p.stack ≡ true → are_modes p.stack p.templates ≡ true →
    reads_body p.templates ≡ false → page_mode p ≡ InTemplate
head_mode p barred at modes reads = ap (mode_within (mode p.stack) p.templates) barred
    ∙ (ap (λ m. mode_within m p.templates frameset.Ignored) (at_template p.stack at)
    ∙ within_template p.templates (begins_at p.stack p.templates at modes) reads)

-- there is no other mode in a `template`

first_by : (template raw : Bool) (os : List OpenElement) (m : TemplateMode)
    (ms : TemplateModes) → (are_modes os (m ∷ ms) ≡ true → is_template_mode (mode_of m) ≡ true) →
    modes_by template raw os (m ∷ ms) ≡ true → is_template_mode (mode_of m) ≡ true
first_by true raw os m ms rest h = (and_parts _ _ h).0
first_by false raw os m ms rest h = rest (and_parts _ _ h).1

first_mode : (os : List OpenElement) (m : TemplateMode) (ms : TemplateModes) →
    are_modes os (m ∷ ms) ≡ true → is_template_mode (mode_of m) ≡ true
first_mode [] m ms h = absurd (false≢true h)
first_mode (o ∷ os) m ms h =
    first_by (is_template o) (is_of (of kind.Raw) o) os m ms (first_mode os m ms) h

-- what holds of the mode that the open elements tell, and of those of templates, holds of a page's
within_any : (test : Mode → Bool) → test InTemplate ≡ true → test InBody ≡ true → (m : Mode)
    (ms : TemplateModes) → ((n : TemplateMode) (ns : TemplateModes) → ms ≡ n ∷ ns →
    is_template_mode (mode_of n) ≡ true) → test m ≡ true → test (mode_within m ms frameset.Ignored) ≡ true
within_any test a b InTemplate [] first h = h
within_any test a b InTemplate (m ∷ ms) first h = by_first (mode_of m) (first m ms refl) where
  by_first : (m : Mode) → is_template_mode m ≡ true → test m ≡ true
  by_first InTemplate e = a
  by_first InBody e = b
  by_first m e = absurd (false≢true e)
within_any test a b AfterHead ms first h = h
within_any test a b _ ms first h = h

pub mode_passes : (test : Mode → Bool) → test InTemplate ≡ true → test InBody ≡ true →
    (p : Page) → p.framesets ≡ frameset.Ignored → are_modes p.stack p.templates ≡ true →
    test (mode p.stack) ≡ true → test (page_mode p) ≡ true
mode_passes test a b p barred modes h =
    ap (λ r. test (mode_within (mode p.stack) p.templates r)) barred
    ∙ within_any test a b (mode p.stack) p.templates (λ n ns e. first_mode p.stack n ns
    (subst (λ ms. are_modes p.stack ms ≡ true) e modes)) h

-- in a `template` it is either of the two
pub template_page : (p : Page) (o : OpenElement) (os : List OpenElement) → p.stack ≡ o ∷ os →
    p.framesets ≡ frameset.Ignored → is_template o ≡ true → are_modes p.stack p.templates ≡ true →
    is_template_mode (page_mode p) ≡ true
template_page p o os e barred t modes = mode_passes is_template_mode refl refl p barred modes
    (ap is_template_mode (ap mode e ∙ at_template (o ∷ os) t))
