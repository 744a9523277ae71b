-- An element of HTML that stands where the rules let it brings its own mode, or none, in a body.
use Rattle.std.proofs.Common.{◌≡◌, ◌⊎◌, ℕ, Bool, true, false, not, ◌&&◌, ◌||◌, List, [], ◌∷◌, inl, inr, refl, sym, ap, subst, ◌∙◌}
use Rattle.std.{proofs.lemmas.Bool.{and_from, both_ways, false≢true, or_parts}, specs.Prelude.{if◌then◌else◌, None}}
use Rattle.html_names_core.specs.Kinds.{is_void}
use Rattle.html_dom_tree.specs.Tree.{Head, NodesView}
use Rattle.html_page_nesting.specs.{Ancestors.{Ancestor, is_in, place_in, place_of, reading_of, space_of}, Surroundings.{surroundings_of}}
use Rattle.html_page_nesting.specs.NestingRules.{body_misnesting, element_misnesting, has_place, is_in_tables, is_never_read, named_misnesting}
use Rattle.html_page_nesting.specs.declared.{reading.Place.{Place}, surroundings.Surroundings.{Surroundings}}
use Rattle.html_page_nesting.specs.Ancestors as nest
use Rattle.html_page_nesting.specs.declared.misnesting.Misnesting.TheVariants as why
use Rattle.html_page_nesting.specs.declared.reading.Place.TheVariants as place
use Rattle.html_page_names.specs.{PageNames.{kind_names, of}, declared.kind.Kind.{Kind}}
use Rattle.html_page_names.specs.declared.kind.Kind.TheVariants as kind
use Rattle.html_page_stack.specs.{OpenElements.{OpenElement, is_at, named_mode}, declared.modes.Mode.{Mode}}
use Rattle.html_page_stack.specs.declared.modes.Mode.TheVariants.{InHeadNoscript, InText, InTable, InCaption, InColumns, InSection, InRow, InCell}
use Rattle.typst_html_nesting_laws.proofs.{Alike.{at_is}, Branches.{else_none, first_false, first_true, if_none, second_true, decide, of_two}}
use Rattle.typst_html_nesting_laws.proofs.{KindFacts.{AllPass, names, none_of, outside_of, passes_of}, Modes.{brings, place_test, placed}}
use Rattle.typst_html_nesting_laws.proofs.{Rules.{content_fits, has, html_read, named_kept}, Ways.{AreAlike, ends_at_once, is_page_place}}

-- an element of that name brings a mode
pub record IsOwn (n : List ℕ) (os : List OpenElement) : Type 0 where
  pub mode : Mode
  pub is : brings mode n os ≡ true

-- or it stands in a body, and brings none
pub record IsAround (n : List ℕ) (os : List OpenElement) (p : Place) : Type 0 where
  pub none : named_mode n os ≡ None
  pub body : p ≡ place.Body
  pub part : of kind.TablePart n ≡ false
  pub table : of kind.Table n ≡ false
  pub root : of kind.Root n ≡ false

abbrev pub Stands : (n : List ℕ) → List OpenElement → Place → Type 0
Stands n os p = IsOwn n os ⊎ IsAround n os p

module _ (n : List ℕ) (os : List OpenElement) where
  -- the parts of a table are its parts
  pub parts : of kind.TablePart n ≡ false → (of kind.Cell n ≡ false) × (of kind.Section n ≡ false)
      × (of kind.Tr n ≡ false) × (of kind.Caption n ≡ false) × (of kind.Colgroup n ≡ false)
  unfolding names
  parts h = (
    none kind.Cell refl,
    none kind.Section refl,
    none kind.Tr refl,
    none kind.Caption refl,
    none kind.Colgroup refl,
  )
    where
      none : (k : Kind) → AllPass (of kind.TablePart) (kind_names k) → of k n ≡ false
      none k all = outside_of (of kind.TablePart) k n all h

  own : (p : Place) (m : Mode) → brings m n os ≡ true → Stands n os p
  own p m h = inl (record { mode = m; is = h })

  -- in a body
  in_body : of kind.Template n ≡ false → (around : Surroundings) →
      body_misnesting n around ≡ None → Stands n os place.Body
  in_body plain around h =
      let part = if_none why.OutsideTable h in
      let read = if_none why.NeverRead part.1 in
      let never = or_parts _ _ (or_parts _ _ read.0).0 in
      let some = or_parts _ _ never.0 in
      let root = or_parts _ _ some.0 in
      let body = outside_of (of kind.Root) kind.Body n (unfold names in refl) root.0 in
      let head = outside_of (of kind.Misplaced) kind.Head n (unfold names in refl) root.1 in
      let p = parts part.0 in
      decide (of kind.Table n) (own place.Body InTable)
      (λ table. decide (of kind.Raw n) (own place.Body InText)
      (λ raw. decide (of kind.Noscript n && is_at (of kind.Head) os)
      (own place.Body InHeadNoscript)
      (λ noscript. inr (record {
        none = rw (
          p.0,
          p.1,
          p.2,
          p.3,
          p.4,
          table,
          body,
          head,
          raw,
          noscript,
          plain,
          never.1,
        ) refl;
        body = refl;
        part = part.0;
        table = table;
        root = root.0;
      }))))

  module _ (plain : of kind.Template n ≡ false) (filled : is_void n ≡ false)
      (leaf : of kind.HeadLeaf n ≡ false) where
    -- elements that are text alone, but for those without an end tag
    text_alone : (k : Kind) (p : Place) →
        AllPass (λ m. of kind.HeadLeaf m || (of kind.Raw m || of kind.Template m))
        (kind_names k) → of k n ≡ true → Stands n os p
    text_alone k p all h =
        let test = λ (m : List ℕ). of kind.HeadLeaf m || (of kind.Raw m || of kind.Template m) in
        own p InText (first_true (second_true (passes_of test k n all h) leaf) plain)

    -- a script or a style in a table
    in_table : (p : Place) → is_in_tables n ≡ true → Stands n os p
    in_table p h = text_alone kind.ScriptOrStyle p (unfold names in refl) (first_true h plain)

    -- in each place
    stands_at : (p : Place) (around : Surroundings) → is_page_place p ≡ false →
        named_misnesting p n around ≡ None → (p ≡ place.Head → is_at (of kind.Head) os ≡ true) →
        Stands n os p
    stands_at place.Page around page h head = absurd (false≢true (sym page))
    stands_at place.Head around page h head =
        let k = has place.Head n around page h (λ e. cc) in
        of_two k (text_alone kind.HeadContent place.Head (unfold names in refl))
        (λ e. own place.Head InHeadNoscript (and_from _ _ e (head refl)))
    stands_at place.HeadNoscript around page h head =
        text_alone kind.NoscriptContent place.HeadNoscript (unfold names in refl)
        (has place.HeadNoscript n around page h (λ e. cc))
    stands_at place.Table around page h head =
        let k = has place.Table n around page h (λ e. cc) in
        of_two k
        (λ c. of_two c (λ d. of_two d (own place.Table InCaption) (own place.Table InColumns))
        (own place.Table InSection)) (in_table place.Table)
    stands_at place.Section around page h head =
        of_two (has place.Section n around page h (λ e. cc)) (own place.Section InRow)
        (in_table place.Section)
    stands_at place.Row around page h head =
        of_two (has place.Row n around page h (λ e. cc)) (own place.Row InCell) (in_table place.Row)
    stands_at place.Columns around page h head =
        let column = first_true (has place.Columns n around page h (λ e. cc)) plain in
        absurd (both_ways _ filled (passes_of is_void kind.Col n (unfold names in refl) column))
    stands_at place.Body around page h head = in_body plain around h

-- within the head, the parent is the head
head_parent : (above : List Ancestor) → place_of above ≡ place.Head →
    is_in (of kind.Head) above ≡ true
head_parent [] e = absurd (cc)
head_parent (a ∷ above) e = by_space (nest.is_html a.space) e where
  by_space : (b : Bool) → (if b then place_in (is_in (of kind.Head) above)
      a.head.name else place.Body) ≡ place.Head → (b && of kind.Head a.head.name) ≡ true
  by_space true h = subst (λ p. place_test p (is_in (of kind.Head) above) a.head.name ≡ true) h
      (placed (is_in (of kind.Head) above) a.head.name)
  by_space false h = absurd (cc)

-- of an element of HTML
pub html_stands : (above : List Ancestor) (h : Head) (kids : NodesView) (os : List OpenElement) →
    AreAlike above os → is_page_place (place_of above) ≡ false → element_misnesting h kids
    (surroundings_of above) ≡ None → nest.is_html (space_of (reading_of above) h.name) ≡ true →
    of kind.Template h.name ≡ false → ends_at_once h ≡ false → Stands h.name os (place_of above)
html_stands above h kids os alike page rules html plain once =
    let around = surroundings_of above in
    let read = html_read _ _ html in
    let filled = (or_parts _ _ once).1 in
    let ends = first_false (content_fits h kids around rules read).ends (ap not filled) in
    stands_at h.name os plain filled (or_parts _ _ ends).1 (place_of above) around page
    (named_kept h kids around rules read) (λ e. at_is (of kind.Head) above os alike
    ∙ head_parent above e)

-- and is no `plaintext`
pub named_no_plaintext : (p : Place) (n : List ℕ) (around : Surroundings) →
    is_page_place p ≡ false → named_misnesting p n around ≡ None → of kind.Plaintext n ≡ false
named_no_plaintext place.Page n around page h = absurd (false≢true (sym page))
named_no_plaintext place.Body n around page h =
    let part = if_none why.OutsideTable h in outside_of is_never_read kind.Plaintext n
    (unfold names in refl) (if_none why.NeverRead part.1).0
named_no_plaintext p n around page h =
    none_of (has_place p) kind.Plaintext n (unfold names in refl) (else_none _ h).0
