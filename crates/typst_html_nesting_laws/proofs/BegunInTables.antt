-- The start tag of an element that stays in a head or in a table opens it, and does nothing else.
use Rattle.std.proofs.{Common.{◌≡◌, ℕ, Bool, true, false, not, ◌&&◌, List, map, refl, sym, ap, ◌∙◌}, lemmas.Bool.{and_parts, not-true}}
use Rattle.std.specs.Prelude.{Option, Some, None}
use Rattle.html_names_core.specs.Kinds.{is_void}
use Rattle.html_page_nesting.specs.{Contents.{has_unread_end}, NestingRules.{has_place, is_in_tables}, declared.reading.Place.{Place}}
use Rattle.html_page_nesting.specs.declared.reading.Place.TheVariants as place
use Rattle.html_page_names.specs.{PageNames.{kind_names, of}, declared.kind.Kind.{Kind}}
use Rattle.html_page_names.specs.declared.kind.Kind.TheVariants as kind
use Rattle.html_page_stack.specs.{OpenElements.{at, is_at, is_table_context}, Pages.{Page, Start, StartTag, Turn, opened, opened_here, Taken}, declared.modes.{Destination.TheVariants.{Parent}, Mode.{Mode}}}
use Rattle.html_page_stack.specs.declared.modes.Mode.TheVariants.{InHead, InHeadNoscript, InTable, InColumns, InSection, InRow}
use Rattle.html_page_tree.specs.{PageBodies.{head_element, leaf}, PageTrees.{by_mode, cleared_to}}
use Rattle.typst_html_nesting_laws.proofs.{Branches.{of_two}, KindFacts.{AllPass, agree_of, names, passes_of}, Modes.{mode_in}}
use Rattle.typst_html_nesting_laws.proofs.{Opened.{Opens, head_begun, leaf_begun, one_of, opened_as, opened_plain}, Tables.{IsAtPlace, none_cleared}}

-- neither `svg` nor `math` nor `template`
abbrev is_html_name : List ℕ → Bool
is_html_name n = (not (of kind.Svg n) && not (of kind.Math n)) && not (of kind.Template n)

module _ (tag : StartTag) (p q : Page) (ops : Opens tag p q)
    (ends : has_unread_end tag.name ≡ false) where
  abbrev n : List ℕ
  n = tag.name

  -- the tag with another name
  abbrev with_name : List ℕ → StartTag
  with_name m = record { name = m; attrs = tag.attrs; closed = tag.closed }

  abbrev result : Turn
  result = Taken (opened_as n q)

  abbrev read_in : Mode → List ℕ → Turn
  read_in m l = by_mode m (Start (with_name l)) p

  -- a kind of elements that the rules of a mode open as they stand
  part : (m : Mode) (k : Kind) (begins : List ℕ → Page) →
      (of kind.Svg n ≡ false → of kind.Math n ≡ false → begins n ≡ q) →
      map (read_in m) (kind_names k) ≡ map (λ l. Taken (begins l)) (kind_names k) →
      AllPass (λ l. not (is_void l) && is_html_name l) (kind_names k) → of k n ≡ true →
      by_mode m (Start tag) p ≡ result
  part m k begins opens same whole h =
      let test = λ (l : List ℕ). not (is_void l) && is_html_name l in
      let a = and_parts _ _ (passes_of test k n whole h) in
      let b = and_parts _ _ a.1 in
      let c = and_parts _ _ b.0 in
      agree_of (read_in m) (λ l. Taken (begins l)) k n same h
      ∙ ap Taken (opens (not-true _ c.0) (not-true _ c.1)
      ∙ (ap (λ v. one_of v q) (sym (not-true _ a.0)) ∙ opened_plain n q (not-true _ b.1)))

  -- or in the element of a table that is the current node
  table_part : (m : Mode) (test : List ℕ → Bool) → is_at test p.stack ≡ true → (k : Kind) →
      map (read_in m) (kind_names k)
      ≡ map (λ l. Taken (opened_here l tag.attrs (cleared_to test p))) (kind_names k) →
      AllPass (λ l. not (is_void l) && is_html_name l) (kind_names k) → of k n ≡ true →
      by_mode m (Start tag) p ≡ result
  table_part m test there k same whole h =
      part m k (λ l. opened_here l tag.attrs (cleared_to test p)) (λ a b.
      ap (opened_here n tag.attrs) (none_cleared test p there) ∙ ops.here a b) same whole h

  -- or as elements of a head
  content : (m : Mode) (k : Kind) → map (read_in m) (kind_names k)
      ≡ map (λ l. Taken (head_element Parent (with_name l) p)) (kind_names k) →
      AllPass (of kind.HeadContent) (kind_names k) → of k n ≡ true →
      by_mode m (Start tag) p ≡ result
  content m k same head h =
      agree_of (read_in m) (λ l. Taken (head_element Parent (with_name l) p)) k n same h
      ∙ ap Taken (head_begun tag p q ops (passes_of (of kind.HeadContent) k n head h) ends)

  -- a script, a style or a `template`
  script : (m : Mode) → map (read_in m) (kind_names kind.ScriptOrStyle)
      ≡ map (λ l. Taken (head_element Parent (with_name l) p)) (kind_names kind.ScriptOrStyle) →
      map (read_in m) (kind_names kind.Template)
      ≡ map (λ l. Taken (head_element Parent (with_name l) p)) (kind_names kind.Template) →
      is_in_tables n ≡ true → by_mode m (Start tag) p ≡ result
  script m same also h = of_two h (content m kind.ScriptOrStyle same (unfold names in refl))
      (content m kind.Template also (unfold names in refl))

  column : at is_table_context p.stack ≡ false → of kind.Col n ≡ true →
      by_mode InColumns (Start tag) p ≡ result
  column outside h =
      let test = λ (l : List ℕ). is_void l && is_html_name l in
      let a = and_parts _ _ (passes_of test kind.Col n (unfold names in refl) h) in
      let b = and_parts _ _ a.1 in
      let c = and_parts _ _ b.0 in
      agree_of (read_in InColumns) (λ l. Taken (leaf (with_name l) p)) kind.Col n
      (unfold names in refl) h
      ∙ ap Taken (leaf_begun tag p q ops outside (not-true _ c.0) (not-true _ c.1)
      ∙ (ap (λ v. one_of v q) (sym a.0) ∙ opened_plain n q (not-true _ b.1)))

  -- by the rules of the mode of that place, if it is one
  abbrev TakenIn : Option Mode → Type 0
  TakenIn None = Unit {0}
  TakenIn (Some m) = by_mode m (Start tag) p ≡ result

  pub place_taken : (l : Place) → IsAtPlace l p.stack → has_place l n ≡ true →
      TakenIn (mode_in l)
  unfolding names
  place_taken place.Page there h = tt
  place_taken place.Head there h =
      of_two h (content InHead kind.HeadContent refl refl)
      (part InHead kind.Noscript (λ l. opened l tag.attrs p) (ops.plain there) refl refl)
  place_taken place.HeadNoscript there h = content InHeadNoscript kind.NoscriptContent refl refl h
  place_taken place.Table there h =
      let in_table = table_part InTable (of kind.Table) there in
      of_two h (λ c. of_two c (λ d. of_two d (in_table kind.Caption refl refl)
      (in_table kind.Colgroup refl refl)) (in_table kind.Section refl refl))
      (script InTable refl refl)
  place_taken place.Section there h =
      of_two h (table_part InSection (of kind.Section) there kind.Tr refl refl)
      (script InSection refl refl)
  place_taken place.Row there h =
      of_two h (table_part InRow (of kind.Tr) there kind.Cell refl refl)
      (script InRow refl refl)
  place_taken place.Columns there h =
      of_two h (column there) (content InColumns kind.Template refl refl)
  place_taken place.Body there h = tt
