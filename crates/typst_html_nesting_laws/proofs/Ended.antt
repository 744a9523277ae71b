-- An end tag of the current node's name closes it, where nothing is misnested.
use Rattle.std.proofs.Common.{◌≡◌, ℕ, Bool, true, false, not, ◌&&◌, ◌||◌, List, [], ◌∷◌, drop, length, inl, inr, refl, sym, ap, subst, ◌∙◌}
use Rattle.std.proofs.lemmas.{Bool.{and_from, and_left, and_parts, and_right, eq-eqb, false≢true, or_from, or_left, or_parts, or_right}, Slice.Eq.{bytes_eq-Decides}}
use Rattle.std.specs.Prelude.{if◌then◌else◌, None, Option, codes}
use Rattle.html_names_core.specs.Kinds.{is_void}
use Rattle.html_dom_tree.specs.Tree.{Head, NodesView}
use Rattle.html_page_nesting.specs.{Ancestors.{Ancestor, ancestor, place_of, reading_of, space_of}, NestingRules.{element_misnesting}}
use Rattle.html_page_nesting.specs.{Surroundings.{surroundings_of}, WrittenTags.{capital_tags}, declared.reading.Place.{Place}}
use Rattle.html_page_nesting.specs.declared.reading.Space.{Space, TheVariants.{Html}}
use Rattle.html_page_nesting.specs.Ancestors as nest
use Rattle.html_page_nesting.specs.declared.reading.Place.TheVariants as place
use Rattle.html_page_names.specs.{ForeignNames.{keeps_case, lowered}, PageNames.{is, kind_names, of}, declared.kind.Kind.{Kind}}
use Rattle.html_page_names.specs.declared.kind.Kind.TheVariants as kind
use Rattle.html_page_stack.specs.Formats.{after_current}
use Rattle.html_page_stack.specs.OpenElements.{OpenElement, bounds, is_at, is_foreign, is_foreign_of, is_html, is_opened, mode, named_mode, uncovered, with_text, without_current}
use Rattle.html_page_stack.specs.Pages.{Page, End, closed, closed_around, closed_in, closed_to_goal, form_after, no_name, noted_if, template_closed, thoroughly_closed, Taken}
use Rattle.html_page_stack.specs.declared.error.PageError.TheVariants as error
use Rattle.html_page_stack.specs.declared.modes.{Mode.{Mode}, Scope.{Scope}}
use Rattle.html_page_stack.specs.declared.modes.Mode.TheVariants.{InHead, InHeadNoscript, InBody, InText, InTable, InCaption, InColumns, InSection, InRow, InCell, InTemplate}
use Rattle.html_page_stack.specs.declared.modes.Scope.TheVariants as scope
use Rattle.html_page_tree.specs.PageBodies.{adopted, any_form_closed, element_ended, form_closed, form_ended, form_left, in_body_end, template_ended}
use Rattle.html_page_tree.specs.PageTrees.{by_mode, foreign_closed, in_foreign_end, in_part_end, page_mode, part_closed, token_read, turn}
use Rattle.html_page_tree.proofs.OwnEnds as own
use Rattle.typst_html_nesting_laws.proofs.{Alike.{space_foreign, space_html}, Branches.{either, pick, decide, skip}, Capitals.{fails_small}}
use Rattle.typst_html_nesting_laws.proofs.{KeptTags.{small_html}, ListedFormats.{IsInOrder, unlisted_or_last}, Modes.{brings, brings_told, none_raw, own_mode}}
use Rattle.typst_html_nesting_laws.proofs.{Closed.{closed_is}, ClosedBefore.{while_not}}
use Rattle.typst_html_nesting_laws.proofs.Templates.{body_mode, closed_own, closed_plain, hold_modes, is_template, is_template_mode, modes_there, reads_inside, template_page}
use Rattle.typst_html_nesting_laws.proofs.{KindFacts.{AllFail, fails_of, names, outside_of, passes_of}, Rules.{foreign_fits, tag_fits}}
use Rattle.typst_html_nesting_laws.proofs.{Stands.{Stands, html_stands, parts}, Steady.{around_steady}, Tables.{none_cleared}, Turns.{end_whole, is_told, read_mode, stack_mode, turn_taken}}
use Rattle.typst_html_nesting_laws.proofs.Ways.{AreAlike, AreBegun, IsAlike, IsCalm, IsSteady, ends_at_once, is_body_mode, is_page_place}

-- the current node, an element of HTML
module _ (p : Page) (o : OpenElement) (os : List OpenElement) (html : is_html o.space ≡ true) where
  abbrev n : List ℕ
  n = o.head.name

  abbrev q : Page
  q = record p { stack = o ∷ os }

  named : is n n ≡ true
  named = own.named p o os html

  -- its end tag closes it, and no element of its kind is closed before it
  unimplied : (k : Kind) → AllFail (of kind.Implied) (kind_names k) → of k n ≡ true →
      of kind.Implied n ≡ false
  unimplied k none h = fails_of (of kind.Implied) k n none h

  -- the form that is begun is the current node
  module _ (h : of kind.Form n ≡ true) where
    abbrev goal : OpenElement → Bool
    goal = is_opened (codes "form") o.head.span

    here : goal o ≡ true
    here = and_from _ _ (and_from _ _ html (passes_of (is (codes "form")) kind.Form n
        (unfold names in refl) h)) (eq-eqb o.head.span o.head.span refl)

    at_form : is_at (of kind.Form) (o ∷ os) ≡ true
    at_form = own.at_name p o os html (of kind.Form) h

    abbrev behind : Page
    behind = record q { form = None }

    form_ends : form_ended goal behind ≡ closed true behind
    form_ends = pick _ (or_left (goal o) _ here) (ap (form_left goal)
        (own.none_implied_at_all (record p { form = None }) o os html
        (unimplied kind.Form (unfold names in refl) h))
        ∙ (ap (λ b. closed_around goal (noted_if (not b) error.EndTagOverOpenElements behind)) here
        ∙ pick _ here refl))

    forgotten : (form : Option ℕ) → form_after true (o ∷ os) form ≡ None
    forgotten form = pick _ (and_from _ _ at_form refl) refl

    abbrev made : Option ℕ → Page
    made form = record p {
      text = [];
      moved = false;
      stack = uncovered (without_current (with_text p.text o ∷ os));
      formats = after_current true (o ∷ os) p.formats;
      form = form;
    }

    -- or any form, in a `template`
    end_any : closed_in scope.General (of kind.Form) (of kind.Form) no_name q ≡ closed true q
    end_any = pick _ (own.reached p o os html (of kind.Form) (bounds scope.General) h)
        (own.over p o os html (of kind.Form) (of kind.Form) no_name h h
        (ap (λ b. b && true) (unimplied kind.Form (unfold names in refl) h)))

    end_form : AreBegun (o ∷ os) p → any_form_closed q ≡ closed true q
    end_form l =
        let there = modes_there (o ∷ os) p.templates l.modes in
        either (hold_modes p.templates) (λ e. end_any) (λ e.
        let outer = (or_parts (is_template o) _ (sym there ∙ e)).1 in
        let left : (form : Option ℕ) → (if hold_modes p.templates then form
        else form_after true (o ∷ os) form) ≡ None = λ form. skip _ e (forgotten form) in
        ap (λ form. form_closed form q)
        (l.form ∙ pick _ (and_from _ _ (ap not outer) at_form) refl)
        ∙ (form_ends ∙ (closed_is o os behind l.moved
        ∙ (ap made (left None ∙ sym (left p.form)) ∙ sym (closed_is o os q l.moved)))))

  end_item : (s : Scope) → closed_in s (is n) (is n) (is n) q ≡ closed true q
  end_item s = own.within p o os html s (is n) (is n) named (own.but_named p o os html (is n) named)

  end_scoped : (test : List ℕ → Bool) → test n ≡ true → of kind.Implied n ≡ false →
      closed_in scope.General (is n) test no_name q ≡ closed true q
  end_scoped test h implied = own.within p o os html scope.General test no_name h
      (ap (λ b. b && true) implied)

  end_formatting : of kind.Formatting n ≡ true → IsInOrder (o ∷ os) p.formats →
      adopted n q ≡ closed true q
  end_formatting h ordered = elim (unlisted_or_last o os p.formats ordered) [
    | inl none ↦
        pick _ (and_from _ _ (own.at_name p o os html (is n) named) (ap not none)) refl
    | inr last ↦ own.end_formatting p o os html h
        (or_right (not (is_at (of kind.Formatting) (o ∷ os))) _ last)
  ]

  end_element : of kind.Template n ≡ false → AreBegun (o ∷ os) p →
      element_ended n q ≡ closed true q
  end_element plain l =
      either (of kind.Form n) (λ h. end_form h l) (λ f.
      either (of kind.P n) (own.end_p p o os html) (λ x.
      either (of kind.ListItem n) (λ h. end_item scope.ListItem) (λ i.
      either (of kind.DescriptionPart n) (λ h. end_item scope.General) (λ d.
      either (of kind.Heading n)
      (λ h. end_scoped (of kind.Heading) h (unimplied kind.Heading (unfold names in refl) h)) (λ k.
      either (of kind.ClosesInScope n)
      (λ h. end_scoped (is n) named (unimplied kind.ClosesInScope (unfold names in refl) h)) (λ c.
      either (of kind.Formatting n)
      (λ h. end_formatting h l.ordered) (λ f. skip _ plain (own.end_other p o os html))))))))

  part_ended : (test : List ℕ → Bool) → test n ≡ true → of kind.Implied n ≡ false →
      part_closed test q ≡ closed true q
  part_ended test h implied =
      rw (own.none_implied_at_all p o os html implied, own.at_name p o os html test h)
      (own.closes p o os html test h)

  -- the end tag of a `template`
  end_template : of kind.Template n ≡ true → hold_modes p.templates ≡ true →
      template_ended q ≡ closed_own o q
  end_template h there =
      let at = own.at_name p o os html (of kind.Template) h in
      let implied : (of kind.Implied n || of kind.TablePart n) ≡ false =
      or_from _ _ (unimplied kind.Template (unfold names in refl) h)
      (fails_of (of kind.TablePart) kind.Template n (unfold names in refl) h) in
      let thorough : thoroughly_closed q ≡ q =
      while_not (is_at (λ m. of kind.Implied m || of kind.TablePart m)) (length q.stack) q
      (and_right _ _ implied) in
      let without : Page → Page = λ r. record r { templates = drop 1 r.templates } in
      pick _ there (ap (λ r. template_closed (noted_if (not (is_at (of kind.Template) r.stack))
      error.EndTagOverOpenElements r)) thorough
      ∙ (ap (λ b. template_closed (noted_if (not b) error.EndTagOverOpenElements q)) at
      ∙ (ap without (own.closes p o os html (of kind.Template) h)
      ∙ ap (λ b. record (closed true q) {
        templates = if b then drop 1 p.templates else p.templates;
      }) (sym at))))

  end_in_template : of kind.Template n ≡ true → hold_modes p.templates ≡ true → (m : Mode) →
      is_template_mode m ≡ true → by_mode m (End n) q ≡ Taken (closed_own o q)
  unfolding names
  end_in_template h there InTemplate e = ap Taken (pick _ h (end_template h there))
  end_in_template h there InBody e =
      skip _ (none kind.Root refl) (skip _ (none kind.Br refl) (ap Taken
      (skip _ (none kind.Form refl) (skip _ (none kind.P refl)
      (skip _ (none kind.ListItem refl) (skip _ (none kind.DescriptionPart refl)
      (skip _ (none kind.Heading refl) (skip _ (none kind.ClosesInScope refl)
      (skip _ (none kind.Formatting refl) (pick _ h (end_template h there))))))))))) where
        none : (k : Kind) → AllFail (of k) (kind_names kind.Template) → of k n ≡ false
        none k all = fails_of (of k) kind.Template n all h
  end_in_template h there m e = absurd (false≢true e)

  -- in the mode that the element itself brings
  end_own : (m : Mode) → brings m n os ≡ true → by_mode m (End n) q ≡ Taken (closed true q)
  end_own InHead h = rw h refl
  end_own InHeadNoscript h =
      let noscript = (and_parts (of kind.Noscript n) (is_at (of kind.Head) os) h).0 in
      rw noscript refl
  end_own InText h = refl
  end_own InTable h = pick _
      (and_from _ _ h (own.reached p o os html (of kind.Table) (bounds scope.Table) h))
      (ap Taken (own.closes p o os html (of kind.Table) h))
  end_own InCaption h =
      rw h (ap Taken (part_ended (of kind.Caption) h
      (unimplied kind.Caption (unfold names in refl) h)))
  end_own InColumns h = pick _ (and_from _ _ h (own.at_name p o os html (of kind.Colgroup) h)) refl
  end_own InSection h =
      let scoped = own.reached p o os html (is n) (bounds scope.Table) named in
      let there = own.at_name p o os html (of kind.Section) h in
      pick _ (and_from _ _ h scoped)
      (ap (λ r. Taken (closed true r)) (none_cleared (of kind.Section) q there))
  end_own InRow h = pick _
      (and_from _ _ h (own.reached p o os html (of kind.Tr) (bounds scope.Table) h))
      (ap (λ r. Taken (closed true r))
      (none_cleared (of kind.Tr) q (own.at_name p o os html (of kind.Tr) h)))
  end_own InCell h =
      let scoped = own.reached p o os html (is n) (bounds scope.Table) named in
      rw (h, scoped) (ap Taken (part_ended (of kind.Cell) h
      (unimplied kind.Cell (unfold names in refl) h)))
  end_own _ h = absurd (false≢true h)

  -- in a body around it, where it is no part of a table
  module _ (part : of kind.TablePart n ≡ false) (table : of kind.Table n ≡ false)
      (root : of kind.Root n ≡ false) (br : of kind.Br n ≡ false)
      (plain : of kind.Template n ≡ false) (l : AreBegun (o ∷ os) p) where
    end_in_body : in_body_end n q ≡ Taken (closed true q)
    end_in_body = skip _ root (skip _ br (ap Taken (end_element plain l)))

    end_in_part : (test : List ℕ → Bool) (closes : Bool) → closes ≡ false →
        in_part_end test closes n q ≡ Taken (closed true q)
    end_in_part test closes h = skip _ h
        (skip _ (or_from _ _ (or_from _ _ part table) root) end_in_body)

    -- in its mode
    end_around : (m : Mode) → is_body_mode m ≡ true → by_mode m (End n) q ≡ Taken (closed true q)
    end_around InBody h = end_in_body
    end_around InCaption h = end_in_part (of kind.Caption) _ (or_from _ _ (parts n os part).3 table)
    end_around InCell h =
        let x = parts n os part in
        end_in_part (of kind.Cell) _
        (and_left _ _ (or_from _ _ (or_from _ _ (or_from _ _ x.0 x.1) x.2) table))
    end_around _ h = absurd (false≢true h)

  -- either way
  end_html : (l : Place) → is_void n ≡ false → of kind.Template n ≡ false →
      AreBegun (o ∷ os) p → Stands n os l →
      (l ≡ place.Body → named_mode n os ≡ None →
      is_body_mode (read_mode (mode (o ∷ os))) ≡ true) →
      by_mode (page_mode q) (End n) q ≡ Taken (closed true q)
  end_html l filled plain kept (inl s) steady =
      let here = own_mode o os s.mode html s.is in
      ap (λ m. by_mode m (End n) q)
      (stack_mode q kept.framesets (ap is_told here ∙ brings_told s.mode n os s.is) ∙ here)
      ∙ end_own s.mode s.is
  end_html l filled plain kept (inr s) steady =
      let reads = reads_inside (o ∷ os) p.templates kept.modes (and_right _ _ plain)
      (and_right _ _ (none_raw n os s.none)) in
      ap (λ m. by_mode m (End n) q) (body_mode q kept.framesets kept.modes reads)
      ∙ end_around s.part s.table s.root
      (outside_of is_void kind.Br n (unfold names in refl) filled) plain kept
      (read_mode (mode q.stack)) (steady s.body s.none)

  -- of a `template`
  end_template_here : of kind.Template n ≡ true → AreBegun (o ∷ os) p →
      by_mode (page_mode q) (End n) q ≡ Taken (closed_own o q)
  end_template_here h kept =
      let at = own.at_name p o os html (of kind.Template) h in
      end_in_template h (modes_there (o ∷ os) p.templates kept.modes ∙ or_left (is_template o) _ at)
      (page_mode q) (template_page q o os refl kept.framesets at kept.modes)

-- the current node, an element of SVG or MathML
module _ (p : Page) (o : OpenElement) (os : List OpenElement)
    (foreign : is_foreign o.space ≡ true) where
  abbrev m : List ℕ
  m = lowered o.head.name

  abbrev r : Page
  r = record p { stack = o ∷ os }

  end_foreign : (of kind.Br m || of kind.P m) ≡ false → in_foreign_end m r ≡ Taken (closed true r)
  end_foreign h =
      let goal : is_foreign_of m o ≡ true =
      and_from _ _ foreign ((bytes_eq-Decides m m).1 refl) in
      let closes : closed_to_goal (is_foreign_of m) r ≡ closed true r = rw goal refl in
      let ended : foreign_closed m r ≡ closed true r = rw goal closes in
      skip _ h (pick _ (or_left (is_foreign_of m o) _ goal) (ap Taken ended))

-- a name of SVG is not that of a `br` or a `p`, whose end tags end SVG and MathML

abbrev breaks : List ℕ → Bool
breaks n = of kind.Br n || of kind.P n

capitals_unbroken : (s : Space) → AllFail (λ m. breaks (lowered m)) (capital_tags s)
unfolding names
capitals_unbroken Html = refl
capitals_unbroken s = refl

foreign_unbroken : (s : Space) (n : List ℕ) → keeps_case (capital_tags s) n ≡ true →
    of kind.Breakout n ≡ false → breaks (lowered n) ≡ false
foreign_unbroken s n h b = fails_small breaks (capital_tags s) n h (capitals_unbroken s)
    (or_from _ _ (outside_of (of kind.Breakout) kind.Br n (unfold names in refl) b)
    (outside_of (of kind.Breakout) kind.P n (unfold names in refl) b))

module _ (above : List Ancestor) (h : Head) (kids : NodesView) (p : Page) (o : OpenElement)
    (os : List OpenElement) (same : IsAlike (ancestor h above) o)
    (kept : AreBegun (o ∷ os) p) (page : is_page_place (place_of above) ≡ false)
    (rules : element_misnesting h kids (surroundings_of above) ≡ None) where
  abbrev s : Space
  s = space_of (reading_of above) h.name

  abbrev w : Page
  w = record p { stack = o ∷ os }

  keeps : keeps_case (capital_tags s) h.name ≡ true
  keeps = (tag_fits h kids (surroundings_of above) rules).case

  -- an element of HTML
  module _ (alike : AreAlike above os) (steady : IsSteady above os) (once : ends_at_once h ≡ false)
      (html : nest.is_html s ≡ true) where
    html_here : is_html o.space ≡ true
    html_here = space_html _ _ same ∙ html

    end_plain : of kind.Template h.name ≡ false →
        by_mode (page_mode w) (End o.head.name) w ≡ Taken (closed_own o w)
    end_plain t =
        let plain : of kind.Template o.head.name ≡ false = ap (of kind.Template) same.name ∙ t in
        end_html p o os html_here (place_of above) (ap is_void same.name ∙ (or_parts _ _ once).1)
        plain kept (subst (λ m. Stands m os (place_of above)) (sym same.name)
        (html_stands above h kids os alike page rules html t once))
        (λ body none. around_steady above os alike steady body o
        (either (is_html o.space) (λ e. none) (λ e. refl)))
        ∙ ap Taken (sym (closed_plain o w (and_right _ _ plain)))

    turn_html : turn (End (lowered h.name)) w ≡ Taken (closed_own o w)
    turn_html = skip _ (ap not html_here)
        (ap (λ m. by_mode (page_mode w) (End m) w) (small_html _ _ html keeps ∙ sym same.name)
        ∙ decide (of kind.Template h.name) (λ t. end_template_here p o os html_here
        (ap (of kind.Template) same.name ∙ t) kept) end_plain)

  turn_foreign : nest.is_html s ≡ false →
      turn (End (lowered h.name)) w ≡ Taken (closed_own o w)
  turn_foreign foreign =
      let here : is_html o.space ≡ false = space_html _ _ same ∙ foreign in
      ap (λ m. turn (End (lowered m)) w) (sym same.name)
      ∙ (pick _ (ap not here) (end_foreign p o os (space_foreign _ _ same foreign)
      (subst (λ m. (of kind.Br (lowered m) || of kind.P (lowered m)) ≡ false) (sym same.name)
      (foreign_unbroken s h.name keeps
      (foreign_fits h kids (surroundings_of above) rules foreign).unbroken)))
      ∙ ap Taken (sym (closed_plain o w (and_left _ _ here))))

-- the end tag of an element closes it, and does nothing else
pub end_taken : (above : List Ancestor) (h : Head) (kids : NodesView) (p : Page) (o : OpenElement)
    (os : List OpenElement) → p.stack ≡ o ∷ os → IsCalm (ancestor h above ∷ above) p →
    IsSteady above os → is_page_place (place_of above) ≡ false →
    element_misnesting h kids (surroundings_of above) ≡ None → ends_at_once h ≡ false →
    token_read (End (lowered h.name)) p ≡ closed_own o p
end_taken above h kids p o os e calm steady page rules once =
    let alike : AreAlike (ancestor h above ∷ above) (o ∷ os) =
    subst (AreAlike (ancestor h above ∷ above)) e calm.alike in
    let kept : AreBegun (o ∷ os) p = subst (λ s. AreBegun s p) e
    (record {
      ordered = calm.ordered;
      modes = calm.modes;
      form = calm.form;
      moved = calm.moved;
      framesets = calm.framesets;
    }) in
    subst (λ s. token_read (End (lowered h.name)) (record p { stack = s })
    ≡ closed_own o (record p { stack = s })) (sym e)
    (turn_taken (End (lowered h.name)) (record p { stack = o ∷ os })
    (closed_own o (record p { stack = o ∷ os }))
    (end_whole (lowered h.name) (record p { stack = o ∷ os }) calm.unmade) calm.tables
    (decide (nest.is_html (space_of (reading_of above) h.name))
    (turn_html above h kids p o os alike.0 kept page rules alike.1 steady once)
    (turn_foreign above h kids p o os alike.0 kept page rules)))
