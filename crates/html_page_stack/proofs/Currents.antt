-- The open elements where the current node changes, and nothing that is known of it.
use Rattle.std.proofs.Common.{◌≡◌, ◌+◌, ◌-◌, ◌<◌, ℕ, arith, List, [], ◌∷◌, ◌++◌, ◌≢◌, get_or, length, take, refl, sym, ap, ◌∙◌}
use Rattle.std.proofs.{Math.ListN.{set}, lemmas.List.{length-set, take_all, take_more_set}}
use Rattle.html_dom_tree.{proofs.Reversed.{last_apart}, specs.Tree.{none}}
use Rattle.html_page_stack.proofs.{Merging.{known_here, known_still}, Stacks.{last_first}}
use Rattle.html_page_stack.specs.{Contexts.{AreKnown, known_part}, ElementViews.{element_of, list_of}, OpenElements.{OpenElement, completed, in_current, with_last_child, with_last_text, with_nodes, with_text, without_current}}
use Rattle.html_page_stack.specs.declared.modes.Destination.TheVariants as to
use Rattle.html_page_stack.specs.declared.element.PageElement.{PageElement}

-- elements, how many they are, and the last of them, which changes
module _ (es : List PageElement) (n : ℕ) (counted : n ≡ length es) (some : 0 < length es)
    (e : PageElement) (is : e ≡ get_or es (n - 1) e) where
  abbrev front : List PageElement
  front = take (n - 1) es

  pub last_is : list_of es ≡ element_of e ∷ list_of front
  last_is = ap list_of (last_apart es n e counted some is) ∙ last_first front e

  last_set : (f : PageElement) → set es (n - 1) f ≡ front ++ f ∷ []
  last_set f =
      sym (take_all (n - 1 + 1) (set es (n - 1) f) (omega (arith, length-set es (n - 1) f)))
      ∙ take_more_set es (n - 1) f (omega arith)

  pub last_changed : (change : OpenElement → OpenElement) (f : PageElement) →
      element_of f ≡ change (element_of e) →
      list_of (set es (n - 1) f) ≡ in_current change (list_of es)
  last_changed change f h =
      ap list_of (last_set f) ∙ (last_first front f ∙ (ap (λ o. o ∷ list_of front) h
      ∙ sym (ap (in_current change) last_is)))

  pub last_known : (f : PageElement) → known_part f ≡ known_part e → AreKnown es →
      AreKnown (set es (n - 1) f)
  last_known f h known = known_still es (set es (n - 1) f)
      (known_here es (n - 1) e f (omega arith) (h ∙ ap known_part is)) known

-- where the current node is completed in the element around it, and nothing stands behind it
pub closed_in : (o : OpenElement) (os : List OpenElement) → o.destination ≡ to.Parent →
    o.behind ≡ none → length os ≢ 0 →
    without_current (o ∷ os) ≡ in_current (with_last_child (completed o)) os
closed_in o [] h alone some = absurd (some refl)
closed_in o (p ∷ ps) h alone some = rw h (ap (λ ns.
    with_nodes ns (with_last_child (completed o) p) ∷ ps) alone)

pub text_in_current : (text : List ℕ) (os : List OpenElement) →
    in_current (with_text text) os ≡ with_last_text text os
text_in_current text [] = refl
text_in_current text (o ∷ os) = refl
