-- Facts about an open element and those around it, which determine the insertion mode and shorten
-- searches.
use Rattle.std.specs.Prelude.{◌≡◌, ℕ, Bool, ◌==◌, List, [], ◌∷◌, map, reverse, if◌then◌else◌, Option, Some, None, refl}
use native.Mathlib.Decide.{ℕ_discrete}
use mathlib.Core.HLevel.{hedberg, ×_discrete}
use mathlib.Core.List.{List-discrete}
use Rattle.std.proofs.Math.Bool.{Bool-discrete}
use Rattle.html_dom_tree.specs.Tree.{none}
use Rattle.html_names_core.specs.Equal.{discrete_by, option_discrete}
use Rattle.html_page_names.specs.PageNames.{of}
use Rattle.html_page_names.specs.declared.kind.Kind.TheVariants as kind
use Rattle.html_page_stack.specs.{ElementViews.{element_of, list_of}, Milestones.{known_around}, OpenElements.{OpenElement, html_mode, in_scope, is_html, named_mode}}
use Rattle.html_page_stack.specs.declared.{context.Context.{Context}, element.PageElement.{PageElement}, milestone.Milestone.{Milestone}, modes.Mode.{Mode}}
use Rattle.html_page_stack.specs.declared.modes.Mode.TheVariants.{BeforeHtml, BeforeHead, InHead, InHeadNoscript, AfterHead, InBody, InText, InTable, InCaption, InColumns, InSection, InRow, InCell, InTemplate, InFrameset, AfterFrameset}
use Rattle.html_page_stack.specs.declared.modes.Scope.TheVariants.{Button}

-- the mode that the current node sets
abbrev pub own_mode : OpenElement → (below : List OpenElement) → Option Mode
own_mode o below = if is_html o.space then named_mode o.head.name below else None

abbrev pub some_or : Option Mode → Option Mode → Option Mode
some_or None m = m
some_or (Some m) n = Some m

-- the mode that the innermost element with a mode sets
abbrev pub brought_mode : List OpenElement → Option Mode
brought_mode [] = None
brought_mode (o ∷ os) = some_or (own_mode o os) (brought_mode os)

-- the mode if no element sets one
abbrev pub root_mode : List OpenElement → Mode
root_mode [] = BeforeHtml
root_mode (o ∷ []) = html_mode o.children
root_mode (o ∷ p ∷ ps) = AfterHead

abbrev pub context : List OpenElement → Context
context os = record {
  mode = brought_mode os;
  has_paragraph = in_scope Button (of kind.P) os;
  milestone = known_around os;
}

-- the facts about each element, innermost first
abbrev pub contexts : List OpenElement → List Context
contexts [] = []
contexts (o ∷ os) = context (o ∷ os) ∷ contexts os

abbrev pub context_of : PageElement → Context
context_of e = e.context

-- an element without its attributes and children, and what is behind it, on which no fact depends
abbrev pub bare : OpenElement → OpenElement
bare o = record o { head = record o.head { attrs = [] }; children = none; behind = none }

-- what of an element facts are, or depend on
abbrev pub known_part : PageElement → Context × OpenElement
known_part e = (e.context, bare (element_of e))

-- each element has the facts about it; the innermost is the last
abbrev pub AreKnown : List PageElement → Type 0
AreKnown es = reverse (map context_of es) ≡ contexts (list_of es)

-- equal contexts are equal in one way

abbrev number_of : Mode → ℕ
number_of BeforeHtml = 0
number_of BeforeHead = 1
number_of InHead = 2
number_of InHeadNoscript = 3
number_of AfterHead = 4
number_of InBody = 5
number_of InText = 6
number_of InTable = 7
number_of InCaption = 8
number_of InColumns = 9
number_of InSection = 10
number_of InRow = 11
number_of InCell = 12
number_of InTemplate = 13
number_of InFrameset = 14
number_of AfterFrameset = 15

abbrev numbered : ℕ → Mode
numbered n = if n == 0 then BeforeHtml else (if n == 1 then BeforeHead
    else (if n == 2 then InHead else (if n == 3 then InHeadNoscript
    else (if n == 4 then AfterHead else (if n == 5 then InBody
    else (if n == 6 then InText else (if n == 7 then InTable
    else (if n == 8 then InCaption else (if n == 9 then InColumns
    else (if n == 10 then InSection else (if n == 11 then InRow
    else (if n == 12 then InCell else (if n == 13 then InTemplate
    else (if n == 14 then InFrameset else AfterFrameset))))))))))))))

number_back : (m : Mode) → numbered (number_of m) ≡ m
number_back BeforeHtml = refl
number_back _ = refl

mode_discrete : Discrete Mode
mode_discrete = discrete_by number_of numbered number_back ℕ_discrete

kinds_discrete : Discrete (Bool × (Bool × Bool))
kinds_discrete = ×_discrete Bool-discrete (×_discrete Bool-discrete Bool-discrete)

names_discrete : Discrete (ℕ × (ℕ × ℕ))
names_discrete = ×_discrete ℕ_discrete (×_discrete ℕ_discrete ℕ_discrete)

milestone_discrete : Discrete Milestone
milestone_discrete = discrete_by
    (λ m. (
      (m.has_select, (m.has_ruby, m.has_heading)),
      (
        (m.has_open_item, (m.has_list_item, m.has_description_part)),
        (m.near_names, (m.scope_names, m.table_names)),
      ),
    ))
    (λ p. record {
      has_select = p.0.0;
      has_ruby = p.0.1.0;
      has_heading = p.0.1.1;
      has_open_item = p.1.0.0;
      has_list_item = p.1.0.1.0;
      has_description_part = p.1.0.1.1;
      near_names = p.1.1.0;
      scope_names = p.1.1.1.0;
      table_names = p.1.1.1.1;
    })
    (λ m. refl) (×_discrete kinds_discrete (×_discrete kinds_discrete names_discrete))

context_discrete : Discrete Context
context_discrete = discrete_by (λ c. (c.mode, (c.has_paragraph, c.milestone)))
    (λ p. record { mode = p.0; has_paragraph = p.1.0; milestone = p.1.1 }) (λ c. refl)
    (×_discrete (option_discrete mode_discrete)
    (×_discrete Bool-discrete (option_discrete milestone_discrete)))

pub contexts_are_set : IsSet (List Context)
contexts_are_set = hedberg (List-discrete context_discrete)
