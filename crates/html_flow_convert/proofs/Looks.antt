-- What nodes look like where lines are made of them.
use Rattle.std.proofs.Common.{◌≡◌, ℕ, Bool, true, false, ◌||◌, ◌&&◌, not, if◌then◌else◌, List, [], ◌∷◌, map, refl, sym, ap, ◌∙◌}
use Rattle.std.specs.List.{list_any, list_all}
use Rattle.html_dom_tree.specs.Tree.{Head}
use Rattle.html_flow_convert.specs.BareSpaces.{Thing, border, visible, space, text_things, is_border_element, is_entered, element_things, makes_block}
use Rattle.html_flow_convert.specs.{Looks.{look_things, head_look, text_look, is_inside}, Nodes.{is_one}, declared.look.Look.{Look}}
use Rattle.html_flow_convert.specs.declared.look.Look.TheVariants.{Border, Visible, Space, Nothing, Inside}
use Rattle.html_names_core.specs.{Characters.{is_ignorable}, Kinds.{is_replaced, is_whitespace_collapsing}}

pub any_map : {A B : Type 0} (p : B → Bool) (f : A → B) (xs : List A) →
    list_any p (map f xs) ≡ list_any (λ x. p (f x)) xs
any_map p f [] = refl
any_map p f (x ∷ xs) = ap (λ b. p (f x) || b) (any_map p f xs)

-- an element has the things of its look
things_by : (block replaced references : Bool) (inside : List Thing) →
    (if block then border ∷ []
    else (if replaced then visible ∷ [] else (if references then [] else inside)))
    ≡ look_things (if block then Border
    else (if replaced then Visible else (if references then Nothing else Inside))) inside
things_by true replaced references inside = refl
things_by false true references inside = refl
things_by false false true inside = refl
things_by false false false inside = refl

pub element_seen : (h : Head) (inside : List Thing) →
    element_things h inside ≡ look_things (head_look h) inside
unfolding is_border_element
element_seen h inside =
    things_by (makes_block h.css || is_whitespace_collapsing h.name) (is_replaced h.name) h.pre_span inside

entered_by : (block replaced references : Bool) →
    (not block && not replaced && not references) ≡ is_inside (if block then Border
    else (if replaced then Visible else (if references then Nothing else Inside)))
entered_by true replaced references = refl
entered_by false true references = refl
entered_by false false true = refl
entered_by false false false = refl

-- it is looked into where it looks like what stands in it
pub is_entered_by : (h : Head) → is_entered h ≡ is_inside (head_look h)
unfolding is_entered is_border_element
is_entered_by h =
    entered_by (makes_block h.css || is_whitespace_collapsing h.name) (is_replaced h.name) h.pre_span

pub inside_seen : (h : Head) (look : Look) (inside : List Thing) → look ≡ head_look h →
    is_inside look ≡ true → inside ≡ element_things h inside
inside_seen h look inside is entered =
    sym (element_seen h inside ∙ (ap (λ l. look_things l inside) (sym is) ∙ by look entered))
  where
    by : (l : Look) → is_inside l ≡ true → look_things l inside ≡ inside
    by Border e = cc
    by Visible e = cc
    by Space e = cc
    by Nothing e = cc
    by Inside e = refl

pub other_seen : (h : Head) (look : Look) (inside : List Thing) → look ≡ head_look h →
    is_inside look ≡ false → look_things look [] ≡ element_things h inside
other_seen h look inside is other =
    by look other ∙ (ap (λ l. look_things l inside) is ∙ sym (element_seen h inside))
  where
    by : (l : Look) → is_inside l ≡ false → look_things l [] ≡ look_things l inside
    by Border e = refl
    by Visible e = refl
    by Space e = refl
    by Nothing e = refl
    by Inside e = cc

text_by : (one ignorable : Bool) →
    (if one then space ∷ [] else (if ignorable then [] else visible ∷ []))
    ≡ look_things (if one then Space else (if ignorable then Nothing else Visible)) []
text_by true ignorable = refl
text_by false true = refl
text_by false false = refl

pub text_seen : (s : List ℕ) → text_things s ≡ look_things (text_look s) []
text_seen s = text_by (is_one 32 s) (list_all is_ignorable s)
