-- The look of a node in a line, as the code computes it.
use Rattle.std.specs.{List.{list_all}, Prelude.{ℕ, Bool, true, false, ◌||◌, List, [], ◌∷◌, if◌then◌else◌}}
use Rattle.html_names_core.specs.{Characters.{is_ignorable}, Kinds.{is_replaced, is_whitespace_collapsing}, Texts.{TextPair}}
use Rattle.html_dom_tree.specs.Tree.{Head}
use Rattle.html_dom_flat.specs.Flat.{FlatNodeView, flat_tag, flat_text, flat_frame, flat_element}
use Rattle.html_flow_convert.specs.{BareSpaces.{Thing, border, visible, space, makes_block}, Nodes.{is_one}, declared.look.Look.{Look}}
use Rattle.html_flow_convert.specs.declared.look.Look.TheVariants.{Border, Visible, Space, Nothing, Inside}

-- the things of a node, given those inside it
abbrev pub look_things : Look → (inside : List Thing) → List Thing
look_things Border inside = border ∷ []
look_things Visible inside = visible ∷ []
look_things Space inside = space ∷ []
look_things Nothing inside = []
look_things Inside inside = inside

abbrev pub is_inside : Look → Bool
is_inside Border = false
is_inside Visible = false
is_inside Space = false
is_inside Nothing = false
is_inside Inside = true

abbrev pub text_look : List ℕ → Look
text_look text =
    if is_one 32 text then Space else (if list_all is_ignorable text then Nothing else Visible)

-- the look of an element with that name and css, given whether its texts are written as references
abbrev pub element_look : (name : List ℕ) → List TextPair → (pre_span : Bool) → Look
element_look name css pre_span =
    if makes_block css || is_whitespace_collapsing name then Border
    else (if is_replaced name then Visible else (if pre_span then Nothing else Inside))

abbrev pub head_look : Head → Look
head_look h = element_look h.name h.css h.pre_span

abbrev pub flat_look : FlatNodeView → Look
flat_look (flat_tag t) = Nothing
flat_look (flat_text s span) = text_look s
flat_look (flat_frame f) = Visible
flat_look (flat_element h past) = head_look h
