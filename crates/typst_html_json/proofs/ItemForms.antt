-- The forms of an item, by the length of its list.
use Rattle.std.proofs.Common.{◌≡◌, ◌≢◌, List, [], ◌∷◌, length, get_or, drop, Some, Err, refl, rules, arith, String, Vec}
use Rattle.std.specs.declared.alloc.Global.{Global}
use Rattle.serde_json.specs.{View.{view, items_view}, declared.value.Value.{Value}}
use Rattle.html_flow_convert.specs.Items as flow
use Rattle.html_flow_convert.specs.Views as flow_views
use Rattle.html_flow_convert.specs.declared.item.HtmlElem.{HtmlElem, HtmlElem-F, roll-HtmlElem}
use Rattle.html_flow_convert.specs.declared.item.Item as Item
use Rattle.html_flow_convert.specs.declared.item.Item.{Item, the_lemmas}
use Rattle.html_flow_convert.specs.declared.item.Pair as pairs
use Rattle.html_flow_convert.specs.declared.item.{Pair.{Pair}, Role.{Role}}
use Rattle.html_dom_tree.specs.{FrameViews.{tag_view}, Views.{text_view}, declared.introspection.Tag.{Tag}, declared.span.Span.{Span}}
use Rattle.typst_html_json.specs.{Fields.{text_at, pairs_at, element_from}, LeftForms.{from_part}, Marks.{Mark}}
use Rattle.typst_html_json.specs.SpelledItems.{element_made, element_form, body_form, role_form, role_from, role_at, css_at, spelled_part, list_at}
use Rattle.typst_html_json.specs.declared.input_forms.{Forms.{Forms}, Forms.TheVariants.{Document}}

-- in no form does an element have another number of parts
pub element_form-other : (forms : Forms) (vs : List Value) (m : Mark) → length vs ≢ 4
    → (forms ≡ Document → length vs ≢ 5)
    → element_form forms (items_view (drop 1 vs)) m ≡ Err m.lists
element_form-other forms (u ∷ v ∷ w ∷ x ∷ []) m h k = absurd (h refl)
element_form-other Document (u ∷ v ∷ w ∷ x ∷ y ∷ []) m h k = absurd (k refl refl)
element_form-other forms vs m h k = refl

-- a kind, a name, attributes and what stands in the element
pub element_form-four : (forms : Forms) (vs : List Value) (a b d : Value) (m : Mark)
    → length vs ≡ 4 → a ≡ get_or vs 1 a → b ≡ get_or vs 2 b → d ≡ get_or vs 3 d
    → element_form forms (items_view (drop 1 vs)) m
    ≡ element_from (element_made [] m.lists) m (text_at (view a)) (pairs_at (view b))
    (list_at forms (view d) m)
element_form-four forms (u ∷ v ∷ w ∷ x ∷ []) a b d m h p q r = rw (p, q, r) refl
element_form-four forms vs a b d m h p q r = absurd (omega (arith, h))

-- css before what stands in it
pub element_form-five : (vs : List Value) (a b c d : Value) (m : Mark) → length vs ≡ 5
    → a ≡ get_or vs 1 a → b ≡ get_or vs 2 b → c ≡ get_or vs 3 c → d ≡ get_or vs 4 d
    → element_form Document (items_view (drop 1 vs)) m
    ≡ from_part m.lists (λ css. element_from (element_made css m.lists) m (text_at (view a))
    (pairs_at (view b)) (list_at Document (view d) m)) (css_at (view c))
element_form-five (u ∷ v ∷ w ∷ x ∷ y ∷ []) a b c d m h p q r s = rw (p, q, r, s) refl
element_form-five vs a b c d m h p q r s = absurd (omega (arith, h))

-- a kind, and the list of the items
pub body_form-two : (forms : Forms) (vs : List Value) (d : Value) (m : Mark) → length vs ≡ 2
    → d ≡ get_or vs 1 d → body_form forms (items_view (drop 1 vs)) m ≡ list_at forms (view d) m
body_form-two forms (v ∷ w ∷ []) d m h p = rw p refl
body_form-two forms vs d m h p = absurd (omega (arith, h))

pub body_form-other : (forms : Forms) (vs : List Value) (m : Mark) → length vs ≢ 2
    → body_form forms (items_view (drop 1 vs)) m ≡ Err m.lists
body_form-other forms (v ∷ w ∷ []) m h = absurd (h refl)
body_form-other forms vs m h = refl

-- a kind, a role, and an item
pub role_form-three : (forms : Forms) (vs : List Value) (r d : Value) (m : Mark) → length vs ≡ 3
    → r ≡ get_or vs 1 r → d ≡ get_or vs 2 d
    → role_form forms (items_view (drop 1 vs)) m
    ≡ from_part m.lists (λ role. role_from role (spelled_part forms (view d) m))
    (role_at (view r))
role_form-three forms (v ∷ w ∷ x ∷ []) r d m h p q = rw (p, q) refl
role_form-three forms vs r d m h p q = absurd (omega (arith, h))

pub role_form-other : (forms : Forms) (vs : List Value) (m : Mark) → length vs ≢ 3
    → role_form forms (items_view (drop 1 vs)) m ≡ Err m.lists
role_form-other forms (v ∷ w ∷ x ∷ []) m h = absurd (h refl)
role_form-other forms vs m h = refl

pub item_view-Space : (span : Span)
    → flow_views.item_view (Item.Space span) ≡ flow.space_item span.0
item_view-Space span = search (rules, the_lemmas)

pub item_view-LineBreak : (span : Span)
    → flow_views.item_view (Item.LineBreak span) ≡ flow.break_item span.0
item_view-LineBreak span = search (rules, the_lemmas)

pub item_view-Hole : flow_views.item_view Item.Hole ≡ flow.hole_item
item_view-Hole = search (rules, the_lemmas)

pub item_view-Tag : (t : Tag) → flow_views.item_view (Item.Tag t) ≡ flow.tag_item (tag_view t)
item_view-Tag t = search (rules, the_lemmas)

pub item_view-Text : (s : String Global) (span : Span)
    → flow_views.item_view (Item.Text s span) ≡ flow.text_item (text_view s) span.0
item_view-Text s span = search (rules, the_lemmas)

pub item_view-Element : (e : HtmlElem)
    → flow_views.item_view (Item.Element e)
    ≡ flow.element_item (flow_views.elem_view e).0 (flow_views.elem_view e).1
item_view-Element e = search (rules, the_lemmas)

pub elem_view-made : (f : HtmlElem-F Item HtmlElem Pair)
    → flow_views.elem_view (roll-HtmlElem f) ≡ (flow_views.head_of f, flow_views.body_view f.body)
elem_view-made f = search (rules, the_lemmas)

pub item_view-Block : (items : Vec Pair Global) (span : Span)
    → flow_views.item_view (Item.Block (Some items) span)
    ≡ flow.block_item (flow.present (flow_views.items_view items.items)) span.0
item_view-Block items span = search (rules, the_lemmas)

pub item_view-Box : (items : Vec Pair Global) (span : Span)
    → flow_views.item_view (Item.Box (Some items) span)
    ≡ flow.box_item (flow.present (flow_views.items_view items.items)) span.0
item_view-Box items span = search (rules, the_lemmas)

pub pair_view-made : (i : Item) (role : Role)
    → flow_views.pair_view (record { item = i; role = role })
    ≡ (flow_views.item_view i, flow_views.role_view role)
pair_view-made i role = search (rules, pairs.the_lemmas)

pub pair_view-role : (p : Pair) (role : Role)
    → flow_views.pair_view (record p { role = role })
    ≡ ((flow_views.pair_view p).0, flow_views.role_view role)
pair_view-role p role = search (rules, pairs.the_lemmas)

pub ruleset item_forms = (body_form-other, element_form-other, role_form-other)
