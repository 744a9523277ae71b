-- Lists that grow item by item (this project's rules).
use Rattle.std.specs.Prelude.{ℕ, ◌-◌, Bool, true, false, ◌&&◌, ◌||◌, if◌then◌else◌, ◌==◌, List, [], ◌∷◌, ◌++◌, length, slice_index}
use Rattle.html_names_core.specs.Kinds.{is_whitespace_collapsing}
use Rattle.html_flow_convert.specs.BareSpaces.{makes_block}
use Rattle.html_flow_convert.specs.Items.{ItemView, tag_item, element_item, text_item, hole_item, break_item, block_item, RoleView, inherits, ElemHead, ElemView, element_as_item, inheriting, absent, new_head, with_span}
use Rattle.html_flow_convert.specs.Nodes.{is_one}
use Rattle.html_flow_lists.specs.declared.item_list.{Ending.{Ending}, Ending.TheVariants.{AddedSpace, Border, Other}}

-- a list of items, each with its role
abbrev pub Pairs : Type 0
Pairs = List (ItemView × RoleView)

-- the items so far, the span for what is added, whether the first item was a space that was added,
-- perhaps with a text behind it, and what stands last
pub record ListView : Type 0 where
  pub items : Pairs
  pub span : ℕ
  pub starts_spaced : Bool
  pub ending : Ending

-- a list without items, with that span
abbrev pub no_list : (span : ℕ) → ListView
no_list span = record { items = []; span = span; starts_spaced = false; ending = Other }

abbrev pub with_list_span : (span : ℕ) → ListView → ListView
with_list_span span l = record l { span = span }

-- whether the last item, if any, passes a test
abbrev pub last_passes : (ItemView × RoleView → Bool) → Pairs → Bool
last_passes test [] = false
last_passes test (x ∷ []) = test x
last_passes test (x ∷ y ∷ xs) = last_passes test (y ∷ xs)

-- items with the last one changed, if there is one
abbrev pub with_changed_last : (ItemView × RoleView → ItemView × RoleView) → Pairs → Pairs
with_changed_last change [] = []
with_changed_last change (x ∷ []) = change x ∷ []
with_changed_last change (x ∷ y ∷ xs) = x ∷ with_changed_last change (y ∷ xs)

-- the same of the first item
abbrev pub first_passes : (ItemView × RoleView → Bool) → Pairs → Bool
first_passes test [] = false
first_passes test (x ∷ xs) = test x

abbrev pub with_changed_first : (ItemView × RoleView → ItemView × RoleView) → Pairs → Pairs
with_changed_first change [] = []
with_changed_first change (x ∷ xs) = change x ∷ xs

-- whether a text of that span extends an item: a text of that span with the role of its list
abbrev pub takes_text : (span : ℕ) → ItemView × RoleView → Bool
takes_text span (text_item s own, inherits) = own == span
takes_text span x = false

-- a text with another appended
abbrev pub with_longer_text : (text : List ℕ) → ItemView × RoleView → ItemView × RoleView
with_longer_text text (text_item s own, role) = (text_item (s ++ text) own, role)
with_longer_text text x = x

-- items with a text appended, or with their last one extended by it
abbrev pub text_added : (text : List ℕ) (span : ℕ) → Pairs → Pairs
text_added text span items =
    if last_passes (takes_text span) items then with_changed_last (with_longer_text text) items
    else items ++ inheriting (text_item text span) ∷ []

-- a list with a text added; an empty text adds nothing
abbrev pub with_text : (text : List ℕ) → ListView → ListView
with_text text l =
    if length text == 0 then l
    else record l { items = text_added text l.span l.items; ending = Other }

-- whether a text's last character is a space
abbrev pub text_ends_in_space : List ℕ → Bool
text_ends_in_space text = slice_index text (length text - 1) == 32

-- whether an item is a text that ends in a space
abbrev pub item_ends_in_space : ItemView × RoleView → Bool
item_ends_in_space (text_item s span, role) = text_ends_in_space s
item_ends_in_space x = false

abbrev pub is_border : Ending → Bool
is_border Border = true
is_border _ = false

abbrev pub is_added_space : Ending → Bool
is_added_space AddedSpace = true
is_added_space _ = false

-- a list with one space appended, unless its last item is a text that ends in one, or a line break
-- or a block stands last
abbrev pub with_space : ListView → ListView
with_space l =
    if is_border l.ending || last_passes item_ends_in_space l.items then l
    else record (with_text (32 ∷ []) l) {
      starts_spaced = l.starts_spaced || (length l.items == 0);
      ending = AddedSpace;
    }

-- a list without its last, or its first
abbrev pub without_last : {A : Type 0} → List A → List A
without_last [] = []
without_last (x ∷ []) = []
without_last (x ∷ y ∷ xs) = x ∷ without_last (y ∷ xs)

abbrev pub without_first : {A : Type 0} → List A → List A
without_first [] = []
without_first (x ∷ xs) = xs

-- whether an item is a text of one space
abbrev pub is_lone_space : ItemView × RoleView → Bool
is_lone_space (text_item s span, role) = is_one 32 s
is_lone_space x = false

-- an item that is cut, if it is a text
abbrev pub with_cut_text : (cut : List ℕ → List ℕ) → ItemView × RoleView → ItemView × RoleView
with_cut_text cut (text_item s span, role) = (text_item (cut s) span, role)
with_cut_text cut x = x

-- items without the space at their end or their start, which is a text or a part of one
abbrev pub without_end_space : Pairs → Pairs
without_end_space items =
    if last_passes is_lone_space items then without_last items
    else with_changed_last (with_cut_text without_last) items

abbrev pub without_start_space : Pairs → Pairs
without_start_space items =
    if first_passes is_lone_space items then without_first items
    else with_changed_first (with_cut_text without_first) items

-- the items of a list before one that ends so: a space that was added goes before a line break or
-- a block
abbrev pub items_before : (next : Ending) → ListView → Pairs
items_before next l =
    if is_border next && is_added_space l.ending then without_end_space l.items else l.items

-- a list that is ready for items that end so
abbrev pub ready_for : (next : Ending) → ListView → ListView
ready_for next l = record l { items = items_before next l; ending = next }

-- a list with items appended, which end so
abbrev pub with_more : Pairs → (next : Ending) → ListView → ListView
with_more more next l = record l { items = items_before next l ++ more; ending = next }

-- the items of a list without the spaces that were added at their start and their end
abbrev pub block_items : ListView → Pairs
block_items l =
    if l.starts_spaced then without_start_space (items_before Border l) else items_before Border l

-- what stands last behind an element: it is a block by its css or its default display, or a `br`
unfoldable pub head_ending : ElemHead → Ending
head_ending h = if makes_block h.css || is_whitespace_collapsing h.name then Border else Other

-- what stands last behind a tag, which is not seen
abbrev pub tag_ending : Ending → Ending
tag_ending Border = Border
tag_ending _ = Other

-- what stands last behind an item, and before it
abbrev pub item_ending : ItemView → Ending → Ending
item_ending (tag_item t) before = tag_ending before
item_ending hole_item before = tag_ending before
item_ending (break_item span) before = Border
item_ending (block_item body span) before = Border
item_ending (element_item h body) before = head_ending h
item_ending _ before = Other

-- a list with an item appended
abbrev pub with_item : ItemView × RoleView → ListView → ListView
with_item x l = with_more (x ∷ []) (item_ending x.0 l.ending) l

-- a list with a forced line break appended
abbrev pub with_break : ListView → ListView
with_break l = with_more (inheriting (break_item l.span) ∷ []) Border l

-- a list with an element appended, which has the role of the list
abbrev pub with_element : ElemView → ListView → ListView
with_element e l = with_more (inheriting (element_as_item e) ∷ []) (head_ending e.0) l

-- a new element with the span of a list
abbrev pub element_of_list : (name : List ℕ) → ListView → ElemView
element_of_list name l = with_span l.span (new_head name, absent)
