-- Names that are made of clean labels are clean: they are the label or `loc`, a hyphen and digits.
use Rattle.std.proofs.Common.{◌≡◌, ℕ, ◌+◌, ◌%◌, ◌<◌, ◌^◌, Bool, true, false, List, [], ◌∷◌, ◌++◌, codes, Option, Some, None, refl, arith}
use Rattle.std.{proofs.lemmas.Bool.{agree_below_at}, proofs.lemmas.Fmt.{decimal_by_steps}, specs.Prelude.{decimal, if◌then◌else◌}}
use Rattle.html_names_core.{proofs.Basics.{all_append}, specs.Characters.{all, is_text_char}}
use Rattle.html_dom_tree.specs.{Tags.{starts, ends}, Tree.{tag_node, text_node, element_node, frame_node, NodesView, none, node}}
use Rattle.html_links.specs.TreeNames.{Name}
use Rattle.html_anchors.proofs.Numbers.{free_within, first_is_low}
use Rattle.html_anchors.specs.Events.{Start, Event, target_start, end_tag, Targets, start_event, events}
use Rattle.html_anchors.specs.Groups.{serves, waiting_after, cut_at, cuts, own_name, first_label, label_of, label_for}
use Rattle.html_anchors.specs.Namings.{made_for, used_after, namings}
use Rattle.html_anchors.specs.NewNames.{name_with_number, stem_of, first_number, free_name, new_name}
use Rattle.typst_html_spaces.{proofs.Each.{Each, Each-append}, specs.CleanNodes.{is_clean_text, IsCleanValue, AreCleanNodes}}
use Rattle.typst_html_export.proofs.AnchoredRoots.{Passing, MadePasses}

-- numbers

digit_is_text : (d : ℕ) → d < 10 → is_text_char (48 + d) ≡ true
digit_is_text d h = agree_below_at (λ k. is_text_char (48 + k)) (λ k. true) 10 d refl h

decimal_is_text : (n : ℕ) → n < 2 ^ 64 → all is_text_char (decimal n) ≡ true
decimal_is_text = decimal_by_steps (λ m ds. all is_text_char ds ≡ true)
    (λ m l. rw (digit_is_text m l) refl)
    (λ m ds l h. all_append is_text_char ds ((48 + m % 10) ∷ []) h
    (rw (digit_is_text (m % 10) (omega arith)) refl))

-- names

numbered_is_clean : (stem : Name) (n : ℕ) → n < 2 ^ 64 → IsCleanValue stem →
    IsCleanValue (name_with_number stem n)
numbered_is_clean stem n h e =
    all_append is_text_char stem (codes "-" ++ decimal n) e (decimal_is_text n h)

stem_is_clean : (label : Name) → IsCleanValue label → IsCleanValue (stem_of label)
stem_is_clean [] e = refl
stem_is_clean (c ∷ cs) e = e

free_is_clean : (label : Name) (used : Name → Bool) → IsCleanValue label →
    IsCleanValue (free_name label used)
free_is_clean label used e =
    let within = free_within (stem_of label) used (2 ^ 63) (first_number label) in
    numbered_is_clean (stem_of label) _ (omega (arith, within, first_is_low label))
    (stem_is_clean label e)

new_is_clean : (label : Option Name) (used : Name → Bool) → is_clean_text label ≡ true →
    IsCleanValue (new_name label used)
unfolding new_name
new_is_clean None used e = free_is_clean [] used refl
new_is_clean (Some []) used e = free_is_clean [] used refl
new_is_clean (Some (c ∷ cs)) used e = grind (arith, free_is_clean (c ∷ cs) used e)

-- start tags with clean labels

abbrev StartIsClean : Start → Type 0
StartIsClean s = is_clean_text s.label ≡ true

abbrev EventIsClean : Event → Type 0
EventIsClean (target_start s) = StartIsClean s
EventIsClean e = Unit {0}

either_is_clean : (b : Bool) (some others : List Start) → Each StartIsClean some →
    Each StartIsClean others → Each StartIsClean (if b then some else others)
either_is_clean true some others r s = r
either_is_clean false some others r s = s

waiting_is_clean : (group : List Start) (e : Event) → Each StartIsClean group → EventIsClean e →
    Each StartIsClean (waiting_after group e)
waiting_is_clean group (target_start s) r c = Each-append StartIsClean group (s ∷ []) r (c, tt)
waiting_is_clean group e r c = either_is_clean (serves group e) [] group tt r

first_is_clean : (group : List Start) → Each StartIsClean group →
    is_clean_text (first_label group) ≡ true
first_is_clean [] r = refl
first_is_clean (s ∷ ss) r = r.0

label_of_is_clean : (l : ℕ) (group : List Start) → Each StartIsClean group →
    is_clean_text (label_of l group) ≡ true
label_of_is_clean l [] r = refl
label_of_is_clean l (s ∷ ss) r = grind (arith, r.0, label_of_is_clean l ss r.1)

label_is_clean : (e : Event) (group : List Start) → Each StartIsClean group →
    is_clean_text (label_for e group) ≡ true
label_is_clean (end_tag l) group r = label_of_is_clean l group r
label_is_clean e group r = first_is_clean group r

made_is_clean : (own label : Option Name) (used : Name → Bool) (group : List Start) →
    is_clean_text label ≡ true → Passing IsCleanValue (made_for own label used group)
made_is_clean own label used [] e = tt
made_is_clean (Some n) label used (s ∷ ss) e = tt
made_is_clean None label used (s ∷ ss) e = new_is_clean label used e

namings_are_clean : (es : List Event) (waiting : List Start) (used : Name → Bool) →
    Each EventIsClean es → Each StartIsClean waiting →
    Each (MadePasses IsCleanValue) (namings used (cuts waiting es))
namings_are_clean [] waiting used r w = tt
namings_are_clean (e ∷ es) waiting used r w =
    let group = (cut_at waiting e).group in
    let clean = either_is_clean (serves waiting e) waiting [] w tt in (
      made_is_clean (own_name e) (label_for e group) used group (label_is_clean e group clean),
      namings_are_clean es (waiting_after waiting e) (used_after used (cut_at waiting e)) r.1
          (waiting_is_clean waiting e w r.0),
    )

start_is_clean : (is_target : Bool) (l : ℕ) (label : Option Name) → is_clean_text label ≡ true →
    EventIsClean (start_event is_target l label)
start_is_clean true l label e = e
start_is_clean false l label e = tt

events_are_clean : (x : Targets) (ns : NodesView) (p : Bool) → AreCleanNodes p ns →
    Each EventIsClean (events x ns)
unfolding events
events_are_clean x none p c = tt
events_are_clean x (node (tag_node (starts l label dest)) ns) p c =
    (start_is_clean (x.is_target l) l label c.0, events_are_clean x ns p c.1)
events_are_clean x (node (tag_node (ends l)) ns) p c = (tt, events_are_clean x ns p c.1)
events_are_clean x (node (text_node s span) ns) p c = (tt, events_are_clean x ns p c.1)
events_are_clean x (node (element_node h kids) ns) p c = (
  tt,
  Each-append EventIsClean (events x kids) (events x ns)
      (events_are_clean x kids h.pre_span c.0.1) (events_are_clean x ns p c.1),
)
events_are_clean x (node (frame_node f) ns) p c = absurd c.0

-- of clean nodes, while no start tag waits
pub clean_namings : (x : Targets) (used : Name → Bool) (ns : NodesView) (p : Bool) →
    AreCleanNodes p ns → Each (MadePasses IsCleanValue) (namings used (cuts [] (events x ns)))
clean_namings x used ns p c = namings_are_clean (events x ns) [] used (events_are_clean x ns p c) tt
