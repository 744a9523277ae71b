-- What is made past the events of nodes is what is made of the nodes.
use Rattle.std.proofs.Common.{◌≡◌, ℕ, Bool, true, false, ◌||◌, ◌&&◌, List, [], ◌∷◌, refl, ap, sym, ◌∙◌, true≢false}
use Rattle.std.specs.Prelude.{if◌then◌else◌}
use Rattle.html_names_core.specs.Kinds.{is_void}
use Rattle.html_dom_tree.specs.Tree.{Head, element_node, NodesView, node}
use Rattle.html_dom_walk.proofs.Passing.{past_is, skipped_is}
use Rattle.html_dom_walk.specs.{Events.{Event, Placed, tag, text, frame, enter, leave, events_of, from_end}, Passing.{Goes, past}}
use Rattle.html_clean_policy.specs.Policies.{PolicyView, is_dropped}
use Rattle.html_clean_nodes.specs.Cleaned.{node_cleaned, nodes_cleaned, stays}
use Rattle.html_clean_nodes.specs.Cleaning.{CleaningView, cleaned_behind, entered, is_skipped, left, past_event, skips}

module _ (p : PolicyView) where
  abbrev step : CleaningView → Placed → CleaningView
  step s e = past_event p s e.1

  abbrev pub past_events : CleaningView → List Placed → CleaningView
  past_events s es = past step (is_skipped p) 0 s es

  abbrev behind : (parent : List ℕ) (index : ℕ) → CleaningView → NodesView → CleaningView
  behind parent index s ns = cleaned_behind p s ns

  module _ (s : CleaningView) (h : Head) (kids ns : NodesView) where
    -- what is made of an element and the nodes behind it is made by its start, what is in it, and its
    -- end
    element_behind : (dropped stay void : Bool) → is_dropped h.name ≡ dropped →
        stays p s.around h ≡ stay → is_void h.name ≡ void → dropped || (stay && void) ≡ false →
        cleaned_behind p s (node (element_node h kids) ns)
        ≡ cleaned_behind p (left (cleaned_behind p (entered p s h) kids)) ns
    unfolding node_cleaned nodes_cleaned
    element_behind true stay void d t v e = absurd (true≢false e)
    element_behind false true true d t v e = absurd (true≢false e)
    element_behind false true false d t v e = rw (d, t, v) refl
    element_behind false false void d t v e = rw (d, t) refl

    -- or by its start and its end alone
    skipped_behind : (dropped stay void : Bool) → is_dropped h.name ≡ dropped →
        stays p s.around h ≡ stay → is_void h.name ≡ void → dropped || (stay && void) ≡ true →
        cleaned_behind p s (node (element_node h kids) ns)
        ≡ cleaned_behind p (left (entered p s h)) ns
    unfolding node_cleaned nodes_cleaned
    skipped_behind true stay void d t v e = rw d refl
    skipped_behind false true true d t v e = rw (d, t, v) refl
    skipped_behind false true false d t v e = absurd (true≢false (sym e))
    skipped_behind false false void d t v e = absurd (true≢false (sym e))

  goes : Goes step (is_skipped p) behind
  unfolding node_cleaned nodes_cleaned
  goes = record {
    at_none = λ parent index s. refl;
    at_tag = λ parent index s t ns. refl;
    at_text = λ parent index s x span ns. refl;
    at_frame = λ parent index s f ns. refl;
    at_element = λ parent index s h kids ns is.
        element_behind s h kids ns _ _ _ refl refl refl is;
    at_skipped = λ parent index s h kids ns is.
        skipped_behind s h kids ns _ _ _ refl refl refl is;
  }

  pub events_are : (s : CleaningView) (ns : NodesView) →
      past_events s (events_of [] 0 ns []) ≡ cleaned_behind p s ns
  events_are s ns = past_is step (is_skipped p) behind goes [] 0 s ns []

  by_skip : (b : Bool) (s : CleaningView) (es : List Placed) →
      past_events s (if b then from_end 0 es else es)
      ≡ past step (is_skipped p) (if b then 1 else 0) s es
  by_skip true s es = sym (skipped_is step (is_skipped p) s es)
  by_skip false s es = refl

  first_past : (s : CleaningView) (e : Placed) (later : List Placed) →
      past_events (step s e) (if skips p s e.1 then from_end 0 later else later)
      ≡ past_events s (e ∷ later)
  first_past s (path, tag t) later = refl
  first_past s (path, text x span) later = refl
  first_past s (path, frame f) later = refl
  first_past s (path, leave) later = refl
  first_past s (path, enter h kids) later =
      by_skip (is_skipped p s h) (past_event p s (enter h kids)) later

  -- a turn of the walk goes past the first of the events
  pub turn_past : (s t : CleaningView) (events now later : List Placed) (path : List ℕ) (e : Event)
      (skipped : Bool) → events ≡ (path, e) ∷ later → t ≡ past_event p s e →
      skipped ≡ skips p s e → now ≡ (if skipped then from_end 0 later else later) →
      past_events t now ≡ past_events s events
  turn_past s t events now later path e skipped comes passed is now_is =
      ap (past_events t) now_is
      ∙ (ap (λ b. past_events t (if b then from_end 0 later else later)) is
      ∙ (ap (λ u. past_events u (if skips p s e then from_end 0 later else later)) passed
      ∙ (first_past s (path, e) later ∙ ap (past_events s) (sym comes))))
