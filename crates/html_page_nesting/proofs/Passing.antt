-- A loop over a walk finds what the recursion over the nodes finds.
use Rattle.std.proofs.Common.{◌≡◌, ℕ, suc, Bool, true, false, List, [], ◌∷◌, ◌++◌, refl, ap, sym, ◌∙◌, append-nil, append_assoc}
use Rattle.std.specs.Prelude.{if◌then◌else◌, Some}
use Rattle.html_dom_tree.{proofs.Taking.{both_taken, same_taken}, specs.{Taking.{Takes}, Tree.{Head, NodesView}}}
use Rattle.html_dom_walk.proofs.Passing.{past_is, skipped_is}
use Rattle.html_dom_walk.specs.{Events.{Event, Placed, tag, text, frame, enter, leave, events_of, from_end}, Passing.{Goes, past}}
use Rattle.html_page_nesting.specs.{Misnested.{Finding, found}, Walks.{node_walk, nodes_walk, surroundings_in}}
use Rattle.html_page_nesting.specs.NestingRules.{element_misnesting, frame_misnesting, is_too_deep, text_misnesting}
use Rattle.html_page_nesting.specs.Passing.{OpenedView, event_found, is_skipped, opened_past}
use Rattle.html_page_nesting.specs.declared.misnesting.Misnesting.TheVariants as rule

-- what is open, and what was found
record State : Type 0 where
  opened : OpenedView
  found : List Finding

abbrev step : State → Placed → State
step s e = record {
  opened = opened_past s.opened e.1;
  found = s.found ++ event_found s.opened.around e.0 e.1;
}

abbrev skips : State → Head → Bool
skips s h = is_too_deep s.opened.around

abbrev after : State → List Placed → State
after = past step skips 0

abbrev nodes_after : (parent : List ℕ) (index : ℕ) → State → NodesView → State
nodes_after parent index s ns =
    record s { found = s.found ++ nodes_walk parent index s.opened.around ns }

in_turn : (before own behind : List Finding) →
    before ++ (own ++ behind) ≡ ((before ++ own) ++ []) ++ behind
in_turn before own behind = sym (append_assoc before own behind)
    ∙ ap (λ fs. fs ++ behind) (sym (append-nil (before ++ own)))

goes : Goes step skips nodes_after
unfolding node_walk nodes_walk
goes = record {
  at_none = λ parent index s. ap (λ fs. record s { found = fs }) (append-nil s.found);
  at_tag = λ parent index s t ns. ap (λ fs. record s { found = fs })
      (sym (append_assoc s.found [] (nodes_walk parent (suc index) s.opened.around ns)));
  at_text = λ parent index s x span ns. ap (λ fs. record s { found = fs })
      (sym (append_assoc s.found
      (found (parent ++ index ∷ []) span (text_misnesting x s.opened.around))
      (nodes_walk parent (suc index) s.opened.around ns)));
  at_frame = λ parent index s f ns. ap (λ fs. record s { found = fs })
      (sym (append_assoc s.found
      (found (parent ++ index ∷ []) f.span (frame_misnesting s.opened.around))
      (nodes_walk parent (suc index) s.opened.around ns)));
  at_element = λ parent index s h kids ns is.
      let path = parent ++ index ∷ [] in
      let around = s.opened.around in
      let own = found path h.span (element_misnesting h kids around) in
      let below = nodes_walk path 0 (surroundings_in h around) kids in
      let behind = nodes_walk parent (suc index) around ns in
      rw is (ap (λ fs. record s { found = fs }) (in_turn s.found (own ++ below) behind
      ∙ ap (λ fs. (fs ++ []) ++ behind) (sym (append_assoc s.found own below))));
  at_skipped = λ parent index s h kids ns is.
      rw is (ap (λ fs. record s { found = fs })
      (in_turn s.found (found (parent ++ index ∷ []) h.span (Some rule.TooDeep))
      (nodes_walk parent (suc index) s.opened.around ns)));
}

by_skip : (b : Bool) (s : State) (es : List Placed) →
    after s (if b then from_end 0 es else es) ≡ past step skips (if b then 1 else 0) s es
by_skip true s es = sym (skipped_is step skips s es)
by_skip false s es = refl

first_past : (s : State) (path : List ℕ) (e : Event) (later : List Placed) →
    after (step s (path, e)) (if is_skipped s.opened.around e then from_end 0 later else later)
    ≡ after s ((path, e) ∷ later)
first_past s path (tag t) later = refl
first_past s path (text x span) later = refl
first_past s path (frame f) later = refl
first_past s path leave later = refl
first_past s path (enter h kids) later =
    by_skip (is_too_deep s.opened.around) (step s (path, enter h kids)) later

-- a loop has taken what it has found, and will have found all of that
pub record Finds {Made : Type 0} (first now : List Finding → Made) (opened : OpenedView)
    (events : List Placed) (all : List Finding) : Type 0 where
  pub before : List Finding
  pub taken : Takes first now before
  pub past : (after (record { opened = opened; found = before }) events).found ≡ all

pub finds_nodes : {Made : Type 0} {first : List Finding → Made} {opened : OpenedView}
    {events : List Placed} (ns : NodesView) → events ≡ events_of [] 0 ns [] →
    Finds first first opened events (nodes_walk [] 0 opened.around ns)
finds_nodes {opened = opened} ns are =
    let s : State = record { opened = opened; found = [] } in
    record {
      before = [];
      taken = λ rest. refl;
      past = ap (λ es. (after s es).found) are
          ∙ ap (λ t. t.found) (past_is step skips nodes_after goes [] 0 s ns []);
    }

pub finds_more : {Made : Type 0} {first old new : List Finding → Made} {opened next : OpenedView}
    {events later left : List Placed} {all : List Finding} (path : List ℕ) (e : Event)
    (skipped : Bool) → Finds first old opened events all → events ≡ (path, e) ∷ later →
    Takes old new (event_found opened.around path e) → next ≡ opened_past opened e →
    skipped ≡ is_skipped opened.around e → left ≡ (if skipped then from_end 0 later else later) →
    Finds first new next left all
finds_more {first = first} {old = old} {new = new} {opened = opened} {later = later} {left = left}
    path e skipped so_far comes taken next_is is left_is =
    let own = event_found opened.around path e in
    let s : State = record { opened = opened; found = so_far.before } in
    let t = step s (path, e) in
    record {
      before = so_far.before ++ own;
      taken = both_taken first new old so_far.before own so_far.taken taken;
      past = ap (λ o. (after (record t { opened = o }) left).found) next_is
          ∙ (ap (λ es. (after t es).found) left_is
          ∙ (ap (λ b. (after t (if b then from_end 0 later else later)).found) is
          ∙ (ap (λ u. u.found) (first_past s path e later)
          ∙ (ap (λ es. (after s es).found) (sym comes) ∙ so_far.past))));
    }

pub finds_all : {Made : Type 0} {first now : List Finding → Made} {opened : OpenedView}
    {events : List Placed} {all : List Finding} → events ≡ [] → Finds first now opened events all →
    Takes first now all
finds_all {first = first} {now = now} {opened = opened} {all = all} none so_far =
    let s : State = record { opened = opened; found = so_far.before } in
    same_taken first now so_far.before all so_far.taken
    (ap (λ es. (after s es).found) (sym none) ∙ so_far.past)
