-- The nodes of a text past which the walk goes, lone tabs aside.
use Rattle.std.proofs.Common.{◌≡◌, ℕ, true, false, not, ◌&&◌, ◌==◌, List, [], ◌∷◌, Option, None, Some, inl, inr, ◌⊎◌, refl, ap, ◌∙◌, sym, arith}
use Rattle.std.proofs.lemmas.{Bool.{cases_Bool, false≢true, and_parts, or_parts, eqb-true, not-false}, Bool.Decides.{nat_tests}}
use Rattle.html_names_core.specs.Characters.{is_blank, is_ignorable}
use Rattle.html_dom_tree.specs.Tree.{NodeView, text_node}
use Rattle.html_dom_shown.specs.Collapsing.{Atom, visible, ignorable, collapsible, char_atom, text_atoms}
use Rattle.html_flow_convert.specs.{BareSpaces.{visible as visible_thing, text_things}, Nodes.{is_one}}
use Rattle.html_flow_convert.specs.Pieces.{PieceView, stretch, alone, line_break, is_normal, is_normal_there, first_char, is_in_stretch, in_stretch, outside_stretch, pieces_after, piece_node, text_nodes}
use Rattle.html_flow_convert.specs.Runs.{is_tab}
use Rattle.typst_html_spaces.proofs.{Each.{Each, Each-map}, ReadyNodes.{unseen_text, seen_text, space_ready, break_ready}}
use Rattle.typst_html_spaces.proofs.{TextPieces.{normal_parts, each_outside}, Walks.{Ready, Seen, Unseen}}

no_space : (c : ℕ) → is_blank c ≡ false → (c == 32) ≡ false
no_space c h = grind (arith, nat_tests)

normal_atom : (c : ℕ) → is_normal c ≡ true → char_atom false c ≡ visible c
normal_atom c h = let p = normal_parts c h in rw (p.0, p.1) refl

-- stretches: they begin with a normal character, and support on both sides

seen_one : (c : ℕ) → Seen (visible c ∷ [])
seen_one c = record { at = λ a. refl; past = λ b. refl; stay = λ b a. (tt, tt) }

seen_more : (c : ℕ) (xs : List Atom) → Seen xs → Seen (visible c ∷ xs)
seen_more c xs s =
    record { at = λ a. refl; past = λ b. s.past true; stay = λ b a. (tt, s.stay true a) }

seen_gap : (c : ℕ) (xs : List Atom) → Seen xs → Seen (visible c ∷ collapsible 32 ∷ xs)
seen_gap c xs s = record {
  at = λ a. refl;
  past = λ b. s.past false;
  stay = λ b a. (tt, ((refl, refl, s.at a), s.stay false a));
}

abbrev pub IsStretch : List ℕ → Type 0
IsStretch s = (is_normal_there (first_char s) ≡ true) × Seen (text_atoms false s)

stretch_one : (c : ℕ) → is_normal c ≡ true → IsStretch (c ∷ [])
stretch_one c h = (h, rw (normal_atom c h) (seen_one c))

stretch_more : (c : ℕ) (s : List ℕ) → is_normal c ≡ true → IsStretch s → IsStretch (c ∷ s)
stretch_more c s h r = (h, rw (normal_atom c h) (seen_more c (text_atoms false s) r.1))

stretch_gap : (c : ℕ) (s : List ℕ) → is_normal c ≡ true → IsStretch s → IsStretch (c ∷ 32 ∷ s)
stretch_gap c s h r = (h, rw (normal_atom c h) (seen_gap c (text_atoms false s) r.1))

stretch_is_long : (s : List ℕ) → is_normal_there (first_char s) ≡ true → is_one 32 s ≡ false
stretch_is_long [] h = refl
stretch_is_long (c ∷ []) h = no_space c (normal_parts c h).0
stretch_is_long (c ∷ d ∷ s) h = refl

stretch_is_seen : (s : List ℕ) → is_normal_there (first_char s) ≡ true →
    text_things s ≡ visible_thing ∷ []
stretch_is_seen [] h = absurd (false≢true h)
stretch_is_seen (c ∷ s) h = rw (stretch_is_long (c ∷ s) h, (normal_parts c h).1) refl

stretch_ready : (s : List ℕ) (span : ℕ) → IsStretch s → Ready (text_node s span)
stretch_ready s span r =
    seen_text s span (stretch_is_long s r.0) (stretch_is_seen s r.0) r.1

-- pieces

abbrev IsLone : ℕ → Type 0
IsLone c = (c ≡ 9) ⊎ ((c ≡ 32) ⊎ ((is_blank c ≡ false) × (is_ignorable c ≡ true)))

abbrev IsPiece : PieceView → Type 0
IsPiece (stretch s) = IsStretch s
IsPiece (alone c) = IsLone c
IsPiece line_break = Unit {0}

-- they begin with a stretch
abbrev BeginInStretch : List PieceView → Type 0
BeginInStretch (stretch s ∷ ps) = IsStretch s × Each IsPiece ps
BeginInStretch ps = ⊥

-- a stretch and a space before it, after a normal character
abbrev GoesOn : (before : Option ℕ) → List ℕ → Type 0
GoesOn before s =
    (t : List ℕ) × (is_normal_there before ≡ true) × (s ≡ 32 ∷ t) × IsStretch t

-- pieces after a character: the first may go on with the stretch there
abbrev FollowPieces : (before : Option ℕ) → List PieceView → Type 0
FollowPieces before (stretch s ∷ ps) = (IsStretch s ⊎ GoesOn before s) × Each IsPiece ps
FollowPieces before ps = Each IsPiece ps

follow : (before : Option ℕ) (ps : List PieceView) → Each IsPiece ps → FollowPieces before ps
follow before (stretch s ∷ ps) r = (inl r.0, r.1)
follow before ps r = r

follow_in_stretch : (before : Option ℕ) (ps : List PieceView) → BeginInStretch ps →
    FollowPieces before ps
follow_in_stretch before (stretch s ∷ ps) r = (inl r.0, r.1)
follow_in_stretch before ps r = absurd r

all_pieces : (before : Option ℕ) (ps : List PieceView) → is_normal_there before ≡ false →
    FollowPieces before ps → Each IsPiece ps
all_pieces before (stretch s ∷ ps) h r = elim (r.0) [
  | inl t ↦ (t, r.1)
  | inr t ↦ absurd (false≢true (sym h ∙ t.1))
]
all_pieces before ps h r = r

normal_before : (c : ℕ) (ps : List PieceView) → is_normal c ≡ true → FollowPieces (Some c) ps →
    BeginInStretch (in_stretch c ps)
normal_before c (stretch s ∷ ps) h r = elim (r.0) [
  | inl t ↦ (stretch_more c s h t, r.1)
  | inr t ↦ (rw (t.2) (stretch_gap c t.0 h t.3), r.1)
]
normal_before c ps h r = (stretch_one c h, r)

space_before : (before : Option ℕ) (c : ℕ) (ps : List PieceView) → (c == 32) ≡ true →
    is_normal_there before ≡ true → BeginInStretch ps → FollowPieces before (in_stretch c ps)
space_before before c (stretch s ∷ ps) e h r =
    (inr (s, h, ap (λ d. d ∷ s) (eqb-true _ _ e), r.0), r.1)
space_before before c ps e h r = absurd r

-- a character outside of stretches

lone_char : (c : ℕ) → is_normal c ≡ false → (c == 13) ≡ false → (c == 10) ≡ false → IsLone c
lone_char c n e f = elim (cases_Bool (c == 32)) [
  | inl h ↦ inr (inl (eqb-true _ _ h))
  | inr h ↦ elim (cases_Bool (c == 9)) [
    | inl k ↦ inl (eqb-true _ _ k)
    | inr k ↦
        let b : is_blank c ≡ false = rw (h, k, f, e) refl in
        inr (inr (b, not-false _ (sym (ap (λ x. not x && not (is_ignorable c)) b) ∙ n)))
  ]
]

-- all pieces of a text after a character
abbrev Stands : (before : Option ℕ) → List ℕ → Type 0
Stands before cs = FollowPieces before (pieces_after before cs)
    × (is_normal_there (first_char cs) ≡ true → BeginInStretch (pieces_after before cs))

normal_step : (before : Option ℕ) (c : ℕ) (cs : List ℕ) → is_normal c ≡ true → Stands (Some c) cs →
    Stands before (c ∷ cs)
unfolding pieces_after
normal_step before c cs n r =
    let e : is_in_stretch before c cs ≡ true = rw n refl in
    let begins : BeginInStretch (pieces_after before (c ∷ cs)) =
    rw e (normal_before c (pieces_after (Some c) cs) n r.0) in
    (follow_in_stretch before (pieces_after before (c ∷ cs)) begins, λ h. begins)

space_step : (before : Option ℕ) (c : ℕ) (cs : List ℕ) → is_in_stretch before c cs ≡ true →
    is_normal c ≡ false → Stands (Some c) cs → Stands before (c ∷ cs)
unfolding pieces_after
space_step before c cs e n r =
    let two = and_parts _ _ (rw n at e) in
    let one = and_parts _ _ two.0 in (
      rw e (space_before before c (pieces_after (Some c) cs) one.0 one.1 (r.1 two.1)),
      λ h. absurd (false≢true (sym n ∙ h)),
    )

other_step : (before : Option ℕ) (c : ℕ) (cs : List ℕ) → is_in_stretch before c cs ≡ false →
    Stands (Some c) cs → Stands before (c ∷ cs)
unfolding pieces_after
other_step before c cs e r =
    let n : is_normal c ≡ false = (or_parts _ _ e).0 in
    let others = pieces_after (Some c) cs in (
      rw e (follow before (outside_stretch before c others)
          (each_outside IsPiece before c others tt (lone_char c n) (all_pieces (Some c) others n r.0))),
      λ h. absurd (false≢true (sym n ∙ h)),
    )

pieces_stand : (before : Option ℕ) (cs : List ℕ) → Stands before cs
unfolding pieces_after
pieces_stand before [] = (tt, λ h. absurd (false≢true h))
pieces_stand before (c ∷ cs) = elim (cases_Bool (is_in_stretch before c cs)) [
  | inl e ↦ elim (cases_Bool (is_normal c)) [
    | inl n ↦ normal_step before c cs n (pieces_stand (Some c) cs)
    | inr n ↦ space_step before c cs e n (pieces_stand (Some c) cs)
  ]
  | inr e ↦ other_step before c cs e (pieces_stand (Some c) cs)
]

-- nodes

-- a node past which the walk goes once runs of blanks are kept
abbrev pub AlmostReady : NodeView → Type 0
AlmostReady n = (is_tab n ≡ true) ⊎ Ready n

unseen_ignorable : (c : ℕ) → Unseen (ignorable c ∷ [])
unseen_ignorable c = record { at = refl; past = refl; stay = λ b a. (tt, tt) }

ignorable_ready : (c span : ℕ) → is_blank c ≡ false → is_ignorable c ≡ true →
    Ready (text_node (c ∷ []) span)
ignorable_ready c span b i = unseen_text (c ∷ []) span (no_space c b) (rw (no_space c b, i) refl)
    (rw (b, i) (unseen_ignorable c))

piece_ready : (span : ℕ) (p : PieceView) → IsPiece p → AlmostReady (piece_node span p)
piece_ready span (stretch s) r = inr (stretch_ready s span r)
piece_ready span (alone c) (inl e) = inl (rw e refl)
piece_ready span (alone c) (inr (inl e)) = inr (rw e (space_ready span))
piece_ready span (alone c) (inr (inr e)) = inr (ignorable_ready c span e.0 e.1)
piece_ready span line_break r = inr (break_ready span)

pub text_ready : (span : ℕ) (text : List ℕ) → Each AlmostReady (text_nodes span text)
text_ready span text = Each-map IsPiece AlmostReady (piece_node span) (piece_ready span)
    (pieces_after None text)
    (all_pieces None (pieces_after None text) refl (pieces_stand None text).0)
