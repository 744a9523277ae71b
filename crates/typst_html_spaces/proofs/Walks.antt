-- Walking past nodes: between what stands before and after them, each blank of theirs that may go is
-- a space that stays.
use Rattle.std.proofs.Common.{◌≡◌, Bool, true, false, ◌&&◌, List, [], ◌∷◌, ◌++◌, inl, inr, refl, ap, ◌∙◌, sym, if◌then◌else◌}
use Rattle.std.proofs.lemmas.Bool.{cases_Bool, false≢true, and_parts, and_right}
use Rattle.html_dom_tree.specs.{Styled.{styled_node, styled_nodes}, Tree.{NodeView}, Views.{nodes_of}}
use Rattle.html_dom_shown.{proofs.NodeAtoms.{node_atoms, nodes_atoms}, specs.Collapsing.{Atom, collapsible, kept}}
use Rattle.html_flow_convert.specs.{BareSpaces.{Thing, border, visible, space, node_things, nodes_things}, Protected.{protected_nodes}}
use Rattle.typst_html_spaces.proofs.{AtomContexts.{support_at-append, support_past-append, AtomsStay-append}, Each.{Each}}
use Rattle.typst_html_spaces.proofs.LineContexts.{visible_at-append, line_past-append, protects_by_context}
use Rattle.typst_html_spaces.specs.AtomContexts.{support_at, support_past, AtomsStay}
use Rattle.typst_html_spaces.specs.LineContexts.{visible_at, line_past, node_between, nodes_between}

-- things, and the atoms that are made of them by what stands before and after. What stands after
-- supports if it is visible; what stands before supports if it is in the line and no visible thing
-- comes next
pub record Walks (ts : List Thing) (made : Bool → Bool → List Atom) : Type 0 where
  -- where a visible thing comes next, the atoms support what stands before
  pub next : (p n a : Bool) → (n ≡ true → a ≡ true) → visible_at ts n ≡ true →
      support_at (made p n) a ≡ true
  -- where no visible thing follows and the line has begun, the atoms support what stands after
  pub last : (p n b : Bool) → (p ≡ true → visible_at ts n ≡ false → b ≡ true) →
      line_past p ts ≡ true → n ≡ false → support_past b (made p n) ≡ true
  pub stay : (p n b a : Bool) → (n ≡ true → a ≡ true) →
      (p ≡ true → visible_at ts n ≡ false → b ≡ true) → AtomsStay b a (made p n)

pub walks_both : {ts us : List Thing} {f g : Bool → Bool → List Atom} → Walks ts f → Walks us g →
    Walks (ts ++ us) (λ p n. f p (visible_at us n) ++ g (line_past p ts) n)
walks_both {ts} {us} {f} {g} v w =
    let first : (p n b : Bool) → (p ≡ true → visible_at (ts ++ us) n ≡ false → b ≡ true)
    → line_past p ts ≡ true → visible_at us n ≡ false
    → support_past b (f p (visible_at us n)) ≡ true =
    λ p n b h. v.last p (visible_at us n) b (λ o e. h o (visible_at-append ts us n ∙ e)) in
    record {
      next = λ p n a h e. support_at-append (f p (visible_at us n)) (g (line_past p ts) n) a
          ∙ v.next p (visible_at us n) (support_at (g (line_past p ts) n) a)
          (w.next (line_past p ts) n a h) (sym (visible_at-append ts us n) ∙ e);
      last = λ p n b h e z. support_past-append b (f p (visible_at us n)) (g (line_past p ts) n)
          ∙ w.last (line_past p ts) n (support_past b (f p (visible_at us n))) (first p n b h)
          (sym (line_past-append p ts us) ∙ e) z;
      stay = λ p n b a i h. AtomsStay-append b a (f p (visible_at us n)) (g (line_past p ts) n)
          (v.stay p (visible_at us n) b (support_at (g (line_past p ts) n) a)
          (w.next (line_past p ts) n a i) (λ o e. h o (visible_at-append ts us n ∙ e)))
          (w.stay (line_past p ts) n (support_past b (f p (visible_at us n))) a i (first p n b h));
    }

pub walks_as : {ts us : List Thing} {f g : Bool → Bool → List Atom} → ts ≡ us →
    ((p n : Bool) → f p n ≡ g p n) → Walks us g → Walks ts f
walks_as t e w = record {
  next = λ p n a h k. rw (e p n) (w.next p n a h (rw t at k));
  last = λ p n b h k z. rw (e p n) (w.last p n b (λ o c. h o (rw t c)) (rw t at k) z);
  stay = λ p n b a i h. rw (e p n) (w.stay p n b a i (λ o c. h o (rw t c)));
}

-- atoms that look like nothing: what supports on one side is seen from the other
pub record Unseen (xs : List Atom) : Type 0 where
  pub at : support_at xs true ≡ true
  pub past : support_past true xs ≡ true
  pub stay : (b a : Bool) → AtomsStay b a xs

pub walks_unseen : {xs : List Atom} → Unseen xs → Walks [] (λ p n. xs)
walks_unseen {xs} u = record {
  next = λ p n a h e. ap (support_at xs) (h e) ∙ u.at;
  last = λ p n b h e z. ap (λ c. support_past c xs) (h e z) ∙ u.past;
  stay = λ p n b a i h. u.stay b a;
}

-- atoms that support on both sides
pub record Seen (xs : List Atom) : Type 0 where
  pub at : (a : Bool) → support_at xs a ≡ true
  pub past : (b : Bool) → support_past b xs ≡ true
  pub stay : (b a : Bool) → AtomsStay b a xs

pub walks_seen : {xs : List Atom} → Seen xs → Walks (visible ∷ []) (λ p n. xs)
walks_seen s = record {
  next = λ p n a h e. s.at a;
  last = λ p n b h e z. s.past b;
  stay = λ p n b a i h. s.stay b a;
}

-- atoms that need no support
pub walks_border : (xs : List Atom) → ((b a : Bool) → AtomsStay b a xs) →
    Walks (border ∷ []) (λ p n. xs)
walks_border xs s = record {
  next = λ p n a h e. absurd (false≢true e);
  last = λ p n b h e z. absurd (false≢true e);
  stay = λ p n b a i h. s b a;
}

-- a space: kept where it is not bare
abbrev pub space_between : (before after : Bool) → List Atom
space_between before after = (if before && after then collapsible 32 else kept 32) ∷ []

pub walks_space : Walks (space ∷ []) space_between
walks_space = record {
  next = λ p n a h e. absurd (false≢true e);
  last = λ p n b h e z. rw (z, and_right _ _ refl) refl;
  stay = λ p n b a i h. elim (cases_Bool (p && n)) [
    | inl t ↦ let both = and_parts _ _ t in rw t ((refl, h both.0 refl, i both.1), tt)
    | inr f ↦ rw f (tt, tt)
  ];
}

-- nodes

-- the atoms of a node between others
abbrev pub atoms_between : NodeView → (before after : Bool) → List Atom
atoms_between m before after = node_atoms false (styled_node (node_between before after m))

-- a node whose lone spaces are not decided yet
abbrev pub Ready : NodeView → Type 0
Ready m = Walks (node_things m) (atoms_between m)

pub nothing_unseen : Unseen []
nothing_unseen = record { at = refl; past = refl; stay = λ b a. tt }

pub walks_nodes : (ms : List NodeView) → Each Ready ms → Walks (nodes_things (nodes_of ms))
    (λ before after. nodes_atoms false (styled_nodes (nodes_between before after (nodes_of ms))))
unfolding nodes_things styled_nodes
walks_nodes [] r = walks_unseen nothing_unseen
walks_nodes (m ∷ ms) r = walks_both r.0 (walks_nodes ms r.1)

-- a list whose lone spaces are decided
pub protected_stay : (ms : List NodeView) → Each Ready ms →
    AtomsStay false false (nodes_atoms false (styled_nodes (protected_nodes (nodes_of ms))))
protected_stay ms r =
    rw (protects_by_context (nodes_of ms)) ((walks_nodes ms r).stay false false false false
    (λ e. e) (λ e f. absurd (false≢true e)))
