-- Spaces between others: lists one after the other, and protection by context.
use Rattle.std.proofs.Common.{◌≡◌, Bool, true, false, List, [], ◌∷◌, ◌++◌, Option, Some, None, length, drop, inl, inr, refl, ap, ◌∙◌, sym, arith, append_assoc, append-nil}
use Rattle.std.proofs.{Math.Seq.{drop-append_seam}, lemmas.Bool.{cases_Bool}}
use Rattle.html_dom_tree.specs.Tree.{NodeView, text_node, element_node, NodesView, none, node}
use Rattle.html_flow_convert.proofs.Protecting.{opened_things}
use Rattle.html_flow_convert.specs.BareSpaces.{Thing, border, visible, space, node_things, nodes_things, is_entered, is_in_line, is_visible_first, bare_after}
use Rattle.html_flow_convert.specs.{Nodes.{is_one}, Protected.{space_count, node_by_answers, nodes_by_answers}}
use Rattle.typst_html_spaces.specs.LineContexts.{visible_at, line_past, bare_between, node_between, nodes_between, ProtectsByContext}

pub visible_at-append : (ts us : List Thing) (after : Bool) →
    visible_at (ts ++ us) after ≡ visible_at ts (visible_at us after)
visible_at-append (border ∷ ts) us after = refl
visible_at-append ts us after = refl

pub line_past-append : (before : Bool) (ts us : List Thing) →
    line_past before (ts ++ us) ≡ line_past (line_past before ts) us
line_past-append before [] us = refl
line_past-append before (border ∷ ts) us = line_past-append false ts us
line_past-append before (visible ∷ ts) us = line_past-append true ts us
line_past-append before (space ∷ ts) us = line_past-append true ts us

bare_between-append : (before after : Bool) (ts us : List Thing) →
    bare_between before after (ts ++ us)
    ≡ bare_between before (visible_at us after) ts ++ bare_between (line_past before ts) after us
bare_between-append before after [] us = refl
bare_between-append before after (border ∷ ts) us = bare_between-append false after ts us
bare_between-append before after (visible ∷ ts) us = bare_between-append true after ts us
bare_between-append before after (space ∷ ts) us =
    rw (visible_at-append ts us after, bare_between-append true after ts us) refl

-- the context form is the definition

visible_first : (ts : List Thing) → is_visible_first ts ≡ visible_at ts false
visible_first (border ∷ ts) = refl
visible_first ts = refl

bare_by_context : (before : Option Thing) (ts : List Thing) →
    bare_after before ts ≡ bare_between (is_in_line before) false ts
unfolding bare_after
bare_by_context before [] = refl
bare_by_context before (border ∷ ts) = bare_by_context (Some border) ts
bare_by_context before (visible ∷ ts) = bare_by_context (Some visible) ts
bare_by_context before (space ∷ ts) =
    rw (visible_first ts, bare_by_context (Some space) ts) refl

-- each space has an answer
answer_count : (before after : Bool) (ts : List Thing) →
    length (bare_between before after ts) ≡ space_count ts
answer_count before after [] = refl
answer_count before after (border ∷ ts) = answer_count false after ts
answer_count before after (visible ∷ ts) = answer_count true after ts
answer_count before after (space ∷ ts) =
    let more = answer_count true after ts in omega (arith, more)

own_dropped : (before after : Bool) (ts : List Thing) (bs : List Bool) →
    drop (space_count ts) (bare_between before after ts ++ bs) ≡ bs
own_dropped before after ts bs =
    ap (λ k. drop k (bare_between before after ts ++ bs)) (sym (answer_count before after ts))
    ∙ drop-append_seam (bare_between before after ts) bs

mutual
  unfolding node_things node_by_answers

  by_answers : (n : NodeView) (before after : Bool) (bs : List Bool) →
      node_by_answers (bare_between before after (node_things n) ++ bs) n
      ≡ node_between before after n
  by_answers (text_node s span) before after bs =
      elim (cases_Bool (is_one 32 s)) [ inl e ↦ rw e refl | inr e ↦ rw e refl ]
  by_answers (element_node h ns) before after bs =
      elim (cases_Bool (is_entered h)) [
        | inl e ↦
            rw e (ap (λ ts. element_node h (nodes_by_answers (bare_between before after ts ++ bs) ns))
            (opened_things h (nodes_things ns) e)
            ∙ ap (element_node h) (by_answers_all ns before after bs))
        | inr e ↦ rw e refl
      ]
  by_answers n before after bs = refl

  by_answers_all : (ns : NodesView) (before after : Bool) (bs : List Bool) →
      nodes_by_answers (bare_between before after (nodes_things ns) ++ bs) ns
      ≡ nodes_between before after ns
  by_answers_all none before after bs = refl
  by_answers_all (node n ns) before after bs =
      let seen = visible_at (nodes_things ns) after in
      let line = line_past before (node_things n) in
      let others = bare_between line after (nodes_things ns) ++ bs in
      let own = bare_between before seen (node_things n) in
      let split : bare_between before after (node_things n ++ nodes_things ns) ++ bs
      ≡ own ++ others =
      ap (λ l. l ++ bs) (bare_between-append before after (node_things n) (nodes_things ns))
      ∙ append_assoc own (bare_between line after (nodes_things ns)) bs in
      rw (
        split,
        by_answers n before seen others,
        own_dropped before seen (node_things n) others,
        by_answers_all ns line after bs,
      ) refl

pub protects_by_context : ProtectsByContext
protects_by_context ns =
    ap (λ bs. nodes_by_answers bs ns) (bare_by_context None (nodes_things ns)
    ∙ sym (append-nil (bare_between false false (nodes_things ns))))
    ∙ by_answers_all ns false false []
