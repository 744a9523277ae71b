-- A table that gives more numbers leaves what was made with its numbers as it is.
use Rattle.std.proofs.Common.{◌≡◌, ℕ, ◌<◌, true, List, [], ◌∷◌, ◌++◌, refl, ap, subst, sym, ◌∙◌, arith, map, length, Result, Ok, Err, String}
use Rattle.std.proofs.lemmas.{Bool.{ltb-true, lt-ltb, and_parts, and_from}, List.{map-append}, List.Folds.{list_all-append}}
use Rattle.std.specs.{List.{list_all}, declared.alloc.Global.{Global}}
use Rattle.html_names_core.specs.{Texts.{text_view, TextPair}, declared.html_attr.HtmlAttr.{HtmlAttr}}
use Rattle.html_names_table.proofs.NameTables.{with_name-long, name_at-with_name, name_at-added}
use Rattle.html_names_table.specs.NameTables.{NamesView, Numbers, name_at, with_name, with_tag, with_attr}
use Rattle.html_dom_tree.specs.Views.{pair_view}
use Rattle.html_dom_flat.specs.FlatViews.{FlatPair, flat_pair, flat_head, flat_node_view, flat_nodes_view, is_pair_given, is_given, is_node_given, are_given}
use Rattle.html_dom_flat.specs.Numbering.{AreKept, Grows, ArePairsOf}
use Rattle.html_dom_flat.specs.declared.flat_node.{FlatElement.{FlatElement}, FlatNode.{FlatNode}, FlatNode.TheVariants.{Element}}

kept_all : (names : List (List ℕ)) → AreKept names names
kept_all names = λ number below. (below, refl)

kept_on : (old mid new : List (List ℕ)) → AreKept old mid → AreKept mid new → AreKept old new
kept_on old mid new first second =
    λ number below.
    let before = first number below in
    let after = second number before.0 in (after.0, after.1 ∙ before.1)

kept_added : (names : List (List ℕ)) (name : List ℕ) → AreKept names (with_name names name)
kept_added names name =
    λ number below.
    (omega (arith, below, with_name-long names name), name_at-with_name names name number below)

pub grows_all : (names : NamesView) → Grows names names
grows_all names = record { tags = kept_all names.tags; attrs = kept_all names.attrs }

pub grows_on : (old mid new : NamesView) → Grows old mid → Grows mid new → Grows old new
grows_on old mid new first second =
    record {
      tags = kept_on _ _ _ first.tags second.tags;
      attrs = kept_on _ _ _ first.attrs second.attrs;
    }

pub grows_tag : {E : Type 0} (result : Result ℕ E) (old new : NamesView) (tag : List ℕ) →
    Numbers result old.tags new.tags tag old new (with_tag old tag) → Grows old new
grows_tag (Ok number) old new tag asked =
    subst (Grows old) (sym asked.names)
    (record { tags = kept_added old.tags tag; attrs = kept_all old.attrs })
grows_tag (Err fault) old new tag asked = subst (Grows old) (sym asked.kept) (grows_all old)

pub grows_attr : {E : Type 0} (result : Result ℕ E) (old new : NamesView) (attr : List ℕ) →
    Numbers result old.attrs new.attrs attr old new (with_attr old attr) → Grows old new
grows_attr (Ok number) old new attr asked =
    subst (Grows old) (sym asked.names)
    (record { tags = kept_all old.tags; attrs = kept_added old.attrs attr })
grows_attr (Err fault) old new attr asked = subst (Grows old) (sym asked.kept) (grows_all old)

pub tag_kept : {E : Type 0} (old mid new : NamesView) (tag : List ℕ) (number : ℕ) →
    Numbers {E = E} (Ok number) old.tags mid.tags tag old mid (with_tag old tag) → Grows mid new →
    (number < length new.tags) × (name_at new.tags number ≡ tag)
tag_kept old mid new tag number asked grows =
    let table : mid.tags ≡ with_name old.tags tag = ap (λ n. n.tags) asked.names in
    let kept = grows.tags number asked.below in
    (kept.0, kept.1 ∙ rw (table, asked.number) (name_at-added old.tags tag))

pub pairs_stay : (old new : NamesView) (pairs : List FlatPair) (attrs : List TextPair) →
    Grows old new → ArePairsOf old pairs attrs → ArePairsOf new pairs attrs
pairs_stay old new [] attrs grows made = record { same = made.same; given = refl }
pairs_stay old new (p ∷ ps) attrs grows made =
    let parts = and_parts (is_pair_given old p) _ made.given in
    let here = grows.attrs p.0 (ltb-true _ _ parts.0) in
    let others = pairs_stay old new ps (map (flat_pair old) ps) grows
    (record { same = refl; given = parts.1 }) in
    record {
      same = rw (here.1, others.same) made.same;
      given = and_from (is_pair_given new p) _ (lt-ltb _ _ here.0) others.given;
    }

pairs_more : {E : Type 0} (old new : NamesView) (pairs : List FlatPair) (attrs : List TextPair)
    (attr : List ℕ) (number : ℕ) (value : String Global) → ArePairsOf old pairs attrs →
    Numbers {E = E} (Ok number) old.attrs new.attrs attr old new (with_attr old attr) →
    ArePairsOf new (pairs ++ (number, value) ∷ []) (attrs ++ (attr, text_view value) ∷ [])
pairs_more {E} old new pairs attrs attr number value made asked =
    let grows = grows_attr {E = E} (Ok number) old new attr asked in
    let kept = pairs_stay old new pairs attrs grows made in
    let table : new.attrs ≡ with_name old.attrs attr = ap (λ n. n.attrs) asked.names in
    record {
      same = rw (map-append, kept.same, table, asked.number, name_at-added old.attrs attr) refl;
      given = list_all-append (is_pair_given new) pairs ((number, value) ∷ [])
          ∙ and_from (list_all (is_pair_given new) pairs) _ kept.given
          (and_from (is_pair_given new (number, value)) true (lt-ltb _ _ asked.below) refl);
    }

pub numbered_more : {E : Type 0} (old new : NamesView) (pairs : List FlatPair)
    (seen : List (HtmlAttr × String Global)) (attr : HtmlAttr) (number : ℕ)
    (value : String Global) → ArePairsOf old pairs (map pair_view seen) →
    Numbers {E = E} (Ok number) old.attrs new.attrs attr old new (with_attr old attr) →
    ArePairsOf new (pairs ++ (number, value) ∷ []) (map pair_view (seen ++ (attr, value) ∷ []))
numbered_more {E} old new pairs seen attr number value made asked =
    rw map-append
    (pairs_more {E = E} old new pairs (map pair_view seen) attr number value made asked)

head_stays : (old new : NamesView) (e : FlatElement) → Grows old new → is_given old e ≡ true →
    (flat_head new e ≡ flat_head old e) × (is_given new e ≡ true)
head_stays old new e grows given =
    let parts = and_parts _ (list_all (is_pair_given old) e.attrs.items) given in
    let tag = grows.tags e.tag (ltb-true _ _ parts.0) in
    let pairs = pairs_stay old new e.attrs.items (map (flat_pair old) e.attrs.items) grows
    (record { same = refl; given = parts.1 }) in
    (rw (tag.1, pairs.same) refl, and_from _ _ (lt-ltb _ _ tag.0) pairs.given)

node_stays : (old new : NamesView) (n : FlatNode) → Grows old new → is_node_given old n ≡ true →
    (flat_node_view new n ≡ flat_node_view old n) × (is_node_given new n ≡ true)
node_stays old new (Element e) grows given =
    let same = head_stays old new e grows given in rw same.0 (refl, same.1)
node_stays old new x grows given = (refl, refl)

pub views_stay : (old new : NamesView) (nodes : List FlatNode) → Grows old new →
    are_given old nodes ≡ true → flat_nodes_view new nodes ≡ flat_nodes_view old nodes
views_stay old new [] grows given = refl
views_stay old new (n ∷ ns) grows given =
    let parts = and_parts (is_node_given old n) _ given in
    rw ((node_stays old new n grows parts.0).0, views_stay old new ns grows parts.1) refl

pub given_stay : (old new : NamesView) (nodes : List FlatNode) → Grows old new →
    are_given old nodes ≡ true → are_given new nodes ≡ true
given_stay old new [] grows given = refl
given_stay old new (n ∷ ns) grows given =
    let parts = and_parts (is_node_given old n) _ given in
    and_from (is_node_given new n) _ (node_stays old new n grows parts.0).1
    (given_stay old new ns grows parts.1)
