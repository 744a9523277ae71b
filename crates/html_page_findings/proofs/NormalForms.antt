-- What is found in a tree without frames is found in its normal form.
use Rattle.std.proofs.Common.{◌≡◌, ℕ, Bool, true, false, not, cond, List, [], ◌∷◌, ◌++◌, Option, None, refl, ap, sym, ◌∙◌}
use Rattle.std.specs.{List.{filter}, Prelude.{if◌then◌else◌}}
use Rattle.html_names_core.specs.Names.{stands_in}
use Rattle.html_dom_tree.specs.{Attributes.{or_else}, FrameFree.{NodeIsFrameFree, NodesAreFrameFree, ElementIsFrameFree}}
use Rattle.html_dom_tree.specs.PlainTree.{Plain, words, branch, Plains, no_plains, plain, put_words, nodes_normal, element_normal}
use Rattle.html_dom_tree.specs.Tree.{tag_node, text_node, element_node, frame_node, NodesView, none, node, ElementView}
use Rattle.html_links.specs.Bases.{base_of, base_is_elsewhere, leads_away, node_base, nodes_base, own_base}
use Rattle.html_links.specs.InDocument.{document_places, in_document, kept, keeps, node_part, nodes_part}
use Rattle.html_links.specs.Indicated.{element_places, leads, nodes_places, place_names}
use Rattle.html_links.specs.TreeNames.{Name, frame_names, with_used_name, gathered_names}
use Rattle.html_page_findings.proofs.{FindingPlaces.{document_frame_free}, TreeTexts.{element_texts, gathered, nodes_texts}}
use Rattle.html_page_findings.specs.CheckLaws.{NormalFormsAgree, texts_of}
use Rattle.html_page_findings.specs.{Fragments.{dead_among, dead_fragments, fragment_links, fragments}, PlacedTexts.{Placed, TextKind}}
use Rattle.html_page_findings.specs.RepeatedIds.{ids, placed_ids, repeated}

module _ (kind : TextKind) where
  abbrev plains_texts : Plains → List Name
  plains_texts no_plains = []
  plains_texts (plain (words text) ps) = plains_texts ps
  plains_texts (plain (branch name attrs kids) ps) =
      kind.own name attrs ++ (plains_texts kids ++ plains_texts ps)

  abbrev plain_texts : Plain → List Name
  plain_texts (words text) = []
  plain_texts (branch name attrs kids) = kind.own name attrs ++ plains_texts kids

  words_have_none : (s : List ℕ) (ps : Plains) → plains_texts (put_words s ps) ≡ plains_texts ps
  words_have_none [] ps = refl
  words_have_none (c ∷ cs) no_plains = refl
  words_have_none (c ∷ cs) (plain (words text) ps) = refl
  words_have_none (c ∷ cs) (plain (branch name attrs kids) ps) = refl

  normal_texts : (ns : NodesView) → NodesAreFrameFree ns →
      nodes_texts kind ns ≡ plains_texts (nodes_normal ns)
  unfolding nodes_normal NodesAreFrameFree NodeIsFrameFree
  normal_texts none free = refl
  normal_texts (node (tag_node t) ns) free = normal_texts ns free.1
  normal_texts (node (text_node s span) ns) free =
      normal_texts ns free.1 ∙ sym (words_have_none s (nodes_normal ns))
  normal_texts (node (element_node h kids) ns) free =
      rw (normal_texts kids free.0, normal_texts ns free.1) refl
  normal_texts (node (frame_node f) ns) free = absurd free.0

  same_texts : (e f : ElementView) → ElementIsFrameFree e → ElementIsFrameFree f →
      element_normal e ≡ element_normal f → element_texts kind e ≡ element_texts kind f
  same_texts e f e_free f_free same =
      ap (λ l. kind.own e.0.name e.0.attrs ++ l) (normal_texts e.1 e_free)
      ∙ (ap plain_texts same
      ∙ sym (ap (λ l. kind.own f.0.name f.0.attrs ++ l) (normal_texts f.1 f_free)))

abbrev places : TextKind
places = record { own = place_names; framed = frame_names }

places_are : (ns : NodesView) → nodes_places ns ≡ nodes_texts places ns
unfolding gathered_names
places_are none = refl
places_are (node (tag_node t) ns) = places_are ns
places_are (node (text_node s span) ns) = places_are ns
places_are (node (element_node h kids) ns) = rw (places_are kids, places_are ns) refl
places_are (node (frame_node f) ns) = rw (places_are ns) refl

places_stand : (e : ElementView) → element_places e ≡ element_texts places e
places_stand e = rw (places_are e.1) refl

-- the fragments that don't lead
abbrev lost : (is_place : Name → Bool) → List Name → List Name
lost is_place = filter (λ fragment. not (leads is_place fragment))

lost_are_dead : (is_place : Name → Bool) (ps : List Placed) →
    texts_of (dead_among is_place ps) ≡ lost is_place (texts_of ps)
lost_are_dead is_place [] = refl
lost_are_dead is_place (p ∷ ps) = by (leads is_place p.1) (lost_are_dead is_place ps)
  where
    by : (b : Bool) → texts_of (dead_among is_place ps) ≡ lost is_place (texts_of ps) →
        texts_of (cond (not b) (p ∷ dead_among is_place ps) (dead_among is_place ps))
        ≡ cond (not b) (p.1 ∷ lost is_place (texts_of ps)) (lost is_place (texts_of ps))
    by true so = so
    by false so = ap (λ l. p.1 ∷ l) so

-- the ids that stand before
abbrev again : (is_passed : Name → Bool) → List Name → List Name
again is_passed [] = []
again is_passed (t ∷ ts) =
    (if is_passed t then t ∷ [] else []) ++ again (with_used_name t is_passed) ts

again_are_repeated : (is_passed : Name → Bool) (ps : List Placed) →
    texts_of (repeated is_passed ps) ≡ again is_passed (texts_of ps)
unfolding repeated
again_are_repeated is_passed [] = refl
again_are_repeated is_passed (p ∷ ps) =
    by (is_passed p.1) (again_are_repeated (with_used_name p.1 is_passed) ps)
  where
    by : (b : Bool) → texts_of (repeated (with_used_name p.1 is_passed) ps)
        ≡ again (with_used_name p.1 is_passed) (texts_of ps) →
        texts_of ((if b then p ∷ [] else []) ++ repeated (with_used_name p.1 is_passed) ps)
        ≡ (if b then p.1 ∷ [] else []) ++ again (with_used_name p.1 is_passed) (texts_of ps)
    by true so = ap (λ l. p.1 ∷ l) so
    by false so = so

-- the normal form of the part in the document is that part of the normal form

abbrev kept_plains : Bool → Plains → Plains
kept_plains true ps = ps
kept_plains false ps = no_plains

abbrev plains_part : Plains → Plains
plains_part no_plains = no_plains
plains_part (plain (words text) ps) = plain (words text) (plains_part ps)
plains_part (plain (branch name attrs kids) ps) =
    plain (branch name attrs (kept_plains (keeps false name) (plains_part kids))) (plains_part ps)

abbrev plain_part : Plain → Plain
plain_part (words text) = words text
plain_part (branch name attrs kids) =
    branch name attrs (kept_plains (keeps false name) (plains_part kids))

part_words : (s : List ℕ) (ps : Plains) → plains_part (put_words s ps) ≡ put_words s (plains_part ps)
part_words [] ps = refl
part_words (c ∷ cs) no_plains = refl
part_words (c ∷ cs) (plain (words text) ps) = refl
part_words (c ∷ cs) (plain (branch name attrs kids) ps) = refl

kept_normal : (b : Bool) (ns : NodesView) (ps : Plains) → nodes_normal ns ≡ ps →
    nodes_normal (kept b ns) ≡ kept_plains b ps
unfolding nodes_normal
kept_normal true ns ps is = is
kept_normal false ns ps is = refl

part_normal : (ns : NodesView) → nodes_normal (nodes_part false ns) ≡ plains_part (nodes_normal ns)
unfolding nodes_normal nodes_part node_part
part_normal none = refl
part_normal (node (tag_node t) ns) = part_normal ns
part_normal (node (text_node s span) ns) =
    ap (put_words s) (part_normal ns) ∙ sym (part_words s (nodes_normal ns))
part_normal (node (element_node h kids) ns) =
    rw (
      kept_normal (keeps false h.name) (nodes_part false kids) _ (part_normal kids),
      part_normal ns,
    ) refl
part_normal (node (frame_node f) ns) = part_normal ns

document_normal : (e : ElementView) → element_normal (in_document e) ≡ plain_part (element_normal e)
document_normal e =
    ap (branch e.0.name e.0.attrs)
    (kept_normal (keeps false e.0.name) (nodes_part false e.1) (plains_part (nodes_normal e.1))
    (part_normal e.1))

same_parts : (e f : ElementView) → element_normal e ≡ element_normal f →
    element_normal (in_document e) ≡ element_normal (in_document f)
same_parts e f same = document_normal e ∙ (ap plain_part same ∙ sym (document_normal f))

-- so is its base

abbrev plains_base : Plains → Option (List ℕ)
plains_base no_plains = None
plains_base (plain (words text) ps) = plains_base ps
plains_base (plain (branch name attrs kids) ps) = or_else
    (or_else (own_base name attrs) (if keeps false name then plains_base kids else None))
    (plains_base ps)

abbrev plain_base : Plain → Option (List ℕ)
plain_base (words text) = None
plain_base (branch name attrs kids) =
    or_else (own_base name attrs) (if keeps false name then plains_base kids else None)

words_have_no_base : (s : List ℕ) (ps : Plains) → plains_base (put_words s ps) ≡ plains_base ps
words_have_no_base [] ps = refl
words_have_no_base (c ∷ cs) no_plains = refl
words_have_no_base (c ∷ cs) (plain (words text) ps) = refl
words_have_no_base (c ∷ cs) (plain (branch name attrs kids) ps) = refl

normal_base : (ns : NodesView) → nodes_base ns ≡ plains_base (nodes_normal ns)
unfolding nodes_normal nodes_base node_base
normal_base none = refl
normal_base (node (tag_node t) ns) = normal_base ns
normal_base (node (text_node s span) ns) =
    normal_base ns ∙ sym (words_have_no_base s (nodes_normal ns))
normal_base (node (element_node h kids) ns) = rw (normal_base kids, normal_base ns) refl
normal_base (node (frame_node f) ns) = normal_base ns

base_in_normal : (e : ElementView) → base_of e ≡ plain_base (element_normal e)
unfolding node_base
base_in_normal e =
    ap (λ base. or_else (own_base e.0.name e.0.attrs) (if keeps false e.0.name then base else None))
    (normal_base e.1)

same_base : (e f : ElementView) → element_normal e ≡ element_normal f →
    base_is_elsewhere e ≡ base_is_elsewhere f
same_base e f same =
    ap leads_away (base_in_normal e ∙ (ap plain_base same ∙ sym (base_in_normal f)))

-- the fragments that don't lead in a document, unless it has a base
abbrev lost_in : (base : Bool) → ElementView → List Name
lost_in base e = if base then []
    else lost (stands_in (element_texts places e)) (element_texts fragments e)

dead_texts : (e : ElementView) →
    texts_of (dead_fragments e) ≡ lost_in (base_is_elsewhere e) (in_document e)
dead_texts e = by (base_is_elsewhere e)
  where
    by : (b : Bool) → texts_of (if b then []
        else dead_among (stands_in (document_places e)) (fragment_links e))
        ≡ lost_in b (in_document e)
    by true = refl
    by false =
        lost_are_dead (stands_in (document_places e)) (fragment_links e)
        ∙ (ap (λ names. lost (stands_in names) (texts_of (fragment_links e)))
        (places_stand (in_document e))
        ∙ ap (lost (stands_in (element_texts places (in_document e))))
        (gathered fragments (in_document e)))

repeated_texts : (e : ElementView) →
    texts_of (repeated (stands_in []) (placed_ids e))
    ≡ again (stands_in []) (element_texts ids (in_document e))
repeated_texts e =
    again_are_repeated (stands_in []) (placed_ids e)
    ∙ ap (again (stands_in [])) (gathered ids (in_document e))

pub normal_forms_agree : NormalFormsAgree
normal_forms_agree e f e_free f_free same =
    let as' : (kind : TextKind) → element_texts kind (in_document e)
    ≡ element_texts kind (in_document f) =
    λ kind. same_texts kind (in_document e) (in_document f) (document_frame_free e e_free)
    (document_frame_free f f_free) (same_parts e f same) in
    let lost_same = ap (λ names. lost (stands_in names) (element_texts fragments (in_document e)))
    (as' places)
    ∙ ap (lost (stands_in (element_texts places (in_document f)))) (as' fragments) in
    record {
      dead = dead_texts e
          ∙ (ap (λ base. lost_in base (in_document e)) (same_base e f same)
          ∙ (ap (λ l. if base_is_elsewhere f then [] else l) lost_same ∙ sym (dead_texts f)));
      repeated = repeated_texts e
          ∙ (ap (again (stands_in [])) (as' ids) ∙ sym (repeated_texts f));
    }
