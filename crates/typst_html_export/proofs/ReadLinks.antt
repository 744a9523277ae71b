-- Links that lead in a tree lead where its text is read.
use Rattle.std.proofs.Common.{◌≡◌, ℕ, Bool, true, false, List, [], ◌++◌, All, Option, Some, refl, ap, sym, subst, ◌∙◌, Result, Ok, Err, IfOk, OnOk, String, Global}
use Rattle.html_dom_tree.specs.FrameFree.{ElementIsFrameFree, NodeIsFrameFree, NodesAreFrameFree}
use Rattle.html_dom_tree.specs.PlainTree.{Plain, nodes_normal, element_normal}
use Rattle.html_dom_tree.specs.{Tree.{tag_node, text_node, element_node, frame_node, NodesView, none, node, ElementView}, Views.{text_view}}
use Rattle.html_dom_document.specs.Documents.{DocumentView, document_root}
use Rattle.html_links.specs.{Indicated.{element_places, nodes_places, place_names}, TreeNames.{first_ids, shown_names, gathered_names}}
use Rattle.html_anchors.proofs.Consequences.{shown_first}
use Rattle.html_anchors.specs.{GivenLinks.{GivenLinksLead, LeadsAmong, document_given_links}, Links.{document_with_links}}
use Rattle.typst_html_encode.specs.Endings.{Gives}
use Rattle.typst_html_encode.specs.ExportFaults as writing
use Rattle.typst_html_encode.proofs.ReadIds.{layout_keeps_texts, past_words}
use Rattle.typst_html_encode.specs.{FrameWriters.{Frames}, Indented.{element_layout, ElementEndsWell}}
use Rattle.typst_html_encode.specs.{ReadIds.{ids_of, plains_texts, read_ids}, Reader.{read}, Text.{document_text}}
use Rattle.typst_html_encode.specs.declared.{fault.ExportFault.{ExportFault}, options.HtmlOptions.{HtmlOptions}}
use Rattle.typst_html_export.specs.ReadLinks.{GivenLinksLeadWhenRead, DocumentIsReadable, read_places}

normal_ids : (ns : NodesView) → plains_texts ids_of (nodes_normal ns) ≡ first_ids ns
unfolding plains_texts nodes_normal gathered_names
normal_ids none = refl
normal_ids (node (tag_node t) ns) = normal_ids ns
normal_ids (node (text_node s span) ns) = past_words ids_of s (nodes_normal ns) ∙ normal_ids ns
normal_ids (node (element_node h kids) ns) = rw (normal_ids kids, normal_ids ns) refl
normal_ids (node (frame_node f) ns) = normal_ids ns

normal_places : (ns : NodesView) → NodesAreFrameFree ns →
    plains_texts place_names (nodes_normal ns) ≡ nodes_places ns
unfolding plains_texts nodes_normal gathered_names NodesAreFrameFree NodeIsFrameFree
normal_places none free = refl
normal_places (node (tag_node t) ns) free = normal_places ns free.1
normal_places (node (text_node s span) ns) free =
    past_words place_names s (nodes_normal ns) ∙ normal_places ns free.1
normal_places (node (element_node h kids) ns) free =
    rw (normal_places kids free.0, normal_places ns free.1) refl
normal_places (node (frame_node f) ns) free = absurd free.0

-- what is read of a text has the ids and the places of the tree
record IsReadOf (root : ElementView) (read : Option Plain) : Type 0 where
  ids : read_ids read ≡ shown_names root.1
  places : read_places read ≡ element_places root

read_by : (frames : Frames) (root : ElementView) (options : HtmlOptions) (text : List ℕ)
    (pretty : Bool) → options.pretty ≡ pretty → ElementIsFrameFree root →
    writing.document_faults frames options root ≡ [] →
    (options.pretty ≡ false → read text ≡ Some (element_normal root)) →
    (options.pretty ≡ true → read text ≡ Some (element_normal (element_layout root))) →
    IsReadOf root (read text)
read_by frames root options text false is free clean plainly prettily =
    let own = place_names root.0.name root.0.attrs in
    record {
      ids = ap read_ids (plainly is) ∙ (normal_ids root.1 ∙ sym (shown_first root.1 free));
      places = ap read_places (plainly is)
          ∙ ap (λ names. own ++ names) (normal_places root.1 free);
    }
read_by frames root options text true is free clean plainly prettily =
    let own = place_names root.0.name root.0.attrs in
    record {
      ids = ap read_ids (prettily is)
          ∙ (layout_keeps_texts ids_of frames options root clean
          ∙ (normal_ids root.1 ∙ sym (shown_first root.1 free)));
      places = ap read_places (prettily is)
          ∙ ap (λ names. own ++ names) (layout_keeps_texts place_names frames options root clean
          ∙ normal_places root.1 free);
    }

-- so links that lead in a tree lead where it is read
pub links_lead_when_read : (frames : Frames) (options : HtmlOptions) (old new : DocumentView)
    (text : List ℕ) → ElementIsFrameFree (document_root new) →
    writing.document_faults frames options (document_root new) ≡ [] →
    (options.pretty ≡ false → read text ≡ Some (element_normal (document_root new))) →
    (options.pretty ≡ true →
    read text ≡ Some (element_normal (element_layout (document_root new)))) →
    GivenLinksLead old new → GivenLinksLeadWhenRead old new text
links_lead_when_read frames options old new text free clean plainly prettily lead =
    let root = document_root new in
    let anchor = new.introspector.anchor in
    let given = document_given_links old new in
    let same = read_by frames root options text options.pretty refl free clean plainly prettily in
    subst (λ places. All (LeadsAmong anchor places (read_ids (read text))) given) (sym same.places)
    (subst (λ ids. All (LeadsAmong anchor (element_places root) ids) given) (sym same.ids) lead)

-- what holds of a document that is made, and of the same once its links are resolved
pub holds_as : {A : Type 0} (P : DocumentView → DocumentView → Type 0) (r : Result A ExportFault)
    (d e l : DocumentView) → d ≡ l → e ≡ document_with_links d → P d e →
    OnOk r (P l (document_with_links l))
holds_as P (Ok a) d e l d_is e_is holds =
    subst (λ v. P v (document_with_links v)) d_is (subst (P d) e_is holds)
holds_as P (Err f) d e l d_is e_is holds = tt

-- and as they are read of the text that is answered
pub lead_when_read : (frames : Frames) (options : HtmlOptions)
    (r : Result (String Global) ExportFault) (d e l : DocumentView) → d ≡ l →
    e ≡ document_with_links d → GivenLinksLead d e →
    Gives r (document_text frames options (document_root e))
    (writing.document_faults frames options (document_root e)) →
    (options.pretty ≡ false → ElementIsFrameFree (document_root e) →
    IfOk r (λ t. read (text_view t) ≡ Some (element_normal (document_root e)))) →
    (options.pretty ≡ true → ElementIsFrameFree (document_root e) →
    ElementEndsWell true (document_root e) →
    IfOk r (λ t. read (text_view t) ≡ Some (element_normal (element_layout (document_root e))))) →
    DocumentIsReadable options (document_with_links l) →
    IfOk r (λ t. GivenLinksLeadWhenRead l (document_with_links l) (text_view t))
lead_when_read frames options (Err f) d e l d_is e_is lead makes plainly prettily can = tt
lead_when_read frames options (Ok t) d e l d_is e_is lead makes plainly prettily can =
    let is : e ≡ document_with_links l = e_is ∙ ap document_with_links d_is in
    let here : DocumentIsReadable options e = subst (DocumentIsReadable options) (sym is) can in
    let read_here : GivenLinksLeadWhenRead d e (text_view t) =
    links_lead_when_read frames options d e (text_view t) here.frame_free makes.clean
    (λ p. plainly p here.frame_free) (λ p. prettily p here.frame_free (here.ends_well p)) lead in
    subst (λ v. GivenLinksLeadWhenRead v (document_with_links v) (text_view t)) d_is
    (subst (λ v. GivenLinksLeadWhenRead d v (text_view t)) e_is read_here)
