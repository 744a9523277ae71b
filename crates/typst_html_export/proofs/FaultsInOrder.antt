-- The faults of writing come after those of making a document, and these after those of its items.
use Rattle.std.proofs.Common.{◌≡◌, ℕ, List, [], ◌∷◌, ◌++◌, map, ap, subst, Result, Ok, Err, String, Global}
use Rattle.html_dom_tree.specs.{Tree.{NodesView}, Views.{text_view}}
use Rattle.html_dom_document.specs.{Documents.{DocumentView, document_root}, Views.{document_view}}
use Rattle.html_dom_document.specs.declared.document.HtmlDocument.{HtmlDocument}
use Rattle.typst_html_encode.specs.ExportFaults.{BeginsWith, IsFirst}
use Rattle.typst_html_encode.specs.ExportFaults as writing
use Rattle.typst_html_encode.specs.{Endings.{Gives}, FaultViews.{ExportFaultView, export_fault_view, IsFirstView}, FrameWriters.{Frames}}
use Rattle.typst_html_encode.specs.{Text.{document_text}, declared.fault.ExportFault.{ExportFault}}
use Rattle.typst_html_encode.specs.declared.options.HtmlOptions.{HtmlOptions}
use Rattle.typst_html_encode.specs.declared.fault.ExportFault.TheVariants as fault
use Rattle.html_flow_convert.specs.{Depth.{items_too_deep}, Items.{ItemsView}}
use Rattle.typst_html_export.proofs.Firsts.{first_after_none, none_after_none}
use Rattle.typst_html_export.specs.Assembled.{assembly_faults, depth_faults, items_document_faults, document_nodes}
use Rattle.typst_html_export.specs.{Assembles.{GivesDocument}, Exported.{root_faults}}

abbrev views : List ExportFault → List ExportFaultView
views = map export_fault_view

abbrev seen : {f : ExportFault} {fs : List ExportFault} → BeginsWith f fs
    → (rest : List ExportFaultView) × (views fs ≡ export_fault_view f ∷ rest)
seen h = (views h.0, ap views h.1)

first_seen : (e : ExportFault) (fs : List ExportFault) → IsFirst e fs → IsFirstView e (views fs)
first_seen fault.OutOfMemory fs h = tt
first_seen e fs h = seen h

first_written : (e : ExportFault) (made : List ExportFaultView) (fs : List ExportFault)
    → made ≡ [] → IsFirst e fs → IsFirstView e (made ++ views fs)
first_written e made fs none h = first_after_none e made (views fs) none (first_seen e fs h)

-- what is answered for a document that was made of items
written : (r : Result (String Global) ExportFault) (wanted : List ℕ) (made : List ExportFaultView)
    (fs : List ExportFault) → made ≡ [] → Gives r wanted fs
    → GivesDocument text_view r wanted (made ++ views fs)
written (Ok s) wanted made fs none m =
    record { made = m.made; clean = none_after_none made (views fs) none (ap views m.clean); fault = tt }
written (Err e) wanted made fs none m =
    record { made = tt; clean = tt; fault = first_written e made fs none m.fault }

pub exported : (frames : Frames) (options : HtmlOptions) (limit : ℕ) (items notes : ItemsView)
    (d expected : DocumentView) (r : Result (String Global) ExportFault) → d ≡ expected →
    items_document_faults limit items notes ≡ []
    → Gives r (document_text frames options (document_root d))
    (writing.document_faults frames options (document_root d))
    → GivesDocument text_view r (document_text frames options (document_root expected))
    (items_document_faults limit items notes ++ root_faults frames options (document_root expected))
exported frames options limit items notes d expected r is none m =
    subst (λ v. GivesDocument text_view r (document_text frames options (document_root v))
    (items_document_faults limit items notes ++ root_faults frames options (document_root v))) is
    (written r (document_text frames options (document_root d)) (items_document_faults limit items notes)
    (writing.document_faults frames options (document_root d)) none m)

-- what is answered for the nodes of items, none of which stands too deep
module _ {A B : Type 0} (view : A → B) where
  around_nodes : (r : Result A ExportFault) (value : B) (deep fs : List ExportFaultView) →
      deep ≡ [] → GivesDocument view r value fs → GivesDocument view r value (deep ++ fs)
  around_nodes (Ok made) value deep fs none m =
      record { made = m.made; clean = none_after_none deep fs none m.clean; fault = tt }
  around_nodes (Err e) value deep fs none m =
      record { made = tt; clean = tt; fault = first_after_none e deep fs none m.fault }

  pub around_items : (limit : ℕ) (around : NodesView → B) (faults : NodesView → List ExportFaultView)
      (items : ItemsView) (content : NodesView) (r : Result A ExportFault) →
      content ≡ document_nodes items → depth_faults (items_too_deep 0 limit items) ≡ [] →
      GivesDocument view r (around content) (faults content) →
      GivesDocument view r (around (document_nodes items))
      (depth_faults (items_too_deep 0 limit items) ++ faults (document_nodes items))
  around_items limit around faults items content r is none m =
      around_nodes r (around (document_nodes items)) (depth_faults (items_too_deep 0 limit items))
      (faults (document_nodes items)) none
      (subst (λ ns. GivesDocument view r (around ns) (faults ns)) is m)

-- around nodes of items and of footnotes a document is made
pub around_both : (limit : ℕ) (around : NodesView → DocumentView) (items notes : ItemsView)
    (content : NodesView) (r : Result HtmlDocument ExportFault) → content ≡ document_nodes items →
    depth_faults (items_too_deep 0 limit items) ≡ [] →
    GivesDocument document_view r (around content) (assembly_faults limit content notes) →
    GivesDocument document_view r (around (document_nodes items))
    (items_document_faults limit items notes)
around_both limit around items notes =
    around_items document_view limit around (λ ns. assembly_faults limit ns notes) items
