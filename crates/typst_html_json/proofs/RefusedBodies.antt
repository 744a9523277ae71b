-- What was read of the items, the footnotes and the head of a document.
use Rattle.std.{proofs.Common.{◌≡◌, ℕ, List, ◌++◌, Option, None, Some, Ok, refl, ap, ◌∙◌}, specs.Prelude.{IsOkAnd}}
use Rattle.html_dom_tree.specs.{Tree.{NodesView}, declared.span.Span.{Span}}
use Rattle.html_flow_convert.specs.Items.{ItemsView}
use Rattle.typst_html_json.proofs.Readings.{first_of_more, refused_whole}
use Rattle.typst_html_json.specs.{LeftForms.{Left, from_part}, Marks.{at_start}, NameRefusals.{Refusal, items_refusals, all_name_refusals}}
use Rattle.typst_html_json.specs.{Reading.{IsRead, IsMissing, first_of, mark}, Refusals.{IsFirst}}
use Rattle.typst_html_json.specs.Spelled as tree
use Rattle.typst_html_json.specs.{SpelledDocuments.{Spelling, DocumentPartsView, spelling_from, names_refusals}, SpelledItems.{list_at}}
use Rattle.typst_html_json.specs.{Spelling.{IsSpellingFault}, declared.fault.Fault.{Fault}}
use Rattle.typst_html_json.specs.declared.fault.Fault.TheVariants.{OutOfMemory, BadInput, Refused}
use Rattle.typst_html_json.specs.declared.{input_forms.Forms.TheVariants.{Document}, reader.Reader.{Reader}}

-- the items, the footnotes and the head were read, and a name in them was refused
pub refused_bodies : (parts : DocumentPartsView) (made others : ItemsView) (nodes : NodesView)
    (s t u v : Reader) (code : ℕ) (span : Span)
    → mark s ≡ at_start → s.refused ≡ None → v.refused ≡ Some (code, span)
    → IsRead items_refusals made (list_at Document parts.items (mark s)) s t
    → IsRead items_refusals others (list_at Document parts.footnotes (mark t)) t u
    → IsRead all_name_refusals nodes (tree.list_at parts.head (mark u)) u v
    → IsOkAnd (spelling_from parts) (λ b. IsFirst (Refused code span) (names_refusals b))
refused_bodies parts made others nodes s t u v code span first clear is a b c =
    let whole : Spelling = record {
      info = parts.info;
      items = a.whole;
      footnotes = b.whole;
      head = c.whole;
    } in
    let bodies = items_refusals a.whole ++ items_refusals b.whole in
    let both : u.refused ≡ first_of s.refused bodies =
    b.noted ∙ ap (λ o. first_of o (items_refusals b.whole)) a.noted
    ∙ first_of_more s.refused (items_refusals a.whole) (items_refusals b.whole) in
    let r : IsRead {B = Spelling} names_refusals whole (Ok (whole, mark v)) s v = record {
      whole = whole;
      spelled = refl;
      noted =
          c.noted ∙ ap (λ o. first_of o (all_name_refusals c.whole)) both
          ∙ first_of_more s.refused bodies (all_name_refusals c.whole);
      same = λ h. refl;
    } in
    let spelled : list_at Document parts.items at_start ≡ Ok (a.whole, mark t) = rw (← first) a.spelled in
    rw (spelled, b.spelled, c.spelled)
    (refused_whole names_refusals whole (Ok (whole, mark v)) s v code span clear is r)

pub missing_refused : {A B : Type 0} (refusals : B → List Refusal) (made : A → Left B)
    (wanted : Option A) (f : Fault) → IsMissing wanted f
    → IsSpellingFault refusals (from_part 0 made wanted) f
missing_refused refusals made wanted OutOfMemory h = tt
missing_refused refusals made wanted (BadInput place) h = rw (h.0, h.1) refl
missing_refused refusals made wanted (Refused number span) h = absurd h
