use Rattle.std.proofs.Common.{◌≡◌, ◌++◌, ◌∷◌, true, ap, ◌∙◌, refl, string_bytes}
use Rattle.serde_json.specs.{View.{items_of}, Written.{compact_text, items_text}}
use Rattle.html_page_findings.specs.PlacedTexts.{Placed}
use Rattle.html_dom_tree.specs.Views.{text_view}
use Rattle.typst_html_ffi.proofs.Pages.{one_more_item, text_written}
use Rattle.typst_html_ffi.specs.{FindingLists.{finding, finding_data, findings_behind, where_behind}, PageSteps.{place_in, text_with}}
use Rattle.typst_html_ffi.proofs.lists.FindingListTextSink.take.Goals as goal

pub returns : goal.returns
returns c rest =
    let list = c.args.self.now in
    let place_of = place_in list.page in
    let name = string_bytes list.name in
    let path = c.args.path.now in
    let here : Placed = (path, text_view c.args.text) in
    let mid = string_bytes c.push_comma_if.new.text in
    let new = string_bytes c.push_finding.new.text in
    let found : finding_data c.deref.result.now c.deref-2.result.now
    (where_behind c.deref-3.result.now path c.place_of-place.result)
    ≡ finding place_of name list.previous.items here =
    rw (
      c.deref.ensures,
      c.deref-2.ensures,
      c.deref-3.ensures.value,
      c.place_of-place.ensures.place,
      text_written c.args.text,
    ) refl in
    let after = place_in c.place_of-place.new.self in
    ap (λ previous. new ++ items_text true (items_of (findings_behind after name previous rest)))
    (c.in_ok-self.ensures.items_if_clones_equal (λ x y is. is))
    ∙ (ap (λ places. new ++ items_text true (items_of (findings_behind places name path rest)))
    c.place_of-place.ensures.kept
    ∙ one_more_item list.later (finding place_of name list.previous.items here)
    (findings_behind place_of name path rest)
    (text_with list (here ∷ rest)) (string_bytes list.text) mid new refl c.in_ok-push_comma_if.ensures
    (c.in_ok-push_finding.ensures ∙ ap (λ d. mid ++ compact_text d) found))
