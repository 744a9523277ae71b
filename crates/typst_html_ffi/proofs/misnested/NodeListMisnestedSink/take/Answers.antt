use Rattle.std.proofs.Common.{◌≡◌, ◌++◌, ◌∷◌, true, ap, ◌∙◌, refl, string_bytes}
use Rattle.serde_json.specs.{View.{items_of}, Written.{compact_text, items_text}}
use Rattle.html_page_nesting.specs.Misnested.{Finding}
use Rattle.html_page_read.specs.PlaceViews.{text_of}
use Rattle.typst_html_ffi.proofs.{Pages.{one_more_item}, TextPieces.{appended}}
use Rattle.typst_html_ffi.specs.{LongTexts.{text_bytes}, MisnestedNodes.{misnested_behind, misnested_node, node_data}}
use Rattle.typst_html_ffi.specs.PageSteps.{text_with_nodes}
use Rattle.typst_html_ffi.proofs.misnested.NodeListMisnestedSink.take.Goals as goal

pub returns : goal.returns
returns c rest =
    let list = c.args.self.now in
    let page = text_of list.places in
    let path = c.args.path.now in
    let here : Finding = record { path = path; span = c.args.span.0; why = c.args.why } in
    let start = c.break_off.new.self in
    let mid = record start { last = c.push_comma_if.new.text } in
    let new = text_bytes (record start { last = c.push_node.new.text }) in
    let node : node_data c.deref.result.now path c.at-place.result c.args.why
    ≡ misnested_node page list.previous.items here =
    rw (c.deref.ensures.value, c.at-place.ensures.place) refl in
    let after = text_of c.at-place.new.self in
    ap (λ previous. new ++ items_text true (items_of (misnested_behind after previous rest)))
    (c.in_ok-self.ensures.items_if_clones_equal (λ x y is. is))
    ∙ (ap (λ text. new ++ items_text true (items_of (misnested_behind text path rest)))
    c.at-place.ensures.text
    ∙ one_more_item list.later (misnested_node page list.previous.items here)
    (misnested_behind page path rest) (text_with_nodes list (here ∷ rest)) (text_bytes start)
    (text_bytes mid) new
    (ap (λ bytes. bytes ++ items_text list.later (items_of
    (misnested_behind page list.previous.items (here ∷ rest)))) c.in_ok-break_off.ensures)
    (appended start mid.last _ c.in_ok-push_comma_if.ensures)
    (appended mid c.push_node.new.text _
    (c.in_ok-push_node.ensures ∙ ap (λ d. string_bytes mid.last ++ compact_text d) node)))
