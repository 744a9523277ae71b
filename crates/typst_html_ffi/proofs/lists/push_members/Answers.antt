use Rattle.std.proofs.Common.{refl, true, codes, ◌∙◌}
use Rattle.serde_json.specs.Data.{number, unsigned, member, no_members}
use Rattle.typst_html_ffi.{proofs.Pages.{one_more_member}, specs.FindingLists.{path_data, place_members}}
use Rattle.typst_html_ffi.proofs.lists.push_members.Goals as goal

pub returns : goal.returns
returns c =
    let keeps = number (unsigned c.args.keeps) in
    let rest = path_data c.args.rest.now in
    let place = place_members c.args.place in
    let offset = number (unsigned c.args.place.offset) in
    let line = number (unsigned c.args.place.line) in
    let column = number (unsigned c.args.place.column) in
    let last = member (codes "column") column no_members in
    let lines = member (codes "line") line last in
    let path = member (codes "path") rest place in
    c.in_ok-push_str.ensures.bytes
    ∙ one_more_member true (codes "column") column no_members _ _ _ _
    (one_more_member true (codes "line") line last _ _ _ _
    (one_more_member true (codes "offset") offset lines _ _ _ _
    (one_more_member true (codes "path") rest place _ _ _ _
    (one_more_member true (codes "keeps") keeps path _ _ _ _ refl
    refl c.in_ok-push_member.ensures)
    c.in_ok-push_key.ensures c.in_ok-push_path.ensures)
    refl c.in_ok-push_member-2.ensures)
    refl c.in_ok-push_member-3.ensures)
    refl c.in_ok-push_member-4.ensures
