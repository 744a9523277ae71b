use Rattle.std.proofs.Common.{false, ◌∙◌}
use Rattle.serde_json.specs.Data.{string, member}
use Rattle.typst_html_ffi.{proofs.Pages.{no_member_yet, one_more_member}, specs.FindingLists.{where_behind}}
use Rattle.typst_html_ffi.proofs.lists.push_finding.Goals as goal

pub returns : goal.returns
returns c =
    let found = string c.args.found.now in
    let behind = where_behind c.args.previous.now c.args.path.now c.args.place in
    c.in_ok-push_where.ensures
    ∙ one_more_member false c.args.name.now found behind _ _ _ _
    (no_member_yet (member c.args.name.now found behind) _ _ c.in_ok-push_str.ensures.bytes)
    c.in_ok-push_key.ensures c.in_ok-push_string.ensures
