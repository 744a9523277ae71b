use Rattle.std.proofs.{Common.{◌≡◌, ◌++◌, codes, ap, ◌∙◌, Ok, Err}, lemmas.Result.{err_from_is_err_and}}
use Rattle.html_dom_tree.specs.Views.{text_view}
use Rattle.html_dom_flat.specs.FlatTrees.{tree_nodes}
use Rattle.typst_html_encode.proofs.{ReadingBack.{either_reads_back}, Runs.{four_joined}, Walk.{root_writes, root_named}}
use Rattle.typst_html_encode.specs.{Layout.{indent_where, feed_where}, Text.{root_margin, element_text, document_text}}
use Rattle.typst_html_encode.proofs.export.tree_html.Goals as goal

pub returns : goal.returns
returns g c = λ root is.
    let frames = g.F.FrameWriter.drawing c.args.frames.now in
    let options = c.args.options.now in
    let margin = root_margin options in
    let nodes = tree_nodes c.args.tree.now in
    let first = codes "<!DOCTYPE html>" in
    let before = indent_where options.pretty 0 in
    let element = element_text frames margin root in
    let last = feed_where options.pretty in
    let wrote = root_writes frames margin root.0 root.1 nodes is (Ok tt) _ _
    c.in_ok-write_tree.ensures.writes in
    let named = root_named frames margin root.0 root.1 nodes is c.in_ok-write_tree.ensures.named in
    let made : text_view c.into_string.result ≡ document_text frames options root
    = c.into_string.ensures
    ∙ (c.in_ok-push_feed_if.ensures
    ∙ (ap (λ o. o ++ last) (wrote.appended
    ∙ ap (λ o. o ++ element) (c.in_ok-push_indent_if.ensures
    ∙ ap (λ o. o ++ before) (c.in_ok-push_ascii.ensures.added ∙ ap (λ o. o ++ first) c.new-out.ensures)))
    ∙ four_joined first before element last)) in
    let back = either_reads_back frames options root (text_view c.into_string.result) made named
    wrote.clean in
    record {
      makes = record { made = made; clean = wrote.clean; fault = tt };
      reads_back = back.0;
      reads_indented = back.1;
    }

pub returns-in_err-write_tree : goal.returns-in_err-write_tree
returns-in_err-write_tree g c = λ root is.
    let refused = root_writes (g.F.FrameWriter.drawing c.args.frames.now)
    (root_margin c.args.options.now) root.0 root.1 (tree_nodes c.args.tree.now) is
    (Err c.in_err-write_tree.field-0.0) _ _ c.in_err-write_tree.ensures.writes in
    let failed = err_from_is_err_and c.from_residual-in_err-write_tree.result
    c.from_residual-in_err-write_tree.ensures.1 in
    record {
      makes = record {
        made = rw failed.1 tt;
        clean = rw failed.1 tt;
        fault = rw (failed.1, failed.2) refused.fault;
      };
      reads_back = λ mode frameless. rw failed.1 tt;
      reads_indented = λ mode frameless ended_well. rw failed.1 tt;
    }
