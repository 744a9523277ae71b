use Rattle.std.proofs.{Common.{◌≡◌, ap, subst, ◌∙◌}, lemmas.Result.{IfOk-weaker}}
use Rattle.std.specs.Prelude.{IfOk}
use Rattle.html_dom_tree.specs.Views.{element_view, nodes_view}
use Rattle.html_page_text.proofs.{Apart.{parts_stand_apart}, Bodies.{body_seen}}
use Rattle.html_page_text.specs.{Gathering.{final}, PageTexts.{page_parts}, PageViews.{page_text_view, progress_view}}
use Rattle.html_page_text.specs.{Parts.{stand_apart}, Progress.{progress_past}, Unseen.{seen_element}}
use Rattle.html_page_text.proofs.walk.page_text.Goals as goal

pub returns : goal.returns
returns c =
    let root = element_view c.args.root.now in
    let body = nodes_view c.shown_nodes.result.now in
    let last = progress_view c.pass_nodes.new.progress in
    let whole : final last.seen ≡ page_parts root =
    body_seen (seen_element root).1 body last c.shown_nodes.ensures
    (c.in_ok-pass_nodes.ensures ∙ ap (λ p. progress_past p body) c.new-progress.ensures) in
    let agrees : IfOk c.into_page_text.result (λ t. page_text_view t ≡ page_parts root) =
    subst (λ x. IfOk c.into_page_text.result (λ t. page_text_view t ≡ x)) whole
    c.into_page_text.ensures in
    record {
      parts = agrees;
      apart = IfOk-weaker c.into_page_text.result _ _
          (λ t is. ap stand_apart is ∙ parts_stand_apart root) agrees;
    }
