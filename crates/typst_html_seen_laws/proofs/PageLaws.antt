-- What is shown of a page that was read, and of one without what is unseen.
use Rattle.std.{proofs.Common.{◌≡◌, true, [], Some, ap, sym, ◌∙◌}, specs.Prelude.{option_map, unwrap_or}}
use Rattle.html_dom_tree.specs.{PlainTree.{nodes_normal, element_normal}, Tree.{ElementView}}
use Rattle.html_dom_shown.{proofs.Bodies.{body_in_normal}, specs.SeenBodies.{seen_body, seen_tree}}
use Rattle.typst_html_read.proofs.ReadLaws.{read_is_normal}
use Rattle.typst_html_spaces.proofs.SeenBody.{body_is_seen, plain_tree_seen}
use Rattle.html_page_text.specs.{PageTexts.{page_pieces}, Unseen.{seen_element}}
use Rattle.typst_html_seen_laws.proofs.SeenNodes.{body_of_seen}
use Rattle.typst_html_seen_laws.specs.{AllSeen.{shows_all}, PageLaws.{ReadPagesAreSeen, UnseenPartsAreLeftOut}}

-- where all is seen, the body is that of the whole root
body_seen_whole : (root : ElementView) → shows_all root ≡ true →
    page_pieces root ≡ unwrap_or (seen_tree (Some (element_normal root))) []
body_seen_whole root all =
    ap (λ body. unwrap_or (seen_body body) []) (body_in_normal (seen_element root).1
    ∙ (ap (option_map nodes_normal) (body_of_seen root all) ∙ sym (body_in_normal root.1)))

pub read_pages_are_seen : ReadPagesAreSeen
read_pages_are_seen text root pieces is all seen =
    body_seen_whole root all
    ∙ (ap (λ tree. unwrap_or (seen_tree tree) []) (sym (read_is_normal text root is))
    ∙ ap (λ ps. unwrap_or ps []) seen)

pub unseen_parts_are_left_out : UnseenPartsAreLeftOut
unseen_parts_are_left_out frames options root body c is edged =
    body_is_seen frames options (seen_element root) body c is edged
    ∙ ap (λ ps. Some (unwrap_or ps [])) (sym (plain_tree_seen (seen_element root) body is))
