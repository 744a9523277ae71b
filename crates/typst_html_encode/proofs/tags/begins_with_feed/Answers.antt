use Rattle.html_dom_flat.proofs.FirstSiblings.{fewer_after}
use Rattle.typst_html_encode.proofs.tags.begins_with_feed.Goals as goal

pub loop-child-smaller : goal.loop-child-smaller
loop-child-smaller c = fewer_after c.in-Some.ensures

pub loop-child-smaller-in-Tag : goal.loop-child-smaller-in-Tag
loop-child-smaller-in-Tag c = fewer_after c.in-Some.ensures
