use Rattle.typst_html_encode.proofs.PassedBytes.{passes_front, stops_between}
use Rattle.typst_html_encode.proofs.stretch.past_passed.Goals as goal

pub split_front-requires : goal.split_front-requires
split_front-requires c =
    stops_between c.args.escaping c.way_of.result c.requires c.way_of.ensures

pub returns : goal.returns
returns c = passes_front c.args.escaping c.way_of.result c.args.text.now _ _ c.way_of.ensures
    c.split_front.ensures
