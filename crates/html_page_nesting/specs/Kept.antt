-- The nodes that stay where they are, judged one at a time: what a cleaner asks, which takes away each
-- node that does not.
use Rattle.std.specs.Prelude.{ℕ, Bool, false, not, ◌&&◌, List, if◌then◌else◌, Option, Some, None, is_some}
use Rattle.html_dom_tree.specs.Tree.{Head, NodesView}
use Rattle.html_page_nesting.specs.NestingRules.{element_misnesting, is_too_deep, text_misnesting}
use Rattle.html_page_nesting.specs.Walks.{surroundings_in}
use Rattle.html_page_nesting.specs.declared.reading.Place.TheVariants as place
use Rattle.html_page_nesting.specs.declared.reading.Reading.TheVariants as reading
use Rattle.html_page_nesting.specs.declared.surroundings.{Open.{Open}, Parent.{Parent}, Surroundings.{Surroundings}}

-- the surroundings of the nodes in the `body` of a page
abbrev pub in_body : Surroundings
in_body = record {
  depth = 2;
  place = place.Body;
  reading = reading.AsHtml;
  parent = record {
    head = false;
    heading = false;
    implied = false;
    optgroup = false;
    option = false;
    rtc = false;
  };
  open_elements = record {
    paragraph = false;
    button = false;
    nobr = false;
    ruby = false;
    select = false;
    list_item = false;
    description = false;
    anchor = false;
    form = false;
    outer_select = false;
  };
}

abbrev pub keeps_text : Surroundings → List ℕ → Bool
keeps_text around text = not (is_some (text_misnesting text around))

-- whether an element is neither too deep nor misnested
abbrev pub keeps_element : Surroundings → Head → NodesView → Bool
keeps_element around h kids =
    not (is_too_deep around) && not (is_some (element_misnesting h kids around))

-- the surroundings of the content of an element, if it stays where it is
abbrev pub kept_inside : Surroundings → Head → NodesView → Option Surroundings
kept_inside around h kids =
    if keeps_element around h kids then Some (surroundings_in h around) else None
