-- The program's parts and states as those of the definitions.
use Rattle.std.specs.Prelude.{Bool, List, map, reverse}
use Rattle.html_dom_tree.specs.Views.{text_view}
use Rattle.html_page_text.specs.Gathering as gathering
use Rattle.html_page_text.specs.Progress as progress
use Rattle.html_page_text.specs.{Parts.{Part, text_part, object_part, line_part, edge_part}, declared.page.GatheredPage.{GatheredPage}}
use Rattle.html_page_text.specs.declared.progress.{Open.{Open}, Progress.{Progress}}
use Rattle.html_page_text.specs.declared.seen.{Before.{Before}, Seen.{Seen}, Before.TheVariants.{Bare, Support, Blank}}
use Rattle.html_page_text.specs.declared.shown.{PageText.{PageText}, Shown.{Shown}, Shown.TheVariants.{Text, Object, LineBreak, Edge}}

-- a part, whose text is its characters
abbrev pub part_view : Shown → Part
part_view (Text text) = text_part (text_view text)
part_view (Object tag) = object_part tag
part_view LineBreak = line_part
part_view Edge = edge_part

abbrev pub parts_view : List Shown → List Part
parts_view ps = map part_view ps

abbrev pub page_text_view : PageText → List Part
page_text_view t = parts_view t.parts.items

abbrev pub page_view : GatheredPage → gathering.GatheredPage
page_view p = record { parts = parts_view p.parts.items; text = p.text; after_edge = p.after_edge }

abbrev pub before_view : Before → gathering.Before
before_view Bare = gathering.bare
before_view Support = gathering.support
before_view (Blank later) = gathering.blank later

abbrev pub seen_view : Seen → gathering.Seen
seen_view s = record { page = page_view s.page; before = before_view s.before }

abbrev pub open_view : Open → Bool × Bool
open_view o = (o.preserved, o.has_border)

abbrev pub progress_view : Progress → progress.Progress
progress_view p = record {
  seen = seen_view p.seen;
  preserved = p.preserved;
  opened = reverse (map open_view p.opened.items);
}
