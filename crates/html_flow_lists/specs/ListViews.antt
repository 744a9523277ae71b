-- The lists and the notes that the program's values stand for.
use Rattle.std.specs.Prelude.{List, map}
use Rattle.html_dom_tree.specs.Views.{optional_text_view}
use Rattle.html_flow_convert.specs.Views.{pairs_view}
use Rattle.html_flow_lists.specs.{ItemLists.{ListView}, Notes.{NoteView}, declared.item_list.ItemList.{ItemList}}
use Rattle.html_flow_lists.specs.declared.notes.{Note.{Note}, Notes.{Notes}}

abbrev pub list_view : ItemList → ListView
list_view l = record {
  items = pairs_view l.items.items;
  span = l.span.0;
  starts_spaced = l.starts_spaced;
  ending = l.ending;
}

abbrev pub note_view : Note → NoteView
note_view n = record {
  key = optional_text_view n.key;
  content = pairs_view n.content.items;
  span = n.span.0;
}

abbrev pub notes_view : Notes → List NoteView
notes_view n = map note_view n.notes.items
