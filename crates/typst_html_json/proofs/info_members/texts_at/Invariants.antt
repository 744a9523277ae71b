use Rattle.std.{proofs.Common.{◌≡◌, length}, specs.Vec.Iter.{into_iter_items, into_iter_len}}
use Rattle.serde_json.specs.View.{view, items_view}
use Rattle.html_names_core.specs.Texts.{texts_view}
use Rattle.typst_html_json.specs.SpelledDocuments.{texts_at, with_texts}
use Rattle.typst_html_json.proofs.info_members.texts_at.Given as goal

abbrev pub invariant-loop-value : goal.invariant-loop-value
invariant-loop-value l =
    let left = into_iter_items l.value-iterator in
    record {
      read : with_texts (texts_view l.texts.items) (items_view left) ≡ texts_at (view l.fn.value);
      long : into_iter_len l.value-iterator ≡ length left;
    }
