use Rattle.std.proofs.Common.{◌≡◌, ◌++◌, string_bytes, map, drop}
use Rattle.serde_json.specs.{Data.{number, unsigned}, View.{items_of}, Written.{compact_text, items_text}}
use Rattle.typst_html_ffi.specs.FindingLists.{path_data}
use Rattle.typst_html_ffi.proofs.lists.push_path.Given as goal

abbrev pub invariant-loop-index : goal.invariant-loop-index
invariant-loop-index l =
    let left = map (λ index. number (unsigned index)) (drop l.index-index l.path) in
    string_bytes l.text ++ items_text l.later (items_of left)
    ≡ string_bytes l.fn.text ++ compact_text (path_data l.path)
