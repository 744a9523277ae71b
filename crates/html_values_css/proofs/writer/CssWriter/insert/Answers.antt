use Rattle.std.proofs.{Common.{string_bytes}, lemmas.Str.{IsCharBoundary-from_take, IsUtf8-had}}
use Rattle.html_values_css.proofs.writer.CssWriter.insert.Goals as goal

pub insert_str-requires : goal.insert_str-requires
insert_str-requires g c =
    let seam = IsCharBoundary-from_take (string_bytes c.args.self.now.text) c.args.at
    (rw c.as_str.ensures.value at c.as_str.utf8) c.requires.within
    (IsUtf8-had _ c.requires.seam) in
    (seam.0, λ _. seam.1)
