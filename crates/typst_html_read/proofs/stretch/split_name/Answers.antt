use Rattle.std.{proofs.Common.{◌≡◌, ◌∙◌, ◌++◌, ap, chars, sym}, proofs.lemmas.Str.{chars-IsAscii}, specs.List.{list_all}}
use Rattle.html_names_core.specs.Characters.{is_tag_char}
use Rattle.html_text.proofs.{Fronts.{tag_ascii}, TagNames.{all_listed}}
use Rattle.typst_html_read.proofs.stretch.split_name.Goals as goal

pub returns : goal.returns
returns c =
    let front = c.cut_tag_name.result.0.now in
    let cut = c.cut_tag_name.ensures in
    let own : chars front ≡ front = chars-IsAscii front (tag_ascii front cut.are) in
    record {
      parts = cut.begins.characters
          ∙ ap (λ l. l ++ chars c.cut_tag_name.result.1.now) (sym own);
      within = ap (list_all is_tag_char) own ∙ all_listed is_tag_char front cut.are;
    }
