use Rattle.std.{proofs.Common.{refl}, specs.Fmt.{digits}}
use Rattle.html_names_core.specs.{Kinds.{is_void, is_foreign_self_closing, is_raw, is_escapable_raw}, Names.{stands_in}}
use Rattle.html_text.specs.ClosingTags.{is_tag_end}
use Rattle.typst_html_encode.specs.Reader.{drops_feed}
use Rattle.typst_html_encode.proofs.laws.reads_exact_syntax.Goals as goal

pub returns : goal.returns
unfolding is_void is_raw is_escapable_raw is_foreign_self_closing stands_in drops_feed is_tag_end digits
returns c = record {
  quotes = refl;
  case = refl;
  no_slash = refl;
  slash = refl;
  void_end = refl;
  two_roots = refl;
  text_after = refl;
  text_before = refl;
  left_open = refl;
  two_spaces = refl;
  no_element = refl;
  no_doctype = refl;
  blanks = refl;
}
