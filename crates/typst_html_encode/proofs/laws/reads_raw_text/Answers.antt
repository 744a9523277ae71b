use Rattle.std.{proofs.Common.{refl}, specs.Fmt.{digits}}
use Rattle.html_names_core.specs.{Kinds.{is_void, is_foreign_self_closing, is_raw, is_escapable_raw}, Names.{stands_in}}
use Rattle.html_text.specs.ClosingTags.{is_tag_end}
use Rattle.typst_html_encode.specs.Reader.{drops_feed}
use Rattle.typst_html_encode.proofs.laws.reads_raw_text.Goals as goal

pub returns : goal.returns
unfolding is_void is_raw is_escapable_raw is_foreign_self_closing stands_in drops_feed is_tag_end digits
returns c = record {
  script = refl;
  script_case = refl;
  title = refl;
  title_element = refl;
  pre = refl;
  feed_kept = refl;
  feed_dropped = refl;
}
