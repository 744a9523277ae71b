-- Where a tree stays, both readers read the same.
use Rattle.std.{proofs.Common.{ap, sym, ◌∙◌}, specs.Prelude.{Some}}
use Rattle.typst_html_encode.proofs.ReadingBack.{plain_reads_back}
use Rattle.typst_html_nesting_laws.specs.TreesStay.{ReadersAgree, TreesStay}

pub readers_agree : TreesStay → ReadersAgree
readers_agree stay frames limit e kept deep =
    let page = stay frames limit e kept deep in
    record {
      root = page.root;
      page = page.read;
      same = plain_reads_back frames e kept.named kept.frame_free kept.clean
          ∙ ap Some (sym page.same);
    }
