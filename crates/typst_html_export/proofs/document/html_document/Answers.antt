use Rattle.typst_html_export.proofs.document.html_document.Goals as goal

pub returns : goal.returns
returns c =
    let given = c.html_document_with_head.ensures in
    record {
      made = given.made;
      anchors = given.anchors;
      shown = given.shown;
      serves = given.serves;
      unseen = given.unseen;
      distinct = given.distinct;
      plain = given.plain;
      spaces = given.spaces tt;
    }
