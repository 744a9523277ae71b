use Rattle.std.proofs.Common.{chars, sym, ap, ◌∙◌, Ok}
use Rattle.html_page_encoding.proofs.Texts.{no_utf8, utf8}
use Rattle.html_page_encoding.specs.declared.fault.EncodingFault.TheVariants.{NotText}
use Rattle.html_page_encoding.proofs.page.utf8_text.Goals as goal

pub returns-in-Ok : goal.returns-in-Ok
returns-in-Ok c = record {
  same = c.in-Ok.ensures.cases.0;
  made = utf8 c.args.page.now c.in-Ok.ensures.cases.1
      ∙ ap (λ text. Ok (chars text)) (sym c.in-Ok.ensures.cases.0);
  fault = tt;
  no_text = tt;
}

pub returns-in-Err : goal.returns-in-Err
returns-in-Err c = record {
  same = tt;
  made = tt;
  fault = ap NotText (c.valid_up_to-place.ensures ∙ c.in-Err.ensures.valid_len);
  no_text = no_utf8 c.args.page.now c.in-Err.ensures.cases.0;
}
