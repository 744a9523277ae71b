use Rattle.std.proofs.Common.{◌≡◌, Some, chars, sym, ap, ◌∙◌}
use Rattle.std.proofs.lemmas.{Bool.{not-false}, Option.{IfSome_then}, Str.{chars-IsAscii}}
use Rattle.html_names_core.proofs.Basics.{bytes_eq-same}
use Rattle.html_text.proofs.Fronts.{name_ascii}
use Rattle.html_page_read.proofs.Fronts.{begins_on}
use Rattle.html_page_read.proofs.reader.Reader.past_own_end.Goals as goal

pub returns : goal.returns
returns c =
    let name = c.cut_name.result.0.now in
    let are = c.cut_name.ensures.are in
    let same : name ≡ c.resolve.result.now = bytes_eq-same name c.resolve.result.now
    (not-false _ (sym c.ne.ensures ∙ c.if-ne.false)) in
    let tag : c.in_ok-tag.tag.now ≡ name =
    sym c.resolve.ensures.text ∙ (ap chars (sym same) ∙ chars-IsAscii name (name_ascii name are)) in
    IfSome_then c.strip.result c.strip.ensures (λ rest h. record {
      name = name;
      current = sym c.in_ok-tag.ensures ∙ ap Some tag;
      taken = sym c.takes_own_end.ensures ∙ c.if-not-takes_own_end.false;
      small = sym c.begins_small.ensures ∙ c.if-not-begins_small.false;
      are = are;
      begins = begins_on c.args.text.now name c.cut_name.result.1.now _ rest.now c.cut_name.ensures.begins h;
    })
