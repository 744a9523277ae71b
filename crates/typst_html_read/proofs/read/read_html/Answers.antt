use Rattle.std.proofs.Common.{◌≡◌, false, ◌++◌, arith, bytes_eq, chars, length, length-append, take, refl, sym, ap, ◌∙◌, subst}
use Rattle.typst_html_encode.specs.Reader.{read}
use Rattle.typst_html_read.proofs.Loops.{begins_otherwise}
use Rattle.typst_html_read.specs.{Endings.{Gives}, LimitedReading.{document_type, too_deep, unread}, PlainElements.{accepted}}
use Rattle.html_text.proofs.Words.{chars_after_word}
use Rattle.html_names_core.proofs.Lists.{chars_ascii}
use Rattle.typst_html_read.proofs.read.read_html.Goals as goal

pub returns-in-None : goal.returns-in-None
returns-in-None c =
    let own : chars document_type ≡ document_type = chars_ascii document_type refl in
    let other : bytes_eq (take 15 (chars c.args.text.now)) document_type ≡ false =
    begins_otherwise document_type c.args.text.now refl c.utf8.text c.in-None.ensures.cases in
    record {
      made = tt;
      clean = tt;
      fault = rw (c.place_at-place.ensures, c.common_length.ensures, own, other) (refl, refl, refl);
    }

pub read_root-requires : goal.read_root-requires
read_root-requires c =
    let found = c.in-Some.ensures.cases in
    let whole : c.args.text.now ≡ document_type ++ c.in-Some.rest.now =
    found.1.1 ∙ sym (ap (λ l. document_type ++ l) found.2) in
    let rest = c.in-Some.rest.now in
    omega (
      arith,
      ap length (chars_after_word document_type c.args.text.now rest refl whole),
      length-append document_type (chars rest),
    )

pub returns-in-Some : goal.returns-in-Some
returns-in-Some c =
    let found = c.in-Some.ensures.cases in
    let whole : c.args.text.now ≡ document_type ++ c.in-Some.rest.now =
    found.1.1 ∙ sym (ap (λ l. document_type ++ l) found.2) in
    subst (λ cs. Gives c.read_root.result (chars c.args.text.now) (accepted (read cs))
    (too_deep c.args.limit cs) (unread cs))
    (sym (chars_after_word document_type c.args.text.now c.in-Some.rest.now refl whole))
    c.read_root.ensures
