-- Pages that declare no encoding.
use Rattle.std.proofs.Common.{inl, inr, refl}
use Rattle.std.{proofs.lemmas.Bool.{cases_Bool}, specs.Str.{is_utf8}}
use Rattle.html_page_encoding.specs.{Decoded.{decoded}, GoingOn.{OthersHaveTexts}}
use Rattle.html_page_encoding.specs.PageEncodings.{guessed, page_encoding, page_text}

pub others_have_texts : OthersHaveTexts
unfolding page_text page_encoding guessed decoded
others_have_texts page unmarked undeclared = elim (cases_Bool (is_utf8 page)) [
  | inl e ↦ rw (unmarked, undeclared, e) (rw e refl)
  | inr e ↦ rw (unmarked, undeclared, e) refl
]
