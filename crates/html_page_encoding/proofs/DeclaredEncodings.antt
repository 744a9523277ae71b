-- Pages that declare an encoding, and those that declare none.
use Rattle.std.proofs.Common.{◌≡◌, ℕ, List, length, Option, Some, None, Result, Ok, Err, refl, ap, ◌∙◌}
use Rattle.html_page_encoding.specs.Attributes.{Part}
use Rattle.html_page_encoding.specs.PageEncodings.{FaultView, declared, declared_encoding, found, guessed, head, if_labelled, known_or, label_or, labelled, marked, marked_or, page_encoding}
use Rattle.html_page_encoding.specs.declared.encoding.Encoding.{Encoding}

-- the declared encoding, or else the other one
abbrev or_other : (other : Encoding) → Result (Option Encoding) FaultView →
    Result Encoding FaultView
or_other other (Ok None) = Ok other
or_other other (Ok (Some e)) = Ok e
or_other other (Err fault) = Err fault

-- a label declares its encoding
of_label : (other : Encoding) (r : Result Encoding FaultView) → r ≡ or_other other (found r)
of_label other (Ok e) = refl
of_label other (Err fault) = refl

-- a mark or a label decides, or else the other encoding is that of the page
of_parts : (other : Encoding) (n : ℕ) (label : Option Part) (mark : Option Encoding) →
    known_or (label_or (Ok other) n label) mark
    ≡ or_other other (marked_or (if_labelled n label) mark)
of_parts other n label (Some e) = refl
of_parts other n None None = refl
of_parts other n (Some p) None = of_label other (labelled n p)

-- a page has the encoding that it declares, or else the guessed one
of_page : (page : List ℕ) → page_encoding page ≡ or_other (guessed page) (declared_encoding page)
unfolding page_encoding declared_encoding
of_page page =
    of_parts (guessed page) (length (head page)) (declared (head page)) (marked page)

-- a page has the encoding that it declares
pub declares : (page : List ℕ) (e : Encoding) → declared_encoding page ≡ Ok (Some e) →
    page_encoding page ≡ Ok e
declares page e is = of_page page ∙ ap (or_other (guessed page)) is

-- a page that declares no encoding has the guessed one
pub declares_none : (page : List ℕ) → declared_encoding page ≡ Ok None →
    page_encoding page ≡ Ok (guessed page)
declares_none page is = of_page page ∙ ap (or_other (guessed page)) is
