-- The results of calls: the value of the definition, or its fault. An allocation may fail before
-- either.
use Rattle.std.specs.{Borrow.{Bor}, Str.Lossy.{utf8_valid_len}, declared.alloc.Global.{Global}}
use Rattle.std.specs.Prelude.{◌≡◌, ℕ, List, String, chars, Option, Result, Ok, Err, IfErr, IfOk, IsErr, OnErr}
use Rattle.html_names_core.specs.Texts.{text_view}
use Rattle.html_page_encoding.specs.Decoded.{utf8_text}
use Rattle.html_page_encoding.specs.PageEncodings as pages
use Rattle.html_page_encoding.specs.PageEncodings.{FaultView, declared_encoding, page_encoding}
use Rattle.html_page_encoding.specs.declared.encoding.Encoding.{Encoding}
use Rattle.html_page_encoding.specs.declared.fault.EncodingFault.{EncodingFault}
use Rattle.html_page_encoding.specs.declared.fault.EncodingFault.TheVariants as fault
use Rattle.html_page_encoding.specs.declared.page.DecodedPage.{DecodedPage}

-- the fault is the expected one
abbrev pub IsFault : {A : Type 0} → Result A FaultView → EncodingFault → Type 0
IsFault expected fault.OutOfMemory = Unit {0}
IsFault expected (fault.UnknownLabel label place) =
    expected ≡ Err (pages.UnknownLabel (text_view label) place)
IsFault expected (fault.NotText place) = expected ≡ Err (pages.NotText place)

-- the fault is the offset of what is no text
abbrev pub IsNoText : Result (List ℕ) ℕ → EncodingFault → Type 0
IsNoText expected fault.OutOfMemory = Unit {0}
IsNoText expected (fault.UnknownLabel label place) = ⊥
IsNoText expected (fault.NotText place) = expected ≡ Err place

-- the fault is the expected one, and an allocation fails only for it
abbrev pub IsRefusal : Result Encoding FaultView → EncodingFault → Type 0
IsRefusal expected fault.OutOfMemory = IsErr expected
IsRefusal expected (fault.UnknownLabel label place) =
    expected ≡ Err (pages.UnknownLabel (text_view label) place)
IsRefusal expected (fault.NotText place) = ⊥

-- a call returns the expected encoding
pub record FindsEncoding (r : Result Encoding EncodingFault)
    (expected : Result Encoding FaultView) : Type 0 where
  pub made : IfOk r (λ encoding. expected ≡ Ok encoding)
  pub fault : IfErr r (IsRefusal expected)

-- a call returns the encoding that a page declares, if it declares one
pub record FindsDeclared (r : Result (Option Encoding) EncodingFault) (page : List ℕ) : Type 0
  where
    pub made : IfOk r (λ found. declared_encoding page ≡ Ok found)
    pub fault : IfErr r (IsRefusal (page_encoding page))

-- a call returns a text with the expected characters
pub record Decodes (r : Result (String Global) EncodingFault)
    (expected : Result (List ℕ) ℕ) : Type 0 where
  pub made : IfOk r (λ text. expected ≡ Ok (text_view text))
  pub fault : IfErr r (IsNoText expected)

-- a call returns the page itself, or a fault with the offset of the first byte that is no UTF-8
pub record Shares (r : Result (Bor (List ℕ)) EncodingFault) (page : List ℕ) : Type 0 where
  pub same : IfOk r (λ text. text.now ≡ page)
  pub made : IfOk r (λ text. utf8_text page ≡ Ok (chars text.now))
  pub fault : IfErr r (λ e. e ≡ fault.NotText (utf8_valid_len page))
  pub no_text : OnErr r (utf8_text page ≡ Err (utf8_valid_len page))

-- a call returns the expected encoding and text
pub record DecodesPage (r : Result DecodedPage EncodingFault)
    (expected : Result (Encoding × List ℕ) FaultView) : Type 0 where
  pub made : IfOk r (λ page. expected ≡ Ok (page.encoding, text_view page.text))
  pub fault : IfErr r (IsFault expected)
