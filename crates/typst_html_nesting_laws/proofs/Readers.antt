-- Readers of a page between tokens, and what leads from one to another.
use Rattle.std.proofs.Common.{◌≡◌, ℕ, ◌+◌, Bool, true, false, List, [], ◌∷◌, ◌++◌, refl, ap, ◌∙◌, eqb, map}
use Rattle.html_names_core.specs.Kinds.{is_foreign_self_closing}
use Rattle.html_dom_tree.specs.Tree.{TextPair, Head}
use Rattle.html_page_names.specs.{ForeignNames.{lowered}, PageNames.{of}}
use Rattle.html_page_names.specs.declared.kind.Kind.TheVariants as kind
use Rattle.html_page_stack.specs.Pages.{Page, StartTag, Token, Char, Start, with_char}
use Rattle.html_page_tree.specs.PageTrees.{token_read}
use Rattle.html_page_read.specs.{PageReading.{run}, PageTokens.{Data, Raw, Reading, PageReader, behind_start_tag, past_char, step}}

-- how far a page is read, where no carriage return was read before
abbrev pub reading_at : (fresh : Bool) (place : ℕ) → Page → Reading
reading_at fresh place p = record { page = p; place = place; fresh = fresh; after_return = false }

-- between tokens
abbrev pub data_at : (fresh : Bool) (place : ℕ) → Page → PageReader
data_at fresh place p = record { state = Data; reading = reading_at fresh place p }

-- within an element of text alone, behind its start tag
abbrev pub raw_at : (fresh : Bool) (place : ℕ) → Page → PageReader
raw_at fresh place p = record { state = Raw 0 0; reading = reading_at fresh place p }

-- the page with a token that begins there
abbrev pub started : (start : ℕ) → Page → Page
started s p = record p { start = s }

-- the page with that text since the last child, and a token that begins there
abbrev pub texted : (text : List ℕ) (start : ℕ) → Page → Page
texted t s p = record p { text = t; start = s }

-- a text is read, and leads to that page
pub record LeadsTo (q : PageReader) (text : List ℕ) (fresh : Bool) (p : Page) : Type 0 where
  pub start : ℕ
  pub place : ℕ
  pub is : run q text ≡ data_at fresh place (started start p)

-- the reader behind a token that made this page of the one before
abbrev pub behind : Token → (place : ℕ) → Page → PageReader
behind (Start tag) place p =
    past_char 62 place (behind_start_tag (of kind.DropsFeed tag.name) (reading_at false place p))
behind token place p = data_at false (place + 1) p

-- a text ends in the last character of a tag, which is all that it does to the page
pub record Emits (q : PageReader) (text : List ℕ) (token : Token) (p : Page) : Type 0 where
  pub start : ℕ
  pub place : ℕ
  pub is : (after : Page) → token_read token (started start p) ≡ after →
      run q text ≡ behind token place after

-- the tag that is read of a start tag
abbrev pub lowered_attrs : List TextPair → List TextPair
lowered_attrs = map (λ a. (lowered a.0, a.1))

abbrev pub written_tag : Head → StartTag
written_tag h = record {
  name = lowered h.name;
  attrs = lowered_attrs h.attrs;
  closed = is_foreign_self_closing h.name;
}

-- characters that pass are added to the current node, whatever text it has, and do nothing else,
-- but for U+0000
abbrev pub Takes : (passes : ℕ → Bool) → Page → Type 0
Takes passes p = (c : ℕ) (text : List ℕ) (start : ℕ) → passes c ≡ true → eqb c 0 ≡ false →
    token_read (Char c) (texted text start p) ≡ with_char c (texted text start p)

pub run-append : (q : PageReader) (xs ys : List ℕ) →
    run q (xs ++ ys) ≡ run (run q xs) ys
run-append q [] ys = refl
run-append q (x ∷ xs) ys = run-append (step q x) xs ys

-- a text that leads on, and one behind it
pub run_on : (q r s : PageReader) (xs ys : List ℕ) → run q xs ≡ r →
    run r ys ≡ s → run q (xs ++ ys) ≡ s
run_on q r s xs ys h k = run-append q xs ys ∙ (ap (λ t. run t ys) h ∙ k)
