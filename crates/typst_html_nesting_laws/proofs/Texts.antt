-- Texts between tags are read as they are.
use Rattle.std.proofs.Common.{◌≡◌, ℕ, ◌+◌, Bool, true, false, ◌&&◌, eqb, List, [], ◌∷◌, ◌++◌, refl, ◌∙◌, append_assoc}
use Rattle.std.proofs.{Math.Bool.{and-false, and-true}, lemmas.{Bool.{and_parts, not-true, or_parts}, List.{append-nil}}}
use Rattle.std.specs.{Char.{len_utf8}, List.{list_all}}
use Rattle.html_names_core.specs.Characters.{all, is_text_char, is_element_text_char}
use Rattle.html_page_nesting.specs.WrittenTexts.{has_return, is_empty, is_return}
use Rattle.typst_html_encode.{proofs.References.{text_good}, specs.{ExportFaults.{text_faults}, References.{reference_to}}}
use Rattle.typst_html_encode.specs.Text.{char_text, escaped_text, escaping_of}
use Rattle.html_page_stack.specs.Pages.{Page}
use Rattle.html_page_read.{proofs.PageStretches.{other}, specs.{PageReading.{run}, PageTokens.{Data, PageReader}}}
use Rattle.typst_html_nesting_laws.proofs.{Readers.{LeadsTo, Takes, data_at, run_on, texted}, References.{reference_leads}}
use Rattle.typst_html_nesting_laws.proofs.Branches.{decide}

-- its first character is a line feed
abbrev pub begins_with_lf : List ℕ → Bool
begins_with_lf [] = false
begins_with_lf (c ∷ cs) = eqb c 10

-- where a line feed is not dropped, the first character is none
pub not_dropped : (fresh : Bool) (c : ℕ) (cs : List ℕ) →
    (fresh ≡ true → begins_with_lf (c ∷ cs) ≡ false) → (fresh && eqb c 10) ≡ false
not_dropped true c cs h = h refl
not_dropped false c cs h = refl

pub nothing_dropped : (cs : List ℕ) → false ≡ true → begins_with_lf cs ≡ false
nothing_dropped cs h = cc

-- neither `&` nor `<`
pub is_plain_text_char : (c : ℕ) → is_element_text_char c ≡ true →
    (eqb c 38 ≡ false) × (eqb c 60 ≡ false)
is_plain_text_char c h =
    let parts = and_parts _ _ h in
    (not-true _ (and_parts _ _ parts.0).1, not-true _ parts.1)

module _ (passes : ℕ → Bool) (p : Page) (takes : Takes passes p) where
  -- a character is read, with the text before it
  record CharLeads (q : PageReader) (cs text : List ℕ) : Type 0 where
    place : ℕ
    start : ℕ
    is : run q cs ≡ data_at false place (texted text start p)

  module _ (fresh : Bool) (place : ℕ) (text : List ℕ) (start c : ℕ) (pass : passes c ≡ true)
      (h : is_text_char c ≡ true) (n : is_return c ≡ false)
      (kept : (fresh && eqb c 10) ≡ false) where
    plain_leads : is_element_text_char c ≡ true →
        CharLeads (data_at fresh place (texted text start p)) (c ∷ []) (text ++ c ∷ [])
    plain_leads plain =
        let e0 = other is_text_char c 0 h refl in
        let e10 = and-false (eqb c 10) in
        let e = is_plain_text_char c plain in
        let taken = takes c text place pass e0 in
        record {
          place = place + len_utf8 c;
          start = place;
          is = rw (e0, e10, n, e.1, e.0, kept, taken) refl;
        }

    reference_char_leads :
        CharLeads (data_at fresh place (texted text start p)) (reference_to c) (text ++ c ∷ [])
    reference_char_leads =
        let x = reference_leads Data (data_at fresh place (texted text start p)) fresh (place + 1)
        (texted text place p) c h n refl in
        let taken = takes c text place pass (other is_text_char c 0 h refl) in
        record { place = x.0 + 1; start = place; is = x.1 ∙ rw (kept, taken) refl }

    char_leads : (pre_span : Bool) → CharLeads (data_at fresh place (texted text start p))
        (char_text (escaping_of pre_span) c) (text ++ c ∷ [])
    char_leads true = reference_char_leads
    char_leads false = decide (is_element_text_char c) (λ e. rw e (plain_leads e))
        (λ e. rw e reference_char_leads)

  chars_lead : (pre_span fresh : Bool) (place : ℕ) (text : List ℕ) (start : ℕ) (s : List ℕ) →
      list_all passes s ≡ true → all is_text_char s ≡ true → has_return s ≡ false →
      (fresh ≡ true → begins_with_lf s ≡ false) →
      LeadsTo (data_at fresh place (texted text start p)) (escaped_text (escaping_of pre_span) s)
      (fresh && is_empty s) (texted (text ++ s) start p)
  chars_lead pre_span fresh place text start [] pass h n kept =
      record { start = start; place = place; is = rw (and-true fresh, append-nil text) refl }
  chars_lead pre_span fresh place text start (c ∷ cs) pass h n kept =
      let passed = and_parts _ _ pass in
      let good = and_parts _ _ h in
      let no = or_parts _ _ n in
      let one = char_leads fresh place text start c passed.0 good.0 no.0
      (not_dropped fresh c cs kept) pre_span in
      let more = chars_lead pre_span false one.place (text ++ c ∷ []) one.start cs passed.1 good.1
      no.1 (nothing_dropped cs) in
      let read = run_on _ _ _ (char_text (escaping_of pre_span) c)
      (escaped_text (escaping_of pre_span) cs) one.is more.is in
      rw (and-false fresh, ← append_assoc text (c ∷ []) cs)
      (record { start = more.start; place = more.place; is = read })

-- a text is read where its characters pass
pub text_leads : (pre_span : Bool) (s : List ℕ) (span : ℕ) (passes : ℕ → Bool) → text_faults
    (escaping_of pre_span) span s ≡ [] → has_return s ≡ false → list_all passes s ≡ true →
    (fresh : Bool) (place : ℕ) (p : Page) → Takes passes p →
    (fresh ≡ true → begins_with_lf s ≡ false) → LeadsTo (data_at fresh place p)
    (escaped_text (escaping_of pre_span) s) (fresh && is_empty s) (record p { text = p.text ++ s })
text_leads pre_span s span passes good n pass fresh place p takes kept =
    let x = chars_lead passes p takes pre_span fresh place p.text p.start s pass
    (text_good (escaping_of pre_span) span s good) n kept in
    record { start = x.start; place = x.place; is = x.is }
