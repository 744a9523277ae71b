-- Texts that stay.
use Rattle.std.proofs.Common.{◌≡◌, ℕ, Bool, true, false, not, ◌||◌, ◌&&◌, ◌==◌, List, [], ◌∷◌, map, refl}
use Rattle.std.proofs.lemmas.Bool.{false≢true}
use Rattle.std.specs.Prelude.{if◌then◌else◌, Option, Some, None, is_some}
use Rattle.html_page_nesting.specs.{Kept.{keeps_text}, NestingRules.{stranger_misnesting}, WrittenTexts.{has_return, is_return, is_white, is_white_char}}
use Rattle.html_page_nesting.specs.declared.{misnesting.Misnesting.{Misnesting}, surroundings.Surroundings.{Surroundings}}
use Rattle.html_page_nesting.specs.declared.misnesting.Misnesting.TheVariants as why
use Rattle.typst_html_nesting_laws.specs.FragmentsStay.{begins_marked}
use Rattle.html_clean_values.specs.Replaced.{replaced, replaced_char}
use Rattle.html_clean_nodes.specs.Cleaned.{without_marks}

-- a text stays by what is said of its characters
abbrev stays_by : (return white : Bool) → Option Misnesting → Bool
stays_by return white stranger =
    not (is_some (if return then Some why.CarriageReturn else (if white then None else stranger)))

by_tail : (r rs w ws : Bool) (x : Option Misnesting) → stays_by (r || rs) (w && ws) x ≡ true →
    stays_by rs ws x ≡ true
by_tail true rs w ws x h = absurd (false≢true h)
by_tail false true w ws x h = absurd (false≢true h)
by_tail false false w true x h = refl
by_tail false false true false x h = h
by_tail false false false false x h = h

-- what stands behind its first character stays where a text stays
tail_stays : (around : Surroundings) (c : ℕ) (cs : List ℕ) → keeps_text around (c ∷ cs) ≡ true →
    keeps_text around cs ≡ true
tail_stays around c cs h = by_tail (is_return c) (has_return cs) (is_white_char c) (is_white cs)
    (stranger_misnesting around.place) h

pub chosen : {A : Type 0} (P : A → Type 0) (b : Bool) {x y : A} → P x → P y → P (if b then x else y)
chosen P true px py = px
chosen P false px py = py

-- a text stays without the byte order marks at its beginning
pub unmarked_stays : (around : Surroundings) (s : List ℕ) → keeps_text around s ≡ true →
    keeps_text around (without_marks s) ≡ true
unmarked_stays around [] h = h
unmarked_stays around (c ∷ cs) h = chosen (λ t. keeps_text around t ≡ true) (c == 0xfeff)
    (unmarked_stays around cs (tail_stays around c cs h)) h

-- and can be written then
pub unmarked_held : (s : List ℕ) → replaced s ≡ s → replaced (without_marks s) ≡ without_marks s
unmarked_held [] h = h
unmarked_held (c ∷ cs) h =
    let rest : map replaced_char cs ≡ cs = cc in
    chosen (λ t. replaced t ≡ t) (c == 0xfeff) (unmarked_held cs rest) h

unmarked_by : (b : Bool) (c : ℕ) (cs : List ℕ) → (c == 0xfeff) ≡ b →
    begins_marked (without_marks cs) ≡ false →
    begins_marked (if b then without_marks cs else c ∷ cs) ≡ false
unmarked_by true c cs e rest = rest
unmarked_by false c cs e rest = e

-- and begins with none
pub unmarked_begins : (s : List ℕ) → begins_marked (without_marks s) ≡ false
unmarked_begins [] = refl
unmarked_begins (c ∷ cs) = unmarked_by (c == 0xfeff) c cs refl (unmarked_begins cs)

pub none_taken : (s : List ℕ) → begins_marked s ≡ false → without_marks s ≡ s
none_taken [] h = refl
none_taken (c ∷ cs) h = rw h refl
