-- The depth of a script's text: that of the rules is the reader's, and an end tag keeps it.
use Rattle.std.proofs.Common.{◌≡◌, ℕ, zero, suc, ◌-◌, ◌<◌, ◌≤◌, Bool, true, false, ◌&&◌, eqb, List, [], ◌∷◌, ◌++◌, bytes_eq, codes, length, drop, map, Some, None, refl, ap, ◌∙◌, sym, append_assoc, arith, length-append}
use Rattle.std.proofs.lemmas.{Bool.{and_parts, and_right, false_from_ne_true, false≢true}, Bool.Decides.{nat_tests}}
use Rattle.std.proofs.lemmas.{List.{drop-append-le, map-append}, List.Folds.{list_all-append}, Slice.Eq.{bytes_eq-Decides}}
use Rattle.std.specs.{Char.{to_ascii_lowercase}, Prelude.{if◌then◌else◌}}
use Rattle.html_names_core.specs.Characters.{all}
use Rattle.html_page_names.specs.PageNames.{of}
use Rattle.html_page_names.specs.declared.kind.Kind.TheVariants as kind
use Rattle.html_page_nesting.specs.ScriptTexts.{depth_past, hides_end, is_in_script}
use Rattle.html_page_nesting.specs.ScriptTexts.{depth_behind as script_behind}
use Rattle.html_page_read.specs.PageTokens.{script_depth}
use Rattle.html_text.specs.{ClosingTags.{is_tag_end, holds_closing, ends_closing}, RawEnds.{ends_in}}
use Rattle.typst_html_encode.proofs.RawBack.{ends_holds, is_not_less, tag_ends}
use Rattle.typst_html_nesting_laws.proofs.{Branches.{decide}, KindFacts.{names, passes_of}}

-- behind a `<` no text ends in `<script`
last_not_less : (xs ys : List ℕ) → all is_not_less ys ≡ true → xs ++ 60 ∷ [] ≡ ys → ⊥
last_not_less xs ys h e = false≢true (and_parts (all is_not_less xs) _
    (sym (list_all-append is_not_less xs (60 ∷ [])) ∙ (ap (all is_not_less) e ∙ h))).1

not_begun : (xs : List ℕ) → xs ++ 60 ∷ [] ≡ codes "<script" → ⊥
not_begun [] e = absurd (omega (arith, ap length e))
not_begun (x ∷ xs) e = last_not_less xs (codes "script") refl (ap (drop 1) e)

begins_none : (text : List ℕ) → ends_in (codes "<script") (text ++ 60 ∷ []) ≡ false
begins_none text = false_from_ne_true _ (λ e.
    let n = length (text ++ 60 ∷ []) - 7 in
    let cut : drop n (text ++ 60 ∷ []) ≡ drop n text ++ 60 ∷ [] =
    drop-append-le n text (60 ∷ []) (omega (arith, length-append text (60 ∷ []))) in
    not_begun (map to_ascii_lowercase (drop n text))
    (sym (map-append to_ascii_lowercase (drop n text) (60 ∷ []))
    ∙ (ap (map to_ascii_lowercase) (sym cut) ∙ (bytes_eq-Decides _ _).0 e)))

-- the depth of a script, which the characters of an end tag keep
pub script_stays : (depth : ℕ) (text : List ℕ) (c : ℕ) → eqb c 45 ≡ false → eqb c 62 ≡ false →
    is_tag_end c ≡ false → script_depth depth text c ≡ depth
script_stays zero text c dash more e = rw dash refl
script_stays (suc n) text c dash more e = rw (more, e) refl

-- also its `/`, unless the depth is 2
pub slash_stays : (depth : ℕ) (text : List ℕ) → depth < 2 →
    script_depth depth (text ++ 60 ∷ []) 47 ≡ depth
slash_stays zero text h = refl
slash_stays (suc zero) text h = rw (tag_ends.0, begins_none text) refl
slash_stays (suc (suc n)) text h = absurd (omega (arith, h))

one_low : (b : Bool) → (if b then 1 else 0) ≤ 2
one_low true = omega arith
one_low false = omega arith

three_low : (x y z : Bool) (n : ℕ) → n ≤ 2 →
    (if x then 0 else (if y then 2 else (if z then 1 else n))) ≤ 2
three_low true y z n h = omega arith
three_low false true z n h = omega arith
three_low false false true n h = omega arith
three_low false false false n h = h

script_low : (depth : ℕ) (text : List ℕ) (c : ℕ) → depth ≤ 2 → script_depth depth text c ≤ 2
script_low zero text c h = one_low _
script_low (suc n) text c h = three_low _ _ _ (suc n) h

low_by : (b : Bool) (n : ℕ) → n ≤ 2 → (if b then n else 0) ≤ 2
low_by true n h = h
low_by false n h = omega arith

lower_than : (n : ℕ) → n ≤ 2 → eqb n 2 ≡ false → n < 2
lower_than n h e = grind (arith, nat_tests)

-- the depth in the text of an element of that name, behind a character and behind a text
abbrev pub next_depth : (name : List ℕ) (depth : ℕ) (text : List ℕ) → ℕ → ℕ
next_depth name depth text c = if of kind.Script name then script_depth depth text c else 0

abbrev pub last_depth : (name : List ℕ) (depth : ℕ) (text more : List ℕ) → ℕ
last_depth name depth text [] = depth
last_depth name depth text (c ∷ cs) =
    last_depth name (next_depth name depth text c) (text ++ c ∷ []) cs

pub no_depth : (name : List ℕ) (depth : ℕ) (text : List ℕ) (c : ℕ) → of kind.Script name ≡ false →
    next_depth name depth text c ≡ 0
no_depth name depth text c e = ap (λ b. if b then script_depth depth text c else 0) e

-- no character ends a closing tag in a text that holds none
pub none_ended : (name x : List ℕ) (c : ℕ) (cs : List ℕ) → holds_closing name (x ++ c ∷ cs) ≡ false →
    (is_tag_end c && ends_closing name x) ≡ false
none_ended name x c cs closes = false_from_ne_true _ (λ e.
    let ends = and_parts _ _ e in
    false≢true (sym closes ∙ ends_holds name x c cs ends.0 ends.1))

module _ (name : List ℕ) where
  depths_low : (depth : ℕ) (x cs : List ℕ) → depth ≤ 2 → last_depth name depth x cs ≤ 2
  depths_low depth x [] h = h
  depths_low depth x (c ∷ cs) h = depths_low (next_depth name depth x c) (x ++ c ∷ []) cs
      (low_by (of kind.Script name) (script_depth depth x c) (script_low depth x c h))

  pub no_depths : (x cs : List ℕ) → of kind.Script name ≡ false → last_depth name 0 x cs ≡ 0
  no_depths x [] e = refl
  no_depths x (c ∷ cs) e = ap (λ n. last_depth name n (x ++ c ∷ []) cs) (no_depth name 0 x c e)
      ∙ no_depths (x ++ c ∷ []) cs e

  -- that of the rules is the reader's, as no closing tag ends the script
  module _ (script : of kind.Script name ≡ true) where
    named : name ≡ codes "script"
    named = (bytes_eq-Decides name (codes "script")).0 (passes_of
        (λ n. bytes_eq n (codes "script")) kind.Script name (unfold names in refl) script)

    depths_agree : (depth : ℕ) (x cs : List ℕ) → holds_closing name (x ++ cs) ≡ false →
        depth_past (Some depth) x cs ≡ Some (last_depth name depth x cs)
    depths_agree depth x [] closes = refl
    depths_agree depth x (c ∷ cs) closes =
        let here : (is_tag_end c && ends_closing (codes "script") x) ≡ false =
        ap (λ n. is_tag_end c && ends_closing n x) (sym named) ∙ none_ended name x c cs closes in
        let next : next_depth name depth x c ≡ script_depth depth x c =
        ap (λ b. if b then script_depth depth x c else 0) script in
        let step : script_behind (Some depth) x c ≡ Some (next_depth name depth x c) =
        ap (λ b. if b then None else Some (script_depth depth x c)) (and_right _ _ here)
        ∙ ap Some (sym next) in
        ap (λ d. depth_past d (x ++ c ∷ []) cs) step
        ∙ depths_agree (next_depth name depth x c) (x ++ c ∷ []) cs
        (ap (holds_closing name) (append_assoc x (c ∷ []) cs) ∙ closes)

  -- where the end tag is read as one
  pub end_low : (s : List ℕ) → holds_closing name s ≡ false →
      (of kind.Script name ≡ true → hides_end s ≡ false) → last_depth name 0 [] s < 2
  end_low s closes shown = decide (of kind.Script name)
      (λ e. lower_than _ (depths_low 0 [] s (omega arith))
      (ap is_in_script (sym (depths_agree e 0 [] s closes)) ∙ shown e))
      (λ e. omega (arith, no_depths [] s e))
