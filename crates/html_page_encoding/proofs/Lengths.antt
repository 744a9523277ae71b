-- What is read leaves fewer bytes, so that attributes and pieces are at most as many as bytes.
use Rattle.std.proofs.Common.{◌≡◌, ℕ, zero, suc, ◌<◌, ◌≤◌, Bool, true, false, cond, eqb, List, [], ◌∷◌, bytes_eq, codes, length, take, refl, sym, ◌∙◌, arith, Option, None, Some}
use Rattle.std.proofs.lemmas.{List.{length-drop}}
use Rattle.std.specs.{List.{prefix_len}, Prelude.{option_and_then}}
use Rattle.html_page_encoding.proofs.AttributeSteps as attributes_by
use Rattle.html_page_encoding.proofs.ScanSteps as scan
use Rattle.html_page_encoding.specs.Attributes.{Close, Cut, Meta, Next, Part, TagFront, attribute_read, attributes, attributes_from, attributes_on, attributes_within, is_quote, name_read, no_attributes, quoted, tag_front, taken, unquoted, value_read}
use Rattle.html_page_encoding.specs.Classes.{behind, behind_bytes, behind_first, behind_word, found_or, front, has, is_word}
use Rattle.html_page_encoding.specs.GoingOn.{AttributesGoOn, ScanGoesOn}
use Rattle.html_page_encoding.specs.Prescan as prescan
use Rattle.html_page_encoding.specs.Prescan.{markup_of, markup_passed, meta_label, next_piece, scanned, scanned_on, scanned_within}
use Rattle.html_page_encoding.specs.declared.class.Class.{Class}
use Rattle.html_page_encoding.specs.declared.class.Class.TheVariants as class
use Rattle.html_page_encoding.specs.declared.markup.Markup.{Markup}
use Rattle.html_page_encoding.specs.declared.markup.Markup.TheVariants as markup

behind_short : (of : Class) (bs : List ℕ) → length (behind of bs) ≤ length bs
unfolding behind
behind_short of bs = omega (arith, length-drop (prefix_len (has of) bs) bs)

-- fewer bytes than so many are left
abbrev Leaves : ℕ → TagFront → Type 0
Leaves n Cut = Unit {0}
Leaves n (Close rest) = length rest < n
Leaves n (Next a) = length a.rest < n

leaves_more : (n k : ℕ) (f : TagFront) → n ≤ k → Leaves n f → Leaves k f
leaves_more n k Cut more h = tt
leaves_more n k (Close rest) more h = omega arith
leaves_more n k (Next a) more h = omega arith

either : {A : Type 0} (P : A → Type 0) (b : Bool) (x y : A) → P x → P y → P (cond b x y)
either P true x y p q = p
either P false x y p q = q

module _ (name text : List ℕ) (left k : ℕ) where
  quoted_leaves : (bs : List ℕ) → length bs < k → Leaves k (quoted name text left bs)
  quoted_leaves [] h = tt
  quoted_leaves (b ∷ bs) h = omega arith

  unquoted_leaves : (bs : List ℕ) → length bs < k → Leaves k (unquoted name text left bs)
  unquoted_leaves [] h = tt
  unquoted_leaves (b ∷ bs) h = h

value_leaves : (name bs : List ℕ) (k : ℕ) → length bs < k → Leaves k (value_read name bs)
value_leaves name [] k h = tt
value_leaves name (b ∷ bs) k h =
    let inside = behind_short (class.Except b) bs in
    let outside = behind_short class.Word (b ∷ bs) in
    either (Leaves k) (is_quote b) _ _
    (quoted_leaves name (front (class.Except b) bs) (length bs) k
    (behind (class.Except b) bs) (omega arith))
    (unquoted_leaves name (front class.Word (b ∷ bs)) (length (b ∷ bs)) k
    (behind class.Word (b ∷ bs)) (omega arith))

name_leaves : (name bs : List ℕ) (k : ℕ) → length bs < k → Leaves k (name_read name bs)
name_leaves name [] k h = tt
name_leaves name (b ∷ bs) k h =
    let short = behind_short class.Space bs in
    either (Leaves k) (eqb b 61) _ _ (value_leaves name (behind class.Space bs) k (omega arith)) h

attribute_leaves : (bs : List ℕ) → Leaves (length bs) (attribute_read bs)
attribute_leaves [] = tt
attribute_leaves (b ∷ bs) =
    let name = behind_short class.Name bs in
    let space = behind_short class.Space (behind class.Name bs) in
    let rest = behind class.Space (behind class.Name bs) in
    let front = b ∷ front class.Name bs in
    either (Leaves (length (b ∷ bs))) (eqb b 62) (Close bs) (name_read front rest) (omega arith)
    (name_leaves front rest (length (b ∷ bs)) (omega arith))

tag_leaves : (bs : List ℕ) → Leaves (length bs) (tag_front bs)
unfolding tag_front
tag_leaves bs =
    leaves_more _ _ _ (behind_short class.Gap bs) (attribute_leaves (behind class.Gap bs))

-- attributes, within any number that is as large as that of the bytes

none_read : (n : ℕ) (m : Meta) → attributes_within n m [] ≡ None
unfolding attributes_within tag_front behind
none_read zero m = refl
none_read (suc n) m = refl

abbrev Reader : Type 0
Reader = Meta → List ℕ → Option (Meta × List ℕ)

on_agrees : (go other : Reader) (m : Meta) (f : TagFront) (k : ℕ) → Leaves k f →
    ((m : Meta) (bs : List ℕ) → length bs < k → go m bs ≡ other m bs) →
    attributes_on go m f ≡ attributes_on other m f
on_agrees go other m Cut k h same = refl
on_agrees go other m (Close rest) k h same = refl
on_agrees go other m (Next a) k h same = same (taken m a.name a.value) a.rest h

agree : (n k : ℕ) (m : Meta) (bs : List ℕ) → length bs ≤ n → length bs ≤ k →
    attributes_within n m bs ≡ attributes_within k m bs
agree zero k m [] h i = none_read zero m ∙ sym (none_read k m)
agree zero k m (b ∷ bs) h i = absurd (omega arith)
agree (suc n) zero m [] h i = none_read (suc n) m ∙ sym (none_read zero m)
agree (suc n) zero m (b ∷ bs) h i = absurd (omega arith)
agree (suc n) (suc k) m bs h i = attributes_by.within_next n m bs
    ∙ (on_agrees (attributes_within n) (attributes_within k) m (tag_front bs) (length bs)
    (tag_leaves bs) (λ l cs fewer. agree n k l cs (omega arith) (omega arith))
    ∙ sym (attributes_by.within_next k m bs))

pub attributes_go_on : AttributesGoOn
unfolding attributes_from
attributes_go_on m bs =
    agree (length bs) (suc (length bs)) m bs (omega arith) (omega arith)
    ∙ (attributes_by.within_next (length bs) m bs
    ∙ on_agrees (attributes_within (length bs)) attributes_from m (tag_front bs) (length bs)
    (tag_leaves bs) (λ l cs fewer. agree (length bs) (length cs) l cs (omega arith) (omega arith)))

-- the bytes behind attributes

abbrev Left : ℕ → Option (Meta × List ℕ) → Type 0
Left k None = Unit {0}
Left k (Some (m, rest)) = length rest ≤ k

left_more : (n k : ℕ) (r : Option (Meta × List ℕ)) → n ≤ k → Left n r → Left k r
left_more n k None more h = tt
left_more n k (Some (m, rest)) more h = omega arith

on_left : (go : Reader) (m : Meta) (f : TagFront) (k : ℕ) → Leaves k f →
    ((m : Meta) (bs : List ℕ) → Left (length bs) (go m bs)) → Left k (attributes_on go m f)
on_left go m Cut k h fewer = tt
on_left go m (Close rest) k h fewer = omega arith
on_left go m (Next a) k h fewer =
    left_more (length a.rest) k _ (omega arith) (fewer (taken m a.name a.value) a.rest)

within_left : (n : ℕ) (m : Meta) (bs : List ℕ) → Left (length bs) (attributes_within n m bs)
unfolding attributes_within
within_left zero m bs = tt
within_left (suc n) m bs = on_left (attributes_within n) m (tag_front bs) (length bs)
    (tag_leaves bs) (within_left n)

attributes_left : (bs : List ℕ) → Left (length bs) (attributes_from no_attributes bs)
unfolding attributes_from
attributes_left bs = within_left (length bs) no_attributes bs

-- the bytes behind words

abbrev Behind : ℕ → Option (List ℕ) → Type 0
Behind k None = Unit {0}
Behind k (Some rest) = length rest ≤ k

word_left : (word bs : List ℕ) → Behind (length bs) (behind_word word bs)
unfolding behind_word
word_left word bs = either (Behind (length bs)) (is_word word (take (length word) bs)) _ _
    (omega (arith, length-drop (length word) bs)) tt

bytes_left : (bytes bs : List ℕ) → Behind (length bs) (behind_bytes bytes bs)
unfolding behind_bytes
bytes_left bytes bs = either (Behind (length bs)) (bytes_eq (take (length bytes) bs) bytes) _ _
    (omega (arith, length-drop (length bytes) bs)) tt

found_left : (later here : Option (List ℕ)) (k : ℕ) → Behind k later → Behind (suc k) here →
    Behind (suc k) (found_or later here)
found_left None None k h i = tt
found_left (Some rest) None k h i = omega arith
found_left later (Some rest) k h i = i

first_left : (bytes bs : List ℕ) → Behind (length bs) (behind_first bytes bs)
unfolding behind_first
first_left bytes [] = tt
first_left bytes (b ∷ bs) = found_left (behind_first bytes bs) (behind_bytes bytes (b ∷ bs))
    (length bs) (first_left bytes bs) (bytes_left bytes (b ∷ bs))

-- the bytes behind a piece

abbrev Passes : ℕ → prescan.Piece → Type 0
Passes k prescan.Cut = Unit {0}
Passes k (prescan.Passed rest) = length rest ≤ k
Passes k (prescan.Declared p) = Unit {0}

passes_more : (n k : ℕ) (p : prescan.Piece) → n ≤ k → Passes n p → Passes k p
passes_more n k prescan.Cut more h = tt
passes_more n k (prescan.Passed rest) more h = omega arith
passes_more n k (prescan.Declared p) more h = tt

passed : (k : ℕ) (r : Option (List ℕ)) → Behind k r → Passes k (prescan.passed r)
passed k None h = tt
passed k (Some rest) h = h

comment_passes : (bs : List ℕ) → Passes (length bs) (prescan.comment_passed bs)
comment_passes [] = tt
comment_passes (b ∷ bs) = passes_more (length bs) (suc (length bs)) _ (omega arith)
    (passed (length bs) (behind_first (codes "-->") bs) (first_left (codes "-->") bs))

attributes_pass : (k : ℕ) (r : Option (Meta × List ℕ)) → Left k r →
    Passes k (prescan.attributes_passed r)
attributes_pass k None h = tt
attributes_pass k (Some (m, rest)) h = h

label_passes : (k : ℕ) (rest : List ℕ) (p : Option Part) → length rest ≤ k →
    Passes k (prescan.declared_or rest p)
label_passes k rest None h = h
label_passes k rest (Some p) h = tt

meta_passes : (k : ℕ) (r : Option (Meta × List ℕ)) → Left k r → Passes k (prescan.meta_passed r)
meta_passes k None h = tt
meta_passes k (Some (m, rest)) h = label_passes k rest (meta_label m) h

meta_left : (k : ℕ) (r : Option (List ℕ)) → Behind k r → Left k (option_and_then attributes r)
meta_left k None h = tt
meta_left k (Some rest) h = left_more (length rest) k _ h (attributes_left rest)

other_passes : (k : ℕ) (bs : List ℕ) → length bs ≤ k → Passes k (prescan.other_passed bs)
other_passes k [] h = tt
other_passes k (b ∷ bs) h = omega arith

markup_passes : (kind : Markup) (bs : List ℕ) → Passes (length bs) (markup_passed kind bs)
unfolding markup_passed
markup_passes markup.Comment bs = comment_passes bs
markup_passes markup.Meta bs = meta_passes (length bs) _
    (meta_left (length bs) (behind_word (codes "meta") bs) (word_left (codes "meta") bs))
markup_passes markup.Tag bs = attributes_pass (length bs) _
    (left_more _ (length bs) _ (behind_short class.Word bs)
    (attributes_left (behind class.Word bs)))
markup_passes markup.Other bs =
    other_passes (length bs) (behind (class.Except 62) bs) (behind_short (class.Except 62) bs)
markup_passes markup.Text bs = omega arith

-- fewer bytes than so many are left
abbrev Fewer : ℕ → prescan.Piece → Type 0
Fewer k prescan.Cut = Unit {0}
Fewer k (prescan.Passed rest) = length rest < k
Fewer k (prescan.Declared p) = Unit {0}

fewer : (n k : ℕ) (p : prescan.Piece) → n < k → Passes n p → Fewer k p
fewer n k prescan.Cut more h = tt
fewer n k (prescan.Passed rest) more h = omega arith
fewer n k (prescan.Declared p) more h = tt

first_fewer : (bs : List ℕ) (k : ℕ) → length bs ≤ k → Fewer k (prescan.first_piece bs)
first_fewer [] k h = tt
first_fewer (b ∷ bs) k h = fewer (length bs) k _ (omega arith) (markup_passes (markup_of bs) bs)

piece_fewer : (bs : List ℕ) → Fewer (length bs) (next_piece bs)
unfolding next_piece
piece_fewer bs =
    first_fewer (behind (class.Except 60) bs) (length bs) (behind_short (class.Except 60) bs)

-- pieces, within any number that is as large as that of the bytes

none_scanned : (n : ℕ) → scanned_within n [] ≡ None
unfolding scanned_within next_piece behind
none_scanned zero = refl
none_scanned (suc n) = refl

scan_agrees : (go other : List ℕ → Option Part) (p : prescan.Piece) (k : ℕ) → Fewer k p →
    ((bs : List ℕ) → length bs < k → go bs ≡ other bs) → scanned_on go p ≡ scanned_on other p
scan_agrees go other prescan.Cut k h same = refl
scan_agrees go other (prescan.Passed rest) k h same = same rest h
scan_agrees go other (prescan.Declared p) k h same = refl

scans_agree : (n k : ℕ) (bs : List ℕ) → length bs ≤ n → length bs ≤ k →
    scanned_within n bs ≡ scanned_within k bs
scans_agree zero k [] h i = none_scanned zero ∙ sym (none_scanned k)
scans_agree zero k (b ∷ bs) h i = absurd (omega arith)
scans_agree (suc n) zero [] h i = none_scanned (suc n) ∙ sym (none_scanned zero)
scans_agree (suc n) zero (b ∷ bs) h i = absurd (omega arith)
scans_agree (suc n) (suc k) bs h i = scan.within_next n bs
    ∙ (scan_agrees (scanned_within n) (scanned_within k) (next_piece bs) (length bs)
    (piece_fewer bs) (λ cs less. scans_agree n k cs (omega arith) (omega arith))
    ∙ sym (scan.within_next k bs))

pub scan_goes_on : ScanGoesOn
unfolding scanned
scan_goes_on bs =
    scans_agree (length bs) (suc (length bs)) bs (omega arith) (omega arith)
    ∙ (scan.within_next (length bs) bs
    ∙ scan_agrees (scanned_within (length bs)) scanned (next_piece bs) (length bs)
    (piece_fewer bs)
    (λ cs less. scans_agree (length bs) (length cs) cs (omega arith) (omega arith)))
