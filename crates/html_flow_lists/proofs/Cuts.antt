-- Texts and lists without their last, and without their first.
use Rattle.std.proofs.Common.{◌≡◌, ℕ, suc, ◌-◌, ◌<◌, ◌≤◌, Bool, true, false, ◌||◌, ◌==◌, Option, Some, None, IfSome, IfNone, String, Global, string_bytes, string_len, chars, IsUtf8, List, [], ◌∷◌, ◌++◌, get_or, length, take, refl, ap, sym, ◌∙◌, arith}
use Rattle.std.proofs.{Math.ListN.{set}, lemmas.List.{append-nil, length-map, nil_from_length, take-map}}
use Rattle.std.proofs.lemmas.Str.{IsUtf8-string_bytes, chars-nil, chars_past_char, encodes-append, encodes-chars, encodes_same}
use lib.Utf8.{encode, encodes}
use Rattle.html_names_core.specs.Texts.{text_view}
use Rattle.html_flow_convert.specs.{Items.{ItemView, RoleView}, Views.{pair_view, pairs_view}, declared.item.Pair.{Pair}}
use Rattle.html_flow_lists.specs.ItemLists.{ListView, first_passes, is_border, is_lone_space, item_ends_in_space, last_passes, with_changed_first, with_space, with_text, without_end_space, without_first, without_last}
use Rattle.html_flow_lists.specs.declared.item_list.Ending.TheVariants.{AddedSpace}

pub without_last_at : {A : Type 0} (xs : List A) (x : A) → without_last (xs ++ x ∷ []) ≡ xs
without_last_at [] x = refl
without_last_at (y ∷ []) x = refl
without_last_at (y ∷ z ∷ xs) x = ap (λ l. y ∷ l) (without_last_at (z ∷ xs) x)

one_less : (n : ℕ) → suc (suc n) - 1 ≡ suc (suc n - 1)
one_less n = omega arith

pub without_last_take : {A : Type 0} (xs : List A) → take (length xs - 1) xs ≡ without_last xs
without_last_take [] = refl
without_last_take (x ∷ []) = refl
without_last_take (x ∷ y ∷ xs) =
    ap (λ n. take n (x ∷ y ∷ xs)) (one_less (length xs))
    ∙ ap (λ l. x ∷ l) (without_last_take (y ∷ xs))

-- items without the last one, as they are seen
pub popped_seen : (old new : List Pair) (n : ℕ) → n ≡ length old → new ≡ take (n - 1) old →
    pairs_view new ≡ without_last (pairs_view old)
popped_seen old new n counted is =
    ap pairs_view is
    ∙ sym (take-map pair_view (n - 1) old)
    ∙ ap (λ k. take (k - 1) (pairs_view old)) (counted ∙ sym (length-map old pair_view))
    ∙ without_last_take (pairs_view old)

pub some_first : (test : ItemView × RoleView → Bool) (ps : List Pair) →
    first_passes test (pairs_view ps) ≡ true → 0 < length ps
some_first test [] h = cc
some_first test (p ∷ ps) h = omega arith

pub first_passes_is : (ps : List Pair) (p : Pair) → 0 < length ps → p ≡ get_or ps 0 p →
    (test : ItemView × RoleView → Bool) → first_passes test (pairs_view ps) ≡ test (pair_view p)
first_passes_is [] p some is test = absurd (omega arith)
first_passes_is (q ∷ ps) p some is test = ap (λ x. test (pair_view x)) (sym is)

pub first_changed_is : (ps : List Pair) (p : Pair) → 0 < length ps → p ≡ get_or ps 0 p →
    (change : ItemView × RoleView → ItemView × RoleView) (q : Pair) →
    pair_view q ≡ change (pair_view p) →
    pairs_view (set ps 0 q) ≡ with_changed_first change (pairs_view ps)
first_changed_is [] p some is change q e = absurd (omega arith)
first_changed_is (x ∷ ps) p some is change q e =
    ap (λ v. v ∷ pairs_view ps) (e ∙ ap (λ y. change (pair_view y)) is)

-- a text that loses its last character, and one that loses its first
grown : (old new : List ℕ) (c : ℕ) → IsUtf8 old → IsUtf8 new → old ≡ new ++ encode c →
    chars old ≡ chars new ++ c ∷ []
grown old new c u v e =
    encodes_same (chars old) (chars new ++ c ∷ [])
    (encodes-chars old u
    ∙ e
    ∙ sym (encodes-append (chars new) (c ∷ [])
    ∙ ap (λ b. b ++ encodes (c ∷ [])) (encodes-chars new v)
    ∙ ap (λ b. new ++ b) (append-nil (encode c))))

none_seen : (s : String Global) → string_len s ≡ 0 → text_view s ≡ []
none_seen s none =
    ap chars (nil_from_length (string_bytes s) (sym s.bytes.ok.0 ∙ none)) ∙ chars-nil

pub popped : (old new : String Global) (r : Option ℕ) →
    IfSome r (λ c. string_bytes old ≡ string_bytes new ++ encode c) →
    IfNone r (string_len old ≡ 0) → string_len new ≤ string_len old →
    text_view new ≡ without_last (text_view old)
popped old new None some none le =
    let gone : string_len new ≡ 0 = omega arith in
    none_seen new gone ∙ sym (ap without_last (none_seen old none))
popped old new (Some c) some none le =
    sym (ap without_last (grown (string_bytes old) (string_bytes new) c (IsUtf8-string_bytes old)
    (IsUtf8-string_bytes new) some)
    ∙ without_last_at (text_view new) c)

pub first_char_gone : (old new rest : List ℕ) (c : ℕ) → IsUtf8 old → old ≡ encode c ++ rest →
    new ≡ rest → chars new ≡ without_first (chars old)
first_char_gone old new rest c u e is =
    ap chars is ∙ sym (ap without_first (chars_past_char old rest c u e))

pub none_gone : (s : String Global) → string_len s ≡ 0 →
    text_view s ≡ without_first (text_view s)
none_gone s none = none_seen s none ∙ sym (ap without_first (none_seen s none))

-- items of which the last, one space, goes
pub space_popped : (old new : List Pair) (n : ℕ) → n ≡ length old → new ≡ take (n - 1) old →
    last_passes is_lone_space (pairs_view old) ≡ true →
    pairs_view new ≡ without_end_space (pairs_view old)
space_popped old new n counted is e = rw e (popped_seen old new n counted is)

-- a list that gets a space
pub spaced : (l a b : ListView) (shut first : Bool) →
    shut ≡ (is_border l.ending || last_passes item_ends_in_space l.items) → shut ≡ false →
    first ≡ (length l.items == 0) → a ≡ with_text (32 ∷ []) l →
    b ≡ record a { starts_spaced = a.starts_spaced || first; ending = AddedSpace } →
    b ≡ with_space l
spaced l a b shut first shut_is e first_is a_is b_is =
    let open_is : (is_border l.ending || last_passes item_ends_in_space l.items) ≡ false
    = sym shut_is ∙ e in
    b_is ∙ rw (a_is, first_is, open_is) refl
