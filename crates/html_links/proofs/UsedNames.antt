-- The names in use as a set of texts.
use Rattle.std.proofs.Common.{◌≡◌, ℕ, Bool, true, false, ◌||◌, List, [], ◌∷◌, map, chars, bytes_eq, refl, ap, sym, ◌∙◌, string_bytes, String, Global, IsUtf8, is_eq}
use Rattle.std.proofs.{Math.Bool.{or-true}, lemmas.Map.Text.{is_eq-slice_cmp}, lemmas.Slice.Eq.{bytes_eq-Decides}}
use Rattle.std.proofs.lemmas.Str.{IsUtf8-string_bytes}
use Rattle.std.specs.{BTreeMap.{is_at}, BTreeSet.{insert_key}, List.{list_any}, Ordering.{nat_cmp, match_ordering}, String.{string_cmp}}
use Rattle.std.specs.{Cmp.Lexicographic.{slice_cmp}, declared.cmp.Ordering.{Ordering}}
use Rattle.std.specs.declared.cmp.Ordering.TheVariants.{Less, Equal, Greater}
use Rattle.html_names_core.{proofs.Basics.{bytes_eq-sym}, proofs.Lists.{bytes_eq-chars}, specs.Names.{stands_in}, specs.Texts.{text_view}}
use Rattle.html_links.specs.TreeNames.{Name}

pub contains_is : (keys : List (String Global)) (bs : List ℕ) → IsUtf8 bs →
    list_any (is_at (λ k. slice_cmp nat_cmp bs (string_bytes k))) keys
    ≡ stands_in (map text_view keys) (chars bs)
unfolding stands_in
contains_is [] bs u = refl
contains_is (k ∷ ks) bs u =
    rw (is_eq-slice_cmp bs (string_bytes k), contains_is ks bs u)
    (ap (λ b. b || stands_in (map text_view ks) (chars bs)) (bytes_eq-sym bs (string_bytes k)
    ∙ sym (bytes_eq-chars (string_bytes k) bs (IsUtf8-string_bytes k) u)))

equal_text : (a b : String Global) → string_cmp a b ≡ Equal → text_view a ≡ text_view b
equal_text a b e = ap chars ((bytes_eq-Decides (string_bytes a) (string_bytes b)).0
    (sym (is_eq-slice_cmp (string_bytes a) (string_bytes b)) ∙ ap is_eq e))

pub insert_is : (keys : List (String Global)) (k : String Global) (name : List ℕ) →
    stands_in (map text_view (insert_key string_cmp keys k)) name
    ≡ (bytes_eq (text_view k) name || stands_in (map text_view keys) name)
unfolding stands_in
insert_is [] k name = refl
insert_is (x ∷ xs) k name = by_order (string_cmp k x) refl (insert_is xs k name)
  where
    swapped : (a b c : Bool) → (a || (b || c)) ≡ (b || (a || c))
    swapped true true c = refl
    swapped true false c = refl
    swapped false true c = refl
    swapped false false c = refl

    once : (a b : Bool) → (a || b) ≡ (a || (a || b))
    once true b = refl
    once false b = refl

    by_order : (o : Ordering) → string_cmp k x ≡ o →
        stands_in (map text_view (insert_key string_cmp xs k)) name
        ≡ (bytes_eq (text_view k) name || stands_in (map text_view xs) name) →
        stands_in (map text_view
        (match_ordering o (k ∷ x ∷ xs) (x ∷ xs) (x ∷ insert_key string_cmp xs k))) name
        ≡ (bytes_eq (text_view k) name
        || (bytes_eq (text_view x) name || stands_in (map text_view xs) name))
    by_order Less e so = refl
    by_order Equal e so =
        ap (λ t. bytes_eq t name || stands_in (map text_view xs) name) (sym (equal_text k x e))
        ∙ (once (bytes_eq (text_view k) name) (stands_in (map text_view xs) name)
        ∙ ap (λ t. bytes_eq (text_view k) name
        || (bytes_eq t name || stands_in (map text_view xs) name))
        (equal_text k x e))
    by_order Greater e so =
        ap (λ b. bytes_eq (text_view x) name || b) so
        ∙ swapped (bytes_eq (text_view x) name) (bytes_eq (text_view k) name)
        (stands_in (map text_view xs) name)

pub still_used : (keys : List (String Global)) (k : String Global) (n : Name) →
    stands_in (map text_view keys) n ≡ true →
    stands_in (map text_view (insert_key string_cmp keys k)) n ≡ true
still_used keys k n e =
    insert_is keys k n ∙ (ap (λ b. bytes_eq (text_view k) n || b) e
    ∙ or-true (bytes_eq (text_view k) n))
