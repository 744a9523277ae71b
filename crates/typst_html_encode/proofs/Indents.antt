-- Indents in pieces.
use Rattle.std.proofs.Common.{◌≡◌, ℕ, zero, suc, ◌+◌, ◌-◌, ◌*◌, ◌≤◌, true, List, ◌∷◌, ◌++◌, length, refl, ap, ◌∙◌, codes, bytes_eq, append_assoc, arith}
use Rattle.std.proofs.lemmas.{Bool.{agree_below_at}, Slice.Eq.{bytes_eq-Decides}}
use Rattle.std.specs.{List.{slice_range}, Str.{IsAscii}}
use Rattle.html_names_core.{proofs.Basics.{is_ascii_is}, specs.Names.{is_ascii}}
use Rattle.typst_html_encode.specs.{Layout.{spaces, indent}, declared.indent.TheConstants.{LINE}}

pub spaces_add : (m n : ℕ) → spaces m ++ spaces n ≡ spaces (m + n)
spaces_add zero n = ap spaces (omega arith)
spaces_add (suc m) n = ap (λ s. codes "  " ++ s) (spaces_add m n)
    ∙ ap spaces {x = suc (m + n)} (omega arith)

pub spaces_ascii : (n : ℕ) → is_ascii (spaces n) ≡ true
spaces_ascii zero = refl
spaces_ascii (suc n) = spaces_ascii n

pub indent_ascii : (n : ℕ) → is_ascii (indent n) ≡ true
unfolding indent
indent_ascii n = spaces_ascii n

pub line_ascii : IsAscii LINE.now
line_ascii = is_ascii_is LINE.now refl

pub line_length : length LINE.now ≡ 129
line_length = refl

pub few_levels : (n : ℕ) → n ≤ 64 → slice_range LINE.now 1 (1 + 2 * n) ≡ spaces n
few_levels n h = (bytes_eq-Decides (slice_range LINE.now 1 (1 + 2 * n)) (spaces n)).0
    (agree_below_at (λ k. bytes_eq (slice_range LINE.now 1 (1 + 2 * k)) (spaces k)) (λ k. true) 65 n
    refl (omega arith))

pub short_line : (n : ℕ) → n ≤ 64 → slice_range LINE.now 0 (1 + 2 * n) ≡ indent n
unfolding indent
short_line n h = (bytes_eq-Decides (slice_range LINE.now 0 (1 + 2 * n)) (indent n)).0
    (agree_below_at (λ k. bytes_eq (slice_range LINE.now 0 (1 + 2 * k)) (indent k)) (λ k. true) 65 n
    refl (omega arith))

pub levels_left : (old new text : List ℕ) (m n : ℕ) → m ≤ n → new ≡ old ++ text → text ≡ spaces m →
    new ++ spaces (n - m) ≡ old ++ spaces n
levels_left old new text m n h e t = rw (e, t, append_assoc, spaces_add m (n - m))
    (ap (λ k. old ++ spaces k) (omega (arith, h)))

pub indent_left : (old new text out : List ℕ) (m n : ℕ) → m ≤ n → new ≡ old ++ text →
    text ≡ indent m → out ≡ new ++ spaces (n - m) → out ≡ old ++ indent n
unfolding indent
indent_left old new text out m n h e t o = rw (o, e, t, append_assoc, spaces_add m (n - m))
    (ap (λ k. old ++ 10 ∷ spaces k) (omega (arith, h)))
