-- Tables of names.
use Rattle.std.specs.{Borrow.{Bor}, List.{list_all}, Prelude.{ℕ, Bool, ◌&&◌, List, map}}
use Rattle.html_page_names.specs.Capitals.{is_name}

-- the texts that references refer to
abbrev pub text_pairs : List (Bor (List ℕ) × Bor (List ℕ)) → List (List ℕ × List ℕ)
text_pairs = map (λ p. (p.0.now, p.1.now))

-- whether each text may be the name of a tag and of an attribute
abbrev pub are_name_pairs : List (List ℕ × List ℕ) → Bool
are_name_pairs = list_all (λ p. is_name p.0 && is_name p.1)
