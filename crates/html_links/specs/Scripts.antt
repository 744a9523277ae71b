-- Addresses that a browser runs instead of opening them.
use Rattle.std.specs.{Char.{to_ascii_lowercase}, List.{filter}}
use Rattle.std.specs.Prelude.{ℕ, Bool, true, false, ◌&&◌, ◌||◌, ◌==◌, List, [], ◌∷◌, codes, if◌then◌else◌}
use Rattle.html_links.specs.Indicated.{is_control_or_space, is_kept}

-- the text behind leading blanks
abbrev pub past_blanks : List ℕ → List ℕ
past_blanks [] = []
past_blanks (c ∷ cs) = if is_control_or_space c then past_blanks cs else c ∷ cs

-- the beginning of a URL as it is parsed (URL Standard 4.4): controls and spaces before it are
-- dropped, and tabs, line feeds and carriage returns in it
abbrev pub url_begin : (href : List ℕ) → List ℕ
url_begin href = filter is_kept (past_blanks href)

-- whether a text begins with `small`, in any ASCII case
unfoldable pub begins : (small text : List ℕ) → Bool
begins [] text = true
begins (x ∷ xs) [] = false
begins (x ∷ xs) (c ∷ cs) = (to_ascii_lowercase c == x) && begins xs cs

-- whether a URL is a script: `javascript:` and `vbscript:` are run, and a page in `data:` runs its
-- own scripts
abbrev pub is_script_url : (url : List ℕ) → Bool
is_script_url url =
    begins (codes "javascript:") url || begins (codes "data:") url || begins (codes "vbscript:") url

abbrev pub href_is_script : (href : List ℕ) → Bool
href_is_script href = is_script_url (url_begin href)
