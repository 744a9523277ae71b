-- Laws of spellings that lead.
use Rattle.std.specs.Prelude.{◌≡◌, ℕ, Bool, true, List, Some}
use lib.Utf8.{scalars}
use Rattle.html_links.specs.{Indicated.{LeadsTo}, Spellings.{some_name, href_to, leading_href, plain_spelling}, TreeNames.{Name}}

-- the `href` chosen for the name of a place leads to it
abbrev pub LeadingHrefsLead : Type 0
LeadingHrefsLead = (is_place : Name → Bool) (name : Name) (href : List ℕ) → scalars name ≡ true →
    some_name (Some name) ≡ Some name → is_place name ≡ true →
    leading_href is_place (Some name) ≡ Some href → LeadsTo is_place href name

-- the plain `href` of a place's name leads to it unless another place has its spelling as its own
-- name
abbrev pub PlainHrefsLead : Type 0
PlainHrefsLead = (is_place : Name → Bool) (name : Name) → scalars name ≡ true →
    some_name (Some name) ≡ Some name → is_place name ≡ true →
    (is_place (plain_spelling name) ≡ true → plain_spelling name ≡ name) →
    LeadsTo is_place (href_to name) name
