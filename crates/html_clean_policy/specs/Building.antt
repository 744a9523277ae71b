-- Policies with one more thing that stays.
use Rattle.std.specs.List.{list_all}
use Rattle.std.specs.Prelude.{ℕ, Bool, true, false, not, ◌&&◌, ◌||◌, ◌==◌, List, [], ◌∷◌, ◌++◌, Some, None}
use Rattle.html_names_core.specs.Characters.{is_digit, is_lower}
use Rattle.html_clean_policy.specs.Policies.{PolicyView, is_dropped, is_never_kept}

-- no element, no attribute, no URL
abbrev pub nothing : PolicyView
nothing = record {
  elements = [];
  attrs = [];
  own_attrs = [];
  data_attrs = false;
  schemes = [];
  relative = false;
  properties = [];
  prefix = [];
  rel = None;
}

-- whether a policy can keep an element of that name
unfoldable pub can_keep : (name : List ℕ) → Bool
can_keep name = not (is_dropped name) && not (is_never_kept name)

-- a small letter, a digit, `+`, `-` or `.`
abbrev pub is_scheme_char : ℕ → Bool
is_scheme_char c = is_lower c || is_digit c || (c == 43) || (c == 45) || (c == 46)

-- a scheme of a URL in small letters (URL Standard 4.1)
abbrev pub is_scheme : List ℕ → Bool
is_scheme [] = false
is_scheme (c ∷ cs) = is_lower c && list_all is_scheme_char cs

abbrev pub with_element : (name : List ℕ) → PolicyView → PolicyView
with_element name p = record p { elements = p.elements ++ name ∷ [] }

abbrev pub with_attr : (name : List ℕ) → PolicyView → PolicyView
with_attr name p = record p { attrs = p.attrs ++ name ∷ [] }

abbrev pub with_own_attr : (element name : List ℕ) → PolicyView → PolicyView
with_own_attr element name p = record p { own_attrs = p.own_attrs ++ (element, name) ∷ [] }

abbrev pub with_scheme : (scheme : List ℕ) → PolicyView → PolicyView
with_scheme scheme p = record p { schemes = p.schemes ++ scheme ∷ [] }

abbrev pub with_property : (property : List ℕ) → PolicyView → PolicyView
with_property property p = record p { properties = p.properties ++ property ∷ [] }

abbrev pub with_prefix : (prefix : List ℕ) → PolicyView → PolicyView
with_prefix prefix p = record p { prefix = prefix }

abbrev pub with_rel : (rel : List ℕ) → PolicyView → PolicyView
with_rel rel p = record p { rel = Some rel }

abbrev pub with_data_attrs : PolicyView → PolicyView
with_data_attrs p = record p { data_attrs = true }

abbrev pub with_relative : PolicyView → PolicyView
with_relative p = record p { relative = true }

abbrev pub without_rel : PolicyView → PolicyView
without_rel p = record p { rel = None }

abbrev pub without_relative : PolicyView → PolicyView
without_relative p = record p { relative = false }
