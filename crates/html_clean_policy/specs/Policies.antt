-- Which elements a policy lets stay.
use Rattle.std.specs.Prelude.{◌≡◌, ℕ, Bool, true, not, ◌&&◌, ◌||◌, List, [], ◌++◌, codes, Option}
use Rattle.html_names_core.specs.Names.{listed_names, stands_in}
use Rattle.html_page_names.specs.{ForeignNames.{keeps_case}, PageNames.{of}}
use Rattle.html_clean_policy.specs.Sound.{are_sound}
use Rattle.html_page_names.specs.declared.kind.Kind.TheVariants as kind

pub record PolicyView : Type 0 where
  -- the names of the elements that may stay
  pub elements : List (List ℕ)
  -- the attributes that may stay on each of them
  pub attrs : List (List ℕ)
  -- elements, each with an attribute that may stay on it
  pub own_attrs : List (List ℕ × List ℕ)
  -- whether attributes may stay whose names begin with `data-`
  pub data_attrs : Bool
  -- the schemes of URLs, in small letters
  pub schemes : List (List ℕ)
  -- whether URLs without a scheme stay
  pub relative : Bool
  -- the properties of css that stay in `style`
  pub properties : List (List ℕ)
  -- what stands before each id and each name of a place; empty: nothing
  pub prefix : List ℕ
  -- the `rel` of each link; none: links keep their own
  pub rel : Option (List ℕ)

-- elements that run code, load or hide what they contain, or change how what follows is read,
-- beside those of the kinds in `is_dropped`
abbrev pub dropped_names : List (List ℕ)
dropped_names =
    listed_names (codes "applet base embed frameset link meta noscript object plaintext")

unfoldable pub has_dropped_kind : (name : List ℕ) → Bool
has_dropped_kind name =
    of kind.Raw name || of kind.Template name || of kind.Svg name || of kind.Math name

unfoldable pub has_dropped_name : (name : List ℕ) → Bool
has_dropped_name name = stands_in dropped_names name

-- whether an element of that name goes with all that is in it, whatever the policy
unfoldable pub is_dropped : (name : List ℕ) → Bool
is_dropped name = has_dropped_kind name || has_dropped_name name

-- elements that a body can't contain as they are written: a parser ignores or renames their start
-- tags (HTML Standard 13.2.6.4.7), reads an end tag where none is written or none where one is, or
-- fills them
abbrev pub unkept_names : List (List ℕ)
unkept_names =
    listed_names (codes "basefont bgsound body frame head html image keygen listing mprescripts")
    ++ listed_names (codes "mspace param selectedcontent")

-- whether an element of that name gives place to its children, whatever the policy: it has one of
-- these names, or capitals
unfoldable pub is_never_kept : (name : List ℕ) → Bool
is_never_kept name = not (keeps_case [] name) || stands_in unkept_names name

-- whether an element of that name stays
unfoldable pub allows : PolicyView → (name : List ℕ) → Bool
allows p name = stands_in p.elements name && not (is_dropped name) && not (is_never_kept name)

-- what each policy ensures of its texts
abbrev pub IsSound : PolicyView → Type 0
IsSound p = are_sound p.properties p.prefix p.rel ≡ true
