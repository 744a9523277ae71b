-- The place to which an `href` to a fragment of its own page leads in a browser: the URL Standard
-- parses it (4.4, URL parsing), the fragment loses its directive (URL Fragment Text Directives), and
-- the HTML Standard finds the place (7.4.6.3, scrolling to a fragment).
use Rattle.std.specs.{Char.{to_ascii_lowercase}, List.{filter}}
use Rattle.std.specs.Prelude.{◌≡◌, ℕ, Bool, true, not, ◌||◌, ◌==◌, nat_lt, List, [], ◌∷◌, ◌++◌, map, chars, codes, bytes_eq, if◌then◌else◌, Option, Some, None, is_some, option_to_list}
use Rattle.std.specs.Str.Lossy.{utf8_lossy}
use Rattle.percent_encoding.specs.Percent.{percent_decode}
use Rattle.html_dom_tree.specs.{Attributes.{first}, Tree.{TextPair, NodesView, ElementView}}
use Rattle.html_links.specs.{Directives.{without_directive}, Spellings.{encoding, is_in_fragment_set}}
use Rattle.html_links.specs.TreeNames.{Name, frame_names, gathered_names}

-- the names of places

-- the first `name` of an `a`
abbrev pub link_name : (name : List ℕ) → (attrs : List TextPair) → Option Name
link_name name attrs = if bytes_eq name (codes "a") then first attrs (codes "name") else None

-- the names of an element as a place: its first `id`, and the first `name` of an `a`
abbrev pub place_names : (name : List ℕ) → (attrs : List TextPair) → List Name
place_names name attrs =
    option_to_list (first attrs (codes "id")) ++ option_to_list (link_name name attrs)

-- the names of all elements as places, and the ids and anchors of frames
abbrev pub nodes_places : NodesView → List Name
nodes_places = gathered_names (λ h. place_names h.name h.attrs) frame_names

-- the names of the places of a whole tree, including the root
abbrev pub element_places : ElementView → List Name
element_places e = place_names e.0.name e.0.attrs ++ nodes_places e.1

-- the fragment of an `href`

-- whether a character is a control or a space, which a URL drops at its ends
abbrev pub is_control_or_space : ℕ → Bool
is_control_or_space c = nat_lt c 33

-- whether a character is a tab, a line feed or a carriage return, which a URL drops
abbrev pub is_dropped : ℕ → Bool
is_dropped c = (c == 9) || (c == 10) || (c == 13)

abbrev pub is_kept : ℕ → Bool
is_kept c = not (is_dropped c)

abbrev pub before_end : ℕ → List ℕ → List ℕ
before_end c [] = if is_control_or_space c then [] else c ∷ []
before_end c (d ∷ ds) = c ∷ d ∷ ds

abbrev pub without_end_blanks : List ℕ → List ℕ
without_end_blanks [] = []
without_end_blanks (c ∷ cs) = before_end c (without_end_blanks cs)

abbrev pub unless_empty : List ℕ → List (List ℕ)
unless_empty [] = []
unless_empty (c ∷ cs) = (c ∷ cs) ∷ []

-- the text behind the `#` with which an `href` begins, past blanks
abbrev pub behind_hash : (href : List ℕ) → Option (List ℕ)
behind_hash [] = None
behind_hash (c ∷ cs) = if c == 35 then Some cs
    else (if is_control_or_space c then behind_hash cs else None)

-- the end of a URL as it is parsed
abbrev pub url_end : List ℕ → List ℕ
url_end cs = without_end_blanks (filter is_kept cs)

abbrev pub fragments_behind : Option (List ℕ) → List (List ℕ)
fragments_behind None = []
fragments_behind (Some cs) = unless_empty (without_directive (url_end cs))

-- the fragment of an `href` that begins with `#`, without its directive, unless it is empty: `#`
-- alone leads to the top of the page
abbrev pub fragments_in : (href : List ℕ) → List (List ℕ)
fragments_in href = fragments_behind (behind_hash href)

-- the place that it leads to

-- a fragment as the URL of the document has it
abbrev pub url_fragment : (fragment : List ℕ) → List ℕ
url_fragment fragment = encoding is_in_fragment_set (without_directive fragment)

-- the percent-decoded fragment, read as UTF-8 with U+FFFD for bytes that are not UTF-8
unfoldable pub decoding : (url_fragment : List ℕ) → List ℕ
decoding f = utf8_lossy (percent_decode f)

-- the name, if a place has it
abbrev pub if_place : (is_place : Name → Bool) → Name → Option Name
if_place is_place name = if is_place name then Some name else None

-- the name of the place: the fragment as the URL has it, or else the text that it decodes to
abbrev pub indicated_by : (is_place : Name → Bool) → (as_it_is decoded : Name) → Option Name
indicated_by is_place as_it_is decoded =
    if is_place as_it_is then Some as_it_is else if_place is_place decoded

-- no place has the name of an empty fragment, which leads to the top of the page
abbrev pub indicated_at : (is_place : Name → Bool) → (url_fragment : List ℕ) → Option Name
indicated_at is_place [] = None
indicated_at is_place (c ∷ cs) = indicated_by is_place (c ∷ cs) (chars (decoding (c ∷ cs)))

unfoldable pub indicated_name : (is_place : Name → Bool) → (fragment : List ℕ) → Option Name
indicated_name is_place fragment = indicated_at is_place (url_fragment fragment)

-- whether a fragment that indicates no place leads to the top of the page: it is empty, or it decodes
-- to `top`, in any ASCII case
abbrev pub is_top : (decoded : List ℕ) → Bool
is_top bytes = bytes_eq (map to_ascii_lowercase bytes) (codes "top")

abbrev pub leads_to_top : (url_fragment : List ℕ) → Bool
leads_to_top [] = true
leads_to_top (c ∷ cs) = is_top (decoding (c ∷ cs))

-- whether a fragment leads to a place or to the top of the page
unfoldable pub leads : (is_place : Name → Bool) → (fragment : List ℕ) → Bool
leads is_place fragment =
    is_some (indicated_name is_place fragment) || leads_to_top (url_fragment fragment)

-- the place that an `href` leads to

abbrev pub decoded_name : (fragment : List ℕ) → Name
decoded_name fragment = chars (decoding (url_fragment fragment))

abbrev pub name_among : (is_place : Name → Bool) → (fragments : List (List ℕ)) → Option Name
name_among is_place [] = None
name_among is_place (f ∷ fs) = indicated_name is_place f

-- the name of the place to which an `href` leads, if it leads to one
abbrev pub place_in : (is_place : Name → Bool) → (href : List ℕ) → Option Name
place_in is_place href = name_among is_place (fragments_in href)

-- the names that the fragment of an `href` decodes to: one, if it has a fragment
abbrev pub decoded_fragments : (href : List ℕ) → List Name
decoded_fragments href = map decoded_name (fragments_in href)

-- an `href` leads to a name, given the names of places: the fragment that a browser takes from it
-- indicates the place with that name
pub record LeadsTo (is_place : Name → Bool) (href : List ℕ) (name : Name) : Type 0 where
  pub fragment : List ℕ
  pub taken : fragments_in href ≡ fragment ∷ []
  pub indicates : indicated_name is_place fragment ≡ Some name
