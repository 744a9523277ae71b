-- Kinds of elements, by their names: this project's profile of HTML Standard 3.2.5 and 13.1.2.
use Rattle.std.specs.Prelude.{◌++◌, ℕ, Bool, false, not, ◌&&◌, ◌||◌, List, codes, Option, Some, None}
use Rattle.html_names_core.specs.{Displays.{default_display, is_border, is_hidden}, Names.{listed_names, stands_in}}
use Rattle.html_names_core.specs.declared.property.Display.{Display}

abbrev pub void_names : List (List ℕ)
void_names = listed_names (codes "area base br col embed hr img input link meta source track wbr")

unfoldable pub is_void : List ℕ → Bool
is_void name = stands_in void_names name

abbrev pub raw_names : List (List ℕ)
raw_names = listed_names (codes "script style")

unfoldable pub is_raw : List ℕ → Bool
is_raw name = stands_in raw_names name

abbrev pub escapable_raw_names : List (List ℕ)
escapable_raw_names = listed_names (codes "textarea title")

unfoldable pub is_escapable_raw : List ℕ → Bool
is_escapable_raw name = stands_in escapable_raw_names name

abbrev pub foreign_self_closing_names : List (List ℕ)
foreign_self_closing_names = listed_names (codes "mprescripts mspace")

unfoldable pub is_foreign_self_closing : List ℕ → Bool
is_foreign_self_closing name = stands_in foreign_self_closing_names name

abbrev pub mathml_names : List (List ℕ)
mathml_names =
    listed_names (codes "annotation annotation-xml maction math merror mfrac mi mmultiscripts mn mo")
    ++ listed_names (codes "mover mpadded mphantom mprescripts mroot mrow ms mspace msqrt mstyle msub")
    ++ listed_names (codes "msubsup msup mtable mtd mtext mtr munder munderover semantics")

unfoldable pub is_mathml : List ℕ → Bool
is_mathml name = stands_in mathml_names name

abbrev pub is_foreign : List ℕ → Bool
is_foreign = is_mathml

-- MathML's token elements
abbrev pub token_names : List (List ℕ)
token_names = listed_names (codes "mtext mi mn mo mspace ms")

unfoldable pub is_token : List ℕ → Bool
is_token name = stands_in token_names name

abbrev pub metadata_content_names : List (List ℕ)
metadata_content_names = listed_names (codes "base link meta noscript script style template title")

unfoldable pub is_metadata_content : List ℕ → Bool
is_metadata_content name = stands_in metadata_content_names name

abbrev pub sectioning_content_names : List (List ℕ)
sectioning_content_names = listed_names (codes "article aside nav section")

unfoldable pub is_sectioning_content : List ℕ → Bool
is_sectioning_content name = stands_in sectioning_content_names name

abbrev pub heading_content_names : List (List ℕ)
heading_content_names = listed_names (codes "h1 h2 h3 h4 h5 h6 hgroup")

unfoldable pub is_heading_content : List ℕ → Bool
is_heading_content name = stands_in heading_content_names name

abbrev pub phrasing_content_names : List (List ℕ)
phrasing_content_names =
    listed_names (codes "a abbr area audio b bdi bdo br button canvas cite code data datalist del dfn")
    ++ listed_names (codes "em embed i iframe img input ins kbd label link map mark math meta meter")
    ++ listed_names (codes "noscript object output picture progress q ruby s samp script select slot")
    ++ listed_names (codes "small span strong sub sup template textarea time u var video wbr")

unfoldable pub is_phrasing_content : List ℕ → Bool
is_phrasing_content name = stands_in phrasing_content_names name

-- flow content that is not phrasing content
abbrev pub flow_beside_phrasing_names : List (List ℕ)
flow_beside_phrasing_names =
    listed_names (codes "address article aside blockquote details dialog div dl fieldset figure")
    ++ listed_names (codes "footer form h1 h2 h3 h4 h5 h6 header hgroup hr main menu nav ol p pre search")
    ++ listed_names (codes "section table ul")

unfoldable pub is_flow_beside_phrasing : List ℕ → Bool
is_flow_beside_phrasing name = stands_in flow_beside_phrasing_names name

abbrev pub is_flow_content : List ℕ → Bool
is_flow_content name = is_phrasing_content name || is_flow_beside_phrasing name

-- flow content that is not palpable
abbrev pub not_palpable_names : List (List ℕ)
not_palpable_names =
    listed_names (codes "area br datalist dialog hr link meta noscript script slot template wbr")

unfoldable pub is_not_palpable : List ℕ → Bool
is_not_palpable name = stands_in not_palpable_names name

abbrev pub is_palpable_content : List ℕ → Bool
is_palpable_content name = is_flow_content name && not (is_not_palpable name)

abbrev pub embedded_content_names : List (List ℕ)
embedded_content_names = listed_names (codes "audio canvas embed iframe img math object picture video")

unfoldable pub is_embedded_content : List ℕ → Bool
is_embedded_content name = stands_in embedded_content_names name

abbrev pub interactive_content_names : List (List ℕ)
interactive_content_names =
    listed_names (codes "a audio button details embed iframe img input label select textarea video")

unfoldable pub is_interactive_content : List ℕ → Bool
is_interactive_content name = stands_in interactive_content_names name

abbrev pub script_supporting_element_names : List (List ℕ)
script_supporting_element_names = listed_names (codes "script template")

unfoldable pub is_script_supporting_element : List ℕ → Bool
is_script_supporting_element name = stands_in script_supporting_element_names name

abbrev pub replaced_names : List (List ℕ)
replaced_names = listed_names (codes "audio canvas embed iframe img input object video")

unfoldable pub is_replaced : List ℕ → Bool
is_replaced name = stands_in replaced_names name

abbrev pub line_break_names : List (List ℕ)
line_break_names = listed_names (codes "br")

abbrev pub is_line_break : List ℕ → Bool
is_line_break name = stands_in line_break_names name

abbrev pub shows_border : Option Display → Bool
shows_border None = false
shows_border (Some d) = is_border d

-- whether the default display makes a border, or the element is `br`
abbrev pub is_whitespace_collapsing : List ℕ → Bool
is_whitespace_collapsing name = is_line_break name || shows_border (default_display name)

-- whether the element is phrasing content and not hidden by default
abbrev pub should_group_into_pars : List ℕ → Bool
should_group_into_pars name = is_phrasing_content name && not (is_hidden (default_display name))
