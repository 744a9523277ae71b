-- What the value of an attribute is, by its name (HTML Standard, the index of attributes; HTML 4.01
-- and browsers for those that it has no more).
use Rattle.std.specs.Prelude.{ℕ, Bool, List, ◌++◌, codes, if◌then◌else◌}
use Rattle.html_names_core.specs.Names.{listed_names, stands_in}
use Rattle.html_clean_policy.specs.declared.attr_use.AttrUse.{AttrUse}
use Rattle.html_clean_policy.specs.declared.attr_use.AttrUse.TheVariants as as_

unfoldable pub holds_style : (name : List ℕ) → Bool
holds_style name = stands_in (listed_names (codes "style")) name

-- a URL that may be a fragment of the page
unfoldable pub holds_link : (name : List ℕ) → Bool
holds_link name = stands_in (listed_names (codes "href usemap")) name

abbrev pub url_names : List (List ℕ)
url_names =
    listed_names (codes "action background cite classid codebase data dynsrc formaction icon")
    ++ listed_names (codes "longdesc lowsrc manifest poster profile src xlink:href xml:base")

-- another URL
unfoldable pub holds_url : (name : List ℕ) → Bool
holds_url name = stands_in url_names name

-- URLs that white space separates
unfoldable pub holds_urls : (name : List ℕ) → Bool
holds_urls name = stands_in (listed_names (codes "archive ping")) name

-- image candidates
unfoldable pub holds_srcset : (name : List ℕ) → Bool
holds_srcset name = stands_in (listed_names (codes "imagesrcset srcset")) name

abbrev pub name_names : List (List ℕ)
name_names =
    listed_names (codes "aria-activedescendant commandfor for form id list name popovertarget")

-- the name of a place or part of the page
unfoldable pub holds_name : (name : List ℕ) → Bool
holds_name name = stands_in name_names name

abbrev pub name_list_names : List (List ℕ)
name_list_names =
    listed_names (codes "aria-controls aria-describedby aria-details aria-errormessage aria-flowto")
    ++ listed_names (codes "aria-labelledby aria-owns headers itemref")

-- such names, which white space separates
unfoldable pub holds_names : (name : List ℕ) → Bool
holds_names name = stands_in name_list_names name

unfoldable pub use_of : (name : List ℕ) → AttrUse
use_of name = if holds_style name then as_.Style
    else (if holds_link name then as_.Link
    else (if holds_url name then as_.Url
    else (if holds_urls name then as_.Urls
    else (if holds_srcset name then as_.Srcset
    else (if holds_name name then as_.Name
    else (if holds_names name then as_.Names else as_.Text))))))
