-- The ready policies.
use Rattle.std.specs.Prelude.{ℕ, true, false, List, [], ◌∷◌, ◌++◌, codes, Some}
use Rattle.html_names_core.specs.Names.{listed_names}
use Rattle.html_clean_policy.specs.Policies.{PolicyView}

-- an article, such as a page of documentation from elsewhere

unfoldable pub article_elements : List (List ℕ)
article_elements =
    listed_names (codes "a abbr b bdo blockquote br caption cite code dd del details dfn")
    ++ listed_names (codes "div dl dt em figcaption figure h1 h2 h3 h4 h5 h6 h7 h8 hr i img")
    ++ listed_names (codes "ins kbd li mark ol p picture pre q rp rt ruby s samp small source")
    ++ listed_names (codes "span strike strong sub summary sup table tbody td tfoot th thead")
    ++ listed_names (codes "time tr tt ul var wbr")

unfoldable pub article_attrs : List (List ℕ)
article_attrs =
    listed_names (codes "abbr accept accept-charset accesskey action align alt")
    ++ listed_names (codes "aria-describedby aria-hidden aria-label aria-labelledby axis")
    ++ listed_names (codes "border cellpadding cellspacing char charoff charset checked clear")
    ++ listed_names (codes "cols colspan compact coords datetime dir disabled enctype for")
    ++ listed_names (codes "frame headers height hreflang hspace id ismap itemprop label lang")
    ++ listed_names (codes "maxlength media method multiple nohref noshade nowrap open")
    ++ listed_names (codes "progress prompt readonly rel rev role rows rowspan rules scope")
    ++ listed_names (codes "selected shape size span start summary tabindex title type usemap")
    ++ listed_names (codes "valign value vspace width")

unfoldable pub article_own_attrs : List (List ℕ × List ℕ)
article_own_attrs =
    (codes "a", codes "href") ∷
    (codes "a", codes "name") ∷
    (codes "blockquote", codes "cite") ∷
    (codes "del", codes "cite") ∷
    (codes "div", codes "itemscope") ∷
    (codes "div", codes "itemtype") ∷
    (codes "img", codes "loading") ∷
    (codes "img", codes "longdesc") ∷
    (codes "img", codes "name") ∷
    (codes "img", codes "src") ∷
    (codes "ins", codes "cite") ∷
    (codes "q", codes "cite") ∷
    (codes "source", codes "srcset") ∷ []

unfoldable pub web_schemes : List (List ℕ)
web_schemes = listed_names (codes "http https mailto")

unfoldable pub article_prefix : List ℕ
article_prefix = codes "user-content-"

unfoldable pub web_rel : List ℕ
web_rel = codes "nofollow"

abbrev pub article : PolicyView
article = record {
  elements = article_elements;
  attrs = article_attrs;
  own_attrs = article_own_attrs;
  data_attrs = false;
  schemes = web_schemes;
  relative = true;
  properties = [];
  prefix = article_prefix;
  rel = Some web_rel;
}

-- a line of text, such as a comment

unfoldable pub inline_elements : List (List ℕ)
inline_elements =
    listed_names (codes "a abbr b bdi bdo br cite code data del dfn em i ins kbd mark q rp")
    ++ listed_names (codes "rt ruby s samp small span strong sub sup time u var wbr")

unfoldable pub inline_attrs : List (List ℕ)
inline_attrs =
    listed_names (codes "dir lang title")

unfoldable pub inline_own_attrs : List (List ℕ × List ℕ)
inline_own_attrs =
    (codes "a", codes "href") ∷
    (codes "data", codes "value") ∷
    (codes "del", codes "cite") ∷
    (codes "del", codes "datetime") ∷
    (codes "ins", codes "cite") ∷
    (codes "ins", codes "datetime") ∷
    (codes "q", codes "cite") ∷
    (codes "time", codes "datetime") ∷ []

abbrev pub inline : PolicyView
inline = record {
  elements = inline_elements;
  attrs = inline_attrs;
  own_attrs = inline_own_attrs;
  data_attrs = false;
  schemes = web_schemes;
  relative = true;
  properties = [];
  prefix = [];
  rel = Some web_rel;
}

-- a mail

unfoldable pub mail_elements : List (List ℕ)
mail_elements =
    listed_names (codes "a abbr address b big blockquote br caption center cite code col")
    ++ listed_names (codes "colgroup dd del dfn div dl dt em font h1 h2 h3 h4 h5 h6 hr i img")
    ++ listed_names (codes "ins kbd li ol p pre q s samp small span strike strong sub sup")
    ++ listed_names (codes "table tbody td tfoot th thead tr tt u ul var wbr")

unfoldable pub mail_attrs : List (List ℕ)
mail_attrs =
    listed_names (codes "abbr align alt axis bgcolor border cellpadding cellspacing char")
    ++ listed_names (codes "charoff clear color colspan compact dir face frame height hspace")
    ++ listed_names (codes "lang noshade nowrap rowspan rules scope size span start style")
    ++ listed_names (codes "summary title type valign value vspace width")

unfoldable pub mail_own_attrs : List (List ℕ × List ℕ)
mail_own_attrs =
    (codes "a", codes "href") ∷
    (codes "blockquote", codes "cite") ∷
    (codes "img", codes "src") ∷ []

-- `cid` names a part of the mail (RFC 2392)
unfoldable pub mail_schemes : List (List ℕ)
mail_schemes = listed_names (codes "cid http https mailto tel")

unfoldable pub mail_properties : List (List ℕ)
mail_properties =
    listed_names (codes "background-color border border-bottom border-bottom-color")
    ++ listed_names (codes "border-bottom-style border-bottom-width border-collapse")
    ++ listed_names (codes "border-color border-left border-left-color border-left-style")
    ++ listed_names (codes "border-left-width border-right border-right-color")
    ++ listed_names (codes "border-right-style border-right-width border-spacing border-style")
    ++ listed_names (codes "border-top border-top-color border-top-style border-top-width")
    ++ listed_names (codes "border-width caption-side clear color direction empty-cells float")
    ++ listed_names (codes "font font-family font-size font-style font-variant font-weight")
    ++ listed_names (codes "height letter-spacing line-height list-style-position")
    ++ listed_names (codes "list-style-type margin margin-bottom margin-left margin-right")
    ++ listed_names (codes "margin-top max-height max-width min-height min-width overflow")
    ++ listed_names (codes "padding padding-bottom padding-left padding-right padding-top")
    ++ listed_names (codes "table-layout text-align text-decoration text-indent text-transform")
    ++ listed_names (codes "vertical-align white-space width word-break word-spacing word-wrap")

unfoldable pub mail_rel : List ℕ
mail_rel = codes "nofollow noopener noreferrer"

abbrev pub mail : PolicyView
mail = record {
  elements = mail_elements;
  attrs = mail_attrs;
  own_attrs = mail_own_attrs;
  data_attrs = false;
  schemes = mail_schemes;
  relative = false;
  properties = mail_properties;
  prefix = [];
  rel = Some mail_rel;
}
