-- Kinds of elements that the reader of a page distinguishes, by their names (HTML Standard 13.2.4
-- and 13.2.6), with scripting disabled.
use Rattle.std.specs.Prelude.{ℕ, Bool, List, ◌++◌, bytes_eq, codes}
use Rattle.html_names_core.specs.Names.{listed_names, stands_in}
use Rattle.html_page_names.specs.declared.kind.Kind.{Kind}
use Rattle.html_page_names.specs.declared.kind.Kind.TheVariants as kind

-- whether two names are equal
abbrev pub is : (name : List ℕ) → List ℕ → Bool
is name n = bytes_eq n name

-- the names of each kind
abbrev pub kind_names : Kind → List (List ℕ)
kind_names kind.A = listed_names (codes "a")
kind_names kind.AnnotationXml = listed_names (codes "annotation-xml")
kind_names kind.Body = listed_names (codes "body")
kind_names kind.Br = listed_names (codes "br")
kind_names kind.Button = listed_names (codes "button")
kind_names kind.Caption = listed_names (codes "caption")
kind_names kind.Cell = listed_names (codes "td th")
kind_names kind.Col = listed_names (codes "col")
kind_names kind.Colgroup = listed_names (codes "colgroup")
kind_names kind.DescriptionPart = listed_names (codes "dd dt")
kind_names kind.Font = listed_names (codes "font")
kind_names kind.Form = listed_names (codes "form")
kind_names kind.Head = listed_names (codes "head")
kind_names kind.Hr = listed_names (codes "hr")
kind_names kind.Html = listed_names (codes "html")
kind_names kind.Image = listed_names (codes "image")
kind_names kind.Input = listed_names (codes "input")
kind_names kind.ListItem = listed_names (codes "li")
kind_names kind.Math = listed_names (codes "math")
kind_names kind.Nobr = listed_names (codes "nobr")
kind_names kind.Noscript = listed_names (codes "noscript")
kind_names kind.Optgroup = listed_names (codes "optgroup")
kind_names kind.Option = listed_names (codes "option")
kind_names kind.P = listed_names (codes "p")
kind_names kind.Rtc = listed_names (codes "rtc")
kind_names kind.Ruby = listed_names (codes "ruby")
kind_names kind.Script = listed_names (codes "script")
kind_names kind.Select = listed_names (codes "select")
kind_names kind.Svg = listed_names (codes "svg")
kind_names kind.Table = listed_names (codes "table")
kind_names kind.Template = listed_names (codes "template")
kind_names kind.Tr = listed_names (codes "tr")
kind_names kind.Root = listed_names (codes "body html")
kind_names kind.Frameset = listed_names (codes "frameset")
kind_names kind.Plaintext = listed_names (codes "plaintext")
-- elements in the head without an end tag
kind_names kind.HeadLeaf = listed_names (codes "base basefont bgsound link meta")
-- RCDATA: text in which references are read
kind_names kind.EscapableRaw = listed_names (codes "textarea title")
-- elements of text alone: RCDATA, RAWTEXT and script data
kind_names kind.Raw = listed_names (codes "iframe noembed noframes script style textarea title xmp")
kind_names kind.ScriptOrStyle = listed_names (codes "script style")
-- the content of the head, which begins no body (13.2.6.4.4)
kind_names kind.HeadContent =
    listed_names (codes "base basefont bgsound link meta noframes script style template title")
-- the content of a `noscript` in the head (13.2.6.4.5)
kind_names kind.NoscriptContent = listed_names (codes "basefont bgsound link meta noframes style")
-- formatting elements (13.2.4.3)
kind_names kind.Formatting =
    listed_names (codes "a b big code em font i nobr s small strike strong tt u")
-- elements that hide the formatting elements around them
kind_names kind.Marker = listed_names (codes "applet caption marquee object td template th")
-- elements in the body without an end tag
kind_names kind.Leaf =
    listed_names (codes "area br embed hr img input keygen param source track wbr")
kind_names kind.Heading = listed_names (codes "h1 h2 h3 h4 h5 h6")
-- elements whose end tags close everything open in them (13.2.6.4.7)
kind_names kind.ClosesInScope =
    listed_names (codes "address applet article aside blockquote button center details dialog dir")
    ++ listed_names (codes "div dl fieldset figcaption figure footer header hgroup listing main")
    ++ listed_names (codes "marquee menu nav object ol pre search section select summary ul")
-- elements whose start tags close a `p`
kind_names kind.ClosesP =
    listed_names (codes "address article aside blockquote center dd details dialog dir div dl dt")
    ++ listed_names (codes "fieldset figcaption figure footer form h1 h2 h3 h4 h5 h6 header hgroup")
    ++ listed_names (codes "hr li listing main menu nav ol p plaintext pre search section summary")
    ++ listed_names (codes "ul xmp")
-- elements before whose start tags no formatting elements are made again
kind_names kind.Unformatted =
    listed_names (codes "address article aside blockquote center dd details dialog dir div dl dt")
    ++ listed_names (codes "fieldset figcaption figure footer form h1 h2 h3 h4 h5 h6 header hgroup")
    ++ listed_names (codes "hr iframe li listing main menu nav noembed ol p param plaintext pre rb")
    ++ listed_names (codes "rp rt rtc search section source summary table textarea track ul")
-- elements whose end tag is implied (13.2.6.3)
kind_names kind.Implied = listed_names (codes "dd dt li optgroup option p rb rp rt rtc")
-- sections of a table
kind_names kind.Section = listed_names (codes "tbody tfoot thead")
kind_names kind.TablePart = listed_names (codes "caption col colgroup tbody td tfoot th thead tr")
-- elements whose start tags are ignored in a body
kind_names kind.Misplaced =
    listed_names (codes "caption col colgroup frame head tbody td tfoot th thead tr")
-- elements that an end tag of another name does not cross (13.2.4.2)
kind_names kind.Special =
    listed_names (codes "address applet area article aside base basefont bgsound blockquote body")
    ++ listed_names (codes "br button caption center col colgroup dd details dir div dl dt embed")
    ++ listed_names (codes "fieldset figcaption figure footer form frame frameset h1 h2 h3 h4 h5")
    ++ listed_names (codes "h6 head header hgroup hr html iframe img input keygen li link listing")
    ++ listed_names (codes "main marquee menu meta nav noembed noframes noscript object ol p param")
    ++ listed_names (codes "plaintext pre script search section select source style summary table")
    ++ listed_names (codes "tbody td template textarea tfoot th thead title tr track ul wbr xmp")
-- elements that bound a scope (13.2.4.2)
kind_names kind.BoundsScope =
    listed_names (codes "applet caption html marquee object select table td template th")
-- elements that bound only the scope of a list item
kind_names kind.BoundsList = listed_names (codes "ol ul")
-- special elements that do not end the search for a list item
kind_names kind.PassedByItems = listed_names (codes "address div p")
kind_names kind.RubyPart = listed_names (codes "rb rp rt rtc")
kind_names kind.RubyText = listed_names (codes "rp rt")
-- elements behind whose start tag a line feed is dropped
kind_names kind.DropsFeed = listed_names (codes "listing pre textarea")
-- elements whose start tags close SVG and MathML (13.2.6.5)
kind_names kind.Breakout =
    listed_names (codes "b big blockquote body br center code dd div dl dt em embed h1 h2 h3 h4 h5")
    ++ listed_names (codes "h6 head hr i img li listing menu meta nobr ol p pre ruby s small span")
    ++ listed_names (codes "strike strong sub sup table tt u ul var")
-- elements whose start tags are read as MathML in the text of MathML
kind_names kind.Glyph = listed_names (codes "malignmark mglyph")
-- elements of MathML in which text and elements of HTML stand
kind_names kind.MathText = listed_names (codes "mi mn mo ms mtext")
-- elements whose start tags rule out that a `frameset` takes the place of the body (13.2.6.4.7, the
-- frameset-ok flag); an `input` does so only if it is not hidden
kind_names kind.BarsFrameset =
    listed_names (codes "applet area body br button dd dt embed hr iframe image img input keygen li")
    ++ listed_names (codes "listing marquee object pre select table textarea wbr xmp")
-- elements of SVG in which text and elements of HTML stand
kind_names kind.SvgHtml = listed_names (codes "desc foreignObject title")

-- whether the name is one of the kind
unfoldable pub of : Kind → (name : List ℕ) → Bool
of kind name = stands_in (kind_names kind) name
