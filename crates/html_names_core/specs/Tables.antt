-- The known names, which take no memory, in ascending order.
use Rattle.std.specs.Prelude.{◌++◌, ℕ, Bool, List, codes}
use Rattle.html_names_core.specs.Names.{listed_names, stands_in}

unfoldable pub known_tags : List (List ℕ)
known_tags =
    listed_names (codes "a abbr address annotation annotation-xml area article aside audio b base bdi")
    ++ listed_names (codes "bdo blockquote body br button canvas caption cite code col colgroup data")
    ++ listed_names (codes "datalist dd del details dfn dialog div dl dt em embed fieldset figcaption")
    ++ listed_names (codes "figure footer form h1 h2 h3 h4 h5 h6 head header hgroup hr html i iframe img")
    ++ listed_names (codes "input ins kbd label legend li link maction main map mark math menu merror")
    ++ listed_names (codes "meta meter mfrac mi mmultiscripts mn mo mover mpadded mphantom mprescripts")
    ++ listed_names (codes "mroot mrow ms mspace msqrt mstyle msub msubsup msup mtable mtd mtext mtr")
    ++ listed_names (codes "munder munderover nav noscript object ol optgroup option output p picture")
    ++ listed_names (codes "pre progress q rp rt ruby s samp script search section select semantics slot")
    ++ listed_names (codes "small source span strong style sub summary sup table tbody td template")
    ++ listed_names (codes "textarea tfoot th thead time title tr track u ul var video wbr")

unfoldable pub known_attrs : List (List ℕ)
known_attrs =
    listed_names (codes "abbr accent accentunder accept accept-charset accesskey action allow")
    ++ listed_names (codes "allowfullscreen alpha alt aria-activedescendant aria-atomic")
    ++ listed_names (codes "aria-autocomplete aria-busy aria-checked aria-colcount aria-colindex")
    ++ listed_names (codes "aria-colspan aria-controls aria-current aria-describedby aria-details")
    ++ listed_names (codes "aria-disabled aria-errormessage aria-expanded aria-flowto aria-haspopup")
    ++ listed_names (codes "aria-hidden aria-invalid aria-keyshortcuts aria-label aria-labelledby")
    ++ listed_names (codes "aria-level aria-live aria-modal aria-multiline aria-multiselectable")
    ++ listed_names (codes "aria-orientation aria-owns aria-placeholder aria-posinset aria-pressed")
    ++ listed_names (codes "aria-readonly aria-relevant aria-required aria-roledescription aria-rowcount")
    ++ listed_names (codes "aria-rowindex aria-rowspan aria-selected aria-setsize aria-sort")
    ++ listed_names (codes "aria-valuemax aria-valuemin aria-valuenow aria-valuetext as async")
    ++ listed_names (codes "autocapitalize autocomplete autocorrect autofocus autoplay blocking charset")
    ++ listed_names (codes "checked cite class closedby color colorspace cols colspan columnspan command")
    ++ listed_names (codes "commandfor content contenteditable controls coords crossorigin data datetime")
    ++ listed_names (codes "decoding default defer dir dirname disabled display displaystyle download")
    ++ listed_names (codes "draggable enctype enterkeyhint fence fetchpriority for form formaction")
    ++ listed_names (codes "formenctype formmethod formnovalidate formtarget headers height hidden high")
    ++ listed_names (codes "href hreflang http-equiv id imagesizes imagesrcset inert inputmode integrity")
    ++ listed_names (codes "is ismap itemid itemprop itemref itemscope itemtype kind label lang largeop")
    ++ listed_names (codes "linethickness list loading loop low lspace mathvariant max maxlength maxsize")
    ++ listed_names (codes "media method min minlength minsize movablelimits multiple muted name")
    ++ listed_names (codes "nomodule nonce novalidate open optimum pattern ping placeholder playsinline")
    ++ listed_names (codes "popover popovertarget popovertargetaction poster preload readonly")
    ++ listed_names (codes "referrerpolicy rel required reversed role rows rowspan rspace sandbox scope")
    ++ listed_names (codes "scriptlevel selected separator shadowrootclonable")
    ++ listed_names (codes "shadowrootcustomelementregistry shadowrootdelegatesfocus shadowrootmode")
    ++ listed_names (codes "shadowrootserializable shape size sizes slot span spellcheck src srcdoc")
    ++ listed_names (codes "srclang srcset start step stretchy style symmetric tabindex target title")
    ++ listed_names (codes "translate type usemap value width wrap writingsuggestions")

abbrev pub is_known_tag : List ℕ → Bool
is_known_tag name = stands_in known_tags name

abbrev pub is_known_attr : List ℕ → Bool
is_known_attr name = stands_in known_attrs name

-- how many known tags and known attributes there are
abbrev pub tag_count : ℕ
tag_count = 142

abbrev pub attr_count : ℕ
attr_count = 206
