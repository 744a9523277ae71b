-- Checks of a tree whose links are given an `href`, and of one whose names differ.
use Rattle.std.proofs.Common.{◌≡◌, ℕ, Bool, true, false, not, ◌||◌, List, [], ◌++◌, Option, Some, None, codes, bytes_eq, refl, ap, ◌∙◌}
use Rattle.std.proofs.lemmas.{Bool.{and_parts}, List.Elements.{filter-append}}
use Rattle.std.specs.Prelude.{if◌then◌else◌, is_some, option_to_list}
use Rattle.html_names_core.specs.Names.{stands_in}
use Rattle.html_dom_tree.specs.Tree.{Head, ElementView}
use Rattle.html_dom_document.specs.{Documents.{DocumentView, document_root}, Views.{document_view}}
use Rattle.html_dom_document.specs.declared.document.HtmlDocument.{HtmlDocument}
use Rattle.html_anchors.proofs.{ChangedRoots.{root_has_links}, GivenLinks.{location_leads, no_href, texts_in}}
use Rattle.html_anchors.proofs.{KeptBases.{base_stays_elsewhere}, LeadingLinks.{id_stays, names_stay}, LinkedParts.{document_links}}
use Rattle.html_anchors.specs.GivenLinks.{AnchorsAreTexts, KnownAnchorsArePlaces}
use Rattle.html_anchors.specs.Links.{Hrefs, attrs_with_href, document_hrefs, head_with_link, href_of, is_open, root_with_links}
use Rattle.html_links.proofs.{InDocument.{place_in_tree}, Narrowed.{leads_within}}
use Rattle.html_links.specs.{Bases.{base_is_elsewhere}, InDocument.{document_places, in_document}}
use Rattle.html_links.specs.Indicated.{LeadsTo, element_places, indicated_name, leads, leads_to_top, place_names, url_fragment}
use Rattle.html_links.specs.TreeNames.{Name}
use Rattle.typst_html_links_laws.proofs.LinkedTexts.{tree_stays}
use Rattle.typst_html_links_laws.specs.LinkedChecks.{HrefsLead, LinksAddNoDeadFragment, LinksRepeatNoId, LinksStaySound, ResolvedStaySound}
use Rattle.html_page_findings.proofs.DistinctIds.{distinct_are_not_repeated}
use Rattle.html_page_findings.specs.Fragments.{dead_among, dead_fragments, fragment_links, fragments}
use Rattle.html_page_findings.specs.{PlacedTexts.{Placed, element_placed, head_texts, placed_at}, RepeatedIds.{ids, repeated, repeated_ids}}

-- the `href` of a link is no `id`
pub links_repeat_no_id : LinksRepeatNoId
links_repeat_no_id hrefs e =
    ap (repeated (stands_in []))
    (ap (element_placed ids) (document_links hrefs e)
    ∙ tree_stays ids hrefs (λ ps. ps) (λ ps qs. refl)
    (λ path dest h. ap (λ id. placed_at path (option_to_list id)) (id_stays hrefs dest h))
    (in_document e))

module _ (hrefs : Hrefs) (is_place : Name → Bool)
    (lead : (location : ℕ) (href : List ℕ) → hrefs location ≡ Some href →
    (name : Name) × LeadsTo is_place href name) where
  name_leads : (name fragment : List ℕ) → indicated_name is_place fragment ≡ Some name →
      leads is_place fragment ≡ true
  unfolding leads
  name_leads name fragment is =
      ap (λ n. is_some n || leads_to_top (url_fragment fragment)) is

  abbrev dead_at : (path : List ℕ) → Head → List Placed
  dead_at path h = dead_among is_place (placed_at path (head_texts fragments h))

  -- a link that got its `href`
  given_stays : (path : List ℕ) (h : Head) (href name : List ℕ) → is_open h ≡ true →
      LeadsTo is_place href name →
      dead_at path (record h { attrs = attrs_with_href (Some href) h.attrs }) ≡ dead_at path h
  given_stays path h href name lacks leading =
      let is_a = and_parts (bytes_eq h.name (codes "a")) _ lacks in
      rw (
        is_a.0,
        no_href (bytes_eq h.name (codes "a")) h.attrs lacks,
        leading.taken,
        name_leads name leading.fragment leading.indicates,
      ) refl

  head_stays : (path : List ℕ) (dest : Option ℕ) (h : Head) →
      dead_at path (head_with_link hrefs dest h) ≡ dead_at path h
  head_stays path dest h = by (is_open h) refl dest
    where
      by_href : (location : ℕ) → is_open h ≡ true → (href : Option (List ℕ)) →
          hrefs location ≡ href →
          dead_at path (record h { attrs = attrs_with_href href h.attrs }) ≡ dead_at path h
      by_href location lacks None is = refl
      by_href location lacks (Some href) is =
          let leading = lead location href is in
          given_stays path h href leading.0 lacks leading.1

      by : (lacks : Bool) → is_open h ≡ lacks → (dest : Option ℕ) →
          dead_at path (record h {
            attrs = attrs_with_href (href_of hrefs (if lacks then dest else None)) h.attrs;
          }) ≡ dead_at path h
      by true is None = refl
      by true is (Some location) = by_href location is (hrefs location) refl
      by false is dest = refl

  pub dead_stay : (e : ElementView) → dead_among is_place (fragment_links (root_with_links hrefs e))
      ≡ dead_among is_place (fragment_links e)
  dead_stay e =
      let made = dead_among is_place in
      ap (λ d. made (element_placed fragments d)) (document_links hrefs e)
      ∙ tree_stays fragments hrefs made (filter-append (λ (link : Placed). not (leads is_place link.1)))
      head_stays (in_document e)

places_stay : (hrefs : Hrefs) (e : ElementView) →
    document_places (root_with_links hrefs e) ≡ document_places e
places_stay hrefs e =
    ap element_places (document_links hrefs e)
    ∙ ap (λ names. place_names e.0.name e.0.attrs ++ names) (names_stay hrefs [] (in_document e).1).places

pub links_add_no_dead_fragment : LinksAddNoDeadFragment
links_add_no_dead_fragment hrefs e lead =
    let made = dead_among (stands_in (document_places (root_with_links hrefs e)))
    (fragment_links (root_with_links hrefs e)) in
    ap (λ (base : Bool). if base then [] else made) (base_stays_elsewhere hrefs e)
    ∙ ap (λ dead. if base_is_elsewhere e then [] else dead)
    (ap (λ names. dead_among (stands_in names) (fragment_links (root_with_links hrefs e)))
    (places_stay hrefs e)
    ∙ dead_stay hrefs (stands_in (document_places e)) lead e)

hrefs_lead : (d : DocumentView) → AnchorsAreTexts d.introspector.anchor → KnownAnchorsArePlaces d →
    HrefsLead (document_hrefs d) (document_root d)
hrefs_lead d texts known location href is =
    let root = document_root d in
    let leading = location_leads d.introspector.anchor (element_places root) (document_places root)
    texts known (place_in_tree root) location href is in (
      leading.name,
      leads_within (stands_in (document_places root)) (stands_in (element_places root))
          (place_in_tree root) leading.name leading.stands href leading.leads,
    )

pub resolved_stay_sound : ResolvedStaySound
resolved_stay_sound d texts =
    let hrefs = document_hrefs d in
    let root = document_root d in
    let same = ap repeated_ids (root_has_links d) ∙ links_repeat_no_id hrefs root in
    record {
      dead = λ known. ap dead_fragments (root_has_links d)
          ∙ links_add_no_dead_fragment hrefs root (hrefs_lead d texts known);
      repeated = same;
      distinct = λ distinct. same ∙ distinct_are_not_repeated root distinct;
    }

-- the anchors of a document that a program holds are texts
pub document_stays_sound : (d : HtmlDocument) → LinksStaySound (document_view d)
document_stays_sound d =
    resolved_stay_sound (document_view d) (texts_in d.introspector.anchors)
