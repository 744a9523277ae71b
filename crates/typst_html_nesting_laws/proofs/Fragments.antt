-- The text of a fragment is read as its nodes, in the body of a page.
use Rattle.std.proofs.Common.{◌≡◌, ℕ, ◌+◌, ◌<◌, Bool, true, false, List, [], ◌∷◌, codes, refl, sym, ap, ◌∙◌, arith, Ok}
use Rattle.std.proofs.lemmas.Bool.{false≢true}
use Rattle.html_dom_tree.specs.{FrameFree.{NodeIsFrameFree, NodesAreFrameFree}, PlainTree.{no_plains}}
use Rattle.html_dom_tree.specs.Tree.{element_node, NodesView, none, node}
use Rattle.html_page_nesting.specs.Ancestors.{Ancestor, ancestor}
use Rattle.typst_html_encode.{proofs.Runs.{right_empty}, specs.FrameWriters.{Frames}}
use Rattle.typst_html_encode.specs.{Fragments.{fragment_text}, ReadingBack.{NodeIsNamed, NodesAreNamed}}
use Rattle.html_page_stack.specs.OpenElements.{OpenElement, root_of}
use Rattle.html_page_stack.specs.Pages.{Page, Finish, closed, first_page, opened, settled}
use Rattle.html_page_stack.specs.declared.modes.{Destination.TheVariants.{Parent}, Mode.{TheVariants.{InBody}}}
use Rattle.html_page_stack.specs.declared.modes.Space.TheVariants as spaces
use Rattle.html_page_stack.specs.declared.modes.TableRule.TheVariants as rule
use Rattle.html_page_tree.specs.{FragmentPages.{fragment_begun}, PageTrees.{token_read}}
use Rattle.html_page_read.specs.FragmentReading.{fragment_passed, fragment_reader}
use Rattle.html_page_read.specs.{PageReading.{page_result, root_made, run}, PageTokens.{finished}}
use Rattle.typst_html_nesting_laws.proofs.{Fillings.{fresh_behind}, KindFacts.{names}}
use Rattle.typst_html_nesting_laws.proofs.ListedFormats.Layer.{passed}
use Rattle.typst_html_nesting_laws.proofs.Forms.{AreOrdered, Moment, later, normal_is, on, put_texted, texted_children, with_text_is}
use Rattle.typst_html_nesting_laws.proofs.Nodes.{IsInside, NodesFit, element_fits, nodes_lead, rest_fits}
use Rattle.typst_html_nesting_laws.proofs.{Opened.{opens}, Readers.{data_at}, Tables.{text_kept}, Templates.{TemplateModes, are_modes, hold_modes, modes_there}, Turns.{finish_whole, html_token, mode_taken}}
use Rattle.typst_html_nesting_laws.specs.FragmentsStay.{FragmentsStay, IsKeptFragment, bare_head, begins_marked, fragment_root}
use Rattle.typst_html_nesting_laws.specs.TreesStay.{NodeIsReadable, NodesAreReadable, no_notes}

-- the elements around the nodes, as their ancestors
abbrev html_above : List Ancestor
html_above = ancestor (bare_head (codes "html")) [] ∷ []

abbrev body_above : List Ancestor
body_above = ancestor (bare_head (codes "body")) html_above ∷ html_above

-- an open element with that name and these children, without attributes
abbrev bare : (name : List ℕ) → NodesView → OpenElement
bare name ns = record {
  head = bare_head name;
  space = spaces.Html;
  destination = Parent;
  children = ns;
  behind = none;
}

-- the open elements around the nodes, of which `body` is the current node
abbrev body : OpenElement
body = bare (codes "body") none

abbrev outer : List OpenElement
outer = bare (codes "html") (node (element_node (bare_head (codes "head")) none) none) ∷ []

-- the page with these open elements
abbrev page_in : (limit : ℕ) → List OpenElement → Page
page_in limit os = record (first_page (limit + 2)) { tables = rule.ClosesP; stack = os }

-- the page before the nodes
abbrev body_page : (limit : ℕ) → Page
body_page limit = page_in limit (body ∷ outer)

-- it is the page that a fragment begins with
page_begun : (limit : ℕ) → fragment_begun (first_page (limit + 2)) ≡ body_page limit
unfolding fragment_begun names
page_begun limit =
    let html : Page = page_in limit (bare (codes "html") none ∷ []) in
    ap (λ p. opened (codes "body") [] (closed true (opened (codes "head") [] p)))
    (opens spaces.Html (codes "html") [] (page_in limit []) refl refl (omega arith))
    ∙ (ap (λ p. opened (codes "body") [] (closed true p))
    (opens spaces.Html (codes "head") [] html refl refl (omega arith))
    ∙ opens spaces.Html (codes "body") [] (page_in limit outer) refl refl (omega arith))

-- a text that begins with no byte order mark is read whole
passed_whole : (limit : ℕ) (text : List ℕ) → begins_marked text ≡ false →
    fragment_passed limit text ≡ run (fragment_reader limit 0) text
passed_whole limit [] h = refl
passed_whole limit (c ∷ cs) h = rw h refl

-- nodes are read in that page
in_body : (limit : ℕ) → 512 < limit → IsInside body_above (body_page limit) body outer
unfolding names
in_body limit deep = record {
  calm = λ c t m order. record {
    alike = (
      record { name = refl; attrs = refl; space = refl },
      (record { name = refl; attrs = refl; space = refl }, tt),
    );
    ordered = order.0;
    modes = order.1;
    form = refl;
    moved = refl;
    framesets = refl;
    unmade = refl;
    tables = refl;
  };
  steady = λ c e. refl;
  place = refl;
  raw = refl;
  plaintext = refl;
  limit = omega (arith, deep);
}

-- no formatting element and no `template` is open around them
abbrev begin : Moment
begin = record { start = 0; formats = []; templates = [] }

in_order : AreOrdered (body ∷ outer) begin
unfolding names
in_order = (passed refl (passed refl refl), refl)

none_open : (ms : TemplateModes) → are_modes (body ∷ outer) ms ≡ true → hold_modes ms ≡ false
unfolding names
none_open ms h = modes_there (body ∷ outer) ms h

-- they break no rule there
nodes_fit : {frames : Frames} {ns : NodesView} → IsKeptFragment frames ns → NodesFit body_above ns
unfolding NodeIsNamed NodesAreNamed NodeIsFrameFree NodesAreFrameFree NodeIsReadable
    NodesAreReadable names
nodes_fit {ns = ns} kept =
    let page : NodesFit html_above (fragment_root ns).1 = record {
      path = [];
      index = 0;
      named = ((((refl, refl), tt), tt), ((((refl, refl), tt), kept.named), tt));
      frame_free = (tt, (kept.frame_free, tt));
      readable = ((omega arith, tt), ((omega arith, kept.readable), tt));
      nested = right_empty _ _ kept.nested;
    } in
    (element_fits (rest_fits page)).below

-- the end of the text, behind children and a text
module _ (limit place : ℕ) (fresh : Bool) (c : NodesView) (t : List ℕ) (m : Moment)
    (order : AreOrdered (body ∷ outer) m) where
  -- the page at the end of the text
  abbrev last : Page
  last = on (body_page limit) body outer c t (later place m)

  -- which the end does not change
  finish_taken : token_read Finish last ≡ last
  unfolding names
  finish_taken = mode_taken Finish last InBody last
      (finish_whole last (none_open m.templates order.1)) refl refl refl
      (html_token Finish (record body { children = c }) outer refl) refl refl
      ∙ text_kept last refl

  -- and which is read as the page around those children
  page_ends : page_result (finished
      (data_at fresh place (on (body_page limit) body outer c t m))).page
      ≡ Ok (fragment_root (texted_children 0 c t), no_notes)
  page_ends = ap page_result finish_taken
      ∙ ap (λ o. root_made (root_of (o ∷ outer)) (settled last)) (with_text_is t body c)

-- so nodes are gathered between the beginning and the end
pub fragments_stay : FragmentsStay
fragments_stay frames limit ns kept deep =
    let text = fragment_text frames ns in
    let g = nodes_lead frames ns false true 0 body_above (body_page limit) body outer false 0 none
    [] begin (in_body limit deep) in_order (nodes_fit kept) kept.clean
    (λ e. absurd (false≢true e)) in
    let whole = passed_whole limit text kept.unmarked
    ∙ (ap (λ p. run (data_at false 0 p) text) (page_begun limit) ∙ g.is) in
    record {
      root = fragment_root (texted_children 0 g.children g.words);
      read = ap (λ q. page_result (finished q).page) whole
          ∙ page_ends limit g.place (fresh_behind false ns) g.children g.words g.moment g.ordered;
      same = normal_is (texted_children 0 g.children g.words)
          ∙ (put_texted 0 g.children g.words no_plains
          ∙ (g.same no_plains ∙ sym (normal_is ns)));
    }
