-- Paths lead to the elements that hold the tags.
use Rattle.std.proofs.Common.{◌≡◌, ℕ, suc, ◌+◌, List, [], ◌∷◌, ◌++◌, true, false, if◌then◌else◌, Option, Some, None, option_and_then, refl, ap, sym, ◌∙◌, arith}
use Rattle.html_dom_tree.{proofs.Basics.{put_twice}, specs.PlainTree.{Plain, branch, plain, put_words, nodes_normal, element_normal}}
use Rattle.html_dom_tree.specs.Tree.{starts, ends, Head, tag_node, text_node, element_node, frame_node, NodesView, none, node, ElementView}
use Rattle.html_dom_document.specs.DomIndices.{◌then◌, element_count, run_count, dom_index}
use Rattle.html_dom_document.specs.Paths.{nth, child, follow, ArePlain, without_last, holders, Lead, PathsLead}
use Rattle.html_dom_document.specs.Places.{PlacedTagView, children_path, nodes_places}

last_off : (path : List ℕ) (i : ℕ) → without_last (path ++ i ∷ []) ≡ path
last_off [] i = refl
last_off (x ∷ []) i = refl
last_off (x ∷ y ∷ ys) i = ap (λ l. x ∷ l) (last_off (y ∷ ys) i)

then_plain : (ns ms : NodesView) → ArePlain ns → ArePlain ms → ArePlain (ns then ms)
unfolding ArePlain
then_plain none ms a b = b
then_plain (node (tag_node t) ns) ms a b = then_plain ns ms a b
then_plain (node (text_node [] span) ns) ms a b = a
then_plain (node (text_node (x ∷ xs) span) ns) ms a b = then_plain ns ms a b
then_plain (node (element_node h children) ns) ms a b = (a.0, a.1, then_plain ns ms a.2 b)
then_plain (node (frame_node f) ns) ms a b = a

pub then_assoc : (a b c : NodesView) → ((a then b) then c) ≡ (a then (b then c))
then_assoc none b c = refl
then_assoc (node n ns) b c = ap (node n) (then_assoc ns b c)

-- the index of an element is its number among the children, also after a text
index_is : (before : NodesView) (g : Head) (children ns : NodesView) → ArePlain before →
    (nth (nodes_normal (before then node (element_node g children) ns))
    (element_count before + run_count false before) ≡ Some (element_normal (g, children)))
    × ((c : ℕ) (cs : List ℕ) →
    nth (put_words (c ∷ cs) (nodes_normal (before then node (element_node g children) ns)))
    (suc (element_count before + run_count true before)) ≡ Some (element_normal (g, children)))
unfolding nodes_normal ArePlain
index_is none g children ns a = (refl, λ c cs. refl)
index_is (node (tag_node t) rest) g children ns a = index_is rest g children ns a
index_is (node (text_node [] span) rest) g children ns a = absurd a
index_is (node (text_node (d ∷ ds) span) rest) g children ns a =
    let so = index_is rest g children ns a in
    let after = nodes_normal (rest then node (element_node g children) ns) in
    let count = element_count rest in
    let one : count + (1 + run_count true rest) ≡ suc (count + run_count true rest)
    = omega arith in
    let two : count + (0 + run_count true rest) ≡ count + run_count true rest = omega arith in (
      ap (nth (put_words (d ∷ ds) after)) one ∙ so.1 d ds,
      λ c cs. ap (λ i. nth (put_words (c ∷ cs) (put_words (d ∷ ds) after)) (suc i)) two
          ∙ (ap (λ ps. nth ps (suc (count + run_count true rest)))
          (put_twice (c ∷ cs) (d ∷ ds) after) ∙ so.1 c (cs ++ d ∷ ds)),
    )
index_is (node (element_node h inner) rest) g children ns a =
    let so = index_is rest g children ns a.2 in
    let after = plain (branch h.name h.attrs (nodes_normal inner))
    (nodes_normal (rest then node (element_node g children) ns)) in
    let count = element_count rest in
    let one : suc count + run_count false rest ≡ suc (count + run_count false rest)
    = omega arith in
    (ap (nth after) one ∙ so.0, λ c cs. ap (λ i. nth (put_words (c ∷ cs) after) (suc i)) one ∙ so.0)
index_is (node (frame_node f) rest) g children ns a = absurd a

then_some : (o : Option Plain) → option_and_then Some o ≡ o
then_some None = refl
then_some (Some p) = refl

follow_more : (path : List ℕ) (i : ℕ) (root : Plain) →
    follow (path ++ i ∷ []) root ≡ option_and_then (child i) (follow path root)
follow_more [] i root = then_some (child i root)
follow_more (j ∷ path) i root = by (λ p. follow_more path i p) (child j root)
  where
    by : ((p : Plain) →
        follow (path ++ i ∷ []) p ≡ option_and_then (child i) (follow path p)) →
        (o : Option Plain) → option_and_then (follow (path ++ i ∷ [])) o
        ≡ option_and_then (child i) (option_and_then (follow path) o)
    by so None = refl
    by so (Some p) = so p

lead_append : (root : Plain) (ps qs : List PlacedTagView) (es fs : List ElementView) →
    Lead root ps es → Lead root qs fs → Lead root (ps ++ qs) (es ++ fs)
lead_append root [] qs [] fs a b = b
lead_append root [] qs (e ∷ es) fs a b = absurd a
lead_append root (p ∷ ps) qs [] fs a b = absurd a
lead_append root (p ∷ ps) qs (e ∷ es) fs a b = (a.0, lead_append root ps qs es fs a.1 b)

-- of nodes after others, which together are the children of an element to which the path leads
leads : (ns : NodesView) (root : Plain) (e : ElementView) (path : List ℕ) (before : NodesView) →
    e.1 ≡ (before then ns) → ArePlain before → ArePlain ns →
    follow path root ≡ Some (element_normal e) →
    Lead root (nodes_places path before ns) (holders e ns)
unfolding nodes_places holders ArePlain
leads none root e path before same a b here = tt
leads (node (tag_node (starts location label dest)) ns) root e path before same a b here =
    let t = tag_node (starts location label dest) in
    let n = node t none in (
      ap (λ p. follow p root) (last_off path (dom_index before t)) ∙ here,
      leads ns root e path (before then n) (same ∙ sym (then_assoc before n ns))
          (then_plain before n a tt) b here,
    )
leads (node (tag_node (ends location)) ns) root e path before same a b here =
    let n = node (tag_node (ends location)) none in
    leads ns root e path (before then n) (same ∙ sym (then_assoc before n ns))
    (then_plain before n a tt) b here
leads (node (text_node [] span) ns) root e path before same a b here = absurd b
leads (node (text_node (c ∷ cs) span) ns) root e path before same a b here =
    let n = node (text_node (c ∷ cs) span) none in
    leads ns root e path (before then n) (same ∙ sym (then_assoc before n ns))
    (then_plain before n a tt) b here
leads (node (element_node h children) ns) root e path before same a b here =
    let n = node (element_node h children) none in
    let i = dom_index before (element_node h children) in
    let there : follow (path ++ i ∷ []) root ≡ Some (element_normal (h, children)) =
    follow_more path i root ∙ (ap (option_and_then (child i)) here
    ∙ (ap (λ ms. nth (nodes_normal ms) i) same ∙ (index_is before h children ns a).0)) in
    let path_is : children_path h path i ≡ path ++ i ∷ [] =
    ap (λ out. if out then path else path ++ i ∷ []) b.0 in
    lead_append root (nodes_places (children_path h path i) none children)
    (nodes_places path (before then n) ns) (holders (h, children) children) (holders e ns)
    (leads children root (h, children) (children_path h path i) none refl tt b.1
    (ap (λ p. follow p root) path_is ∙ there))
    (leads ns root e path (before then n) (same ∙ sym (then_assoc before n ns))
    (then_plain before n a (b.0, b.1, tt)) b.2 here)
leads (node (frame_node f) ns) root e path before same a b here = absurd b

pub paths_lead : PathsLead
unfolding nodes_places ArePlain
paths_lead index h children is all =
    rw is (leads children (element_normal (h, children)) (h, children) [] none refl tt all refl)
