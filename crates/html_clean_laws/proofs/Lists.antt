-- Clean nodes one behind the other.
use Rattle.std.proofs.Common.{◌≡◌, Bool, false, refl, ap, sym, subst}
use Rattle.html_dom_tree.specs.Tree.{NodeView, NodesView, none, node, with_last}
use Rattle.html_page_nesting.specs.declared.surroundings.Surroundings.{Surroundings}
use Rattle.html_clean_policy.specs.Policies.{PolicyView}
use Rattle.html_clean_laws.specs.CleanNodes.{AreClean, IsClean}

-- whether a node behind these is the first
abbrev pub is_first : (first : Bool) → NodesView → Bool
is_first first none = first
is_first first (node n ns) = false

never_first : (ns : NodesView) → is_first false ns ≡ false
never_first none = refl
never_first (node n ns) = refl

pub behind_first : (first : Bool) (ns : NodesView) (n : NodeView) →
    is_first first (with_last ns n) ≡ false
behind_first first none n = refl
behind_first first (node m ms) n = refl

-- clean nodes and one more behind them
pub clean_last : (p : PolicyView) (around : Surroundings) (first : Bool) (ns : NodesView)
    (n : NodeView) → AreClean p around first ns → IsClean p around (is_first first ns) n →
    AreClean p around first (with_last ns n)
unfolding AreClean
clean_last p around first none n clean last = (last, tt)
clean_last p around first (node m ms) n clean last = (
  clean.0,
  clean_last p around false ms n clean.1
      (subst (λ b. IsClean p around b n) (sym (never_first ms)) last),
)

-- nodes and others behind them
abbrev pub all_nodes : NodesView → NodesView → NodesView
all_nodes none ns = ns
all_nodes (node m ms) ns = node m (all_nodes ms ns)

pub all_first : (ns : NodesView) → all_nodes ns none ≡ ns
all_first none = refl
all_first (node m ms) = ap (node m) (all_first ms)

pub all_in_turn : (ms : NodesView) (n : NodeView) (ns : NodesView) →
    all_nodes (with_last ms n) ns ≡ all_nodes ms (node n ns)
all_in_turn none n ns = refl
all_in_turn (node m ms) n ns = ap (node m) (all_in_turn ms n ns)
