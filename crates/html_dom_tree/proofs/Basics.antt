-- General facts about nodes as they are seen, plain nodes, and values that may be there.
use Rattle.std.proofs.Common.{◌≡◌, ℕ, List, [], ◌∷◌, ◌++◌, Option, Some, None, String, Global, refl, sym, ap, append_assoc, append-nil, rules}
use Rattle.html_names_core.specs.Texts.{text_view}
use Rattle.html_dom_tree.specs.{Attributes.{or_else}, FrameViews.{tag_view}, PlainTree.{words, branch, Plains, no_plains, plain, put_words}}
use Rattle.html_dom_tree.specs.{Tree.{tag_node, text_node, element_node}, Views.{node_view, element_view}, declared.introspection.Tag.{Tag}}
use Rattle.html_dom_tree.specs.declared.node.{HtmlElement.{HtmlElement}, HtmlNode.{HtmlNode, the_lemmas}}
use Rattle.html_dom_tree.specs.declared.node.HtmlNode as HtmlNode
use Rattle.html_dom_tree.specs.declared.span.Span.{Span}

-- the views of nodes, case by case
pub node_view-Tag : (t : Tag) → node_view (HtmlNode.Tag t) ≡ tag_node (tag_view t)
node_view-Tag t = search (rules, the_lemmas)

pub node_view-Text : (s : String Global) (span : Span) →
    node_view (HtmlNode.Text s span) ≡ text_node (text_view s) span.0
node_view-Text s span = search (rules, the_lemmas)

pub node_view-Element : (e : HtmlElement) →
    node_view (HtmlNode.Element e) ≡ element_node (element_view e).0 (element_view e).1
node_view-Element e = search (rules, the_lemmas)

-- the first of values that may be there
pub or_else-assoc : {A : Type 0} (a b c : Option A) →
    or_else (or_else a b) c ≡ or_else a (or_else b c)
or_else-assoc None b c = refl
or_else-assoc (Some x) b c = refl

pub or_else-none : {A : Type 0} (a : Option A) → or_else a None ≡ a
or_else-none None = refl
or_else-none (Some x) = refl

pub put_twice : (t u : List ℕ) (ps : Plains) → put_words t (put_words u ps) ≡ put_words (t ++ u) ps
put_twice [] u ps = refl
put_twice (c ∷ cs) [] no_plains =
    ap (λ l. plain (words (c ∷ l)) no_plains) (sym (append-nil cs))
put_twice (c ∷ cs) [] (plain (words t) ps) =
    ap (λ l. plain (words (c ∷ l ++ t)) ps) (sym (append-nil cs))
put_twice (c ∷ cs) [] (plain (branch name attrs children) ps) =
    ap (λ l. plain (words (c ∷ l)) (plain (branch name attrs children) ps)) (sym (append-nil cs))
put_twice (c ∷ cs) (d ∷ ds) no_plains = refl
put_twice (c ∷ cs) (d ∷ ds) (plain (words t) ps) =
    ap (λ l. plain (words (c ∷ l)) ps) (sym (append_assoc cs (d ∷ ds) t))
put_twice (c ∷ cs) (d ∷ ds) (plain (branch name attrs children) ps) = refl
