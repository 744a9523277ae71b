use Rattle.std.proofs.Common.{◌≡◌, ◌++◌, ◌∷◌, [], ◌||◌, List, ℕ, ap, sym, ◌∙◌, append_assoc, chars, map}
use Rattle.std.proofs.lemmas.Iterator.{Consumers.{YieldsList-end}, Splits.{YieldsList-from_lines}}
use Rattle.std.{proofs.lemmas.List.{map-append}, proofs.lemmas.Simd.{map-map}, specs.Str.Lines.{lines}}
use Rattle.typst_html_encode.proofs.{Layouts.{begun, by_lines_more, begun_more}, Lines.{chars_of_lines}}
use Rattle.typst_html_encode.specs.Layout.{indent, indent_where, by_lines}
use Rattle.typst_html_encode.proofs.indent.push_lines.Goals as goal

pub loop-line-preserved : goal.loop-line-preserved
loop-line-preserved c =
    let held = c.loop-line.invariant in
    let b = c.args.before_first in
    let i = indent c.args.level in
    let before = c.args.out.now in
    let ls : List (List ℕ) = map (λ x. chars x.now) c.loop-line.yielded in
    let l : List ℕ = chars c.in-Some.line.now in
    let more : map (λ x. chars x.now) (c.loop-line.yielded ++ c.in-Some.line ∷ []) ≡ ls ++ l ∷ [] =
    map-append (λ x. chars x.now) c.loop-line.yielded (c.in-Some.line ∷ []) in
    let w = indent_where (b || begun ls) c.args.level in
    record {
      agrees = c.in_ok-push_str.ensures.added
          ∙ (ap (λ s. s ++ l) (c.in_ok-push_indent_if.ensures
          ∙ (ap (λ s. s ++ indent_where c.loop-line.indented c.args.level) held.agrees
          ∙ ap (λ d. (before ++ by_lines b i ls) ++ indent_where d c.args.level) held.later))
          ∙ (append_assoc (before ++ by_lines b i ls) w l
          ∙ (append_assoc before (by_lines b i ls) (w ++ l)
          ∙ ap (λ s. before ++ s) (sym (by_lines_more b i ls l) ∙ ap (by_lines b i) (sym more)))));
      later = begun_more b ls l ∙ ap (λ xs. b || begun xs) (sym more);
    }

pub returns : goal.returns
returns c =
    let b = c.args.before_first in
    let i = indent c.args.level in
    let text = c.args.text.now in
    let end = YieldsList-end (YieldsList-from_lines text cc) c.loop-line.yielded _
    c.loop-line.yielded_by _ _ c.in-None.is c.next.ensures.steps in
    let all : map (λ x. chars x.now) c.loop-line.yielded ≡ lines (chars text) =
    sym (map-map chars (λ x. x.now) c.loop-line.yielded)
    ∙ (ap (map chars) end.0 ∙ chars_of_lines text c.utf8.text) in
    c.loop-line.invariant.agrees ∙ ap (λ ls. c.args.out.now ++ by_lines b i ls) all
