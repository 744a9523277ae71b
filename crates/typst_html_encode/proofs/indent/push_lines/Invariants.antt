use Rattle.std.proofs.Common.{◌≡◌, ◌++◌, ◌||◌, chars, map}
use Rattle.typst_html_encode.{proofs.Layouts.{begun}, specs.Layout.{indent, by_lines}}
use Rattle.typst_html_encode.proofs.indent.push_lines.Given as goal

abbrev pub invariant-loop-line : goal.invariant-loop-line
invariant-loop-line l =
    let ls = map (λ b. chars b.now) l.yielded in
    record {
      agrees : l.out ≡ l.fn.out ++ by_lines l.before_first (indent l.level) ls;
      later : l.indented ≡ (l.before_first || begun ls);
    }
