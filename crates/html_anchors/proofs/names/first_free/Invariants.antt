use Rattle.std.proofs.Common.{◌≡◌, ◌-◌, chars}
use Rattle.html_anchors.specs.NewNames.{first_free}
use Rattle.html_links.specs.UsedNames.{used_in}
use Rattle.html_anchors.proofs.names.first_free.Given as goal

abbrev pub invariant-loop-number : goal.invariant-loop-number
invariant-loop-number l =
    first_free (chars l.stem) (used_in l.used) (l.limit - l.number) l.number
    ≡ first_free (chars l.stem) (used_in l.used) (l.limit - l.fn.from) l.fn.from
