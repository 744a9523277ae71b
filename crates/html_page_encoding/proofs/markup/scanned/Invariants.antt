use Rattle.std.proofs.Common.{◌≡◌, ◌-◌}
use Rattle.html_page_encoding.specs.Prescan.{scanned, scanned_within}
use Rattle.html_page_encoding.proofs.markup.scanned.Given as goal

abbrev pub invariant-loop : goal.invariant-loop
invariant-loop l = scanned_within (l.end - l.counter) l.rest ≡ scanned l.fn.bytes
