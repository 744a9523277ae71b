use Rattle.std.proofs.Common.{refl, arith}
use Rattle.html_page_read.specs.PagePlaces.{place_at}
use Rattle.html_page_read.proofs.place.Places.new.Goals as goal

pub invariant_of-result : goal.invariant_of-result
unfolding place_at
invariant_of-result c = record {
  reached = record {
    same = λ offset h. refl;
    room = omega arith;
    line = omega arith;
    column = omega arith;
  };
}
