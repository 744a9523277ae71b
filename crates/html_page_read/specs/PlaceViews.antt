-- The page whose places are returned.
use Rattle.std.specs.Prelude.{ℕ, List, chars}
use Rattle.html_page_read.specs.declared.place.Places.{Places}

abbrev pub text_of : Places → List ℕ
text_of p = chars p.text.now
