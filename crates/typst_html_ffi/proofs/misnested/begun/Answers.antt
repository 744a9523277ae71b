use Rattle.std.proofs.Common.{refl, append_assoc}
use Rattle.typst_html_ffi.proofs.misnested.begun.Goals as goal

pub returns : goal.returns
returns c fs =
    rw (c.new.ensures, c.in_ok-push_str.ensures.bytes, c.new-2.ensures.items, append_assoc) refl
