use Rattle.std.proofs.Common.{refl, append_assoc}
use Rattle.typst_html_ffi.proofs.lists.begun.Goals as goal

pub returns : goal.returns
returns c ps =
    rw (c.in_ok-push_str.ensures.bytes, c.in_ok-from_str.ensures.ok, c.new.ensures.items, append_assoc) refl
