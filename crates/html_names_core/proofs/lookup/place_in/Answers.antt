use Rattle.std.proofs.{Common.{◌+◌, ◌≡◌, ◌<◌, ◌≤◌, sym, length, arith, bytes_eq, get_or, false, []}, lemmas.List.{length-map}}
use Rattle.html_names_core.{proofs.Starts.{within, empty, other, not_among, found, not_here, more}, specs.Names.{texts}}
use Rattle.html_names_core.proofs.lookup.place_in.Goals as goal

pub returns-in_err-first : goal.returns-in_err-first
returns-in_err-first c =
    let text = c.args.text.now in
    let short : length text ≤ 0 =
    rw (sym c.as_bytes.ensures.value) c.in_err-first.ensures.item.3 in
    rw c.from_residual.ensures
    (empty c.args.starts.now _ text c.requires.starts c.requires.ascii c.utf8.text short)

pub returns-then-not-is_ascii_lowercase : goal.returns-then-not-is_ascii_lowercase
returns-then-not-is_ascii_lowercase c =
    let text = c.args.text.now in
    let first = c.in_ok-first.field-0.now in
    let is : first ≡ get_or text 0 0 =
    rw (sym c.as_bytes.ensures.value) (c.in_ok-first.ensures.item.3.1 0) in
    other c.args.starts.now _ text first c.requires.starts c.requires.ascii c.utf8.text is
    (sym c.if-not-is_ascii_lowercase.ensures.value)

pub loop-place-init : goal.loop-place-init
loop-place-init c = (
  rw (sym (length-map c.args.table.now (λ b. b.now)))
      (within c.args.starts.now (texts c.args.table.now) (c.from-letter.result + 1) c.requires.starts),
  λ k s l. absurd (omega (arith, s, l)),
)

pub returns-then-eq : goal.returns-then-eq
returns-then-eq c =
    found c.args.table.now c.args.text.now c.loop-place.place c.from.result _
    (omega (arith, c.loop-place.invariant.0, c.loop-place-test.true)) c.from.ensures
    c.requires.ascii c.if-eq.ensures

pub loop-place-preserved : goal.loop-place-preserved
loop-place-preserved c = (
  c.loop-place.invariant.0,
  more (λ k. bytes_eq (get_or (texts c.args.table.now) k []) c.args.text.now ≡ false) _
      c.loop-place.place c.loop-place.invariant.1
      (not_here c.args.table.now c.args.text.now c.loop-place.place c.from.result _
      (omega (arith, c.loop-place.invariant.0, c.loop-place-test.true)) c.from.ensures c.if-eq.ensures),
)

pub returns : goal.returns
returns c =
    let text = c.args.text.now in
    let first = c.in_ok-first.field-0.now in
    let is : first ≡ get_or text 0 0 =
    rw (sym c.as_bytes.ensures.value) (c.in_ok-first.ensures.item.3.1 0) in
    let long : 0 < length text =
    rw (sym c.as_bytes.ensures.value) c.in_ok-first.ensures.item.3.0 in
    not_among c.args.starts.now (texts c.args.table.now) text first c.from-letter.result
    c.requires.starts c.requires.ascii c.utf8.text long is c.from-letter.ensures
    (λ k s l. c.loop-place.invariant.1 k s (omega (arith, l, c.loop-place-test.false)))
