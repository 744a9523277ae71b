use Rattle.std.proofs.Common.{◌≡◌, ◌+◌, ◌-◌, ◌∷◌, [], false, None, Some, chars, length, length-append, refl, sym, ap, ◌∙◌, subst, arith, rules}
use Rattle.std.proofs.lemmas.Bool.{false≢true}
use Rattle.typst_html_encode.specs.Reader.{Outside}
use Rattle.typst_html_read.proofs.{Loops.{not_stop}, Names.{taken, root_read, root_accepted}}
use Rattle.typst_html_read.proofs.Stretches.{GivesReading, goes_on, goes_one, reading, whole_deep, whole_ended, whole_stopped}
use Rattle.typst_html_read.specs.{LimitedReading.{next_state, deep_places}, OpenViews.{open_of}, PlainElements.{accepted}}
use Rattle.typst_html_read.specs.{PlainViews.{completed}, ReaderViews.{reader_state}}
use Rattle.html_text.specs.Places.{place_at}
use Rattle.typst_html_read.proofs.read.read_root.Goals as goal

pub loop-reader-init : goal.loop-reader-init
loop-reader-init c =
    let text = chars c.args.text.now in
    let begun : length (chars c.args.whole.now) - length text ≡ 15 = omega (arith, c.requires) in
    record {
      is_text = c.utf8.text;
      goes = record {
        same = ap (λ n. reading c.args.limit n (reader_state c.new-reader.result) text) begun
            ∙ ap (λ s. reading c.args.limit 15 s text) c.new-reader.ensures;
        names = ap taken c.new-reader.ensures;
        room = omega (arith, c.requires);
      };
    }

pub returns-then-begins_deep : goal.returns-then-begins_deep
returns-then-begins_deep c =
    let past = chars c.in_ok-past.past.now in
    let later = chars c.in-Some-split_first.left.now in
    let before = length (chars c.args.whole.now) - length past in
    let state = reader_state c.read_end_tag.new.self in
    let gone = goes_on c.loop-reader.invariant.goes c.in_ok-past.ensures
    (rw c.in_default.is at c.in_ok-left.ensures) in
    record {
      made = tt;
      clean = tt;
      fault = (
        before - 1,
        deep_places c.args.limit (before + 1) (next_state state c.in-Some-split_first.c) later,
        whole_deep c.in-Some-split_first.c later gone c.in-Some-split_first.ensures
            (sym c.begins_deep.ensures ∙ c.if-begins_deep.true),
        c.place_at-place.ensures
            ∙ ap (λ n. place_at (chars c.args.whole.now) (n - 1)) c.count_before.ensures,
      );
    }

pub returns-then-is_stopped : goal.returns-then-is_stopped
returns-then-is_stopped c =
    let gone = goes_on c.loop-reader.invariant.goes c.in_ok-past.ensures
    (rw c.in_default.is at c.in_ok-left.ensures) in
    let whole = whole_stopped c.in-Some-split_first.c (chars c.in-Some-split_first.left.now) gone
    c.in-Some-split_first.ensures (sym c.begins_deep.ensures ∙ c.if-begins_deep.false)
    (sym c.in_ok-step.ensures ∙ c.is_stopped.ensures.0 c.if-is_stopped.true) in
    subst (GivesReading _ (chars c.args.whole.now)) (sym whole) record {
      made = tt;
      clean = tt;
      fault = rw c.syntax_at-then-is_stopped.ensures (refl, refl, refl);
    }

pub loop-reader-smaller : goal.loop-reader-smaller
loop-reader-smaller c =
    let got = c.in_ok-past.ensures in
    let past = chars c.in_ok-past.past.now in
    omega (arith, ap length got.parts, length-append got.front past, ap length c.in-Some-split_first.ensures)

pub loop-reader-preserved-in-Some : goal.loop-reader-preserved-in-Some
loop-reader-preserved-in-Some c = record {
  is_text = search rules;
  goes = goes_on (goes_on c.loop-reader.invariant.goes c.in_ok-past.ensures refl)
      (rw c.in-Some.is at c.in_ok-left.ensures).0 refl;
}

pub loop-reader-smaller-in-Some : goal.loop-reader-smaller-in-Some
loop-reader-smaller-in-Some c =
    let got = c.in_ok-past.ensures in
    let past = chars c.in_ok-past.past.now in
    omega (arith, ap length got.parts, length-append got.front past, (rw c.in-Some.is at c.in_ok-left.ensures).1)

pub loop-reader-preserved : goal.loop-reader-preserved
loop-reader-preserved c =
    let gone = goes_on c.loop-reader.invariant.goes c.in_ok-past.ensures
    (rw c.in_default.is at c.in_ok-left.ensures) in
    record {
      is_text = search rules;
      goes = goes_one c.in-Some-split_first.c (chars c.in-Some-split_first.left.now) gone
          c.in-Some-split_first.ensures (sym c.begins_deep.ensures ∙ c.if-begins_deep.false)
          c.in_ok-step.ensures (not_stop (reader_state c.step.new.self)
          (λ e. false≢true (sym c.if-is_stopped.false ∙ c.is_stopped.ensures.1 e)));
    }

pub returns-in-None : goal.returns-in-None
returns-in-None c =
    let gone = goes_on c.loop-reader.invariant.goes c.in_ok-past.ensures
    (rw c.in_default.is at c.in_ok-left.ensures) in
    subst (GivesReading _ (chars c.args.whole.now))
    (sym (whole_ended gone c.in_default-split_first.ensures)) record {
      made = tt;
      clean = tt;
      fault = rw c.syntax_at.ensures (sym (ap accepted c.in-None.ensures), refl, refl);
    }

pub returns-in-Some-into_root : goal.returns-in-Some-into_root
returns-in-Some-into_root c =
    let gone = goes_on c.loop-reader.invariant.goes c.in_ok-past.ensures
    (rw c.in_default.is at c.in_ok-left.ensures) in
    let o = open_of c.in-Some-into_root.root in
    let names = sym (root_read (reader_state c.read_end_tag.new.self) (completed o)
    c.in-Some-into_root.ensures) ∙ gone.names in
    subst (GivesReading _ (chars c.args.whole.now))
    (sym (whole_ended gone c.in_default-split_first.ensures)) record {
      made = ap Some c.into_element.ensures ∙ (sym (root_accepted o.name o.attrs o.children names)
          ∙ ap accepted c.in-Some-into_root.ensures);
      clean = refl;
      fault = tt;
    }
