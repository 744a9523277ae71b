use Rattle.std.proofs.Common.{◌≡◌, ◌+◌, ◌-◌, sym, ap, arith, length, subst, true}
use Rattle.html_dom_flat.proofs.Elements.{given_take, given_drop}
use Rattle.html_dom_flat.proofs.FirstSiblings.{none_spelled, is_later, is_within, inside_spells, after_spells, splits, first_given, rest_given}
use Rattle.html_dom_flat.specs.FlatViews.{are_given}
use Rattle.html_dom_flat.proofs.siblings.Siblings.split_first.Goals as goal

pub returns-in_default : goal.returns-in_default
returns-in_default c =
    let s = c.args.self.now in
    none_spelled s.names.now s.first s.nodes.now c.in_default.ensures.cases

pub overflow_sub-past : goal.overflow_sub-past
overflow_sub-past c =
    let s = c.args.self.now in
    is_later s.names.now s.first c.in-Some.ensures.cases.0 s.spells
    (c.past_of-past.ensures s.names.now)

pub split_at-requires : goal.split_at-requires
split_at-requires c =
    let s = c.args.self.now in
    is_within s.names.now s.first c.in-Some.ensures.cases.0 s.spells
    (c.past_of-past.ensures s.names.now)

pub new-requires : goal.new-requires
new-requires c =
    let s = c.args.self.now in
    first_given s.names.now c.in-Some.ensures.cases.0 s.given

pub invariant_of-children : goal.invariant_of-children
invariant_of-children c =
    let s = c.args.self.now in
    let names = s.names.now in
    let first = c.in-Some.ensures.cases.0 in
    let count = c.past_of-past.result - (s.first + 1) in
    let past = c.past_of-past.ensures names in
    let within = is_within names s.first first s.spells past in
    let later = is_later names s.first first s.spells past in
    record {
      fits = omega (arith, ap length first, c.split_at.ensures.front_len, within, s.fits);
      given = subst (λ ns. are_given names ns ≡ true) (sym c.split_at.ensures.front)
          (given_take names c.in-Some.rest.now count (rest_given names first s.given));
      spells = inside_spells names s.first first s.spells past c.split_at.ensures.front;
    }

pub invariant_of-others : goal.invariant_of-others
invariant_of-others c =
    let s = c.args.self.now in
    let names = s.names.now in
    let first = c.in-Some.ensures.cases.0 in
    let count = c.past_of-past.result - (s.first + 1) in
    let past = c.past_of-past.ensures names in
    let within = is_within names s.first first s.spells past in
    let later = is_later names s.first first s.spells past in
    record {
      fits = omega (arith, ap length first, c.split_at.ensures.back_len, within, later, s.fits);
      given = subst (λ ns. are_given names ns ≡ true) (sym c.split_at.ensures.back)
          (given_drop names c.in-Some.rest.now count (rest_given names first s.given));
      spells = after_spells names s.first first s.spells past c.split_at.ensures.back;
    }

pub returns : goal.returns
returns c =
    let s = c.args.self.now in
    rw c.new.ensures (splits s.names.now s.first c.in-Some.ensures.cases.0 s.spells
    (c.past_of-past.ensures s.names.now) c.split_at.ensures.front c.split_at.ensures.back)
