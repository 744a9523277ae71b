use Rattle.std.proofs.Common.{◌≡◌, chars, ap, ◌∙◌, rules}
use Rattle.html_names_core.specs.Texts.{texts_view}
use Rattle.html_clean_styles.{proofs.Joined.{begun, ended, more}, specs.Styles.{clean_style, declaration, declarations, joined, pieces}}
use Rattle.html_clean_styles.proofs.style.clean_style.Goals as goal

pub loop-piece-init : goal.loop-piece-init
loop-piece-init c = record {
  is_text = c.utf8.style;
  goes = begun (texts_view c.args.properties.now) c.new-made.result (chars c.args.style.now) c.new-made.ensures;
}

pub loop-piece-preserved : goal.loop-piece-preserved
loop-piece-preserved c =
    let properties = texts_view c.args.properties.now in
    let at = c.loop-piece in
    let is : c.join.new.made ≡ joined at.made (declaration properties (chars c.in-Some.piece.now)) =
    c.in_ok-join.ensures ∙ ap (joined at.made) (ap chars c.as_str.ensures.value ∙ c.in_ok-written.ensures) in
    record {
      is_text = search rules;
      goes = more properties at.made c.join.new.made (chars at.left.now) (chars c.in-Some.piece.now)
          (chars c.in-Some.rest.now) (declarations properties (pieces (chars c.args.style.now)))
          c.in-Some.ensures.0 c.in-Some.ensures.1 is at.invariant.goes;
    }

pub returns : goal.returns
unfolding clean_style
returns c =
    let properties = texts_view c.args.properties.now in
    let at = c.loop-piece in
    let is : c.join-2.new.made ≡ joined at.made (declaration properties (chars at.left.now)) =
    c.in_ok-join-2.ensures ∙ ap (joined at.made) (ap chars c.as_str-2.ensures.value ∙ c.in_ok-last.ensures) in
    c.into_string.ensures
    ∙ ended properties at.made c.join-2.new.made (chars at.left.now)
    (declarations properties (pieces (chars c.args.style.now))) c.in_default.ensures is at.invariant.goes
