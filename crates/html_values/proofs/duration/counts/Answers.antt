use Rattle.std.proofs.Common.{◌∙◌, ◌/◌, ◌%◌, codes}
use Rattle.html_values.{proofs.Spaces.{step_by_step}, specs.AttrTexts.{count_text}}
use Rattle.html_values.proofs.duration.counts.Goals as goal

pub returns : goal.returns
returns c =
    let s = c.args.seconds in
    let weeks = count_text (s / 604_800) (codes "w") in
    let days = count_text (s / 86_400 % 7) (codes "d") in
    let hours = count_text (s / 3_600 % 24) (codes "h") in
    let minutes = count_text (s / 60 % 60) (codes "m") in
    let seconds = count_text (s % 60) (codes "s") in
    c.into_string.ensures
    ∙ step_by_step weeks days hours minutes seconds
    c.new-text.result c.push_count.new.text c.push_count-2.new.text c.push_count-3.new.text
    c.push_count-4.new.text c.push_count-5.new.text
    c.new-text.ensures c.in_ok-push_count.ensures c.in_ok-push_count-2.ensures
    c.in_ok-push_count-3.ensures c.in_ok-push_count-4.ensures c.in_ok-push_count-5.ensures
