use Rattle.std.proofs.Common.{◌≡◌, ℕ, List, sym, ap, ◌∙◌, chars}
use Rattle.html_names_core.specs.Texts.{text_view}
use Rattle.html_values_css.proofs.{Listing.{put_gap}, Names.{by_name_total}}
use Rattle.html_values_css.specs.Properties.{list_view, property_view, property_name, with_property}
use Rattle.html_values_css.specs.declared.property.Property.{Property}
use Rattle.html_values_css.proofs.property_list.put_at.Goals as goal

pub returns-in-Ok-insert-clause-ok : goal.returns-in-Ok-insert-clause-ok
returns-in-Ok-insert-clause-ok c =
    let list = c.args.list.now.items in
    let made = c.new.result in
    let name : property_name made ≡ chars c.args.name.now =
    ap (λ (p : Property). property_name p) c.new.ensures ∙ ap chars c.in-Ok.ensures.ok in
    let value : text_view made.value ≡ text_view c.args.value =
    ap (λ (p : Property). text_view p.value) c.new.ensures in
    ap list_view c.in-Ok-insert.ensures.items
    ∙ sym (put_gap by_name_total property_view list c.args.at made c.requires.within
    (rw name c.requires.before) (rw name c.requires.after))
    ∙ ap (λ (n : List ℕ). with_property (list_view list) n (text_view made.value)) name
    ∙ ap (λ (v : List ℕ). with_property (list_view list) (chars c.args.name.now) v) value
