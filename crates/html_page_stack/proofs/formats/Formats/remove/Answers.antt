use Rattle.std.proofs.{Common.{arith, option_map, reverse, sym, ap, ◌∙◌, subst}, lemmas.List.{length-map}}
use Rattle.html_page_stack.proofs.OpenFormats.{entries_left}
use Rattle.html_page_stack.specs.{FormatPlaces.{IsFound}, PageViews.{entries_of, entry_test, format_of}}
use Rattle.html_page_stack.proofs.formats.Formats.remove.Goals as goal

pub remove-requires : goal.remove-requires
remove-requires c = let es = c.args.self.now.entries in
    let found = subst (λ l. IsFound (entry_test c.args.entry) c.args.others (entries_of l)
    c.in-Some.place) c.deref.ensures.value c.in-Some.ensures in
    omega (arith, found.within, length-map es.items (option_map format_of), es.ok.0)

pub returns-in-Some : goal.returns-in-Some
returns-in-Some c =
    let es = c.args.self.now.entries.items in
    let found = subst (λ l. IsFound (entry_test c.args.entry) c.args.others (entries_of l)
    c.in-Some.place) c.deref.ensures.value c.in-Some.ensures in
    ap (λ l. reverse (entries_of l)) c.remove.ensures.items
    ∙ (ap reverse (entries_left es c.in-Some.place) ∙ sym found.without)
