-- The arguments that a filter keeps are the others.
use Rattle.std.proofs.{Common.{◌≡◌, List, [], ◌∷◌, Bool, refl, ap, ◌∙◌, inl, inr}, lemmas.Bool.{cases_Bool}}
use Rattle.std.specs.Prelude.{filter, not, is_some, option_map}
use Rattle.html_names_core.specs.Texts.{text_view}
use Rattle.html_flow_construct.specs.{Construct.{Entry, args_view, arg_view, entry_for, other_args}, declared.args.Arg.{Arg}}

-- whether an argument is no attribute of the element
abbrev pub is_other : List Entry → Arg → Bool
is_other entries arg = not (is_some (entry_for entries (option_map text_view arg.name)))

others_filter : (entries : List Entry) (args : List Arg)
    → args_view (filter (is_other entries) args) ≡ other_args entries (args_view args)
others_filter entries [] = refl
others_filter entries (arg ∷ more) =
    elim (cases_Bool (is_some (entry_for entries (option_map text_view arg.name)))) [
      | inl known ↦ rw known (others_filter entries more)
      | inr unknown ↦ rw unknown (ap (λ l. arg_view arg ∷ l) (others_filter entries more))
    ]

pub others_kept : (entries : List Entry) (args kept : List Arg)
    → kept ≡ filter (is_other entries) args → args_view kept ≡ other_args entries (args_view args)
others_kept entries args kept filtered = ap args_view filtered ∙ others_filter entries args
