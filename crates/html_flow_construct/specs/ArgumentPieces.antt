-- The results of the parts of `construct`, apart from what is constructed.
use Rattle.std.specs.Prelude.{ℕ, suc, List, [], ◌∷◌, if◌then◌else◌, Option, None, Some, option_map, is_some, get_or}
use Rattle.html_values.specs.Values.{none_value}
use Rattle.html_flow_faults.specs.ConstructFaults.{ConstructFaultView, body_kind}
use Rattle.html_flow_convert.specs.Items.{ItemsView, BodyView}
use Rattle.html_flow_construct.specs.Construct.{ArgValueView, plain, items, ArgView}

-- the index of the first argument without a name
abbrev pub unnamed_at : List ArgView → Option ℕ
unnamed_at [] = None
unnamed_at (a ∷ more) =
    if is_some a.name then option_map (λ k. suc k) (unnamed_at more) else Some 0

-- an argument at an index without one; `arg_at` is the argument at an index
abbrev pub no_arg : ArgView
no_arg = record { name = None; span = 0; value = plain none_value }

abbrev pub arg_at : List ArgView → ℕ → ArgView
arg_at args place = get_or args place no_arg

-- items, which are a body of their own, or else what a value makes
abbrev pub or_own : ArgValueView → ItemsView → ItemsView
or_own (plain v) made = made
or_own (items c) made = c

-- the fault of an argument that makes no body
abbrev pub body_faults : Option BodyView → (span : ℕ) → List ConstructFaultView
body_faults None span = body_kind span ∷ []
body_faults (Some body) span = []
