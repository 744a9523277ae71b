-- The index of a name among sorted properties, or the index where it belongs.
use Rattle.std.specs.{List.{AllWithin, HoldsAt}, Prelude.{◌≡◌, ℕ, ◌<◌, ◌≤◌, List, length}, declared.cmp.Ordering.{Ordering}}
use Rattle.std.specs.declared.cmp.Ordering.TheVariants.{Less, Equal, Greater}

module _ {A K : Type 0} (cmp : K → K → Ordering) (key : A → K) where
  -- the name is at that index, and the names before it are smaller
  pub record IsFound (list : List A) (name : K) (at : ℕ) : Type 0 where
    pub within : at < length list
    pub before : AllWithin (λ a. cmp name (key a) ≡ Greater) list 0 at
    pub here : HoldsAt (λ a. cmp name (key a) ≡ Equal) list at

  -- smaller names are before that index, and greater ones from it on
  pub record IsGap (list : List A) (name : K) (at : ℕ) : Type 0 where
    pub within : at ≤ length list
    pub before : AllWithin (λ a. cmp name (key a) ≡ Greater) list 0 at
    pub after : AllWithin (λ a. cmp name (key a) ≡ Less) list at (length list)
