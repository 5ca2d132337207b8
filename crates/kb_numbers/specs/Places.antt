-- The first of some items that is such.
use Rattle.std.specs.Prelude.{ℕ, suc, Bool, List, [], ◌∷◌, Option, Some, None, if◌then◌else◌}
use Rattle.std.specs.Option.{option_map}

-- the place of the first item that is such
abbrev pub place_where : {A : Type 0} → (A → Bool) → List A → Option ℕ
place_where is [] = None
place_where is (x ∷ xs) = if is x then Some 0 else option_map suc (place_where is xs)
