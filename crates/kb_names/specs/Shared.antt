-- Lists with several owners.
use Rattle.std.specs.Prelude.{List, [], Option, Some, None}
use Rattle.std.specs.Arc.{arc_value}
use Rattle.std.specs.Global.{Vec, Global}
use Rattle.std.specs.declared.sync.Arc.{Arc}

-- the items, none where nothing is shared
abbrev pub items_of : {A : Type 0} → Option (Arc (Vec A) Global) → List A
items_of None = []
items_of (Some shared) = (arc_value shared).items
