-- What becomes of a watch that is taken up.
use Rattle.std.specs.Prelude.{List, [], ◌∷◌, ◌++◌}
use Rattle.kb_propagate.specs.declared.watch.Watch.{Watch}
use Rattle.kb_propagate.specs.declared.propagation.Outcome.{Outcome}
use Rattle.kb_propagate.specs.declared.propagation.Outcome.TheVariants.{Kept, Removed, Conflict}

abbrev pub IfKept : (Watch → Type 0) → Outcome → Type 0
IfKept P (Kept watch) = P watch
IfKept P Removed = Unit {0}
IfKept P Conflict = Unit {0}

abbrev pub IfConflict : Type 0 → Outcome → Type 0
IfConflict P (Kept watch) = Unit {0}
IfConflict P Removed = Unit {0}
IfConflict P Conflict = P

abbrev pub IfGoesOn : Type 0 → Outcome → Type 0
IfGoesOn P (Kept watch) = P
IfGoesOn P Removed = P
IfGoesOn P Conflict = Unit {0}

-- the watches that stay in the list, with one more where it stays
abbrev pub kept_with : List Watch → Outcome → List Watch
kept_with kept (Kept watch) = kept ++ watch ∷ []
kept_with kept Removed = kept
kept_with kept Conflict = kept
