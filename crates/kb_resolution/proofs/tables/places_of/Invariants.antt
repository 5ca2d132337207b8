use Rattle.std.proofs.Common.{◌≡◌, take}
use Rattle.kb_numbers.specs.declared.pairs.Pair.{Pair}
use Rattle.kb_numbers.specs.Pairs.{place_told}
use Rattle.kb_link.specs.Members.{place_where}
use Rattle.kb_resolution.specs.Tables.{is_key}
use Rattle.kb_resolution.proofs.tables.places_of.Given as goal

abbrev pub invariant-loop-place : goal.invariant-loop-place
invariant-loop-place l = (pair : Pair) → place_told l.table pair ≡ place_where (is_key l.class pair) (take l.place l.keys)
