-- A state is taken on where there is the only way on, and else it stays before its choice. An alternative that is alone but was
-- chosen, as a branch of which the other way is decided as false, is a choice.
use Rattle.std.specs.Prelude.{◌≡◌, ◌≢◌, List, [], ◌∷◌}
use Rattle.kb_picture.specs.declared.choice.Choice.{Choice}
use Rattle.kb_picture.specs.declared.choice.Choice.TheVariants.{Only}
use Rattle.kb_frames.specs.State.{State}
use Rattle.kb_ways.specs.declared.advanced.Advanced.{Advanced}
use Rattle.kb_ways.specs.declared.advanced.Advanced.TheVariants.{Chooses, Took}
use Rattle.kb_ways.specs.Turns.{told}
use Rattle.kb_ways.specs.Ways.{Take}

-- the alternatives where nothing is chosen
abbrev pub only : List Choice
only = Only ∷ []

-- From a state with these alternatives, where the only way on makes that of it.
abbrev pub IsAdvanced : List Choice → Take → State → State → Advanced → Type 0
IsAdvanced alternatives take old new (Chooses choices) = (new ≡ old) × (choices.items ≡ alternatives) × (alternatives ≢ only)
IsAdvanced alternatives take old new (Took outcome) = (alternatives ≡ only) × (told new outcome ≡ take)
