use Rattle.kb_picture.specs.declared.path.Leaf.TheVariants.{Open}
use Rattle.step_rows.proofs.ends.add_path.Goals as goal

pub path-requires : goal.path-requires
path-requires c = record { terms = c.paths_are_well_formed.ensures.terms c.args._world.now c.args.state.now Open c.requires.sound tt }
