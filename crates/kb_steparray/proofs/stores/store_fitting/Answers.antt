use Rattle.std.proofs.Common.{◌≡◌, false, sym, ◌∙◌}
use Rattle.kb_steparray.specs.Arrays.{takes_object}
use Rattle.kb_steparray.proofs.stores.store_fitting.Goals as goal

-- an object that does not fit throws
pub returns-else-branch : goal.returns-else-branch
returns-else-branch c =
    let no : takes_object c.args.turn.now.world.now c.args.state.now c.args.component.now c.args.value ≡ false = sym c.in_ok-takes_object.ensures ∙ c.if-branch.false in
    rw (no) c.throws.ensures
