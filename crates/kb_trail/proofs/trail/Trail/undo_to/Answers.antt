use Rattle.std.proofs.Common.{◌<◌, refl, arith, length}
use Rattle.kb_trail.proofs.Undoing.{turn}
use Rattle.kb_trail.proofs.trail.Trail.undo_to.Goals as goal

pub loop-self-preserved-in-Some : goal.loop-self-preserved-in-Some
loop-self-preserved-in-Some g c =
    let above : c.args.mark < length c.loop-self.self-inside.entries.items = omega (arith, c.loop-self-test.true, c.len.ensures) in
    turn c.args.self.now c.args.cells.now.items c.args.mark c.loop-self.self-inside.entries.items c.pop.new.self.items (c.in-Some.place, c.in-Some.value)
    c.loop-self.cells.items _ above c.in-Some.ensures.items refl c.loop-self.invariant
