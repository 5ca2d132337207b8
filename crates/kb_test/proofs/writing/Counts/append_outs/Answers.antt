use Rattle.std.proofs.Common.{◌<◌, arith, rules}
use Rattle.std.proofs.lemmas.Grind.{common_steps}
use Rattle.kb_test.proofs.Appending.{next_out, missing_out}
use Rattle.kb_test.proofs.writing.Counts.append_outs.Goals as goal

pub returns-in_default-clause-ok : goal.returns-in_default-clause-ok
returns-in_default-clause-ok g c =
    missing_out c.args.self.inputs c.args.self.literals c.loop-number.number (g.O.Objects.objects c.args.heap.now) _ c.loop-number.into.items c.in_default.ensures c.loop-number.invariant.text

pub loop-number-preserved : goal.loop-number-preserved
loop-number-preserved g c =
    let less : c.loop-number.number < c.args.self.inputs = search rules in
    record {
      text = next_out c.args.self.inputs c.args.self.literals c.loop-number.number (g.O.Objects.objects c.args.heap.now) c.in-Some.object.now _ c.loop-number.into.items c.append_out_line.new.into.items
          less c.in-Some.ensures c.loop-number.invariant.text (rw c.as_slice.ensures at c.in_ok-append_out_line.ensures.ok);
      kept = grind (arith, common_steps);
      within = omega arith;
    }
