use Rattle.std.proofs.Common.{◌≡◌, ◌+◌, arith, rules}
use Rattle.std.proofs.lemmas.Grind.{common_steps}
use Rattle.kb_test.proofs.Appending.{next_new, last_new, kept_more}
use Rattle.kb_test.proofs.writing.Counts.append_news.Goals as goal

pub loop-object-preserved : goal.loop-object-preserved
loop-object-preserved g c =
    let is : c.in-Some-checked_add.next ≡ c.loop-object.number + 1 = search rules in
    record {
      text = rw is
          (next_new c.args.self.inputs c.args.self.literals (c.args.self.inputs + c.args.self.literals) c.loop-object.number (g.O.Objects.objects c.args.heap.now) c.in-Some.object.now _
          c.loop-object.into.items c.append_new_line.new.into.items c.in-Some.ensures c.loop-object.invariant.text c.in_ok-append_new_line.ensures.ok);
      kept = kept_more _ c.loop-object.into.items c.append_new_line.new.into.items c.loop-object.invariant.kept c.in_ok-append_new_line.ensures.kept;
    }

pub returns-clause-ok : goal.returns-clause-ok
returns-clause-ok g c =
    last_new c.args.self.inputs c.args.self.literals (c.args.self.inputs + c.args.self.literals + c.loop-object.number) c.loop-object.number (g.O.Objects.objects c.args.heap.now) _
    c.loop-object.into.items c.in_default.ensures c.loop-object.invariant.text
