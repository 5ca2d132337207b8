use Rattle.std.proofs.Common.{sym, subst}
use Rattle.kb_propagate.specs.Trail.{Assigned}
use Rattle.kb_propagate.proofs.ForgetLaws.{Forgets-refl, Forgets-trans}
use Rattle.kb_sat.specs.Solver.{IsEquipped}
use Rattle.kb_sat.proofs.forgetting.delete_all.Goals as goal

pub loop-candidate-init : goal.loop-candidate-init
loop-candidate-init c = record {
  stands = c.requires.stands;
  equipped = c.requires.equipped;
  ready = c.requires.ready;
  forgets = Forgets-refl c.args.search.now.base c.requires.stands c.requires.ready;
}

pub loop-candidate-preserved : goal.loop-candidate-preserved
loop-candidate-preserved c =
    let s = c.loop-candidate.search in
    let f = c.delete.ensures.forgets in
    record {
      stands = f.stands;
      equipped = subst (λ (t : Assigned). IsEquipped t.vars s.order s.phases.items s.marks) (sym f.trail) c.loop-candidate.invariant.equipped;
      ready = f.ready;
      forgets = Forgets-trans c.args.search.now.base s.base c.delete.new.self c.loop-candidate.invariant.forgets f;
    }
