-- Each turn goes further, or tells what the state has become.
use Rattle.std.proofs.Common.{rules, ◌≡◌, Some, None}
use Rattle.kb_terms.proofs.Values.{Extends-refl, Extends-trans}
use Rattle.kb_drive.specs.Running.{WentFurther}
use Rattle.kb_drive.proofs.TurnLaws.{ends_there, fewer_there, goes_on_there, leads_there, runs_begin, runs_further, runs_stop, tells_choices, way_there}
use Rattle.kb_drive.proofs.running.run_on.Goals as goal

pub returns-in-Some-clause-ran : goal.returns-in-Some-clause-ran
returns-in-Some-clause-ran c =
    let went : WentFurther c.args.world.now c.args.bounds.now c.loop-ran.state c.go_further.new.state (Some c.in-Some.ran) = search rules in
    runs_stop c.args.world.now c.args.bounds.now c.args.state.now c.loop-ran.state c.go_further.new.state c.loop-ran.invariant.reached c.requires.range c.in_ok-ran.ensures.reached
    c.loop-ran.invariant.from c.in-Some.ran went

pub returns-in-Some-clause-choices : goal.returns-in-Some-clause-choices
returns-in-Some-clause-choices c =
    let went : WentFurther c.args.world.now c.args.bounds.now c.loop-ran.state c.go_further.new.state (Some c.in-Some.ran) = search rules in
    tells_choices c.args.world.now c.args.bounds.now c.loop-ran.state c.go_further.new.state c.in-Some.ran went

pub returns-in-Some-clause-way : goal.returns-in-Some-clause-way
returns-in-Some-clause-way c =
    let went : WentFurther c.args.world.now c.args.bounds.now c.loop-ran.state c.go_further.new.state (Some c.in-Some.ran) = search rules in
    way_there c.args.world.now c.args.bounds.now c.args.state.now c.loop-ran.state c.go_further.new.state c.loop-ran.invariant.reached c.requires.range c.in_ok-ran.ensures.reached
    c.loop-ran.invariant.from c.in-Some.ran went

pub returns-in-Some-clause-leads : goal.returns-in-Some-clause-leads
returns-in-Some-clause-leads c =
    let went : WentFurther c.args.world.now c.args.bounds.now c.loop-ran.state c.go_further.new.state (Some c.in-Some.ran) = search rules in
    leads_there c.args.world.now c.args.bounds.now c.loop-ran.state c.go_further.new.state c.requires.range c.loop-ran.invariant.reached c.in_ok-ran.ensures.reached c.in-Some.ran went

pub returns-in-Some-clause-ending : goal.returns-in-Some-clause-ending
returns-in-Some-clause-ending c =
    let went : WentFurther c.args.world.now c.args.bounds.now c.loop-ran.state c.go_further.new.state (Some c.in-Some.ran) = search rules in
    ends_there c.args.world.now c.args.bounds.now c.loop-ran.state c.go_further.new.state c.requires.range c.loop-ran.invariant.reached c.in_ok-ran.ensures.reached c.in-Some.ran went

pub loop-ran-init : goal.loop-ran-init
loop-ran-init c = record {
  reached = c.requires.reached;
  from = runs_begin c.args.world.now c.args.bounds.now c.args.state.now;
  terms = Extends-refl c.args.state.now.nodes;
}

pub loop-ran-smaller : goal.loop-ran-smaller
loop-ran-smaller c =
    let went : WentFurther c.args.world.now c.args.bounds.now c.loop-ran.state c.go_further.new.state None = search rules in
    fewer_there c.args.world.now c.args.bounds.now c.loop-ran.state c.go_further.new.state c.requires.range c.loop-ran.invariant.reached c.in_ok-ran.ensures.reached went

pub loop-ran-preserved : goal.loop-ran-preserved
loop-ran-preserved c =
    let went : WentFurther c.args.world.now c.args.bounds.now c.loop-ran.state c.go_further.new.state None = search rules in
    record {
      reached = goes_on_there c.args.world.now c.args.bounds.now c.loop-ran.state c.go_further.new.state c.requires.range c.loop-ran.invariant.reached c.in_ok-ran.ensures.reached went;
      from = runs_further c.args.world.now c.args.bounds.now c.args.state.now c.loop-ran.state c.go_further.new.state c.loop-ran.invariant.reached c.requires.range c.in_ok-ran.ensures.reached
          c.loop-ran.invariant.from went;
      terms = Extends-trans c.args.state.now.nodes c.loop-ran.state.nodes c.go_further.new.state.nodes c.loop-ran.invariant.terms c.in_ok-ran.ensures.terms;
    }
