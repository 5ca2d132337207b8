use Rattle.std.proofs.Common.{sym, ◌∙◌}
use Rattle.kb_steps.proofs.BeginLaws.{begins}
use Rattle.kb_steps.proofs.beginning.begin_known.Goals as goal

pub first_state-requires : goal.first_state-requires
first_state-requires c =
    begins c.args.world.now c.args.method c.method_of.result.now c.method_of.ensures.linked c.method_of.ensures.there (sym c.has_left_out.ensures ∙ c.if-has_left_out.false)
