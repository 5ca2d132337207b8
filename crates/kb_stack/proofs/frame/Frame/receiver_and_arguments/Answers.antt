use Rattle.std.proofs.Common.{◌≡◌, None, sym, ◌∙◌, arith}
use Rattle.kb_stack.proofs.Stacks.{no_receiver}
use Rattle.kb_stack.proofs.frame.Frame.receiver_and_arguments.Goals as goal

pub returns-in_default-clause-it : goal.returns-in_default-clause-it
returns-in_default-clause-it c =
    let none : c.in_ok-values.field-0 ≡ None = grind arith in
    no_receiver c.args.types.now c.args.self.now.stack _ (omega arith) (sym none ∙ c.in_ok-values.ensures.top)
