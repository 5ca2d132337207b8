use Rattle.std.proofs.Common.{◌≡◌, IfOk, subst}
use Rattle.kb_drive.specs.declared.follow.Next.{Next}
use Rattle.kb_drive.proofs.RanLaws.{become_follows}
use Rattle.kb_drive.proofs.follow.follow_met.Goals as goal

pub returns-clause-follows : goal.returns-clause-follows
returns-clause-follows c =
    subst (λ (n : Next). IfOk c.settle.result (λ next. next ≡ n))
    (become_follows c.args.world.now c.args.bounds.now c.args.taken.piece c.args.taken.outcome c.in_ok-piece.piece c.in_ok-piece.ran c.in_ok-piece.ensures.became) c.settle.ensures
