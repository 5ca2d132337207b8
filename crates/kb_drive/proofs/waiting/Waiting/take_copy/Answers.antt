-- A copy of the piece is the piece.
use Rattle.std.proofs.Common.{List, slice_get, IfOk, sym, subst}
use Rattle.kb_picture.specs.declared.choice.Choice.{Choice}
use Rattle.kb_drive.specs.declared.piece.Piece.{Piece}
use Rattle.kb_drive.specs.Following.{IsTakenOf}
use Rattle.kb_drive.specs.Walks.{CanBeTaken}
use Rattle.kb_drive.proofs.waiting.Waiting.take_copy.Goals as goal

pub take_in-requires : goal.take_in-requires
take_in-requires c =
    subst (λ (piece : Piece). CanBeTaken c.args.world.now c.args.bounds.now (record { piece = piece; choices = c.as_slice-choices.result.now; next = c.args.self.now.next })) (sym c.in_ok-piece.ensures)
    (subst (λ (choices : List Choice). CanBeTaken c.args.world.now c.args.bounds.now (record { piece = c.args.self.now.piece; choices = choices; next = c.args.self.now.next })) (sym c.as_slice-choices.ensures)
    c.requires)

pub returns-clause-taken : goal.returns-clause-taken
returns-clause-taken c =
    subst (λ (choices : List Choice). IfOk c.take_in.result
    (IsTakenOf c.args.world.now c.args.bounds.now (record { piece = c.args.self.now.piece; choices = choices; next = c.args.self.now.next }) (slice_get choices c.args.self.now.next))) c.as_slice-choices.ensures
    (subst (λ (piece : Piece). IfOk c.take_in.result
    (IsTakenOf c.args.world.now c.args.bounds.now (record { piece = piece; choices = c.as_slice-choices.result.now; next = c.args.self.now.next })
    (slice_get c.as_slice-choices.result.now c.args.self.now.next))) c.in_ok-piece.ensures c.take_in.ensures.taken)
