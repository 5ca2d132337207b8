use Rattle.std.proofs.Common.{rules, ◌≡◌, sym, subst}
use Rattle.std.specs.Prelude.{IfOk}
use Rattle.std.proofs.lemmas.Result.{IfOk-weaker}
use Rattle.kb_picture.specs.declared.path.Path.{Path}
use Rattle.kb_classes.specs.World.{World}
use Rattle.kb_picture.specs.WellFormed.{IsWellFormed}
use Rattle.kb_frames.specs.Paths.{path_of}
use Rattle.kb_frames.specs.State.{State}
use Rattle.kb_frames.specs.States.{IsLeafIn, IsState}
use Rattle.kb_frames.proofs.FormedPaths.{well_formed}
use Rattle.kb_frames.proofs.state.SymState.path.Goals as goal

pub returns-clause-formed : goal.returns-clause-formed
unfolding path_of
returns-clause-formed c =
    let state : State = c.args.self.now in
    let path : IfOk c.numbered_path.result (λ (p : Path). p ≡ path_of state c.args.decisions.now c.args.leaf) = search rules in
    IfOk-weaker c.numbered_path.result (λ (p : Path). p ≡ path_of state c.args.decisions.now c.args.leaf)
    (λ (p : Path). (world : World) → IsState world state → IsLeafIn world state c.args.leaf → IsWellFormed world state.method p)
    (λ p is world s h. subst (λ (q : Path). IsWellFormed world state.method q) (sym is) (well_formed world state c.args.decisions.now c.args.leaf s h))
    path
