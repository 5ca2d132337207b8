use Rattle.std.proofs.Common.{◌≡◌, true, List, IfSome, sym, subst}
use Rattle.std.specs.List.{AllByRecursion}
use Rattle.kb_asm_text.specs.declared.line.Line.{Line}
use Rattle.kb_asm.specs.Needs.{have_all}
use Rattle.kb_asm.specs.Working.{IsFitLine, IsSoundBody, IsSoundAt}
use Rattle.kb_asm.proofs.TextLaws.{body_fit, body_had}
use Rattle.kb_asm.proofs.methods.method_in.Goals as goal

pub method_of-requires-clause-there : goal.method_of-requires-clause-there
method_of-requires-clause-there c =
    subst (λ (l : List Line). have_all c.args.pool.now.says l ≡ true) (sym c.body_of.ensures) (body_had c.args.pool.now.says c.args.others.now c.requires.there)

pub method_of-requires-clause-fit : goal.method_of-requires-clause-fit
method_of-requires-clause-fit c =
    subst (λ (l : List Line). AllByRecursion (IsFitLine c.args.pool.now.says) l) (sym c.body_of.ensures) (body_fit c.args.pool.now.says c.args.others.now c.requires.fit)

pub method_of-requires-clause-sound : goal.method_of-requires-clause-sound
method_of-requires-clause-sound c =
    subst (λ (l : List Line). IfSome c.in-Method.head.sizes (λ _. IsSoundBody l)) (sym c.body_of.ensures)
    (subst (λ (line : Line). IsSoundAt line c.args.others.now) c.in-Method.is c.requires.sound)
