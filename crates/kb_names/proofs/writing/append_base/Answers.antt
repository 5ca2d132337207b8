use Rattle.std.proofs.lemmas.Result.{on_ok_weaker}
use Rattle.std.proofs.Common.{sym, subst}
use Rattle.kb_names.specs.Types.{shape_of}
use Rattle.kb_names.specs.Descriptors.{MayStand, IsClassName, HasNameOf}
use Rattle.kb_names.specs.declared.types.JType.{JType}
use Rattle.kb_names.proofs.writing.append_base.Goals as goal

pub returns-in-Class-clause-is : goal.returns-in-Class-clause-is
returns-in-Class-clause-is c =
    on_ok_weaker c.append_class.result
    (λ is. subst (λ (of : JType). HasNameOf (MayStand c.args.spelling) (shape_of of).base → HasNameOf (IsClassName c.args.spelling) (shape_of of).base) (sym c.in-Class.is) is)
    c.append_class.ensures.is
