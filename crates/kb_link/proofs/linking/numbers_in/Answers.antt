use Rattle.std.proofs.Common.{sym, subst}
use Rattle.std.proofs.lemmas.Result.{IfOk-weaker}
use Rattle.kb_numbers.specs.Numbers.{AreNumbered}
use Rattle.kb_link.proofs.linking.numbers_in.Goals as goal

pub returns : goal.returns
returns c = IfOk-weaker c.new.result _ _ (λ held same. subst (AreNumbered c.args.classes.now) (sym same) c.in_ok-numbers.ensures) c.new.ensures
