use Rattle.std.proofs.Common.{◌≡◌, true, sym, ◌∙◌}
use Rattle.kb_stepint.specs.IntMethods.{is_int_method}
use Rattle.kb_stepint.proofs.IntMethodLaws.{start_reached, unhandled}
use Rattle.kb_stepint.proofs.int_methods.is_int_method.Goals as goal

pub returns-in-Some-clause-begins : goal.returns-in-Some-clause-begins
returns-in-Some-clause-begins c = λ yes init.
    let is : is_int_method c.args.world.now c.args.method ≡ true = rw c.method_of.ensures.there (sym c.is_int_info.ensures ∙ yes) in
    start_reached c.args.world.now init c.args.method c.method_of.ensures.linked is

pub returns-in-Some-clause-unhandled : goal.returns-in-Some-clause-unhandled
returns-in-Some-clause-unhandled c = λ yes.
    let is : is_int_method c.args.world.now c.args.method ≡ true = rw c.method_of.ensures.there (sym c.is_int_info.ensures ∙ yes) in
    unhandled c.args.world.now c.args.method is
