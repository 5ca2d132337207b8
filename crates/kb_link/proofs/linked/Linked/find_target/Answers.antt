use Rattle.std.proofs.Common.{◌≡◌, Bool, false, true, is_some, not, sym, ap, ◌∙◌}
use Rattle.std.proofs.lemmas.Option.{slice_get_within}
use Rattle.kb_classes.specs.World.{methods_in}
use Rattle.kb_classes.specs.Split.{is_special}
use Rattle.kb_link.proofs.TargetLaws.{has_code, has_no_code}
use Rattle.kb_link.proofs.linked.Linked.find_target.Goals as goal

pub returns-in_err-id-clause-none : goal.returns-in_err-id-clause-none
returns-in_err-id-clause-none c = rw c.from_residual.ensures (λ id is. c.in_err-id.ensures.none id is.declared)

pub method_of-requires : goal.method_of-requires
method_of-requires c =
    let found = c.in_ok-id.ensures.found in
    slice_get_within (methods_in c.args.self.now.classes) c.in_ok-id.id.0 found.method found.method_is

pub returns-then-is_none-clause-none : goal.returns-then-is_none-clause-none
returns-then-is_none-clause-none c = λ other is.
    let none : is_some c.method_of.result.now.code ≡ false = c.is_none.ensures ∙ ap (λ (b : Bool). not b) c.if-is_none.true in
    has_no_code c.args.self.now c.in_ok-id.id other c.args.target.now c.method_of.result.now c.method_of.ensures.there none (c.in_ok-id.ensures.alone other is.declared) is

pub returns-clause-found : goal.returns-clause-found
returns-clause-found c =
    let some : is_some c.method_of.result.now.code ≡ true = c.is_none.ensures ∙ ap (λ (b : Bool). not b) c.if-is_none.false in
    record {
      declared = c.in_ok-id.ensures.found;
      code = has_code c.args.self.now c.in_ok-id.id c.args.target.now c.method_of.result.now c.in_ok-id.ensures.found c.method_of.ensures.there some;
      ordinary = ap is_special (sym c.as_slice.ensures.same) ∙ sym c.is_special.ensures ∙ c.if-is_special.false;
    }

pub returns-clause-alone : goal.returns-clause-alone
returns-clause-alone c = λ other is. c.in_ok-id.ensures.alone other is.declared
