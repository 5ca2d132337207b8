use Rattle.std.proofs.Common.{◌≡◌, ℕ, List, sym, subst, ◌∙◌}
use Rattle.std.specs.List.{AllZip}
use Rattle.kb_class.specs.declared.members.MethodInfo.{MethodInfo}
use Rattle.kb_numbers.specs.Numbers.{IsMethodPair}
use Rattle.kb_classes.specs.Rules.{IsFirst}
use Rattle.kb_link.specs.Sharing.{IsShared, elsewhere_above}
use Rattle.kb_link.proofs.SharingLaws.{stops_at_shared}
use Rattle.kb_link.proofs.packages.check_class.Goals as goal

pub first_shared-requires : goal.first_shared-requires
first_shared-requires c = (c.requires.0, c.requires.1, subst (λ (ms : List MethodInfo). AllZip (IsMethodPair c.args.numbers.now.texts) ms c.args.pairs.now) (sym c.methods.ensures) c.requires.2)

pub returns-in-Some-clause-refused : goal.returns-in-Some-clause-refused
returns-in-Some-clause-refused c =
    let above : c.as_slice-2.result.now ≡ elsewhere_above c.args.classes.now c.args.class.now.name c.args.chain.now =
    c.as_slice-2.ensures ∙ c.in-Ok.ensures ∙ (λ i. elsewhere_above (c.as_slice.ensures.same i) (c.name.ensures i) c.args.chain.now) in
    let first : IsFirst (IsShared c.args.classes.now (elsewhere_above c.args.classes.now c.args.class.now.name c.args.chain.now)) c.args.class.now.methods c.in-Some.method.now =
    subst (λ (ns : List ℕ). IsFirst (IsShared c.args.classes.now ns) c.args.class.now.methods c.in-Some.method.now) above
    (subst (λ (ms : List MethodInfo). IsFirst (IsShared c.args.classes.now c.as_slice-2.result.now) ms c.in-Some.method.now) c.methods.ensures c.in-Some.ensures.found) in
    stops_at_shared c.args.classes.now c.args.class.now c.args.chain.now c.in-Some.method.now c.name-in-Some.result.now c.split_refusal.result c.name-in-Some.ensures first c.split_refusal.ensures
