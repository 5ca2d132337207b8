use Rattle.std.proofs.Common.{◌≤◌, List, [], length, take, sym, subst, arith}
use Rattle.std.specs.List.{AllZip}
use Rattle.std.proofs.lemmas.List.{take_all}
use Rattle.kb_class.specs.declared.members.MemberKind.TheVariants as kinds
use Rattle.kb_class.specs.declared.members.MethodInfo.{MethodInfo}
use Rattle.kb_numbers.specs.declared.pairs.Pair.{Pair}
use Rattle.kb_numbers.specs.Numbers.{IsMethodPair, IsWritten}
use Rattle.kb_numbers.proofs.NumberLaws.{keeps_self, keeps_both, stands_on}
use Rattle.kb_numbers.proofs.ZipLaws.{all_read, zip_as, zip_next}
use Rattle.kb_numbers.proofs.written.written_pairs.Goals as goal

pub loop-method-init : goal.loop-method-init
loop-method-init c = record { each = subst (λ (pairs : List Pair). AllZip (IsMethodPair c.args.texts.now) [] pairs) (sym c.new-pairs.ensures.items) tt; keeps = keeps_self c.args.texts.now }

pub written_pair-requires : goal.written_pair-requires
written_pair-requires c = all_read IsWritten c.args.methods.now c.loop-method.method-index c.method-item.result c.loop-method-test.true c.method-item.is c.requires

pub loop-method-preserved : goal.loop-method-preserved
loop-method-preserved c =
    let methods = c.args.methods.now in
    let before = c.loop-method.texts in
    let after = c.written_pair.new.texts in
    let keeps = c.in_ok-pair.ensures.keeps in
    record {
      each = zip_next (IsMethodPair after) methods c.loop-method.pairs.items c.push.new.self.items c.loop-method.method-index c.method-item.result c.in_ok-pair.pair c.loop-method-test.true c.method-item.is
          c.in_ok-push.ensures.items
          (zip_as (IsMethodPair before) (IsMethodPair after) (take c.loop-method.method-index methods) c.loop-method.pairs.items
          (λ method pair is. stands_on before after keeps pair method.name (kinds.Method method.kind) is) c.loop-method.invariant.each)
          c.in_ok-pair.ensures.pair;
      keeps = keeps_both c.args.texts.now before after c.loop-method.invariant.keeps keeps;
    }

pub returns-clause-pairs : goal.returns-clause-pairs
returns-clause-pairs c =
    let methods = c.args.methods.now in
    let past : length methods ≤ c.loop-method.method-index = omega (arith, c.loop-method-test.false) in
    subst (λ (ms : List MethodInfo). AllZip (IsMethodPair c.loop-method.texts) ms c.loop-method.pairs.items) (take_all c.loop-method.method-index methods past) c.loop-method.invariant.each
