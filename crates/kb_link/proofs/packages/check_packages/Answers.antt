use Rattle.std.proofs.Common.{◌≡◌, ◌<◌, List, Some, length, get_or, slice_get, refl, sym, ap, subst, ◌∙◌}
use Rattle.std.specs.List.{AllZip}
use Rattle.std.proofs.lemmas.Option.{slice_get_read}
use Rattle.kb_class.specs.Class.{Class}
use Rattle.kb_numbers.specs.declared.pairs.Pair.{Pair}
use Rattle.kb_numbers.specs.Numbers.{IsMethodPair}
use Rattle.kb_link.proofs.SharedPairs.{pairs_of}
use Rattle.kb_link.proofs.SharingLaws.{none_next, refuses_next}
use Rattle.kb_link.proofs.packages.check_packages.Goals as goal

pub check_class-requires : goal.check_class-requires
check_class-requires c =
    let classes = c.args.classes.now in
    let class = c.class-item.result in
    let inside : c.loop-number.number < length classes = subst (λ (cs : List Class). c.loop-number.number < length cs) c.as_slice-class-items.ensures.same c.loop-number-test.true in
    let is : class ≡ get_or classes c.loop-number.number class = c.class-item.is ∙ ap (λ (cs : List Class). get_or cs c.loop-number.number class) c.as_slice-class-items.ensures.same in
    let there : slice_get classes c.loop-number.number ≡ Some class = slice_get_read classes (length classes) c.loop-number.number class refl inside is in (
      c.requires.0,
      c.requires.5,
      subst (λ (ps : List Pair). AllZip (IsMethodPair c.args.numbers.now.texts) class.methods ps) (sym c.methods_at-pairs.ensures)
          (pairs_of classes c.args.numbers.now c.requires.5 c.requires.0 c.loop-number.number class there),
    )

pub loop-number-preserved : goal.loop-number-preserved
loop-number-preserved c =
    none_next c.args.classes.now c.as_slice-class-items.result.now c.as_slice-class-items.ensures.same c.args.chains.now c.requires.4 c.loop-number.number c.loop-number-test.true c.class-item.result c.class-item.is
    c.index-chains-number.result c.as_slice-chain.result.now c.index-chains-number.is c.as_slice-chain.ensures c.loop-number.invariant c.in-Ok.ensures.whole

pub returns-in-Err-clause-refused : goal.returns-in-Err-clause-refused
returns-in-Err-clause-refused c =
    refuses_next c.args.classes.now c.as_slice-class-items.result.now c.as_slice-class-items.ensures.same c.args.chains.now c.requires.4 c.loop-number.number c.loop-number-test.true c.class-item.result c.class-item.is
    c.index-chains-number.result c.as_slice-chain.result.now c.index-chains-number.is c.as_slice-chain.ensures c.as_slice-class-items.ensures.differ c.requires.1 c.requires.2 c.requires.3 c.loop-number.invariant c.in-Err.refusal c.in-Err.ensures.refused
