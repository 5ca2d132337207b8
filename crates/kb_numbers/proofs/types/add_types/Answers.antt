use Rattle.std.proofs.Common.{◌≡◌, ◌<◌, ◌≤◌, List, Some, length, take, get_or, slice_get, refl, sym, subst, ◌∙◌, arith}
use Rattle.std.specs.List.{AllZip}
use Rattle.std.proofs.lemmas.List.{take_all}
use Rattle.std.proofs.lemmas.Option.{same_Some, slice_get_read, slice_get-get_or}
use Rattle.kb_class.specs.Loading.{SpellsKind}
use Rattle.kb_class.specs.declared.members.MemberKind.TheVariants as kinds
use Rattle.kb_class.specs.declared.members.MethodInfo.{MethodInfo}
use Rattle.kb_numbers.specs.declared.pairs.Pair.{Pair}
use Rattle.kb_numbers.specs.Numbers.{IsMethodPair}
use Rattle.kb_numbers.specs.Typed.{IsTypedMethod}
use Rattle.kb_numbers.proofs.NumberLaws.{keeps_both, keeps_self, text_on}
use Rattle.kb_numbers.proofs.TypedLaws.{stays_both, stays_self, typed_on}
use Rattle.kb_numbers.proofs.ZipLaws.{zip_as, zip_long, zip_taken, zip_there}
use Rattle.kb_numbers.proofs.types.add_types.Goals as goal

abbrev none : Pair
none = record { name = 0; kind = 0 }

pub bounds-pairs-place : goal.bounds-pairs-place
bounds-pairs-place c =
    let long : length c.args.pairs.now ≡ length c.args.methods.now = zip_long (IsMethodPair c.args.texts.now) c.args.methods.now c.args.pairs.now c.requires.1 in
    omega (arith, long, c.loop-place-test.true)

pub loop-place-init : goal.loop-place-init
loop-place-init c = record { keeps = keeps_self c.args.texts.now; stays = stays_self c.args.types.now; ends = c.requires.0; typed = tt }

pub add_type-requires : goal.add_type-requires
add_type-requires c =
    let methods = c.args.methods.now in
    let pairs = c.args.pairs.now in
    let i = c.loop-place.place in
    let there : slice_get methods i ≡ Some c.index-methods-place.result = slice_get_read methods (length methods) i c.index-methods-place.result refl c.loop-place-test.true c.index-methods-place.is in
    let beside = zip_there (IsMethodPair c.args.texts.now) methods pairs i c.index-methods-place.result c.requires.1 there in
    let long : length c.args.pairs.now ≡ length c.args.methods.now = zip_long (IsMethodPair c.args.texts.now) c.args.methods.now c.args.pairs.now c.requires.1 in
    let inside : i < length pairs = omega (arith, long, c.loop-place-test.true) in
    let pair_there : slice_get pairs i ≡ Some (get_or pairs i none) = slice_get-get_or pairs i none inside in
    let same : beside.0 ≡ get_or pairs i none = same_Some beside.0 (get_or pairs i none) (sym beside.1 ∙ pair_there) in
    let stands = subst (λ (p : Pair). IsMethodPair c.args.texts.now c.index-methods-place.result p) same beside.2 in
    (c.loop-place.invariant.ends, text_on c.args.texts.now c.loop-place.texts c.loop-place.invariant.keeps (get_or pairs i none).kind (SpellsKind (kinds.Method c.index-methods-place.result.kind)) stands.typed)

pub loop-place-preserved : goal.loop-place-preserved
loop-place-preserved c =
    let methods = c.args.methods.now in
    let pairs = c.args.pairs.now in
    let i = c.loop-place.place in
    let before = c.loop-place.texts in
    let after = c.add_type.new.texts in
    let old = c.loop-place.types in
    let new = c.add_type.new.types in
    let keeps = c.in_ok-add_type.ensures.keeps in
    let there : slice_get methods i ≡ Some c.index-methods-place.result = slice_get_read methods (length methods) i c.index-methods-place.result refl c.loop-place-test.true c.index-methods-place.is in
    let long : length c.args.pairs.now ≡ length c.args.methods.now = zip_long (IsMethodPair c.args.texts.now) c.args.methods.now c.args.pairs.now c.requires.1 in
    let inside : i < length pairs = omega (arith, long, c.loop-place-test.true) in
    let pair_there : slice_get pairs i ≡ Some (get_or pairs i none) = slice_get-get_or pairs i none inside in
    record {
      keeps = keeps_both c.args.texts.now before after c.loop-place.invariant.keeps keeps.0;
      stays = stays_both c.args.types.now old new c.loop-place.invariant.stays keeps.1;
      ends = c.in_ok-add_type.ensures.ends;
      typed = zip_taken (IsTypedMethod after new) methods pairs i c.index-methods-place.result (get_or pairs i none) there pair_there
          (zip_as (IsTypedMethod before old) (IsTypedMethod after new) (take i methods) (take i pairs) (λ method pair is. typed_on before after keeps.0 old new keeps.1 method.kind pair.kind is) c.loop-place.invariant.typed)
          c.in_ok-add_type.ensures.typed;
    }

pub returns-clause-keeps : goal.returns-clause-keeps
returns-clause-keeps c = (c.loop-place.invariant.keeps, c.loop-place.invariant.stays)

pub returns-clause-ends : goal.returns-clause-ends
returns-clause-ends c = c.loop-place.invariant.ends

pub returns-clause-typed : goal.returns-clause-typed
returns-clause-typed c =
    let methods = c.args.methods.now in
    let pairs = c.args.pairs.now in
    let i = c.loop-place.place in
    let long : length pairs ≡ length methods = zip_long (IsMethodPair c.args.texts.now) methods pairs c.requires.1 in
    let past : length methods ≤ i = omega (arith, c.loop-place-test.false) in
    let beside : length pairs ≤ i = omega (arith, past, long) in
    subst (λ (ms : List MethodInfo). AllZip (IsTypedMethod c.loop-place.texts c.loop-place.types) ms pairs) (take_all i methods past)
    (subst (λ (ps : List Pair). AllZip (IsTypedMethod c.loop-place.texts c.loop-place.types) (take i methods) ps) (take_all i pairs beside) c.loop-place.invariant.typed)
