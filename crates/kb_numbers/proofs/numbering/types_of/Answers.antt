use Rattle.std.proofs.Common.{◌≡◌, ◌<◌, ◌≤◌, ◌+◌, List, [], ◌∷◌, ◌++◌, Some, length, take, slice_get, refl, sym, ap, subst, ◌∙◌, arith}
use Rattle.std.specs.List.{AllZip}
use Rattle.std.proofs.lemmas.Grind.{take_at_read}
use Rattle.std.proofs.lemmas.List.{take_all}
use Rattle.std.proofs.lemmas.Option.{same_Some, slice_get_read}
use Rattle.kb_class.specs.Class.{Class}
use Rattle.kb_class.specs.declared.members.MemberKind.TheVariants as kinds
use Rattle.kb_class.specs.declared.members.MethodInfo.{MethodInfo}
use Rattle.kb_numbers.specs.declared.pairs.Pair.{Pair}
use Rattle.kb_numbers.specs.Members.{MemberNumbers, method_pairs, methods_of}
use Rattle.kb_numbers.specs.Numbers.{IsMethodPair}
use Rattle.kb_numbers.specs.Typed.{IsTypedMethod}
use Rattle.kb_numbers.proofs.MemberLaws.{located, methods_next, numbered_long, pairs_next}
use Rattle.kb_numbers.proofs.NumberLaws.{keeps_both, keeps_self, stands_on}
use Rattle.kb_numbers.proofs.TypedLaws.{typed_on}
use Rattle.kb_numbers.proofs.ZipLaws.{zip_as, zip_both}
use Rattle.kb_numbers.proofs.numbering.types_of.Goals as goal

pub bounds-numbers-number : goal.bounds-numbers-number
bounds-numbers-number c = omega (arith, numbered_long c.args.texts.now 0 c.args.classes.now c.args.numbers.now c.requires, c.loop-number-test.true)

pub offset_bounds-numbers-number : goal.offset_bounds-numbers-number
offset_bounds-numbers-number c =
    let long = numbered_long c.args.texts.now 0 c.args.classes.now c.args.numbers.now c.requires in
    omega (arith, long, c.loop-number-test.true)

pub loop-number-init : goal.loop-number-init
loop-number-init c = record { keeps = keeps_self c.args.texts.now; ends = c.new-types.ensures c.args.texts.now; typed = tt }

pub add_types-requires : goal.add_types-requires
add_types-requires c =
    let classes = c.args.classes.now in
    let numbers = c.args.numbers.now in
    let i = c.loop-number.number in
    let class = c.index-classes-number.result in
    let own = c.index-numbers-number.result in
    let before = c.args.texts.now in
    let now = c.loop-number.texts in
    let there : slice_get classes i ≡ Some class = slice_get_read classes (length classes) i class refl c.loop-number-test.true c.index-classes-number.is in
    let found = located before 0 classes numbers i class c.requires there in
    let inside : i < length numbers = omega (arith, numbered_long c.args.texts.now 0 classes numbers c.requires, c.loop-number-test.true) in
    let at : slice_get numbers i ≡ Some own = slice_get_read numbers (length numbers) i own refl inside c.index-numbers-number.is in
    let same : found.own ≡ own = same_Some found.own own (sym found.there ∙ at) in
    let each : AllZip (IsMethodPair before) class.methods own.methods = subst (λ (n : MemberNumbers). AllZip (IsMethodPair before) class.methods n.methods) same found.is.numbers.each_method in
    let moved : AllZip (IsMethodPair now) class.methods own.methods =
    zip_as (IsMethodPair before) (IsMethodPair now) class.methods own.methods (λ method pair is. stands_on before now c.loop-number.invariant.keeps pair method.name (kinds.Method method.kind) is) each in
    (c.loop-number.invariant.ends, subst (λ (ps : List Pair). AllZip (IsMethodPair now) c.methods.result.now ps) (sym c.methods-in-loop-number.ensures) (subst (λ (ms : List MethodInfo). AllZip (IsMethodPair now) ms own.methods) (sym c.methods.ensures) moved))

pub loop-number-preserved : goal.loop-number-preserved
loop-number-preserved c =
    let classes = c.args.classes.now in
    let numbers = c.args.numbers.now in
    let i = c.loop-number.number in
    let class = c.index-classes-number.result in
    let own = c.index-numbers-number.result in
    let before = c.loop-number.texts in
    let after = c.add_types.new.texts in
    let old = c.loop-number.types in
    let new = c.add_types.new.types in
    let keeps = c.in_ok-add_types.ensures.keeps in
    let inside : i < length numbers = omega (arith, numbered_long c.args.texts.now 0 classes numbers c.requires, c.loop-number-test.true) in
    let more_classes : methods_of (take (i + 1) classes) ≡ methods_of (take i classes) ++ class.methods =
    ap methods_of ((take_at_read classes i class c.loop-number-test.true).1 ∙ ap (λ (k : Class). take i classes ++ k ∷ []) (sym c.index-classes-number.is)) ∙ methods_next (take i classes) class in
    let more_numbers : method_pairs (take (i + 1) numbers) ≡ method_pairs (take i numbers) ++ own.methods =
    ap method_pairs ((take_at_read numbers i own inside).1 ∙ ap (λ (n : MemberNumbers). take i numbers ++ n ∷ []) (sym c.index-numbers-number.is)) ∙ pairs_next (take i numbers) own in
    let first : AllZip (IsTypedMethod after new) (methods_of (take i classes)) (method_pairs (take i numbers)) =
    zip_as (IsTypedMethod before old) (IsTypedMethod after new) (methods_of (take i classes)) (method_pairs (take i numbers))
    (λ method pair is. typed_on before after keeps.0 old new keeps.1 method.kind pair.kind is) c.loop-number.invariant.typed in
    let second : AllZip (IsTypedMethod after new) class.methods own.methods =
    subst (λ (ps : List Pair). AllZip (IsTypedMethod after new) class.methods ps) c.methods-in-loop-number.ensures
    (subst (λ (ms : List MethodInfo). AllZip (IsTypedMethod after new) ms c.methods-in-loop-number.result.now) c.methods.ensures c.in_ok-add_types.ensures.typed) in
    let whole = zip_both (IsTypedMethod after new) (methods_of (take i classes)) class.methods (method_pairs (take i numbers)) own.methods first second in
    record {
      keeps = keeps_both c.args.texts.now before after c.loop-number.invariant.keeps keeps.0;
      ends = c.in_ok-add_types.ensures.ends;
      typed = subst (λ (ms : List MethodInfo). AllZip (IsTypedMethod after new) ms (method_pairs (take (i + 1) numbers))) (sym more_classes)
          (subst (λ (ps : List Pair). AllZip (IsTypedMethod after new) (methods_of (take i classes) ++ class.methods) ps) (sym more_numbers) whole);
    }

pub returns-clause-keeps : goal.returns-clause-keeps
returns-clause-keeps c = c.loop-number.invariant.keeps

pub returns-clause-ends : goal.returns-clause-ends
returns-clause-ends c = c.loop-number.invariant.ends

pub returns-clause-typed : goal.returns-clause-typed
returns-clause-typed c =
    let classes = c.args.classes.now in
    let numbers = c.args.numbers.now in
    let i = c.loop-number.number in
    let past : length classes ≤ i = omega (arith, c.loop-number-test.false) in
    let beside : length numbers ≤ i = omega (arith, past, numbered_long c.args.texts.now 0 classes numbers c.requires) in
    subst (λ (ks : List Class). AllZip (IsTypedMethod c.loop-number.texts c.loop-number.types) (methods_of ks) (method_pairs numbers)) (take_all i classes past)
    (subst (λ (ns : List MemberNumbers). AllZip (IsTypedMethod c.loop-number.texts c.loop-number.types) (methods_of (take i classes)) (method_pairs ns)) (take_all i numbers beside) c.loop-number.invariant.typed)
