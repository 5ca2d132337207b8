-- The methods that targets name.
use Rattle.std.proofs.Common.{◌≡◌, ℕ, true, false, true≢false, is_some, IsSome, IfSome, IfNone, List, Option, Some, None, slice_get, map, sym, ap, subst, ◌∙◌}
use Rattle.std.proofs.lemmas.Option.{same_Some, none-some, slice_get-map}
use Rattle.kb_names.specs.declared.types.Target.{Target}
use Rattle.kb_class.specs.Class.{Class}
use Rattle.kb_class.specs.declared.ids.MethodId.{MethodId}
use Rattle.kb_class.specs.declared.members.MethodInfo.{MethodInfo}
use Rattle.kb_classes.specs.World.{World, number_in, method_at}
use Rattle.kb_classes.specs.Rules.{HaveDifferentNames, HaveOwnMethods, name_of}
use Rattle.kb_link.specs.Tables.{IsNumberOf}
use Rattle.kb_link.specs.Targets.{Declares, IsTargetOf}
use Rattle.kb_classes.proofs.MethodNumbers.{stands_in, one_id, named_at, none_named, number_of_named}

module _ (world : World) (names : HaveDifferentNames world.classes) (own : HaveOwnMethods world.classes) (target : Target) where
  -- a method of the class of the target's name is the one that the target names
  pub declares : (number id : ℕ) → number_in world.classes target.class ≡ Some number → IsNumberOf world.classes number target.name target.kind id → Declares world (record { 0 = id }) target
  declares number id at is =
      let class = named_at world.classes target.class number at in
      let same : class.0 ≡ is.declaring = same_Some class.0 is.declaring (sym class.1 ∙ is.class_is) in
      let numbers : is.stands.method.class.0 ≡ number = own.numbered number is.declaring is.stands.method is.class_is (is.place, is.stands.there) in
      record {
        method = is.stands.method;
        method_is = is.there;
        class = is.declaring;
        class_is = ap (λ (n : ℕ). slice_get world.classes n) numbers ∙ is.class_is;
        own = ap (λ (c : Class). c.name) (sym same) ∙ class.2;
        name = is.stands.named;
        kind = is.stands.typed;
      }

  -- where no class has the name, no method is the target
  pub undeclared_class : number_in world.classes target.class ≡ None → (id : MethodId) → Declares world id target → ⊥
  undeclared_class none id declared = none_named world.classes target.class none declared.method.class.0 declared.class declared.class_is declared.own

  -- where the class of the name has no such method, no method is the target
  pub undeclared_method : (number : ℕ) → number_in world.classes target.class ≡ Some number → ((id : ℕ) → IsNumberOf world.classes number target.name target.kind id → ⊥)
      → (id : MethodId) → Declares world id target → ⊥
  undeclared_method number at none id declared =
      let stands = stands_in world.classes id.0 declared.method declared.method_is in
      let owner : declared.method.class.0 ≡ stands.number = own.numbered stands.number stands.class declared.method stands.class_is (stands.place, stands.there) in
      let numbers : number ≡ declared.method.class.0 = number_of_named world.classes target.class number declared.method.class.0 declared.class names at declared.class_is declared.own in
      none id.0 (record {
        declaring = stands.class;
        class_is = ap (λ (n : ℕ). slice_get world.classes n) (numbers ∙ owner) ∙ stands.class_is;
        place = stands.place;
        stands = record { method = declared.method; there = stands.there; named = declared.name; typed = declared.kind };
        there = declared.method_is;
      })

  -- a target names one method
  pub one_declared : (one other : MethodId) → Declares world one target → Declares world other target → one ≡ other
  one_declared one other first second =
      let at : (d : MethodId) (declared : Declares world d target) → slice_get (map name_of world.classes) declared.method.class.0 ≡ Some target.class = λ d declared.
      slice_get-map name_of world.classes declared.method.class.0 ∙ rw declared.class_is (ap (λ (n : List ℕ). Some n) declared.own) in
      let classes : first.method.class.0 ≡ second.method.class.0 = names first.method.class.0 second.method.class.0 target.class (at one first) (at other second) in
      let ids : one.0 ≡ other.0 =
      one_id world.classes one.0 other.0 first.method second.method own first.method_is second.method_is classes (first.name ∙ sym second.name) (first.kind ∙ sym second.kind) in
      λ i. record { 0 = ids i }

  -- what is told of the pair of the target's name and type is told of the target
  module _ (number : ℕ) (at : number_in world.classes target.class ≡ Some number) where
    pub paired_declares : (told : Option MethodId) → IfSome told (λ id. IsNumberOf world.classes number target.name target.kind id.0) → IfSome told (λ id. Declares world id target)
    paired_declares None is = tt
    paired_declares (Some id) is = declares number id.0 at is

    pub unpaired_undeclared : (told : Option MethodId) → ((id : ℕ) → IsNumberOf world.classes number target.name target.kind id → told ≡ Some (record { 0 = id }))
        → IfNone told ((id : MethodId) → Declares world id target → ⊥)
    unpaired_undeclared None whole = undeclared_method number at (λ id is. none-some (record { 0 = id }) (whole id is))
    unpaired_undeclared (Some id) whole = tt

    pub paired_alone : (told : Option MethodId) → IfSome told (λ id. IsNumberOf world.classes number target.name target.kind id.0)
        → IfSome told (λ id. (other : MethodId) → Declares world other target → other ≡ id)
    paired_alone None is = tt
    paired_alone (Some id) is = λ other declared. one_declared other id declared (declares number id.0 at is)

-- where its number holds no code, the target's method may not be run
pub has_no_code : (world : World) (id other : MethodId) (target : Target) (method : MethodInfo) → method_at world id.0 ≡ Some method → is_some method.code ≡ false → other ≡ id → IsTargetOf world target other → ⊥
has_no_code world id other target method at none same is =
    let here : IsTargetOf world target id = subst (λ (a : MethodId). IsTargetOf world target a) same is in
    let methods : here.declared.method ≡ method = same_Some here.declared.method method (sym here.declared.method_is ∙ at) in
    let some : is_some method.code ≡ true = subst (λ (m : MethodInfo). is_some m.code ≡ true) methods here.code in
    absurd (true≢false (sym some ∙ none))

-- where it holds code, the target's method has code
pub has_code : (world : World) (id : MethodId) (target : Target) (method : MethodInfo) (declared : Declares world id target) → method_at world id.0 ≡ Some method → is_some method.code ≡ true → IsSome declared.method.code
has_code world id target method declared at some =
    let methods : method ≡ declared.method = same_Some method declared.method (sym at ∙ declared.method_is) in
    subst (λ (m : MethodInfo). IsSome m.code) methods some
