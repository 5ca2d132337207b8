-- Which slot is a receiver's.
use Rattle.std.proofs.Common.{◌≡◌, nat_eq, Bool, true, false, not, true≢false, Option, Some, None, refl, sym, ap, subst, ◌∙◌}
use Rattle.std.proofs.lemmas.Bool.{and_from, and_parts, eqb-true, eq-eqb}
use Rattle.std.specs.Option.{option_map_or}
use Rattle.kb_class.specs.declared.ids.MethodId.{MethodId}
use Rattle.kb_class.specs.declared.members.MethodInfo.{MethodInfo}
use Rattle.kb_class.specs.Members.{is_static}
use Rattle.kb_classes.specs.World.{World}
use Rattle.kb_semantics.specs.Config.{info_of}
use Rattle.kb_picture.specs.declared.picture.Origin.{Origin}
use Rattle.kb_picture.specs.declared.picture.Origin.TheVariants.{Arg, Field, Element}
use Rattle.kb_picture.specs.Growing.{IsReceiver, is_receiver}

module _ (world : World) (id : MethodId) where
  -- the first argument of a method that is not static is one
  pub first_is_receiver : (method : MethodInfo) → info_of world id ≡ Some method → is_static method.access ≡ false → (slot : Origin) → slot ≡ Arg 0 → IsReceiver world id slot
  first_is_receiver method is dynamic slot first =
      subst (λ (s : Origin). is_receiver world id s ≡ true) (sym first)
      (and_from (nat_eq 0 0) (option_map_or (λ (m : MethodInfo). not (is_static m.access)) (info_of world id) false) (eq-eqb 0 0 refl)
      (ap (λ (o : Option MethodInfo). option_map_or (λ (m : MethodInfo). not (is_static m.access)) o false) is ∙ ap not dynamic))

  -- and no other slot is
  pub receiver_is_first : (slot : Origin) → IsReceiver world id slot → (method : MethodInfo) × (info_of world id ≡ Some method) × (is_static method.access ≡ false) × (slot ≡ Arg 0)
  receiver_is_first (Arg number) is =
      let parts = and_parts (nat_eq number 0) (option_map_or (λ (m : MethodInfo). not (is_static m.access)) (info_of world id) false) is in
      let found = by_info (info_of world id) refl parts.1 in
      (found.0, found.1, found.2, ap Arg (eqb-true number 0 parts.0))
    where
      own : (b : Bool) → not b ≡ true → b ≡ false
      own true e = absurd (true≢false (sym e))
      own false e = refl

      by_info : (info : Option MethodInfo) → info_of world id ≡ info → option_map_or (λ (m : MethodInfo). not (is_static m.access)) info false ≡ true
          → (method : MethodInfo) × (info_of world id ≡ Some method) × (is_static method.access ≡ false)
      by_info None at is_some = absurd (true≢false (sym is_some))
      by_info (Some method) at dynamic = (method, at, own (is_static method.access) dynamic)
  receiver_is_first (Field object slot) is = absurd (true≢false (sym is))
  receiver_is_first (Element array index) is = absurd (true≢false (sym is))
