-- A number is that of one method, one target names it, and its code is laid out.
use Rattle.std.proofs.Common.{◌≡◌, ◌<◌, ℕ, List, Option, Some, IfSome, length, slice_get, sym, ◌∙◌, ap, subst, zero, suc, [], ◌∷◌}
use Rattle.std.specs.List.{AllByRecursion}
use Rattle.std.proofs.lemmas.Option.{same_Some, slice_get_within}
use Rattle.kb_class.specs.Class.{Class}
use Rattle.kb_class.specs.declared.ids.MethodId.{MethodId}
use Rattle.kb_class.specs.declared.members.MethodCode.{MethodCode}
use Rattle.kb_class.specs.declared.members.MethodInfo.{MethodInfo}
use Rattle.kb_class.specs.Loading.{IsWhole}
use Rattle.kb_code.specs.Listing.{IsLaidOut}
use Rattle.kb_names.specs.declared.types.Target.{Target}
use Rattle.kb_world.specs.Reach.{Declares, IsLinked}
use Rattle.kb_classes.specs.Rules.{HasWholeCode}
use Rattle.kb_classes.specs.World.{World, methods_in, method_at}

-- ---- one method

module _ (world : World) (id : MethodId) where
  pub same_method : (one other : MethodInfo) → method_at world id.0 ≡ Some one → method_at world id.0 ≡ Some other → one ≡ other
  same_method one other at also = same_Some one other (sym at ∙ also)

  pub declared_is : (info : MethodInfo) (target : Target) → method_at world id.0 ≡ Some info → (d : Declares world id target) → d.method ≡ info
  declared_is info target at d = same_method d.method info d.method_is at

  -- two targets of one method are equal
  pub same_target : (t u : Target) → Declares world id t → Declares world id u → t ≡ u
  same_target t u d e =
      let method : d.method ≡ e.method = same_method d.method e.method d.method_is e.method_is in
      let class : d.class ≡ e.class =
      same_Some d.class e.class (sym d.class_is ∙ ap (λ (m : MethodInfo). slice_get world.classes m.class.0) method ∙ e.class_is) in
      let own : t.class ≡ u.class = sym d.own ∙ ap (λ (c : Class). c.name) class ∙ e.own in
      let name : t.name ≡ u.name = sym d.name ∙ ap (λ (m : MethodInfo). m.name) method ∙ e.name in
      let kind : t.kind ≡ u.kind = sym d.kind ∙ ap (λ (m : MethodInfo). m.kind) method ∙ e.kind in
      λ i. record { class = own i; name = name i; kind = kind i }

  -- a number that a target has is that of a method, and its class's is that of a class
  pub method_within : (target : Target) → Declares world id target → id.0 < length (methods_in world.classes)
  method_within target d = slice_get_within (methods_in world.classes) id.0 d.method d.method_is

  pub class_within : (info : MethodInfo) (target : Target) → method_at world id.0 ≡ Some info → Declares world id target → info.class.0 < length world.classes
  class_within info target at d =
      subst (λ (m : MethodInfo). m.class.0 < length world.classes) (declared_is info target at d) (slice_get_within world.classes d.method.class.0 d.class d.class_is)

-- ---- code

all_there : {A : Type 0} (P : A → Type 0) (xs : List A) (i : ℕ) (x : A) → AllByRecursion P xs → slice_get xs i ≡ Some x → P x
all_there P [] i x all at = absurd cc
all_there P (y ∷ xs) zero x all at = let same : y ≡ x = cc in subst P same all.0
all_there P (y ∷ xs) (suc i) x all at = all_there P xs i x all.1 at

-- the code of a method of a world is laid out
pub laid_out : (world : World) (number : ℕ) (info : MethodInfo) (code : MethodCode) → IsLinked world → method_at world number ≡ Some info → info.code ≡ Some code → IsLaidOut code.listing.items code.size
laid_out world number info code linked at told =
    let whole : HasWholeCode info = all_there HasWholeCode (methods_in world.classes) number info linked.loaded.methods.whole at in
    let of_code : IsWhole code = subst (λ (c : Option MethodCode). IfSome c IsWhole) told whole in
    of_code.laid_out
