-- The types of a method's arguments one by one.
use Rattle.std.proofs.Common.{◌≡◌, ◌≢◌, ℕ, zero, suc, ◌-◌, true, false, List, ◌∷◌, Some, slice_get, refl, sym, ap, arith}
use Rattle.kb_class.specs.declared.members.MethodInfo.{MethodInfo}
use Rattle.kb_class.specs.Members.{is_static}
use Rattle.kb_classes.specs.World.{World}
use Rattle.kb_names.specs.declared.types.JType.TheVariants as types
use Rattle.kb_semantics.specs.Config.{class_name}
use Rattle.kb_semantics.specs.Inputs.{argument_types}

behind_first : {A : Type 0} (first : A) (others : List A) (n : ℕ) → n ≢ 0 → slice_get (first ∷ others) n ≡ slice_get others (n - 1)
behind_first first others zero some = absurd (some refl)
behind_first first others (suc n) some =
    let same : suc n - 1 ≡ n = omega arith in
    ap (slice_get others) (sym same)

pub of_static : (world : World) (info : MethodInfo) (number : ℕ) → is_static info.access ≡ true → slice_get (argument_types world info) number ≡ slice_get info.kind.params number
of_static world info number e = rw e refl

pub receiver_first : (world : World) (info : MethodInfo) (number : ℕ) → is_static info.access ≡ false → number ≡ 0
    → slice_get (argument_types world info) number ≡ Some (types.Class (class_name world info.class.0))
receiver_first world info number e none = rw e (rw none refl)

pub behind_receiver : (world : World) (info : MethodInfo) (number : ℕ) → is_static info.access ≡ false → number ≢ 0
    → slice_get (argument_types world info) number ≡ slice_get info.kind.params (number - 1)
behind_receiver world info number e some = rw e (behind_first (types.Class (class_name world info.class.0)) info.kind.params number some)
