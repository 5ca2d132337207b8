-- What a method reaches, and the first thing there that cannot be carried out (own rules over JVMS 8 sections 5.4.3, 5.5 and
-- 6.5).
use Rattle.std.specs.Prelude.{◌≡◌, ℕ, false, IsSome, List, [], ◌∷◌, ◌++◌, fold, take, Option, Some, None, slice_get, if◌then◌else◌}
use Rattle.std.specs.List.{AllByRecursion, flat_map}
use Rattle.std.specs.Option.{option_map, option_and_then, option_map_or}
use Rattle.kb_names.specs.declared.types.Target.{Target}
use Rattle.kb_code.specs.declared.instruction.Instr.{Instr}
use Rattle.kb_class.specs.declared.ids.MethodId.{MethodId}
use Rattle.kb_class.specs.declared.members.MethodCode.{MethodCode}
use Rattle.kb_class.specs.declared.members.MethodInfo.{MethodInfo}
use Rattle.kb_class.specs.Members.{is_static}
use Rattle.kb_classes.specs.declared.refusal.LinkRefusal.{LinkRefusal}
use Rattle.kb_classes.specs.declared.refusal.LinkRefusal.TheVariants as refusals
use Rattle.kb_classes.specs.declared.refusal.What.TheVariants as whats
use Rattle.kb_classes.specs.World.{World, method_at}
use Rattle.kb_classes.specs.Split.{is_special}
pub use Rattle.kb_link.specs.Links.{IsLinked}
pub use Rattle.kb_link.specs.Targets.{Declares}
use Rattle.kb_link.specs.Targets.{IsTargetOf}
use Rattle.kb_classes.specs.Options.{or_else, only_where}
use Rattle.kb_universe.specs.Found.{with_new}
use Rattle.kb_universe.specs.Faults.{Fault, NoField, Missing, Outside, Initialiser, fault_of_initialiser}
use Rattle.kb_resolution.specs.LeftOut.{has_left_out}
use Rattle.kb_world.specs.Calls.{fault_of, mentions}

-- ---- methods

-- the first fault of a listing, with its offset
abbrev pub fault_in : World → ℕ → List (ℕ × Instr) → Option (ℕ × Fault)
fault_in world class [] = None
fault_in world class (item ∷ items) = or_else (option_map (λ fault. (item.0, fault)) (fault_of world class item.1)) (fault_in world class items)

abbrev pub mentions_in : World → ℕ → List (ℕ × Instr) → List ℕ
mentions_in world class items = flat_map (λ item. mentions world class item.1) items

abbrev pub listing_of : MethodInfo → List (ℕ × Instr)
listing_of method = option_map_or (λ (code : MethodCode). code.listing.items) method.code []

-- the first fault of the code of the method of that number, with its offset
abbrev pub method_fault : World → ℕ → Option (ℕ × Fault)
method_fault world number = option_and_then (λ (m : MethodInfo). fault_in world m.class.0 (listing_of m)) (method_at world number)

-- the methods that its code mentions, in order
abbrev pub method_mentions : World → ℕ → List ℕ
method_mentions world number = option_map_or (λ (m : MethodInfo). mentions_in world m.class.0 (listing_of m)) (method_at world number) []

abbrev pub HasNoFault : World → ℕ → Type 0
HasNoFault world number = method_fault world number ≡ None

-- ---- the methods that are reached

-- the target, and behind it each method once that these methods mention, in order of first mention
abbrev pub found_by : World → ℕ → List ℕ → List ℕ
found_by world target methods = fold with_new (target ∷ []) (flat_map (method_mentions world) methods)

-- The first methods that are reached: at each place stands the next one that the target and those before it mention.
abbrev pub IsFront : World → ℕ → List ℕ → Type 0
IsFront world target front = (place number : ℕ) → slice_get front place ≡ Some number → slice_get (found_by world target (take place front)) place ≡ Some number

-- The methods that the target reaches, in order of first mention.
pub record IsReached (world : World) (target : ℕ) (reached : List ℕ) : Type 0 where
  pub front : IsFront world target reached
  pub closed : found_by world target reached ≡ reached

-- ---- the target

abbrev pub static_fault : World → MethodInfo → Option Fault
static_fault world method = if is_static method.access then fault_of_initialiser world method.class.0 else None

-- what is wrong with the target itself: a class that code initialises, where it is static, and then its type
abbrev pub target_fault : World → MethodInfo → Option Fault
target_fault world method = or_else (static_fault world method) (only_where (has_left_out method.kind) (Outside whats.Kind))

abbrev pub fault_of_target : World → ℕ → Option Fault
fault_of_target world target = option_and_then (target_fault world) (method_at world target)

-- What the target reaches has a first fault: of the target itself, at 0, or else of the first of the methods in order that has
-- one, its first.
pub data IsFirstFault (world : World) (target method at : ℕ) (fault : Fault) : Type 0 where
  OfTarget : fault_of_target world target ≡ Some fault → method ≡ target → at ≡ 0 → IsFirstFault world target method at fault
  OfMethod : fault_of_target world target ≡ None → (before : List ℕ) → IsFront world target (before ++ method ∷ [])
      → AllByRecursion (HasNoFault world) before → method_fault world method ≡ Some (at, fault) → IsFirstFault world target method at fault

-- Neither the target itself nor what it reaches has a fault.
pub record HasNoFaults (world : World) (target : ℕ) : Type 0 where
  pub itself : fault_of_target world target ≡ None
  pub reached : List ℕ
  pub are_reached : IsReached world target reached
  pub no_faults : AllByRecursion (HasNoFault world) reached

-- the first fault of what is reached from the method that the target names
pub record IsFaultOf (world : World) (target : Target) (method at : ℕ) (fault : Fault) : Type 0 where
  pub id : MethodId
  pub found : IsTargetOf world target id
  pub first : IsFirstFault world id.0 method at fault

-- Why nothing can be explored or run from the target, unless memory ran out.
abbrev pub Refuses : World → Target → LinkRefusal → Type 0
Refuses world target (refusals.NoMethod of) = (of ≡ target) × ((id : MethodId) → IsTargetOf world target id → ⊥)
Refuses world target (refusals.NoField of at) = (method : ℕ) × IsFaultOf world target method at NoField × Declares world (record { 0 = method }) of
Refuses world target (refusals.Missing name) = (method at : ℕ) × IsFaultOf world target method at (Missing name)
Refuses world target (refusals.Outside of at what) = (method : ℕ) × IsFaultOf world target method at (Outside what) × Declares world (record { 0 = method }) of
Refuses world target (refusals.Initialiser name) = (method at : ℕ) × IsFaultOf world target method at (Initialiser name)
Refuses world target refusals.NoMemory = Unit {0}
Refuses world target _ = ⊥

-- What holds of a method that may be explored or run, and of all that it reaches.
pub record IsAccepted (world : World) (id : MethodId) : Type 0 where
  pub method : MethodInfo
  pub method_is : method_at world id.0 ≡ Some method
  pub code : IsSome method.code
  pub ordinary : is_special method.name ≡ false
  pub faultless : HasNoFaults world id.0
