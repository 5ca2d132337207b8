-- The walk over the methods that are reached, and what it tells.
use Rattle.std.specs.Prelude.{◌≡◌, ◌⊎◌, ℕ, true, ◌==◌, List, fold, Some, None}
use Rattle.std.specs.List.{AllByRecursion, list_any}
use Rattle.kb_class.specs.Naming.{Has}
use Rattle.kb_code.specs.declared.instruction.Instr.{Instr}
use Rattle.kb_names.specs.declared.types.Target.{Target}
use Rattle.kb_classes.specs.declared.refusal.LinkRefusal.{LinkRefusal}
use Rattle.kb_classes.specs.declared.refusal.LinkRefusal.TheVariants as refusals
use Rattle.kb_classes.specs.World.{World}
use Rattle.kb_link.specs.Targets.{Declares}
use Rattle.kb_world.specs.Calls.{fault_of, use_fault, use_mentions}
use Rattle.kb_universe.specs.Faults.{Fault, NoField, Missing, Outside, Initialiser}
use Rattle.kb_universe.specs.Found.{FoundMethods, with_new}
use Rattle.kb_universe.specs.declared.looked.Asked.{Asked}
use Rattle.kb_world.specs.Reach.{method_fault, fault_in}

-- methods that are found, with others behind them
abbrev pub with_all : FoundMethods → List ℕ → FoundMethods
with_all found numbers = record { all = found.all; numbers = fold with_new found.numbers numbers }

-- The refusal tells the fault of the method at the offset.
abbrev pub Tells : World → ℕ → ℕ → Fault → LinkRefusal → Type 0
Tells world method at NoField refusal = (of : Target) × (refusal ≡ refusals.NoField of at) × Declares world (record { 0 = method }) of
Tells world method at (Missing name) refusal = refusal ≡ refusals.Missing name
Tells world method at (Outside what) refusal = (of : Target) × (refusal ≡ refusals.Outside of at what) × Declares world (record { 0 = method }) of
Tells world method at (Initialiser name) refusal = refusal ≡ refusals.Initialiser name

-- The refusal tells a fault, of which it holds that it is the first one.
pub record TellsFirst (world : World) (IsFirst : ℕ → ℕ → Fault → Type 0) (refusal : LinkRefusal) : Type 0 where
  pub method : ℕ
  pub at : ℕ
  pub fault : Fault
  pub first : IsFirst method at fault
  pub tells : Tells world method at fault refusal

-- Memory ran out, or the refusal tells the first fault.
abbrev pub StopsAt : World → (ℕ → ℕ → Fault → Type 0) → LinkRefusal → Type 0
StopsAt world IsFirst refusal = (refusal ≡ refusals.NoMemory) ⊎ TellsFirst world IsFirst refusal

-- the first fault of the code of that method
abbrev pub IsFaultOfMethod : World → ℕ → ℕ → ℕ → Fault → Type 0
IsFaultOfMethod world number method at fault = (method ≡ number) × (method_fault world number ≡ Some (at, fault))

-- the first fault of these instructions, in code of the class
abbrev pub IsFaultIn : World → ℕ → ℕ → List (ℕ × Instr) → ℕ → ℕ → Fault → Type 0
IsFaultIn world number class items method at fault = (method ≡ number) × (fault_in world class items ≡ Some (at, fault))

-- the fault of this instruction
abbrev pub IsFaultAt : World → ℕ → ℕ → (ℕ × Instr) → ℕ → ℕ → Fault → Type 0
IsFaultAt world number class item method at fault = (method ≡ number) × (at ≡ item.0) × (fault_of world class item.1 ≡ Some fault)

-- ---- entries that are looked at

-- the fault of this use of an entry at that offset
abbrev pub IsFaultOfUse : World → ℕ → ℕ → Asked → ℕ → ℕ → Fault → Type 0
IsFaultOfUse world number place asked method at fault = (method ≡ number) × (at ≡ place) × (use_fault world asked.class asked.usage asked.entry ≡ Some fault)

-- these numbers are all found
abbrev pub AreFound : List ℕ → List ℕ → Type 0
AreFound found numbers = AllByRecursion (λ number. list_any (λ other. other == number) found ≡ true) numbers

-- Nothing is wrong with such a use of the entry, and what it mentions is found.
pub record IsSettled (world : World) (found : List ℕ) (asked : Asked) : Type 0 where
  pub faultless : use_fault world asked.class asked.usage asked.entry ≡ None
  pub mentioned : AreFound found (use_mentions world asked.class asked.usage asked.entry)

abbrev pub AreSettled : World → List ℕ → List Asked → Type 0
AreSettled world found looked = (asked : Asked) → Has looked asked → IsSettled world found asked
