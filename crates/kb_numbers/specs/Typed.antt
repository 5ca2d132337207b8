-- The numbers of the descriptors of types of methods, by the first parts of these.
use Rattle.std.specs.Prelude.{◌≡◌, ℕ, ◌==◌, List, Option, Some}
use Rattle.std.specs.HashMap.{HashMap, get_by}
use Rattle.kb_names.specs.declared.types.MethodType.{MethodType}
use Rattle.kb_class.specs.Loading.{SpellsKind}
use Rattle.kb_class.specs.declared.members.MemberKind.TheVariants as kinds
use Rattle.kb_class.specs.declared.members.MethodInfo.{MethodInfo}
use Rattle.kb_texts.specs.Texts.{Keeps}
use Rattle.kb_numbers.specs.declared.pairs.Pair.{Pair}
use Rattle.kb_numbers.specs.declared.types.Types.{Types}
use Rattle.kb_numbers.specs.Types.{HasTextAt, IsTypePath}

-- what a table has at a number
abbrev pub told_in : {S : Type 0} → HashMap ℕ ℕ S → ℕ → Option ℕ
told_in table number = get_by (λ (key : ℕ). number == key) table

-- the type's descriptor has the number, and it is told by the type's first part
abbrev pub IsTyped : List (List ℕ) → Types → MethodType → ℕ → Type 0
IsTyped texts types kind number = (first : ℕ) × IsTypePath texts types.parts kind first × (told_in types.ends first ≡ Some number)

-- that of a method
abbrev pub IsTypedMethod : List (List ℕ) → Types → MethodInfo → Pair → Type 0
IsTypedMethod texts types method pair = IsTyped texts types method.kind pair.kind

-- a number that is told is that of a type's descriptor
pub record AreEnds (texts : List (List ℕ)) (types : Types) : Type 0 where
  pub each_end : (first number : ℕ) → told_in types.ends first ≡ Some number
      → (kind : MethodType) × IsTypePath texts types.parts kind first × HasTextAt texts number (SpellsKind (kinds.Method kind))
  pub each_seen : (number first : ℕ) → told_in types.seen number ≡ Some first
      → (kind : MethodType) × HasTextAt texts number (SpellsKind (kinds.Method kind)) × IsTypePath texts types.parts kind first × (told_in types.ends first ≡ Some number)

-- what was there and told is there and told
pub record KeepsTypes (old new : Types) : Type 0 where
  pub parts : Keeps old.parts new.parts
  pub ends : (first number : ℕ) → told_in old.ends first ≡ Some number → told_in new.ends first ≡ Some number
