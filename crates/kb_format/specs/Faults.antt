-- The first rule that a class file breaks. A name is looked at before any descriptor, and a descriptor before any two members
-- are compared: own rule, as JVMS 8 section 4.8 gives no order.
use Rattle.std.specs.Prelude.{◌≡◌, ℕ, ◌⊎◌, List, ◌∷◌, ◌++◌, map, Option, Some, None}
use Rattle.std.specs.List.{AllByRecursion}
use Rattle.kb_classfile.specs.declared.file.ClassFile.{ClassFile}
use Rattle.kb_classfile.specs.declared.file.Field.{Field}
use Rattle.kb_classfile.specs.declared.file.Method.{Method as ClassMethod}
use Rattle.kb_classfile.specs.declared.file.PoolEntry.{PoolEntry}
use Rattle.kb_format.specs.declared.place.Demand.{Demand}
use Rattle.kb_format.specs.declared.place.Place.{Place}
use Rattle.kb_format.specs.declared.fault.FormatFault.{FormatFault}
use Rattle.kb_format.specs.declared.fault.FormatFault.TheVariants as faults
use Rattle.kb_format.specs.Rules.{IsNoneOf, AllDiffer, field_of, member_of, HasAllowedNames, HasDescriptors, KeepsRules}
use Rattle.kb_format.specs.Places.{IsMet, asked, name_places, type_places}

-- the first of these places whose text is not what is asked for there, by the number of that text's entry
pub record IsFirstUnmet (pool : List PoolEntry) (places : List Place) (number : ℕ) : Type 0 where
  pub before : List Place
  pub demand : Demand
  pub after : List Place
  pub parts : places ≡ before ++ asked demand number ∷ after
  pub met : AllByRecursion (IsMet pool) before
  pub unmet : IsMet pool (asked demand number) → ⊥

-- the first of these items that has the key of one before it
pub record IsFirstAgain {A B : Type 0} (key : A → B) (items : List A) (item : A) : Type 0 where
  pub before : List A
  pub after : List A
  pub parts : items ≡ before ++ item ∷ after
  pub differ : AllDiffer (map key before)
  pub again : IsNoneOf (map key before) (key item) → ⊥

-- the first field that has the name and descriptor of one before it, by the number of its name's entry
abbrev pub HasFieldAgain : ClassFile → ℕ → Type 0
HasFieldAgain file number = (field : Field) × IsFirstAgain (field_of file) file.fields field × (number ≡ field.name)

abbrev pub HasMethodAgain : ClassFile → ℕ → Type 0
HasMethodAgain file number = (method : ClassMethod) × IsFirstAgain (member_of file) file.methods method × (number ≡ method.name)

-- the first field that is there again, or else the first method that is
abbrev pub HasMemberAgain : ClassFile → ℕ → Type 0
HasMemberAgain file number = HasFieldAgain file number ⊎ (AllDiffer (map (field_of file) file.fields) × HasMethodAgain file number)

-- the fault is the first of the class file
abbrev pub IsFirstFault : ClassFile → FormatFault → Type 0
IsFirstFault file (faults.BadName number) = IsFirstUnmet file.pool (name_places file) number
IsFirstFault file (faults.BadDescriptor number) = HasAllowedNames file × IsFirstUnmet file.pool (type_places file) number
IsFirstFault file (faults.TwoMembers number) = HasAllowedNames file × HasDescriptors file × HasMemberAgain file number

-- what is told of the class file: its first fault, or that it keeps the rules
abbrev pub Tells : ClassFile → Option FormatFault → Type 0
Tells file None = KeepsRules file
Tells file (Some fault) = IsFirstFault file fault
