-- What is wrong with an instruction that reads or writes a field (own rules over JVMS 8 sections 5.4.3 and 6.5).
use Rattle.std.specs.Prelude.{ℕ, Option, Some, None}
use Rattle.kb_class.specs.declared.entries.ReferenceKind.{ReferenceKind}
use Rattle.kb_class.specs.declared.entries.ReferenceKind.TheVariants as references
use Rattle.kb_class.specs.Class.{Sought}
use Rattle.kb_classes.specs.declared.refusal.What.TheVariants as whats
use Rattle.kb_classes.specs.declared.slots.FieldSlot.{FieldSlot}
use Rattle.kb_classes.specs.World.{World}
use Rattle.kb_universe.specs.Faults.{Fault, NoField, Outside}
use Rattle.kb_resolution.specs.Lookup.{sought_at, resolved_field_class, resolved_field}

-- the field must be there, and have a slot
abbrev pub fault_of_slot : Option ℕ → Option FieldSlot → Option Fault
fault_of_slot None slot = Some NoField
fault_of_slot (Some class) None = Some (Outside whats.Kind)
fault_of_slot (Some class) (Some slot) = None

abbrev pub fault_of_field : World → ℕ → ℕ → ReferenceKind → Option Fault
fault_of_field world class entry references.Field = fault_of_slot (resolved_field_class world class entry) (resolved_field world class entry)
fault_of_field world class entry _ = Some (Outside whats.Operand)

abbrev pub fault_of_field_sought : World → ℕ → ℕ → Option Sought → Option Fault
fault_of_field_sought world class entry None = Some (Outside whats.Operand)
fault_of_field_sought world class entry (Some sought) = fault_of_field world class entry sought.what

-- getfield and putfield take a Fieldref entry
abbrev pub field_fault : World → ℕ → ℕ → Option Fault
field_fault world class entry = fault_of_field_sought world class entry (sought_at world class entry)
