-- Which entries calls take, and what instructions do with entries (JVMS 8 section 6.5).
use Rattle.std.specs.Prelude.{ℕ, Bool, true, false, Option, Some, None}
use Rattle.kb_code.specs.declared.instruction.Instr.{Instr}
use Rattle.kb_code.specs.declared.instruction.Instr.TheVariants as instrs
use Rattle.kb_class.specs.declared.entries.ReferenceKind.{ReferenceKind}
use Rattle.kb_class.specs.declared.entries.ReferenceKind.TheVariants as references
use Rattle.kb_universe.specs.declared.calls.Call.{Call}
use Rattle.kb_universe.specs.declared.calls.Call.TheVariants as calls
use Rattle.kb_universe.specs.declared.looked.Use.{Use}
use Rattle.kb_universe.specs.declared.looked.Use.TheVariants as uses

-- whether the entry is one that the call takes
abbrev pub takes : Call → ReferenceKind → Bool
takes calls.Virtual references.Method = true
takes calls.Interface references.InterfaceMethod = true
takes calls.Special references.Method = true
takes calls.Special references.InterfaceMethod = true
takes calls.Static references.Method = true
takes calls.Static references.InterfaceMethod = true
takes _ _ = false

-- what an instruction does with the entry that it names, where that is more than to read it
abbrev pub use_of : Instr → Option (Use × ℕ)
use_of (instrs.Virtual entry) = Some (uses.Call calls.Virtual, entry)
use_of (instrs.Special entry) = Some (uses.Call calls.Special, entry)
use_of (instrs.Static entry) = Some (uses.Call calls.Static, entry)
use_of (instrs.Interface entry) = Some (uses.Call calls.Interface, entry)
use_of (instrs.New entry) = Some (uses.Object, entry)
use_of (instrs.NewRefs entry) = Some (uses.Array, entry)
use_of (instrs.Cast entry) = Some (uses.Cast, entry)
use_of (instrs.InstanceOf entry) = Some (uses.Cast, entry)
use_of _ = None
