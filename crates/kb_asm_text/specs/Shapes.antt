-- What kind of words stand behind a mnemonic, by what stands behind its opcode (The Java Virtual Machine Specification, Java
-- SE 8 Edition, section 6.5).
use Rattle.std.specs.Prelude.{◌≡◌, ◌<◌, ℕ, List, Option, None, Some}
use Rattle.kb_code.specs.declared.form.Entry.{Entry}
use Rattle.kb_code.specs.declared.form.Entry.TheVariants as entries
use Rattle.kb_code.specs.declared.form.Form.{Form}
use Rattle.kb_code.specs.declared.form.Form.TheVariants as forms
use Rattle.kb_code.specs.Names.{name_of}
use Rattle.kb_asm_text.specs.declared.shape.Shape.{Shape}
use Rattle.kb_asm_text.specs.declared.shape.Shape.TheVariants as shapes

-- of an instruction that names an entry of the constant pool
abbrev pub shape_of_entry : Entry → Shape
shape_of_entry entries.Constant = shapes.Constant
shape_of_entry entries.GetField = shapes.Field
shape_of_entry entries.PutField = shapes.Field
shape_of_entry entries.Virtual = shapes.Method
shape_of_entry entries.Special = shapes.Method
shape_of_entry entries.Static = shapes.Method
shape_of_entry entries.New = shapes.New
shape_of_entry entries.NewRefs = shapes.Type
shape_of_entry entries.Cast = shapes.Type
shape_of_entry entries.InstanceOf = shapes.Type

-- wide alone is no line, and no opcode is one whose instruction is not looked at
abbrev pub shape_of : Option Form → Shape
shape_of None = shapes.Unwritten
shape_of (Some (forms.Alone instr)) = shapes.Alone
shape_of (Some forms.PushByte) = shapes.Byte
shape_of (Some forms.PushShort) = shapes.Short
shape_of (Some forms.Constant) = shapes.Constant
shape_of (Some (forms.Local local)) = shapes.Local
shape_of (Some forms.Increment) = shapes.Increment
shape_of (Some (forms.Entry entry)) = shape_of_entry entry
shape_of (Some forms.Interface) = shapes.Method
shape_of (Some forms.Primitive) = shapes.Primitive
shape_of (Some (forms.Near branch)) = shapes.Branch
shape_of (Some (forms.Far branch)) = shapes.Branch
shape_of (Some forms.Table) = shapes.Table
shape_of (Some forms.Lookup) = shapes.Lookup
shape_of (Some forms.Wide) = shapes.Unwritten
shape_of (Some (forms.Skipped op n)) = shapes.Unwritten

-- the opcode of a mnemonic: the first one that has it
pub record IsOpOf (op : ℕ) (name : List ℕ) : Type 0 where
  pub named : name_of op ≡ Some name
  pub first : (lower : ℕ) → lower < op → name_of lower ≡ Some name → ⊥
