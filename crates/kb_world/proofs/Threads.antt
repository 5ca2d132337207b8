-- Threads may share a world.
use denote.Param.Send.{IsSend, IsSync, enum_sync, sendable}
use denote.Enum.Declared as E
use Rattle.std.proofs.Crossing.{crosses}
use Rattle.std.proofs.MapsCrossing.{crosses as maps}
use Rattle.kb_names.proofs.types.Component.TheLaws.TheKnot.{crosses as knot}
use Rattle.kb_class.specs.contracts.loaded.LoadedClass as LoadedClass
use Rattle.kb_class.specs.contracts.loaded.Origin as Origin
use Rattle.kb_class.specs.contracts.members.FieldInfo as FieldInfo
use Rattle.kb_class.specs.contracts.members.MemberKind as MemberKind
use Rattle.kb_class.specs.contracts.members.MethodCode as MethodCode
use Rattle.kb_class.specs.contracts.members.MethodInfo as MethodInfo
use Rattle.kb_classfile.specs.contracts.file.ClassFile as ClassFile
use Rattle.kb_classfile.specs.contracts.file.Method as FileMethod
use Rattle.kb_classfile.specs.contracts.file.PoolEntry as PoolEntry
use Rattle.kb_code.specs.contracts.instruction.Cond as Cond
use Rattle.kb_code.specs.contracts.instruction.Elem as Elem
use Rattle.kb_code.specs.contracts.instruction.Instr as Instr
use Rattle.kb_code.specs.contracts.instruction.IntCut as IntCut
use Rattle.kb_code.specs.contracts.instruction.IntOp as IntOp
use Rattle.kb_code.specs.contracts.listing.Listing as Listing
use Rattle.kb_classes.specs.contracts.classes.Classes as Classes
use Rattle.kb_link.specs.contracts.linked.Linked as Linked
use Rattle.kb_classes.specs.contracts.slots.FieldSlot as FieldSlot
use Rattle.kb_names.specs.contracts.name.Name as Name
use Rattle.kb_names.specs.contracts.types.ExactType as ExactType
use Rattle.kb_names.specs.contracts.types.JType as JType
use Rattle.kb_names.specs.contracts.types.MethodType as MethodType
use Rattle.kb_numbers.specs.contracts.class_numbers.ClassNumbers as ClassNumbers
use Rattle.kb_numbers.specs.contracts.numbering.Numbers as Numbers
use Rattle.kb_numbers.specs.contracts.parts.Parts as Parts
use Rattle.kb_numbers.specs.contracts.types.Types as Types
use Rattle.kb_order.specs.contracts.texts.TextSet as TextSet
use Rattle.kb_texts.specs.contracts.texts.Texts as Texts
use Rattle.kb_universe.specs.contracts.marks.Marks as Marks
use Rattle.kb_resolution.specs.contracts.resolved.Resolved as Resolved
use Rattle.kb_resolution.specs.contracts.selection.Selection as Selection
use Rattle.kb_world.specs.contracts.world.World as World

name_send : IsSend Name.the_field.row
name_send = search (knot, crosses, maps, sendable) depth 60

name_sync : IsSync Name.the_field.row
name_sync = search (knot, crosses, maps, sendable) depth 60

jtype_send : IsSend JType.the_field.row
jtype_send = search (knot, crosses, maps, sendable) depth 60

jtype_sync : IsSync JType.the_field.row
jtype_sync = search (knot, crosses, maps, sendable) depth 60

exact_sync : IsSync ExactType.the_field.row
exact_sync = let a = jtype_sync in let b = name_sync in search (knot, crosses, maps, sendable) depth 60

method_type_sync : IsSync MethodType.the_field.row
method_type_sync = let a = jtype_send in let b = jtype_sync in search (knot, crosses, maps, sendable) depth 60

entry_sync : IsSync PoolEntry.the_field.row
entry_sync = search (knot, crosses, maps, sendable) depth 60

file_method_sync : IsSync FileMethod.the_field.row
file_method_sync = search (knot, crosses, maps, sendable) depth 60

file_sync : IsSync ClassFile.the_field.row
file_sync = let a = entry_sync in let b = file_method_sync in search (knot, crosses, maps, sendable) depth 60

elem_sync : IsSync Elem.the_field.row
elem_sync = search (knot, crosses, maps, sendable) depth 60

intop_sync : IsSync IntOp.the_field.row
intop_sync = search (knot, crosses, maps, sendable) depth 60

intcut_sync : IsSync IntCut.the_field.row
intcut_sync = search (knot, crosses, maps, sendable) depth 60

cond_sync : IsSync Cond.the_field.row
cond_sync = search (knot, crosses, maps, sendable) depth 60

instr_sync : IsSync Instr.the_field.row
instr_sync = enum_sync (E.shape Instr.the_type) (tt, (tt, ((search (crosses, sendable) depth 20, tt), ((search (crosses, sendable) depth 20, tt), ((search (crosses, sendable) depth 20, tt), ((search (crosses, sendable) depth 20, tt), ((search (crosses, sendable) depth 20, tt), ((search (crosses, sendable) depth 20, tt), ((elem_sync, tt), ((elem_sync, tt), (tt, (tt, (tt, (tt, (tt, (tt, (tt, (tt, (tt, ((intop_sync, tt), (tt, ((search (crosses, sendable) depth 20, (search (crosses, sendable) depth 20, tt)), ((intcut_sync, tt), ((cond_sync, (search (crosses, sendable) depth 20, tt)), ((cond_sync, (search (crosses, sendable) depth 20, tt)), ((search (crosses, sendable) depth 20, (search (crosses, sendable) depth 20, tt)), ((search (crosses, sendable) depth 20, (search (crosses, sendable) depth 20, tt)), ((search (crosses, sendable) depth 20, tt), ((search (crosses, sendable) depth 20, (search (crosses, sendable) depth 20, (search (crosses, sendable) depth 20, tt))), ((search (crosses, sendable) depth 20, (search (crosses, sendable) depth 20, tt)), (tt, (tt, (tt, ((search (crosses, sendable) depth 20, tt), ((search (crosses, sendable) depth 20, tt), ((search (crosses, sendable) depth 20, tt), ((search (crosses, sendable) depth 20, tt), ((search (crosses, sendable) depth 20, tt), ((search (crosses, sendable) depth 20, tt), ((search (crosses, sendable) depth 20, tt), ((search (crosses, sendable) depth 20, tt), ((search (crosses, sendable) depth 20, tt), (tt, (tt, ((search (crosses, sendable) depth 20, tt), ((search (crosses, sendable) depth 20, tt), ((search (crosses, sendable) depth 20, tt), tt)))))))))))))))))))))))))))))))))))))))))))))))

listing_sync : IsSync Listing.the_field.row
listing_sync = let a = instr_sync in search (knot, crosses, maps, sendable) depth 60

code_sync : IsSync MethodCode.the_field.row
code_sync = let a = listing_sync in search (knot, crosses, maps, sendable) depth 60

field_sync : IsSync FieldInfo.the_field.row
field_sync = let a = name_sync in let b = jtype_sync in search (knot, crosses, maps, sendable) depth 60

method_sync : IsSync MethodInfo.the_field.row
method_sync = let a = name_sync in let b = method_type_sync in let c = code_sync in search (knot, crosses, maps, sendable) depth 60

kind_sync : IsSync MemberKind.the_field.row
kind_sync = let a = jtype_sync in let b = method_type_sync in search (knot, crosses, maps, sendable) depth 60

origin_sync : IsSync Origin.the_field.row
origin_sync = let a = file_sync in let b = name_sync in search (knot, crosses, maps, sendable) depth 60

class_sync : IsSync LoadedClass.the_field.row
class_sync = let a = name_sync in let b = field_sync in let c = method_sync in let d = kind_sync in let e = origin_sync in let f = exact_sync in search (knot, crosses, maps, sendable) depth 60

texts_sync : IsSync Texts.the_field.row
texts_sync = search (knot, crosses, maps, sendable) depth 60

class_numbers_sync : IsSync ClassNumbers.the_field.row
class_numbers_sync = search (knot, crosses, maps, sendable) depth 60

parts_sync : IsSync Parts.the_field.row
parts_sync = search (knot, crosses, maps, sendable) depth 60

types_sync : IsSync Types.the_field.row
types_sync = let a = parts_sync in search (knot, crosses, maps, sendable) depth 60

numbers_sync : IsSync Numbers.the_field.row
numbers_sync = let a = texts_sync in let b = class_numbers_sync in let c = types_sync in search (knot, crosses, maps, sendable) depth 60

classes_sync : IsSync Classes.the_field.row
classes_sync = let a = class_sync in search (knot, crosses, maps, sendable) depth 60

slot_sync : IsSync FieldSlot.the_field.row
slot_sync = let a = name_sync in let b = jtype_sync in search (knot, crosses, maps, sendable) depth 60

text_set_sync : IsSync TextSet.the_field.row
text_set_sync = search (knot, crosses, maps, sendable) depth 60

linked_field_sync : IsSync Linked.the_field.row
linked_field_sync =
    let a = classes_sync in let b = slot_sync in let c = numbers_sync in let d = text_set_sync in let e = exact_sync in search (knot, crosses, maps, sendable) depth 60

marks_sync : IsSync Marks.the_field.row
marks_sync = search (knot, crosses, maps, sendable) depth 60

resolved_sync : IsSync Resolved.the_field.row
resolved_sync = search (knot, crosses, maps, sendable) depth 60

selection_sync : IsSync Selection.the_field.row
selection_sync = search (knot, crosses, maps, sendable) depth 60

pub world_sync : IsSync World.the_row
world_sync = let a = linked_field_sync in let b = marks_sync in let c = resolved_sync in let d = selection_sync in search (knot, crosses, maps, sendable) depth 60
