-- Types that no parameter or result of a method may be of (own rule over JVMS 8 section 4.3).
use Rattle.std.specs.Prelude.{Bool, true, false, ◌||◌}
use Rattle.std.specs.List.{list_any}
use Rattle.std.specs.Option.{option_map_or}
use Rattle.kb_names.specs.declared.types.JType.{JType}
use Rattle.kb_names.specs.declared.types.JType.TheVariants as types
use Rattle.kb_names.specs.declared.types.MethodType.{MethodType}
use Rattle.kb_class.specs.declared.members.MemberKind.{MemberKind}
use Rattle.kb_class.specs.declared.members.MemberKind.TheVariants as kinds

-- whether no parameter or result may be of the type
abbrev pub is_left_out : JType → Bool
is_left_out types.Byte = true
is_left_out types.Char = true
is_left_out types.Short = true
is_left_out types.Long = true
is_left_out types.Float = true
is_left_out types.Double = true
is_left_out _ = false

abbrev pub has_left_out : MethodType → Bool
has_left_out kind = list_any is_left_out kind.params || option_map_or is_left_out kind.result false

-- the same of the type of a member: none of a field's
abbrev pub kind_left_out : MemberKind → Bool
kind_left_out (kinds.Field type) = false
kind_left_out (kinds.Method kind) = has_left_out kind
