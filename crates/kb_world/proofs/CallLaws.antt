-- What is known of the entry of a call: whether a part of its type is left out, and the class in which its method is sought.
use Rattle.std.proofs.Common.{◌≡◌, ℕ, Bool, true, false, true≢false, Option, Some, refl, sym, ap, ◌∙◌}
use Rattle.std.specs.Option.{option_and_then, option_map_or}
use Rattle.std.proofs.lemmas.Option.{none-some}
use Rattle.kb_names.specs.declared.types.ExactType.{ExactType}
use Rattle.kb_names.specs.declared.types.MethodType.{MethodType}
use Rattle.kb_class.specs.Class.{Sought}
use Rattle.kb_class.specs.declared.entries.ReferenceKind.{ReferenceKind}
use Rattle.kb_class.specs.declared.entries.ReferenceKind.TheVariants as references
use Rattle.kb_class.specs.declared.members.MemberKind.{MemberKind}
use Rattle.kb_class.specs.declared.members.MemberKind.TheVariants as kinds
use Rattle.kb_classes.specs.World.{World}
use Rattle.kb_classes.specs.declared.refusal.What.TheVariants as whats
use Rattle.kb_world.specs.Calls.{fault_of_kind, fault_of_number}
use Rattle.kb_universe.specs.Uses.{takes}
use Rattle.kb_universe.specs.Faults.{Outside}
use Rattle.kb_resolution.specs.LeftOut.{has_left_out, kind_left_out}
use Rattle.kb_resolution.specs.Lookup.{class_number, method_of_sought, method_sought, only_where, or_else, resolved_method, sought_at}
use Rattle.kb_resolution.specs.Tables.{kind_owner, method_kind, owner_of}
use Rattle.kb_universe.specs.declared.calls.Call.{Call}
use Rattle.kb_universe.specs.declared.calls.Call.TheVariants as calls

-- ---- whether a part of a type is left out

-- a call's entry names a method, if its type is that of one
pub taken_left_out : (call : Call) (what : ReferenceKind) (kind : MemberKind) → takes call what ≡ true → option_map_or has_left_out (method_kind what kind) false ≡ kind_left_out kind
taken_left_out calls.Virtual references.Field kind e = absurd (true≢false (sym e))
taken_left_out calls.Interface references.Field kind e = absurd (true≢false (sym e))
taken_left_out calls.Special references.Field kind e = absurd (true≢false (sym e))
taken_left_out calls.Static references.Field kind e = absurd (true≢false (sym e))
taken_left_out call references.Method (kinds.Field type) e = refl
taken_left_out call references.Method (kinds.Method kind) e = refl
taken_left_out call references.InterfaceMethod (kinds.Field type) e = refl
taken_left_out call references.InterfaceMethod (kinds.Method kind) e = refl

-- the class in which a method is sought, by the kind of the member
pub taken_owner : (world : World) (call : Call) (what : ReferenceKind) (type : ExactType) (kind : MemberKind) → takes call what ≡ true
    → option_and_then (λ (of : MethodType). class_number world type) (method_kind what kind) ≡ kind_owner world type kind
taken_owner world calls.Virtual references.Field type kind e = absurd (true≢false (sym e))
taken_owner world calls.Interface references.Field type kind e = absurd (true≢false (sym e))
taken_owner world calls.Special references.Field type kind e = absurd (true≢false (sym e))
taken_owner world calls.Static references.Field type kind e = absurd (true≢false (sym e))
taken_owner world call references.Method type (kinds.Field of) e = refl
taken_owner world call references.Method type (kinds.Method of) e = refl
taken_owner world call references.InterfaceMethod type (kinds.Field of) e = refl
taken_owner world call references.InterfaceMethod type (kinds.Method of) e = refl

-- a method that is found is sought in the type
pub found_owner : (world : World) (class entry number : ℕ) (sought : Sought) → sought_at world class entry ≡ Some sought → Some number ≡ resolved_method world class entry
    → option_and_then (owner_of world) (sought_at world class entry) ≡ class_number world sought.class
found_owner world class entry number sought at found =
    ap (λ (o : Option Sought). option_and_then (owner_of world) o) at
    ∙ go sought.what sought.member.kind (found ∙ ap (λ (o : Option Sought). option_and_then (method_of_sought world) o) at)
  where
    go : (what : ReferenceKind) (kind : MemberKind) → Some number ≡ method_sought world what sought.class sought.member.name kind
        → option_and_then (λ (of : MethodType). class_number world sought.class) (method_kind what kind) ≡ class_number world sought.class
    go references.Field kind e = absurd (none-some number (sym e))
    go references.Method (kinds.Field of) e = absurd (none-some number (sym e))
    go references.Method (kinds.Method of) e = refl
    go references.InterfaceMethod (kinds.Field of) e = absurd (none-some number (sym e))
    go references.InterfaceMethod (kinds.Method of) e = refl

-- what is wrong with a call of a method, where it is known whether a part of its type is left out
pub method_told : (world : World) (class : ℕ) (call : Call) (entry : ℕ) (of : ExactType) (kind : MemberKind) (type : MethodType) (left_out : Bool) → kind ≡ kinds.Method type
    → left_out ≡ kind_left_out kind
    → fault_of_kind world class call entry of kind ≡ or_else (only_where left_out (Outside whats.Kind)) (fault_of_number world class call entry of (resolved_method world class entry))
method_told world class call entry of kind type left_out is told =
    ap (fault_of_kind world class call entry of) is
    ∙ ap (λ (b : Bool). or_else (only_where b (Outside whats.Kind)) (fault_of_number world class call entry of (resolved_method world class entry))) (sym (told ∙ ap kind_left_out is))
