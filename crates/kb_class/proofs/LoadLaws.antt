-- A class that is made of its parts is the class that was given.
use Rattle.std.proofs.Common.{◌≡◌, ℕ, List, Option, Some, IsSome, refl}
use Rattle.std.specs.List.{AllZip}
use Rattle.kb_classfile.specs.declared.file.ClassFile.{ClassFile}
use Rattle.kb_classfile.specs.Pool.{class_name_of}
use Rattle.kb_names.specs.declared.types.ExactType.{ExactType}
use Rattle.kb_format.specs.Rules.{KeepsRules}
use Rattle.kb_class.specs.declared.given.GivenClass.{GivenClass}
use Rattle.kb_class.specs.declared.loaded.Origin.TheVariants.{File}
use Rattle.kb_class.specs.declared.members.MemberKind.{MemberKind}
use Rattle.kb_class.specs.declared.members.FieldInfo.{FieldInfo}
use Rattle.kb_class.specs.declared.members.MethodInfo.{MethodInfo}
use Rattle.kb_class.specs.Class.{Class}
use Rattle.kb_class.specs.Given.{IsGiven}
use Rattle.kb_class.specs.Loading.{SpellsExact, SpellsKind, IsFieldOf, AreMethodsOf, IsClassOf}
use Rattle.kb_class.specs.Loaded.{entries_of, interfaces_of, file_of, HasInterfaces, IsIndexed}
use Rattle.kb_class.specs.Tables.{type_numbers, kind_numbers, IsTable, IsSound}
use Rattle.kb_class.proofs.Sound.{spelled_sound}
use Rattle.kb_class.proofs.PoolLaws.{class_named, all_stand}
use Rattle.kb_class.proofs.MemberLaws.{some_is, interfaces_found, interfaces_named}
use Rattle.kb_class.proofs.IndexLaws.{indexed}

-- the class of these parts
abbrev pub made : ClassFile → List ℕ → List ℕ → List FieldInfo → List MethodInfo → List (Option ExactType) → List (Option MemberKind) → Class
made file name parent fields methods types kinds = record {
  name = name;
  access = file.access;
  parent = Some parent;
  interfaces = interfaces_of (File file);
  fields = fields;
  methods = methods;
  entries = entries_of (File file) types kinds;
  file = file_of (File file);
}

module _ (given : GivenClass) (is : IsGiven given) (rules : KeepsRules given.file) where
  pub sound : IsSound given.file
  sound = spelled_sound given.file is.bytes is.spelled

  pub own_named : IsSome (class_name_of given.file given.file.this)
  own_named = (let found = class_named given.file given.file.this rules sound.own in some_is (class_name_of given.file given.file.this) found.0 found.1)

  pub parent_named : IsSome (class_name_of given.file given.file.parent)
  parent_named = (let found = class_named given.file given.file.parent rules sound.above in some_is (class_name_of given.file given.file.parent) found.0 found.1)

  pub has_interfaces : HasInterfaces (File given.file)
  has_interfaces = interfaces_found given.file rules sound

  module _ (id : ℕ) (name parent : List ℕ) (fields : List FieldInfo) (methods : List MethodInfo) (types : List (Option ExactType)) (kinds : List (Option MemberKind))
      (named : class_name_of given.file given.file.this ≡ Some name) (above : class_name_of given.file given.file.parent ≡ Some parent)
      (typed : IsTable SpellsExact given.file.pool (type_numbers given.file.pool) types) (described : IsTable SpellsKind given.file.pool (kind_numbers given.file) kinds)
      (fields_are : AllZip (IsFieldOf given.file) given.file.fields fields) (methods_are : AreMethodsOf id given.file given.file.methods given.listings methods) where
    pub is_class : IsClassOf id given (made given.file name parent fields methods types kinds)
    is_class = record {
      name = named;
      access = refl;
      parent = (parent, above, refl);
      interfaces = interfaces_named given.file given.file.interfaces has_interfaces;
      fields = fields_are;
      methods = methods_are;
      entries = all_stand given.file types kinds typed described rules sound;
      file = refl;
    }

    pub is_indexed : IsIndexed (made given.file name parent fields methods types kinds) types kinds
    is_indexed = indexed id given.file given.listings (made given.file name parent fields methods types kinds) types kinds typed described refl fields_are methods_are (all_stand given.file types kinds typed described rules sound)
