-- A given class is one class.
use Rattle.std.proofs.Common.{◌≡◌, ℕ, List, [], ◌∷◌, map, Option, Some, None, refl, sym, ap, ◌∙◌}
use Rattle.kb_classfile.specs.declared.file.ClassFile.{ClassFile}
use Rattle.kb_classfile.specs.declared.file.Code.{Code}
use Rattle.kb_classfile.specs.declared.file.Field.{Field}
use Rattle.kb_classfile.specs.declared.file.Method.{Method as ClassMethod}
use Rattle.kb_classfile.specs.Pool.{utf8_in, class_name_of}
use Rattle.kb_code.specs.declared.listing.Listing.{Listing}
use Rattle.kb_names.specs.declared.class_names.Spelling.TheVariants.{Raw}
use Rattle.kb_names.specs.Descriptors.{SpellsType, SpellsMethod}
use Rattle.kb_class.specs.declared.given.GivenClass.{GivenClass}
use Rattle.kb_class.specs.declared.ids.ClassId.{ClassId}
use Rattle.kb_class.specs.declared.members.FieldInfo.{FieldInfo}
use Rattle.kb_class.specs.declared.members.MethodInfo.{MethodInfo}
use Rattle.kb_class.specs.declared.members.MethodCode.{MethodCode}
use Rattle.kb_class.specs.Class.{Class}
use Rattle.kb_class.specs.Loading.{StandsFor, IsFieldOf, IsCodeWith, IsCodeOf, IsMethodOf, AreMethodsOf, IsClassOf}
use Rattle.kb_class.proofs.Lists.{zip_one}
use Rattle.kb_class.proofs.Spellings.{one_type, one_method}
use Rattle.kb_class.proofs.PoolLaws.{same_some, text_one, one_entry}

one_field : (file : ClassFile) (field : Field) (a b : FieldInfo) → IsFieldOf file field a → IsFieldOf file field b → a ≡ b
one_field file field a b s t =
    let access : a.access ≡ b.access = s.access ∙ sym t.access in
    let name : a.name ≡ b.name = same_some (utf8_in file.pool field.name) a.name b.name s.name t.name in
    let kind : a.kind ≡ b.kind = text_one (SpellsType Raw) file.pool field.kind a.kind b.kind (one_type a.kind b.kind) s.kind t.kind in
    let step1 : (let m : FieldInfo = record { access = a.access; name = a.name; kind = a.kind } in m) ≡ record { access = b.access; name = b.name; kind = b.kind } = rw (access, name, kind) refl in
    step1

one_code_with : (code : Code) (listing : Listing) (a b : MethodCode) → IsCodeWith code listing a → IsCodeWith code listing b → a ≡ b
one_code_with code listing a b s t =
    let same : (let m : MethodCode = record { max_stack = a.max_stack; max_locals = a.max_locals; size = a.size; listing = a.listing; handlers = a.handlers } in m)
    ≡ record { max_stack = b.max_stack; max_locals = b.max_locals; size = b.size; listing = b.listing; handlers = b.handlers } =
    rw (s.max_stack, s.max_locals, s.size, s.listed, s.handlers, t.max_stack, t.max_locals, t.size, t.listed, t.handlers) refl in
    same

one_code : (code : Option Code) (listing : Option Listing) (a b : Option MethodCode) → IsCodeOf code listing a → IsCodeOf code listing b → a ≡ b
one_code None None None None s t = refl
one_code None None None (Some y) s t = absurd t
one_code None None (Some x) b s t = absurd s
one_code None (Some l) a b s t = absurd s
one_code (Some c) None a b s t = absurd s
one_code (Some c) (Some l) None b s t = absurd s
one_code (Some c) (Some l) (Some x) None s t = absurd t
one_code (Some c) (Some l) (Some x) (Some y) s t = ap (λ (m : MethodCode). Some m) (one_code_with c l x y s t)

id_same : (a b : ClassId) → a.0 ≡ b.0 → a ≡ b
id_same a b e = ap (λ (n : ℕ). let id : ClassId = record { 0 = n } in id) e

module _ (id : ℕ) (file : ClassFile) where
  method_one : (method : ClassMethod) (listing : Option Listing) (a b : MethodInfo) → IsMethodOf id file method listing a → IsMethodOf id file method listing b → a ≡ b
  method_one method listing a b s t =
      let class : a.class ≡ b.class = id_same a.class b.class (s.class ∙ sym t.class) in
      let access : a.access ≡ b.access = s.access ∙ sym t.access in
      let name : a.name ≡ b.name = same_some (utf8_in file.pool method.name) a.name b.name s.name t.name in
      let kind : a.kind ≡ b.kind = text_one (SpellsMethod Raw) file.pool method.kind a.kind b.kind (one_method a.kind b.kind) s.kind t.kind in
      let code : a.code ≡ b.code = one_code method.code listing a.code b.code s.code t.code in
      let same : (let m : MethodInfo = record { class = a.class; access = a.access; name = a.name; kind = a.kind; code = a.code } in m)
      ≡ record { class = b.class; access = b.access; name = b.name; kind = b.kind; code = b.code } = rw (class, access, name, kind, code) refl in
      same

  methods_one : (methods : List ClassMethod) (listings : List (Option Listing)) (xs ys : List MethodInfo) → AreMethodsOf id file methods listings xs → AreMethodsOf id file methods listings ys → xs ≡ ys
  methods_one [] [] [] [] s t = refl
  methods_one [] [] [] (y ∷ ys) s t = absurd t
  methods_one [] [] (x ∷ xs) ys s t = absurd s
  methods_one [] (l ∷ listings) xs ys s t = absurd s
  methods_one (m ∷ methods) [] xs ys s t = absurd s
  methods_one (m ∷ methods) (l ∷ listings) [] ys s t = absurd s
  methods_one (m ∷ methods) (l ∷ listings) (x ∷ xs) [] s t = absurd t
  methods_one (m ∷ methods) (l ∷ listings) (x ∷ xs) (y ∷ ys) s t =
      let first : x ≡ y = method_one m l x y s.0 t.0 in
      let rest : xs ≡ ys = methods_one methods listings xs ys s.1 t.1 in
      rw (first, rest) refl

abbrev found_name : List ℕ → Option (List ℕ)
found_name name = Some name

names_same : (xs ys : List (List ℕ)) → map found_name xs ≡ map found_name ys → xs ≡ ys
names_same [] [] e = refl
names_same [] (y ∷ ys) e = absurd cc
names_same (x ∷ xs) [] e = absurd cc
names_same (x ∷ xs) (y ∷ ys) e =
    let first : x ≡ y = cc in
    let others : map found_name xs ≡ map found_name ys = cc in
    let rest : xs ≡ ys = names_same xs ys others in
    rw (first, rest) refl

pub one_class_is : (id : ℕ) (given : GivenClass) (c d : Class) → IsClassOf id given c → IsClassOf id given d → c ≡ d
one_class_is id given c d s t =
    let file = given.file in
    let name : c.name ≡ d.name = same_some (class_name_of file file.this) c.name d.name s.name t.name in
    let access : c.access ≡ d.access = s.access ∙ sym t.access in
    let above : s.parent.0 ≡ t.parent.0 = same_some (class_name_of file file.parent) s.parent.0 t.parent.0 s.parent.1 t.parent.1 in
    let parent : c.parent ≡ d.parent = s.parent.2 ∙ ap found_name above ∙ sym t.parent.2 in
    let interfaces : c.interfaces ≡ d.interfaces = names_same c.interfaces d.interfaces (sym s.interfaces ∙ t.interfaces) in
    let fields : c.fields ≡ d.fields = zip_one (IsFieldOf file) file.fields c.fields d.fields (one_field file) s.fields t.fields in
    let methods : c.methods ≡ d.methods = methods_one id file file.methods given.listings c.methods d.methods s.methods t.methods in
    let entries : c.entries ≡ d.entries = zip_one (StandsFor file.pool) file.pool c.entries d.entries (one_entry file.pool) s.entries t.entries in
    let origin : c.file ≡ d.file = s.file ∙ sym t.file in
    let same : (let m : Class = record { name = c.name; access = c.access; parent = c.parent; interfaces = c.interfaces; fields = c.fields; methods = c.methods; entries = c.entries; file = c.file } in m)
    ≡ record { name = d.name; access = d.access; parent = d.parent; interfaces = d.interfaces; fields = d.fields; methods = d.methods; entries = d.entries; file = d.file } =
    rw (name, access, parent, interfaces, fields, methods, entries, origin) refl in
    same
