-- The class file of the lines can be written, and is their class.
use Rattle.std.proofs.Common.{◌≡◌, inl, inr, ℕ, zero, suc, ◌≤◌, true, List, [], ◌∷◌, length, map, Option, None, Some, refl, sym, ap, subst, ◌∙◌, arith, codes}
use Rattle.std.specs.List.{list_all, AllByRecursion, AllZip}
use Rattle.std.specs.Option.{option_and_then}
use Rattle.std.proofs.lemmas.Bool.{and_parts, leb-true}
use Rattle.std.proofs.lemmas.List.{length-map}
use Rattle.kb_classfile.specs.declared.file.PoolEntry.{PoolEntry}
use Rattle.kb_classfile.specs.declared.file.PoolEntry.TheVariants as entries
use Rattle.kb_classfile.specs.declared.file.Code.{Code}
use Rattle.kb_classfile.specs.declared.file.Field.{Field}
use Rattle.kb_classfile.specs.declared.file.Handler.{Handler}
use Rattle.kb_classfile.specs.declared.file.Method.{Method}
use Rattle.kb_classfile.specs.declared.file.ClassFile.{ClassFile}
use Rattle.kb_classfile.specs.declared.pool.EntryKind.TheVariants as kinds
use Rattle.kb_classfile.specs.Pool.{text_of, utf8_in, NamesEntry, RefersWell}
use Rattle.kb_writer.specs.Files.{IsWritten, IsWritablePool, IsWritableHandler, IsWritableCode, IfCode, IsWritableField, IsWritableMethod, IsWritable}
use Rattle.kb_asm_text.specs.declared.line.Sizes.{Sizes}
use Rattle.kb_asm_text.specs.declared.line.Catch.{Catch}
use Rattle.kb_asm_text.specs.declared.line.FieldHead.{FieldHead}
use Rattle.kb_asm_text.specs.declared.line.MethodHead.{MethodHead}
use Rattle.kb_asm_text.specs.declared.line.Line.{Line}
use Rattle.kb_asm_text.specs.declared.line.Line.TheVariants as lines
use Rattle.kb_asm_pool.specs.declared.items.ReferenceKind.TheVariants as members
use Rattle.kb_asm_pool.specs.Says.{Says, text, int, class, string, name_type, member}
use Rattle.kb_asm_pool.specs.Entries.{number_in, entry_of, entries_of}
use Rattle.kb_asm_body.specs.Layout.{label_of}
use Rattle.kb_asm_check.specs.Limits.{is_short}
use Rattle.kb_asm.specs.Entries.{SaysText, SaysClass, SaysNameType}
use Rattle.kb_asm.specs.Parts.{parts}
use Rattle.kb_asm.specs.Pool.{Has, IsPoolOf}
use Rattle.kb_asm.specs.Needs.{named, have, IsWhole, says_of}
use Rattle.kb_asm.specs.Class.{interface_in, field_in, method_in, handler_in, IsFieldOf, IsCaught, IsHandlerOf, HasCodeOf, IsMethodOf, IsHeadedBy, IsClassOf}
use Rattle.kb_asm.specs.Working.{IsReady, IsReadyMethod, IsFileOf}
use Rattle.kb_asm.proofs.SaysLaws.{here, there}
use Rattle.kb_asm.proofs.EntryLaws.{first_named, second_named, there_says}
use Rattle.kb_asm.proofs.OnceLaws.{is_pool}

-- ---- numbers of the right kinds

module _ (pool : List PoolEntry) where
  text_kind : (bytes : List ℕ) (number : ℕ) → SaysText pool bytes number → NamesEntry kinds.Text pool number
  text_kind bytes number s = record { entry = entries.Utf8 bytes; there = s; right = refl }

  class_kind : (name : List ℕ) (number : ℕ) → SaysClass pool name number → NamesEntry kinds.Class pool number
  class_kind name number s = record { entry = entries.Class s.0; there = s.1; right = refl }

  pair_kind : (name kind : List ℕ) (number : ℕ) → SaysNameType pool name kind number → NamesEntry kinds.NameType pool number
  pair_kind name kind number s = record { entry = entries.NameType s.0 s.1; there = s.2; right = refl }

  text_at : (bytes : List ℕ) (number : ℕ) → SaysText pool bytes number → utf8_in pool number ≡ Some bytes
  text_at bytes zero s = absurd cc
  text_at bytes (suc before) s = ap (λ (o : Option PoolEntry). option_and_then text_of o) s

-- ---- the pool

written_one : (says : List Says) (one : Says) → is_short one ≡ true → IsWritten (entry_of says one)
written_one says (text bytes) h = let few : length bytes ≤ 65535 = leb-true (length bytes) 65535 h in omega arith
written_one says (int value) h = tt
written_one says (class name) h = tt
written_one says (string of) h = tt
written_one says (name_type name kind) h = tt
written_one says (member members.Field owner name kind) h = tt
written_one says (member members.Method owner name kind) h = tt
written_one says (member members.InterfaceMethod owner name kind) h = tt

all_written : (says part : List Says) → list_all is_short part ≡ true → AllByRecursion IsWritten (map (entry_of says) part)
all_written says [] h = tt
all_written says (one ∷ part) h =
    let p = and_parts (is_short one) (list_all is_short part) h in
    (written_one says one p.0, all_written says part p.1)

module _ (says : List Says) (closed : (one : Says) → Has says one → have says (named one) ≡ true) where
  text_refers : (bytes : List ℕ) → Has says (text bytes) → NamesEntry kinds.Text (entries_of says) (number_in says (text bytes))
  text_refers bytes h = text_kind (entries_of says) bytes (number_in says (text bytes)) (there_says says closed (text bytes) h)

  class_refers : (name : List ℕ) → Has says (class name) → NamesEntry kinds.Class (entries_of says) (number_in says (class name))
  class_refers name h = class_kind (entries_of says) name (number_in says (class name)) (there_says says closed (class name) h)

  pair_refers : (name kind : List ℕ) → Has says (name_type name kind) → NamesEntry kinds.NameType (entries_of says) (number_in says (name_type name kind))
  pair_refers name kind h = pair_kind (entries_of says) name kind (number_in says (name_type name kind)) (there_says says closed (name_type name kind) h)

  refers : (one : Says) → Has says one → RefersWell (entries_of says) (entry_of says one)
  refers (text bytes) h = tt
  refers (int value) h = tt
  refers (class name) h = text_refers name (first_named says closed (class name) (text name) [] refl h)
  refers (string of) h = text_refers of (first_named says closed (string of) (text of) [] refl h)
  refers (name_type name kind) h = (
    text_refers name (first_named says closed (name_type name kind) (text name) (text kind ∷ []) refl h),
    text_refers kind (second_named says closed (name_type name kind) (text name) (text kind) refl h),
  )
  refers (member members.Field owner name kind) h = (
    class_refers owner (first_named says closed (member members.Field owner name kind) (class owner) (name_type name kind ∷ []) refl h),
    pair_refers name kind (second_named says closed (member members.Field owner name kind) (class owner) (name_type name kind) refl h),
  )
  refers (member members.Method owner name kind) h = (
    class_refers owner (first_named says closed (member members.Method owner name kind) (class owner) (name_type name kind ∷ []) refl h),
    pair_refers name kind (second_named says closed (member members.Method owner name kind) (class owner) (name_type name kind) refl h),
  )
  refers (member members.InterfaceMethod owner name kind) h = (
    class_refers owner (first_named says closed (member members.InterfaceMethod owner name kind) (class owner) (name_type name kind ∷ []) refl h),
    pair_refers name kind (second_named says closed (member members.InterfaceMethod owner name kind) (class owner) (name_type name kind) refl h),
  )

  all_refer : (part : List Says) → ((one : Says) → Has part one → Has says one) → AllByRecursion (RefersWell (entries_of says)) (map (entry_of says) part)
  all_refer [] within = tt
  all_refer (one ∷ part) within = (refers one (within one (here one part)), all_refer part (λ other h. within other (there one other part h)))

pool_writable : (says : List Says) → IsWhole says → IsWritablePool (entries_of says)
pool_writable says whole =
    let few : length says ≤ 65534 = whole.few in
    record {
      zeroth = refl;
      most = omega (arith, length-map says (entry_of says));
      written = all_written says says whole.short;
      references = (tt, all_refer says whole.closed says (λ one h. h));
    }

-- ---- the members

each_of : {A B : Type 0} (R : A → B → Type 0) (P : B → Type 0) (xs : List A) (ys : List B) → ((x : A) (y : B) → R x y → P y) → AllZip R xs ys → AllByRecursion P ys
each_of R P [] [] to h = tt
each_of R P [] (y ∷ ys) to h = absurd h
each_of R P (x ∷ xs) [] to h = absurd h
each_of R P (x ∷ xs) (y ∷ ys) to h = (to x y h.0, each_of R P xs ys to h.1)

zip_of : {A B : Type 0} (R S : A → B → Type 0) (xs : List A) (ys : List B) → ((x : A) (y : B) → R x y → S x y) → AllZip R xs ys → AllZip S xs ys
zip_of R S [] [] to h = tt
zip_of R S [] (y ∷ ys) to h = absurd h
zip_of R S (x ∷ xs) [] to h = absurd h
zip_of R S (x ∷ xs) (y ∷ ys) to h = (to x y h.0, zip_of R S xs ys to h.1)

handler_writable : (pool : List PoolEntry) (labels : List ℕ → Option ℕ) (row : Catch) (handler : Handler) → IsHandlerOf pool labels row handler → IsWritableHandler pool handler
handler_writable pool labels row handler h = go row.class h.catch
  where
    go : (caught : Option (List ℕ)) → IsCaught pool caught handler.catch → IsWritableHandler pool handler
    go None e = inl e
    go (Some name) s = inr (class_kind pool name handler.catch s)

module _ (says : List Says) (code_name : ℕ) (name_is : Has says (text (codes "Code")) → SaysText (entries_of says) (codes "Code") code_name) where
  code_writable : (sizes : Option Sizes) (body : List Line) (code : Option Code) → HasCodeOf (entries_of says) sizes body code → IfCode (IsReady says) code
      → IfCode (IsWritableCode code_name (entries_of says)) code
  code_writable sizes body None h r = tt
  code_writable None body (Some code) h r = absurd cc
  code_writable (Some sizes) body (Some code) h r = record {
    named = text_at (entries_of says) (codes "Code") code_name (name_is r.named);
    some = r.few.0;
    sizes = (r.few.1, r.counted);
    handlers = each_of (IsHandlerOf (entries_of says) (label_of body)) (IsWritableHandler (entries_of says)) (parts handler_in body) code.handlers
        (handler_writable (entries_of says) (label_of body)) h.handlers;
  }

  method_writable : (of : MethodHead × List Line) (method : Method) → IsReadyMethod says of method → IsWritableMethod code_name (entries_of says) method
  method_writable of method m = record {
    name = text_kind (entries_of says) of.0.name method.name m.is.name;
    kind = text_kind (entries_of says) _ method.kind m.is.kind;
    code = code_writable of.0.sizes of.1 method.code m.is.code m.ready;
  }

field_writable : (pool : List PoolEntry) (head : FieldHead) (field : Field) → IsFieldOf pool head field → IsWritableField pool field
field_writable pool head field f = record { name = text_kind pool head.name field.name f.1; kind = text_kind pool _ field.kind f.2 }

-- ---- the class

headed : (of : List Line) (file : ClassFile) → IsHeadedBy of file → NamesEntry kinds.Class file.pool file.this × NamesEntry kinds.Class file.pool file.parent
headed (lines.Class head ∷ others) file h = (class_kind file.pool head.name file.this h.1, class_kind file.pool head.parent file.parent h.2)
headed of file h = absurd h

module _ (says : List Says) (whole : IsWhole says) (of : List Line) (file : ClassFile) (is : IsFileOf says of file) where
  pub file_writable : (code_name : ℕ) → (Has says (text (codes "Code")) → SaysText (entries_of says) (codes "Code") code_name) → IsWritable code_name file
  file_writable code_name name_is =
      let pool = entries_of says in
      let head = headed of file is.head in
      let major : file.major ≡ 52 = is.major in
      let interfaces : AllByRecursion (NamesEntry kinds.Class pool) file.interfaces =
      each_of (SaysClass pool) (NamesEntry kinds.Class pool) (parts interface_in of) file.interfaces (class_kind pool) is.interfaces in
      let fields : AllByRecursion (IsWritableField pool) file.fields =
      each_of (IsFieldOf pool) (IsWritableField pool) (parts field_in of) file.fields (field_writable pool) is.fields in
      let methods : AllByRecursion (IsWritableMethod code_name pool) file.methods =
      each_of (IsReadyMethod says) (IsWritableMethod code_name pool) (parts method_in of) file.methods (method_writable says code_name name_is) is.methods in
      let back : pool ≡ file.pool = sym is.pool in
      record {
        least = omega arith;
        latest = omega arith;
        pool = subst IsWritablePool back (pool_writable says whole);
        this = head.0;
        parent = head.1;
        interfaces = (is.few_interfaces, subst (λ (p : List PoolEntry). AllByRecursion (NamesEntry kinds.Class p) file.interfaces) back interfaces);
        fields = (is.few_fields, subst (λ (p : List PoolEntry). AllByRecursion (IsWritableField p) file.fields) back fields);
        methods = (is.few_methods, subst (λ (p : List PoolEntry). AllByRecursion (IsWritableMethod code_name p) file.methods) back methods);
      }

  pub is_class : says ≡ says_of of → IsClassOf of file
  is_class e =
      let back : entries_of says ≡ file.pool = sym is.pool in
      record {
        major = is.major;
        head = is.head;
        interfaces = subst (λ (p : List PoolEntry). AllZip (SaysClass p) (parts interface_in of) file.interfaces) back is.interfaces;
        fields = subst (λ (p : List PoolEntry). AllZip (IsFieldOf p) (parts field_in of) file.fields) back is.fields;
        methods = subst (λ (p : List PoolEntry). AllZip (IsMethodOf p) (parts method_in of) file.methods) back
            (zip_of (IsReadyMethod says) (IsMethodOf (entries_of says)) (parts method_in of) file.methods (λ x y m. m.is) is.methods);
        pool = subst (IsPoolOf of) (ap entries_of (sym e) ∙ back) (is_pool of);
      }
