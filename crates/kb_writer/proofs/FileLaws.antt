-- The bytes of a class file spell it, part by part.
use Rattle.std.proofs.Common.{◌≡◌, ℕ, zero, suc, ◌+◌, ◌*◌, ◌<◌, ◌≤◌, ◌^◌, inl, false, List, [], ◌∷◌, ◌++◌, length, drop, Option, Some, None, refl, sym, subst, ◌∙◌, arith, append_assoc, length-append}
use Rattle.std.specs.Prelude.{slice_get, codes}
use Rattle.std.specs.List.{AllByRecursion, flat_map}
use Rattle.std.proofs.lemmas.List.{append-nil}
use Rattle.kb_grammar.specs.Grammar.{Piece, ◌⊳◌, IsRun, IsAny, IsNumber, Each, IsSized}
use Rattle.kb_classfile.specs.declared.file.PoolEntry.{PoolEntry}
use Rattle.kb_classfile.specs.declared.file.PoolEntry.TheVariants as entries
use Rattle.kb_classfile.specs.declared.file.Code.{Code}
use Rattle.kb_classfile.specs.declared.file.Field.{Field}
use Rattle.kb_classfile.specs.declared.file.Handler.{Handler}
use Rattle.kb_classfile.specs.declared.file.Method.{Method}
use Rattle.kb_classfile.specs.declared.file.ClassFile.{ClassFile}
use Rattle.kb_classfile.specs.declared.pool.EntryKind.{EntryKind}
use Rattle.kb_classfile.specs.declared.pool.EntryKind.TheVariants as kinds
use Rattle.kb_classfile.specs.Pool.{utf8_in, NamesEntry}
use Rattle.kb_classfile.specs.Spelling.{IsU1, IsU2, IsU4, SpellsTable, SpellsInfo, SpellsEntry, SpellsEntries, SpellsPoolCount, SpellsPool, SpellsIndex, SpellsAttribute, SpellsAttributes, SpellsInstructions, SpellsCatch, SpellsHandler, SpellsCode, SpellsCodeName, SpellsMethodAttribute, SpellsMethodAttributes, SpellsField, SpellsMethod, SpellsVersion, SpellsClass, Spells, is_wide, magic}
use Rattle.kb_writer.specs.Numbers.{u2, u4, int}
use Rattle.kb_writer.specs.Pieces.{Anywhere}
use Rattle.kb_writer.specs.Files.{IsTable, IsWritten, IsWritablePool, IsWritableHandler, IsWritableCode, IfCode, IsWritableField, IsWritableMethod, IsWritable, table, sized, entry_bytes, pool_bytes, handler_bytes, content_bytes, code_bytes, field_bytes, method_bytes, class_bytes, FitsEntry, FitsHandler, FitsCode, FitsField, FitsMethod, FitsIndex, Fits}
use Rattle.kb_writer.proofs.Bytes.{u1_spells, u2_spells, u4_spells, int_spells, joined, joined_anywhere, table_spells}

-- ---- tools

-- what follows of two facts of each
both_each : {A : Type 0} (P Q R : A → Type 0) (xs : List A) → ((x : A) → P x → Q x → R x) → AllByRecursion P xs → AllByRecursion Q xs → AllByRecursion R xs
both_each P Q R [] to p q = tt
both_each P Q R (x ∷ xs) to p q = (to x p.0 q.0, both_each P Q R xs to p.1 q.1)

u2_anywhere : (n : ℕ) → n < 2 ^ 16 → Anywhere (IsU2 n) (u2 n)
u2_anywhere n few at = u2_spells n at few

index_anywhere : (kind : EntryKind) (pool : List PoolEntry) (index : ℕ) → NamesEntry kind pool index → index < 2 ^ 16 → Anywhere (SpellsIndex kind pool index) (u2 index)
index_anywhere kind pool index named few at = (named, u2_spells index at few)

-- no attributes
none_anywhere : (pool : List PoolEntry) → Anywhere (SpellsAttributes pool) (u2 0)
none_anywhere pool = let few : 0 < 2 ^ 16 = omega arith in λ at. ([], table_spells (SpellsAttribute pool) (λ attribute. []) [] few tt at)

-- a piece told by another order of joining
same_bytes : (S : Piece) (a b : List ℕ) → a ≡ b → Anywhere S a → Anywhere S b
same_bytes S a b e s at = subst (λ (bytes : List ℕ). S at bytes) e (s at)

-- ---- the pool

entry_from : (entry : PoolEntry) (tag at : ℕ) (rest : List ℕ) → SpellsInfo tag entry (at + 1) rest → SpellsEntry entry at (tag ∷ rest)
entry_from entry tag at rest s = (tag, joined (IsU1 tag) (SpellsInfo tag entry) at (tag ∷ []) rest (u1_spells tag at) s)

pair_spells : (first second at : ℕ) → first < 2 ^ 16 → second < 2 ^ 16 → (IsU2 first ⊳ IsU2 second) at (u2 first ++ u2 second)
pair_spells first second at one two = joined (IsU2 first) (IsU2 second) at (u2 first) (u2 second) (u2_spells first at one) (u2_spells second (at + 2) two)

entry_spells : (entry : PoolEntry) → IsWritten entry → FitsEntry entry → Anywhere (SpellsEntry entry) (entry_bytes entry)
unfolding entry_bytes
entry_spells (entries.Utf8 text) written fits at =
    entry_from (entries.Utf8 text) 1 at (u2 (length text) ++ text) (refl, joined (IsU2 (length text)) (IsRun text) (at + 1) (u2 (length text)) text (u2_spells (length text) (at + 1) written) refl)
entry_spells (entries.Integer value) written fits at =
    let s = int_spells value (at + 1) fits in
    entry_from (entries.Integer value) 3 at (int value) (refl, s.0, s.1, s.2)
entry_spells entries.Wide written fits at = absurd written
entry_spells entries.Second written fits at = absurd written
entry_spells entries.Skipped written fits at = absurd written
entry_spells (entries.Class name) written fits at = entry_from (entries.Class name) 7 at (u2 name) (refl, u2_spells name (at + 1) fits)
entry_spells (entries.Str text) written fits at = entry_from (entries.Str text) 8 at (u2 text) (refl, u2_spells text (at + 1) fits)
entry_spells (entries.Field class name_type) written fits at =
    entry_from (entries.Field class name_type) 9 at (u2 class ++ u2 name_type) (refl, pair_spells class name_type (at + 1) fits.0 fits.1)
entry_spells (entries.Method class name_type) written fits at =
    entry_from (entries.Method class name_type) 10 at (u2 class ++ u2 name_type) (refl, pair_spells class name_type (at + 1) fits.0 fits.1)
entry_spells (entries.InterfaceMethod class name_type) written fits at =
    entry_from (entries.InterfaceMethod class name_type) 11 at (u2 class ++ u2 name_type) (refl, pair_spells class name_type (at + 1) fits.0 fits.1)
entry_spells (entries.NameType name kind) written fits at =
    entry_from (entries.NameType name kind) 12 at (u2 name ++ u2 kind) (refl, pair_spells name kind (at + 1) fits.0 fits.1)

-- an entry that is written takes one number
is_narrow : (entry : PoolEntry) → IsWritten entry → is_wide entry ≡ false
is_narrow (entries.Utf8 text) written = refl
is_narrow (entries.Integer value) written = refl
is_narrow entries.Wide written = absurd written
is_narrow entries.Second written = absurd written
is_narrow entries.Skipped written = absurd written
is_narrow (entries.Class name) written = refl
is_narrow (entries.Str text) written = refl
is_narrow (entries.Field class name_type) written = refl
is_narrow (entries.Method class name_type) written = refl
is_narrow (entries.InterfaceMethod class name_type) written = refl
is_narrow (entries.NameType name kind) written = refl

entries_spell : (all : List PoolEntry) (at : ℕ) → AllByRecursion IsWritten all → AllByRecursion FitsEntry all → SpellsEntries false all at (flat_map entry_bytes all)
entries_spell [] at written fits = refl
entries_spell (entry ∷ all) at written fits =
    let others : SpellsEntries false all (at + length (entry_bytes entry)) (flat_map entry_bytes all) = entries_spell all (at + length (entry_bytes entry)) written.1 fits.1 in
    let due : SpellsEntries (is_wide entry) all (at + length (entry_bytes entry)) (flat_map entry_bytes all) = rw (is_narrow entry written.0) others in
    joined (SpellsEntry entry) (SpellsEntries (is_wide entry) all) at (entry_bytes entry) (flat_map entry_bytes all) (entry_spells entry written.0 fits.0 at) due

pool_spells : (pool : List PoolEntry) → IsWritablePool pool → AllByRecursion FitsEntry (drop 1 pool) → Anywhere (SpellsPool pool) (pool_bytes pool)
unfolding pool_bytes
pool_spells pool w fits at = record {
  zeroth = w.zeroth;
  items = joined (SpellsPoolCount (length pool)) (SpellsEntries false (drop 1 pool)) at (u2 (length pool)) (flat_map entry_bytes (drop 1 pool))
      (inl (u2_spells (length pool) at w.most)) (entries_spell (drop 1 pool) (at + 2) w.written fits);
  references = w.references;
}

-- ---- code

handler_spells : (pool : List PoolEntry) (handler : Handler) → IsWritableHandler pool handler → FitsHandler handler → Anywhere (SpellsHandler pool handler) (handler_bytes handler)
unfolding handler_bytes
handler_spells pool handler w fits =
    same_bytes (SpellsHandler pool handler) (u2 handler.start ++ (u2 handler.end ++ (u2 handler.target ++ u2 handler.catch))) (u2 handler.start ++ u2 handler.end ++ u2 handler.target ++ u2 handler.catch) refl
    (joined_anywhere (IsU2 handler.start) (IsU2 handler.end ⊳ IsU2 handler.target ⊳ SpellsCatch pool handler.catch) (u2 handler.start) (u2 handler.end ++ (u2 handler.target ++ u2 handler.catch)) (u2_anywhere handler.start fits.0)
    (joined_anywhere (IsU2 handler.end) (IsU2 handler.target ⊳ SpellsCatch pool handler.catch) (u2 handler.end) (u2 handler.target ++ u2 handler.catch) (u2_anywhere handler.end fits.1)
    (joined_anywhere (IsU2 handler.target) (SpellsCatch pool handler.catch) (u2 handler.target) (u2 handler.catch) (u2_anywhere handler.target fits.2)
    (λ at. (w, u2_spells handler.catch at fits.3)))))

handlers_spell : (pool : List PoolEntry) (handlers : List Handler) → length handlers < 2 ^ 16 → AllByRecursion (IsWritableHandler pool) handlers → AllByRecursion FitsHandler handlers
    → Anywhere (SpellsTable (SpellsHandler pool) handlers) (table handler_bytes handlers)
handlers_spell pool handlers few w fits =
    table_spells (SpellsHandler pool) handler_bytes handlers few
    (both_each (IsWritableHandler pool) FitsHandler (λ handler. Anywhere (SpellsHandler pool handler) (handler_bytes handler)) handlers (handler_spells pool) w fits)

instructions_spell : (code : List ℕ) → 1 ≤ length code → length code < 2 ^ 16 → Anywhere (SpellsInstructions code) (sized code)
instructions_spell code some few at =
    let fits : length code < 2 ^ 32 = omega (arith, few) in
    let most : length code ≤ 65535 = omega (arith, few) in
    record { some = some; most = most; items = joined (IsU4 (length code)) (IsRun code) at (u4 (length code)) code (u4_spells (length code) at fits) refl }

regrouped : (a b c d e : List ℕ) → a ++ (b ++ (c ++ (d ++ e))) ≡ a ++ b ++ c ++ d ++ e
regrouped a b c d e = sym (append_assoc (a ++ b ++ c) d e ∙ append_assoc (a ++ b) c (d ++ e) ∙ append_assoc a b (c ++ (d ++ e)))

content_spells : (name : ℕ) (pool : List PoolEntry) (code : Code) → IsWritableCode name pool code → FitsCode code → Anywhere (SpellsCode pool code) (content_bytes code)
unfolding content_bytes
content_spells name pool code w fits =
    let stack = u2 code.max_stack in
    let locals = u2 code.max_locals in
    let run = sized code.bytes in
    let rows = table handler_bytes code.handlers in
    same_bytes (SpellsCode pool code) (stack ++ (locals ++ (run ++ (rows ++ u2 0)))) (stack ++ locals ++ run ++ rows ++ u2 0) (regrouped stack locals run rows (u2 0))
    (joined_anywhere (IsU2 code.max_stack) (IsU2 code.max_locals ⊳ SpellsInstructions code.bytes ⊳ SpellsTable (SpellsHandler pool) code.handlers ⊳ SpellsAttributes pool) stack (locals ++ (run ++ (rows ++ u2 0))) (u2_anywhere code.max_stack fits.0)
    (joined_anywhere (IsU2 code.max_locals) (SpellsInstructions code.bytes ⊳ SpellsTable (SpellsHandler pool) code.handlers ⊳ SpellsAttributes pool) locals (run ++ (rows ++ u2 0)) (u2_anywhere code.max_locals fits.1)
    (joined_anywhere (SpellsInstructions code.bytes) (SpellsTable (SpellsHandler pool) code.handlers ⊳ SpellsAttributes pool) run (rows ++ u2 0) (instructions_spell code.bytes w.some w.sizes.0)
    (joined_anywhere (SpellsTable (SpellsHandler pool) code.handlers) (SpellsAttributes pool) rows (u2 0) (handlers_spell pool code.handlers w.sizes.1 w.handlers fits.2)
    (none_anywhere pool)))))

rows_length : (handlers : List Handler) → length (flat_map handler_bytes handlers) ≡ 8 * length handlers
unfolding handler_bytes
rows_length [] = refl
rows_length (handler ∷ handlers) = omega (arith, length-append (handler_bytes handler) (flat_map handler_bytes handlers), rows_length handlers)

-- how many bytes the content of a Code attribute has
pub content_length : (code : Code) → length (content_bytes code) ≡ 12 + length code.bytes + 8 * length code.handlers
unfolding content_bytes
content_length code =
    let stack = u2 code.max_stack in
    let locals = u2 code.max_locals in
    let run = sized code.bytes in
    let rows = table handler_bytes code.handlers in
    omega (arith, length-append (stack ++ locals ++ run ++ rows) (u2 0), length-append (stack ++ locals ++ run) rows, length-append (stack ++ locals) run, length-append (u2 (length code.handlers)) (flat_map handler_bytes code.handlers), length-append (u4 (length code.bytes)) code.bytes, rows_length code.handlers)

-- the number of a text is above 0
names_text : (pool : List PoolEntry) (index : ℕ) (text : List ℕ) → slice_get pool 0 ≡ Some entries.Skipped → utf8_in pool index ≡ Some text → NamesEntry kinds.Text pool index
names_text pool zero text zeroth named = absurd (go zeroth named) where
  go : slice_get pool 0 ≡ Some entries.Skipped → utf8_in pool 0 ≡ Some text → ⊥
  go e f = let g : utf8_in pool 0 ≡ None = rw e refl in absurd cc
names_text pool (suc before) text zeroth named = go (slice_get pool (suc before)) refl where
  go : (found : Option PoolEntry) → slice_get pool (suc before) ≡ found → NamesEntry kinds.Text pool (suc before)
  go None e = let g : utf8_in pool (suc before) ≡ None = rw e refl in absurd cc
  go (Some (entries.Utf8 t)) e = record { entry = entries.Utf8 t; there = e; right = refl }
  go (Some entries.Wide) e = let g : utf8_in pool (suc before) ≡ None = rw e refl in absurd cc
  go (Some entries.Second) e = let g : utf8_in pool (suc before) ≡ None = rw e refl in absurd cc
  go (Some entries.Skipped) e = let g : utf8_in pool (suc before) ≡ None = rw e refl in absurd cc
  go (Some (entries.Integer v)) e = let g : utf8_in pool (suc before) ≡ None = rw e refl in absurd cc
  go (Some (entries.Class v)) e = let g : utf8_in pool (suc before) ≡ None = rw e refl in absurd cc
  go (Some (entries.Str v)) e = let g : utf8_in pool (suc before) ≡ None = rw e refl in absurd cc
  go (Some (entries.Field v w)) e = let g : utf8_in pool (suc before) ≡ None = rw e refl in absurd cc
  go (Some (entries.Method v w)) e = let g : utf8_in pool (suc before) ≡ None = rw e refl in absurd cc
  go (Some (entries.InterfaceMethod v w)) e = let g : utf8_in pool (suc before) ≡ None = rw e refl in absurd cc
  go (Some (entries.NameType v w)) e = let g : utf8_in pool (suc before) ≡ None = rw e refl in absurd cc

code_spells : (name : ℕ) (pool : List PoolEntry) (code : Option Code) → slice_get pool 0 ≡ Some entries.Skipped → name < 2 ^ 16 → IfCode (IsWritableCode name pool) code → IfCode FitsCode code
    → Anywhere (SpellsMethodAttributes pool code) (code_bytes name code)
unfolding code_bytes
code_spells name pool None zeroth few w fits at =
    let none : 0 < 2 ^ 16 = omega arith in
    record { attributes = []; items = table_spells (SpellsMethodAttribute pool) (λ attribute. []) [] none tt at; has_code = refl }
code_spells name pool (Some code) zeroth few w fits at =
    let one : 1 < 2 ^ 16 = omega arith in
    let size : length (content_bytes code) < 2 ^ 32 = omega (arith, content_length code, w.sizes.0, w.sizes.1) in
    let content = content_bytes code in
    let Named = IsAny (SpellsCodeName pool) in
    let Content = IsSized 4 (SpellsCode pool code) in
    let named : Named (at + 2) (u2 name) = (name, (w.named, (names_text pool name (codes "Code") zeroth w.named, u2_spells name (at + 2) few))) in
    let held : Content (at + 2 + 2) (sized content) = record {
      content = content;
      spelled = content_spells name pool code w fits (at + 2 + 2 + 4);
      sized = joined (IsNumber 4 (length content)) (IsRun content) (at + 2 + 2) (u4 (length content)) content (u4_spells (length content) (at + 2 + 2) size) refl;
    } in
    let attribute : (Named ⊳ Content) (at + 2) (u2 name ++ sized content) = joined Named Content (at + 2) (u2 name) (sized content) named held in
    record {
      attributes = Some code ∷ [];
      items = joined (IsU2 1) (Each (SpellsMethodAttribute pool) (Some code ∷ [])) at (u2 1) (u2 name ++ sized content) (u2_spells 1 at one) (record { front = u2 name ++ sized content; back = []; parts = sym (append-nil (u2 name ++ sized content)); begins = attribute; ends = refl });
      has_code = (refl, tt);
    }

-- ---- members and the class

field_spells : (pool : List PoolEntry) (field : Field) → IsWritableField pool field → FitsField field → Anywhere (SpellsField pool field) (field_bytes field)
unfolding field_bytes
field_spells pool field w fits =
    same_bytes (SpellsField pool field) (u2 field.access ++ (u2 field.name ++ (u2 field.kind ++ u2 0))) (u2 field.access ++ u2 field.name ++ u2 field.kind ++ u2 0) refl
    (joined_anywhere (IsU2 field.access) (SpellsIndex kinds.Text pool field.name ⊳ SpellsIndex kinds.Text pool field.kind ⊳ SpellsAttributes pool) (u2 field.access) (u2 field.name ++ (u2 field.kind ++ u2 0)) (u2_anywhere field.access fits.0)
    (joined_anywhere (SpellsIndex kinds.Text pool field.name) (SpellsIndex kinds.Text pool field.kind ⊳ SpellsAttributes pool) (u2 field.name) (u2 field.kind ++ u2 0) (index_anywhere kinds.Text pool field.name w.name fits.1)
    (joined_anywhere (SpellsIndex kinds.Text pool field.kind) (SpellsAttributes pool) (u2 field.kind) (u2 0) (index_anywhere kinds.Text pool field.kind w.kind fits.2) (none_anywhere pool))))

method_spells : (name : ℕ) (pool : List PoolEntry) → slice_get pool 0 ≡ Some entries.Skipped → name < 2 ^ 16 → (method : Method) → IsWritableMethod name pool method → FitsMethod method → Anywhere (SpellsMethod pool method) (method_bytes name method)
unfolding method_bytes
method_spells name pool zeroth few method w fits =
    let code = code_bytes name method.code in
    same_bytes (SpellsMethod pool method) (u2 method.access ++ (u2 method.name ++ (u2 method.kind ++ code))) (u2 method.access ++ u2 method.name ++ u2 method.kind ++ code) refl
    (joined_anywhere (IsU2 method.access) (SpellsIndex kinds.Text pool method.name ⊳ SpellsIndex kinds.Text pool method.kind ⊳ SpellsMethodAttributes pool method.code) (u2 method.access) (u2 method.name ++ (u2 method.kind ++ code)) (u2_anywhere method.access fits.0)
    (joined_anywhere (SpellsIndex kinds.Text pool method.name) (SpellsIndex kinds.Text pool method.kind ⊳ SpellsMethodAttributes pool method.code) (u2 method.name) (u2 method.kind ++ code) (index_anywhere kinds.Text pool method.name w.name fits.1)
    (joined_anywhere (SpellsIndex kinds.Text pool method.kind) (SpellsMethodAttributes pool method.code) (u2 method.kind) code (index_anywhere kinds.Text pool method.kind w.kind fits.2) (code_spells name pool method.code zeroth few w.code fits.3))))

interfaces_spell : (pool : List PoolEntry) (interfaces : List ℕ) → IsTable (NamesEntry kinds.Class pool) interfaces → AllByRecursion FitsIndex interfaces → Anywhere (SpellsTable (SpellsIndex kinds.Class pool) interfaces) (table u2 interfaces)
interfaces_spell pool interfaces w fits =
    table_spells (SpellsIndex kinds.Class pool) u2 interfaces w.0
    (both_each (NamesEntry kinds.Class pool) FitsIndex (λ index. Anywhere (SpellsIndex kinds.Class pool index) (u2 index)) interfaces (index_anywhere kinds.Class pool) w.1 fits)

fields_spell : (pool : List PoolEntry) (fields : List Field) → IsTable (IsWritableField pool) fields → AllByRecursion FitsField fields → Anywhere (SpellsTable (SpellsField pool) fields) (table field_bytes fields)
fields_spell pool fields w fits =
    table_spells (SpellsField pool) field_bytes fields w.0
    (both_each (IsWritableField pool) FitsField (λ field. Anywhere (SpellsField pool field) (field_bytes field)) fields (field_spells pool) w.1 fits)

methods_spell : (name : ℕ) (pool : List PoolEntry) (methods : List Method) → slice_get pool 0 ≡ Some entries.Skipped → name < 2 ^ 16 → IsTable (IsWritableMethod name pool) methods → AllByRecursion FitsMethod methods
    → Anywhere (SpellsTable (SpellsMethod pool) methods) (table (method_bytes name) methods)
methods_spell name pool methods zeroth few w fits =
    table_spells (SpellsMethod pool) (method_bytes name) methods w.0
    (both_each (IsWritableMethod name pool) FitsMethod (λ method. Anywhere (SpellsMethod pool method) (method_bytes name method)) methods (method_spells name pool zeroth few) w.1 fits)

version_spells : (major : ℕ) → 45 ≤ major → major ≤ 52 → major < 2 ^ 16 → Anywhere (SpellsVersion major) (u2 0 ++ u2 major)
version_spells major least latest few at =
    let none : 0 < 2 ^ 16 = omega arith in
    record { least = least; most = latest; items = joined (IsAny IsU2) (IsU2 major) at (u2 0) (u2 major) (0, u2_spells 0 at none) (u2_spells major (at + 2) few) }

magic_anywhere : Anywhere (IsU4 magic) (u4 magic)
magic_anywhere at = let few : magic < 2 ^ 32 = omega arith in u4_spells magic at few

regrouped_class : (head version pool access this parent above fields methods none : List ℕ)
    → head ++ (version ++ (pool ++ (access ++ (this ++ (parent ++ (above ++ (fields ++ (methods ++ none)))))))) ≡ (head ++ version) ++ pool ++ access ++ this ++ parent ++ above ++ fields ++ methods ++ none
regrouped_class head version pool access this parent above fields methods none = simp append_assoc refl

pub file_spells : (name : ℕ) (file : ClassFile) → IsWritable name file → Fits name file → Spells file (class_bytes name file)
unfolding class_bytes
file_spells name file w fits =
    let pool = file.pool in
    let version = u2 0 ++ u2 file.major in
    let entries_bytes = pool_bytes pool in
    let above = table u2 file.interfaces in
    let fields = table field_bytes file.fields in
    let methods = table (method_bytes name) file.methods in
    let Attributes = SpellsAttributes pool in
    let Methods = SpellsTable (SpellsMethod pool) file.methods ⊳ Attributes in
    let Fields = SpellsTable (SpellsField pool) file.fields ⊳ Methods in
    let Above = SpellsTable (SpellsIndex kinds.Class pool) file.interfaces ⊳ Fields in
    let Parent = SpellsIndex kinds.Class pool file.parent ⊳ Above in
    let This = SpellsIndex kinds.Class pool file.this ⊳ Parent in
    let Access = IsU2 file.access ⊳ This in
    let Pool = SpellsPool pool ⊳ Access in
    let Version = SpellsVersion file.major ⊳ Pool in
    let from_methods = methods ++ u2 0 in
    let from_fields = fields ++ from_methods in
    let from_above = above ++ from_fields in
    let from_parent = u2 file.parent ++ from_above in
    let from_this = u2 file.this ++ from_parent in
    let from_access = u2 file.access ++ from_this in
    let from_pool = entries_bytes ++ from_access in
    let from_version = version ++ from_pool in
    same_bytes (SpellsClass file) (u4 magic ++ from_version) (u4 magic ++ version ++ entries_bytes ++ u2 file.access ++ u2 file.this ++ u2 file.parent ++ above ++ fields ++ methods ++ u2 0)
    (regrouped_class (u4 magic) version entries_bytes (u2 file.access) (u2 file.this) (u2 file.parent) above fields methods (u2 0))
    (joined_anywhere (IsU4 magic) Version (u4 magic) from_version magic_anywhere
    (joined_anywhere (SpellsVersion file.major) Pool version from_pool (version_spells file.major w.least w.latest fits.major)
    (joined_anywhere (SpellsPool pool) Access entries_bytes from_access (pool_spells pool w.pool fits.pool)
    (joined_anywhere (IsU2 file.access) This (u2 file.access) from_this (u2_anywhere file.access fits.access)
    (joined_anywhere (SpellsIndex kinds.Class pool file.this) Parent (u2 file.this) from_parent (index_anywhere kinds.Class pool file.this w.this fits.this)
    (joined_anywhere (SpellsIndex kinds.Class pool file.parent) Above (u2 file.parent) from_above (index_anywhere kinds.Class pool file.parent w.parent fits.parent)
    (joined_anywhere (SpellsTable (SpellsIndex kinds.Class pool) file.interfaces) Fields above from_fields (interfaces_spell pool file.interfaces w.interfaces fits.interfaces)
    (joined_anywhere (SpellsTable (SpellsField pool) file.fields) Methods fields from_methods (fields_spell pool file.fields w.fields fits.fields)
    (joined_anywhere (SpellsTable (SpellsMethod pool) file.methods) Attributes methods (u2 0) (methods_spell name pool file.methods w.pool.zeroth fits.name w.methods fits.methods)
    (none_anywhere pool)))))))))) 0
