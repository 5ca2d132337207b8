-- Reading a class file from left to right, a definition for each item kind, with the first fault that is met. `Spelling` states
-- the grammar apart from this; the reader is proved exact for it.
use Rattle.std.specs.Prelude.{◌≡◌, ℕ, ◌-◌, Bool, false, List, [], ◌∷◌, ◌++◌, length, Option, Some, None, Result, Ok, Err, nat_le, nat_lt, codes, ◌==◌, ◌&&◌, if◌then◌else◌}
use Rattle.std.specs.Int.{w32, cast_signed}
use Rattle.kb_grammar.specs.Reading.{Reader, ◌>>=◌, done, fault, here, guard, judged, telling, run, number, folded, repeated, whole, sized}
use Rattle.kb_classfile.specs.declared.file.PoolEntry.{PoolEntry}
use Rattle.kb_classfile.specs.declared.file.PoolEntry.TheVariants as entries
use Rattle.kb_classfile.specs.declared.file.Code.{Code}
use Rattle.kb_classfile.specs.declared.file.Field.{Field}
use Rattle.kb_classfile.specs.declared.file.Handler.{Handler}
use Rattle.kb_classfile.specs.declared.file.Method.{Method}
use Rattle.kb_classfile.specs.declared.file.ClassFile.{ClassFile}
use Rattle.kb_classfile.specs.declared.class_reader.Head.{Head}
use Rattle.kb_classfile.specs.declared.class_reader.Members.{Members}
use Rattle.kb_classfile.specs.declared.pool.EntryKind.{EntryKind}
use Rattle.kb_classfile.specs.declared.pool.EntryKind.TheVariants as kinds
use Rattle.kb_classfile.specs.declared.pool.Reference.{Reference}
use Rattle.kb_classfile.specs.declared.refusal.ClassRefusal.{ClassRefusal}
use Rattle.kb_classfile.specs.declared.refusal.ClassRefusal.TheVariants as refusals
use Rattle.kb_classfile.specs.Pool.{utf8_in, fault_of, first_fault_of, references_of, is_text}
use Rattle.kb_classfile.specs.Spelling.{is_wide, magic, most_bytes}

-- What a function returned, seen by view, is what reading gives, unless memory ran out.
abbrev pub Fails : {A : Type 0} → ClassRefusal → Result A ClassRefusal → Type 0
Fails refusals.NoMemory read = Unit {0}
Fails refusal read = read ≡ Err refusal

abbrev pub Gives : {X A : Type 0} → (X → A) → Result X ClassRefusal → Result A ClassRefusal → Type 0
Gives view (Ok x) read = read ≡ Ok (view x)
Gives view (Err refusal) read = Fails refusal read

-- the fault of an item that is not whole
abbrev pub short : ℕ → ClassRefusal
short at = refusals.Short at

abbrev pub u1 : Reader ClassRefusal ℕ
u1 = number short 1

abbrev pub u2 : Reader ClassRefusal ℕ
u2 = number short 2

abbrev pub u4 : Reader ClassRefusal ℕ
u4 = number short 4

-- ---- the constant pool

unfoldable pub utf8_entry : Reader ClassRefusal PoolEntry
utf8_entry = do
  n ← u2
  text ← run short n
  done (entries.Utf8 text)

unfoldable pub integer_entry : Reader ClassRefusal PoolEntry
integer_entry = do
  n ← u4
  done (entries.Integer (cast_signed w32 n))

unfoldable pub float_entry : Reader ClassRefusal PoolEntry
float_entry = do
  n ← u4
  done entries.Skipped

unfoldable pub wide_entry : Reader ClassRefusal PoolEntry
wide_entry = do
  bytes ← run short 8
  done entries.Wide

-- an entry of one number, and one of two
unfoldable pub one_index : (ℕ → PoolEntry) → Reader ClassRefusal PoolEntry
one_index make = do
  index ← u2
  done (make index)

unfoldable pub two_indices : (ℕ → ℕ → PoolEntry) → Reader ClassRefusal PoolEntry
two_indices make = do
  first ← u2
  second ← u2
  done (make first second)

unfoldable pub handle_entry : Reader ClassRefusal PoolEntry
handle_entry = do
  reference_kind ← u1
  index ← u2
  done entries.Skipped

-- What stands behind the tag of the entry with the number `number` (JVMS 8 table 4.4-A).
unfoldable pub info : ℕ → ℕ → Reader ClassRefusal PoolEntry
info number tag p =
    if tag == 1 then utf8_entry p else
    (if tag == 3 then integer_entry p else
    (if tag == 4 then float_entry p else
    (if tag == 5 then wide_entry p else
    (if tag == 6 then wide_entry p else
    (if tag == 7 then one_index (λ name. entries.Class name) p else
    (if tag == 8 then one_index (λ text. entries.Str text) p else
    (if tag == 9 then two_indices (λ class member. entries.Field class member) p else
    (if tag == 10 then two_indices (λ class member. entries.Method class member) p else
    (if tag == 11 then two_indices (λ class member. entries.InterfaceMethod class member) p else
    (if tag == 12 then two_indices (λ name kind. entries.NameType name kind) p else
    (if tag == 15 then handle_entry p else
    (if tag == 16 then one_index (λ index. entries.Skipped) p else
    (if tag == 18 then two_indices (λ first second. entries.Skipped) p else
    Err (refusals.Tag number tag))))))))))))))

unfoldable pub entry : ℕ → Reader ClassRefusal PoolEntry
entry number = do
  tag ← u1
  info number tag

-- What was read of the pool: the entries by their numbers, from 0 on, the references in them, in order, and whether the next
-- number is the second one of a Long or Double.
pub record PoolRead : Type 0 where
  pub entries : List PoolEntry
  pub references : List Reference
  pub due : Bool

abbrev pub no_entries : PoolRead
no_entries = record { entries = entries.Skipped ∷ []; references = []; due = false }

-- with one entry more, whose tag has the offset `at`
abbrev pub with_entry : ℕ → PoolRead → PoolEntry → PoolRead
with_entry at pool entry =
    record { entries = pool.entries ++ entry ∷ []; references = pool.references ++ references_of at entry; due = is_wide entry }

abbrev pub with_second : PoolRead → PoolRead
with_second pool = record { entries = pool.entries ++ entries.Second ∷ []; references = pool.references; due = false }

-- the next entry, which has the next number
unfoldable pub next_entry : PoolRead → Reader ClassRefusal PoolRead
next_entry pool = do
  at ← here
  found ← entry (length pool.entries)
  done (with_entry at pool found)

-- the next number
unfoldable pub next_number : PoolRead → Reader ClassRefusal PoolRead
next_number pool p = if pool.due then done (with_second pool) p else next_entry pool p

-- the entries, before their references are looked at
unfoldable pub pool_read : Reader ClassRefusal PoolRead
pool_read = do
  count ← u2
  folded next_number (count - 1) no_entries

abbrev pub pool_fault : ℕ → PoolRead → Option ClassRefusal
pool_fault at pool = first_fault_of pool.entries pool.references

unfoldable pub pool : Reader ClassRefusal (List PoolEntry)
pool = do
  all ← judged pool_fault pool_read
  done all.entries

-- the number of an entry of the kind
abbrev pub index_fault : EntryKind → List PoolEntry → ℕ → ℕ → Option ClassRefusal
index_fault kind all at index = fault_of all (record { at = at; index = index; kind = kind })

unfoldable pub index_of : EntryKind → List PoolEntry → Reader ClassRefusal ℕ
index_of kind all = judged (index_fault kind all) u2

-- ---- attributes

-- the length of a content, and the content, which is not looked at
unfoldable pub content : Reader ClassRefusal (Unit {0})
content = do
  n ← u4
  text ← run short n
  done tt

unfoldable pub skipped_attribute : List PoolEntry → Reader ClassRefusal (Unit {0})
skipped_attribute all = do
  name ← index_of kinds.Text all
  content

unfoldable pub skipped_attributes : List PoolEntry → Reader ClassRefusal (Unit {0})
skipped_attributes all = do
  count ← u2
  folded (λ none. skipped_attribute all) count tt

-- the fault of a length of code; `from` is the offset of the content of the Code attribute
abbrev pub length_fault : ℕ → ℕ → ℕ → Option ClassRefusal
length_fault from at n = if nat_le 1 n && nat_le n 65535 then None else Some (refusals.CodeLength from)

unfoldable pub instructions : ℕ → Reader ClassRefusal (List ℕ)
instructions from = do
  n ← judged (length_fault from) u4
  run short n

-- the fault of the class that a handler catches
abbrev pub catch_fault : List PoolEntry → ℕ → ℕ → Option ClassRefusal
catch_fault all at index = if index == 0 then None else index_fault kinds.Class all at index

unfoldable pub catch : List PoolEntry → Reader ClassRefusal ℕ
catch all = judged (catch_fault all) u2

unfoldable pub handler : List PoolEntry → Reader ClassRefusal Handler
handler all = do
  start ← u2
  end ← u2
  target ← u2
  caught ← catch all
  done (record { start = start; end = end; target = target; catch = caught })

unfoldable pub handlers : List PoolEntry → Reader ClassRefusal (List Handler)
handlers all = do
  count ← u2
  repeated (λ number. handler all) count

-- the content of a Code attribute, which has the offset `from`
unfoldable pub code_content : List PoolEntry → ℕ → Reader ClassRefusal Code
code_content all from = do
  stack ← u2
  locals ← u2
  code ← instructions from
  table ← handlers all
  none ← skipped_attributes all
  done (record { max_stack = stack; max_locals = locals; bytes = code; handlers = table })

-- an item that is not whole in the content that has the offset `from`
abbrev pub in_content : ℕ → ClassRefusal → ClassRefusal
in_content from (refusals.Short at) = refusals.CodeLength from
in_content from refusal = refusal

abbrev pub behind_items : ℕ → ℕ → ClassRefusal
behind_items from at = refusals.CodeLength from

unfoldable pub code : List PoolEntry → Reader ClassRefusal Code
code all = sized short 4 behind_items (λ from. telling (in_content from) (code_content all from))

-- whether the number names the text Code
abbrev pub says_code : List PoolEntry → ℕ → Bool
says_code all index = is_text (codes "Code") (utf8_in all index)

-- the code that a method has behind a Code attribute, of which it may have one
unfoldable pub code_attribute : List PoolEntry → ℕ → Option Code → Reader ClassRefusal (Option Code)
code_attribute all number None = do
  found ← code all
  done (Some found)
code_attribute all number (Some before) = fault (refusals.TwoCodes number)

-- what stands behind the name of an attribute of a method
unfoldable pub named_attribute : List PoolEntry → ℕ → Option Code → ℕ → Reader ClassRefusal (Option Code)
named_attribute all number before name p = if says_code all name then code_attribute all number before p else (content >>= λ none. done before) p

-- the code that a method has behind one attribute more; `number` is that of the method, from 0
unfoldable pub method_attribute : List PoolEntry → ℕ → Option Code → Reader ClassRefusal (Option Code)
method_attribute all number before = do
  name ← index_of kinds.Text all
  named_attribute all number before name

unfoldable pub method_attributes : List PoolEntry → ℕ → Reader ClassRefusal (Option Code)
method_attributes all number = do
  count ← u2
  folded (method_attribute all number) count None

-- ---- members and the class

unfoldable pub field : List PoolEntry → Reader ClassRefusal Field
field all = do
  access ← u2
  name ← index_of kinds.Text all
  kind ← index_of kinds.Text all
  none ← skipped_attributes all
  done (record { access = access; name = name; kind = kind })

unfoldable pub fields : List PoolEntry → Reader ClassRefusal (List Field)
fields all = do
  count ← u2
  repeated (λ number. field all) count

unfoldable pub method : List PoolEntry → ℕ → Reader ClassRefusal Method
method all number = do
  access ← u2
  name ← index_of kinds.Text all
  kind ← index_of kinds.Text all
  code ← method_attributes all number
  done (record { access = access; name = name; kind = kind; code = code })

unfoldable pub methods : List PoolEntry → Reader ClassRefusal (List Method)
methods all = do
  count ← u2
  repeated (method all) count

unfoldable pub interfaces : List PoolEntry → Reader ClassRefusal (List ℕ)
interfaces all = do
  count ← u2
  repeated (λ number. index_of kinds.Class all) count

abbrev pub version_fault : ℕ → ℕ → Option ClassRefusal
version_fault at major = if nat_le 45 major && nat_le major 52 then None else Some (refusals.Version major)

-- the minor version is let go
unfoldable pub version : Reader ClassRefusal ℕ
version = do
  minor ← u2
  judged version_fault u2

-- what stands between the constant pool and the fields
unfoldable pub head : List PoolEntry → Reader ClassRefusal Head
head all = do
  access ← u2
  this ← index_of kinds.Class all
  parent ← index_of kinds.Class all
  above ← interfaces all
  done (record { access = access; this = this; parent = parent; interfaces = above })

-- the fields and methods, and the attributes of the class, which are skipped
unfoldable pub members : List PoolEntry → Reader ClassRefusal Members
members all = do
  data_members ← fields all
  code_members ← methods all
  none ← skipped_attributes all
  done (record { fields = data_members; methods = code_members })

-- the class of its parts
abbrev pub class_with : ℕ → List PoolEntry → Head → Members → ClassFile
class_with major all h m =
    record { major = major; pool = all; access = h.access; this = h.this; parent = h.parent; interfaces = h.interfaces; fields = m.fields; methods = m.methods }

unfoldable pub class_body : Reader ClassRefusal ClassFile
class_body = do
  major ← version
  all ← pool
  about ← head all
  found ← members all
  done (class_with major all about found)

unfoldable pub class_file : Reader ClassRefusal ClassFile
class_file = do
  first ← u4
  guard (first == magic) refusals.Magic class_body

-- bytes behind the last attribute
abbrev pub extra : ℕ → ClassRefusal
extra at = refusals.Extra at

-- The class file that the bytes spell, or their first fault.
unfoldable pub reading : List ℕ → Result ClassFile ClassRefusal
reading bytes = if nat_lt most_bytes (length bytes) then Err refusals.Long else whole extra class_file bytes 0

abbrev pub fault_in : Result ClassFile ClassRefusal → Option ClassRefusal
fault_in (Ok file) = None
fault_in (Err refusal) = Some refusal

-- the first fault of the bytes, if they have one
abbrev pub first_fault : List ℕ → Option ClassRefusal
first_fault bytes = fault_in (reading bytes)
