-- Which faults the items of a class file have.
use Rattle.std.proofs.Common.{if◌then◌else◌, ◌≡◌, ℕ, ◌-◌, Bool, true, false, ◌&&◌, leb, eqb, cond, List, [], ◌∷◌, length, Option, Some, None, Result, Err, refl, subst}
use Rattle.kb_grammar.specs.Reading.{Place, Reader, ◌>>=◌, done, run, judged, telling}
use Rattle.kb_grammar.specs.Grammar.{Faults}
use Rattle.kb_grammar.proofs.FaultLaws.{done_faults, fault_faults, bind_faults, here_faults, if_faults, judged_faults, telling_faults, folded_faults, repeated_faults, run_faults, number_faults, sized_faults}
use Rattle.kb_classfile.specs.declared.file.PoolEntry.{PoolEntry}
use Rattle.kb_classfile.specs.declared.file.PoolEntry.TheVariants as entries
use Rattle.kb_classfile.specs.declared.file.Code.{Code}
use Rattle.kb_classfile.specs.declared.file.ClassFile.{ClassFile}
use Rattle.kb_classfile.specs.declared.pool.EntryKind.{EntryKind}
use Rattle.kb_classfile.specs.declared.pool.EntryKind.TheVariants as kinds
use Rattle.kb_classfile.specs.declared.pool.Reference.{Reference}
use Rattle.kb_classfile.specs.declared.refusal.ClassRefusal.{ClassRefusal}
use Rattle.kb_classfile.specs.declared.refusal.ClassRefusal.TheVariants as refusals
use Rattle.kb_classfile.specs.Pool.{entry_at, is_of_kind, fault_at, fault_of, fault_or, first_fault_of}
use Rattle.kb_classfile.specs.Reading.{short, u1, u2, u4, utf8_entry, integer_entry, float_entry, wide_entry, one_index, two_indices, handle_entry, info, entry, PoolRead, no_entries, with_entry, with_second, next_entry, next_number, pool_read, pool_fault, pool, index_fault, index_of, content, skipped_attribute, skipped_attributes, length_fault, instructions, catch_fault, catch, handler, handlers, code_content, in_content, behind_items, code, says_code, code_attribute, named_attribute, method_attribute, method_attributes, field, fields, method, methods, interfaces, head, members, class_with}

-- the faults of what stands behind the version
abbrev pub IsInner : ClassRefusal → Type 0
IsInner (refusals.Short at) = Unit {0}
IsInner (refusals.Tag number tag) = Unit {0}
IsInner (refusals.PoolIndex at index) = Unit {0}
IsInner (refusals.PoolKind at index) = Unit {0}
IsInner (refusals.CodeLength at) = Unit {0}
IsInner (refusals.TwoCodes number) = Unit {0}
IsInner _ = ⊥

abbrev Inner : {A : Type 0} → Reader ClassRefusal A → Type 0
Inner r = Faults IsInner r

is_inner : (d e : ClassRefusal) → Some d ≡ Some e → IsInner d → IsInner e
is_inner d e h known = let same : d ≡ e = cc in subst IsInner same known

u1_inner : Inner u1
u1_inner = number_faults IsInner short (λ at. tt) 1

u2_inner : Inner u2
u2_inner = number_faults IsInner short (λ at. tt) 2

u4_inner : Inner u4
u4_inner = number_faults IsInner short (λ at. tt) 4

run_inner : (n : ℕ) → Inner (run short n)
run_inner n = run_faults IsInner short (λ at. tt) n

u2_then : {A : Type 0} (f : ℕ → Reader ClassRefusal A) → ((n : ℕ) → Inner (f n)) → Inner (u2 >>= f)
u2_then f next = bind_faults IsInner u2 f u2_inner next

-- ---- entries

utf8_entry_inner : Inner utf8_entry
unfolding utf8_entry
utf8_entry_inner = u2_then _ (λ n. bind_faults IsInner (run short n) _ (run_inner n) (λ text. done_faults IsInner _))

integer_entry_inner : Inner integer_entry
unfolding integer_entry
integer_entry_inner = bind_faults IsInner u4 _ u4_inner (λ n. done_faults IsInner _)

float_entry_inner : Inner float_entry
unfolding float_entry
float_entry_inner = bind_faults IsInner u4 _ u4_inner (λ n. done_faults IsInner _)

wide_entry_inner : Inner wide_entry
unfolding wide_entry
wide_entry_inner = bind_faults IsInner (run short 8) _ (run_inner 8) (λ text. done_faults IsInner _)

one_index_inner : (make : ℕ → PoolEntry) → Inner (one_index make)
unfolding one_index
one_index_inner make = u2_then _ (λ index. done_faults IsInner _)

two_indices_inner : (make : ℕ → ℕ → PoolEntry) → Inner (two_indices make)
unfolding two_indices
two_indices_inner make = u2_then _ (λ first. u2_then _ (λ second. done_faults IsInner _))

handle_entry_inner : Inner handle_entry
unfolding handle_entry
handle_entry_inner = bind_faults IsInner u1 _ u1_inner (λ kind. u2_then _ (λ index. done_faults IsInner _))

info_inner : (number tag : ℕ) → Inner (info number tag)
unfolding info
info_inner number tag p e h = go (eqb tag 1) (eqb tag 3) (eqb tag 4) (eqb tag 5) (eqb tag 6) (eqb tag 7) (eqb tag 8) (eqb tag 9) (eqb tag 10) (eqb tag 11) (eqb tag 12) (eqb tag 15) (eqb tag 16) (eqb tag 18) h where
  go : (b1 : Bool) (b3 : Bool) (b4 : Bool) (b5 : Bool) (b6 : Bool) (b7 : Bool) (b8 : Bool) (b9 : Bool) (b10 : Bool) (b11 : Bool) (b12 : Bool) (b15 : Bool) (b16 : Bool) (b18 : Bool)
      → (let read : Result (PoolEntry × Place) ClassRefusal = (if b1 then utf8_entry p else (if b3 then integer_entry p else (if b4 then float_entry p else (if b5 then wide_entry p else (if b6 then wide_entry p else (if b7 then one_index (λ name. entries.Class name) p else (if b8 then one_index (λ text. entries.Str text) p else (if b9 then two_indices (λ class member. entries.Field class member) p else (if b10 then two_indices (λ class member. entries.Method class member) p else (if b11 then two_indices (λ class member. entries.InterfaceMethod class member) p else (if b12 then two_indices (λ name kind. entries.NameType name kind) p else (if b15 then handle_entry p else (if b16 then one_index (λ index. entries.Skipped) p else (if b18 then two_indices (λ first second. entries.Skipped) p else Err (refusals.Tag number tag))))))))))))))) in read ≡ Err e) → IsInner e
  go true b3 b4 b5 b6 b7 b8 b9 b10 b11 b12 b15 b16 b18 h = utf8_entry_inner p e h
  go false true b4 b5 b6 b7 b8 b9 b10 b11 b12 b15 b16 b18 h = integer_entry_inner p e h
  go false false true b5 b6 b7 b8 b9 b10 b11 b12 b15 b16 b18 h = float_entry_inner p e h
  go false false false true b6 b7 b8 b9 b10 b11 b12 b15 b16 b18 h = wide_entry_inner p e h
  go false false false false true b7 b8 b9 b10 b11 b12 b15 b16 b18 h = wide_entry_inner p e h
  go false false false false false true b8 b9 b10 b11 b12 b15 b16 b18 h = one_index_inner (λ name. entries.Class name) p e h
  go false false false false false false true b9 b10 b11 b12 b15 b16 b18 h = one_index_inner (λ text. entries.Str text) p e h
  go false false false false false false false true b10 b11 b12 b15 b16 b18 h = two_indices_inner (λ class member. entries.Field class member) p e h
  go false false false false false false false false true b11 b12 b15 b16 b18 h = two_indices_inner (λ class member. entries.Method class member) p e h
  go false false false false false false false false false true b12 b15 b16 b18 h = two_indices_inner (λ class member. entries.InterfaceMethod class member) p e h
  go false false false false false false false false false false true b15 b16 b18 h = two_indices_inner (λ name kind. entries.NameType name kind) p e h
  go false false false false false false false false false false false true b16 b18 h = handle_entry_inner p e h
  go false false false false false false false false false false false false true b18 h = one_index_inner (λ index. entries.Skipped) p e h
  go false false false false false false false false false false false false false true h = two_indices_inner (λ first second. entries.Skipped) p e h
  go false false false false false false false false false false false false false false h = let same : refusals.Tag number tag ≡ e = cc in subst IsInner same tt

entry_inner : (number : ℕ) → Inner (entry number)
unfolding entry
entry_inner number = bind_faults IsInner u1 (info number) u1_inner (info_inner number)

-- ---- the pool

next_number_inner : (x : PoolRead) → Inner (next_number x)
unfolding next_number next_entry
next_number_inner x =
    if_faults IsInner x.due (done (with_second x)) (next_entry x) (done_faults IsInner (with_second x))
    (here_faults IsInner (λ at. entry (length x.entries) >>= λ found. done (with_entry at x found))
    (λ at. bind_faults IsInner (entry (length x.entries)) _ (entry_inner (length x.entries)) (λ found. done_faults IsInner _)))

fault_of_inner : (all : List PoolEntry) (r : Reference) (e : ClassRefusal) → fault_of all r ≡ Some e → IsInner e
fault_of_inner all r e h = go (entry_at all r.index) h where
  go : (found : Option PoolEntry) → fault_at r found ≡ Some e → IsInner e
  go None h = is_inner (refusals.PoolIndex r.at r.index) e h tt
  go (Some x) h = of (is_of_kind r.kind x) h where
    of : (b : Bool) → cond b None (Some (refusals.PoolKind r.at r.index)) ≡ Some e → IsInner e
    of true h = absurd cc
    of false h = is_inner (refusals.PoolKind r.at r.index) e h tt

first_fault_inner : (all : List PoolEntry) (rs : List Reference) (e : ClassRefusal) → first_fault_of all rs ≡ Some e → IsInner e
first_fault_inner all [] e h = absurd cc
first_fault_inner all (r ∷ rs) e h = go (λ k. first_fault_inner all rs e k) (fault_of all r) refl h where
  go : (first_fault_of all rs ≡ Some e → IsInner e) → (found : Option ClassRefusal) → fault_of all r ≡ found → fault_or found (first_fault_of all rs) ≡ Some e → IsInner e
  go more None is h = more h
  go more (Some d) is h = is_inner d e h (fault_of_inner all r d is)

pool_inner : Inner pool
unfolding pool pool_read
pool_inner =
    bind_faults IsInner (judged pool_fault pool_read) _
    (judged_faults IsInner pool_fault pool_read (u2_then _ (λ count. folded_faults IsInner next_number next_number_inner (count - 1) no_entries))
    (λ at y d h. first_fault_inner y.entries y.references d h))
    (λ y. done_faults IsInner _)

index_inner : (kind : EntryKind) (all : List PoolEntry) → Inner (index_of kind all)
unfolding index_of
index_inner kind all = judged_faults IsInner (index_fault kind all) u2 u2_inner (λ at index d h. fault_of_inner all (record { at = at; index = index; kind = kind }) d h)

-- ---- attributes and code

content_inner : Inner content
unfolding content
content_inner = bind_faults IsInner u4 _ u4_inner (λ n. bind_faults IsInner (run short n) _ (run_inner n) (λ text. done_faults IsInner _))

attributes_inner : (all : List PoolEntry) → Inner (skipped_attributes all)
unfolding skipped_attributes skipped_attribute
attributes_inner all =
    u2_then _ (λ count. folded_faults IsInner (λ none. skipped_attribute all)
    (λ none. bind_faults IsInner (index_of kinds.Text all) _ (index_inner kinds.Text all) (λ name. content_inner)) count tt)

given_fault_inner : (b : Bool) (d e : ClassRefusal) → cond b None (Some d) ≡ Some e → IsInner d → IsInner e
given_fault_inner true d e h known = absurd cc
given_fault_inner false d e h known = is_inner d e h known

instructions_inner : (from : ℕ) → Inner (instructions from)
unfolding instructions
instructions_inner from =
    bind_faults IsInner (judged (length_fault from) u4) _
    (judged_faults IsInner (length_fault from) u4 u4_inner (λ at n d h. given_fault_inner (leb 1 n && leb n 65535) (refusals.CodeLength from) d h tt))
    (λ n. run_inner n)

catch_fault_inner : (all : List PoolEntry) (at index : ℕ) (d : ClassRefusal) → catch_fault all at index ≡ Some d → IsInner d
catch_fault_inner all at index d h = go (eqb index 0) h where
  go : (b : Bool) → cond b None (index_fault kinds.Class all at index) ≡ Some d → IsInner d
  go true h = absurd cc
  go false h = fault_of_inner all (record { at = at; index = index; kind = kinds.Class }) d h

catch_inner : (all : List PoolEntry) → Inner (catch all)
unfolding catch
catch_inner all = judged_faults IsInner (catch_fault all) u2 u2_inner (catch_fault_inner all)

handlers_inner : (all : List PoolEntry) → Inner (handlers all)
unfolding handlers handler
handlers_inner all =
    u2_then _ (λ count. repeated_faults IsInner (λ number. handler all)
    (λ number. u2_then _ (λ start. u2_then _ (λ end. u2_then _ (λ target.
    bind_faults IsInner (catch all) _ (catch_inner all) (λ caught. done_faults IsInner _))))) count)

code_content_inner : (all : List PoolEntry) (from : ℕ) → Inner (code_content all from)
unfolding code_content
code_content_inner all from =
    u2_then _ (λ stack. u2_then _ (λ locals. bind_faults IsInner (instructions from) _ (instructions_inner from)
    (λ code. bind_faults IsInner (handlers all) _ (handlers_inner all) (λ table. bind_faults IsInner (skipped_attributes all) _ (attributes_inner all) (λ none. done_faults IsInner _)))))

told_inner : (from : ℕ) (e : ClassRefusal) → IsInner e → IsInner (in_content from e)
told_inner from (refusals.Short at) i = tt
told_inner from e i = i

code_inner : (all : List PoolEntry) → Inner (code all)
unfolding code
code_inner all =
    sized_faults IsInner short 4 behind_items (λ from. telling (in_content from) (code_content all from)) (λ at. tt) (λ from at. tt)
    (λ from. telling_faults IsInner IsInner (in_content from) (code_content all from) (code_content_inner all from) (told_inner from))

code_attribute_inner : (all : List PoolEntry) (number : ℕ) (x : Option Code) → Inner (code_attribute all number x)
unfolding code_attribute
code_attribute_inner all number None = bind_faults IsInner (code all) _ (code_inner all) (λ found. done_faults IsInner _)
code_attribute_inner all number (Some before) = fault_faults IsInner (refusals.TwoCodes number) tt

method_attributes_inner : (all : List PoolEntry) (number : ℕ) → Inner (method_attributes all number)
unfolding method_attributes method_attribute named_attribute
method_attributes_inner all number =
    u2_then _ (λ count. folded_faults IsInner (method_attribute all number)
    (λ x. bind_faults IsInner (index_of kinds.Text all) (named_attribute all number x) (index_inner kinds.Text all)
    (λ name. if_faults IsInner (says_code all name) (code_attribute all number x) (content >>= λ none. done x) (code_attribute_inner all number x)
    (bind_faults IsInner content _ content_inner (λ none. done_faults IsInner _)))) count None)

-- ---- members and the class

fields_inner : (all : List PoolEntry) → Inner (fields all)
unfolding fields field
fields_inner all =
    u2_then _ (λ count. repeated_faults IsInner (λ number. field all)
    (λ number. u2_then _ (λ access. bind_faults IsInner (index_of kinds.Text all) _ (index_inner kinds.Text all) (λ name. bind_faults IsInner (index_of kinds.Text all) _ (index_inner kinds.Text all)
    (λ kind. bind_faults IsInner (skipped_attributes all) _ (attributes_inner all) (λ none. done_faults IsInner _))))) count)

methods_inner : (all : List PoolEntry) → Inner (methods all)
unfolding methods method
methods_inner all =
    u2_then _ (λ count. repeated_faults IsInner (method all)
    (λ number. u2_then _ (λ access. bind_faults IsInner (index_of kinds.Text all) _ (index_inner kinds.Text all) (λ name. bind_faults IsInner (index_of kinds.Text all) _ (index_inner kinds.Text all)
    (λ kind. bind_faults IsInner (method_attributes all number) _ (method_attributes_inner all number) (λ code. done_faults IsInner _))))) count)

interfaces_inner : (all : List PoolEntry) → Inner (interfaces all)
unfolding interfaces
interfaces_inner all = u2_then _ (λ count. repeated_faults IsInner (λ number. index_of kinds.Class all) (λ number. index_inner kinds.Class all) count)

head_inner : (all : List PoolEntry) → Inner (head all)
unfolding head
head_inner all =
    u2_then _ (λ access. bind_faults IsInner (index_of kinds.Class all) _ (index_inner kinds.Class all) (λ this. bind_faults IsInner (index_of kinds.Class all) _ (index_inner kinds.Class all)
    (λ parent. bind_faults IsInner (interfaces all) _ (interfaces_inner all) (λ above. done_faults IsInner _))))

members_inner : (all : List PoolEntry) → Inner (members all)
unfolding members
members_inner all =
    bind_faults IsInner (fields all) _ (fields_inner all) (λ data_members. bind_faults IsInner (methods all) _ (methods_inner all)
    (λ code_members. bind_faults IsInner (skipped_attributes all) _ (attributes_inner all) (λ none. done_faults IsInner _)))

-- what stands behind the version
abbrev pub behind_version : ℕ → Reader ClassRefusal ClassFile
behind_version major = pool >>= λ all. head all >>= λ about. members all >>= λ found. done (class_with major all about found)

pub behind_version_inner : (major : ℕ) → Inner (behind_version major)
behind_version_inner major =
    bind_faults IsInner pool _ pool_inner (λ all. bind_faults IsInner (head all) _ (head_inner all)
    (λ about. bind_faults IsInner (members all) _ (members_inner all) (λ found. done_faults IsInner _)))
