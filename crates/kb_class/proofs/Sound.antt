-- What holds of a class file that some bytes spell.
use Rattle.std.proofs.Common.{ℕ, ◌+◌, List, [], ◌∷◌, length, Option, Some, None, IfSome, sym, subst}
use Rattle.std.specs.List.{AllByRecursion}
use Rattle.kb_grammar.specs.Grammar.{Piece, Each}
use Rattle.kb_classfile.specs.declared.file.ClassFile.{ClassFile}
use Rattle.kb_classfile.specs.declared.file.Code.{Code}
use Rattle.kb_classfile.specs.declared.file.Method.{Method as ClassMethod}
use Rattle.kb_classfile.specs.declared.file.PoolEntry.{PoolEntry}
use Rattle.kb_classfile.specs.declared.pool.EntryKind.TheVariants as kinds
use Rattle.kb_classfile.specs.Pool.{NamesEntry}
use Rattle.kb_classfile.specs.Spelling.{SpellsMethodAttribute, SpellsMethod, SpellsIndex, HaveCode, Spells}
use Rattle.kb_class.specs.Tables.{HasSize, IsSound}

-- what follows for each of the items that are spelled
each_all : {A : Type 0} (S : A → Piece) (P : A → Type 0) → ((x : A) (at : ℕ) (bytes : List ℕ) → S x at bytes → P x) → (xs : List A) (at : ℕ) (bytes : List ℕ) → Each S xs at bytes → AllByRecursion P xs
each_all S P follows [] at bytes s = tt
each_all S P follows (x ∷ xs) at bytes s = (follows x at s.front s.begins, each_all S P follows xs (at + length s.front) s.back s.ends)

code_size : (pool : List PoolEntry) (code : Option Code) (at : ℕ) (bytes : List ℕ) → SpellsMethodAttribute pool code at bytes → IfSome code HasSize
code_size pool None at bytes s = tt
code_size pool (Some code) at bytes s = (s.ends.spelled.ends.ends.begins.some, s.ends.spelled.ends.ends.begins.most)

one_size : (attributes : List (Option Code)) (code : Option Code) → AllByRecursion (λ (c : Option Code). IfSome c HasSize) attributes → HaveCode attributes code → IfSome code HasSize
one_size [] code all has = subst (λ (c : Option Code). IfSome c HasSize) (sym has) tt
one_size (None ∷ attributes) code all has = one_size attributes code all.1 has
one_size (Some found ∷ attributes) code all has = subst (λ (c : Option Code). IfSome c HasSize) (sym has.0) all.0

method_size : (pool : List PoolEntry) (method : ClassMethod) (at : ℕ) (bytes : List ℕ) → SpellsMethod pool method at bytes → IfSome method.code HasSize
method_size pool method at bytes s =
    let attributes = s.ends.ends.ends in
    one_size attributes.attributes method.code
    (each_all (SpellsMethodAttribute pool) (λ (c : Option Code). IfSome c HasSize) (code_size pool) attributes.attributes _ attributes.items.back attributes.items.ends)
    attributes.has_code

pub spelled_sound : (file : ClassFile) (bytes : List ℕ) → Spells file bytes → IsSound file
spelled_sound file bytes s =
    let pool = s.ends.ends.begins in
    let own = s.ends.ends.ends.ends in
    let above = own.ends in
    let interfaces = above.ends.begins in
    let methods = above.ends.ends.ends.begins in
    record {
      references = pool.references;
      own = own.begins.0;
      above = above.begins.0;
      interfaces_are = each_all (SpellsIndex kinds.Class file.pool) (NamesEntry kinds.Class file.pool) (λ index at piece spelled. spelled.0) file.interfaces _ interfaces.back interfaces.ends;
      sizes = each_all (SpellsMethod file.pool) (λ (method : ClassMethod). IfSome method.code HasSize) (method_size file.pool) file.methods _ methods.back methods.ends;
    }
