use Rattle.std.proofs.Common.{◌≡◌, ◌↔◌, ℕ, List, map, Some, slice_get}
use Rattle.kb_classfile.specs.Pool.{utf8_in}
use Rattle.kb_class.specs.Class.{TextEntry}
use Rattle.kb_class.specs.Naming.{Has}
use Rattle.kb_class.specs.Loaded.{entry_told}
use Rattle.kb_class.specs.Tables.{literal_numbers, SpellsItself, IsTable}
use Rattle.kb_class.proofs.LiteralLaws.{literals_told, literal_at, answered_so}
use Rattle.kb_class.proofs.loaded.LoadedClass.literals.Goals as goal

pub returns-in-File-clause-texts : goal.returns-in-File-clause-texts
returns-in-File-clause-texts c =
    let pool = c.in-File.file.pool in
    let types = c.self.inside.types in
    let kinds = c.self.inside.kinds in
    rw (← c.self.view_is, c.in-File.is)
    (answered_so c.literals_of.result (IsTable SpellsItself pool (literal_numbers pool)) (λ texts. (text : List ℕ) → Has texts (Some text) ↔ Has (map (entry_told pool types kinds) pool) (TextEntry text))
    (rw c.get.ensures at c.literals_of.ensures) (λ texts told. literals_told pool texts told types kinds))

pub returns-in-File-clause-once : goal.returns-in-File-clause-once
returns-in-File-clause-once c =
    let pool = c.in-File.file.pool in
    rw (← c.self.view_is, c.in-File.is)
    (answered_so c.literals_of.result (IsTable SpellsItself pool (literal_numbers pool)) (λ texts. (number : ℕ) (text : List ℕ) → slice_get texts number ≡ Some (Some text) → utf8_in pool number ≡ Some text)
    (rw c.get.ensures at c.literals_of.ensures) (λ texts told. literal_at pool texts told))
