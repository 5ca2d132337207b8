-- The reader is exact for the grammar: members and the class.
use Rattle.std.proofs.Common.{◌≡◌, ◌∙◌, ℕ, ◌≤◌, ◌++◌, ◌&&◌, leb, List, None, Result, Ok, Err, refl, subst, sym}
use Rattle.std.proofs.lemmas.Bool.{le-leb, leb-true}
use Rattle.kb_grammar.specs.Reading.{Place, Reader, follow, ◌>>=◌, done, judged}
use Rattle.kb_grammar.specs.Grammar.{Piece, ◌⊳◌, IsAny, IsCut, Exact}
use Rattle.kb_grammar.proofs.Laws.{exact_same, skip_exact, judged_exact, first_exact, field_exact, last_exact, end_exact, counted_exact, expect_exact, with_unit, without_unit}
use Rattle.kb_classfile.specs.declared.file.PoolEntry.{PoolEntry}
use Rattle.kb_classfile.specs.declared.file.ClassFile.{ClassFile}
use Rattle.kb_classfile.specs.declared.class_reader.Head.{Head}
use Rattle.kb_classfile.specs.declared.class_reader.Members.{Members}
use Rattle.kb_classfile.specs.declared.pool.EntryKind.TheVariants as kinds
use Rattle.kb_classfile.specs.declared.refusal.ClassRefusal.{ClassRefusal}
use Rattle.kb_classfile.specs.declared.refusal.ClassRefusal.TheVariants as refusals
use Rattle.kb_classfile.specs.Spelling.{IsU2, IsU4, SpellsTable, SpellsIndex, SpellsPool, SpellsAttributes, SpellsMethodAttributes, SpellsField, SpellsMethod, SpellsVersion, SpellsClass, magic}
use Rattle.kb_classfile.specs.Reading.{short, u2, u4, index_of, skipped_attributes, method_attributes, field, fields, method, methods, interfaces, version, version_fault, pool, head, members, class_with, class_body, class_file}
use Rattle.kb_classfile.proofs.EntryLaws.{u2_exact, u4_exact}
use Rattle.kb_classfile.proofs.PoolLaws.{index_exact, pool_exact}
use Rattle.kb_classfile.proofs.CodeLaws.{attributes_exact, method_attributes_exact, both, no_fault}

field_reads : (all : List PoolEntry) → Exact short (field all) (SpellsField all)
unfolding field
field_reads all =
    first_exact short u2 _ (λ y. y.access) IsU2 (λ y. SpellsIndex kinds.Text all y.name ⊳ SpellsIndex kinds.Text all y.kind ⊳ SpellsAttributes all) u2_exact
    (λ access. field_exact short (index_of kinds.Text all) _ (λ y. y.name) (SpellsIndex kinds.Text all) (λ y. y.access ≡ access) (λ y. SpellsIndex kinds.Text all y.kind ⊳ SpellsAttributes all) (index_exact kinds.Text all)
    (λ name. field_exact short (index_of kinds.Text all) _ (λ y. y.kind) (SpellsIndex kinds.Text all) (λ y. (y.access ≡ access) × (y.name ≡ name)) (λ y. SpellsAttributes all) (index_exact kinds.Text all)
    (λ kind. end_exact short (skipped_attributes all) tt (record { access = access; name = name; kind = kind }) (SpellsAttributes all)
    (λ y. ((y.access ≡ access) × (y.name ≡ name)) × (y.kind ≡ kind)) (attributes_exact all) (λ y k. rw (← k.0.0, ← k.0.1, ← k.1) refl) ((refl, refl), refl))))

fields_exact : (all : List PoolEntry) → Exact short (fields all) (SpellsTable (SpellsField all))
unfolding fields
fields_exact all = counted_exact short u2 (λ number. field all) IsU2 (SpellsField all) u2_exact (λ number. field_reads all)

method_exact : (all : List PoolEntry) (number : ℕ) → Exact short (method all number) (SpellsMethod all)
unfolding method
method_exact all number =
    first_exact short u2 _ (λ y. y.access) IsU2 (λ y. SpellsIndex kinds.Text all y.name ⊳ SpellsIndex kinds.Text all y.kind ⊳ SpellsMethodAttributes all y.code) u2_exact
    (λ access. field_exact short (index_of kinds.Text all) _ (λ y. y.name) (SpellsIndex kinds.Text all) (λ y. y.access ≡ access) (λ y. SpellsIndex kinds.Text all y.kind ⊳ SpellsMethodAttributes all y.code) (index_exact kinds.Text all)
    (λ name. field_exact short (index_of kinds.Text all) _ (λ y. y.kind) (SpellsIndex kinds.Text all) (λ y. (y.access ≡ access) × (y.name ≡ name)) (λ y. SpellsMethodAttributes all y.code) (index_exact kinds.Text all)
    (λ kind. last_exact short (method_attributes all number) (λ code. record { access = access; name = name; kind = kind; code = code }) (λ y. y.code) (SpellsMethodAttributes all)
    (λ y. ((y.access ≡ access) × (y.name ≡ name)) × (y.kind ≡ kind)) (method_attributes_exact all number) (λ y code k e. rw (← k.0.0, ← k.0.1, ← k.1, ← e) refl) (λ code. (((refl, refl), refl), refl)))))

methods_exact : (all : List PoolEntry) → Exact short (methods all) (SpellsTable (SpellsMethod all))
unfolding methods
methods_exact all = counted_exact short u2 (method all) IsU2 (SpellsMethod all) u2_exact (method_exact all)

interfaces_exact : (all : List PoolEntry) → Exact short (interfaces all) (SpellsTable (SpellsIndex kinds.Class all))
unfolding interfaces
interfaces_exact all = counted_exact short u2 (λ number. index_of kinds.Class all) IsU2 (SpellsIndex kinds.Class all) u2_exact (λ number. index_exact kinds.Class all)

-- ---- the class

abbrev CanBeMajor : ℕ → Type 0
CanBeMajor major = (45 ≤ major) × (major ≤ 52)

pub version_passes : (at major : ℕ) → version_fault at major ≡ None → CanBeMajor major
version_passes at major h =
    let b = both (leb 45 major) (leb major 52) (no_fault (leb 45 major && leb major 52) (refusals.Version major) h) in
    (leb-true 45 major b.0, leb-true major 52 b.1)

passes_version : (at major : ℕ) → CanBeMajor major → version_fault at major ≡ None
passes_version at major c = rw (le-leb 45 major c.0, le-leb major 52 c.1) refl

version_exact : Exact short version SpellsVersion
unfolding version
version_exact =
    exact_same short (u2 >>= λ minor. judged version_fault u2) (λ major at bytes. Unit {0} × (IsAny IsU2 ⊳ (λ o back. CanBeMajor major × IsU2 major o back)) at bytes) SpellsVersion
    (skip_exact short u2 (judged version_fault u2) IsU2 (λ major. Unit {0}) (λ major o back. CanBeMajor major × IsU2 major o back) u2_exact
    (with_unit short (judged version_fault u2) (λ major o back. CanBeMajor major × IsU2 major o back) (judged_exact short version_fault u2 IsU2 CanBeMajor u2_exact version_passes passes_version)))
    (λ major at bytes s. let j = s.1 in record { least = j.ends.0.0; most = j.ends.0.1; items = record { front = j.front; back = j.back; parts = j.parts; begins = j.begins; ends = j.ends.1 } })
    (λ major at bytes s. let j = s.items in (tt, record { front = j.front; back = j.back; parts = j.parts; begins = j.begins; ends = ((s.least, s.most), j.ends) }))

-- what stands behind the constant pool
abbrev AfterPool : List PoolEntry → ClassFile → Piece
AfterPool all y =
    IsU2 y.access ⊳ SpellsIndex kinds.Class all y.this ⊳ SpellsIndex kinds.Class all y.parent ⊳ SpellsTable (SpellsIndex kinds.Class all) y.interfaces
    ⊳ SpellsTable (SpellsField all) y.fields ⊳ SpellsTable (SpellsMethod all) y.methods ⊳ SpellsAttributes all

abbrev Body : ClassFile → Piece
Body y = SpellsVersion y.major ⊳ SpellsPool y.pool ⊳ AfterPool y.pool y

-- the same, read item by item
abbrev after_pool : ℕ → List PoolEntry → Reader ClassRefusal ClassFile
after_pool major all =
    u2 >>= λ access. index_of kinds.Class all >>= λ this. index_of kinds.Class all >>= λ parent. interfaces all >>= λ above. fields all >>= λ data_members. methods all >>= λ code_members. skipped_attributes all >>= λ none.
    done (record { major = major; pool = all; access = access; this = this; parent = parent; interfaces = above; fields = data_members; methods = code_members })

item_by_item_exact : (major : ℕ) (all : List PoolEntry)
    → Exact short (after_pool major all)
    (λ y at bytes. ((y.major ≡ major) × (y.pool ≡ all)) × AfterPool all y at bytes)
item_by_item_exact major all =
    field_exact short u2 _ (λ y. y.access) IsU2 (λ y. (y.major ≡ major) × (y.pool ≡ all)) (λ y. SpellsIndex kinds.Class all y.this ⊳ SpellsIndex kinds.Class all y.parent ⊳ SpellsTable (SpellsIndex kinds.Class all) y.interfaces ⊳ SpellsTable (SpellsField all) y.fields ⊳ SpellsTable (SpellsMethod all) y.methods ⊳ SpellsAttributes all) u2_exact
    (λ access. field_exact short (index_of kinds.Class all) _ (λ y. y.this) (SpellsIndex kinds.Class all) (λ y. ((y.major ≡ major) × (y.pool ≡ all)) × (y.access ≡ access)) (λ y. SpellsIndex kinds.Class all y.parent ⊳ SpellsTable (SpellsIndex kinds.Class all) y.interfaces ⊳ SpellsTable (SpellsField all) y.fields ⊳ SpellsTable (SpellsMethod all) y.methods ⊳ SpellsAttributes all) (index_exact kinds.Class all)
    (λ this. field_exact short (index_of kinds.Class all) _ (λ y. y.parent) (SpellsIndex kinds.Class all) (λ y. (((y.major ≡ major) × (y.pool ≡ all)) × (y.access ≡ access)) × (y.this ≡ this)) (λ y. SpellsTable (SpellsIndex kinds.Class all) y.interfaces ⊳ SpellsTable (SpellsField all) y.fields ⊳ SpellsTable (SpellsMethod all) y.methods ⊳ SpellsAttributes all) (index_exact kinds.Class all)
    (λ parent. field_exact short (interfaces all) _ (λ y. y.interfaces) (SpellsTable (SpellsIndex kinds.Class all)) (λ y. ((((y.major ≡ major) × (y.pool ≡ all)) × (y.access ≡ access)) × (y.this ≡ this)) × (y.parent ≡ parent)) (λ y. SpellsTable (SpellsField all) y.fields ⊳ SpellsTable (SpellsMethod all) y.methods ⊳ SpellsAttributes all) (interfaces_exact all)
    (λ above. field_exact short (fields all) _ (λ y. y.fields) (SpellsTable (SpellsField all)) (λ y. (((((y.major ≡ major) × (y.pool ≡ all)) × (y.access ≡ access)) × (y.this ≡ this)) × (y.parent ≡ parent)) × (y.interfaces ≡ above)) (λ y. SpellsTable (SpellsMethod all) y.methods ⊳ SpellsAttributes all) (fields_exact all)
    (λ data_members. field_exact short (methods all) _ (λ y. y.methods) (SpellsTable (SpellsMethod all)) (λ y. ((((((y.major ≡ major) × (y.pool ≡ all)) × (y.access ≡ access)) × (y.this ≡ this)) × (y.parent ≡ parent)) × (y.interfaces ≡ above)) × (y.fields ≡ data_members)) (λ y. SpellsAttributes all) (methods_exact all)
    (λ code_members. end_exact short (skipped_attributes all) tt (record { major = major; pool = all; access = access; this = this; parent = parent; interfaces = above; fields = data_members; methods = code_members }) (SpellsAttributes all)
    (λ y. (((((((y.major ≡ major) × (y.pool ≡ all)) × (y.access ≡ access)) × (y.this ≡ this)) × (y.parent ≡ parent)) × (y.interfaces ≡ above)) × (y.fields ≡ data_members)) × (y.methods ≡ code_members)) (attributes_exact all)
    (λ y k. rw (← k.0.0.0.0.0.0.0, ← k.0.0.0.0.0.0.1, ← k.0.0.0.0.0.1, ← k.0.0.0.0.1, ← k.0.0.0.1, ← k.0.0.1, ← k.0.1, ← k.1) refl) (((((((refl, refl), refl), refl), refl), refl), refl), refl)))))))

-- two readers, of which the second begins as one reader or as two
again : {E A B C : Type 0} (r : Result (A × Place) E) (f : A → Reader E B) (g : B → Reader E C) (k : A → Reader E C)
    → ((x : A) (p : Place) → k x p ≡ (f x >>= g) p) → follow r k ≡ follow (follow r f) g
again (Ok x) f g k same = same x.0 x.1
again (Err e) f g k same = refl

head_then : (all : List PoolEntry) (g : Head → Reader ClassRefusal ClassFile) (p : Place)
    → (u2 >>= λ access. index_of kinds.Class all >>= λ this. index_of kinds.Class all >>= λ parent. interfaces all >>= λ above.
    g (record { access = access; this = this; parent = parent; interfaces = above })) p ≡ (head all >>= g) p
unfolding head
head_then all g p =
    again (u2 p) _ g _ (λ access m. again (index_of kinds.Class all m) _ g _ (λ this m. again (index_of kinds.Class all m) _ g _
    (λ parent m. again (interfaces all m) (λ above. done (record { access = access; this = this; parent = parent; interfaces = above })) g _ (λ above m. refl))))

members_then : (all : List PoolEntry) (g : Members → Reader ClassRefusal ClassFile) (p : Place)
    → (fields all >>= λ data_members. methods all >>= λ code_members. skipped_attributes all >>= λ none.
    g (record { fields = data_members; methods = code_members })) p ≡ (members all >>= g) p
unfolding members
members_then all g p =
    again (fields all p) _ g _ (λ data_members m. again (methods all m) _ g _
    (λ code_members m. again (skipped_attributes all m) (λ none. done (record { fields = data_members; methods = code_members })) g _ (λ none m. refl)))

-- two readers that go on in the same way
goes_on : {E A B : Type 0} (r : Result (A × Place) E) (f g : A → Reader E B) → ((x : A) (p : Place) → f x p ≡ g x p) → follow r f ≡ follow r g
goes_on (Ok x) f g same = same x.0 x.1
goes_on (Err e) f g same = refl

same_reader : (major : ℕ) (all : List PoolEntry) (p : Place)
    → after_pool major all p ≡ (head all >>= λ about. members all >>= λ found. done (class_with major all about found)) p
same_reader major all p =
    head_then all (λ about. fields all >>= λ data_members. methods all >>= λ code_members. skipped_attributes all >>= λ none.
    done (class_with major all about (record { fields = data_members; methods = code_members }))) p
    ∙ goes_on (head all p) _ _ (λ about m. members_then all (λ found. done (class_with major all about found)) m)

-- a reader that reads the same is exact for the same grammar
exact_as : {A : Type 0} (r s : Reader ClassRefusal A) (S : A → Piece) → ((p : Place) → r p ≡ s p) → Exact short r S → Exact short s S
exact_as r s S same exact = record {
  found = λ p q x e. exact.found p q x (same p ∙ e);
  only = λ x text rest at spelled. sym (same (record { rest = text ++ rest; at = at })) ∙ exact.only x text rest at spelled;
  cut = λ x front back at spelled some. subst (IsCut short at front) (same (record { rest = front; at = at })) (exact.cut x front back at spelled some);
}

after_pool_exact : (major : ℕ) (all : List PoolEntry)
    → Exact short (head all >>= λ about. members all >>= λ found. done (class_with major all about found))
    (λ y at bytes. ((y.major ≡ major) × (y.pool ≡ all)) × AfterPool all y at bytes)
after_pool_exact major all = exact_as (after_pool major all) _ _ (same_reader major all) (item_by_item_exact major all)

class_body_exact : Exact short class_body Body
unfolding class_body
class_body_exact =
    first_exact short version _ (λ y. y.major) SpellsVersion (λ y. SpellsPool y.pool ⊳ AfterPool y.pool y) version_exact
    (λ major. field_exact short pool _ (λ y. y.pool) SpellsPool (λ y. y.major ≡ major) (λ y. AfterPool y.pool y) pool_exact
    (λ all. exact_same short _ (λ y at bytes. ((y.major ≡ major) × (y.pool ≡ all)) × AfterPool all y at bytes) (λ y at bytes. ((y.major ≡ major) × (y.pool ≡ all)) × AfterPool y.pool y at bytes)
    (after_pool_exact major all)
    (λ y at bytes s. let P : List PoolEntry → Type 0 = λ p. AfterPool p y at bytes in (s.0, subst P (sym s.0.1) s.1))
    (λ y at bytes s. let P : List PoolEntry → Type 0 = λ p. AfterPool p y at bytes in (s.0, subst P s.0.1 s.1))))

pub class_file_exact : Exact short class_file SpellsClass
unfolding class_file
class_file_exact =
    without_unit short class_file SpellsClass
    (expect_exact short u4 magic refusals.Magic class_body IsU4 (λ y. Unit {0}) Body u4_exact (with_unit short class_body Body class_body_exact))
