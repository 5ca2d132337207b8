-- The reader is exact for the grammar: the entries of the constant pool.
use Rattle.std.proofs.Common.{if◌then◌else◌, ◌≡◌, ◌≢◌, ◌⊎◌, inl, inr, ℕ, ◌+◌, Bool, true, false, eqb, List, [], ◌++◌, Ok, Err, length, refl, subst, sym}
use Rattle.std.proofs.lemmas.Bool.{eqb-true}
use Rattle.std.specs.Int.{w32, cast_signed}
use Rattle.kb_grammar.specs.Reading.{Place, Reader, ◌>>=◌, done, run}
use Rattle.kb_grammar.specs.Grammar.{Piece, ◌⊳◌, IsRunOf, IsAny, Between, IsCut, Exact}
use Rattle.kb_grammar.proofs.Laws.{bind_exact, made_exact, run_exact, number_exact, between_same}
use Rattle.kb_classfile.specs.declared.file.PoolEntry.{PoolEntry}
use Rattle.kb_classfile.specs.declared.file.PoolEntry.TheVariants as entries
use Rattle.kb_classfile.specs.declared.refusal.ClassRefusal.{ClassRefusal}
use Rattle.kb_classfile.specs.declared.refusal.ClassRefusal.TheVariants as refusals
use Rattle.kb_classfile.specs.Spelling.{IsU1, IsU2, IsU4, SpellsInfo, SpellsEntry}
use Rattle.kb_classfile.specs.Reading.{short, u1, u2, u4, utf8_entry, integer_entry, float_entry, wide_entry, one_index, two_indices, handle_entry, info, entry}

pub u1_exact : Exact short u1 IsU1
u1_exact = number_exact short 1

pub u2_exact : Exact short u2 IsU2
u2_exact = number_exact short 2

pub u4_exact : Exact short u4 IsU4
u4_exact = number_exact short 4

-- ---- the shapes of entries, as they are read

abbrev Utf8Read : PoolEntry → Piece
Utf8Read y at bytes = (n : ℕ) × (IsU2 n ⊳ (λ o back. (text : List ℕ) × (y ≡ entries.Utf8 text) × IsRunOf n text o back)) at bytes

utf8_read : Exact short utf8_entry Utf8Read
unfolding utf8_entry
utf8_read =
    bind_exact short u2 (λ n. run short n >>= λ text. done (entries.Utf8 text)) IsU2 (λ n y o back. (text : List ℕ) × (y ≡ entries.Utf8 text) × IsRunOf n text o back) u2_exact
    (λ n. made_exact short (run short n) (λ text. entries.Utf8 text) (IsRunOf n) (run_exact short n))

abbrev IntegerRead : PoolEntry → Piece
IntegerRead y at bytes = (n : ℕ) × (y ≡ entries.Integer (cast_signed w32 n)) × IsU4 n at bytes

integer_read : Exact short integer_entry IntegerRead
unfolding integer_entry
integer_read = made_exact short u4 (λ n. entries.Integer (cast_signed w32 n)) IsU4 u4_exact

abbrev FloatRead : PoolEntry → Piece
FloatRead y at bytes = (n : ℕ) × (y ≡ entries.Skipped) × IsU4 n at bytes

float_read : Exact short float_entry FloatRead
unfolding float_entry
float_read = made_exact short u4 (λ n. entries.Skipped) IsU4 u4_exact

abbrev WideRead : PoolEntry → Piece
WideRead y at bytes = (text : List ℕ) × (y ≡ entries.Wide) × IsRunOf 8 text at bytes

wide_read : Exact short wide_entry WideRead
unfolding wide_entry
wide_read = made_exact short (run short 8) (λ text. entries.Wide) (IsRunOf 8) (run_exact short 8)

abbrev OneRead : (ℕ → PoolEntry) → PoolEntry → Piece
OneRead make y at bytes = (index : ℕ) × (y ≡ make index) × IsU2 index at bytes

one_read : (make : ℕ → PoolEntry) → Exact short (one_index make) (OneRead make)
unfolding one_index
one_read make = made_exact short u2 make IsU2 u2_exact

abbrev TwoRead : (ℕ → ℕ → PoolEntry) → PoolEntry → Piece
TwoRead make y at bytes = (first : ℕ) × (IsU2 first ⊳ (λ o back. (second : ℕ) × (y ≡ make first second) × IsU2 second o back)) at bytes

two_read : (make : ℕ → ℕ → PoolEntry) → Exact short (two_indices make) (TwoRead make)
unfolding two_indices
two_read make =
    bind_exact short u2 (λ first. u2 >>= λ second. done (make first second)) IsU2 (λ first y o back. (second : ℕ) × (y ≡ make first second) × IsU2 second o back) u2_exact
    (λ first. made_exact short u2 (make first) IsU2 u2_exact)

abbrev HandleRead : PoolEntry → Piece
HandleRead y at bytes = (kind : ℕ) × (IsU1 kind ⊳ (λ o back. (index : ℕ) × (y ≡ entries.Skipped) × IsU2 index o back)) at bytes

handle_read : Exact short handle_entry HandleRead
unfolding handle_entry
handle_read =
    bind_exact short u1 (λ kind. u2 >>= λ index. done entries.Skipped) IsU1 (λ kind y o back. (index : ℕ) × (y ≡ entries.Skipped) × IsU2 index o back) u1_exact
    (λ kind. made_exact short u2 (λ index. entries.Skipped) IsU2 u2_exact)

-- ---- what is read is spelled

abbrev Tells : ℕ → (PoolEntry → Piece) → Type 0
Tells tag S = (y : PoolEntry) (at : ℕ) (bytes : List ℕ) → S y at bytes → SpellsInfo tag y at bytes

as_entry : (tag : ℕ) (y made : PoolEntry) (at : ℕ) (bytes : List ℕ) → y ≡ made → SpellsInfo tag made at bytes → SpellsInfo tag y at bytes
as_entry tag y made at bytes is s = let P : PoolEntry → Type 0 = λ z. SpellsInfo tag z at bytes in subst P (sym is) s

utf8_tells : Tells 1 Utf8Read
utf8_tells y at bytes s =
    let j = s.1 in
    as_entry 1 y (entries.Utf8 j.ends.0) at bytes j.ends.1
    (refl, record { front = j.front; back = j.back; parts = j.parts; begins = subst (λ (n : ℕ). IsU2 n at j.front) (sym j.ends.2.0) j.begins; ends = j.ends.2.1 })

integer_tells : Tells 3 IntegerRead
integer_tells y at bytes s = as_entry 3 y (entries.Integer (cast_signed w32 s.0)) at bytes s.1 (refl, s.0, refl, s.2)

float_tells : Tells 4 FloatRead
float_tells y at bytes s = as_entry 4 y entries.Skipped at bytes s.1 (inl (refl, (s.0, s.2)))

wide_tells : (tag : ℕ) → (tag ≡ 5) ⊎ (tag ≡ 6) → Tells tag WideRead
wide_tells tag is y at bytes s = as_entry tag y entries.Wide at bytes s.1 (is, (s.0, s.2))

class_tells : Tells 7 (OneRead (λ name. entries.Class name))
class_tells y at bytes s = as_entry 7 y (entries.Class s.0) at bytes s.1 (refl, s.2)

str_tells : Tells 8 (OneRead (λ text. entries.Str text))
str_tells y at bytes s = as_entry 8 y (entries.Str s.0) at bytes s.1 (refl, s.2)

type_tells : Tells 16 (OneRead (λ index. entries.Skipped))
type_tells y at bytes s = as_entry 16 y entries.Skipped at bytes s.1 (inr (inr (inl (refl, (s.0, s.2)))))

-- the two numbers of an entry
both_numbers : (make : ℕ → ℕ → PoolEntry) (y : PoolEntry) (at : ℕ) (bytes : List ℕ) → TwoRead make y at bytes
    → (first second : ℕ) × (y ≡ make first second) × (IsU2 first ⊳ IsU2 second) at bytes
both_numbers make y at bytes s =
    let j = s.1 in
    (s.0, j.ends.0, j.ends.1, record { front = j.front; back = j.back; parts = j.parts; begins = j.begins; ends = j.ends.2 })

field_tells : Tells 9 (TwoRead (λ class member. entries.Field class member))
field_tells y at bytes s = let b = both_numbers (λ class member. entries.Field class member) y at bytes s in as_entry 9 y (entries.Field b.0 b.1) at bytes b.2 (refl, b.3)

method_tells : Tells 10 (TwoRead (λ class member. entries.Method class member))
method_tells y at bytes s = let b = both_numbers (λ class member. entries.Method class member) y at bytes s in as_entry 10 y (entries.Method b.0 b.1) at bytes b.2 (refl, b.3)

interface_tells : Tells 11 (TwoRead (λ class member. entries.InterfaceMethod class member))
interface_tells y at bytes s = let b = both_numbers (λ class member. entries.InterfaceMethod class member) y at bytes s in as_entry 11 y (entries.InterfaceMethod b.0 b.1) at bytes b.2 (refl, b.3)

name_tells : Tells 12 (TwoRead (λ name kind. entries.NameType name kind))
name_tells y at bytes s = let b = both_numbers (λ name kind. entries.NameType name kind) y at bytes s in as_entry 12 y (entries.NameType b.0 b.1) at bytes b.2 (refl, b.3)

handle_tells : Tells 15 HandleRead
handle_tells y at bytes s =
    let j = s.1 in
    as_entry 15 y entries.Skipped at bytes j.ends.1
    (inr (inl (refl, record { front = j.front; back = j.back; parts = j.parts; begins = (s.0, j.begins); ends = (j.ends.0, j.ends.2) })))

dynamic_tells : Tells 18 (TwoRead (λ first second. entries.Skipped))
dynamic_tells y at bytes s =
    let j = s.1 in
    as_entry 18 y entries.Skipped at bytes j.ends.1
    (inr (inr (inr (refl, record { front = j.front; back = j.back; parts = j.parts; begins = (s.0, j.begins); ends = (j.ends.0, j.ends.2) }))))

-- what is read behind a tag
finds : (k : ℕ) (r : Reader ClassRefusal PoolEntry) (S : PoolEntry → Piece) → Exact short r S → Tells k S
    → (tag : ℕ) → eqb tag k ≡ true → (p q : Place) (y : PoolEntry) → r p ≡ Ok (y, q) → Between (SpellsInfo tag y) p q
finds k r S exact tells tag is p q y h =
    between_same (S y) (SpellsInfo tag y) p q
    (λ text s. subst (λ (t : ℕ). SpellsInfo t y p.at text) (sym (eqb-true tag k is)) (tells y p.at text s)) (exact.found p q y h)

info_found : (number tag : ℕ) (p q : Place) (y : PoolEntry) → info number tag p ≡ Ok (y, q) → Between (SpellsInfo tag y) p q
unfolding info
info_found number tag p q y h = go (eqb tag 1) refl (eqb tag 3) refl (eqb tag 4) refl (eqb tag 5) refl (eqb tag 6) refl (eqb tag 7) refl (eqb tag 8) refl (eqb tag 9) refl (eqb tag 10) refl (eqb tag 11) refl (eqb tag 12) refl (eqb tag 15) refl (eqb tag 16) refl (eqb tag 18) refl h where
  go : (b1 : Bool) → eqb tag 1 ≡ b1 → (b3 : Bool) → eqb tag 3 ≡ b3 → (b4 : Bool) → eqb tag 4 ≡ b4 → (b5 : Bool) → eqb tag 5 ≡ b5 → (b6 : Bool) → eqb tag 6 ≡ b6 → (b7 : Bool) → eqb tag 7 ≡ b7 → (b8 : Bool) → eqb tag 8 ≡ b8 → (b9 : Bool) → eqb tag 9 ≡ b9 → (b10 : Bool) → eqb tag 10 ≡ b10 → (b11 : Bool) → eqb tag 11 ≡ b11 → (b12 : Bool) → eqb tag 12 ≡ b12 → (b15 : Bool) → eqb tag 15 ≡ b15 → (b16 : Bool) → eqb tag 16 ≡ b16 → (b18 : Bool) → eqb tag 18 ≡ b18 →
      (if b1 then utf8_entry p else (if b3 then integer_entry p else (if b4 then float_entry p else (if b5 then wide_entry p else (if b6 then wide_entry p else (if b7 then (one_index (λ name. entries.Class name)) p else (if b8 then (one_index (λ text. entries.Str text)) p else (if b9 then (two_indices (λ class member. entries.Field class member)) p else (if b10 then (two_indices (λ class member. entries.Method class member)) p else (if b11 then (two_indices (λ class member. entries.InterfaceMethod class member)) p else (if b12 then (two_indices (λ name kind. entries.NameType name kind)) p else (if b15 then handle_entry p else (if b16 then (one_index (λ index. entries.Skipped)) p else (if b18 then (two_indices (λ first second. entries.Skipped)) p else Err (refusals.Tag number tag))))))))))))))) ≡ Ok (y, q) → Between (SpellsInfo tag y) p q
  go true i1 b3 i3 b4 i4 b5 i5 b6 i6 b7 i7 b8 i8 b9 i9 b10 i10 b11 i11 b12 i12 b15 i15 b16 i16 b18 i18 h = finds 1 utf8_entry Utf8Read utf8_read utf8_tells tag i1 p q y h
  go false i1 true i3 b4 i4 b5 i5 b6 i6 b7 i7 b8 i8 b9 i9 b10 i10 b11 i11 b12 i12 b15 i15 b16 i16 b18 i18 h = finds 3 integer_entry IntegerRead integer_read integer_tells tag i3 p q y h
  go false i1 false i3 true i4 b5 i5 b6 i6 b7 i7 b8 i8 b9 i9 b10 i10 b11 i11 b12 i12 b15 i15 b16 i16 b18 i18 h = finds 4 float_entry FloatRead float_read float_tells tag i4 p q y h
  go false i1 false i3 false i4 true i5 b6 i6 b7 i7 b8 i8 b9 i9 b10 i10 b11 i11 b12 i12 b15 i15 b16 i16 b18 i18 h = finds 5 wide_entry WideRead wide_read (wide_tells 5 (inl refl)) tag i5 p q y h
  go false i1 false i3 false i4 false i5 true i6 b7 i7 b8 i8 b9 i9 b10 i10 b11 i11 b12 i12 b15 i15 b16 i16 b18 i18 h = finds 6 wide_entry WideRead wide_read (wide_tells 6 (inr refl)) tag i6 p q y h
  go false i1 false i3 false i4 false i5 false i6 true i7 b8 i8 b9 i9 b10 i10 b11 i11 b12 i12 b15 i15 b16 i16 b18 i18 h = finds 7 (one_index (λ name. entries.Class name)) (OneRead (λ name. entries.Class name)) (one_read (λ name. entries.Class name)) class_tells tag i7 p q y h
  go false i1 false i3 false i4 false i5 false i6 false i7 true i8 b9 i9 b10 i10 b11 i11 b12 i12 b15 i15 b16 i16 b18 i18 h = finds 8 (one_index (λ text. entries.Str text)) (OneRead (λ text. entries.Str text)) (one_read (λ text. entries.Str text)) str_tells tag i8 p q y h
  go false i1 false i3 false i4 false i5 false i6 false i7 false i8 true i9 b10 i10 b11 i11 b12 i12 b15 i15 b16 i16 b18 i18 h = finds 9 (two_indices (λ class member. entries.Field class member)) (TwoRead (λ class member. entries.Field class member)) (two_read (λ class member. entries.Field class member)) field_tells tag i9 p q y h
  go false i1 false i3 false i4 false i5 false i6 false i7 false i8 false i9 true i10 b11 i11 b12 i12 b15 i15 b16 i16 b18 i18 h = finds 10 (two_indices (λ class member. entries.Method class member)) (TwoRead (λ class member. entries.Method class member)) (two_read (λ class member. entries.Method class member)) method_tells tag i10 p q y h
  go false i1 false i3 false i4 false i5 false i6 false i7 false i8 false i9 false i10 true i11 b12 i12 b15 i15 b16 i16 b18 i18 h = finds 11 (two_indices (λ class member. entries.InterfaceMethod class member)) (TwoRead (λ class member. entries.InterfaceMethod class member)) (two_read (λ class member. entries.InterfaceMethod class member)) interface_tells tag i11 p q y h
  go false i1 false i3 false i4 false i5 false i6 false i7 false i8 false i9 false i10 false i11 true i12 b15 i15 b16 i16 b18 i18 h = finds 12 (two_indices (λ name kind. entries.NameType name kind)) (TwoRead (λ name kind. entries.NameType name kind)) (two_read (λ name kind. entries.NameType name kind)) name_tells tag i12 p q y h
  go false i1 false i3 false i4 false i5 false i6 false i7 false i8 false i9 false i10 false i11 false i12 true i15 b16 i16 b18 i18 h = finds 15 handle_entry HandleRead handle_read handle_tells tag i15 p q y h
  go false i1 false i3 false i4 false i5 false i6 false i7 false i8 false i9 false i10 false i11 false i12 false i15 true i16 b18 i18 h = finds 16 (one_index (λ index. entries.Skipped)) (OneRead (λ index. entries.Skipped)) (one_read (λ index. entries.Skipped)) type_tells tag i16 p q y h
  go false i1 false i3 false i4 false i5 false i6 false i7 false i8 false i9 false i10 false i11 false i12 false i15 false i16 true i18 h = finds 18 (two_indices (λ first second. entries.Skipped)) (TwoRead (λ first second. entries.Skipped)) (two_read (λ first second. entries.Skipped)) dynamic_tells tag i18 p q y h
  go false i1 false i3 false i4 false i5 false i6 false i7 false i8 false i9 false i10 false i11 false i12 false i15 false i16 false i18 h = absurd cc

-- ---- what is spelled is read

-- a text is read as this entry, and of a proper front of it an item is not whole
record ReadsAs (r : Reader ClassRefusal PoolEntry) (y : PoolEntry) (at : ℕ) (text : List ℕ) : Type 0 where
  only : (rest : List ℕ) → r (record { rest = text ++ rest; at = at }) ≡ Ok (y, record { rest = rest; at = at + length text })
  cut : (front back : List ℕ) → text ≡ front ++ back → back ≢ [] → IsCut short at front (r (record { rest = front; at = at }))

reads : (r : Reader ClassRefusal PoolEntry) (S : PoolEntry → Piece) → Exact short r S → (y : PoolEntry) (at : ℕ) (text : List ℕ) → S y at text → ReadsAs r y at text
reads r S exact y at text s = record {
  only = λ rest. exact.only y text rest at s;
  cut = λ front back parts some. exact.cut y front back at (subst (S y at) parts s) some;
}

-- behind its tag
at_tag : (number k tag : ℕ) (y : PoolEntry) (at : ℕ) (text : List ℕ) → tag ≡ k → ReadsAs (info number k) y at text → ReadsAs (info number tag) y at text
at_tag number k tag y at text is r = subst (λ (t : ℕ). ReadsAs (info number t) y at text) (sym is) r

two_reads : (make : ℕ → ℕ → PoolEntry) (first second : ℕ) (at : ℕ) (text : List ℕ) → (IsU2 first ⊳ IsU2 second) at text → ReadsAs (two_indices make) (make first second) at text
two_reads make first second at text j =
    reads (two_indices make) (TwoRead make) (two_read make) (make first second) at text
    (first, record { front = j.front; back = j.back; parts = j.parts; begins = j.begins; ends = (second, refl, j.ends) })

skipped_reads : (number tag : ℕ) (at : ℕ) (text : List ℕ) → SpellsInfo tag entries.Skipped at text → ReadsAs (info number tag) entries.Skipped at text
unfolding info
skipped_reads number tag at text (inl s) =
    at_tag number 4 tag entries.Skipped at text s.0 (reads float_entry FloatRead float_read entries.Skipped at text (s.1.0, refl, s.1.1))
skipped_reads number tag at text (inr (inl s)) =
    let j = s.1 in
    at_tag number 15 tag entries.Skipped at text s.0
    (reads handle_entry HandleRead handle_read entries.Skipped at text
    (j.begins.0, record { front = j.front; back = j.back; parts = j.parts; begins = j.begins.1; ends = (j.ends.0, refl, j.ends.1) }))
skipped_reads number tag at text (inr (inr (inl s))) =
    at_tag number 16 tag entries.Skipped at text s.0
    (reads (one_index (λ index. entries.Skipped)) (OneRead (λ index. entries.Skipped)) (one_read (λ index. entries.Skipped)) entries.Skipped at text (s.1.0, refl, s.1.1))
skipped_reads number tag at text (inr (inr (inr s))) =
    let j = s.1 in
    at_tag number 18 tag entries.Skipped at text s.0
    (reads (two_indices (λ first second. entries.Skipped)) (TwoRead (λ first second. entries.Skipped)) (two_read (λ first second. entries.Skipped)) entries.Skipped at text
    (j.begins.0, record { front = j.front; back = j.back; parts = j.parts; begins = j.begins.1; ends = (j.ends.0, refl, j.ends.1) }))

wide_reads : (number tag : ℕ) (at : ℕ) (text : List ℕ) → (tag ≡ 5) ⊎ (tag ≡ 6) → IsAny (IsRunOf 8) at text → ReadsAs (info number tag) entries.Wide at text
unfolding info
wide_reads number tag at text (inl is) s = at_tag number 5 tag entries.Wide at text is (reads wide_entry WideRead wide_read entries.Wide at text (s.0, refl, s.1))
wide_reads number tag at text (inr is) s = at_tag number 6 tag entries.Wide at text is (reads wide_entry WideRead wide_read entries.Wide at text (s.0, refl, s.1))

info_reads : (number tag : ℕ) (y : PoolEntry) (at : ℕ) (text : List ℕ) → SpellsInfo tag y at text → ReadsAs (info number tag) y at text
unfolding info
info_reads number tag (entries.Utf8 found) at text s =
    let j = s.1 in
    at_tag number 1 tag (entries.Utf8 found) at text s.0
    (reads utf8_entry Utf8Read utf8_read (entries.Utf8 found) at text
    (length found, record { front = j.front; back = j.back; parts = j.parts; begins = j.begins; ends = (found, refl, (refl, j.ends)) }))
info_reads number tag (entries.Integer value) at text s =
    let P : _ → Type 0 = λ v. ReadsAs (info number tag) (entries.Integer v) at text in
    subst P (sym s.2)
    (at_tag number 3 tag (entries.Integer (cast_signed w32 s.1)) at text s.0
    (reads integer_entry IntegerRead integer_read (entries.Integer (cast_signed w32 s.1)) at text (s.1, refl, s.3)))
info_reads number tag entries.Wide at text s = wide_reads number tag at text s.0 s.1
info_reads number tag entries.Second at text s = absurd s
info_reads number tag (entries.Class name) at text s =
    at_tag number 7 tag (entries.Class name) at text s.0
    (reads (one_index (λ name. entries.Class name)) (OneRead (λ name. entries.Class name)) (one_read (λ name. entries.Class name)) (entries.Class name) at text (name, refl, s.1))
info_reads number tag (entries.Str found) at text s =
    at_tag number 8 tag (entries.Str found) at text s.0
    (reads (one_index (λ text. entries.Str text)) (OneRead (λ text. entries.Str text)) (one_read (λ text. entries.Str text)) (entries.Str found) at text (found, refl, s.1))
info_reads number tag (entries.Field class member) at text s =
    at_tag number 9 tag (entries.Field class member) at text s.0 (two_reads (λ class member. entries.Field class member) class member at text s.1)
info_reads number tag (entries.Method class member) at text s =
    at_tag number 10 tag (entries.Method class member) at text s.0 (two_reads (λ class member. entries.Method class member) class member at text s.1)
info_reads number tag (entries.InterfaceMethod class member) at text s =
    at_tag number 11 tag (entries.InterfaceMethod class member) at text s.0 (two_reads (λ class member. entries.InterfaceMethod class member) class member at text s.1)
info_reads number tag (entries.NameType name kind) at text s =
    at_tag number 12 tag (entries.NameType name kind) at text s.0 (two_reads (λ name kind. entries.NameType name kind) name kind at text s.1)
info_reads number tag entries.Skipped at text s = skipped_reads number tag at text s

info_exact : (number tag : ℕ) → Exact short (info number tag) (SpellsInfo tag)
info_exact number tag = record {
  found = info_found number tag;
  only = λ y text rest at s. (info_reads number tag y at text s).only rest;
  cut = λ y front back at s some. (info_reads number tag y at (front ++ back) s).cut front back refl some;
}

pub entry_exact : (number : ℕ) → Exact short (entry number) SpellsEntry
unfolding entry
entry_exact number = bind_exact short u1 (info number) IsU1 SpellsInfo u1_exact (info_exact number)
