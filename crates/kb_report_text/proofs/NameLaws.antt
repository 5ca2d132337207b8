-- Names in tables: one more name, and the names that several fields have.
use Rattle.std.proofs.Common.{◌≡◌, ℕ, zero, suc, ◌+◌, ◌<◌, Bool, true, false, ◌||◌, ◌&&◌, cond, nat_lt, List, [], ◌∷◌, ◌++◌, length, take, get_or, count_by, Option, Some, None, slice_get, refl, sym, ap, subst, ◌∙◌, arith}
use Rattle.std.specs.List.{list_any}
use Rattle.std.specs.Option.{option_map_or}
use Rattle.std.specs.Str.{bytes_eq}
use Rattle.std.specs.declared.vec.Vec.{Vec}
use Rattle.std.specs.declared.alloc.Global.{Global}
use Rattle.std.proofs.lemmas.Grind.{take_at_read}
use Rattle.std.proofs.lemmas.List.Folds.{list_any-append}
use Rattle.std.proofs.lemmas.List.Sums.{sum_by_push}
use Rattle.std.proofs.lemmas.Bool.Decides.{Decides-ltb}
use Rattle.std.proofs.lemmas.Slice.Eq.{bytes_eq-Decides}
use Rattle.indexmap.specs.IndexSet.{IndexSet, insert_key}
use Rattle.kb_class.specs.Class.{Class}
use Rattle.kb_class.specs.declared.members.FieldInfo.{FieldInfo}
use Rattle.kb_classes.proofs.Walks.{taken_next}
use Rattle.kb_classes.proofs.Places.{zip_pushed}
use Rattle.kb_classes.specs.World.{World}
use Rattle.kb_classes.specs.declared.slots.FieldSlot.{FieldSlot}
use Rattle.kb_report_text.specs.Slots.{fields_named, has_namesake}
use Rattle.kb_report_text.specs.Tables.{has_name, AreNamesOfMore, AreShared}

or_none : (a b : Bool) → b ≡ false → a ≡ (a || b)
or_none true b e = refl
or_none false b e = sym e

or_old : (a b : Bool) → a ≡ true → a ≡ (a || b)
or_old true b e = refl
or_old false b e = absurd cc

or_last : (a b : Bool) → (a || (b || false)) ≡ (a || b)
or_last true b = refl
or_last false true = refl
or_last false false = refl

-- one more key
pub name_added : (keys after : List (Vec ℕ Global)) (key : Vec ℕ Global) (name other : List ℕ) → key.items ≡ name → after ≡ insert_key (λ (x y : Vec ℕ Global). bytes_eq x.items y.items) keys key
    → list_any (λ (k : Vec ℕ Global). bytes_eq other k.items) after ≡ (list_any (λ (k : Vec ℕ Global). bytes_eq other k.items) keys || bytes_eq other name)
name_added keys after key name other keyed inserted = go (list_any (λ (k : Vec ℕ Global). bytes_eq key.items k.items) keys) refl
  where
    go : (b : Bool) → list_any (λ (k : Vec ℕ Global). bytes_eq key.items k.items) keys ≡ b
        → list_any (λ (k : Vec ℕ Global). bytes_eq other k.items) after ≡ (list_any (λ (k : Vec ℕ Global). bytes_eq other k.items) keys || bytes_eq other name)
    go true there =
        let kept : after ≡ keys = inserted ∙ ap (λ (b : Bool). cond b keys (keys ++ key ∷ [])) there in
        ap (λ (ks : List (Vec ℕ Global)). list_any (λ (k : Vec ℕ Global). bytes_eq other k.items) ks) kept ∙ old (bytes_eq other name) refl
      where
        old : (e : Bool) → bytes_eq other name ≡ e
            → list_any (λ (k : Vec ℕ Global). bytes_eq other k.items) keys ≡ (list_any (λ (k : Vec ℕ Global). bytes_eq other k.items) keys || bytes_eq other name)
        old true e =
            let same : other ≡ key.items = (bytes_eq-Decides other name).0 e ∙ sym keyed in
            or_old (list_any (λ (k : Vec ℕ Global). bytes_eq other k.items) keys) (bytes_eq other name) (subst (λ (n : List ℕ). list_any (λ (k : Vec ℕ Global). bytes_eq n k.items) keys ≡ true) (sym same) there)
        old false e = or_none (list_any (λ (k : Vec ℕ Global). bytes_eq other k.items) keys) (bytes_eq other name) e
    go false none =
        let longer : after ≡ keys ++ key ∷ [] = inserted ∙ ap (λ (b : Bool). cond b keys (keys ++ key ∷ [])) none in
        ap (λ (ks : List (Vec ℕ Global)). list_any (λ (k : Vec ℕ Global). bytes_eq other k.items) ks) longer
        ∙ list_any-append (λ (k : Vec ℕ Global). bytes_eq other k.items) keys (key ∷ [])
        ∙ or_last (list_any (λ (k : Vec ℕ Global). bytes_eq other k.items) keys) (bytes_eq other key.items)
        ∙ ap (λ (n : List ℕ). list_any (λ (k : Vec ℕ Global). bytes_eq other k.items) keys || bytes_eq other n) keyed

-- ---- the names that more than so many of the fields have

as_many : (n : ℕ) → n ≡ n + 0
as_many n = omega arith

alone : (a : Bool) → (a || false) ≡ a
alone true = refl
alone false = refl

alone_behind : (a b : Bool) → (a || (b && false)) ≡ a
alone_behind true b = refl
alone_behind false true = refl
alone_behind false false = refl

or_true : (a : Bool) → (a || true) ≡ true
or_true true = refl
or_true false = refl

-- one field more
met_more : (n : ℕ) (e : Bool) → (nat_lt 0 n || e) ≡ nat_lt 0 (n + cond e 1 0)
met_more zero true = refl
met_more zero false = refl
met_more (suc n) true = or_true (nat_lt 0 (suc n)) ∙ sym ((Decides-ltb 0 (suc n + 1)).1 (omega arith))
met_more (suc n) false = alone (nat_lt 0 (suc n)) ∙ ap (nat_lt 0) (as_many (suc n))

shared_more : (n : ℕ) (e : Bool) → (nat_lt 1 n || (nat_lt 0 n && e)) ≡ nat_lt 1 (n + cond e 1 0)
shared_more zero true = refl
shared_more zero false = refl
shared_more (suc zero) true = refl
shared_more (suc zero) false = refl
shared_more (suc (suc n)) true =
    ap (λ (b : Bool). b || (nat_lt 0 (suc (suc n)) && true)) ((Decides-ltb 1 (suc (suc n))).1 (omega arith)) ∙ sym ((Decides-ltb 1 (suc (suc n) + 1)).1 (omega arith))
shared_more (suc (suc n)) false = alone_behind (nat_lt 1 (suc (suc n))) (nat_lt 0 (suc (suc n))) ∙ ap (nat_lt 1) (as_many (suc (suc n)))

counted_more : (fields : List FieldInfo) (place : ℕ) (field : FieldInfo) (name : List ℕ) → place < length fields → field ≡ get_or fields place field
    → count_by (λ (f : FieldInfo). bytes_eq name f.name) (take (place + 1) fields)
    ≡ count_by (λ (f : FieldInfo). bytes_eq name f.name) (take place fields) + cond (bytes_eq name field.name) 1 0
counted_more fields place field name inside is =
    let taken : take (place + 1) fields ≡ take place fields ++ field ∷ [] = (take_at_read fields place field inside).1 ∙ ap (λ (x : FieldInfo). take place fields ++ x ∷ []) (sym is) in
    ap (λ (fs : List FieldInfo). count_by (λ (f : FieldInfo). bytes_eq name f.name) fs) taken
    ∙ sum_by_push (λ (f : FieldInfo). cond (bytes_eq name f.name) 1 0) (take place fields) field

pub met_next : (fields : List FieldInfo) (place : ℕ) (field : FieldInfo) (before after : List ℕ → Bool) → place < length fields → field ≡ get_or fields place field
    → ((name : List ℕ) → before name ≡ nat_lt 0 (count_by (λ (f : FieldInfo). bytes_eq name f.name) (take place fields)))
    → ((name : List ℕ) → after name ≡ (before name || bytes_eq name field.name))
    → (name : List ℕ) → after name ≡ nat_lt 0 (count_by (λ (f : FieldInfo). bytes_eq name f.name) (take (place + 1) fields))
met_next fields place field before after inside is met more name =
    let n = count_by (λ (f : FieldInfo). bytes_eq name f.name) (take place fields) in
    more name
    ∙ ap (λ (b : Bool). b || bytes_eq name field.name) (met name)
    ∙ met_more n (bytes_eq name field.name)
    ∙ ap (nat_lt 0) (sym (counted_more fields place field name inside is))

pub shared_next : (fields : List FieldInfo) (place : ℕ) (field : FieldInfo) (met before after : List ℕ → Bool) → place < length fields → field ≡ get_or fields place field
    → ((name : List ℕ) → met name ≡ nat_lt 0 (count_by (λ (f : FieldInfo). bytes_eq name f.name) (take place fields)))
    → ((name : List ℕ) → before name ≡ nat_lt 1 (count_by (λ (f : FieldInfo). bytes_eq name f.name) (take place fields)))
    → ((name : List ℕ) → after name ≡ (before name || (met field.name && bytes_eq name field.name)))
    → (name : List ℕ) → after name ≡ nat_lt 1 (count_by (λ (f : FieldInfo). bytes_eq name f.name) (take (place + 1) fields))
shared_next fields place field met before after inside is was shared more name =
    more name
    ∙ ap (λ (b : Bool). b || (met field.name && bytes_eq name field.name)) (shared name)
    ∙ ap (λ (b : Bool). nat_lt 1 n || b) (met_here (bytes_eq name field.name) refl)
    ∙ shared_more n (bytes_eq name field.name)
    ∙ ap (nat_lt 1) (sym (counted_more fields place field name inside is))
  where
    n : ℕ
    n = count_by (λ (f : FieldInfo). bytes_eq name f.name) (take place fields)

    -- where the field has the name, it is this name that was met
    met_here : (e : Bool) → bytes_eq name field.name ≡ e → (met field.name && e) ≡ (nat_lt 0 n && e)
    met_here true e =
        let same : name ≡ field.name = (bytes_eq-Decides name field.name).0 e in
        ap (λ (b : Bool). b && true) (subst (λ (m : List ℕ). met m ≡ nat_lt 0 n) same (was name))
    met_here false e = no_and (met field.name) (nat_lt 0 n)
      where
        no_and : (a b : Bool) → (a && false) ≡ (b && false)
        no_and true true = refl
        no_and true false = refl
        no_and false true = refl
        no_and false false = refl

-- ---- the names of each class

module _ {S : Type 0} where
  -- what the table of a class tells
  pub shared_told : (classes : List Class) (tables : List (IndexSet (Vec ℕ Global) S)) (number : ℕ) (name : List ℕ) → AreShared classes tables
      → option_map_or (λ (names : IndexSet (Vec ℕ Global) S). has_name names name) (slice_get tables number) false ≡ nat_lt 1 (option_map_or (fields_named name) (slice_get classes number) 0)
  shared_told [] [] number name each = refl
  shared_told [] (t ∷ tables) number name each = absurd each
  shared_told (c ∷ classes) [] number name each = absurd each
  shared_told (c ∷ classes) (t ∷ tables) zero name each = each.0 name
  shared_told (c ∷ classes) (t ∷ tables) (suc number) name each = shared_told classes tables number name each.1

  shared_in : (world inside : World) (items tables : List (IndexSet (Vec ℕ Global) S)) (field : FieldSlot) → inside ≡ world → tables ≡ items → AreShared inside.classes items
      → option_map_or (λ (ns : IndexSet (Vec ℕ Global) S). has_name ns field.name) (slice_get tables field.class.0) false ≡ has_namesake world field
  shared_in world inside items tables field same_world same each =
      let of_world : AreShared world.classes items = subst (λ (w : World). AreShared w.classes items) same_world each in
      shared_told world.classes tables field.class.0 field.name (subst (AreShared world.classes) (sym same) of_world)

  -- one class more
  pub shared_pushed : (classes : List Class) (number : ℕ) (class : Class) (tables after : List (IndexSet (Vec ℕ Global) S)) (table : IndexSet (Vec ℕ Global) S) → slice_get classes number ≡ Some class
      → AreShared (take number classes) tables → AreNamesOfMore 1 class.fields table → after ≡ tables ++ table ∷ [] → AreShared (take (number + 1) classes) after
  shared_pushed classes number class tables after table there each one is =
      let longer : AreShared (take number classes ++ class ∷ []) (tables ++ table ∷ []) =
      zip_pushed (λ (c : Class) (names : IndexSet (Vec ℕ Global) S). AreNamesOfMore 1 c.fields names) (take number classes) tables class table each one in
      subst (λ (cs : List Class). AreShared cs after) (sym (taken_next classes number class there)) (subst (AreShared (take number classes ++ class ∷ [])) (sym is) longer)

  -- the last class
  pub shared_all : (classes : List Class) (number : ℕ) (tables : List (IndexSet (Vec ℕ Global) S)) → slice_get classes number ≡ None → AreShared (take number classes) tables → AreShared classes tables
  shared_all classes number tables none each = subst (λ (cs : List Class). AreShared cs tables) (all_of classes number none) each
    where
      all_of : (cs : List Class) (n : ℕ) → slice_get cs n ≡ None → take n cs ≡ cs
      all_of [] zero e = refl
      all_of [] (suc n) e = refl
      all_of (c ∷ cs) zero e = absurd cc
      all_of (c ∷ cs) (suc n) e = ap (λ (l : List Class). c ∷ l) (all_of cs n e)

  -- whether a field has a namesake, as the tables tell it
  pub namesake_there : (world inside : World) (items tables : List (IndexSet (Vec ℕ Global) S)) (field : FieldSlot) (names : IndexSet (Vec ℕ Global) S) (told : Bool) → inside ≡ world → tables ≡ items
      → AreShared inside.classes items → slice_get tables field.class.0 ≡ Some names → told ≡ has_name names field.name → told ≡ has_namesake world field
  namesake_there world inside items tables field names told same_world same each there is =
      let here : option_map_or (λ (ns : IndexSet (Vec ℕ Global) S). has_name ns field.name) (slice_get tables field.class.0) false ≡ has_name names field.name =
      ap (λ (o : Option (IndexSet (Vec ℕ Global) S)). option_map_or (λ (ns : IndexSet (Vec ℕ Global) S). has_name ns field.name) o false) there in
      is ∙ sym here ∙ shared_in world inside items tables field same_world same each

  pub namesake_none : (world inside : World) (items tables : List (IndexSet (Vec ℕ Global) S)) (field : FieldSlot) → inside ≡ world → tables ≡ items
      → AreShared inside.classes items → slice_get tables field.class.0 ≡ None → false ≡ has_namesake world field
  namesake_none world inside items tables field same_world same each none =
      let here : option_map_or (λ (ns : IndexSet (Vec ℕ Global) S). has_name ns field.name) (slice_get tables field.class.0) false ≡ false =
      ap (λ (o : Option (IndexSet (Vec ℕ Global) S)). option_map_or (λ (ns : IndexSet (Vec ℕ Global) S). has_name ns field.name) o false) none in
      sym here ∙ shared_in world inside items tables field same_world same each
