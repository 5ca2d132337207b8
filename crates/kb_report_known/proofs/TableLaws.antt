-- The tables of fields, as they grow.
use Rattle.std.proofs.Common.{◌≡◌, ◌⊎◌, inl, inr, ℕ, zero, suc, ◌-◌, ◌+◌, ◌^◌, ◌<◌, ◌≤◌, ◌==◌, ◌&&◌, ◌||◌, Bool, true, false, true≢false, cond, List, [], ◌∷◌, length, get_or, take, drop, Option, Some, None, IsSome, refl, sym, ap, subst, ◌∙◌, arith, if◌then◌else◌}
use Rattle.std.specs.Prelude.{slice_get, nat_lt}
use Rattle.std.specs.Map.{lookup}
use Rattle.std.specs.Str.{bytes_eq}
use Rattle.std.specs.Ordering.{is_eq, nat_cmp}
use Rattle.std.specs.declared.alloc.Global.{Global}
use Rattle.std.specs.declared.vec.Vec.{Vec}
use Rattle.std.proofs.lemmas.Bool.{and_parts, eqb-true, eqb-false, eq-eqb, ltb-true, ltb-false}
use Rattle.std.proofs.lemmas.List.{take_all}
use Rattle.std.proofs.lemmas.Option.{same_Some}
use Rattle.std.proofs.lemmas.Slice.Eq.{bytes_eq-Decides}
use Rattle.indexmap.specs.IndexMap.{insert_entry}
use Rattle.kb_class.specs.Naming.{Has}
use Rattle.kb_classes.specs.Slots.{Declared, numbered, slot_of, slots_of}
use Rattle.kb_classes.specs.World.{World}
use Rattle.kb_classes.specs.declared.slots.FieldSlot.{FieldSlot}
use Rattle.kb_report_text.specs.Slots.{field_text}
use Rattle.kb_report_known.specs.Fields.{field_at, IsFieldAt, IsTextOf}
use Rattle.kb_report_known.specs.Tables.{AddsField, AddsFields, AddsOwn, AreFew, AreFields, IsAdded, most_below, Notes, NotesOne, declares_some, greater, AreMost}
use Rattle.kb_report_known.specs.declared.fields.FieldAt.{FieldAt}

-- ---- an entry more

module _ {V : Type 0} (text : List ℕ) where
  abbrev pub under : List (Vec ℕ Global × V) → Option V
  under entries = lookup (λ (key : Vec ℕ Global). bytes_eq text key.items) entries

  pub inserted : (entries : List (Vec ℕ Global × V)) (key : Vec ℕ Global) (value : V)
      → under (insert_entry (λ (one other : Vec ℕ Global). bytes_eq one.items other.items) entries key value) ≡ (if bytes_eq text key.items then Some value else under entries)
  inserted [] key value = go (bytes_eq text key.items)
    where
      go : (b : Bool) → cond b (Some value) None ≡ (if b then Some value else None)
      go true = refl
      go false = refl
  inserted (e ∷ es) key value = go (inserted es key value) (bytes_eq key.items e.0.items) refl
    where
      later : Bool → Option V
      later b = if b then Some value else under es

      miss : under (insert_entry (λ (one other : Vec ℕ Global). bytes_eq one.items other.items) es key value) ≡ later (bytes_eq text key.items) → bytes_eq key.items e.0.items ≡ false
          → (b c : Bool) → bytes_eq text key.items ≡ b → bytes_eq text e.0.items ≡ c
          → cond c (Some e.1) (under (insert_entry (λ (one other : Vec ℕ Global). bytes_eq one.items other.items) es key value)) ≡ (if b then Some value else cond c (Some e.1) (under es))
      miss more other true true p q =
          let same : key.items ≡ e.0.items = sym ((bytes_eq-Decides text key.items).0 p) ∙ (bytes_eq-Decides text e.0.items).0 q in
          absurd (true≢false (sym ((bytes_eq-Decides key.items e.0.items).1 same) ∙ other))
      miss more other true false p q = more ∙ ap later p
      miss more other false true p q = refl
      miss more other false false p q = more ∙ ap later p

      hit : (b : Bool) → bytes_eq text e.0.items ≡ b → cond b (Some value) (under es) ≡ (if b then Some value else cond b (Some e.1) (under es))
      hit true p = refl
      hit false p = refl

      go : under (insert_entry (λ (one other : Vec ℕ Global). bytes_eq one.items other.items) es key value) ≡ later (bytes_eq text key.items) → (b : Bool) → bytes_eq key.items e.0.items ≡ b
          → under (if b then (e.0, value) ∷ es else e ∷ insert_entry (λ (one other : Vec ℕ Global). bytes_eq one.items other.items) es key value)
          ≡ (if bytes_eq text key.items then Some value else under (e ∷ es))
      go more true same =
          let one : bytes_eq text e.0.items ≡ bytes_eq text key.items = ap (bytes_eq text) (sym ((bytes_eq-Decides key.items e.0.items).0 same)) in
          hit (bytes_eq text e.0.items) refl ∙ ap (λ (b : Bool). if b then Some value else under (e ∷ es)) one
      go more false other =
          ap (λ (b : Bool). cond b (Some e.1) (under (insert_entry (λ (one other : Vec ℕ Global). bytes_eq one.items other.items) es key value))) refl
          ∙ miss more other (bytes_eq text key.items) (bytes_eq text e.0.items) refl refl

pub field_added : (world : World) (field : FieldSlot) (old new : List (Vec ℕ Global × FieldAt)) (key : Vec ℕ Global) → key.items ≡ field_text world field
    → new ≡ insert_entry (λ (one other : Vec ℕ Global). bytes_eq one.items other.items) old key (field_at field)
    → AddsField world field (λ text. under text old) (λ text. under text new)
field_added world field old new key same is text =
    ap (under text) is ∙ inserted text old key (field_at field) ∙ ap (λ (t : List ℕ). if bytes_eq text t then Some (field_at field) else under text old) same

-- ---- slots and their numbers

numbered_slot : (first : ℕ) (all : List Declared) (place : ℕ) (slot : FieldSlot) → slice_get (numbered first all) place ≡ Some slot → slot.slot ≡ first + place
numbered_slot first [] place slot at = absurd cc
numbered_slot first (x ∷ xs) zero slot at =
    let same : first ≡ slot.slot = ap (λ (s : FieldSlot). s.slot) (same_Some (slot_of first x) slot at) in
    omega (arith, same)
numbered_slot first (x ∷ xs) (suc place) slot at = let later : slot.slot ≡ suc first + place = numbered_slot (suc first) xs place slot at in omega (arith, later)

-- ---- lists that are walked

-- a list by its first item and the others
parts : {A : Type 0} (rest : List A) (x : A) → 1 ≤ length rest → x ≡ get_or rest 0 x → rest ≡ x ∷ take (length rest - 1) (drop 1 rest)
parts [] x some is = absurd (omega (arith, some))
parts (y ∷ others) x some is =
    let long : length others ≤ length (y ∷ others) - 1 = omega arith in
    ap (λ (z : _). z ∷ others) (sym is) ∙ ap (λ (l : List _). x ∷ l) (sym (take_all (length (y ∷ others) - 1) others long))

no_parts : {A : Type 0} (rest : List A) → length rest < 1 → rest ≡ []
no_parts [] none = refl
no_parts (x ∷ rest) none = absurd (omega (arith, none))

-- ---- the table of fields

module _ (world : World) (class : ℕ) where
  pub adds_none : (find : List ℕ → Option FieldAt) → AddsFields world class [] find find
  adds_none find = record {
    found = λ text at is. inl is;
    kept = λ text is. is;
    all = λ field there declares. absurd (nowhere field there);
  }
    where
      nowhere : (field : FieldSlot) → Has {A = FieldSlot} [] field → ⊥
      nowhere field there = let none : None ≡ Some field = there.1 in cc

  -- one slot, and those behind it
  pub adds_more : (slot : FieldSlot) (rest : List FieldSlot) (old middle new : List ℕ → Option FieldAt) → AddsOwn world class slot old middle → AddsFields world class rest middle new
      → AddsFields world class (slot ∷ rest) old new
  adds_more slot rest old middle new own more = record { found = found; kept = λ text is. more.kept text (kept text is); all = all }
    where
      test : List ℕ → Bool
      test text = (slot.class.0 == class) && bytes_eq text (field_text world slot)

      first : (text : List ℕ) (at : FieldAt) → test text ≡ true → Some (field_at slot) ≡ Some at → IsAdded world class (slot ∷ rest) text at
      first text at own is =
          let parts = and_parts (slot.class.0 == class) (bytes_eq text (field_text world slot)) own in
          record {
            field = slot;
            there = (zero, refl);
            declares = eqb-true slot.class.0 class parts.0;
            text_is = (bytes_eq-Decides text (field_text world slot)).0 parts.1;
            is = sym (same_Some (field_at slot) at is);
          }

      later : (text : List ℕ) (at : FieldAt) → IsAdded world class rest text at → IsAdded world class (slot ∷ rest) text at
      later text at added = record { field = added.field; there = (suc added.there.0, added.there.1); declares = added.declares; text_is = added.text_is; is = added.is }

      before : (text : List ℕ) (at : FieldAt) → middle text ≡ Some at → (old text ≡ Some at) ⊎ IsAdded world class (slot ∷ rest) text at
      before text at is = go (test text) refl (sym (own text) ∙ is)
        where
          go : (b : Bool) → test text ≡ b → (if b then Some (field_at slot) else old text) ≡ Some at → (old text ≡ Some at) ⊎ IsAdded world class (slot ∷ rest) text at
          go true e is = inr (first text at e is)
          go false e is = inl is

      found : (text : List ℕ) (at : FieldAt) → new text ≡ Some at → (old text ≡ Some at) ⊎ IsAdded world class (slot ∷ rest) text at
      found text at is = elim (more.found text at is) [
        | inl early ↦ before text at early
        | inr added ↦ inr (later text at added)
      ]

      kept : (text : List ℕ) → IsSome (old text) → IsSome (middle text)
      kept text is = subst IsSome (sym (own text)) (go (test text))
        where
          go : (b : Bool) → IsSome (if b then Some (field_at slot) else old text)
          go true = refl
          go false = is

      itself : (field : FieldSlot) → slot ≡ field → field.class.0 ≡ class → IsSome (new (field_text world field))
      itself field same declares =
          let text = field_text world field in
          let passes : test text ≡ true = both (slot.class.0 == class) (bytes_eq text (field_text world slot)) (eq-eqb slot.class.0 class (ap (λ (s : FieldSlot). s.class.0) same ∙ declares))
          ((bytes_eq-Decides text (field_text world slot)).1 (ap (field_text world) (sym same))) in
          more.kept text (subst IsSome (sym (own text ∙ ap (λ (b : Bool). if b then Some (field_at slot) else old text) passes)) refl)
        where
          both : (a b : Bool) → a ≡ true → b ≡ true → (a && b) ≡ true
          both a b p q = rw (p, q) refl

      all : (field : FieldSlot) → Has (slot ∷ rest) field → field.class.0 ≡ class → IsSome (new (field_text world field))
      all field there declares = go there.0 there.1
        where
          go : (place : ℕ) → slice_get (slot ∷ rest) place ≡ Some field → IsSome (new (field_text world field))
          go zero at = itself field (same_Some slot field at) declares
          go (suc place) at = more.all field (place, at) declares

  pub adds_go : (all rest : List FieldSlot) (slot : FieldSlot) (start old middle : List ℕ → Option FieldAt) → 1 ≤ length rest → slot ≡ get_or rest 0 slot → AddsOwn world class slot old middle
      → ((new : List ℕ → Option FieldAt) → AddsFields world class rest old new → AddsFields world class all start new)
      → (new : List ℕ → Option FieldAt) → AddsFields world class (take (length rest - 1) (drop 1 rest)) middle new → AddsFields world class all start new
  adds_go all rest slot start old middle some is own goes new more =
      goes new (subst (λ (slots : List FieldSlot). AddsFields world class slots old new) (sym (parts rest slot some is)) (adds_more slot (take (length rest - 1) (drop 1 rest)) old middle new own more))

  pub adds_done : (all rest : List FieldSlot) (start old : List ℕ → Option FieldAt) → length rest < 1 → ((new : List ℕ → Option FieldAt) → AddsFields world class rest old new → AddsFields world class all start new)
      → AddsFields world class all start old
  adds_done all rest start old none goes = goes old (subst (λ (slots : List FieldSlot). AddsFields world class slots old old) (sym (no_parts rest none)) (adds_none old))

module _ (world : World) where
  pub fields_none : (find : List ℕ → Option FieldAt) → ((text : List ℕ) → find text ≡ None) → AreFields world 0 find
  fields_none find none = record {
    found = λ text at is. absurd (let e : None ≡ Some at = sym (none text) ∙ is in cc);
    all = λ at field below is. absurd (omega (arith, below));
  }

  pub fields_next : (class : ℕ) (old new : List ℕ → Option FieldAt) → class < length world.classes → AreFields world class old → AddsFields world class (slots_of world class) old new
      → AreFields world (suc class) new
  fields_next class old new inside are adds = record { found = found; all = all }
    where
      own : (text : List ℕ) (at : FieldAt) → IsAdded world class (slots_of world class) text at → IsTextOf world text at
      own text at added =
          let field = added.field in
          let numbered_as : field.slot ≡ 0 + added.there.0 = numbered_slot 0 _ added.there.0 field added.there.1 in
          let slot : field.slot ≡ added.there.0 = omega (arith, numbered_as) in
          let class_of : at.class.0 ≡ class = ap (λ (a : FieldAt). a.class.0) added.is ∙ added.declares in
          let slot_is : at.slot ≡ added.there.0 = ap (λ (a : FieldAt). a.slot) added.is ∙ slot in (
            field,
            record {
              inside = subst (λ (n : ℕ). n < length world.classes) (sym class_of) inside;
              there = ap (λ (n : ℕ). slice_get (slots_of world n) at.slot) class_of ∙ ap (slice_get (slots_of world class)) slot_is ∙ added.there.1;
              declares = added.declares ∙ sym class_of;
            },
            added.text_is,
          )

      found : (text : List ℕ) (at : FieldAt) → new text ≡ Some at → IsTextOf world text at
      found text at is = elim (adds.found text at is) [
        | inl early ↦ are.found text at early
        | inr added ↦ own text at added
      ]

      all : (at : FieldAt) (field : FieldSlot) → at.class.0 < suc class → IsFieldAt world at field → IsSome (new (field_text world field))
      all at field below is = go (at.class.0 == class) refl
        where
          go : (b : Bool) → (at.class.0 == class) ≡ b → IsSome (new (field_text world field))
          go true e =
              let same : at.class.0 ≡ class = eqb-true at.class.0 class e in
              adds.all field (at.slot, ap (λ (n : ℕ). slice_get (slots_of world n) at.slot) (sym same) ∙ is.there) (is.declares ∙ same)
          go false e =
              let other : at.class.0 ≡ class → ⊥ = eqb-false at.class.0 class e in
              adds.kept (field_text world field) (are.all at field (omega (arith, below, other)) is)

  -- one class more, as the loop over them has it
  pub fields_step : (class next : ℕ) (named : World) (slots : List FieldSlot) (old new : List ℕ → Option FieldAt) → class < length world.classes → next ≡ class + 1 → named ≡ world → slots ≡ slots_of world class
      → AreFields world class old → AddsFields named class slots old new → AreFields world next new
  fields_step class next named slots old new inside more same slots_are are adds =
      subst (λ (n : ℕ). AreFields world n new) (let e : suc class ≡ next = omega (arith, more) in e)
      (fields_next class old new inside are (subst (λ (w : World). AddsFields w class (slots_of world class) old new) same (subst (λ (l : List FieldSlot). AddsFields named class l old new) slots_are adds)))

  pub fields_all : (classes many : ℕ) (find : List ℕ → Option FieldAt) → many ≤ classes → AreFields world classes find → AreFields world many find
  fields_all classes many find most are = record { found = are.found; all = λ at field below is. are.all at field (omega (arith, below, most)) is }

-- ---- the most slots

pub is_key : (one other : ℕ) → is_eq (nat_cmp one other) ≡ (one == other)
is_key one other = go (nat_lt one other) refl (one == other) refl
  where
    go : (a : Bool) → nat_lt one other ≡ a → (b : Bool) → (one == other) ≡ b → is_eq (nat_cmp one other) ≡ (one == other)
    go true p true q = absurd (let below : one < other = ltb-true one other p in let same : one ≡ other = eqb-true one other q in omega (arith, below, same))
    go true p false q = rw (p, q) refl
    go false p true q = rw (p, q) refl
    go false p false q = rw (p, q) refl

pub noted : (class count : ℕ) (old new : ℕ → ℕ) → ((other : ℕ) → new other ≡ (if is_eq (nat_cmp class other) then count else old other)) → old class < count → NotesOne class count old new
noted class count old new is more other = is other ∙ ap (λ (b : Bool). if b then count else old other) (is_key class other) ∙ go (class == other) refl
  where
    go : (b : Bool) → (class == other) ≡ b → (if b then count else old other) ≡ (if b then greater count (old other) else old other)
    go true e =
        let same : class ≡ other = eqb-true class other e in
        sym (ap (λ (b : Bool). if b then count else old other) (less (old other) count (subst (λ (n : ℕ). old n < count) same more)))
      where
        less : (a b : ℕ) → a < b → nat_lt a b ≡ true
        less a b h = pick (nat_lt a b) refl
          where
            pick : (t : Bool) → nat_lt a b ≡ t → nat_lt a b ≡ true
            pick true e = e
            pick false e = absurd (let high : b ≤ a = ltb-false a b e in omega (arith, high, h))
    go false e = refl

-- nothing is to be noted where as many are
pub noted_before : (class count : ℕ) (old : ℕ → ℕ) → count ≤ old class → NotesOne class count old old
noted_before class count old enough other = go (class == other) refl
  where
    go : (b : Bool) → (class == other) ≡ b → old other ≡ (if b then greater count (old other) else old other)
    go true e =
        let same : class ≡ other = eqb-true class other e in
        last (nat_lt (old other) count) refl (subst (λ (n : ℕ). count ≤ old n) same enough)
      where
        last : (t : Bool) → nat_lt (old other) count ≡ t → count ≤ old other → old other ≡ (if t then count else old other)
        last true p h = absurd (let low : old other < count = ltb-true (old other) count p in omega (arith, low, h))
        last false p h = refl
    go false e = refl

pub notes_none : (count : ℕ) (old : ℕ → ℕ) → Notes [] count old old
notes_none count old class = refl

greater_again : (count more : ℕ) → greater count (greater count more) ≡ greater count more
greater_again count more = go (nat_lt more count) refl
  where
    go : (b : Bool) → nat_lt more count ≡ b → greater count (if b then count else more) ≡ (if b then count else more)
    go true e = same (nat_lt count count)
      where
        same : (b : Bool) → (if b then count else count) ≡ count
        same true = refl
        same false = refl
    go false e = rw e refl

pub notes_more : (slot : FieldSlot) (rest : List FieldSlot) (count : ℕ) (old middle new : ℕ → ℕ) → NotesOne slot.class.0 count old middle → Notes rest count middle new → Notes (slot ∷ rest) count old new
notes_more slot rest count old middle new one more class = more class ∙ go (slot.class.0 == class) refl (declares_some rest class)
  where
    go : (b : Bool) → (slot.class.0 == class) ≡ b → (d : Bool) → (if d then greater count (middle class) else middle class) ≡ (if b || d then greater count (old class) else old class)
    go b e d = ap (λ (m : ℕ). if d then greater count m else m) (one class ∙ ap (λ (t : Bool). if t then greater count (old class) else old class) e) ∙ both b d
      where
        both : (b d : Bool) → (if d then greater count (if b then greater count (old class) else old class) else (if b then greater count (old class) else old class)) ≡ (if b || d then greater count (old class) else old class)
        both true true = greater_again count (old class)
        both true false = refl
        both false true = refl
        both false false = refl

pub notes_go : (all rest : List FieldSlot) (slot : FieldSlot) (count : ℕ) (start old middle : ℕ → ℕ) → 1 ≤ length rest → slot ≡ get_or rest 0 slot → NotesOne slot.class.0 count old middle
    → ((new : ℕ → ℕ) → Notes rest count old new → Notes all count start new) → (new : ℕ → ℕ) → Notes (take (length rest - 1) (drop 1 rest)) count middle new → Notes all count start new
notes_go all rest slot count start old middle some is one goes new more =
    goes new (subst (λ (slots : List FieldSlot). Notes slots count old new) (sym (parts rest slot some is)) (notes_more slot (take (length rest - 1) (drop 1 rest)) count old middle new one more))

pub notes_done : (all rest : List FieldSlot) (count : ℕ) (start old : ℕ → ℕ) → length rest < 1 → ((new : ℕ → ℕ) → Notes rest count old new → Notes all count start new) → Notes all count start old
notes_done all rest count start old none goes = goes old (subst (λ (slots : List FieldSlot). Notes slots count old old) (sym (no_parts rest none)) (notes_none count old))

-- ---- what the most slots are

-- The most slots that an object of one of the first so many classes has, if it has a field of the class.
pub record HaveMost (world : World) (classes : ℕ) (most : ℕ → ℕ) : Type 0 where
  pub each : (low class : ℕ) → low < classes → declares_some (slots_of world low) class ≡ true → length (slots_of world low) ≤ most class
  pub some : (class : ℕ) → (most class ≡ 0) ⊎ ((low : ℕ) × (low < classes) × (declares_some (slots_of world low) class ≡ true) × (length (slots_of world low) ≡ most class))

module _ (world : World) where
  most_none : (most : ℕ → ℕ) → ((class : ℕ) → most class ≡ 0) → HaveMost world 0 most
  most_none most none = record { each = λ low class below declares. absurd (omega (arith, below)); some = λ class. inl (none class) }

  most_next : (number : ℕ) (old new : ℕ → ℕ) → HaveMost world number old → Notes (slots_of world number) (length (slots_of world number)) old new → HaveMost world (suc number) new
  most_next number old new are notes = record { each = each; some = some }
    where
      many : ℕ
      many = length (slots_of world number)

      -- it is as many as before or more
      grown : (class : ℕ) → old class ≤ new class
      grown class = subst (λ (n : ℕ). old class ≤ n) (sym (notes class)) (go (declares_some (slots_of world number) class))
        where
          go : (b : Bool) → old class ≤ (if b then greater many (old class) else old class)
          go false = omega arith
          go true = last (nat_lt (old class) many) refl
            where
              last : (t : Bool) → nat_lt (old class) many ≡ t → old class ≤ (if t then many else old class)
              last true p = let less : old class < many = ltb-true (old class) many p in omega (arith, less)
              last false p = omega arith

      here : (class : ℕ) → declares_some (slots_of world number) class ≡ true → many ≤ new class
      here class declares = subst (λ (n : ℕ). many ≤ n) (sym (notes class ∙ ap (λ (b : Bool). if b then greater many (old class) else old class) declares)) (go (nat_lt (old class) many) refl)
        where
          go : (t : Bool) → nat_lt (old class) many ≡ t → many ≤ (if t then many else old class)
          go true p = omega arith
          go false p = ltb-false (old class) many p

      each : (low class : ℕ) → low < suc number → declares_some (slots_of world low) class ≡ true → length (slots_of world low) ≤ new class
      each low class below declares = go (low == number) refl
        where
          go : (b : Bool) → (low == number) ≡ b → length (slots_of world low) ≤ new class
          go true e =
              let same : low ≡ number = eqb-true low number e in
              subst (λ (n : ℕ). length (slots_of world n) ≤ new class) (sym same) (here class (subst (λ (n : ℕ). declares_some (slots_of world n) class ≡ true) same declares))
          go false e =
              let other : low ≡ number → ⊥ = eqb-false low number e in
              let before = are.each low class (omega (arith, below, other)) declares in
              omega (arith, before, grown class)

      Told : ℕ → ℕ → Type 0
      Told class most = (most ≡ 0) ⊎ ((low : ℕ) × (low < suc number) × (declares_some (slots_of world low) class ≡ true) × (length (slots_of world low) ≡ most))

      before : (class : ℕ) → Told class (old class)
      before class = elim (are.some class) [
        | inl none ↦ inl none
        | inr low ↦ inr (low.0, omega (arith, low.1), low.2, low.3)
      ]

      some : (class : ℕ) → Told class (new class)
      some class = subst (Told class) (sym (notes class)) (go (declares_some (slots_of world number) class) refl)
        where
          go : (b : Bool) → declares_some (slots_of world number) class ≡ b → Told class (if b then greater many (old class) else old class)
          go false e = before class
          go true e = last (nat_lt (old class) many)
            where
              last : (t : Bool) → Told class (if t then many else old class)
              last true = inr (number, omega arith, e, refl)
              last false = before class

  pub have_most : (classes : ℕ) → HaveMost world classes (most_below world classes)
  have_most zero = most_none (most_below world zero) (λ class. refl)
  have_most (suc number) = most_next number (most_below world number) (most_below world (suc number)) (have_most number) (λ class. refl)

  -- ---- its table

  pub table_none : (most : ℕ → ℕ) → ((class : ℕ) → most class ≡ 0) → AreMost world 0 most
  table_none most none class = none class

  pub table_next : (number : ℕ) (old new : ℕ → ℕ) → AreMost world number old → Notes (slots_of world number) (length (slots_of world number)) old new → AreMost world (suc number) new
  table_next number old new are notes class =
      notes class ∙ ap (λ (m : ℕ). if declares_some (slots_of world number) class then greater (length (slots_of world number)) m else m) (are class)

  pub table_step : (number next : ℕ) (slots : List FieldSlot) (old new : ℕ → ℕ) → next ≡ number + 1 → slots ≡ slots_of world number → AreMost world number old → Notes slots (length slots) old new → AreMost world next new
  table_step number next slots old new more slots_are are notes =
      subst (λ (n : ℕ). AreMost world n new) (let e : suc number ≡ next = omega (arith, more) in e)
      (table_next number old new are (subst (λ (l : List FieldSlot). Notes l (length l) old new) slots_are notes))

  pub table_all : (classes many : ℕ) (most : ℕ → ℕ) → many ≤ classes → AreMost world classes most → classes ≤ many → AreMost world many most
  table_all classes many most low are high = subst (λ (n : ℕ). AreMost world n most) (let same : classes ≡ many = omega (arith, low, high) in same) are

  -- ---- how many slots a class has

  pub few_step : (number next : ℕ) (slots : List FieldSlot) → next ≡ number + 1 → slots ≡ slots_of world number → length slots ≤ 2 ^ 32 → AreFew world number → AreFew world next
  few_step number next slots more slots_are small few class below = go (class == number) refl
    where
      go : (b : Bool) → (class == number) ≡ b → length (slots_of world class) ≤ 2 ^ 32
      go true e = subst (λ (n : ℕ). length (slots_of world n) ≤ 2 ^ 32) (sym (eqb-true class number e)) (subst (λ (l : List FieldSlot). length l ≤ 2 ^ 32) slots_are small)
      go false e = few class (let other : class ≡ number → ⊥ = eqb-false class number e in omega (arith, below, more, other))

  pub few_all : (classes many : ℕ) → many ≤ classes → AreFew world classes → AreFew world many
  few_all classes many most few class below = few class (omega (arith, below, most))
