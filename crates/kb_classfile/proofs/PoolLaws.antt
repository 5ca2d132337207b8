-- The reader is exact for the grammar: the constant pool and the numbers that name its entries.
use Rattle.std.proofs.Common.{◌≡◌, inl, inr, ℕ, zero, suc, ◌+◌, ◌-◌, Bool, true, false, cond, List, [], ◌∷◌, ◌++◌, Option, Some, None, length, refl, subst, sym, ap, ◌∙◌, arith, append_assoc}
use Rattle.std.proofs.lemmas.List.{append-nil}
use Rattle.std.specs.List.{AllByRecursion}
use Rattle.kb_grammar.specs.Reading.{◌>>=◌, done, folded, judged}
use Rattle.kb_grammar.specs.Grammar.{Piece, ◌⊳◌, IsNothing, Steps, Exact}
use Rattle.kb_grammar.proofs.Laws.{exact_same, bind_exact, made_exact, done_exact, if_exact, here_exact, folded_exact, judged_exact}
use Rattle.kb_classfile.specs.declared.file.PoolEntry.{PoolEntry}
use Rattle.kb_classfile.specs.declared.file.PoolEntry.TheVariants as entries
use Rattle.kb_classfile.specs.declared.pool.EntryKind.{EntryKind}
use Rattle.kb_classfile.specs.declared.pool.EntryKind.TheVariants as kinds
use Rattle.kb_classfile.specs.declared.pool.Reference.{Reference}
use Rattle.kb_classfile.specs.declared.refusal.ClassRefusal.{ClassRefusal}
use Rattle.kb_classfile.specs.declared.refusal.ClassRefusal.TheVariants as refusals
use Rattle.kb_classfile.specs.Pool.{entry_at, is_of_kind, NamesEntry, RefersWell, references_of, fault_at, fault_of, fault_or, first_fault_of}
use Rattle.kb_classfile.specs.Spelling.{IsU2, SpellsEntry, SpellsSecond, SpellsEntries, SpellsPoolCount, SpellsPool, SpellsIndex}
use Rattle.kb_classfile.specs.Reading.{short, u2, entry, PoolRead, no_entries, with_entry, with_second, next_entry, next_number, pool_read, pool_fault, pool, index_fault, index_of}
use Rattle.kb_classfile.proofs.EntryLaws.{u2_exact, entry_exact}

-- ---- references

-- a reference without fault names an entry of its kind
at_names : (kind : EntryKind) (all : List PoolEntry) (at index : ℕ) (found : Option PoolEntry) → entry_at all index ≡ found
    → fault_at (record { at = at; index = index; kind = kind }) found ≡ None → NamesEntry kind all index
at_names kind all at index None is h = absurd cc
at_names kind all at index (Some e) is h = go (is_of_kind kind e) refl h where
  go : (b : Bool) → is_of_kind kind e ≡ b → cond b None (Some (refusals.PoolKind at index)) ≡ None → NamesEntry kind all index
  go true right h = record { entry = e; there = is; right = right }
  go false right h = absurd cc

pub no_fault_names : (kind : EntryKind) (all : List PoolEntry) (at index : ℕ) → fault_of all (record { at = at; index = index; kind = kind }) ≡ None → NamesEntry kind all index
no_fault_names kind all at index h = at_names kind all at index (entry_at all index) refl h

pub names_no_fault : (kind : EntryKind) (all : List PoolEntry) (at index : ℕ) → NamesEntry kind all index → fault_of all (record { at = at; index = index; kind = kind }) ≡ None
names_no_fault kind all at index n = rw (n.there, n.right) refl

fault_or_none : (a b : Option ClassRefusal) → fault_or a b ≡ None → (a ≡ None) × (b ≡ None)
fault_or_none (Some f) b h = absurd cc
fault_or_none None b h = (refl, h)

none_or_none : (a b : Option ClassRefusal) → a ≡ None → b ≡ None → fault_or a b ≡ None
none_or_none (Some f) b p q = absurd cc
none_or_none None b p q = q

first_fault_behind : (all : List PoolEntry) (xs ys : List Reference) → first_fault_of all (xs ++ ys) ≡ None → (first_fault_of all xs ≡ None) × (first_fault_of all ys ≡ None)
first_fault_behind all [] ys h = (refl, h)
first_fault_behind all (x ∷ xs) ys h =
    let one = fault_or_none (fault_of all x) (first_fault_of all (xs ++ ys)) h in
    let others = first_fault_behind all xs ys one.1 in
    (none_or_none (fault_of all x) (first_fault_of all xs) one.0 others.0, others.1)

no_fault_behind : (all : List PoolEntry) (xs ys : List Reference) → first_fault_of all xs ≡ None → first_fault_of all ys ≡ None → first_fault_of all (xs ++ ys) ≡ None
no_fault_behind all [] ys p q = q
no_fault_behind all (x ∷ xs) ys p q =
    let one = fault_or_none (fault_of all x) (first_fault_of all xs) p in
    none_or_none (fault_of all x) (first_fault_of all (xs ++ ys)) one.0 (no_fault_behind all xs ys one.1 q)

one_refers : (all : List PoolEntry) (r : Reference) → first_fault_of all (r ∷ []) ≡ None → fault_of all r ≡ None
one_refers all r h = (fault_or_none (fault_of all r) None h).0

refers_one : (all : List PoolEntry) (r : Reference) → fault_of all r ≡ None → first_fault_of all (r ∷ []) ≡ None
refers_one all r h = none_or_none (fault_of all r) None h refl

two_refer : (all : List PoolEntry) (r s : Reference) → first_fault_of all (r ∷ s ∷ []) ≡ None → (fault_of all r ≡ None) × (fault_of all s ≡ None)
two_refer all r s h = let o = fault_or_none (fault_of all r) (first_fault_of all (s ∷ [])) h in (o.0, one_refers all s o.1)

refer_two : (all : List PoolEntry) (r s : Reference) → fault_of all r ≡ None → fault_of all s ≡ None → first_fault_of all (r ∷ s ∷ []) ≡ None
refer_two all r s p q = none_or_none (fault_of all r) (first_fault_of all (s ∷ [])) p (refers_one all s q)

-- two numbers of an entry, behind its tag
two_name : (one two : EntryKind) (all : List PoolEntry) (at i j : ℕ)
    → first_fault_of all (record { at = at + 1; index = i; kind = one } ∷ record { at = at + 3; index = j; kind = two } ∷ []) ≡ None → NamesEntry one all i × NamesEntry two all j
two_name one two all at i j h =
    let b = two_refer all (record { at = at + 1; index = i; kind = one }) (record { at = at + 3; index = j; kind = two }) h in
    (no_fault_names one all (at + 1) i b.0, no_fault_names two all (at + 3) j b.1)

name_two : (one two : EntryKind) (all : List PoolEntry) (at i j : ℕ) → NamesEntry one all i × NamesEntry two all j
    → first_fault_of all (record { at = at + 1; index = i; kind = one } ∷ record { at = at + 3; index = j; kind = two } ∷ []) ≡ None
name_two one two all at i j n =
    refer_two all (record { at = at + 1; index = i; kind = one }) (record { at = at + 3; index = j; kind = two })
    (names_no_fault one all (at + 1) i n.0) (names_no_fault two all (at + 3) j n.1)

refers_well : (all : List PoolEntry) (at : ℕ) (e : PoolEntry) → first_fault_of all (references_of at e) ≡ None → RefersWell all e
refers_well all at (entries.Class name) h = no_fault_names kinds.Text all (at + 1) name (one_refers all (record { at = at + 1; index = name; kind = kinds.Text }) h)
refers_well all at (entries.Str text) h = no_fault_names kinds.Text all (at + 1) text (one_refers all (record { at = at + 1; index = text; kind = kinds.Text }) h)
refers_well all at (entries.Field class member) h = two_name kinds.Class kinds.NameType all at class member h
refers_well all at (entries.Method class member) h = two_name kinds.Class kinds.NameType all at class member h
refers_well all at (entries.InterfaceMethod class member) h = two_name kinds.Class kinds.NameType all at class member h
refers_well all at (entries.NameType name kind) h = two_name kinds.Text kinds.Text all at name kind h
refers_well all at _ h = tt

well_refers : (all : List PoolEntry) (at : ℕ) (e : PoolEntry) → RefersWell all e → first_fault_of all (references_of at e) ≡ None
well_refers all at (entries.Class name) n = refers_one all (record { at = at + 1; index = name; kind = kinds.Text }) (names_no_fault kinds.Text all (at + 1) name n)
well_refers all at (entries.Str text) n = refers_one all (record { at = at + 1; index = text; kind = kinds.Text }) (names_no_fault kinds.Text all (at + 1) text n)
well_refers all at (entries.Field class member) n = name_two kinds.Class kinds.NameType all at class member n
well_refers all at (entries.Method class member) n = name_two kinds.Class kinds.NameType all at class member n
well_refers all at (entries.InterfaceMethod class member) n = name_two kinds.Class kinds.NameType all at class member n
well_refers all at (entries.NameType name kind) n = name_two kinds.Text kinds.Text all at name kind n
well_refers all at _ n = refl

-- ---- the next number

abbrev NextEntry : PoolRead → PoolRead → Piece
NextEntry x next at bytes = (found : PoolEntry) × (next ≡ with_entry at x found) × SpellsEntry found at bytes

next_entry_exact : (x : PoolRead) → Exact short (next_entry x) (NextEntry x)
unfolding next_entry
next_entry_exact x =
    here_exact short (λ at. entry (length x.entries) >>= λ found. done (with_entry at x found)) (λ at next o bytes. (found : PoolEntry) × (next ≡ with_entry at x found) × SpellsEntry found o bytes)
    (λ at. made_exact short (entry (length x.entries)) (with_entry at x) SpellsEntry (entry_exact (length x.entries)))

abbrev NextBy : Bool → PoolRead → PoolRead → Piece
NextBy true x next at bytes = (next ≡ with_second x) × IsNothing at bytes
NextBy false x next at bytes = NextEntry x next at bytes

abbrev NextNumber : PoolRead → PoolRead → Piece
NextNumber x = NextBy x.due x

next_number_exact : (x : PoolRead) → Exact short (next_number x) (NextNumber x)
unfolding next_number
next_number_exact x =
    if_exact short x.due (done (with_second x)) (next_entry x) (NextNumber x)
    (λ is. let P : Bool → Type 0 = λ b. Exact short (done (with_second x)) (NextBy b x) in
    subst P (sym is) (done_exact short (with_second x) (λ y. y ≡ with_second x) (λ y e. e) refl))
    (λ is. let P : Bool → Type 0 = λ b. Exact short (next_entry x) (NextBy b x) in subst P (sym is) (next_entry_exact x))

-- ---- all numbers

-- entries that were read behind those of x
record EntriesRead (n : ℕ) (x y : PoolRead) (at : ℕ) (bytes : List ℕ) : Type 0 where
  items : List PoolEntry
  entries_are : y.entries ≡ x.entries ++ items
  many : length items ≡ n
  spelled : SpellsEntries x.due items at bytes
  passes : (all : List PoolEntry) → first_fault_of all y.references ≡ None → (first_fault_of all x.references ≡ None) × AllByRecursion (RefersWell all) items

-- a second number in front of them
second_in_front : (n : ℕ) (x y : PoolRead) (at : ℕ) (bytes : List ℕ) → x.due ≡ true → EntriesRead n (with_second x) y at bytes → EntriesRead (suc n) x y at bytes
second_in_front n x y at bytes due r = record {
  items = entries.Second ∷ r.items;
  entries_are = r.entries_are ∙ append_assoc x.entries (entries.Second ∷ []) r.items;
  many = ap (λ k. suc k) r.many;
  spelled = rw due r.spelled;
  passes = λ all h. let p = r.passes all h in (p.0, (tt, p.1));
}

-- an entry in front of them
entry_in_front : (n : ℕ) (x y : PoolRead) (found : PoolEntry) (at : ℕ) (front back bytes : List ℕ) → bytes ≡ front ++ back → x.due ≡ false → SpellsEntry found at front
    → EntriesRead n (with_entry at x found) y (at + length front) back → EntriesRead (suc n) x y at bytes
entry_in_front n x y found at front back bytes parts due begins r = record {
  items = found ∷ r.items;
  entries_are = r.entries_are ∙ append_assoc x.entries (found ∷ []) r.items;
  many = ap (λ k. suc k) r.many;
  spelled = rw due (record { front = front; back = back; parts = parts; begins = begins; ends = r.spelled });
  passes = λ all h.
      let p = r.passes all h in
      let q = first_fault_behind all x.references (references_of at found) p.0 in
      (q.0, (refers_well all at found q.1, p.1));
}

entries_found : (n : ℕ) (x y : PoolRead) (at : ℕ) (bytes : List ℕ) → Steps NextNumber n x y at bytes → EntriesRead n x y at bytes
entries_found zero x y at bytes s = record {
  items = [];
  entries_are = ap (λ (p : PoolRead). p.entries) s.0 ∙ sym (append-nil x.entries);
  many = refl;
  spelled = s.1;
  passes = λ all h. (subst (λ (p : PoolRead). first_fault_of all p.references ≡ None) s.0 h, tt);
}
entries_found (suc n) x y at bytes s = go (λ z o back r. entries_found n z y o back r) x.due refl s.1.begins where
  go : ((z : PoolRead) (o : ℕ) (back : List ℕ) → Steps NextNumber n z y o back → EntriesRead n z y o back)
      → (due : Bool) → x.due ≡ due → NextBy due x s.0 at s.1.front → EntriesRead (suc n) x y at bytes
  go more true due b =
      let len : at + length s.1.front ≡ at = omega (arith, ap length b.1) in
      let all : bytes ≡ s.1.back = s.1.parts ∙ ap (λ (l : List ℕ). l ++ s.1.back) b.1 in
      let P : PoolRead → Type 0 = λ z. Steps NextNumber n z y (at + length s.1.front) s.1.back in
      let r = more (with_second x) (at + length s.1.front) s.1.back (subst P b.0 s.1.ends) in
      let Q : ℕ → List ℕ → Type 0 = λ o text. EntriesRead n (with_second x) y o text in
      second_in_front n x y at bytes due (subst (λ (text : List ℕ). Q at text) (sym all) (subst (λ (o : ℕ). Q o s.1.back) len r))
  go more false due b =
      let P : PoolRead → Type 0 = λ z. Steps NextNumber n z y (at + length s.1.front) s.1.back in
      entry_in_front n x y b.0 at s.1.front s.1.back bytes s.1.parts due b.2
      (more (with_entry at x b.0) (at + length s.1.front) s.1.back (subst P b.1 s.1.ends))

-- what spelled entries are read as
record EntriesKnown (n : ℕ) (x : PoolRead) (items : List PoolEntry) (at : ℕ) (bytes : List ℕ) : Type 0 where
  read : PoolRead
  steps : Steps NextNumber n x read at bytes
  entries_are : read.entries ≡ x.entries ++ items
  passes : (all : List PoolEntry) → first_fault_of all x.references ≡ None → AllByRecursion (RefersWell all) items → first_fault_of all read.references ≡ None

nothing_known : (x : PoolRead) (at : ℕ) (bytes : List ℕ) → IsNothing at bytes → EntriesKnown 0 x [] at bytes
nothing_known x at bytes none = record { read = x; steps = (refl, none); entries_are = sym (append-nil x.entries); passes = λ all h t. h }

second_known : (n : ℕ) (x : PoolRead) (items : List PoolEntry) (at : ℕ) (bytes : List ℕ) → x.due ≡ true
    → EntriesKnown n (with_second x) items at bytes → EntriesKnown (suc n) x (entries.Second ∷ items) at bytes
second_known n x items at bytes due k = record {
  read = k.read;
  steps = (
    with_second x,
    record {
      front = [];
      back = bytes;
      parts = refl;
      begins = (let P : Bool → Type 0 = λ b. NextBy b x (with_second x) at [] in subst P (sym due) (refl, refl));
      ends = (let len : at ≡ at + 0 = omega arith in subst (λ (o : ℕ). Steps NextNumber n (with_second x) k.read o bytes) len k.steps);
    },
  );
  entries_are = k.entries_are ∙ append_assoc x.entries (entries.Second ∷ []) items;
  passes = λ all h a. k.passes all h a.1;
}

entry_known : (n : ℕ) (x : PoolRead) (e : PoolEntry) (items : List PoolEntry) (at : ℕ) (front back bytes : List ℕ) → bytes ≡ front ++ back → x.due ≡ false → SpellsEntry e at front
    → EntriesKnown n (with_entry at x e) items (at + length front) back → EntriesKnown (suc n) x (e ∷ items) at bytes
entry_known n x e items at front back bytes parts due begins k = record {
  read = k.read;
  steps = (
    with_entry at x e,
    record {
      front = front;
      back = back;
      parts = parts;
      begins = (let P : Bool → Type 0 = λ b. NextBy b x (with_entry at x e) at front in subst P (sym due) (e, refl, begins));
      ends = k.steps;
    },
  );
  entries_are = k.entries_are ∙ append_assoc x.entries (e ∷ []) items;
  passes = λ all h a. k.passes all (no_fault_behind all x.references (references_of at e) h (well_refers all at e a.0)) a.1;
}

-- no other entry stands where a second number is due
is_second : (e : PoolEntry) (Others : Piece) (at : ℕ) (bytes : List ℕ) → SpellsSecond e Others at bytes → (e ≡ entries.Second) × Others at bytes
is_second entries.Second Others at bytes s = (refl, s)
is_second _ Others at bytes s = absurd s

entries_known : (n : ℕ) (x : PoolRead) (items : List PoolEntry) (at : ℕ) (bytes : List ℕ) → length items ≡ n → SpellsEntries x.due items at bytes → EntriesKnown n x items at bytes
entries_known zero x [] at bytes len s = nothing_known x at bytes s
entries_known zero x (e ∷ items) at bytes len s = absurd (omega (arith, len))
entries_known (suc n) x [] at bytes len s = absurd (omega (arith, len))
entries_known (suc n) x (e ∷ items) at bytes len s = go (λ z o text r. entries_known n z items o text shorter r) x.due refl s where
  shorter : length items ≡ n
  shorter = omega (arith, len)

  go : ((z : PoolRead) (o : ℕ) (text : List ℕ) → SpellsEntries z.due items o text → EntriesKnown n z items o text)
      → (due : Bool) → x.due ≡ due → SpellsEntries due (e ∷ items) at bytes → EntriesKnown (suc n) x (e ∷ items) at bytes
  go more true due s =
      let second = is_second e (SpellsEntries false items) at bytes s in
      let P : PoolEntry → Type 0 = λ z. EntriesKnown (suc n) x (z ∷ items) at bytes in
      subst P (sym second.0) (second_known n x items at bytes due (more (with_second x) at bytes second.1))
  go more false due s =
      entry_known n x e items at s.front s.back bytes s.parts due s.begins (more (with_entry at x e) (at + length s.front) s.back s.ends)

-- ---- the pool

abbrev PoolSpelled : PoolRead → Piece
PoolSpelled y at bytes = (count : ℕ) × (IsU2 count ⊳ Steps NextNumber (count - 1) no_entries y) at bytes

abbrev Passes : PoolRead → Type 0
Passes y = first_fault_of y.entries y.references ≡ None

pool_read_exact : Exact short pool_read PoolSpelled
unfolding pool_read
pool_read_exact =
    bind_exact short u2 (λ count. folded next_number (count - 1) no_entries) IsU2 (λ count. Steps NextNumber (count - 1) no_entries) u2_exact
    (λ count. folded_exact short next_number NextNumber next_number_exact (count - 1) no_entries)

abbrev PoolMade : List PoolEntry → Piece
PoolMade all at bytes = (y : PoolRead) × (all ≡ y.entries) × (Passes y × PoolSpelled y at bytes)

-- the count of numbers from 0 on
count_is : (count n : ℕ) (at : ℕ) (bytes : List ℕ) → IsU2 count at bytes → n ≡ count - 1 → SpellsPoolCount (suc n) at bytes
count_is zero n at bytes s is = inr ((omega (arith, is)), s)
count_is (suc count) n at bytes s is = inl (let same : suc count ≡ suc n = omega (arith, is) in subst (λ (k : ℕ). IsU2 k at bytes) same s)

pool_to : (all : List PoolEntry) (at : ℕ) (bytes : List ℕ) → PoolMade all at bytes → SpellsPool all at bytes
pool_to all at bytes s =
    let y = s.0 in
    let j = s.2.1.1 in
    let r = entries_found (s.2.1.0 - 1) no_entries y (at + length j.front) j.back j.ends in
    let all_is : all ≡ entries.Skipped ∷ r.items = s.1 ∙ r.entries_are in
    let P : List PoolEntry → Type 0 = λ z. SpellsPool z at bytes in
    let whole : Passes y = s.2.0 in
    let passes : AllByRecursion (RefersWell (entries.Skipped ∷ r.items)) r.items =
    (let Q : List PoolEntry → Type 0 = λ z. first_fault_of z y.references ≡ None in (r.passes (entries.Skipped ∷ r.items) (subst Q r.entries_are whole)).1) in
    subst P (sym all_is) (record {
      zeroth = refl;
      items = record { front = j.front; back = j.back; parts = j.parts; begins = count_is s.2.1.0 (length r.items) at j.front j.begins r.many; ends = r.spelled };
      references = (tt, passes);
    })

-- the count that was read
count_read : (n : ℕ) (at : ℕ) (bytes : List ℕ) → SpellsPoolCount (suc n) at bytes → (count : ℕ) × IsU2 count at bytes × (count - 1 ≡ n)
count_read n at bytes (inl s) = (suc n, s, omega arith)
count_read n at bytes (inr s) = (0, s.1, omega (arith, s.0))

pool_from : (all : List PoolEntry) (at : ℕ) (bytes : List ℕ) → SpellsPool all at bytes → PoolMade all at bytes
pool_from [] at bytes s = absurd (let e = s.zeroth in cc)
pool_from (e ∷ items) at bytes s =
    let first : e ≡ entries.Skipped = (let z : Some e ≡ Some entries.Skipped = s.zeroth in cc) in
    let j = s.items in
    let c = count_read (length items) at j.front j.begins in
    let k = entries_known (length items) no_entries items (at + length j.front) j.back refl j.ends in
    let same : e ∷ items ≡ k.read.entries = ap (λ (x : PoolEntry). x ∷ items) first ∙ sym k.entries_are in
    let steps : Steps NextNumber (c.0 - 1) no_entries k.read (at + length j.front) j.back =
    (let P : ℕ → Type 0 = λ n. Steps NextNumber n no_entries k.read (at + length j.front) j.back in subst P (sym c.2) k.steps) in
    let passes : Passes k.read =
    (let Q : List PoolEntry → Type 0 = λ z. first_fault_of z k.read.references ≡ None in subst Q same (k.passes (e ∷ items) refl s.references.1)) in
    (k.read, same, (passes, (c.0, record { front = j.front; back = j.back; parts = j.parts; begins = c.1; ends = steps })))

pub pool_exact : Exact short pool SpellsPool
unfolding pool
pool_exact =
    exact_same short (judged pool_fault pool_read >>= λ y. done y.entries) PoolMade SpellsPool
    (made_exact short (judged pool_fault pool_read) (λ y. y.entries) (λ y at bytes. Passes y × PoolSpelled y at bytes)
    (judged_exact short pool_fault pool_read PoolSpelled Passes pool_read_exact (λ at y h. h) (λ at y h. h)))
    pool_to pool_from

pub index_exact : (kind : EntryKind) (all : List PoolEntry) → Exact short (index_of kind all) (SpellsIndex kind all)
unfolding index_of
index_exact kind all =
    judged_exact short (index_fault kind all) u2 IsU2 (NamesEntry kind all) u2_exact
    (λ at index h. no_fault_names kind all at index h) (λ at index n. names_no_fault kind all at index n)
