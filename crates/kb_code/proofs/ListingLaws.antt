-- What the reader decodes is the one listing of the code.
use Rattle.std.proofs.Common.{◌≡◌, ℕ, ◌+◌, ◌≤◌, ◌⊎◌, inl, inr, ℤ, pos, negsuc, Bool, true, false, cond, ◌&&◌, ◌||◌, ltb, eqb, List, [], ◌∷◌, map, length, Option, None, Some, Result, Ok, Err, refl, sym, subst, ◌∙◌, ap, arith, length-append}
use Rattle.std.specs.List.{AllByRecursion}
use Rattle.std.proofs.lemmas.Bool.{and_parts, and_from, ltb-true, lt-ltb, eqb-true, eq-eqb}
use mathlib.Core.Path.{fun_ext}
use Rattle.kb_grammar.specs.Reading.{Place, values_of}
use Rattle.kb_grammar.specs.Grammar.{Each}
use Rattle.kb_grammar.proofs.EndLaws.{values_found, values_only}
use Rattle.kb_code.specs.declared.instruction.Instr.{Instr}
use Rattle.kb_code.specs.declared.instruction.Instr.TheVariants as instrs
use Rattle.kb_code.specs.declared.form.Local.{Local}
use Rattle.kb_code.specs.declared.form.Local.TheVariants as locals
use Rattle.kb_code.specs.declared.form.Entry.{Entry}
use Rattle.kb_code.specs.declared.form.Entry.TheVariants as entries
use Rattle.kb_code.specs.declared.form.Branch.{Branch}
use Rattle.kb_code.specs.declared.form.Branch.TheVariants as branches
use Rattle.kb_code.specs.declared.form.Form.{Form}
use Rattle.kb_code.specs.declared.form.Form.TheVariants as forms
use Rattle.kb_code.specs.declared.form.WideForm.{WideForm}
use Rattle.kb_code.specs.declared.form.WideForm.TheVariants as wides
use Rattle.kb_code.specs.declared.form.Loose.{Loose}
use Rattle.kb_code.specs.declared.form.Loose.TheVariants as looses
use Rattle.kb_code.specs.declared.listing.Listing.{Listing}
use Rattle.kb_code.specs.declared.listing.Handler.{Handler}
use Rattle.kb_code.specs.declared.refusal.CodeRefusal.{CodeRefusal}
use Rattle.kb_code.specs.declared.refusal.CodeRefusal.TheVariants as refusals
use Rattle.kb_code.specs.Forms.{form_of, wide_form_of, local_instr, entry_instr, branch_instr}
use Rattle.kb_code.specs.Listing.{IsIncreasing, SpellsWideForm, SpellsForm, SpellsOperands, SpellsLoose, SpellsItem, Stands, whole_pair, targets_of, begins, Begins, IsInRange, Lists}
use Rattle.kb_code.specs.Reading.{item, walk, without_place}
use Rattle.kb_code.specs.Answers.{and_then, each_of, Starts, starts_of, target_of, pair_of, placed, placed_item, is_in_range, handlers_fault, unless_fault, listing_of, decoding}
use Rattle.kb_code.specs.Starts.{AreWithin}
use Rattle.kb_code.proofs.Tables.{alone_has_no_targets}
use Rattle.kb_code.proofs.ItemLaws.{SpellsLooseItem, cut_item, item_exact, item_takes}

-- ---- tools

and_then_ok : {A B : Type 0} (r : Result A CodeRefusal) (f : A → Result B CodeRefusal) (y : B) → and_then r f ≡ Ok y → (x : A) × (r ≡ Ok x) × (f x ≡ Ok y)
and_then_ok (Ok x) f y h = (x, refl, h)
and_then_ok (Err refusal) f y h = absurd cc

ok_same : {A : Type 0} (x y : A) → (let told : Result A CodeRefusal = Ok x in told ≡ Ok y) → x ≡ y
ok_same x y h = cc

each_ok : {A B : Type 0} (f : A → Result B CodeRefusal) (x : A) (xs : List A) (ys : List B) → each_of f (x ∷ xs) ≡ Ok ys
    → (y : B) × (zs : List B) × (f x ≡ Ok y) × (each_of f xs ≡ Ok zs) × (ys ≡ y ∷ zs)
each_ok f x xs ys h =
    let first = and_then_ok (f x) (λ y. and_then (each_of f xs) (λ zs. Ok (y ∷ zs))) ys h in
    let others = and_then_ok (each_of f xs) (λ zs. Ok (first.0 ∷ zs)) ys first.2 in
    (first.0, others.0, first.1, others.1, sym (ok_same (first.0 ∷ others.0) ys others.2))

-- ---- what holds of instructions that are read

-- a straight one has no targets, and the ints of a lookupswitch rise
abbrev pub IsRead : Loose → Type 0
IsRead (looses.Straight instr) = targets_of instr ≡ []
IsRead (looses.Lookup default pairs) = IsIncreasing pairs
IsRead _ = Unit {0}

local_has_none : (local : Local) (k : ℕ) → targets_of (local_instr local k) ≡ []
local_has_none locals.LoadInt k = refl
local_has_none locals.LoadRef k = refl
local_has_none locals.StoreInt k = refl
local_has_none locals.StoreRef k = refl

entry_has_none : (entry : Entry) (k : ℕ) → targets_of (entry_instr entry k) ≡ []
entry_has_none entries.Constant k = refl
entry_has_none entries.GetField k = refl
entry_has_none entries.PutField k = refl
entry_has_none entries.Virtual k = refl
entry_has_none entries.Special k = refl
entry_has_none entries.Static k = refl
entry_has_none entries.New k = refl
entry_has_none entries.NewRefs k = refl
entry_has_none entries.Cast k = refl
entry_has_none entries.InstanceOf k = refl

branch_has_one : (branch : Branch) (to : ℕ) → targets_of (branch_instr branch to) ≡ to ∷ []
branch_has_one (branches.IfInt c) to = refl
branch_has_one (branches.IfPair c) to = refl
branch_has_one (branches.IfSame same) to = refl
branch_has_one (branches.IfNull null) to = refl
branch_has_one branches.Goto to = refl

wide_is_read : (form : Option WideForm) (loose : Loose) (at : ℕ) (bytes : List ℕ) → SpellsWideForm form loose at bytes → IsRead loose
wide_is_read None loose at bytes s = absurd s
wide_is_read (Some (wides.Local local)) loose at bytes s = subst IsRead (sym s.1) (local_has_none local s.0)
wide_is_read (Some wides.Increment) loose at bytes s = subst IsRead (sym s.2) refl
wide_is_read (Some (wides.Skipped op)) loose at bytes s = subst IsRead (sym s.0) refl

form_is_read : (op from : ℕ) (form : Form) (loose : Loose) (at : ℕ) (bytes : List ℕ) → form_of op ≡ Some form → SpellsForm from form loose at bytes → IsRead loose
form_is_read op from (forms.Alone instr) loose at bytes is s = subst IsRead (sym s.0) (alone_has_no_targets op instr is)
form_is_read op from forms.PushByte loose at bytes is s = subst IsRead (sym s.1) refl
form_is_read op from forms.PushShort loose at bytes is s = subst IsRead (sym s.1) refl
form_is_read op from forms.Constant loose at bytes is s = subst IsRead (sym s.1) refl
form_is_read op from (forms.Local local) loose at bytes is s = subst IsRead (sym s.1) (local_has_none local s.0)
form_is_read op from forms.Increment loose at bytes is s = subst IsRead (sym s.2) refl
form_is_read op from (forms.Entry entry) loose at bytes is s = subst IsRead (sym s.1) (entry_has_none entry s.0)
form_is_read op from forms.Interface loose at bytes is s = subst IsRead (sym s.1) refl
form_is_read op from forms.Primitive loose at bytes is s = subst IsRead (sym s.1) refl
form_is_read op from (forms.Near branch) loose at bytes is s = subst IsRead (sym s.1) tt
form_is_read op from (forms.Far branch) loose at bytes is s = subst IsRead (sym s.1) tt
form_is_read op from forms.Table loose at bytes is s = subst IsRead (sym s.3) tt
form_is_read op from forms.Lookup loose at bytes is s = subst IsRead (sym s.2) s.3.increasing
form_is_read op from forms.Wide loose at bytes is s = wide_is_read (wide_form_of s.0) loose (at + length s.1.front) s.1.back s.1.ends
form_is_read op from (forms.Skipped other n) loose at bytes is s = subst IsRead (sym s.0) refl

pub loose_is_read : (loose : Loose) (at : ℕ) (bytes : List ℕ) → SpellsLoose loose at bytes → IsRead loose
loose_is_read loose at bytes s = go (form_of s.0) refl s.1.ends where
  go : (form : Option Form) → form_of s.0 ≡ form → SpellsOperands at form loose (at + length s.1.front) s.1.back → IsRead loose
  go None is h = absurd h
  go (Some form) is h = form_is_read s.0 at form loose (at + length s.1.front) s.1.back is h

-- ---- placing

-- what is placed begins where an instruction does
target_ok : {A : Type 0} (items : List (ℕ × A)) (at : ℕ) (to : ℤ) (t : ℕ) → target_of (starts_of items) at to ≡ Ok t → (to ≡ pos t) × Begins items t
target_ok items at (pos n) t h = go (begins items n) refl h where
  go : (b : Bool) → begins items n ≡ b → (let told : Result ℕ CodeRefusal = cond b (Ok n) (Err (refusals.Target at (pos n))) in told ≡ Ok t) → (pos n ≡ pos t) × Begins items t
  go true is h = let same : n ≡ t = ok_same n t h in (ap pos same, subst (λ (k : ℕ). begins items k ≡ true) same is)
  go false is h = absurd cc
target_ok items at (negsuc n) t h = absurd cc

target_found : {A : Type 0} (items : List (ℕ × A)) (at t : ℕ) → Begins items t → target_of (starts_of items) at (pos t) ≡ Ok t
target_found items at t h = rw h refl

targets_ok : {A : Type 0} (items : List (ℕ × A)) (at : ℕ) (tos : List ℤ) (ts : List ℕ) → each_of (target_of (starts_of items) at) tos ≡ Ok ts
    → (tos ≡ map pos ts) × AllByRecursion (Begins items) ts
targets_ok items at [] ts h =
    let none : [] ≡ ts = ok_same [] ts h in
    let P : List ℕ → Type 0 = λ l. ([] ≡ map pos l) × AllByRecursion (Begins items) l in
    subst P none (refl, tt)
targets_ok items at (to ∷ tos) ts h =
    let e = each_ok (target_of (starts_of items) at) to tos ts h in
    let first = target_ok items at to e.0 e.2 in
    let others = targets_ok items at tos e.1 e.3 in
    let P : List ℕ → Type 0 = λ l. (to ∷ tos ≡ map pos l) × AllByRecursion (Begins items) l in
    subst P (sym e.4) (ap (λ (z : ℤ). z ∷ tos) first.0 ∙ ap (λ (l : List ℤ). pos e.0 ∷ l) others.0, (first.1, others.1))

targets_found : {A : Type 0} (items : List (ℕ × A)) (at : ℕ) (ts : List ℕ) → AllByRecursion (Begins items) ts → each_of (target_of (starts_of items) at) (map pos ts) ≡ Ok ts
targets_found items at [] h = refl
targets_found items at (t ∷ ts) h = rw (target_found items at t h.0, targets_found items at ts h.1) refl

abbrev pair_target : ℤ × ℕ → ℕ
pair_target p = p.1

pairs_ok : {A : Type 0} (items : List (ℕ × A)) (at : ℕ) (tos : List (ℤ × ℤ)) (ps : List (ℤ × ℕ)) → each_of (pair_of (starts_of items) at) tos ≡ Ok ps
    → (tos ≡ map whole_pair ps) × AllByRecursion (Begins items) (map pair_target ps)
pairs_ok items at [] ps h =
    let none : [] ≡ ps = ok_same [] ps h in
    let P : List (ℤ × ℕ) → Type 0 = λ l. ([] ≡ map whole_pair l) × AllByRecursion (Begins items) (map pair_target l) in
    subst P none (refl, tt)
pairs_ok items at (to ∷ tos) ps h =
    let e = each_ok (pair_of (starts_of items) at) to tos ps h in
    let a = and_then_ok (target_of (starts_of items) at to.1) (λ t. Ok (to.0, t)) e.0 e.2 in
    let first = target_ok items at to.1 a.0 a.1 in
    let is : (to.0, a.0) ≡ e.0 = ok_same (to.0, a.0) e.0 a.2 in
    let others = pairs_ok items at tos e.1 e.3 in
    let whole : to ≡ whole_pair (to.0, a.0) = ap (λ (z : ℤ). (to.0, z)) first.0 in
    let P : List (ℤ × ℕ) → Type 0 = λ l. (to ∷ tos ≡ map whole_pair l) × AllByRecursion (Begins items) (map pair_target l) in
    let all : to ∷ tos ≡ whole_pair (to.0, a.0) ∷ map whole_pair e.1 = ap (λ (q : ℤ × ℤ). q ∷ tos) whole ∙ ap (λ (l : List (ℤ × ℤ)). whole_pair (to.0, a.0) ∷ l) others.0 in
    subst P (ap (λ (q : ℤ × ℕ). q ∷ e.1) is ∙ sym e.4) (all, (first.1, others.1))

pairs_found : {A : Type 0} (items : List (ℕ × A)) (at : ℕ) (ps : List (ℤ × ℕ)) → AllByRecursion (Begins items) (map pair_target ps)
    → each_of (pair_of (starts_of items) at) (map whole_pair ps) ≡ Ok ps
pairs_found items at [] h = refl
pairs_found items at (p ∷ ps) h = rw (target_found items at p.1 h.0, pairs_found items at ps h.1) refl

abbrev BeginAt : {A : Type 0} → List (ℕ × A) → Instr → Type 0
BeginAt items instr = AllByRecursion (Begins items) (targets_of instr)

placed_ok : {A : Type 0} (items : List (ℕ × A)) (at : ℕ) (loose : Loose) (instr : Instr) → IsRead loose → placed (starts_of items) at loose ≡ Ok instr
    → Stands loose instr × BeginAt items instr
placed_ok items at (looses.Straight straight) instr none h =
    let same : straight ≡ instr = ok_same straight instr h in
    let P : List ℕ → Type 0 = λ ts. AllByRecursion (Begins items) ts in
    (sym same, subst (λ (i : Instr). BeginAt items i) same (subst P (sym none) tt))
placed_ok items at (looses.Jump branch to) instr none h =
    let a = and_then_ok (target_of (starts_of items) at to) (λ t. Ok (branch_instr branch t)) instr h in
    let t = target_ok items at to a.0 a.1 in
    let same : branch_instr branch a.0 ≡ instr = ok_same (branch_instr branch a.0) instr a.2 in
    let P : List ℕ → Type 0 = λ ts. AllByRecursion (Begins items) ts in
    ((a.0, t.0, sym same), subst (λ (i : Instr). BeginAt items i) same (subst P (sym (branch_has_one branch a.0)) (t.1, tt)))
placed_ok items at (looses.Table low default targets) instr none h =
    let a = and_then_ok (target_of (starts_of items) at default) (λ d. and_then (each_of (target_of (starts_of items) at) targets) (λ ts. Ok (instrs.Table low d ts))) instr h in
    let b = and_then_ok (each_of (target_of (starts_of items) at) targets) (λ ts. Ok (instrs.Table low a.0 ts)) instr a.2 in
    let d = target_ok items at default a.0 a.1 in
    let ts = targets_ok items at targets b.0 b.1 in
    let same : instrs.Table low a.0 b.0 ≡ instr = ok_same (instrs.Table low a.0 b.0) instr b.2 in
    ((a.0, b.0, d.0, ts.0, sym same), subst (λ (i : Instr). BeginAt items i) same (d.1, ts.1))
placed_ok items at (looses.Lookup default pairs) instr none h =
    let a = and_then_ok (target_of (starts_of items) at default) (λ d. and_then (each_of (pair_of (starts_of items) at) pairs) (λ ps. Ok (instrs.Lookup d ps))) instr h in
    let b = and_then_ok (each_of (pair_of (starts_of items) at) pairs) (λ ps. Ok (instrs.Lookup a.0 ps)) instr a.2 in
    let d = target_ok items at default a.0 a.1 in
    let ps = pairs_ok items at pairs b.0 b.1 in
    let same : instrs.Lookup a.0 b.0 ≡ instr = ok_same (instrs.Lookup a.0 b.0) instr b.2 in
    ((a.0, b.0, d.0, ps.0, sym same), subst (λ (i : Instr). BeginAt items i) same (d.1, ps.1))

placed_found : {A : Type 0} (items : List (ℕ × A)) (at : ℕ) (loose : Loose) (instr : Instr) → Stands loose instr → BeginAt items instr
    → placed (starts_of items) at loose ≡ Ok instr
placed_found items at (looses.Straight straight) instr s h = rw s refl
placed_found items at (looses.Jump branch to) instr s h =
    let P : List ℕ → Type 0 = λ ts. AllByRecursion (Begins items) ts in
    let t = subst P (branch_has_one branch s.0) (subst (λ (i : Instr). BeginAt items i) s.2 h) in
    rw (s.1, s.2, target_found items at s.0 t.0) refl
placed_found items at (looses.Table low default targets) instr s h =
    let t = subst (λ (i : Instr). BeginAt items i) s.4 h in
    rw (s.2, s.3, s.4, target_found items at s.0 t.0, targets_found items at s.1 t.1) refl
placed_found items at (looses.Lookup default pairs) instr s h =
    let t = subst (λ (i : Instr). BeginAt items i) s.4 h in
    rw (s.2, s.3, s.4, target_found items at s.0 t.0, pairs_found items at s.1 t.1) refl

-- ---- all instructions

-- instructions as they are read, and those of a listing
abbrev AreLoose : List (ℕ × Loose) → List (ℕ × Instr) → Type 0
AreLoose [] [] = Unit {0}
AreLoose [] (y ∷ ys) = ⊥
AreLoose (x ∷ xs) [] = ⊥
AreLoose (x ∷ xs) (y ∷ ys) = (x.0 ≡ y.0) × Stands x.1 y.1 × AreLoose xs ys

same_begins : (xs : List (ℕ × Loose)) (ys : List (ℕ × Instr)) → AreLoose xs ys → (at : ℕ) → begins xs at ≡ begins ys at
same_begins [] [] h at = refl
same_begins [] (y ∷ ys) h at = absurd h
same_begins (x ∷ xs) [] h at = absurd h
same_begins (x ∷ xs) (y ∷ ys) h at = rw (h.0, same_begins xs ys h.2 at) refl

same_starts : (xs : List (ℕ × Loose)) (ys : List (ℕ × Instr)) → AreLoose xs ys → starts_of xs ≡ starts_of ys
same_starts xs ys h = fun_ext (λ to. by to) where
  by : (to : ℤ) → starts_of xs to ≡ starts_of ys to
  by (pos at) = same_begins xs ys h at
  by (negsuc below) = refl

abbrev AllBegin : {A : Type 0} → List (ℕ × A) → List (ℕ × Instr) → Type 0
AllBegin all items = AllByRecursion (λ (y : ℕ × Instr). BeginAt all y.1) items

items_placed : {A : Type 0} (all : List (ℕ × A)) (xs : List (ℕ × Loose)) (ys : List (ℕ × Instr)) (at : ℕ) (bytes : List ℕ) → Each SpellsLooseItem xs at bytes
    → each_of (placed_item (starts_of all)) xs ≡ Ok ys → AreLoose xs ys × AllBegin all ys
items_placed all [] ys at bytes s h =
    let none : [] ≡ ys = ok_same [] ys h in
    let P : List (ℕ × Instr) → Type 0 = λ l. AreLoose [] l × AllBegin all l in
    subst P none (tt, tt)
items_placed all (x ∷ xs) ys at bytes s h =
    let e = each_ok (placed_item (starts_of all)) x xs ys h in
    let a = and_then_ok (placed (starts_of all) x.0 x.1) (λ instr. Ok (x.0, instr)) e.0 e.2 in
    let first = placed_ok all x.0 x.1 a.0 (loose_is_read x.1 at s.front s.begins.1) a.1 in
    let is : (x.0, a.0) ≡ e.0 = ok_same (x.0, a.0) e.0 a.2 in
    let others = items_placed all xs e.1 (at + length s.front) s.back s.ends e.3 in
    let P : List (ℕ × Instr) → Type 0 = λ l. AreLoose (x ∷ xs) l × AllBegin all l in
    subst P (ap (λ (q : ℕ × Instr). q ∷ e.1) is ∙ sym e.4) ((refl, first.0, others.0), (first.1, others.1))

placed_items : {A : Type 0} (all : List (ℕ × A)) (xs : List (ℕ × Loose)) (ys : List (ℕ × Instr)) → AreLoose xs ys → AllBegin all ys
    → each_of (placed_item (starts_of all)) xs ≡ Ok ys
placed_items all [] [] s h = refl
placed_items all [] (y ∷ ys) s h = absurd s
placed_items all (x ∷ xs) [] s h = absurd s
placed_items all (x ∷ xs) (y ∷ ys) s h =
    let first : placed_item (starts_of all) x ≡ Ok (x.0, y.1) = rw (placed_found all x.0 x.1 y.1 s.1 h.0) refl in
    let one : placed_item (starts_of all) x ≡ Ok y = first ∙ ap (λ (o : ℕ). Ok (o, y.1)) s.0 in
    rw (one, placed_items all xs ys s.2 h.1) refl

-- a listing is spelled by what spells its instructions
spelled_items : (xs : List (ℕ × Loose)) (ys : List (ℕ × Instr)) (at : ℕ) (bytes : List ℕ) → AreLoose xs ys → Each SpellsLooseItem xs at bytes → Each SpellsItem ys at bytes
spelled_items [] [] at bytes h s = s
spelled_items [] (y ∷ ys) at bytes h s = absurd h
spelled_items (x ∷ xs) [] at bytes h s = absurd h
spelled_items (x ∷ xs) (y ∷ ys) at bytes h s = record {
  front = s.front;
  back = s.back;
  parts = s.parts;
  begins = (sym h.0 ∙ s.begins.0, record { loose = x.1; stands = h.1; spelled = s.begins.1 });
  ends = spelled_items xs ys (at + length s.front) s.back h.2 s.ends;
}

-- the instructions of a listing as they are read
record AreRead (ys : List (ℕ × Instr)) (at : ℕ) (bytes : List ℕ) : Type 0 where
  items : List (ℕ × Loose)
  are : AreLoose items ys
  spelled : Each SpellsLooseItem items at bytes

read_items : (ys : List (ℕ × Instr)) (at : ℕ) (bytes : List ℕ) → Each SpellsItem ys at bytes → AreRead ys at bytes
read_items [] at bytes s = record { items = []; are = tt; spelled = s }
read_items (y ∷ ys) at bytes s =
    let others = read_items ys (at + length s.front) s.back s.ends in
    let i = s.begins.1 in
    record {
      items = (y.0, i.loose) ∷ others.items;
      are = (refl, i.stands, others.are);
      spelled = record { front = s.front; back = s.back; parts = s.parts; begins = (s.begins.0, i.spelled); ends = others.spelled };
    }

-- ---- handlers

either_parts : (a b : Bool) → (a || b) ≡ true → (a ≡ true) ⊎ (b ≡ true)
either_parts true b h = inl refl
either_parts false b h = inr h

either_from : (a b : Bool) → (a ≡ true) ⊎ (b ≡ true) → (a || b) ≡ true
either_from true b h = refl
either_from false b (inl h) = absurd cc
either_from false b (inr h) = h

in_range_ok : {A : Type 0} (items : List (ℕ × A)) (size : ℕ) (handler : Handler) → is_in_range (starts_of items) size handler ≡ true → IsInRange items size handler
in_range_ok items size handler h =
    let a = and_parts (ltb handler.start handler.end && begins items handler.start && (begins items handler.end || eqb handler.end size)) (begins items handler.target) h in
    let b = and_parts (ltb handler.start handler.end && begins items handler.start) (begins items handler.end || eqb handler.end size) a.0 in
    let c = and_parts (ltb handler.start handler.end) (begins items handler.start) b.0 in
    record { some = ltb-true handler.start handler.end c.0; start = c.1; end = ending (either_parts (begins items handler.end) (eqb handler.end size) b.1); target = a.1 }
  where
    ending : (begins items handler.end ≡ true) ⊎ (eqb handler.end size ≡ true) → Begins items handler.end ⊎ (handler.end ≡ size)
    ending (inl h) = inl h
    ending (inr h) = inr (eqb-true handler.end size h)

in_range_found : {A : Type 0} (items : List (ℕ × A)) (size : ℕ) (handler : Handler) → IsInRange items size handler → is_in_range (starts_of items) size handler ≡ true
in_range_found items size handler r =
    and_from (ltb handler.start handler.end && begins items handler.start && (begins items handler.end || eqb handler.end size)) (begins items handler.target)
    (and_from (ltb handler.start handler.end && begins items handler.start) (begins items handler.end || eqb handler.end size)
    (and_from (ltb handler.start handler.end) (begins items handler.start) (lt-ltb handler.start handler.end r.some) r.start)
    (either_from (begins items handler.end) (eqb handler.end size) (ending r.end))) r.target
  where
    ending : Begins items handler.end ⊎ (handler.end ≡ size) → (begins items handler.end ≡ true) ⊎ (eqb handler.end size ≡ true)
    ending (inl h) = inl h
    ending (inr h) = inr (eq-eqb handler.end size h)

handlers_ok : {A : Type 0} (items : List (ℕ × A)) (size number : ℕ) (handlers : List Handler) → handlers_fault (starts_of items) size number handlers ≡ None
    → AllByRecursion (IsInRange items size) handlers
handlers_ok items size number [] h = tt
handlers_ok items size number (handler ∷ others) h = go (handlers_ok items size (number + 1) others) (is_in_range (starts_of items) size handler) refl h where
  go : (handlers_fault (starts_of items) size (number + 1) others ≡ None → AllByRecursion (IsInRange items size) others)
      → (b : Bool) → is_in_range (starts_of items) size handler ≡ b → cond b (handlers_fault (starts_of items) size (number + 1) others) (Some (refusals.Range number)) ≡ None
      → AllByRecursion (IsInRange items size) (handler ∷ others)
  go more true is h = (in_range_ok items size handler is, more h)
  go more false is h = absurd cc

handlers_found : {A : Type 0} (items : List (ℕ × A)) (size number : ℕ) (handlers : List Handler) → AllByRecursion (IsInRange items size) handlers
    → handlers_fault (starts_of items) size number handlers ≡ None
handlers_found items size number [] h = refl
handlers_found items size number (handler ∷ others) h = rw (in_range_found items size handler h.0) (handlers_found items size (number + 1) others h.1)

unless_ok : {A : Type 0} (told : Option CodeRefusal) (x y : A) → unless_fault told x ≡ Ok y → (told ≡ None) × (x ≡ y)
unless_ok None x y h = (refl, ok_same x y h)
unless_ok (Some refusal) x y h = absurd cc

-- ---- the walk

walked : (read : Result (List (ℕ × Loose) × Place) CodeRefusal) (xs : List (ℕ × Loose)) → without_place read ≡ Ok xs → (q : Place) × (read ≡ Ok (xs, q))
walked (Ok x) xs h = let same : x.0 ≡ xs = ok_same x.0 xs h in (x.1, ap (λ (l : List (ℕ × Loose)). Ok (l, x.1)) same)
walked (Err refusal) xs h = absurd cc

pub walk_spelled : (code : List ℕ) (xs : List (ℕ × Loose)) → walk code ≡ Ok xs → Each SpellsLooseItem xs 0 code
unfolding walk
walk_spelled code xs h = let w = walked (values_of item code 0) xs h in values_found cut_item item SpellsLooseItem item_exact item_takes code 0 xs w.0 w.1

spelled_walk : (code : List ℕ) (xs : List (ℕ × Loose)) → Each SpellsLooseItem xs 0 code → walk code ≡ Ok xs
unfolding walk
spelled_walk code xs s = rw (values_only cut_item item SpellsLooseItem item_exact item_takes code 0 xs s) refl

within_from : (size at : ℕ) (xs : List (ℕ × Loose)) (bytes : List ℕ) → at + length bytes ≤ size → Each SpellsLooseItem xs at bytes → AreWithin size xs
within_from size at [] bytes le s = tt
within_from size at (x ∷ xs) bytes le s =
    let some = item_takes x at s.front s.begins in (
      omega (arith, le, s.begins.0, some, ap length s.parts, length-append s.front s.back),
      within_from size (at + length s.front) xs s.back (omega (arith, le, ap length s.parts, length-append s.front s.back)) s.ends,
    )

-- each instruction that is read begins in the code
pub walk_within : (code : List ℕ) (xs : List (ℕ × Loose)) → walk code ≡ Ok xs → AreWithin (length code) xs
walk_within code xs h = within_from (length code) 0 xs code (omega arith) (walk_spelled code xs h)

-- ---- the listing

pub decoded_lists : (listing : Listing) (code : List ℕ) (handlers : List Handler) → decoding code handlers ≡ Ok listing.items → Lists listing code handlers
unfolding decoding
decoded_lists listing code handlers h =
    let ys = listing.items in
    let w = and_then_ok (walk code) (listing_of (length code) handlers) ys h in
    let xs = w.0 in
    let spelled = walk_spelled code xs w.1 in
    let p = and_then_ok (each_of (placed_item (starts_of xs)) xs) (λ l. unless_fault (handlers_fault (starts_of xs) (length code) 0 handlers) l) ys w.2 in
    let u = unless_ok (handlers_fault (starts_of xs) (length code) 0 handlers) p.0 ys p.2 in
    let each : each_of (placed_item (starts_of xs)) xs ≡ Ok ys = p.1 ∙ ap (λ (l : List (ℕ × Instr)). Ok l) u.1 in
    let are = (items_placed xs xs ys 0 code spelled each).0 in
    let starts : starts_of xs ≡ starts_of ys = same_starts xs ys are in
    let again : each_of (placed_item (starts_of ys)) xs ≡ Ok ys = subst (λ (s : Starts). each_of (placed_item s) xs ≡ Ok ys) starts each in
    let none : handlers_fault (starts_of ys) (length code) 0 handlers ≡ None = subst (λ (s : Starts). handlers_fault s (length code) 0 handlers ≡ None) starts u.0 in
    record { instructions = spelled_items xs ys 0 code are spelled; targets = (items_placed ys xs ys 0 code spelled again).1; ranges = handlers_ok ys (length code) 0 handlers none }

pub listed_decodes : (listing : Listing) (code : List ℕ) (handlers : List Handler) → Lists listing code handlers → decoding code handlers ≡ Ok listing.items
unfolding decoding
listed_decodes listing code handlers h =
    let ys = listing.items in
    let r = read_items ys 0 code h.instructions in
    let xs = r.items in
    let starts : starts_of ys ≡ starts_of xs = sym (same_starts xs ys r.are) in
    let each : each_of (placed_item (starts_of xs)) xs ≡ Ok ys = subst (λ (s : Starts). each_of (placed_item s) xs ≡ Ok ys) starts (placed_items ys xs ys r.are h.targets) in
    let none : handlers_fault (starts_of xs) (length code) 0 handlers ≡ None =
    subst (λ (s : Starts). handlers_fault s (length code) 0 handlers ≡ None) starts (handlers_found ys (length code) 0 handlers h.ranges) in
    rw (spelled_walk code xs r.spelled, each, none) refl
