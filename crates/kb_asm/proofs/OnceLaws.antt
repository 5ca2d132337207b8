-- No entry of the pool of lines stands twice, each is needed, and the constants of ldc lines are the first.
use Rattle.std.proofs.Common.{◌≡◌, inl, inr, ℕ, zero, suc, ◌+◌, ◌-◌, ◌<◌, ◌≤◌, Bool, true, false, eqb, if◌then◌else◌, List, [], ◌∷◌, length, map, slice_get, Option, None, Some, refl, sym, ap, subst, ◌∙◌, arith, flat_map}
use Rattle.std.specs.Option.{option_map, option_and_then}
use Rattle.std.proofs.lemmas.List.{length-map}
use Rattle.std.proofs.lemmas.Option.{slice_get_within, slice_get-map}
use Rattle.kb_classfile.specs.declared.file.PoolEntry.{PoolEntry}
use Rattle.kb_classfile.specs.declared.file.PoolEntry.TheVariants as entries
use Rattle.kb_classfile.specs.Pool.{entry_at, text_of}
use Rattle.kb_asm_text.specs.declared.line.Constant.{Constant}
use Rattle.kb_asm_text.specs.declared.line.Constant.TheVariants as constants
use Rattle.kb_asm_text.specs.declared.line.Operand.TheVariants as operands
use Rattle.kb_asm_text.specs.declared.line.BodyLine.TheVariants as bodies
use Rattle.kb_asm_text.specs.declared.line.Line.{Line}
use Rattle.kb_asm_text.specs.declared.line.Line.TheVariants as lines
use Rattle.kb_asm_pool.specs.declared.items.ReferenceKind.{ReferenceKind}
use Rattle.kb_asm_pool.specs.declared.items.ReferenceKind.TheVariants as kinds
use Rattle.kb_texts.specs.Texts.{AreDistinct}
use Rattle.kb_asm_pool.specs.Says.{Says, text, int, class, string, name_type, member}
use Rattle.kb_asm_pool.specs.Entries.{entry_of, entries_of}
use Rattle.kb_asm_pool.specs.Needs.{constant_says, constant_needs, line_needs}
use Rattle.kb_asm_check.specs.Limits.{ldc_says}
use Rattle.kb_asm.specs.Pool.{Has, HasFirst, IsPoolOf}
use Rattle.kb_asm.specs.Entries.{SaysText, SaysClass, SaysNameType, EntrySays}
use Rattle.kb_asm.specs.Needs.{named, have, says_of}
use Rattle.kb_asm.proofs.SaysLaws.{there, none, in_front, in_back, in_parts, each_there, all_have, all_from, from_place, placed, keeps_all, distinct_all, distinct_none}
use Rattle.kb_asm.proofs.EntryLaws.{says_at, same_entry}
use Rattle.kb_asm.proofs.PoolLaws.{firsts_of, is_closed}

-- ---- an entry says one thing

abbrev text_in : List PoolEntry → ℕ → Option (List ℕ)
text_in pool number = option_and_then text_of (entry_at pool number)

abbrev name_in : List PoolEntry → PoolEntry → Option (List ℕ)
name_in pool (entries.Class at) = text_in pool at
name_in pool _ = None

abbrev class_in : List PoolEntry → ℕ → Option (List ℕ)
class_in pool number = option_and_then (name_in pool) (entry_at pool number)

abbrev both : Option (List ℕ) → Option (List ℕ) → Option (List ℕ × List ℕ)
both (Some a) (Some b) = Some (a, b)
both _ _ = None

abbrev pair_of : List PoolEntry → PoolEntry → Option (List ℕ × List ℕ)
pair_of pool (entries.NameType first second) = both (text_in pool first) (text_in pool second)
pair_of pool _ = None

abbrev pair_in : List PoolEntry → ℕ → Option (List ℕ × List ℕ)
pair_in pool number = option_and_then (pair_of pool) (entry_at pool number)

abbrev member_of : ReferenceKind → Option (List ℕ) → Option (List ℕ × List ℕ) → Option Says
member_of of (Some owner) (Some pair) = Some (member of owner pair.0 pair.1)
member_of of _ _ = None

abbrev said_by : List PoolEntry → PoolEntry → Option Says
said_by pool (entries.Utf8 bytes) = Some (text bytes)
said_by pool (entries.Integer value) = Some (int value)
said_by pool (entries.Class at) = option_map class (text_in pool at)
said_by pool (entries.Str at) = option_map string (text_in pool at)
said_by pool (entries.NameType first second) = option_map (λ (p : List ℕ × List ℕ). name_type p.0 p.1) (both (text_in pool first) (text_in pool second))
said_by pool (entries.Field first second) = member_of kinds.Field (class_in pool first) (pair_in pool second)
said_by pool (entries.Method first second) = member_of kinds.Method (class_in pool first) (pair_in pool second)
said_by pool (entries.InterfaceMethod first second) = member_of kinds.InterfaceMethod (class_in pool first) (pair_in pool second)
said_by pool _ = None

abbrev said_at : List PoolEntry → ℕ → Option Says
said_at pool number = option_and_then (said_by pool) (entry_at pool number)

module _ (pool : List PoolEntry) where
  is_text_in : (bytes : List ℕ) (number : ℕ) → SaysText pool bytes number → text_in pool number ≡ Some bytes
  is_text_in bytes number s = ap (λ (o : Option PoolEntry). option_and_then text_of o) s

  is_class_in : (name : List ℕ) (number : ℕ) → SaysClass pool name number → class_in pool number ≡ Some name
  is_class_in name number s = ap (λ (o : Option PoolEntry). option_and_then (name_in pool) o) s.1 ∙ is_text_in name s.0 s.2

  is_both : (a b : List ℕ) (first second : ℕ) → SaysText pool a first → SaysText pool b second → both (text_in pool first) (text_in pool second) ≡ Some (a, b)
  is_both a b first second s t =
      ap (λ (o : Option (List ℕ)). both o (text_in pool second)) (is_text_in a first s) ∙ ap (λ (o : Option (List ℕ)). both (Some a) o) (is_text_in b second t)

  is_pair_in : (a b : List ℕ) (number : ℕ) → SaysNameType pool a b number → pair_in pool number ≡ Some (a, b)
  is_pair_in a b number s = ap (λ (o : Option PoolEntry). option_and_then (pair_of pool) o) s.2 ∙ is_both a b s.0 s.1 s.3 s.4

  is_member : (of : ReferenceKind) (owner name kind : List ℕ) (first second : ℕ) → SaysClass pool owner first → SaysNameType pool name kind second
      → member_of of (class_in pool first) (pair_in pool second) ≡ Some (member of owner name kind)
  is_member of owner name kind first second s t =
      ap (λ (o : Option (List ℕ)). member_of of o (pair_in pool second)) (is_class_in owner first s)
      ∙ ap (λ (o : Option (List ℕ × List ℕ)). member_of of (Some owner) o) (is_pair_in name kind second t)

  is_said : (one : Says) (number : ℕ) → EntrySays pool one number → said_at pool number ≡ Some one
  is_said (text bytes) number s = ap (λ (o : Option PoolEntry). option_and_then (said_by pool) o) s
  is_said (int value) number s = ap (λ (o : Option PoolEntry). option_and_then (said_by pool) o) s
  is_said (class name) number s =
      ap (λ (o : Option PoolEntry). option_and_then (said_by pool) o) s.1 ∙ ap (λ (o : Option (List ℕ)). option_map class o) (is_text_in name s.0 s.2)
  is_said (string of) number s =
      ap (λ (o : Option PoolEntry). option_and_then (said_by pool) o) s.1 ∙ ap (λ (o : Option (List ℕ)). option_map string o) (is_text_in of s.0 s.2)
  is_said (name_type name kind) number s =
      ap (λ (o : Option PoolEntry). option_and_then (said_by pool) o) s.2
      ∙ ap (λ (o : Option (List ℕ × List ℕ)). option_map (λ (p : List ℕ × List ℕ). name_type p.0 p.1) o) (is_both name kind s.0 s.1 s.3 s.4)
  is_said (member kinds.Field owner name kind) number s =
      ap (λ (o : Option PoolEntry). option_and_then (said_by pool) o) s.2 ∙ is_member kinds.Field owner name kind s.0 s.1 s.3 s.4
  is_said (member kinds.Method owner name kind) number s =
      ap (λ (o : Option PoolEntry). option_and_then (said_by pool) o) s.2 ∙ is_member kinds.Method owner name kind s.0 s.1 s.3 s.4
  is_said (member kinds.InterfaceMethod owner name kind) number s =
      ap (λ (o : Option PoolEntry). option_and_then (said_by pool) o) s.2 ∙ is_member kinds.InterfaceMethod owner name kind s.0 s.1 s.3 s.4

  says_one : (one other : Says) (number : ℕ) → EntrySays pool one number → EntrySays pool other number → one ≡ other
  says_one one other number s t = let e : Some one ≡ Some other = sym (is_said one number s) ∙ is_said other number t in cc

-- ---- no entry twice

entry_behind : (says : List Says) (place : ℕ) (entry : PoolEntry) → slice_get (map (entry_of says) says) place ≡ Some entry → (one : Says) × (slice_get says place ≡ Some one)
entry_behind says place entry e = go (slice_get says place) refl (sym (slice_get-map (entry_of says) says place) ∙ e)
  where
    go : (o : Option Says) → slice_get says place ≡ o → option_map (entry_of says) o ≡ Some entry → (one : Says) × (slice_get says place ≡ Some one)
    go None a b = absurd cc
    go (Some one) a b = (one, a)

once_each : (says : List Says) → ((one : Says) → Has says one → have says (named one) ≡ true) → AreDistinct says
    → (one other : ℕ) (entry : PoolEntry) → entry_at (entries_of says) one ≡ Some entry → entry_at (entries_of says) other ≡ Some entry → one ≡ other
once_each says closed distinct zero other entry e f = absurd cc
once_each says closed distinct (suc p) zero entry e f = absurd cc
once_each says closed distinct (suc p) (suc q) entry e f =
    let a = entry_behind says p entry e in
    let b = entry_behind says q entry f in
    let p1 : p + 1 ≡ suc p = omega arith in
    let q1 : q + 1 ≡ suc q = omega arith in
    let pool = entries_of says in
    let s : EntrySays pool a.0 (suc p) = subst (EntrySays pool a.0) p1 (says_at says closed a.0 p (from_place says p a.0 a.1) a.1) in
    let t : EntrySays pool b.0 (suc q) = subst (EntrySays pool b.0) q1 (says_at says closed b.0 q (from_place says q b.0 b.1) b.1) in
    let one : a.0 ≡ b.0 = says_one pool a.0 b.0 (suc p) s (same_entry pool b.0 (suc q) (suc p) (f ∙ sym e) t) in
    ap suc (distinct p q b.0 (a.1 ∙ ap (λ (x : Says). Some x) one) b.1)

-- ---- needed, and first

ldc_needed : (line : Line) (one : Says) → Has (ldc_says line) one → Has (line_needs line) one
ldc_needed (lines.Body (bodies.Instr op (operands.Constant of))) one h = go (eqb op 0x12) h
  where
    constant : (of : Constant) → Has (constant_says of ∷ []) one → Has (constant_needs of) one
    constant (constants.Int z) h = h
    constant (constants.Text bytes) h = there (text bytes) one (string bytes ∷ []) h

    go : (b : Bool) → Has (map constant_says (if b then of ∷ [] else [])) one → Has (constant_needs of) one
    go true h = constant of h
    go false h = absurd (none one h)
ldc_needed line one h = absurd (none one h)

ldcs_needed : (of : List Line) (one : Says) → Has (flat_map ldc_says of) one → Has (flat_map line_needs of) one
ldcs_needed [] one h = h
ldcs_needed (line ∷ of) one h =
    elim (in_parts (ldc_says line) (flat_map ldc_says of) one h) [
      | inl m ↦ in_front (line_needs line) (flat_map line_needs of) one (ldc_needed line one m)
      | inr m ↦ in_back (line_needs line) (flat_map line_needs of) one (ldcs_needed of one m)
    ]

pub is_needed : (of : List Line) (one : Says) → Has (says_of of) one → Has (flat_map line_needs of) one
is_needed of one h =
    elim (all_from (firsts_of of) (flat_map line_needs of) one h) [
      | inl m ↦ elim (all_from [] (flat_map ldc_says of) one m) [ inl n ↦ absurd (none one n) | inr n ↦ ldcs_needed of one n ]
      | inr m ↦ m
    ]

place_there : (says : List Says) (place : ℕ) → place < length says → (one : Says) × (slice_get says place ≡ Some one)
place_there [] place h = absurd (omega (arith, h))
place_there (one ∷ says) zero h = (one, refl)
place_there (one ∷ says) (suc place) h = place_there says place (omega (arith, h))

-- the entry of a number says one of the list at the place before it
module _ (of : List Line) where
  of_number : (number : ℕ) → 1 ≤ number → number ≤ length (says_of of)
      → (one : Says) × (slice_get (says_of of) (number - 1) ≡ Some one) × Has (says_of of) one × EntrySays (entries_of (says_of of)) one number
  of_number number low high =
      let p = place_there (says_of of) (number - 1) (omega arith) in
      let back : number - 1 + 1 ≡ number = omega arith in
      let h = from_place (says_of of) (number - 1) p.0 p.1 in
      (p.0, p.1, h, subst (EntrySays (entries_of (says_of of)) p.0) back (says_at (says_of of) (is_closed of) p.0 (number - 1) h p.1))

  have_first : HasFirst (entries_of (says_of of)) (flat_map ldc_says of)
  have_first = record {
    count = length (firsts_of of);
    each = λ one h.
        let p = placed (firsts_of of) one (each_there (firsts_of of) (flat_map ldc_says of) one (all_have [] (flat_map ldc_says of)) h) in
        let within : p.0 < length (firsts_of of) = slice_get_within (firsts_of of) p.0 one p.1 in
        let at : slice_get (says_of of) p.0 ≡ Some one = keeps_all (firsts_of of) (flat_map line_needs of) p.0 one p.1 in
        (p.0 + 1, omega arith, omega arith, says_at (says_of of) (is_closed of) one p.0 (from_place (says_of of) p.0 one at) at);
    only = λ number low high.
        let p = place_there (firsts_of of) (number - 1) (omega arith) in
        let at : slice_get (says_of of) (number - 1) ≡ Some p.0 = keeps_all (firsts_of of) (flat_map line_needs of) (number - 1) p.0 p.1 in
        let back : number - 1 + 1 ≡ number = omega arith in
        let s = says_at (says_of of) (is_closed of) p.0 (number - 1) (from_place (says_of of) (number - 1) p.0 at) at in (
          p.0,
          elim (all_from [] (flat_map ldc_says of) p.0 (from_place (firsts_of of) (number - 1) p.0 p.1)) [ inl n ↦ absurd (none p.0 n) | inr n ↦ n ],
          subst (EntrySays (entries_of (says_of of)) p.0) back s,
        );
  }

  pub is_pool : IsPoolOf of (entries_of (says_of of))
  is_pool = record {
    once = once_each (says_of of) (is_closed of) (distinct_all (firsts_of of) (flat_map line_needs of) (distinct_all [] (flat_map ldc_says of) distinct_none));
    there = λ one h.
        let m : Has (says_of of) one = each_there (says_of of) (flat_map line_needs of) one (all_have (firsts_of of) (flat_map line_needs of)) h in
        let p = placed (says_of of) one m in
        (p.0 + 1, says_at (says_of of) (is_closed of) one p.0 m p.1);
    needed = λ number low high.
        let few : number ≤ length (says_of of) = omega (arith, length-map (says_of of) (entry_of (says_of of))) in
        let n = of_number number low few in
        (n.0, is_needed of n.0 n.2, n.3);
    first = have_first;
  }
