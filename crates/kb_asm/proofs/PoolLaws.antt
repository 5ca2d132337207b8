-- The pool of lines has what they need, each once.
use Rattle.std.proofs.Common.{◌≡◌, inl, inr, ℕ, Bool, true, false, eqb, if◌then◌else◌, List, [], ◌∷◌, ◌++◌, map, Option, None, Some, refl, sym, subst, flat_map}
use Rattle.std.specs.List.{list_any}
use Rattle.std.proofs.lemmas.Bool.{and_from}
use Rattle.std.proofs.lemmas.List.Sums.{fold-append}
use Rattle.kb_names.specs.Descriptors.{type_text, method_text}
use Rattle.kb_names.specs.declared.class_names.Spelling.TheVariants.{Raw}
use Rattle.kb_asm_text.specs.declared.line.Sizes.{Sizes}
use Rattle.kb_asm_text.specs.declared.line.Constant.{Constant}
use Rattle.kb_asm_text.specs.declared.line.Constant.TheVariants as constants
use Rattle.kb_asm_text.specs.declared.line.Operand.{Operand}
use Rattle.kb_asm_text.specs.declared.line.Operand.TheVariants as operands
use Rattle.kb_asm_text.specs.declared.line.BodyLine.{BodyLine}
use Rattle.kb_asm_text.specs.declared.line.BodyLine.TheVariants as bodies
use Rattle.kb_asm_text.specs.declared.line.Line.{Line}
use Rattle.kb_asm_text.specs.declared.line.Line.TheVariants as lines
use Rattle.kb_asm_pool.specs.declared.items.ReferenceKind.{ReferenceKind}
use Rattle.kb_asm_pool.specs.Says.{Says, text, int, class, string, name_type, member, same, added, all_added}
use Rattle.kb_asm_pool.specs.Needs.{class_needs, member_needs, constant_says, constant_needs, ref_name, operand_needs, code_needs, caught_needs, body_needs, line_needs}
use Rattle.kb_asm_check.specs.Limits.{ldc_says}
use Rattle.kb_asm.specs.Pool.{Has}
use Rattle.kb_asm.specs.Needs.{named, have, have_all, says_of}
use Rattle.kb_asm.proofs.SaysLaws.{here, there, which, none, in_front, in_back, in_parts, each_there, all_there, both_there, all_have, all_from}

-- ---- more and more lines

pub more_added : (f : Line → List Says) (line : Line) (others : List Line) (says : List Says)
    → all_added says (flat_map f (line ∷ others)) ≡ all_added (all_added says (f line)) (flat_map f others)
more_added f line others says = fold-append added says (f line) (flat_map f others)

-- ---- each need stands with those that it names

abbrev IsClosedList : List Says → Type 0
IsClosedList needs = (one : Says) → Has needs one → have needs (named one) ≡ true

closed_both : (xs ys : List Says) → IsClosedList xs → IsClosedList ys → IsClosedList (xs ++ ys)
closed_both xs ys p q one h =
    elim (in_parts xs ys one h) [
      | inl m ↦ all_there (xs ++ ys) (named one) (λ other n. in_front xs ys other (each_there xs (named one) other (p one m) n))
      | inr m ↦ all_there (xs ++ ys) (named one) (λ other n. in_back xs ys other (each_there ys (named one) other (q one m) n))
    ]

closed_text : (bytes : List ℕ) (needs : List Says) → IsClosedList needs → IsClosedList (text bytes ∷ needs)
closed_text bytes needs p one h =
    elim (which (text bytes) one needs h) [
      | inl e ↦ subst (λ (s : Says). have (text bytes ∷ needs) (named s) ≡ true) (sym e) refl
      | inr m ↦ all_there (text bytes ∷ needs) (named one) (λ other n. there (text bytes) other needs (each_there needs (named one) other (p one m) n))
    ]

closed_none : IsClosedList []
closed_none one h = absurd (none one h)

-- one behind all that it names
closed_last : (needs : List Says) (last : Says) → IsClosedList needs → have needs (named last) ≡ true → IsClosedList (needs ++ last ∷ [])
closed_last needs last p q one h =
    elim (in_parts needs (last ∷ []) one h) [
      | inl m ↦ all_there (needs ++ last ∷ []) (named one) (λ other n. in_front needs (last ∷ []) other (each_there needs (named one) other (p one m) n))
      | inr m ↦ elim (which last one [] m) [
        | inl e ↦ all_there (needs ++ last ∷ []) (named one) (λ other n. in_front needs (last ∷ []) other (each_there needs (named last) other q (subst (λ (s : Says). Has (named s) other) e n)))
        | inr n ↦ absurd (none one n)
      ]
    ]

closed_class : (name : List ℕ) → IsClosedList (class_needs name)
closed_class name = closed_last (text name ∷ []) (class name) (closed_text name [] closed_none) (and_from (list_any (same (text name)) (text name ∷ [])) true (here (text name) []) refl)

closed_member : (of : ReferenceKind) (owner name kind : List ℕ) → IsClosedList (member_needs of owner name kind)
closed_member of owner name kind =
    let four : List Says = text owner ∷ class owner ∷ text name ∷ text kind ∷ [] in
    let five : List Says = text owner ∷ class owner ∷ text name ∷ text kind ∷ name_type name kind ∷ [] in
    let a : IsClosedList (text owner ∷ class owner ∷ []) = closed_class owner in
    let b : IsClosedList (text name ∷ text kind ∷ []) = closed_text name (text kind ∷ []) (closed_text kind [] closed_none) in
    let c : IsClosedList four = closed_both (text owner ∷ class owner ∷ []) (text name ∷ text kind ∷ []) a b in
    let n : Has four (text name) = there (text owner) (text name) (class owner ∷ text name ∷ text kind ∷ []) (there (class owner) (text name) (text name ∷ text kind ∷ []) (here (text name) (text kind ∷ []))) in
    let k : Has four (text kind) = there (text owner) (text kind) (class owner ∷ text name ∷ text kind ∷ []) (there (class owner) (text kind) (text name ∷ text kind ∷ []) (there (text name) (text kind) (text kind ∷ []) (here (text kind) []))) in
    let d : IsClosedList five =
    closed_last four (name_type name kind) c (and_from (list_any (same (text name)) four) (have four (text kind ∷ [])) n (and_from (list_any (same (text kind)) four) true k refl)) in
    let o : Has five (class owner) = there (text owner) (class owner) (class owner ∷ text name ∷ text kind ∷ name_type name kind ∷ []) (here (class owner) (text name ∷ text kind ∷ name_type name kind ∷ [])) in
    let t : Has five (name_type name kind) = in_back four (name_type name kind ∷ []) (name_type name kind) (here (name_type name kind) []) in
    closed_last five (member of owner name kind) d (and_from (list_any (same (class owner)) five) (have five (name_type name kind ∷ [])) o (and_from (list_any (same (name_type name kind)) five) true t refl))

closed_int : (z : _) → IsClosedList (int z ∷ [])
closed_int z one h = elim (which (int z) one [] h) [ inl e ↦ subst (λ (s : Says). have (int z ∷ []) (named s) ≡ true) (sym e) refl | inr m ↦ absurd (none one m) ]

closed_constant : (of : Constant) → IsClosedList (constant_needs of)
closed_constant (constants.Int z) = closed_int z
closed_constant (constants.Text bytes) =
    closed_last (text bytes ∷ []) (string bytes) (closed_text bytes [] closed_none) (and_from (list_any (same (text bytes)) (text bytes ∷ [])) true (here (text bytes) []) refl)

closed_operand : (op : ℕ) (operand : Operand) → IsClosedList (operand_needs op operand)
closed_operand op (operands.Constant of) = closed_constant of
closed_operand op (operands.Field of) = closed_member _ of.class of.name (type_text Raw of.kind)
closed_operand op (operands.Method of) = closed_member _ of.class of.name (method_text Raw of.kind)
closed_operand op (operands.New name) = closed_class name
closed_operand op (operands.Type of) = closed_class (ref_name of)
closed_operand op operands.Alone = closed_none
closed_operand op (operands.Byte z) = closed_none
closed_operand op (operands.Short z) = closed_none
closed_operand op (operands.Local k) = closed_none
closed_operand op (operands.Increment k z) = closed_none
closed_operand op (operands.Primitive k) = closed_none
closed_operand op (operands.Target label) = closed_none
closed_operand op (operands.Table low default targets) = closed_none
closed_operand op (operands.Lookup default cases) = closed_none

closed_caught : (class : Option (List ℕ)) → IsClosedList (caught_needs class)
closed_caught None = closed_none
closed_caught (Some name) = closed_class name

closed_code : (sizes : Option Sizes) → IsClosedList (code_needs sizes)
closed_code None = closed_none
closed_code (Some sizes) = closed_text _ [] closed_none

closed_body : (line : BodyLine) → IsClosedList (body_needs line)
closed_body (bodies.Instr op operand) = closed_operand op operand
closed_body (bodies.Catch row) = closed_caught row.class
closed_body (bodies.Label label) = closed_none
closed_body (bodies.Raw byte) = closed_none

closed_line : (line : Line) → IsClosedList (line_needs line)
closed_line (lines.Class head) = closed_both (class_needs head.name) (class_needs head.parent) (closed_class head.name) (closed_class head.parent)
closed_line (lines.Implements name) = closed_class name
closed_line (lines.Field head) = closed_text head.name (text (type_text Raw head.kind) ∷ []) (closed_text (type_text Raw head.kind) [] closed_none)
closed_line (lines.Method head) =
    closed_text head.name (text (method_text Raw head.kind) ∷ code_needs head.sizes) (closed_text (method_text Raw head.kind) (code_needs head.sizes) (closed_code head.sizes))
closed_line (lines.Body line) = closed_body line
closed_line lines.End = closed_none

-- the text of a constant of an ldc line stands among the needs of that line
constant_named : (of : Constant) (one : Says) → Has (constant_says of ∷ []) one → have (constant_needs of) (named one) ≡ true
constant_named (constants.Int z) one h =
    elim (which (int z) one [] h) [ inl e ↦ subst (λ (s : Says). have (int z ∷ []) (named s) ≡ true) (sym e) refl | inr m ↦ absurd (none one m) ]
constant_named (constants.Text bytes) one h =
    elim (which (string bytes) one [] h) [
      | inl e ↦ subst (λ (s : Says). have (text bytes ∷ string bytes ∷ []) (named s) ≡ true) (sym e)
          (and_from (list_any (same (text bytes)) (text bytes ∷ string bytes ∷ [])) true (here (text bytes) (string bytes ∷ [])) refl)
      | inr m ↦ absurd (none one m)
    ]

ldc_named : (line : Line) (one : Says) → Has (ldc_says line) one → have (line_needs line) (named one) ≡ true
ldc_named (lines.Body (bodies.Instr op (operands.Constant of))) one h = go (eqb op 0x12) h
  where
    go : (b : Bool) → Has (map constant_says (if b then of ∷ [] else [])) one → have (constant_needs of) (named one) ≡ true
    go true h = constant_named of one h
    go false h = absurd (none one h)
ldc_named line one h = absurd (none one h)

-- what all of these have, a pool has that has all of the lines' needs
module _ (says : List Says) where
  through : (xs ys : List Says) → have says xs ≡ true → have xs ys ≡ true → have says ys ≡ true
  through xs ys p q = all_there says ys (λ one m. each_there says xs one p (each_there xs ys one q m))

  -- an entry that lines need, or ldc lines name
  needs_closed : (f : Line → List Says) → ((line : Line) (one : Says) → Has (f line) one → have (line_needs line) (named one) ≡ true)
      → (of : List Line) → have says (flat_map line_needs of) ≡ true → (one : Says) → Has (flat_map f of) one → have says (named one) ≡ true
  needs_closed f each [] p one h = absurd (none one h)
  needs_closed f each (line ∷ of) p one h =
      let q = both_there says (line_needs line) (flat_map line_needs of) p in
      elim (in_parts (f line) (flat_map f of) one h) [
        | inl m ↦ through (line_needs line) (named one) q.0 (each line one m)
        | inr m ↦ needs_closed f each of q.1 one m
      ]

  pub lines_have : (of : List Line) → have says (flat_map line_needs of) ≡ true → have_all says of ≡ true
  lines_have [] p = refl
  lines_have (line ∷ of) p =
      let q = both_there says (line_needs line) (flat_map line_needs of) p in
      and_from (have says (line_needs line)) (have_all says of) q.0 (lines_have of q.1)

-- ---- the pool of lines

abbrev pub firsts_of : List Line → List Says
firsts_of of = all_added [] (flat_map ldc_says of)

pub has_needs : (of : List Line) → have_all (says_of of) of ≡ true
has_needs of = lines_have (says_of of) of (all_have (firsts_of of) (flat_map line_needs of))

pub is_closed : (of : List Line) (one : Says) → Has (says_of of) one → have (says_of of) (named one) ≡ true
is_closed of one h =
    let needed : have (says_of of) (flat_map line_needs of) ≡ true = all_have (firsts_of of) (flat_map line_needs of) in
    elim (all_from (firsts_of of) (flat_map line_needs of) one h) [
      | inl m ↦ elim (all_from [] (flat_map ldc_says of) one m) [
        | inl n ↦ absurd (none one n)
        | inr n ↦ needs_closed (says_of of) ldc_says ldc_named of needed one n
      ]
      | inr m ↦ needs_closed (says_of of) line_needs closed_line of needed one m
    ]
