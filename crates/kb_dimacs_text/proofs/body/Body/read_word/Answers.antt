use Rattle.std.proofs.Common.{◌≡◌, refl, subst, sym, ◌∙◌, ap, arith}
use Rattle.std.specs.Prelude.{ℤ, pos}
use Rattle.std.proofs.lemmas.Int.{to_z-of_z}
use mir.Val.{to_z, of_z}
use mir.Syntax.{w32}
use Rattle.kb_chain.specs.Literal.{literal_of}
use Rattle.kb_dimacs_text.specs.Dimacs.{IsLiteral}
use Rattle.kb_dimacs_text.specs.Numbers.{SpellsDimacsNumber}
use Rattle.kb_dimacs_text.proofs.ClauseLaws.{next_number, number_fits, no_room, room_left, full_count, next_literal, next_clause, is_literal, within, same_number, bad_word, whole_clauses, high_variable, fine_word, not_all}
use Rattle.kb_dimacs_text.specs.declared.refusal.Cause.TheVariants.{NoNumber, HighVariable, MoreClauses}
use Rattle.kb_dimacs_text.proofs.body.Body.read_word.Goals as goal

pub returns-then-is_full-clause-bad : goal.returns-then-is_full-clause-bad
returns-then-is_full-clause-bad c = λ read held.
    let self = c.args.self.now in
    let full = full_count self c.is_full.result c.is_full.ensures c.if-is_full.true in (
      bad_word self.formula.vars self.count read c.args.word.now MoreClauses (held.clauses, whole_clauses self read held full),
      λ more clauses spells.
          let next = next_number self read more c.args.word.now clauses held spells in
          no_room self c.is_full.result c.is_full.ensures c.if-is_full.true next.room,
    )

pub returns-in_default-clause-bad : goal.returns-in_default-clause-bad
returns-in_default-clause-bad c = λ read held.
    let self = c.args.self.now in (
      bad_word self.formula.vars self.count read c.args.word.now NoNumber
          (not_all self read held (room_left self c.is_full.result c.is_full.ensures c.if-is_full.false), c.in_default.ensures),
      λ more clauses spells.
          let next = next_number self read more c.args.word.now clauses held spells in
          c.in_default.ensures next.number (number_fits self.formula.vars next.number self.small next.is) next.spelled,
    )

pub returns-then-number-eq0-clause-ok : goal.returns-then-number-eq0-clause-ok
returns-then-number-eq0-clause-ok c = λ read held.
    let zero = sym (to_z-of_z w32 c.in-Some.number c.in-Some.ensures.0) ∙ ap (to_z w32) c.if-number-eq0.true in
    let spells = subst (λ (n : ℤ). SpellsDimacsNumber n c.args.word.now) zero c.in-Some.ensures.1 in
    next_clause c.args.self.now c.end_clause.new.self read c.args.word.now held spells
    c.in_ok-end_clause.ensures.vars c.in_ok-end_clause.ensures.clauses c.in_ok-end_clause.ensures.count c.in_ok-end_clause.ensures.literals
    (room_left c.args.self.now c.is_full.result c.is_full.ensures c.if-is_full.false)

pub returns-in_default-literal_within-clause-bad : goal.returns-in_default-literal_within-clause-bad
returns-in_default-literal_within-clause-bad c = λ read held.
    let self = c.args.self.now in
    let number = c.in-Some.number in
    let again = to_z-of_z w32 number c.in-Some.ensures.0 in
    let none : (n : ℤ) → n ≡ number → IsLiteral self.formula.vars n → ⊥ = λ n same is.
    c.in_default-literal_within.ensures (within self.formula.vars c.vars.result n _ (sym c.vars.ensures) (same ∙ sym again) is) in (
      bad_word self.formula.vars self.count read c.args.word.now HighVariable
          (not_all self read held (room_left self c.is_full.result c.is_full.ensures c.if-is_full.false), number, c.in-Some.ensures.0, c.in-Some.ensures.1, high_variable self.formula.vars number (λ e. c.if-number-eq0.false (ap (of_z w32) e)) (none number refl)),
      λ more clauses spells.
          let next = next_number self read more c.args.word.now clauses held spells in
          let same = same_number next.number number c.args.word.now next.spelled c.in-Some.ensures.1 in
          none next.number same (is_literal self.formula.vars next.number next.is (λ e. c.if-number-eq0.false (ap (of_z w32) (sym same ∙ e)))),
    )

pub returns-clause-ok : goal.returns-clause-ok
returns-clause-ok c = λ read held.
    let same = to_z-of_z w32 c.in-Some.number c.in-Some.ensures.0 in
    next_literal c.args.self.now c.add_literal.new.self read c.args.word.now c.in-Some.number c.in-Some-literal_within.literal held c.in-Some.ensures.1
    (within c.vars.result c.args.self.now.formula.vars _ c.in-Some.number c.vars.ensures same c.in-Some-literal_within.ensures.1)
    (c.in-Some-literal_within.ensures.0 ∙ ap literal_of same) c.in_ok-add_literal.ensures.formula c.in_ok-add_literal.ensures.count c.in_ok-add_literal.ensures.literals
    (room_left c.args.self.now c.is_full.result c.is_full.ensures c.if-is_full.false)

pub returns-then-number-eq0-clause-fine : goal.returns-then-number-eq0-clause-fine
returns-then-number-eq0-clause-fine c = λ read held.
    let zero : c.in-Some.number ≡ pos 0 = sym (to_z-of_z w32 c.in-Some.number c.in-Some.ensures.0) ∙ ap (to_z w32) c.if-number-eq0.true in
    fine_word c.args.self.now read c.args.word.now c.in-Some.number held (room_left c.args.self.now c.is_full.result c.is_full.ensures c.if-is_full.false)
    c.in-Some.ensures.0 c.in-Some.ensures.1 (rw zero (omega arith))

pub returns-clause-fine : goal.returns-clause-fine
returns-clause-fine c = λ read held.
    let same = to_z-of_z w32 c.in-Some.number c.in-Some.ensures.0 in
    fine_word c.args.self.now read c.args.word.now c.in-Some.number held (room_left c.args.self.now c.is_full.result c.is_full.ensures c.if-is_full.false)
    c.in-Some.ensures.0 c.in-Some.ensures.1
    (within c.vars.result c.args.self.now.formula.vars _ c.in-Some.number c.vars.ensures same c.in-Some-literal_within.ensures.1).1
