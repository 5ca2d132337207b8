use Rattle.std.proofs.Common.{true≢false, sym, ◌∙◌}
use Rattle.kb_numbers.proofs.NumberLaws.{keeps_self}
use Rattle.kb_numbers.proofs.TypedLaws.{ends_more, met_before, stays_self, type_there, types_stay}
use Rattle.kb_numbers.proofs.types.add_type.Goals as goal

pub returns-then-contains_key-clause-names : goal.returns-then-contains_key-clause-names
returns-then-contains_key-clause-names c = λ new. absurd (true≢false (sym (sym c.contains_key.ensures ∙ c.if-contains_key.true) ∙ new))

pub returns-clause-met : goal.returns-clause-met
returns-clause-met c = λ met. absurd (true≢false (sym met ∙ sym c.contains_key.ensures ∙ c.if-contains_key.false))

pub returns-clause-names : goal.returns-clause-names
returns-clause-names c = λ new. c.in_ok-add_names.ensures.names

pub returns-then-contains_key-clause-keeps : goal.returns-then-contains_key-clause-keeps
returns-then-contains_key-clause-keeps c = (keeps_self c.args.texts.now, stays_self c.args.types.now)

pub returns-then-contains_key-clause-ends : goal.returns-then-contains_key-clause-ends
returns-then-contains_key-clause-ends c = c.requires.0

pub returns-then-contains_key-clause-typed : goal.returns-then-contains_key-clause-typed
returns-then-contains_key-clause-typed c =
    met_before c.args.texts.now c.args.types.now c.args.kind.now c.args.number c.requires.0 c.requires.1 (sym c.contains_key.ensures ∙ c.if-contains_key.true)

pub returns-clause-keeps : goal.returns-clause-keeps
returns-clause-keeps c = (
  c.in_ok-add_names.ensures.keeps,
  types_stay c.args.texts.now c.add_names.new.texts c.in_ok-add_names.ensures.keeps c.tell_distinct.ensures c.args.types.now
      (record { parts = c.add_parts.new.parts; ends = c.insert.new.self; seen = c.insert-2.new.self }) c.in_ok-first.ensures.keeps c.requires.0 c.args.kind.now c.in_ok-first.first c.args.number c.requires.1
      c.in_ok-first.ensures.path c.in_ok-insert.ensures.updates.0 c.in_ok-insert-2.ensures.updates.0,
)

pub returns-clause-ends : goal.returns-clause-ends
returns-clause-ends c =
    ends_more c.args.texts.now c.add_names.new.texts c.in_ok-add_names.ensures.keeps c.tell_distinct.ensures c.args.types.now
    (record { parts = c.add_parts.new.parts; ends = c.insert.new.self; seen = c.insert-2.new.self }) c.in_ok-first.ensures.keeps c.requires.0 c.args.kind.now c.in_ok-first.first c.args.number c.requires.1
    c.in_ok-first.ensures.path c.in_ok-insert.ensures.updates.0 c.in_ok-insert-2.ensures.updates.0

pub returns-clause-typed : goal.returns-clause-typed
returns-clause-typed c =
    type_there c.args.texts.now c.add_names.new.texts c.in_ok-add_names.ensures.keeps c.tell_distinct.ensures c.args.types.now
    (record { parts = c.add_parts.new.parts; ends = c.insert.new.self; seen = c.insert-2.new.self }) c.in_ok-first.ensures.keeps c.requires.0 c.args.kind.now c.in_ok-first.first c.args.number c.requires.1
    c.in_ok-first.ensures.path c.in_ok-insert.ensures.updates.0 c.in_ok-insert-2.ensures.updates.0
