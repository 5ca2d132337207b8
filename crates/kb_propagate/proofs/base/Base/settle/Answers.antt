use Rattle.std.proofs.Common.{◌≡◌, ap, length, refl}
use Rattle.kb_chain.specs.Literal.{has}
use Rattle.kb_propagate.specs.Rows.{rows_of}
use Rattle.kb_propagate.specs.Watches.{pairs_of, Quiet}
use Rattle.kb_propagate.proofs.WatchLaws.{at_none}
use Rattle.kb_propagate.proofs.BaseLaws.{IsBase-propagated}
use Rattle.kb_propagate.proofs.base.Base.settle.Goals as goal

pub returns-in-Some-clause-keeps : goal.returns-in-Some-clause-keeps
returns-in-Some-clause-keeps c =
    let s = c.args.self.now in
    record {
      stands = IsBase-propagated s.formula.now s.entries s.clauses c.propagate.new.clauses s.watches.lists.items c.propagate.new.watches.lists.items
          s.trail c.propagate.new.trail s.whole c.requires.stands c.tell_trail.ensures c.in_ok-conflict.ensures.watching c.in_ok-conflict.ensures.listed c.in_ok-conflict.ensures.stays
          c.in_ok-conflict.ensures.grows c.in_ok-conflict.ensures.justified;
      rows = c.in_ok-conflict.ensures.reordered;
      entries = refl;
      formula = refl;
      whole = refl;
    }

pub returns-clause-keeps : goal.returns-clause-keeps
returns-clause-keeps c =
    let s = c.args.self.now in
    record {
      stands = IsBase-propagated s.formula.now s.entries s.clauses c.propagate.new.clauses s.watches.lists.items c.propagate.new.watches.lists.items
          s.trail c.propagate.new.trail s.whole c.requires.stands c.tell_trail.ensures c.in_ok-conflict.ensures.watching c.in_ok-conflict.ensures.listed c.in_ok-conflict.ensures.stays
          c.in_ok-conflict.ensures.grows c.in_ok-conflict.ensures.justified;
      rows = c.in_ok-conflict.ensures.reordered;
      entries = refl;
      formula = refl;
      whole = refl;
    }

pub returns-clause-settled : goal.returns-clause-settled
returns-clause-settled c =
    let s = c.args.self.now in
    let t = c.propagate.new.trail in
    let rows = rows_of c.propagate.new.clauses in
    let pairs = pairs_of c.propagate.new.clauses in
    let quiet : Quiet rows pairs (has t.literals) (has t.literals) =
    at_none c.in_ok-conflict.conflict (Quiet rows pairs (has t.literals) (has t.literals)) c.in_default.is c.in_ok-conflict.ensures.quiet in
    let at : length c.literals.result.now ≡ length t.literals = ap length c.literals.ensures.value in
    record { head = at; quiet = quiet }
