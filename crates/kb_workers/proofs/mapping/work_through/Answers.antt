use Rattle.std.proofs.Common.{List, Ok, ◌++◌, sym, subst}
use Rattle.std.proofs.lemmas.List.Elements.{All-rest}
use Rattle.kb_workers.specs.Mapped.{AreMapped}
use Rattle.kb_workers.proofs.MappedLaws.{answered_more, answered_all}
use Rattle.kb_workers.proofs.mapping.work_through.Goals as goal

pub loop-numbered-preserved : goal.loop-numbered-preserved
loop-numbered-preserved g c = record {
  accepted = All-rest (λ (piece : g.row.T.Denot). g.F.Fn.pre c.args.work.now (piece, tt)) c.in-Some.numbered c.pop_front.new.self c.loop-numbered.hand c.in-Some.ensures.some c.loop-numbered.invariant.accepted;
  goes_on = λ more rest.
      subst (λ (answers : List g.row.R.Denot). AreMapped (λ (piece : g.row.T.Denot) (answer : g.row.R.Denot). g.F.Fn.post c.args.work.now (piece, tt) (Ok answer)) c.args.hand (answers ++ more)) (sym c.in_ok-push_back.ensures)
      (answered_more (λ (piece : g.row.T.Denot) (answer : g.row.R.Denot). g.F.Fn.post c.args.work.now (piece, tt) (Ok answer)) c.loop-numbered.hand c.pop_front.new.self c.args.hand c.in-Some.numbered c.in_ok-work_on.field-0 c.loop-numbered.answers
      c.in-Some.ensures.some c.in_ok-work_on.ensures c.loop-numbered.invariant.goes_on more rest);
}

pub returns : goal.returns
returns g c =
    answered_all (λ (piece : g.row.T.Denot) (answer : g.row.R.Denot). g.F.Fn.post c.args.work.now (piece, tt) (Ok answer)) c.loop-numbered.hand c.args.hand c.loop-numbered.answers
    c.in_default.ensures.none c.loop-numbered.invariant.goes_on
