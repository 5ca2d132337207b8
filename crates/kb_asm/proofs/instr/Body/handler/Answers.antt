use Rattle.kb_asm.proofs.instr.Body.handler.Goals as goal

pub returns-clause-handler : goal.returns-clause-handler
returns-clause-handler c = record {
  start = c.near-start.ensures;
  end = c.near-end.ensures;
  target = c.near-target.ensures;
  catch = c.in_ok-catch.ensures.number;
}
