use Rattle.kb_writer.proofs.InstrLaws.{size_is, spells, on_ok}
use Rattle.kb_writer.proofs.instr_writer.write_instr.Goals as goal

pub returns-clause-size : goal.returns-clause-size
returns-clause-size c = size_is c.args.written.now c.args.at

pub returns-clause-spelled : goal.returns-clause-spelled
returns-clause-spelled c =
    on_ok c.push_instr.result (λ numbers instr w. spells c.args.written.now c.args.at numbers c.requires.sound c.requires.reached instr w) c.push_instr.ensures.numbers
