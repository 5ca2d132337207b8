use Rattle.std.proofs.Common.{map, string_bytes}
use Rattle.kb_dimacs_text.proofs.AnswerLaws.{owes_read, owes_unread}
use Rattle.kb_dimacs_text.proofs.running.run.Goals as goal

pub returns-in-Ok : goal.returns-in-Ok
returns-in-Ok g c =
    owes_read (map string_bytes c.args.words.now) c.args.input c.in-Ok.input c.as_slice.result.now (g.K.Sink.written c.args.out.now) (g.K.Sink.written c.answer.new.out)
    (g.K.Sink.faults c.args.out.now) (g.K.Sink.faults c.answer.new.out) c.answer.result c.in-Ok.is c.as_slice.ensures.value c.answer.ensures

pub returns-in-Err : goal.returns-in-Err
returns-in-Err g c =
    owes_unread (map string_bytes c.args.words.now) c.args.input c.in-Err.stop (g.K.Sink.written c.args.out.now) (g.K.Sink.written c.tell.new.out)
    (g.K.Sink.faults c.args.out.now) (g.K.Sink.faults c.tell.new.out) c.tell.result c.in-Err.is c.tell.ensures
