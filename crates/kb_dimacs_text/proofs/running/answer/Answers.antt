use Rattle.std.proofs.Common.{map, string_bytes}
use Rattle.kb_dimacs_text.proofs.AnswerLaws.{owes_answer}
use Rattle.kb_dimacs_text.proofs.running.answer.Goals as goal

pub returns-in-Ok : goal.returns-in-Ok
returns-in-Ok g c =
    owes_answer (map string_bytes c.args.words.now) c.args.input.now c.in-Ok.answer.status (string_bytes c.in-Ok.answer.text) c.as_str.result.now
    (g.K.Sink.written c.args.out.now) (g.K.Sink.written c.send.new.out) (g.K.Sink.faults c.args.out.now) (g.K.Sink.faults c.send.new.out) c.send.result
    c.in-Ok.ensures.answers c.as_str.ensures.value c.send.ensures
