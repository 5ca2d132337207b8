use Rattle.std.proofs.Common.{◌∙◌, sym, ap, replicate, Some, None}
use Rattle.kb_blast.proofs.Loops.{lookup-word}
use Rattle.kb_blast.proofs.terms.word_of.Goals as goal

pub returns-in-Some : goal.returns-in-Some
returns-in-Some c = sym (lookup-word c.args.vars.now.entries c.args.number (Some c.in-Some.word.now) c.in-Some.ensures.value)

pub returns-in-None : goal.returns-in-None
returns-in-None c = ap (λ l. replicate 32 l) c.new.ensures ∙ sym (lookup-word c.args.vars.now.entries c.args.number None c.in-None.ensures.value)
