use Rattle.std.proofs.Common.{sym, ◌∙◌, subst}
use Rattle.kb_grammar.specs.Numbers.{SpellsInt}
use Rattle.kb_grammar.proofs.WordLaws.{same_cut, not_lacking}
use Rattle.kb_asm_text.specs.Tokens.{SpellsLabel}
use Rattle.kb_asm_text.proofs.switches.read_case.Goals as goal

pub returns-in_default : goal.returns-in_default
returns-in_default c = λ case h. not_lacking 58 h.key h.target c.args.word.now c.in_default.ensures (sym h.is)

pub returns-in_default-read_int : goal.returns-in_default-read_int
returns-in_default-read_int c = λ case h.
    let cuts = same_cut 58 h.key c.in-Some.key.now h.target c.in-Some.target.now h.no_colon c.in-Some.ensures.0 (sym h.is ∙ c.in-Some.ensures.1) in
    c.in_default-read_int.ensures case.key (subst (SpellsInt case.key) cuts.0 h.key_is)

pub returns-in-None : goal.returns-in-None
returns-in-None c = λ case h.
    let cuts = same_cut 58 h.key c.in-Some.key.now h.target c.in-Some.target.now h.no_colon c.in-Some.ensures.0 (sym h.is ∙ c.in-Some.ensures.1) in
    (rw c.in-None.is at c.in_ok-target.ensures) case.target (subst (SpellsLabel case.target) cuts.1 h.target_is)
