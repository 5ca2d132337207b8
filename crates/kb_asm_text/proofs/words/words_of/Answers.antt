use Rattle.std.proofs.Common.{List, ℕ, [], ◌∷◌, ◌++◌, ◌∙◌, ap}
use Rattle.kb_asm_text.proofs.WordLaws.{led_next, led_last}
use Rattle.kb_asm_text.proofs.words.words_of.Goals as goal

pub loop-word-preserved : goal.loop-word-preserved
loop-word-preserved c =
    led_next c.loop-word.words c.push.new.self c.args.line.now c.loop-word.rest.now c.in-Some.word.now c.in-Some.others.now c.loop-word.invariant
    c.in-Some.ensures.0 c.in-Some.ensures.1 (c.in_ok-push.ensures.ok ∙ ap (λ (w : List ℕ). c.loop-word.words ++ w ∷ []) c.in_ok-word_row.ensures)

pub returns : goal.returns
returns c =
    led_last c.loop-word.words c.push-2.new.self c.args.line.now c.loop-word.rest.now c.loop-word.invariant c.in_default.ensures
    (c.in_ok-push-2.ensures.ok ∙ ap (λ (w : List ℕ). c.loop-word.words ++ w ∷ []) c.in_ok-word_row-2.ensures)
