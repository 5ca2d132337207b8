use Rattle.std.proofs.Common.{ℕ, List}
use Rattle.std.specs.Prelude.{codes}
use Rattle.kb_test_lines.specs.declared.words.Word.{Word}
use Rattle.kb_test_lines.specs.declared.lines.Listed.{Listed}
use Rattle.kb_test_lines.specs.declared.lines.Line.{Line}
use Rattle.kb_test_lines.specs.declared.lines.Line.TheVariants.{Method, Limit, Arg, In, Ends, Out, New, End}
use Rattle.kb_test_lines.specs.Lines.{line_text, SpellsObjectLine, SpellsOutLine, SpellsHeapLine}
use Rattle.kb_grammar.proofs.ReadLaws.{none_read}
use Rattle.kb_test_lines.proofs.lines.read_heap_line.Goals as goal

none_spelled : (text : List ℕ) → ((parts : ℕ × Listed) → SpellsObjectLine (codes "in i") parts text → ⊥) → ((parts : ℕ × List Word) → SpellsOutLine parts text → ⊥)
    → ((parts : ℕ × Listed) → SpellsObjectLine (codes "new n") parts text → ⊥) → (line : Line) → SpellsHeapLine line text → ⊥
unfolding line_text
none_spelled text ins outs news (Method target) spells = spells.0
none_spelled text ins outs news (Limit bounds) spells = spells.0
none_spelled text ins outs news (Arg word) spells = spells.0
none_spelled text ins outs news (In number listed) spells = ins (number, listed) (spells.1.0.0, (spells.1.0.1, spells.1.1))
none_spelled text ins outs news (Ends outcome) spells = spells.0
none_spelled text ins outs news (Out number words) spells = outs (number, words) spells.1
none_spelled text ins outs news (New number listed) spells = news (number, listed) (spells.1.0.0, (spells.1.0.1, spells.1.1))
none_spelled text ins outs news End spells = spells.0

pub returns-in-None : goal.returns-in-None
returns-in-None c =
    none_spelled c.args.line.now (none_read (SpellsObjectLine (codes "in i")) c.args.line.now c.in_ok-number.field-0 c.in_default.is c.in_ok-number.ensures)
    (none_read SpellsOutLine c.args.line.now c.in_ok-number-2.field-0 c.in_default-2.is c.in_ok-number-2.ensures)
    (none_read (SpellsObjectLine (codes "new n")) c.args.line.now c.in_ok-number-3.field-0 c.in-None.is c.in_ok-number-3.ensures)
