use Rattle.std.proofs.Common.{◌≡◌, ◌++◌, ℕ, List, map, take}
use Rattle.kb_dimacs_text.specs.Fronts.{HoldsWords, AreFine}
use Rattle.kb_dimacs_text.proofs.body.Body.read_words.Given as goal

abbrev pub invariant-loop-word : goal.invariant-loop-word
invariant-loop-word l = record {
  vars : l.self.formula.vars ≡ l.initial.self.formula.vars;
  count : l.self.count ≡ l.initial.self.count;
  held : (read : List (List ℕ)) → HoldsWords l.initial.self read → HoldsWords l.self (read ++ map (λ w. w.now) (take l.word-index l.words));
  fine : (read : List (List ℕ)) → HoldsWords l.initial.self read
      → AreFine l.initial.self.formula.vars l.initial.self.count read (map (λ w. w.now) (take l.word-index l.words));
}
