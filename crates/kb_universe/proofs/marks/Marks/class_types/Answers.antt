use Rattle.std.proofs.Common.{◌≡◌, ◌≤◌, ℕ, List, length, take, sym, ap, ◌∙◌, arith}
use Rattle.std.proofs.lemmas.List.{length-take-le}
use Rattle.kb_names.specs.declared.types.ExactType.{ExactType}
use Rattle.kb_universe.specs.Marks.{class_types}
use Rattle.kb_universe.proofs.MarkLaws.{classes_few}
use Rattle.kb_universe.proofs.Members.{front_is}
use Rattle.kb_universe.proofs.marks.Marks.class_types.Goals as goal

pub slice_bounds-result-end : goal.slice_bounds-result-end
slice_bounds-result-end c =
    let universe = c.args.linked.now.universe in
    let few : length (class_types universe) ≤ length universe = classes_few universe in
    let same : length c.universe.result.now ≡ length universe = ap length c.universe.ensures in
    let are = c.requires.1.classes_are in
    sym (length-take-le c.args.self.now.classes c.universe.result.now (omega (arith, few, same, are)))

pub returns : goal.returns
returns c =
    ap (λ (ts : List ExactType). take c.args.self.now.classes ts) c.universe.ensures ∙ ap (λ (n : ℕ). take n c.args.linked.now.universe) c.requires.1.classes_are
    ∙ front_is c.args.linked.now c.requires.0.universe
