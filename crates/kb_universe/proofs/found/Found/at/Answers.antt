use Rattle.std.proofs.Common.{◌≡◌, ◌<◌, slice_get, IfSome, sym, ap, subst, ◌∙◌, arith}
use Rattle.std.proofs.lemmas.Grind.{common_steps}
use Rattle.std.proofs.lemmas.Option.{gets}
use Rattle.kb_universe.specs.Found.{FoundMethods}
use Rattle.kb_universe.proofs.FoundMarks.{told_inside}
use Rattle.kb_universe.proofs.found.Found.at.Goals as goal

pub returns-clause-there : goal.returns-clause-there
returns-clause-there c = grind (arith, common_steps, gets)

pub returns-clause-inside : goal.returns-clause-inside
returns-clause-inside c =
    let there : c.copied.result ≡ slice_get c.self.inside.numbers.items c.args.place =
    returns-clause-there c ∙ ap (λ (f : FoundMethods). slice_get f.numbers c.args.place) (sym c.self.view_is) in
    subst (λ (f : FoundMethods). IfSome c.copied.result (λ n. (n < f.all) × (c.args.place < f.all))) c.self.view_is
    (told_inside c.self.inside.numbers.items c.self.inside.marks.items c.args.place c.copied.result c.self.invariant there)
