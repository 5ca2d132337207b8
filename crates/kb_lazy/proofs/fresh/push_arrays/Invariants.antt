use Rattle.std.proofs.Common.{◌≡◌, ◌++◌, map}
use Rattle.kb_names.specs.declared.types.ExactType.TheVariants as exact
use Rattle.kb_semantics.specs.Looks.{numbers_below}
use Rattle.kb_picture.specs.declared.choice.Choice.TheVariants.{Fresh}
use Rattle.kb_picture.specs.declared.picture.Length.TheVariants.{Is}
use Rattle.kb_lazy.proofs.fresh.push_arrays.Given as goal

abbrev pub invariant-loop-count : goal.invariant-loop-count
invariant-loop-count l =
    l.choices ≡ l.fn.choices ++ map (λ n. Fresh (exact.Array l.component) (Is n)) (numbers_below l.count)
