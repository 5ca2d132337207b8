use Rattle.std.proofs.Common.{rules, ◌≡◌, length, ap, ◌∙◌}
use Rattle.kb_blast.specs.Meaning.{listed_values}
use Rattle.kb_picture.specs.Instances.{variable_values}
use Rattle.kb_picture.proofs.WriteLaws.{read_by}
use Rattle.kb_picture.proofs.ending.reading_of.Goals as goal

pub returns : goal.returns
returns c =
    let variables : c.in_ok-variables.variables ≡ variable_values c.args.path.now.picture c.args.input.now c.args.places.now.objects =
    c.in_ok-variables.ensures ∙ ap (variable_values c.args.path.now.picture c.args.input.now) c.as_slice.ensures in
    let terms : c.in_ok-terms.terms ≡ listed_values c.in_ok-variables.variables c.args.path.now.terms = rw (c.as_slice-2.ensures, c.as_slice-3.ensures) at c.in_ok-terms.ensures in
    let inputs : c.in-Ok.inputs ≡ length c.args.input.now.heap.objects = search rules in
    read_by c.args.world.now c.args.path.now c.args.input.now c.args.places.now c.in_ok-variables.variables c.in_ok-terms.terms c.in-Ok.inputs c.literals.result
    c.requires variables terms inputs c.literals.ensures
