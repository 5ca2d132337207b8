use Rattle.std.proofs.Common.{◌≡◌, ℤ, List, ap, ◌∙◌}
use Rattle.kb_blast.specs.Meaning.{listed_values}
use Rattle.kb_picture.specs.Instances.{variable_values, term_values}
use Rattle.kb_picture.proofs.InstanceLaws.{instance_exactly}
use Rattle.kb_picture.proofs.instance.is_instance.Goals as goal

pub returns : goal.returns
unfolding term_values
returns c =
    let variables : c.as_slice-2.result.now ≡ variable_values c.args.path.now.picture c.args.input.now c.args.places.now.objects =
    c.as_slice-2.ensures ∙ c.in_ok-variables.ensures ∙ ap (variable_values c.args.path.now.picture c.args.input.now) c.as_slice.ensures in
    let values : c.as_slice-4.result.now ≡ term_values c.args.path.now c.args.input.now c.args.places.now.objects =
    c.as_slice-4.ensures ∙ c.in_ok-terms.ensures ∙ ap (λ (vs : List ℤ). listed_values vs c.as_slice-3.result.now) variables
    ∙ ap (listed_values (variable_values c.args.path.now.picture c.args.input.now c.args.places.now.objects)) c.as_slice-3.ensures in
    let met = rw (values, c.as_slice-5.ensures) at c.are_met.ensures in
    instance_exactly c.args.path.now c.args.input.now c.args.places.now c.requires (c.in_ok-has_shape.ensures.0 c.if-not-branch.false) c.are_met.result met
