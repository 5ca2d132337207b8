use Rattle.std.proofs.Common.{List, ◌++◌, sym, ap, ap₂, ◌∙◌}
use Rattle.kb_names.specs.declared.types.ExactType.{ExactType}
use Rattle.kb_class.specs.Class.{Class}
use Rattle.kb_classes.specs.Universe.{given_types}
use Rattle.kb_classes.specs.Mentions.{platform_types}
use Rattle.kb_classes.proofs.UniverseLaws.{is_universe}
use Rattle.kb_classes.proofs.universe.universe_with.Goals as goal

pub returns : goal.returns
returns c =
    let named = c.args.named.now in
    let first = c.push_given.new.universe in
    is_universe c.args.classes.now named c.args.arrays.now first c.push_platform.new.universe c.push_arrays.new.universe
    c.requires.2
    c.requires.1
    c.requires.3
    (c.in_ok-push_given.ensures ∙ ap₂ (λ (ts : List ExactType) (cs : List Class). ts ++ given_types cs) c.new-universe.ensures c.as_slice.ensures.same)
    (c.in_ok-push_platform.ensures ∙ ap (λ (cs : List Class). first ++ platform_types named cs) c.as_slice-2.ensures.same)
    (λ components simple e. c.in_ok-push_arrays.ensures components simple (e ∙ sym c.as_slice-3.ensures.value))
