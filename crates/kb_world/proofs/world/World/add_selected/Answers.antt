use Rattle.std.proofs.Common.{◌≡◌, ℕ, List, Option, ◌∷◌, [], OnOk, sym, ap, subst, ◌∙◌}
use Rattle.std.specs.List.{filter_map}
use Rattle.std.specs.Option.{option_map}
use Rattle.kb_class.specs.declared.ids.MethodId.{MethodId}
use Rattle.kb_universe.specs.Marks.{class_types}
use Rattle.kb_world.specs.Calls.{called_on, if_code}
use Rattle.kb_universe.specs.Found.{FoundMethods}
use Rattle.kb_world.specs.Receivers.{called_among}
use Rattle.kb_world.specs.Walks.{with_all}
use Rattle.kb_world.proofs.Inside.{array_told}
use Rattle.kb_world.proofs.ReceiverLaws.{without_array, with_array}
use Rattle.kb_world.proofs.ReceiverNumbers.{by_numbers}
use Rattle.kb_world.proofs.world.World.add_selected.Goals as goal

pub returns-then-not-has_array_receiver : goal.returns-then-not-has_array_receiver
returns-then-not-has_array_receiver c =
    c.in_ok-add_for_classes.ensures
    ∙ ap (λ (os : List (Option ℕ)). with_all c.args.found.now (filter_map (if_code c.args.self.now) os))
    (by_numbers c.args.self.now c.has_array_receiver.ensures.linked c.args.of.now c.args.method.0 c.args.owner c.requires.owner)
    ∙ without_array c.args.self.now c.args.of.now c.args.method.0 c.has_array_receiver.ensures.linked.universe c.args.found.now (sym c.has_array_receiver.ensures.told ∙ c.if-not-has_array_receiver.true)

pub add_method-requires-clause-method : goal.add_method-requires-clause-method
add_method-requires-clause-method c = array_told c.args.self.now c.args.method.0 c.select_on_array.result c.select_on_array.ensures

pub returns : goal.returns
returns c =
    let both : with_all c.add_for_classes.new.found (filter_map (if_code c.args.self.now) (option_map (λ (id : MethodId). id.0) c.select_on_array.result ∷ []))
    ≡ with_all c.args.found.now (filter_map (if_code c.args.self.now) (called_on c.args.self.now c.args.of.now c.args.method.0)) =
    ap (λ (f : FoundMethods). with_all f (filter_map (if_code c.args.self.now) (option_map (λ (id : MethodId). id.0) c.select_on_array.result ∷ [])))
    (c.in_ok-add_for_classes.ensures
    ∙ ap (λ (os : List (Option ℕ)). with_all c.args.found.now (filter_map (if_code c.args.self.now) os))
    (by_numbers c.args.self.now c.has_array_receiver.ensures.linked c.args.of.now c.args.method.0 c.args.owner c.requires.owner))
    ∙ ap (λ (o : Option ℕ). with_all (with_all c.args.found.now (filter_map (if_code c.args.self.now) (called_among c.args.self.now c.args.of.now c.args.method.0 (class_types c.args.self.now.universe)))) (filter_map (if_code c.args.self.now) (o ∷ []))) c.select_on_array.ensures
    ∙ with_array c.args.self.now c.args.of.now c.args.method.0 c.has_array_receiver.ensures.linked.universe c.args.found.now (sym c.has_array_receiver.ensures.told ∙ c.if-not-has_array_receiver.false) in
    subst (λ (f : FoundMethods). OnOk c.add_method.result (c.add_method.new.found ≡ f)) both c.add_method.ensures
