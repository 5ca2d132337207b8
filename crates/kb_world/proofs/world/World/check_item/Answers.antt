use Rattle.std.proofs.Common.{◌≡◌, sym, ap, ◌∙◌, None, Some}
use Rattle.kb_classes.proofs.Firsts.{on_ok}
use Rattle.kb_world.specs.Calls.{use_fault, use_mentions, fault_of, mentions}
use Rattle.kb_world.specs.Walks.{with_all}
use Rattle.kb_world.proofs.Items.{use_is, none_mentioned, use_stops, if_err}
use Rattle.kb_world.proofs.world.World.check_item.Goals as goal

pub returns-in-Some-clause-none : goal.returns-in-Some-clause-none
returns-in-Some-clause-none c =
    let is = use_is c.args.self.now c.args.class.0 c.args.item.now.1 (c.in-Some.usage, c.in-Some.entry) c.in-Some.ensures in
    on_ok c.check_use.result (use_fault c.args.self.now c.args.class.0 c.in-Some.usage c.in-Some.entry ≡ None) (fault_of c.args.self.now c.args.class.0 c.args.item.now.1 ≡ None) (λ none. is.0 ∙ none)
    c.check_use.ensures.none

pub returns-in-Some-clause-added : goal.returns-in-Some-clause-added
returns-in-Some-clause-added c =
    let is = use_is c.args.self.now c.args.class.0 c.args.item.now.1 (c.in-Some.usage, c.in-Some.entry) c.in-Some.ensures in
    on_ok c.check_use.result (c.check_use.new.found ≡ with_all c.args.found.now (use_mentions c.args.self.now c.args.class.0 c.in-Some.usage c.in-Some.entry))
    (c.check_use.new.found ≡ with_all c.args.found.now (mentions c.args.self.now c.args.class.0 c.args.item.now.1)) (λ added. added ∙ ap (with_all c.args.found.now) (sym is.1)) c.check_use.ensures.added

pub returns-in-Some-clause-refused : goal.returns-in-Some-clause-refused
returns-in-Some-clause-refused c =
    if_err c.check_use.result _ _
    (λ refusal stops. use_stops c.args.self.now c.args.method.0 c.args.class.0 c.args.item.now (c.in-Some.usage, c.in-Some.entry) refusal c.in-Some.ensures stops)
    c.check_use.ensures.refused

pub returns-in-None-clause-added : goal.returns-in-None-clause-added
returns-in-None-clause-added c =
    on_ok c.check_other.result (fault_of c.args.self.now c.args.class.0 c.args.item.now.1 ≡ None) (c.args.found.now ≡ with_all c.args.found.now (mentions c.args.self.now c.args.class.0 c.args.item.now.1))
    (λ none. sym (ap (with_all c.args.found.now) (none_mentioned c.args.self.now c.args.class.0 c.args.item.now.1 c.in-None.ensures))) c.check_other.ensures.none
