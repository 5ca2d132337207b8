use Rattle.std.proofs.Common.{◌≡◌, ◌++◌, ◌∷◌, ◌+◌, ◌-◌, ◌<◌, ◌^◌, [], List, length, take, drop, sym, ap, ◌∙◌, append_assoc, arith}
use Rattle.std.proofs.lemmas.List.{length-append}
use Rattle.kb_class.specs.Class.{Class}
use Rattle.kb_classes.specs.Refusals.{RefusesClasses}
use Rattle.kb_classes.proofs.Firsts.{handed_on}
use Rattle.kb_classes.proofs.Named.{again_refuses}
use Rattle.kb_classes.proofs.Walks.{next_rest}
use Rattle.kb_classes.proofs.classes.names_of.Goals as goal

pub loop-rest-preserved : goal.loop-rest-preserved
loop-rest-preserved c =
    let rest = c.loop-rest.rest.now in
    let done = c.loop-rest.invariant.0 in
    let class = c.class-item.result in
    let others = take (length rest - 1) (drop 1 rest) in
    let whole : done ++ class ∷ others ≡ c.args.classes.now = ap (λ (cs : List Class). done ++ cs) (sym (next_rest rest class c.in-len1-up.len_at_least c.class-item.is)) ∙ c.loop-rest.invariant.1 in
    let many : length done + length (class ∷ others) ≡ length c.args.classes.now = sym (length-append done (class ∷ others)) ∙ ap length whole in
    let few : length done + 1 < 2 ^ 32 = (let below = c.if-classes.false in omega (arith, below, many)) in
    let more = c.in_ok-add_name.ensures.more done class (sym c.name.ensures) few c.loop-rest.invariant.2 c.loop-rest.invariant.3 in
    (done ++ class ∷ [], append_assoc done (class ∷ []) others ∙ whole, more.0, more.1)

pub returns-in_err-add_name-clause-refused : goal.returns-in_err-add_name-clause-refused
returns-in_err-add_name-clause-refused c =
    let rest = c.loop-rest.rest.now in
    let done = c.loop-rest.invariant.0 in
    let class = c.class-item.result in
    let others = take (length rest - 1) (drop 1 rest) in
    let whole : done ++ class ∷ others ≡ c.args.classes.now = ap (λ (cs : List Class). done ++ cs) (sym (next_rest rest class c.in-len1-up.len_at_least c.class-item.is)) ∙ c.loop-rest.invariant.1 in
    handed_on (RefusesClasses c.args.classes.now) c.from_residual.result c.in_err-add_name.field-0.0 c.from_residual.ensures.1
    (again_refuses done others c.args.classes.now class c.in_err-add_name.field-0.0 whole c.loop-rest.invariant.2 (c.in_err-add_name.ensures.refused done class (sym c.name.ensures) c.loop-rest.invariant.3))
