use Rattle.std.proofs.Common.{◌≡◌, ◌<◌, ◌≤◌, ◌-◌, ℕ, List, [], Some, drop, get_or, length, sym, ap, subst, ◌∙◌, arith}
use Rattle.std.proofs.lemmas.List.{drop_all}
use Rattle.std.proofs.lemmas.Option.{none-some, same_Some}
use Rattle.kb_names.specs.declared.types.JType.{JType}
use Rattle.kb_numbers.specs.Types.{IsPath}
use Rattle.kb_numbers.proofs.TypeLaws.{no_result, not_there, path_next, so_far_next}
use Rattle.kb_numbers.proofs.types.first_part.Goals as goal

pub returns-in_err-number-clause-whole : goal.returns-in_err-number-clause-whole
returns-in_err-number-clause-whole c = λ number path. absurd (no_result c.args.texts.now c.args.parts.now c.args.kind.now (λ m of. none-some m (c.in_err-number.ensures.whole m of)) number path)

pub loop-back-init : goal.loop-back-init
loop-back-init c =
    let params = c.args.kind.now.params in
    let none : drop (length params - 0) params ≡ [] = drop_all (length params - 0) params (omega arith) in
    record {
      path = subst (λ (ps : List JType). IsPath c.args.texts.now c.args.parts.now c.args.kind.now.result ps c.in_ok-number.number) (sym none) c.in_ok-number.ensures.found;
      alone = λ m path. same_Some c.in_ok-number.number m (c.in_ok-number.ensures.whole m (subst (λ (ps : List JType). IsPath c.args.texts.now c.args.parts.now c.args.kind.now.result ps m) none path));
    }

pub returns-in_err-next-clause-whole : goal.returns-in_err-next-clause-whole
returns-in_err-next-clause-whole c = λ number path.
    let params = c.args.kind.now.params in
    let back = c.loop-back.back in
    let within : back < length params = subst (λ (ps : List JType). back < length ps) c.as_slice-params.ensures c.loop-back-test.true in
    let is = c.index-params-place.is ∙ ap (λ (ps : List JType). get_or ps (length ps - 1 - back) c.index-params-place.result) c.as_slice-params.ensures in
    absurd
    (not_there c.args.texts.now c.args.parts.now c.args.kind.now back c.loop-back.number c.index-params-place.result within is c.loop-back.invariant.alone (λ m of. none-some m (c.in_err-next.ensures.whole m of)) number path)

pub loop-back-preserved : goal.loop-back-preserved
loop-back-preserved c =
    let params = c.args.kind.now.params in
    let back = c.loop-back.back in
    let within : back < length params = subst (λ (ps : List JType). back < length ps) c.as_slice-params.ensures c.loop-back-test.true in
    let is = c.index-params-place.is ∙ ap (λ (ps : List JType). get_or ps (length ps - 1 - back) c.index-params-place.result) c.as_slice-params.ensures in
    record {
      path = path_next c.args.texts.now c.args.parts.now c.args.parts.now (λ place x at. at) c.args.kind.now back c.loop-back.number c.in_ok-next.next c.index-params-place.result within is c.loop-back.invariant.path
          c.in_ok-next.ensures.found;
      alone = so_far_next c.args.texts.now c.args.parts.now c.args.kind.now back c.loop-back.number c.in_ok-next.next c.index-params-place.result within is c.loop-back.invariant.alone c.in_ok-next.ensures.whole;
    }

pub returns-clause-found : goal.returns-clause-found
returns-clause-found c =
    let params = c.args.kind.now.params in
    let past : length params ≤ c.loop-back.back = subst (λ (ps : List JType). length ps ≤ c.loop-back.back) c.as_slice-params.ensures c.loop-back-test.false in
    let none : length params - c.loop-back.back ≡ 0 = omega (arith, past) in
    subst (λ (n : ℕ). IsPath c.args.texts.now c.args.parts.now c.args.kind.now.result (drop n params) c.loop-back.number) none c.loop-back.invariant.path

pub returns-clause-whole : goal.returns-clause-whole
returns-clause-whole c = λ number path.
    let params = c.args.kind.now.params in
    let past : length params ≤ c.loop-back.back = subst (λ (ps : List JType). length ps ≤ c.loop-back.back) c.as_slice-params.ensures c.loop-back-test.false in
    let none : length params - c.loop-back.back ≡ 0 = omega (arith, past) in
    ap (λ (n : ℕ). Some n)
    (c.loop-back.invariant.alone number (subst (λ (n : ℕ). IsPath c.args.texts.now c.args.parts.now c.args.kind.now.result (drop n params) number) (sym none) path))
