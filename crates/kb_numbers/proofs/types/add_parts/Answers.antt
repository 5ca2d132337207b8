use Rattle.std.proofs.Common.{◌≡◌, ◌<◌, ◌≤◌, ◌-◌, ℕ, List, [], drop, get_or, length, sym, ap, subst, ◌∙◌, arith}
use Rattle.std.proofs.lemmas.List.{drop_all}
use Rattle.kb_names.specs.declared.types.JType.{JType}
use Rattle.kb_numbers.specs.Types.{IsPath}
use Rattle.kb_numbers.proofs.TypeLaws.{path_next}
use Rattle.kb_numbers.proofs.types.add_parts.Goals as goal

pub loop-back-init : goal.loop-back-init
loop-back-init c =
    let params = c.args.kind.now.params in
    let none : drop (length params - 0) params ≡ [] = drop_all (length params - 0) params (omega arith) in
    record {
      keeps = c.in_ok-number.ensures.keeps;
      path = subst (λ (ps : List JType). IsPath c.args.texts.now c.add_result.new.parts c.args.kind.now.result ps c.in_ok-number.number) (sym none) c.in_ok-number.ensures.part;
    }

pub loop-back-preserved : goal.loop-back-preserved
loop-back-preserved c =
    let params = c.args.kind.now.params in
    let back = c.loop-back.back in
    let within : back < length params = subst (λ (ps : List JType). back < length ps) c.as_slice-params.ensures c.loop-back-test.true in
    let is = c.index-params-place.is ∙ ap (λ (ps : List JType). get_or ps (length ps - 1 - back) c.index-params-place.result) c.as_slice-params.ensures in
    record {
      keeps = λ place x at. c.in_ok-next.ensures.keeps place x (c.loop-back.invariant.keeps place x at);
      path = path_next c.args.texts.now c.loop-back.parts c.add_param.new.parts c.in_ok-next.ensures.keeps c.args.kind.now back c.loop-back.number c.in_ok-next.next c.index-params-place.result within is
          c.loop-back.invariant.path c.in_ok-next.ensures.part;
    }

pub returns-clause-keeps : goal.returns-clause-keeps
returns-clause-keeps c = c.loop-back.invariant.keeps

pub returns-clause-path : goal.returns-clause-path
returns-clause-path c =
    let params = c.args.kind.now.params in
    let past : length params ≤ c.loop-back.back = subst (λ (ps : List JType). length ps ≤ c.loop-back.back) c.as_slice-params.ensures c.loop-back-test.false in
    let none : length params - c.loop-back.back ≡ 0 = omega (arith, past) in
    subst (λ (n : ℕ). IsPath c.args.texts.now c.loop-back.parts c.args.kind.now.result (drop n params) c.loop-back.number) none c.loop-back.invariant.path
