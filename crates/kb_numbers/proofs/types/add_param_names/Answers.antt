use Rattle.std.proofs.Common.{◌≡◌, ◌+◌, ◌≤◌, ℕ, List, [], ◌∷◌, ◌++◌, length, take, refl, sym, ap, ◌∙◌, arith}
use Rattle.std.proofs.lemmas.Grind.{take_at_read}
use Rattle.std.proofs.lemmas.List.{take_all}
use Rattle.std.proofs.lemmas.List.Sums.{fold-append}
use Rattle.kb_names.specs.declared.types.JType.{JType}
use Rattle.kb_numbers.specs.Types.{with_name, with_param_names}
use Rattle.kb_numbers.proofs.NumberLaws.{keeps_both, keeps_self}
use Rattle.kb_numbers.proofs.types.add_param_names.Goals as goal

pub loop-param-init : goal.loop-param-init
loop-param-init c = record { keeps = keeps_self c.args.texts.now; names = refl }

pub loop-param-preserved : goal.loop-param-preserved
loop-param-preserved c =
    let params = c.args.params.now in
    let i = c.loop-param.param-index in
    let param = c.param-item.result in
    let before = c.args.texts.now in
    let taken : take (i + 1) params ≡ take i params ++ param ∷ [] = (take_at_read params i param c.loop-param-test.true).1 ∙ ap (λ (p : JType). take i params ++ p ∷ []) (sym c.param-item.is) in
    record {
      keeps = keeps_both before c.loop-param.texts c.add_name.new.texts c.loop-param.invariant.keeps c.in_ok-add_name.ensures.keeps;
      names = c.in_ok-add_name.ensures.names
          ∙ ap (λ (texts : List (List ℕ)). with_name texts param) c.loop-param.invariant.names
          ∙ sym (fold-append with_name before (take i params) (param ∷ []))
          ∙ ap (with_param_names before) (sym taken);
    }

pub returns-clause-keeps : goal.returns-clause-keeps
returns-clause-keeps c = c.loop-param.invariant.keeps

pub returns-clause-names : goal.returns-clause-names
returns-clause-names c =
    let params = c.args.params.now in
    let past : length params ≤ c.loop-param.param-index = omega (arith, c.loop-param-test.false) in
    c.loop-param.invariant.names ∙ ap (with_param_names c.args.texts.now) (take_all c.loop-param.param-index params past)
