use Rattle.std.proofs.Common.{ℕ, List, [], ◌∷◌, ◌++◌, take, ◌≡◌, ◌∙◌, ap}
use Rattle.std.specs.List.{repeat}
use Rattle.kb_writer.specs.Instructions.{padding}
use Rattle.kb_writer.proofs.InstrLaws.{zeros_are, on_ok}
use Rattle.kb_writer.proofs.switch_writer.push_padding.Goals as goal

pub returns : goal.returns
returns c =
    let n = c.padding_behind.result in
    let e : take n (0 ∷ 0 ∷ 0 ∷ []) ≡ padding c.args.from = zeros_are n c.padding_behind.ensures.few ∙ ap (λ (m : ℕ). repeat m (0 ∷ [])) c.padding_behind.ensures.value in
    on_ok c.push_run.result (λ h. h ∙ ap (λ (l : List ℕ). c.args.into.now.items ++ l) e) c.push_run.ensures
