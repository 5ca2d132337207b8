use Rattle.std.proofs.Common.{◌==◌, ℕ, sym, ap, ◌∙◌}
use Rattle.std.specs.Map.{lookup}
use Rattle.std.proofs.lemmas.Option.{none-some}
use Rattle.kb_numbers.proofs.types.Types.new.Goals as goal

pub returns : goal.returns
returns c = λ texts. record {
  each_end = λ first number at. absurd (none-some number (sym (ap (lookup (λ (key : ℕ). first == key)) c.new-2.ensures.empty) ∙ at));
  each_seen = λ number first at. absurd (none-some first (sym (ap (lookup (λ (key : ℕ). number == key)) c.new-3.ensures.empty) ∙ at));
}
