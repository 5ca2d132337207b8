use Rattle.std.proofs.Common.{◌≡◌, ℕ, ◌+◌, ◌<◌, ◌≤◌, ◌==◌, true, false, ◌⊎◌, ◌||◌, length, take, get_or}
use Rattle.std.specs.List.{list_any}
use Rattle.kb_chain.specs.Needed.{is_kept}
use Rattle.kb_log_cut.proofs.marking.mark_cited.Given as goal

abbrev pub invariant-loop-step : goal.invariant-loop-step
invariant-loop-step l = record {
  table : length l.needed ≡ length l.fn.needed;
  kept : (k : ℕ) → is_kept l.first l.fn.needed k ≡ true → is_kept l.first l.needed k ≡ true;
  start : l.chain.start < l.first + l.end → is_kept l.first l.needed l.chain.start ≡ true;
  steps : (k : ℕ) → list_any (λ (s : ℕ × ℕ). s.1 == k) (take l.step-index l.step-items) ≡ true → k < l.first + l.end
      → is_kept l.first l.needed k ≡ true;
  only : (i : ℕ) → get_or l.needed i false ≡ true → (get_or l.fn.needed i false ≡ true)
      ⊎ (((l.chain.start == l.first + i) || list_any (λ (s : ℕ × ℕ). s.1 == l.first + i) (take l.step-index l.step-items)) ≡ true) × (i < l.end);
  later : (i : ℕ) → l.end ≤ i → get_or l.needed i false ≡ get_or l.fn.needed i false;
}
