-- Laws of inputs beyond the bounds on inputs: a bound that is gone beyond is gone beyond with each smaller one too.
use Rattle.std.proofs.Common.{◌≡◌, ℕ, suc, ◌<◌, ◌≤◌, length, arith}
use Rattle.kb_heap.specs.declared.heap.Input.{Input}
use Rattle.kb_semantics.specs.Past.{IsPastK, IsPastArray}

pub past_smaller_k : (input : Input) (k less : ℕ) → less ≤ k → IsPastK input k → IsPastK input less
past_smaller_k input k less small past = record { chain = past.chain; is_chain = past.is_chain; longer = omega (arith, small, past.longer) }

pub past_smaller_array : (input : Input) (most less : ℕ) → less ≤ most → IsPastArray input most → IsPastArray input less
past_smaller_array input most less small past = record {
  before = past.before;
  last = past.last;
  is_chain = past.is_chain;
  array = past.array;
  array_is = past.array_is;
  component = past.component;
  kind = past.kind;
  longer = omega (arith, small, past.longer);
}
