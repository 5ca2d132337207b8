use Rattle.std.proofs.Common.{refl, sym, inr}
use Rattle.kb_outside.proofs.Failing.{FailsOn-found}
use Rattle.kb_outside.proofs.memory_shelf.MemoryShelfShelf.read.Goals as goal

pub returns-in_default-clause-fails : goal.returns-in_default-clause-fails
returns-in_default-clause-fails c =
    (λ _. inr (rw (← c.self.view_is, ← c.deref-2.ensures.value) (sym c.in_default.ensures)), λ _. refl)

pub returns-in-Ok-clause-fails : goal.returns-in-Ok-clause-fails
returns-in-Ok-clause-fails c =
    (λ e. cc, λ fails. absurd (FailsOn-found c.args.self.now c.args.name.now c.in-Some.bytes.now (rw (← c.self.view_is, ← c.deref.ensures.value) c.if-contains.ensures.cases) (rw (← c.self.view_is, ← c.deref-2.ensures.value) c.in-Some.ensures) fails))

pub returns-in-Err-clause-fails : goal.returns-in-Err-clause-fails
returns-in-Err-clause-fails c =
    (λ e. cc, λ fails. absurd (FailsOn-found c.args.self.now c.args.name.now c.in-Some.bytes.now (rw (← c.self.view_is, ← c.deref.ensures.value) c.if-contains.ensures.cases) (rw (← c.self.view_is, ← c.deref-2.ensures.value) c.in-Some.ensures) fails))
