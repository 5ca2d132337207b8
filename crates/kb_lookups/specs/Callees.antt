-- What a call's entry names (JVMS 8 section 6.5, invokevirtual and its kin).
use Rattle.kb_semantics.specs.Instructions.{Callee}
use Rattle.kb_lookups.specs.declared.calls.Callee.{Callee as Found}

abbrev pub plain_callee : Found → Callee
plain_callee found = record { class = found.class.now; kind = found.kind.now }
