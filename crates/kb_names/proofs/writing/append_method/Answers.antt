use Rattle.kb_names.proofs.Fronts.{kept_front}
use Rattle.kb_names.proofs.writing.append_method.Goals as goal

pub returns-in-Some-clause-kept : goal.returns-in-Some-clause-kept
returns-in-Some-clause-kept c =
    kept_front _ _ _ _ c.in_ok-append_byte.ensures.ok
    (kept_front _ _ _ _ c.in_ok-append_types.ensures.ok
    (kept_front _ _ _ _ c.in_ok-append_byte-2.ensures.ok c.append_type.ensures.kept))
