use Rattle.kb_diagram.proofs.cells.put_at.Goals as goal

pub returns : goal.returns
returns c other slot = c.in_ok-insert.ensures.updates.0 (record { object = other; number = slot })
