use Rattle.kb_report_tests.proofs.text.parts_of.Goals as goal

pub final_heap-requires-clause-room : goal.final_heap-requires-clause-room
final_heap-requires-clause-room c = rw c.as_slice-inputs.ensures c.requires.room

pub final_heap-requires-clause-parts : goal.final_heap-requires-clause-parts
final_heap-requires-clause-parts c = rw c.as_slice-inputs.ensures c.requires.parts
