use Rattle.std.proofs.Common.{◌≡◌, ◌∙◌, length, rules}
use Rattle.kb_grammar.proofs.ReadLaws.{on_ok}
use Rattle.kb_test.proofs.Stated.{test_written}
use Rattle.kb_test.proofs.writing.append_test.Goals as goal

pub returns-clause-ok : goal.returns-clause-ok
returns-clause-ok c =
    let same : c.in-Ok.count ≡ length c.args.test.now.input.heap.objects = search rules in
    on_ok c.append.result
    (λ h.
    h
    ∙ rw (c.in_ok-append_run.ensures.ok, c.in_ok-append_inputs.ensures.ok, c.as_slice-inputs.ensures, c.in_ok-append_args.ensures.ok, c.as_slice.ensures, c.in_ok-append_bounds_line.ensures.ok, c.in_ok-append_method_line.ensures.ok)
    (test_written c.args.literals c.in-Ok.count c.args.test.now c.args.into.now.items same))
    c.append.ensures.ok
