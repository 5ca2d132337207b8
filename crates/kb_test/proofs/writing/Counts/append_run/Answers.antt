use Rattle.std.proofs.Common.{◌∙◌}
use Rattle.kb_grammar.proofs.ReadLaws.{on_ok}
use Rattle.kb_test.proofs.Appending.{run_parts, kept_more, kept_behind}
use Rattle.kb_test.proofs.writing.Counts.append_run.Goals as goal

pub returns-clause-ok : goal.returns-clause-ok
returns-clause-ok g c =
    on_ok c.append_news.result
    (λ h.
    h
    ∙ rw (c.in_ok-append_outs.ensures.ok, c.in_ok-append.ensures.ok, c.in_ok-append_ending.ensures.ok)
    (run_parts c.args.self.inputs c.args.self.literals (g.O.Objects.objects c.args.heap.now) c.args.ending.now c.args.into.now.items))
    c.append_news.ensures.ok

pub returns-clause-kept : goal.returns-clause-kept
returns-clause-kept g c =
    kept_more c.args.into.now.items c.append_outs.new.into.items c.append_news.new.into.items
    (kept_more c.args.into.now.items c.append.new.into.items c.append_outs.new.into.items
    (kept_more c.args.into.now.items c.append_ending.new.into.items c.append.new.into.items c.in_ok-append_ending.ensures.kept
    (kept_behind c.append_ending.new.into.items _ c.append.new.into.items c.in_ok-append.ensures.ok))
    c.in_ok-append_outs.ensures.kept)
    c.append_news.ensures.kept
