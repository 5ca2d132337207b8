use Rattle.std.proofs.Common.{codes}
use Rattle.std.specs.Fmt.{decimal}
use Rattle.std.proofs.lemmas.Result.{on_ok_weaker}
use Rattle.kb_report_text.specs.declared.kinds.LeafKind.TheVariants.{Ended, Cut, Undecided, Open}
use Rattle.kb_report_text.specs.Report.{count_of, kinds_text}
use Rattle.kb_path_words.proofs.TextLaws.{counts_joined}
use Rattle.kb_report_text.proofs.report.write_kinds.Goals as goal

pub returns : goal.returns
unfolding kinds_text
returns c =
    let paths = c.args.paths.now in
    on_ok_weaker c.write_kind-4.result
    (λ last. counts_joined c.args.text.now c.write_kind.new.text c.write_kind-2.new.text c.write_kind-3.new.text c.write_kind-4.new.text (codes " ended ") (codes " cut ") (codes " undecided ") (codes " open ")
    (decimal (count_of Ended paths)) (decimal (count_of Cut paths)) (decimal (count_of Undecided paths)) (decimal (count_of Open paths))
    c.in_ok-write_kind.ensures c.in_ok-write_kind-2.ensures c.in_ok-write_kind-3.ensures last)
    c.write_kind-4.ensures
