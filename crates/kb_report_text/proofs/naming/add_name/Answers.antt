use Rattle.std.proofs.Common.{◌∙◌}
use Rattle.kb_report_text.proofs.NameLaws.{name_added}
use Rattle.kb_report_text.proofs.naming.add_name.Goals as goal

pub returns-clause-names : goal.returns-clause-names
returns-clause-names c other =
    name_added c.args.names.now.keys c.insert.new.self.keys c.in_ok-key.key c.args.name.now other (c.in_ok-key.ensures.items_if_clones_equal (λ x y same. same) ∙ c.as_slice.ensures.same) c.in_ok-new.ensures.keys
