use Rattle.std.proofs.Common.{sym, ap, ◌∙◌}
use Rattle.std.specs.Option.{option_copied}
use Rattle.kb_names.specs.Types.{shape_of}
use Rattle.kb_classes.specs.Subtypes.{is_above_arrays}
use Rattle.kb_universe.proofs.ArraysBelow.{longer_told, not_longer, none_longer}
use Rattle.kb_universe.proofs.marks.Marks.has_longer.Goals as goal

pub returns-in_default : goal.returns-in_default
returns-in_default c = none_longer (shape_of c.args.component.now).base (shape_of c.args.component.now).dims c.args.self.now.longest (sym (ap option_copied c.in_default.is) ∙ c.element_class.ensures)

pub returns-then-not-is_above_arrays : goal.returns-then-not-is_above_arrays
returns-then-not-is_above_arrays c =
    not_longer (shape_of c.args.component.now).base c.in-Some.name.now (shape_of c.args.component.now).dims c.args.self.now.longest c.in-Some.ensures
    (ap is_above_arrays (sym c.as_slice.ensures.same) ∙ sym c.is_above_arrays.ensures ∙ c.if-not-is_above_arrays.true)

pub returns : goal.returns
returns c =
    longer_told (shape_of c.args.component.now).base c.in-Some.name.now (shape_of c.args.component.now).dims c.dims_of.result c.saturating_sub.result c.args.self.now.longest c.in-Some.ensures
    (ap is_above_arrays (sym c.as_slice.ensures.same) ∙ sym c.is_above_arrays.ensures ∙ c.if-not-is_above_arrays.false) c.dims_of.ensures c.saturating_sub.ensures c.requires
