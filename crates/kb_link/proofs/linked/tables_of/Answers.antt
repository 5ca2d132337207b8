use Rattle.std.proofs.Common.{ap, ◌∙◌, map}
use Rattle.kb_classes.specs.Initialisers.{has_initialiser}
use Rattle.kb_classes.specs.Slots.{slots_along}
use Rattle.kb_link.proofs.linked.tables_of.Goals as goal

pub method_tables-requires : goal.method_tables-requires
method_tables-requires c = c.requires.2.methods

pub invariant_of-result : goal.invariant_of-result
invariant_of-result c = (
  record {
    names = c.requires.1;
    loaded = c.requires.2;
    supers_there = c.requires.3;
    no_circle = c.requires.4;
    good_supers = c.requires.5;
    chains = c.requires.6;
    no_split = c.requires.7;
    supers = c.in_ok-of_classes.ensures.supers;
    universe = c.in_ok-of_classes.ensures.universe;
    literals = c.in_ok-of_classes.ensures.literals;
  },
  c.in_ok-of_classes.ensures.slots ∙ ap (map (slots_along c.args.classes)) c.as_slice.ensures.value,
  c.in_ok-of_methods.ensures.places,
  c.requires.8,
  c.in_ok-of_methods.ensures.initialised ∙ ap (map (has_initialiser c.args.classes)) c.as_slice-2.ensures.value,
  c.in_ok-of_methods.ensures.placings,
)

pub returns-clause-linked : goal.returns-clause-linked
returns-clause-linked c =
    record {
      names = c.requires.1;
      loaded = c.requires.2;
      supers_there = c.requires.3;
      no_circle = c.requires.4;
      good_supers = c.requires.5;
      chains = c.requires.6;
      no_split = c.requires.7;
      supers = c.in_ok-of_classes.ensures.supers;
      universe = c.in_ok-of_classes.ensures.universe;
      literals = c.in_ok-of_classes.ensures.literals;
    }
