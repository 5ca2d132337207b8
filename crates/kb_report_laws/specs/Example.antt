-- A report by hand, of the method A.f(II)I that adds its two arguments: one path, on which both are seen and the sum is
-- returned.
use Rattle.std.specs.Prelude.{◌≡◌, pos, [], ◌∷◌, codes, length, Some}
use Rattle.kb_class.specs.declared.ids.MethodId.{MethodId}
use Rattle.kb_class.specs.declared.members.MethodInfo.{MethodInfo}
use Rattle.kb_heap.specs.declared.heap.Value.TheVariants.{Int as IntValue}
use Rattle.kb_classes.specs.World.{World}
use Rattle.kb_names.specs.declared.types.JType.TheVariants.{Int as IntType}
use Rattle.kb_semantics.specs.Config.{info_of}
use Rattle.kb_semantics.specs.Inputs.{argument_types}
use Rattle.kb_terms.specs.declared.op.Op.TheVariants.{Add}
use Rattle.kb_terms.specs.declared.listing.Operand.TheVariants.{Var, Term as TermOperand}
use Rattle.kb_picture.specs.declared.choice.Init.TheVariants.{Lazy}
use Rattle.kb_picture.specs.declared.path.Out.TheVariants.{Int as IntOut}
use Rattle.kb_picture.specs.declared.path.SymEnding.TheVariants.{Returned}
use Rattle.kb_picture.specs.declared.path.Ended.{Ended}
use Rattle.kb_picture.specs.declared.path.Leaf.TheVariants.{Ended as EndedLeaf}
use Rattle.kb_picture.specs.declared.path.Path.{Path}
use Rattle.kb_picture.specs.declared.picture.Origin.TheVariants.{Arg}
use Rattle.kb_picture.specs.declared.picture.Picture.{Picture}
use Rattle.kb_picture.specs.declared.picture.Seen.TheVariants.{Int as SeenInt}
use Rattle.kb_report_text.specs.declared.report.Report.{Report}
use Rattle.kb_report_laws.specs.OneText.{IsReport}

abbrev pub example_picture : Picture
example_picture = record { seen = (Arg 0, SeenInt 0) ∷ (Arg 1, SeenInt 1) ∷ []; locs = []; objects = [] }

abbrev pub example_ended : Ended
example_ended = record {
  ending = Returned (Some (IntOut (TermOperand 0)));
  writes = [];
  made = [];
  input = record { heap = record { objects = [] }; args = IntValue (pos 0) ∷ IntValue (pos 0) ∷ [] };
}

abbrev pub example_path : Path
example_path = record {
  decisions = [];
  picture = example_picture;
  terms = record { op = Add; left = Var 0; right = Some (Var 1) } ∷ [];
  when = [];
  leaf = EndedLeaf example_ended;
}

abbrev pub example_report : Report
example_report = record {
  target = record {
    class = codes "A";
    name = codes "f";
    kind = record { params = IntType ∷ IntType ∷ []; result = Some IntType };
  };
  init = Lazy;
  bounds = record { k = 3; array = 3; run = record { alloc = 16; loops = 10; depth = 16; steps = 2000 } };
  paths = 1000;
  budget = 2000;
  leaves = example_path ∷ [];
}

-- it is a report in each world that has a method with two arguments
abbrev pub ExampleIsReport : Type 0
ExampleIsReport =
    (world : World) (id : MethodId) (method : MethodInfo) → info_of world id ≡ Some method
    → length (argument_types world method) ≡ 2 → IsReport world example_report
