-- The ranges of a report's numbers: numbers of 32 bits, ints of 32 bits with sign, and how many items a list has. They are
-- those of the types of the code, so that each report that is a value of the code keeps them. A text tells a number in such a
-- range: std's decimal texts go on to 10 ^ 64 alone.
use Rattle.std.specs.Prelude.{ℕ, ◌<◌, ◌^◌, Bool, length, Some, None}
use Rattle.std.specs.List.{AllByRecursion}
use Rattle.kb_heap.specs.declared.bounds.Bounds.{Bounds}
use Rattle.kb_heap.specs.declared.ending.Place.{Place}
use Rattle.kb_heap.specs.declared.heap.Value.TheVariants as values
use Rattle.kb_heap.specs.declared.heap.Object.{Object}
use Rattle.kb_heap.specs.declared.heap.Input.{Input}
use Rattle.kb_log_text.specs.Lines.{IsChain}
use Rattle.kb_path_words.specs.Ranges.{IsSmall, IsSeenInRange, IsStandingInRange, LengthFits, OutFits, ValueFits, IsTermInRange}
use Rattle.kb_picture.specs.declared.path.Out.TheVariants as outs
use Rattle.kb_picture.specs.declared.path.Write.{Write}
use Rattle.kb_picture.specs.declared.path.Made.{Made}
use Rattle.kb_picture.specs.declared.path.SymEnding.{SymEnding}
use Rattle.kb_picture.specs.declared.path.SymEnding.TheVariants.{Returned, Threw, IllTyped}
use Rattle.kb_picture.specs.declared.path.Ended.{Ended}
use Rattle.kb_picture.specs.declared.path.Leaf.{Leaf}
use Rattle.kb_picture.specs.declared.path.Leaf.TheVariants.{Ended as EndedLeaf, Cut, Undecided, Open}
use Rattle.kb_picture.specs.declared.path.Path.{Path}
use Rattle.kb_picture.specs.declared.picture.Origin.{Origin}
use Rattle.kb_picture.specs.declared.picture.Origin.TheVariants.{Arg, Field, Element}
use Rattle.kb_picture.specs.declared.picture.PicLoc.{PicLoc}
use Rattle.kb_picture.specs.declared.picture.PicObject.{PicObject}
use Rattle.kb_picture.specs.declared.picture.Seen.{Seen}
use Rattle.kb_picture.specs.declared.picture.Seen.TheVariants as seens
use Rattle.kb_picture.specs.declared.picture.Standing.TheVariants as standings
use Rattle.kb_report_text.specs.declared.report.Report.{Report}

-- how many items a list has
abbrev pub IsCount : ℕ → Type 0
IsCount n = n < 2 ^ 64

-- ---- the words of a line

abbrev pub OriginFits : Origin → Type 0
OriginFits (Arg number) = IsSmall number
OriginFits (Field object slot) = IsSmall object × IsSmall slot
OriginFits (Element array index) = IsSmall array × IsSmall index

abbrev pub PlaceFits : Place → Type 0
PlaceFits place = IsSmall place.at

-- ---- the parts of a path

abbrev pub SlotFits : Origin × Seen → Type 0
SlotFits slot = OriginFits slot.0 × IsSeenInRange slot.1

pub record ObjectFits (object : PicObject) : Type 0 where
  pub length : LengthFits object.length
  pub origin : OriginFits object.origin

abbrev pub IsLocInRange : PicLoc → Type 0
IsLocInRange loc = IsStandingInRange loc.standing

abbrev pub ConditionFits : ℕ × Bool → Type 0
ConditionFits condition = IsSmall condition.0

abbrev pub WriteFits : Write → Type 0
WriteFits write = OriginFits write.slot × OutFits write.value

abbrev pub MadeFits : Made → Type 0
MadeFits made = AllByRecursion OutFits made.values

abbrev pub InputObjectFits : Object → Type 0
InputObjectFits object = AllByRecursion ValueFits object.values

pub record InputFits (input : Input) : Type 0 where
  pub args : AllByRecursion ValueFits input.args
  pub objects : AllByRecursion InputObjectFits input.heap.objects
  pub count : IsCount (length input.heap.objects)

abbrev pub EndingFits : SymEnding → Type 0
EndingFits (Returned None) = Unit {0}
EndingFits (Returned (Some value)) = OutFits value
EndingFits (Threw value) = OutFits value
EndingFits (IllTyped place) = PlaceFits place

pub record EndedFits (ended : Ended) : Type 0 where
  pub ending : EndingFits ended.ending
  pub writes : AllByRecursion WriteFits ended.writes
  pub made : AllByRecursion MadeFits ended.made
  pub count : IsCount (length ended.made)
  pub input : InputFits ended.input

abbrev pub LeafFits : Leaf → Type 0
LeafFits (EndedLeaf ended) = EndedFits ended
LeafFits (Cut bound input) = InputFits input
LeafFits (Undecided log) = AllByRecursion IsChain log.entries × IsCount (length log.entries)
LeafFits Open = Unit {0}

pub record HasCounts (path : Path) : Type 0 where
  pub locs : IsCount (length path.picture.locs)
  pub objects : IsCount (length path.picture.objects)
  pub terms : IsCount (length path.terms)

pub record PathFits (path : Path) : Type 0 where
  pub counts : HasCounts path
  pub decisions : AllByRecursion IsSmall path.decisions
  pub seen : AllByRecursion SlotFits path.picture.seen
  pub locs : AllByRecursion IsLocInRange path.picture.locs
  pub objects : AllByRecursion ObjectFits path.picture.objects
  pub terms : AllByRecursion IsTermInRange path.terms
  pub when : AllByRecursion ConditionFits path.when
  pub leaf : LeafFits path.leaf

-- ---- reports

pub record BoundsFit (bounds : Bounds) : Type 0 where
  pub k : IsSmall bounds.k
  pub array : IsSmall bounds.array
  pub alloc : IsSmall bounds.run.alloc
  pub loops : IsSmall bounds.run.loops
  pub depth : IsSmall bounds.run.depth
  pub steps : IsSmall bounds.run.steps

pub record ReportFits (report : Report) : Type 0 where
  pub bounds : BoundsFit report.bounds
  pub paths : IsSmall report.paths
  pub budget : IsSmall report.budget
  pub leaves : AllByRecursion PathFits report.leaves
  pub count : IsCount (length report.leaves)
