-- The text of a report: a head, a block for each path, and how many paths there are of each kind.
use Rattle.std.specs.Prelude.{ℕ, Bool, true, false, List, [], ◌∷◌, ◌++◌, codes, length, count_by}
use Rattle.std.specs.List.{flat_map}
use Rattle.std.specs.Fmt.{decimal}
use Rattle.kb_grammar.specs.Lines.{lines_text}
use Rattle.kb_heap.specs.declared.bounds.Bounds.{Bounds}
use Rattle.kb_heap.specs.declared.bounds.RunBounds.{RunBounds}
use Rattle.kb_classes.specs.World.{World}
use Rattle.kb_names.specs.Targets.{target_text}
use Rattle.kb_names.specs.declared.types.Target.{Target}
use Rattle.kb_picture.specs.declared.choice.Init.{Init}
use Rattle.kb_picture.specs.declared.choice.Init.TheVariants.{Lazy, Lazier}
use Rattle.kb_picture.specs.declared.path.Leaf.{Leaf}
use Rattle.kb_picture.specs.declared.path.Leaf.TheVariants.{Ended as EndedLeaf, Cut, Undecided, Open}
use Rattle.kb_picture.specs.declared.path.Path.{Path}
use Rattle.kb_report_text.specs.declared.report.Report.{Report}
use Rattle.kb_report_text.specs.declared.kinds.LeafKind.{LeafKind}
use Rattle.kb_report_text.specs.declared.kinds.LeafKind.TheVariants.{Ended as EndedKind, Cut as CutKind, Undecided as UndecidedKind, Open as OpenKind}
use Rattle.kb_report_text.specs.Blocks.{path_lines}

-- ---- the head

unfoldable pub title_line : List ℕ
title_line = codes "kiasan report 1"

unfoldable pub target_line : Target → List ℕ
target_line target = codes "target " ++ target_text target

unfoldable pub run_bounds_text : RunBounds → List ℕ
run_bounds_text run = codes " alloc " ++ (decimal run.alloc ++ (codes " loops " ++ (decimal run.loops ++ (codes " depth " ++ (decimal run.depth
    ++ (codes " steps " ++ decimal run.steps))))))

unfoldable pub bounds_text : Bounds → List ℕ
bounds_text bounds = codes " k " ++ (decimal bounds.k ++ (codes " array " ++ (decimal bounds.array ++ run_bounds_text bounds.run)))

unfoldable pub limits_text : ℕ → ℕ → List ℕ
limits_text paths budget = codes " paths " ++ (decimal paths ++ (codes " budget " ++ decimal budget))

unfoldable pub init_name : Init → List ℕ
init_name Lazy = codes "lazy"
init_name Lazier = codes "lazier"

unfoldable pub settings_line : Init → Bounds → ℕ → ℕ → List ℕ
settings_line init bounds paths budget = codes "init " ++ (init_name init ++ (bounds_text bounds ++ limits_text paths budget))

unfoldable pub head_lines : Report → List (List ℕ)
head_lines report = title_line ∷ target_line report.target ∷ settings_line report.init report.bounds report.paths report.budget ∷ []

-- ---- the last line

abbrev pub kind_of : Leaf → LeafKind
kind_of (EndedLeaf ended) = EndedKind
kind_of (Cut bound input) = CutKind
kind_of (Undecided log) = UndecidedKind
kind_of Open = OpenKind

abbrev pub same_kind : LeafKind → LeafKind → Bool
same_kind EndedKind EndedKind = true
same_kind CutKind CutKind = true
same_kind UndecidedKind UndecidedKind = true
same_kind OpenKind OpenKind = true
same_kind _ _ = false

-- how many paths have a leaf of that kind
abbrev pub count_of : LeafKind → List Path → ℕ
count_of kind paths = count_by (λ (path : Path). same_kind kind (kind_of path.leaf)) paths

-- how many paths there are of each kind
unfoldable pub kinds_text : List Path → List ℕ
kinds_text paths = codes " ended " ++ (decimal (count_of EndedKind paths) ++ (codes " cut " ++ (decimal (count_of CutKind paths)
    ++ (codes " undecided " ++ (decimal (count_of UndecidedKind paths) ++ (codes " open " ++ decimal (count_of OpenKind paths)))))))

-- how many paths there are, and how many of each kind
unfoldable pub total_line : List Path → List ℕ
total_line paths = codes "total " ++ (decimal (length paths) ++ kinds_text paths)

-- ---- the whole

unfoldable pub report_lines : World → Report → List (List ℕ)
report_lines world report = head_lines report ++ (flat_map (path_lines world) report.leaves ++ total_line report.leaves ∷ [])

-- The text of a report on a method of the world.
unfoldable pub report_text : World → Report → List ℕ
report_text world report = lines_text (report_lines world report)
