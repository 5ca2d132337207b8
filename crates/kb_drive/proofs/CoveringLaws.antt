-- An input that passes no bound lies on an ended path, where every path is decided.
use Rattle.std.proofs.Common.{◌≡◌, ℕ, suc, List, [], ◌∷◌, Some, slice_get, refl, sym, ap, ◌∙◌, inl, inr}
use Rattle.kb_class.specs.declared.ids.MethodId.{MethodId}
use Rattle.kb_heap.specs.declared.bounds.Bound.{Bound}
use Rattle.kb_heap.specs.declared.bounds.Bound.TheVariants.{K, Array, Alloc, Loops, Depth, Steps}
use Rattle.kb_heap.specs.declared.bounds.Bounds.{Bounds}
use Rattle.kb_heap.specs.declared.ending.Ending.TheVariants.{Threw as RunThrew}
use Rattle.kb_heap.specs.declared.heap.Input.{Input}
use Rattle.kb_classes.specs.World.{World}
use Rattle.kb_semantics.specs.Config.{Ended as RunEnded}
use Rattle.kb_semantics.specs.Inputs.{IsTypeCorrect}
use Rattle.kb_semantics.specs.Step.{run_of}
use Rattle.kb_picture.specs.declared.picture.Picture.{Picture}
use Rattle.kb_picture.specs.declared.path.Ended.{Ended}
use Rattle.kb_picture.specs.declared.path.Leaf.{Leaf}
use Rattle.kb_picture.specs.declared.path.Leaf.TheVariants.{Ended as EndedLeaf, Cut, Undecided, Open}
use Rattle.kb_picture.specs.declared.path.Out.{Out}
use Rattle.kb_picture.specs.declared.path.Path.{Path}
use Rattle.kb_picture.specs.declared.path.SymEnding.{SymEnding}
use Rattle.kb_picture.specs.declared.path.SymEnding.TheVariants.{Returned, Threw, IllTyped}
use Rattle.kb_picture.specs.Endings.{ending_at, ending_of, reading_of}
use Rattle.kb_picture.specs.Instances.{IsInstance}
use Rattle.kb_frames.specs.Cuts.{IsLicensed, setting_of}
use Rattle.kb_picture.specs.Exactly.{ExactlyOneHas}
use Rattle.kb_drive.specs.Covers.{Covers}
use Rattle.kb_drive.specs.Within.{IsLeafDecided, AreDecided, IsWithin, EndsOnPath, NoneThrows}

-- a listed thing that has the input
record IsAt {A : Type 0} (Has : A → Input → Type 0) (listed : List A) (input : Input) : Type 0 where
  place : ℕ
  item : A
  there : slice_get listed place ≡ Some item
  has : Has item input

one-has : {A : Type 0} (Has : A → Input → Type 0) (listed : List A) (input : Input) → ExactlyOneHas Has listed input → IsAt Has listed input
one-has Has [] input h = absurd h
one-has {A} Has (first ∷ others) input h = elim h [
  | inl a ↦ record { place = 0; item = first; there = refl; has = a.0 }
  | inr b ↦ later (one-has Has others input b.1)
]
  where
    later : IsAt Has others input → IsAt Has (first ∷ others) input
    later at = record { place = suc at.place; item = at.item; there = at.there; has = at.has }

-- no cut is licensed for an input within the bounds
not-cut : (world : World) (target : MethodId) (bounds : Bounds) (picture : Picture) (bound : Bound) (input : Input) → IsWithin world target bounds input
    → IsLicensed world target bounds picture bound input → ⊥
not-cut world target bounds picture K input within h = within.chains h.0
not-cut world target bounds picture Array input within h = within.arrays h.0
not-cut world target bounds picture Alloc input within h = within.run Alloc h
not-cut world target bounds picture Loops input within h = within.run Loops h
not-cut world target bounds picture Depth input within h = within.run Depth h
not-cut world target bounds picture Steps input within h = within.run Steps h

pub ends_within : (world : World) (target : MethodId) (bounds : Bounds) (paths budget : ℕ) (listed : List Path) (input : Input) → Covers world target bounds paths budget listed
    → AreDecided listed → IsTypeCorrect world target input → IsWithin world target bounds input → EndsOnPath world target bounds listed input
ends_within world target bounds paths budget listed input covers decided correct within =
    let at = one-has IsInstance listed input (covers.inputs input correct) in
    go at (at.item.leaf) refl (decided at.place at.item at.there)
  where
    go : (at : IsAt IsInstance listed input) (leaf : Leaf) → at.item.leaf ≡ leaf → IsLeafDecided at.item.leaf → EndsOnPath world target bounds listed input
    go at (EndedLeaf ended) e d = record {
      place = at.place;
      path = at.item;
      there = at.there;
      ended = ended;
      leaf = e;
      instance_of = at.has;
      states = covers.endings at.place at.item at.there ended input e correct at.has;
    }
    go at (Cut bound carried) e d = absurd (not-cut world target bounds at.item.picture bound input within (covers.cuts at.place at.item at.there bound carried input e correct at.has))
    go at (Undecided log) e d = absurd (rw e at d)
    go at Open e d = absurd (rw e at d)

-- ---- nothing is thrown

not-thrown : (world : World) (path : Path) (ended : Ended) (input : Input) (object : ℕ) (ending : SymEnding) → ended.ending ≡ ending
    → ((value : Out) → ended.ending ≡ Threw value → ⊥) → ending_of world path ended input ≡ RunThrew object → ⊥
unfolding ending_of
not-thrown world path ended input object (Returned value) e none run =
    let never : ending_at (reading_of world path input) (Returned value) ≡ RunThrew object = rw e at run in
    absurd cc
not-thrown world path ended input object (Threw value) e none run = none value e
not-thrown world path ended input object (IllTyped place) e none run =
    let never : ending_at (reading_of world path input) (IllTyped place) ≡ RunThrew object = rw e at run in
    absurd cc

pub none_throws : (world : World) (target : MethodId) (bounds : Bounds) (paths budget : ℕ) (listed : List Path) (input : Input) → Covers world target bounds paths budget listed
    → AreDecided listed → NoneThrows listed → IsTypeCorrect world target input → IsWithin world target bounds input
    → (object : ℕ) → (run_of (setting_of world bounds) target input).ending ≡ RunThrew object → ⊥
none_throws world target bounds paths budget listed input covers decided none correct within object thrown =
    let at = ends_within world target bounds paths budget listed input covers decided correct within in
    not-thrown world at.path at.ended input object at.ended.ending refl (λ value e. none at.place at.path at.there at.ended value at.leaf e)
    (ap (λ (end : RunEnded). end.ending) (sym at.states) ∙ thrown)
