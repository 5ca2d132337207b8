-- What marks lead to after changes.
use Rattle.std.proofs.Common.{ℕ, ◌≤◌, List, [], ◌∷◌, length, fold, refl, ◌∙◌, arith, length-append, length-set, length-take}
use Rattle.std.proofs.lemmas.List.{take-append-le, take-take}
use Rattle.std.specs.Prelude.{slice_index_or}
use Rattle.kb_trail.specs.Changes.{Trailed, Change, Set, UndoTo, changed, MayBe, MayChange, LeadsBack}
use Rattle.kb_trail.specs.Trail.{undone}
use Rattle.kb_trail.proofs.TrailLaws.{undone-here, undone-set, undone-undone, length-undone, reaches-same, reaches-take, reaches-entry}

module _ {T : Type 0} (low : ℕ) where
  nothing : (before : Trailed T) → low ≤ length before.trail → LeadsBack low before before
  nothing before inside = record {
    cells = λ last. undone-here before.trail before.cells low (omega (arith, last));
    marks = λ mark below. refl;
    there = inside;
    front = refl;
    count = refl;
    places = λ h. h;
  }

  set_once : (before : Trailed T) (place : ℕ) (value : T) → low ≤ length before.trail → MayBe low before (Set place value) → LeadsBack low before (changed before (Set place value))
  set_once before place value inside may = record {
    cells = λ last. undone-set before.trail before.cells place value value low inside ∙ undone-here before.trail before.cells low (omega (arith, last));
    marks = λ mark below. undone-set before.trail before.cells place value value mark (omega (arith, below, inside));
    there = omega (arith, inside, length-append before.trail ((place, slice_index_or before.cells place value) ∷ []));
    front = take-append-le low before.trail ((place, slice_index_or before.cells place value) ∷ []) inside;
    count = length-set before.cells place value;
    places = reaches-entry before.trail before.cells place value value may;
  }

  undone_once : (before : Trailed T) (mark : ℕ) → MayBe low before (UndoTo mark) → low ≤ length before.trail → LeadsBack low before (changed before (UndoTo mark))
  undone_once before mark may inside = record {
    cells = λ last. undone-undone before.trail before.cells mark low may.0 may.1 ∙ undone-here before.trail before.cells low (omega (arith, last));
    marks = λ earlier below. undone-undone before.trail before.cells mark earlier (omega (arith, below, may.0)) may.1;
    there = omega (arith, inside, may.0, may.1, length-take mark before.trail);
    front = take-take low mark before.trail may.0;
    count = length-undone before.trail before.cells mark;
    places = λ h. reaches-same before.cells (undone before.trail before.cells mark) (changed before (UndoTo mark)).trail (length-undone before.trail before.cells mark) (reaches-take before.cells before.trail mark h);
  }

  once : (before : Trailed T) (change : Change T) → low ≤ length before.trail → MayBe low before change → LeadsBack low before (changed before change)
  once before (Set place value) inside may = set_once before place value inside may
  once before (UndoTo mark) inside may = undone_once before mark may inside

  both : (before between after : Trailed T) → LeadsBack low before between → LeadsBack low between after → LeadsBack low before after
  both before between after first next = record {
    cells = λ last. next.marks low (omega arith) ∙ first.cells last;
    marks = λ mark below. next.marks mark below ∙ first.marks mark below;
    there = next.there;
    front = next.front ∙ first.front;
    count = next.count ∙ first.count;
    places = λ h. next.places (first.places h);
  }

  pub leads_back : (before : Trailed T) (changes : List (Change T)) → low ≤ length before.trail → MayChange low before changes → LeadsBack low before (fold changed before changes)
  leads_back before [] inside may = nothing before inside
  leads_back before (change ∷ changes) inside may =
      let first : LeadsBack low before (changed before change) = once before change inside may.0 in
      both before (changed before change) (fold changed (changed before change) changes) first (leads_back (changed before change) changes first.there may.1)
