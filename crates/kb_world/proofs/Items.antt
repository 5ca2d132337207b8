-- Instructions one by one: calls by their entries, and what is first wrong.
use Rattle.std.proofs.Common.{◌≡◌, ℕ, ◌-◌, ◌≤◌, List, [], length, take, drop, get_or, fold, Option, Some, None, Result, Ok, Err, IfErr, refl, sym, ap, ◌∙◌}
use Rattle.std.specs.Option.{option_map}
use Rattle.std.proofs.lemmas.Option.{same_Some}
use Rattle.std.proofs.lemmas.Grind.{fold-append}
use Rattle.kb_code.specs.declared.instruction.Instr.{Instr}
use Rattle.kb_code.specs.declared.instruction.Instr.TheVariants as instrs
use Rattle.kb_classes.specs.declared.refusal.LinkRefusal.{LinkRefusal}
use Rattle.kb_classes.specs.World.{World}
use Rattle.kb_classes.proofs.Walks.{next_rest}
use Rattle.kb_universe.specs.declared.looked.Use.{Use}
use Rattle.kb_universe.specs.Uses.{use_of}
use Rattle.kb_world.specs.Calls.{use_fault, use_mentions, fault_of, mentions}
use Rattle.kb_universe.specs.Faults.{Fault}
use Rattle.kb_universe.specs.Found.{FoundMethods, with_new}
use Rattle.kb_resolution.specs.Lookup.{or_else}
use Rattle.kb_world.specs.Reach.{fault_in, mentions_in}
use Rattle.kb_world.specs.Walks.{with_all, StopsAt, IsFaultIn, IsFaultAt, IsFaultOfUse}
use Rattle.kb_world.proofs.Settling.{stops_as}

-- what is wrong with a use of an entry, and what it mentions
pub use_is : (world : World) (class : ℕ) (instr : Instr) (told : Use × ℕ) → Some told ≡ use_of instr
    → (fault_of world class instr ≡ use_fault world class told.0 told.1) × (mentions world class instr ≡ use_mentions world class told.0 told.1)
unfolding fault_of mentions
use_is world class (instrs.Virtual entry) told e = (let same = same_Some _ _ e in (ap (λ (t : Use × ℕ). use_fault world class t.0 t.1) (sym same), ap (λ (t : Use × ℕ). use_mentions world class t.0 t.1) (sym same)))
use_is world class (instrs.Special entry) told e = (let same = same_Some _ _ e in (ap (λ (t : Use × ℕ). use_fault world class t.0 t.1) (sym same), ap (λ (t : Use × ℕ). use_mentions world class t.0 t.1) (sym same)))
use_is world class (instrs.Static entry) told e = (let same = same_Some _ _ e in (ap (λ (t : Use × ℕ). use_fault world class t.0 t.1) (sym same), ap (λ (t : Use × ℕ). use_mentions world class t.0 t.1) (sym same)))
use_is world class (instrs.Interface entry) told e = (let same = same_Some _ _ e in (ap (λ (t : Use × ℕ). use_fault world class t.0 t.1) (sym same), ap (λ (t : Use × ℕ). use_mentions world class t.0 t.1) (sym same)))
use_is world class (instrs.New entry) told e = (let same = same_Some _ _ e in (ap (λ (t : Use × ℕ). use_fault world class t.0 t.1) (sym same), ap (λ (t : Use × ℕ). use_mentions world class t.0 t.1) (sym same)))
use_is world class (instrs.NewRefs entry) told e = (let same = same_Some _ _ e in (ap (λ (t : Use × ℕ). use_fault world class t.0 t.1) (sym same), ap (λ (t : Use × ℕ). use_mentions world class t.0 t.1) (sym same)))
use_is world class (instrs.Cast entry) told e = (let same = same_Some _ _ e in (ap (λ (t : Use × ℕ). use_fault world class t.0 t.1) (sym same), ap (λ (t : Use × ℕ). use_mentions world class t.0 t.1) (sym same)))
use_is world class (instrs.InstanceOf entry) told e = (let same = same_Some _ _ e in (ap (λ (t : Use × ℕ). use_fault world class t.0 t.1) (sym same), ap (λ (t : Use × ℕ). use_mentions world class t.0 t.1) (sym same)))
use_is world class instr told e = absurd cc

-- no other instruction mentions a method
pub none_mentioned : (world : World) (class : ℕ) (instr : Instr) → None ≡ use_of instr → mentions world class instr ≡ []
unfolding mentions
none_mentioned world class (instrs.Virtual entry) e = absurd cc
none_mentioned world class (instrs.Special entry) e = absurd cc
none_mentioned world class (instrs.Static entry) e = absurd cc
none_mentioned world class (instrs.Interface entry) e = absurd cc
none_mentioned world class instr e = refl

-- ---- the rest of a listing

module _ (world : World) (class : ℕ) (rest : List (ℕ × Instr)) (item : ℕ × Instr) (some : 1 ≤ length rest) (at : item ≡ get_or rest 0 item) where
  pub fault_later : fault_of world class item.1 ≡ None → fault_in world class (take (length rest - 1) (drop 1 rest)) ≡ fault_in world class rest
  fault_later none =
      sym (ap (fault_in world class) (next_rest rest item some at)
      ∙ ap (λ (o : Option Fault). or_else (option_map (λ (fault : Fault). (item.0, fault)) o) (fault_in world class (take (length rest - 1) (drop 1 rest)))) none)

  pub fault_here : (fault : Fault) → fault_of world class item.1 ≡ Some fault → fault_in world class rest ≡ Some (item.0, fault)
  fault_here fault is =
      ap (fault_in world class) (next_rest rest item some at)
      ∙ ap (λ (o : Option Fault). or_else (option_map (λ (f : Fault). (item.0, f)) o) (fault_in world class (take (length rest - 1) (drop 1 rest)))) is

  -- what it mentions comes before what the rest mentions
  pub mention_next : (before after : FoundMethods) → after ≡ with_all before (mentions world class item.1)
      → with_all after (mentions_in world class (take (length rest - 1) (drop 1 rest))) ≡ with_all before (mentions_in world class rest)
  mention_next before after added =
      ap (λ (f : FoundMethods). with_all f (mentions_in world class (take (length rest - 1) (drop 1 rest)))) added
      ∙ ap (λ (ns : List ℕ). record { all = before.all; numbers = ns })
      (sym (fold-append with_new before.numbers (mentions world class item.1) (mentions_in world class (take (length rest - 1) (drop 1 rest)))))
      ∙ ap (λ (is : List (ℕ × Instr)). with_all before (mentions_in world class is)) (sym (next_rest rest item some at))

  pub stops_here : (number : ℕ) (items : List (ℕ × Instr)) (refusal : LinkRefusal) → fault_in world class rest ≡ fault_in world class items → StopsAt world (IsFaultAt world number class item) refusal
      → StopsAt world (IsFaultIn world number class items) refusal
  stops_here number items refusal goes =
      stops_as world (IsFaultAt world number class item) (IsFaultIn world number class items) refusal
      (λ method place fault is. (is.0, sym goes ∙ fault_here fault is.2 ∙ ap (λ (p : ℕ). Some (p, fault)) (sym is.1)))

-- ---- uses of entries

pub if_err : {A E : Type 0} (result : Result A E) (P Q : E → Type 0) → ((error : E) → P error → Q error) → IfErr result P → IfErr result Q
if_err (Ok value) P Q f p = p
if_err (Err error) P Q f p = f error p

-- the fault of a use of its entry is that of the instruction
pub use_stops : (world : World) (number class : ℕ) (item : ℕ × Instr) (told : Use × ℕ) (refusal : LinkRefusal) → Some told ≡ use_of item.1
    → StopsAt world (IsFaultOfUse world number item.0 (record { class = class; entry = told.1; usage = told.0 })) refusal → StopsAt world (IsFaultAt world number class item) refusal
use_stops world number class item told refusal is =
    stops_as world (IsFaultOfUse world number item.0 (record { class = class; entry = told.1; usage = told.0 })) (IsFaultAt world number class item) refusal
    (λ method place fault stops. (stops.0, stops.1, (use_is world class item.1 told is).0 ∙ stops.2))
