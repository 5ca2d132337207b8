-- A run of a method that reach accepts, over a type-correct input, stays within what is reached and within types that have texts.
use Rattle.std.proofs.Common.{ℕ, zero, suc, List, [], ◌∷◌, length, nat_le, replicate, inl, inr, subst}
use Rattle.std.specs.List.{AllByRecursion}
use Rattle.kb_names.specs.Descriptors.{IsClassName}
use Rattle.kb_names.specs.declared.class_names.Spelling.TheVariants.{Escaped}
use Rattle.kb_names.specs.declared.types.ExactType.{ExactType}
use Rattle.kb_names.specs.declared.types.ExactType.TheVariants as exact
use Rattle.kb_format.proofs.Lists.{all_joined}
use Rattle.kb_class.specs.declared.ids.MethodId.{MethodId}
use Rattle.kb_heap.specs.declared.heap.Input.{Input}
use Rattle.kb_link.specs.Links.{IsLinked}
use Rattle.kb_heap.specs.Heap.{literal}
use Rattle.kb_semantics.specs.Config.{Config, Ended, Ends, Goes, Outcome, Setting, instruction_at}
use Rattle.kb_semantics.specs.Inputs.{IsInputObject, IsTypeCorrect}
use Rattle.kb_semantics.specs.Instructions.{here}
use Rattle.kb_semantics.specs.Step.{follow, run, run_of, start_of, step}
use Rattle.kb_world.specs.Reach.{IsAccepted}
use Rattle.kb_test_laws.specs.Texts.{EndHasTexts, EndingHasText, NamesHaveTexts}
use Rattle.kb_test_laws.proofs.BroughtLaws.{IsReachedMethod, IsRunType, brought}
use Rattle.kb_test_laws.proofs.CallLaws.{table_selects_none}
use Rattle.kb_test_laws.proofs.PlatformTable.{IsTableName, arithmetic_in_table, array_store_in_table, class_cast_in_table, index_outside_in_table, negative_size_in_table, null_pointer_in_table, row_named, string_in_table}
use Rattle.kb_test_laws.proofs.ReachLaws.{sound_at, target_reached}
use Rattle.kb_test_laws.proofs.Within.{AreOfKinds, IsClosed, IsOfKind, IsWithin, Stays, if_stays, with_stays}
use Rattle.kb_test_laws.proofs.WithinEffects.{effect_stays}

all_weaker : {A : Type 0} (P Q : A → Type 0) (xs : List A) → ((x : A) → P x → Q x) → AllByRecursion P xs → AllByRecursion Q xs
all_weaker P Q [] f all = tt
all_weaker P Q (x ∷ xs) f all = (f x all.0, all_weaker P Q xs f all.1)

all_same : {A : Type 0} (P : A → Type 0) (n : ℕ) (x : A) → P x → AllByRecursion P (replicate n x)
all_same P zero x one = tt
all_same P (suc n) x one = (one, all_same P n x one)

module _ (s : Setting) (id : MethodId) (linked : IsLinked s.world) (names : NamesHaveTexts s.world) (accepted : IsAccepted s.world id) where
  abbrev reached : List ℕ
  reached = accepted.faultless.reached

  abbrev Kind : ExactType → Type 0
  Kind type = IsRunType s linked names reached type

  abbrev Method : MethodId → Type 0
  Method method = IsReachedMethod s linked names reached method

  table_type : (name : List ℕ) → IsTableName name → Kind (exact.Class name)
  table_type name is = record { text = subst (IsClassName Escaped) is.named (row_named is.row is.there); selects = inr (table_selects_none s.world linked name is) }

  closed : IsClosed s Kind Method
  closed = record {
    named = λ method is. names.methods method is.method is.there;
    of_null = table_type _ null_pointer_in_table;
    of_division = table_type _ arithmetic_in_table;
    of_index = table_type _ index_outside_in_table;
    of_store = table_type _ array_store_in_table;
    of_cast = table_type _ class_cast_in_table;
    of_size = table_type _ negative_size_in_table;
  }

  -- ---- steps

  step_stays : (c : Config) → IsWithin s Kind Method c → Stays s Kind Method (step s c)
  unfolding step
  step_stays c within =
      if_stays s Kind Method closed c within (nat_le s.bounds.steps c.carried) _ _ (λ e. (within.heap, tt))
      (with_stays s Kind Method closed c within (instruction_at s.world c.frame.method c.frame.at) _ (λ found e.
      let sound = sound_at s.world id.0 reached accepted.faultless.are_reached accepted.faultless.no_faults c.frame.method c.frame.at found within.frame.has e in
      effect_stays s Kind Method closed c within found.0 found.1 (brought s linked names reached (here s c) found.0 sound.faultless sound.mentions_reached)))

  -- ---- runs

  abbrev EndsWithin : Ended → Type 0
  EndsWithin e = AreOfKinds s Kind Method e.heap × EndingHasText e.ending

  follow_stays : (o : Outcome) (f : Config → Ended) → Stays s Kind Method o → ((d : Config) → IsWithin s Kind Method d → EndsWithin (f d)) → EndsWithin (follow o f)
  follow_stays (Goes d) f is later = later d is
  follow_stays (Ends e) f is later = is

  run_stays : (n : ℕ) (c : Config) → IsWithin s Kind Method c → EndsWithin (run n s c)
  unfolding run
  run_stays zero c within = (within.heap, tt)
  run_stays (suc n) c within = follow_stays (step s c) (run n s) (step_stays c within) (λ d is. run_stays n d is)

  -- ---- the beginning

  first_within : (input : Input) → IsTypeCorrect s.world id input → IsWithin s Kind Method (start_of s.world id input)
  first_within input typed =
      let own : AllByRecursion (IsOfKind s Kind Method) input.heap.objects =
      all_weaker (IsInputObject s.world input.heap) (IsOfKind s Kind Method) input.heap.objects
      (λ object is. record { text = names.universe object.kind is.universe; selects = inl is.universe }) typed.objects in
      let literals : AllByRecursion (IsOfKind s Kind Method) (replicate (length s.world.literals) literal) = all_same (IsOfKind s Kind Method) (length s.world.literals) literal (table_type _ string_in_table) in
      record {
        frame = record { has = target_reached s.world id.0 reached accepted.faultless.are_reached accepted.faultless.no_faults; method = typed.method; there = typed.method_is };
        callers = tt;
        heap = all_joined (IsOfKind s Kind Method) input.heap.objects (replicate (length s.world.literals) literal) own literals;
      }

  pub runs_have_texts : (input : Input) → IsTypeCorrect s.world id input → EndHasTexts (run_of s id input)
  runs_have_texts input typed =
      let ends = run_stays (suc s.bounds.steps) (start_of s.world id input) (first_within input typed) in
      record { objects = all_weaker (IsOfKind s Kind Method) _ _ (λ object is. is.text) ends.0; ending = ends.1 }
