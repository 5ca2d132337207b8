-- What is known of each text of the pool, so that a text is judged once, however many places name it.
use Rattle.std.specs.Prelude.{ℕ, Bool, false, ◌||◌, ◌↔◌, List, [], ◌∷◌, Option, Some, None, slice_get, IsTrue, if◌then◌else◌}
use Rattle.kb_classfile.specs.declared.file.PoolEntry.{PoolEntry}
use Rattle.kb_format.specs.declared.place.Demand.{Demand}
use Rattle.kb_format.specs.declared.place.Demand.TheVariants as demands
use Rattle.kb_format.specs.declared.place.Place.{Place}
use Rattle.kb_format.specs.declared.verdicts.Verdict.{Verdict}
use Rattle.kb_format.specs.Rules.{IsFound}
use Rattle.kb_format.specs.Places.{Meets, IsMet}

abbrev pub meets : Verdict → Demand → Bool
meets verdict demands.ClassName = verdict.class_name
meets verdict demands.NotEmpty = verdict.not_empty
meets verdict demands.FieldType = verdict.field_type
meets verdict demands.MethodType = verdict.method_type
meets verdict demands.AnyType = verdict.field_type || verdict.method_type

-- the verdict says of each demand whether there is a text that meets it
abbrev pub Judges : Option (List ℕ) → Verdict → Type 0
Judges found verdict = (demand : Demand) → IsTrue (meets verdict demand) ↔ IsFound (Meets demand) found

abbrev pub meets_with : Option Verdict → Demand → Bool
meets_with None demand = false
meets_with (Some verdict) demand = meets verdict demand

abbrev pub is_met : List Verdict → Place → Bool
is_met verdicts place = meets_with (slice_get verdicts place.text) place.demand

-- the verdicts say of each place whether it is met
abbrev pub AreVerdicts : List PoolEntry → List Verdict → Type 0
AreVerdicts pool verdicts = (place : Place) → IsTrue (is_met verdicts place) ↔ IsMet pool place

-- the first of these places that is not met, by the number of its text's entry
abbrev pub first_unmet : List Verdict → List Place → Option ℕ
first_unmet verdicts [] = None
first_unmet verdicts (place ∷ others) = if is_met verdicts place then first_unmet verdicts others else Some place.text
