-- Laws of instances: of which parts one consists, and that it is an instance of the path with any front of its conditions.
use Rattle.std.proofs.Common.{◌≡◌, ◌↔◌, ℕ, zero, suc, ℤ, Bool, IsTrue, List, [], ◌∷◌, take, Some, sym, subst}
use Rattle.kb_blast.specs.Meaning.{AreMet}
use Rattle.kb_class.specs.declared.ids.MethodId.{MethodId}
use Rattle.kb_heap.specs.declared.heap.Input.{Input}
use Rattle.kb_classes.specs.World.{World}
use Rattle.kb_semantics.specs.Inputs.{IsTypeCorrect}
use Rattle.kb_picture.specs.declared.picture.PlaceLists.{PlaceLists}
use Rattle.kb_picture.specs.declared.path.Path.{Path}
use Rattle.kb_picture.specs.Instances.{IsInstance, IsShortInstance, term_values, with_conditions}
use Rattle.kb_picture.specs.Places.{places_of}
use Rattle.kb_picture.specs.Shapes.{HasShape}
use Rattle.kb_picture.proofs.ShapeLaws.{same_places}

pub met_front : (values : List ℤ) (count : ℕ) (when : List (ℕ × Bool)) → AreMet values when → AreMet values (take count when)
met_front values zero when met = tt
met_front values (suc count) [] met = tt
met_front values (suc count) (condition ∷ when) met = (met.0, met_front values count when met.1)

pub instance_front : (path : Path) (count : ℕ) (input : Input) → IsInstance path input → IsInstance (with_conditions path count) input
unfolding term_values
instance_front path count input instance_of = record {
  shape = instance_of.shape;
  conditions = met_front (term_values path input instance_of.shape.places.objects) count path.when instance_of.conditions;
}

-- so it is a short instance for every number of conditions
pub short_instance : (world : World) (id : MethodId) (path : Path) (count : ℕ) (input : Input) → IsTypeCorrect world id input → IsInstance path input
    → IsShortInstance world id path count input
short_instance world id path count input correct instance_of = record { correct = correct; instance_of = instance_front path count input instance_of }

-- what is told of the conditions at the places of the picture is told of the instance
pub instance_exactly : (path : Path) (input : Input) (places : PlaceLists) → places_of path.picture input ≡ Some places → HasShape path.picture input
    → (b : Bool) → (IsTrue b ↔ AreMet (term_values path input places.objects) path.when) → (IsTrue b ↔ IsInstance path input)
instance_exactly path input places placed shape b met = (
  (λ h. record {
    shape = shape;
    conditions = subst (λ (p : PlaceLists). AreMet (term_values path input p.objects) path.when) (sym (same_places path.picture input places placed shape)) (met.0 h);
  }),
  (λ i. met.1 (subst (λ (p : PlaceLists). AreMet (term_values path input p.objects) path.when) (same_places path.picture input places placed i.shape) i.conditions)),
)
