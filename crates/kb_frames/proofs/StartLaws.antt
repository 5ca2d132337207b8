-- The state before the arguments are read stands for the beginning of each run of its method: nothing is known of the input
-- yet.
use Rattle.std.proofs.Common.{◌≡◌, ℕ, ◌+◌, [], length, length-append, drop, Option, Some, None, refl, arith}
use Rattle.std.specs.Prelude.{replicate, slice_get}
use Rattle.std.proofs.lemmas.List.{drop_all, length-replicate}
use Rattle.std.proofs.lemmas.Option.{slice_get_within}
use Rattle.kb_class.specs.declared.ids.MethodId.{MethodId}
use Rattle.kb_heap.specs.declared.heap.Object.{Object}
use Rattle.kb_heap.specs.declared.heap.Input.{Input}
use Rattle.kb_heap.specs.Heap.{object_at, literal}
use Rattle.kb_classes.specs.World.{World}
use Rattle.kb_semantics.specs.Config.{Setting}
use Rattle.kb_semantics.specs.Step.{first_heap, start_of}
use Rattle.kb_picture.specs.declared.choice.Init.{Init}
use Rattle.kb_picture.specs.Places.{places_of}
use Rattle.kb_picture.specs.Shapes.{HasShape}
use Rattle.kb_frames.specs.State.{start_state}
use Rattle.kb_frames.specs.StandsFor.{StandsFor, reading_at, IsLike}

nothing_there : {A : Type 0} (n : ℕ) (x : A) → slice_get [] n ≡ Some x → ⊥
nothing_there n x e =
    let inside = slice_get_within [] n x e in
    omega (arith, inside)

-- the run has made nothing yet
none_made : (world : World) (input : Input) → drop (length input.heap.objects + length world.literals) (first_heap world input.heap).objects ≡ []
none_made world input =
    let many = length-append input.heap.objects (replicate (length world.literals) literal) in
    let literals = length-replicate (length world.literals) literal in
    drop_all (length input.heap.objects + length world.literals) (first_heap world input.heap).objects (omega (arith, many, literals))

like_itself : (object : Option Object) → IsLike object object
like_itself None = tt
like_itself (Some one) = (refl, refl)

-- every input has the shape of the picture of which nothing is known
no_places : (input : Input) → places_of (record { seen = []; locs = []; objects = [] }) input ≡ Some (record { objects = []; locs = [] })
unfolding places_of
no_places input = refl

abbrev shape : (input : Input) → HasShape (record { seen = []; locs = []; objects = [] }) input
shape input = record {
  places = record { objects = []; locs = [] };
  placed = no_places input;
  seen = tt;
  apart = λ one other place p q. absurd (nothing_there one place p);
  such = λ number place expected p q. absurd (nothing_there number expected p);
  stands = λ number place loc p q. absurd (nothing_there number loc p);
}

pub start_stands : (s : Setting) (init : Init) (method : MethodId) (input : Input) → StandsFor s (start_state init method) input (start_of s.world method input)
unfolding reading_at
start_stands s init method input = record {
  run = refl;
  instance_of = record { shape = shape input; conditions = tt };
  stage = (refl, refl);
  heap = record {
    made = none_made s.world input;
    like = λ object inside. like_itself (object_at (first_heap s.world input.heap) object);
    cells = λ object slot place p. absurd (nothing_there object place p);
    kept = λ object slot place value p e. absurd (nothing_there object place p);
    others = λ object inside none. refl;
  };
  written = λ slot inside. (λ has. absurd (nothing_there has.0 slot has.1), λ kept. absurd (nothing_there kept.object slot.object kept.place));
  chosen = tt;
}
