-- The state before the arguments are read has nothing yet that could be wrong.
use Rattle.std.proofs.Common.{◌≡◌, ℕ, [], length, Some, refl, arith}
use Rattle.std.specs.Prelude.{slice_get}
use Rattle.std.proofs.lemmas.Option.{slice_get_within}
use Rattle.kb_class.specs.declared.ids.MethodId.{MethodId}
use Rattle.kb_class.specs.declared.members.MethodInfo.{MethodInfo}
use Rattle.kb_classes.specs.World.{World}
use Rattle.kb_semantics.specs.Config.{info_of}
use Rattle.kb_semantics.specs.Inputs.{argument_types}
use Rattle.kb_terms.specs.Terms.{IsPool}
use Rattle.kb_picture.specs.declared.choice.Init.{Init}
use Rattle.kb_picture.specs.WellFormed.{IsPicture}
use Rattle.kb_frames.specs.State.{start_state}
use Rattle.kb_frames.specs.States.{IsState}

nothing_there : {A : Type 0} (n : ℕ) (x : A) → slice_get [] n ≡ Some x → ⊥
nothing_there n x e =
    let inside = slice_get_within [] n x e in
    omega (arith, inside)

no_terms : IsPool []
no_terms = record {
  small = omega arith;
  fits = λ i node e. absurd (nothing_there i node e);
  distinct = λ i j node p q. absurd (nothing_there i node p);
}

no_picture : (world : World) (params : ℕ) → IsPicture world params (record { seen = []; locs = []; objects = [] })
no_picture world params = record {
  slots = λ i slot e. absurd (nothing_there i slot e);
  once = λ i j slot p q. absurd (nothing_there i slot p);
  seen = λ i slot e. absurd (nothing_there i slot e);
  variables = refl;
  locations = refl;
  locs = λ number loc e. absurd (nothing_there number loc e);
  origins = λ number object e. absurd (nothing_there number object e);
  lengths = λ number object e. absurd (nothing_there number object e);
}

pub start_is_state : (world : World) (init : Init) (method : MethodId) (info : MethodInfo) → info_of world method ≡ Some info → IsState world (start_state init method)
start_is_state world init method info e = record {
  info = info;
  info_is = e;
  picture = no_picture world (length (argument_types world info));
  found = λ i slot e. absurd (nothing_there i slot e);
  pool = no_terms;
  kinds = refl;
  conditions = refl;
  stage = record { values = λ i value p. absurd (nothing_there i value p); seen = refl; carried = refl };
  cells = record {
    count = refl;
    each = λ number object cells p q. absurd (nothing_there number object p);
    seen = λ i slot p. absurd (nothing_there i slot p);
  };
  made = λ i made p. absurd (nothing_there i made p);
  chosen = tt;
}
