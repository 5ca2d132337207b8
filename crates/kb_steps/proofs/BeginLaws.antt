-- How the states of a method begin.
use Rattle.std.proofs.Common.{◌≡◌, ℕ, inl, inr, Bool, true, false, true≢false, [], Some, slice_get, refl, sym, ◌∙◌}
use Rattle.std.specs.List.{list_any}
use Rattle.kb_class.specs.declared.ids.MethodId.{MethodId}
use Rattle.kb_class.specs.declared.members.MethodInfo.{MethodInfo}
use Rattle.kb_link.specs.Links.{IsLinked}
use Rattle.kb_classes.specs.World.{World}
use Rattle.kb_resolution.specs.LeftOut.{has_left_out, is_left_out}
use Rattle.kb_semantics.specs.Config.{info_of}
use Rattle.kb_picture.specs.declared.choice.Init.TheVariants.{Lazy}
use Rattle.kb_frames.specs.State.{start_state}
use Rattle.kb_frames.specs.States.{IsState}
use Rattle.kb_frames.proofs.StateLaws.{start_is_state}
use Rattle.kb_ways.proofs.MethodLaws.{all_rise, start_typed}
use Rattle.kb_steps.specs.Stepping.{IsStepping}

params_built : (world : World) (info : MethodInfo) → has_left_out info.kind ≡ false → list_any is_left_out info.kind.params ≡ false
params_built world info e = go (list_any is_left_out info.kind.params) refl where
  go : (b : Bool) → list_any is_left_out info.kind.params ≡ b → list_any is_left_out info.kind.params ≡ false
  go false is = is
  go true is = absurd (true≢false (sym (rw is refl) ∙ e))

-- Before the arguments are read nothing is seen.
pub begins : (world : World) (method : MethodId) (info : MethodInfo) → IsLinked world → info_of world method ≡ Some info → has_left_out info.kind ≡ false
    → IsStepping world (start_state Lazy method)
begins world method info linked there built = record {
  reached = record {
    sound = sound;
    typed = start_typed world Lazy method sound;
    receiver = tt;
    parameters = rw there (params_built world info built);
    keys = all_rise world linked;
  };
  linked = linked;
  lazy = refl;
  known = refl;
  within = λ slot beyond. elim beyond [ inl seen ↦ no_at seen.0 _ seen.1 | inr loc ↦ no_at loc.0 _ loc.1 ];
  bounded = λ number object at. absurd (no_at number object at);
} where
  sound : IsState world (start_state Lazy method)
  sound = start_is_state world Lazy method info there

  no_at : {A : Type 0} (i : ℕ) (x : A) → slice_get [] i ≡ Some x → ⊥
  no_at i x e = absurd cc
