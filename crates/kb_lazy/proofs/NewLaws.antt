-- The new objects of the first exact type stand before those of the others.
use Rattle.std.proofs.Common.{◌≡◌, ℕ, ◌-◌, ◌≤◌, Bool, true, false, cond, List, [], ◌∷◌, ◌++◌, length, take, drop, filter, get_or, refl, sym, ap, ◌∙◌, arith, append_assoc, append-nil, take_all}
use Rattle.std.specs.List.{flat_map}
use Rattle.kb_classes.specs.Subtypes.{fits}
use Rattle.kb_classes.specs.World.{World}
use Rattle.kb_names.specs.declared.types.ExactType.{ExactType}
use Rattle.kb_names.specs.declared.types.JType.{JType}
use Rattle.kb_picture.specs.declared.choice.Choice.{Choice}
use Rattle.kb_lazy.specs.Choices.{new_objects}

new_more : (world : World) (type : JType) (array : ℕ) (kind : ExactType) (kinds : List ExactType)
    → flat_map (new_objects array) (filter (λ other. fits world other type) (kind ∷ kinds))
    ≡ flat_map (new_objects array) (filter (λ other. fits world other type) (kind ∷ [])) ++ flat_map (new_objects array) (filter (λ other. fits world other type) kinds)
new_more world type array kind kinds = go (filter (λ other. fits world other type) kinds) (fits world kind type)
  where
    go : (rest : List ExactType) (b : Bool) → flat_map (new_objects array) (cond b (kind ∷ rest) rest) ≡ flat_map (new_objects array) (cond b (kind ∷ []) []) ++ flat_map (new_objects array) rest
    go rest true = ap (λ (front : List Choice). front ++ flat_map (new_objects array) rest) (sym (append-nil (new_objects array kind)))
    go rest false = refl

-- those of the first one are added, and those of the others are left
pub new_step : (world : World) (type : JType) (array : ℕ) (choices new all : List Choice) (rest : List ExactType) (first : ExactType) → 1 ≤ length rest → first ≡ get_or rest 0 first
    → new ≡ choices ++ flat_map (new_objects array) (filter (λ other. fits world other type) (first ∷ []))
    → choices ++ flat_map (new_objects array) (filter (λ other. fits world other type) rest) ≡ all
    → new ++ flat_map (new_objects array) (filter (λ other. fits world other type) (take (length rest - 1) (drop 1 rest))) ≡ all
new_step world type array choices new all [] first some is added left = absurd (omega (arith, some))
new_step world type array choices new all (kind ∷ others) first some is added left =
    ap (λ (kinds : List ExactType). new ++ new_of kinds) (take_all (length (kind ∷ others) - 1) others (omega arith))
    ∙ (ap (λ (front : List Choice). front ++ new_of others) (added ∙ ap (λ (x : ExactType). choices ++ new_of (x ∷ [])) is)
    ∙ (append_assoc choices (new_of (kind ∷ [])) (new_of others) ∙ (ap (λ (more : List Choice). choices ++ more) (sym (new_more world type array kind others)) ∙ left)))
  where
    new_of : List ExactType → List Choice
    new_of kinds = flat_map (new_objects array) (filter (λ other. fits world other type) kinds)
