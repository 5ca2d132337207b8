-- Undoing entry by entry: what holds while it goes on.
use Rattle.std.proofs.Common.{◌≡◌, ℕ, ◌<◌, ◌≤◌, List, [], ◌∷◌, ◌++◌, length, take, slice_set, refl, sym, ap, subst, ◌∙◌, arith, length-append, length-set, take_all}
use Rattle.std.proofs.lemmas.List.{take-append-le, get_or_append_left, get_or_at}
use Rattle.kb_trail.specs.Trail.{Reaches, undone}
use Rattle.kb_trail.proofs.TrailLaws.{undone-here, undone-last, reaches-same}

-- the trail and the cells of a moment, where all above the mark is being undone from an older trail and older cells
abbrev pub IsUndoing : {T : Type 0} → List (ℕ × T) → List T → ℕ → List (ℕ × T) → List T → Type 0
IsUndoing old first mark trail cells =
    (mark ≤ length trail)
    × (take mark trail ≡ take mark old)
    × ((earlier : ℕ) → earlier ≤ mark → undone trail cells earlier ≡ undone old first earlier)
    × (length cells ≡ length first)
    × Reaches cells trail

module _ {T : Type 0} where
  pub starts : (old : List (ℕ × T)) (first : List T) (mark : ℕ) → mark ≤ length old → Reaches first old → IsUndoing old first mark old first
  starts old first mark inside reach = (inside, refl, λ earlier below. refl, refl, reach)

  -- the last entry has a place among the cells
  last-inside : (trail : List (ℕ × T)) (entry : ℕ × T) (cells : List T) → Reaches cells (trail ++ entry ∷ []) → entry.0 < length cells
  last-inside trail entry cells reach =
      subst (λ (e : ℕ × T). e.0 < length cells) (get_or_at trail entry [] entry (length trail) refl) (reach (length trail) entry (omega (arith, length-append trail (entry ∷ []))))

  pub popped-inside : (trail rest : List (ℕ × T)) (entry : ℕ × T) (cells : List T) → trail ≡ rest ++ entry ∷ [] → Reaches cells trail → entry.0 < length cells
  popped-inside trail rest entry cells is reach = last-inside rest entry cells (subst (Reaches cells) is reach)

  front-reaches : (trail : List (ℕ × T)) (entry : ℕ × T) (cells : List T) → Reaches cells (trail ++ entry ∷ []) → Reaches cells trail
  front-reaches trail entry cells reach = λ k d inside.
      subst (λ (e : ℕ × T). e.0 < length cells) (get_or_append_left trail (entry ∷ []) d k inside) (reach k d (omega (arith, inside, length-append trail (entry ∷ []))))

  pub turn : (old : List (ℕ × T)) (first : List T) (mark : ℕ) (trail rest : List (ℕ × T)) (entry : ℕ × T) (cells new : List T)
      → mark < length trail → trail ≡ rest ++ entry ∷ [] → new ≡ slice_set cells entry.0 entry.1 → IsUndoing old first mark trail cells → IsUndoing old first mark rest new
  turn old first mark trail rest entry cells new above is set h =
      let inside : mark ≤ length rest = omega (arith, above, ap length is, length-append rest (entry ∷ [])) in
      let long : length new ≡ length cells = ap length set ∙ length-set cells entry.0 entry.1 in (
        inside,
        sym (take-append-le mark rest (entry ∷ []) inside) ∙ ap (take mark) (sym is) ∙ h.1,
        λ earlier below.
            ap (λ cs. undone rest cs earlier) set
            ∙ sym (undone-last rest entry cells earlier (omega (arith, below, inside)))
            ∙ ap (λ es. undone es cells earlier) (sym is)
            ∙ h.2 earlier below,
        long ∙ h.3,
        reaches-same cells new rest long (front-reaches rest entry cells (subst (Reaches cells) is h.4)),
      )

  -- and what is left when nothing stands above the mark any more
  pub ends-cells : (old : List (ℕ × T)) (first : List T) (mark : ℕ) (trail : List (ℕ × T)) (cells : List T) → length trail ≤ mark → IsUndoing old first mark trail cells
      → cells ≡ undone old first mark
  ends-cells old first mark trail cells low h = sym (undone-here trail cells mark low) ∙ h.2 mark (omega arith)

  pub ends-trail : (old : List (ℕ × T)) (first : List T) (mark : ℕ) (trail : List (ℕ × T)) (cells : List T) → length trail ≤ mark → IsUndoing old first mark trail cells
      → trail ≡ take mark old
  ends-trail old first mark trail cells low h = sym (take_all mark trail low) ∙ h.1
