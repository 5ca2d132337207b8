-- Lines of objects whose slots hold the same.
use Rattle.std.proofs.Common.{◌≡◌, ℕ, zero, suc, ◌+◌, List, [], ◌∷◌, ◌++◌, codes, refl, ap, ◌∙◌}
use Rattle.std.specs.Fmt.{decimal}
use Rattle.kb_classes.specs.World.{World}
use Rattle.kb_classes.specs.declared.slots.FieldSlot.{FieldSlot}
use Rattle.kb_names.specs.Escapes.{name_text}
use Rattle.kb_names.specs.declared.types.ExactType.{ExactType}
use Rattle.kb_names.specs.declared.types.ExactType.TheVariants as exact
use Rattle.kb_semantics.specs.Values.{slots_of_class}
use Rattle.kb_heap_words.specs.Words.{exact_text}
use Rattle.kb_path_words.specs.Lines.{numbered_lines}
use Rattle.kb_picture.specs.declared.picture.Length.{Length}
use Rattle.kb_picture.specs.declared.picture.Length.TheVariants.{Plain, Is, Above}
use Rattle.kb_picture.specs.declared.picture.PicObject.{PicObject}
use Rattle.kb_diagram.specs.Diagram.{numbered_words, cell_word, field_cell, element_cells, array_cells, object_cells, object_line}

module _ (one other : ℕ → List ℕ) (same : (slot : ℕ) → one slot ≡ other slot) where
  same_fields : (n : ℕ) (fields : List FieldSlot) → numbered_words (field_cell one) n fields ≡ numbered_words (field_cell other) n fields
  same_fields n [] = refl
  same_fields n (field ∷ fields) =
      ap (λ (t : List ℕ). cell_word (name_text field.name) t ++ numbered_words (field_cell one) (n + 1) fields) (same n)
      ∙ ap (λ (t : List ℕ). cell_word (name_text field.name) (other n) ++ t) (same_fields (n + 1) fields)

  same_elements : (n : ℕ) → element_cells one n ≡ element_cells other n
  same_elements zero = refl
  same_elements (suc n) =
      ap (λ (t : List ℕ). t ++ cell_word (decimal n) (one n)) (same_elements n) ∙ ap (λ (t : List ℕ). element_cells other n ++ cell_word (decimal n) t) (same n)

  same_array : (len : Length) → array_cells one len ≡ array_cells other len
  same_array Plain = refl
  same_array (Is n) = same_elements n
  same_array (Above n) = refl

  same_cells : (world : World) (kind : ExactType) (len : Length) → object_cells world one kind len ≡ object_cells world other kind len
  same_cells world (exact.Class name) len = same_fields 0 (slots_of_class world name)
  same_cells world (exact.Array component) len = same_array len

module _ (world : World) (one other : ℕ → ℕ → List ℕ) (same : (object slot : ℕ) → one object slot ≡ other object slot) where
  same_line : (number : ℕ) (object : PicObject) → object_line world one number object ≡ object_line world other number object
  unfolding object_line
  same_line number object =
      ap (λ (t : List ℕ). codes "o" ++ (decimal number ++ (codes " " ++ (exact_text object.kind ++ t)))) (same_cells (one number) (other number) (same number) world object.kind object.length)

  pub same_lines : (n : ℕ) (objects : List PicObject) → numbered_lines (object_line world one) n objects ≡ numbered_lines (object_line world other) n objects
  same_lines n [] = refl
  same_lines n (object ∷ objects) =
      ap (λ (l : List ℕ). l ∷ numbered_lines (object_line world one) (n + 1) objects) (same_line n object)
      ∙ ap (λ (ls : List (List ℕ)). object_line world other n object ∷ ls) (same_lines (n + 1) objects)
