-- The parts of slots that are read.
use Rattle.std.proofs.Common.{◌≡◌, ◌≢◌, ℕ, ◌<◌, ◌^◌, List, [], ◌∷◌, ◌++◌, Option, None, Some, refl, sym, ◌∙◌, ap, arith}
use Rattle.std.specs.Prelude.{codes}
use Rattle.std.specs.Fmt.{decimal}
use Rattle.kb_grammar.specs.Lines.{Lacks, IsTail}
use Rattle.kb_grammar.specs.Numbers.{SpellsNumber, SpellsNumberBehind}
use Rattle.kb_grammar.proofs.WordLaws.{same_cut, same_first, same_behind, not_lacking, Lacks-++}
use Rattle.kb_grammar.proofs.NumberLaws.{same_numbered}
use Rattle.kb_names.specs.Escapes.{name_text, SpellsName}
use Rattle.kb_names.specs.declared.types.JType.{JType}
use Rattle.kb_heap_words.proofs.Lacking.{digits_lack, name_lacks, dot, colon, bracket, bracket_end}
use Rattle.kb_path_words.specs.declared.slots.FieldWord.{FieldWord}
use Rattle.kb_path_words.specs.declared.slots.SlotWord.{SlotWord}
use Rattle.kb_path_words.specs.declared.slots.SlotWord.TheVariants.{Arg, Field, Element}
use Rattle.kb_path_words.specs.Slots.{kind_text, field_text, slot_text, IsField, SpellsKind, SpellsField, SpellsSlot, SpellsFieldOf, SpellsElement}

-- ---- fields

kind_tail : (kind : Option JType) → IsTail 58 (kind_text kind)
kind_tail None = tt
kind_tail (Some kind) = refl

-- the class and the rest
member_of : (text class member : List ℕ) → Lacks 46 class → text ≡ class ++ 46 ∷ member → (field : FieldWord) → SpellsField field text → (class ≡ name_text field.class) × (member ≡ name_text field.name ++ kind_text field.kind)
unfolding field_text
member_of text class member lacks e field spells =
    same_cut 46 class (name_text field.class) member (name_text field.name ++ kind_text field.kind) lacks (name_lacks 46 dot (omega arith) field.class) (sym e ∙ spells.1)

-- the name and the descriptor
kind_of : (text class member name descriptor : List ℕ) → Lacks 46 class → text ≡ class ++ 46 ∷ member → Lacks 58 name → IsTail 58 descriptor → member ≡ name ++ descriptor
    → (field : FieldWord) → SpellsField field text → (name ≡ name_text field.name) × (descriptor ≡ kind_text field.kind)
kind_of text class member name descriptor p e q tail f field spells =
    same_first 58 name (name_text field.name) descriptor (kind_text field.kind) q (name_lacks 58 colon (omega arith) field.name) tail (kind_tail field.kind) (sym f ∙ (member_of text class member p e field spells).1)

pub no_dot : (text : List ℕ) → Lacks 46 text → (field : FieldWord) → SpellsField field text → ⊥
unfolding field_text
no_dot text lacks field spells = not_lacking 46 (name_text field.class) (name_text field.name ++ kind_text field.kind) text lacks (sym spells.1)

pub no_class : (text class member : List ℕ) → Lacks 46 class → text ≡ class ++ 46 ∷ member → ((name : List ℕ) → SpellsName name class → ⊥) → (field : FieldWord) → SpellsField field text → ⊥
no_class text class member lacks e none field spells = none field.class (spells.0.class, (member_of text class member lacks e field spells).0)

pub no_name : (text class member name descriptor : List ℕ) → Lacks 46 class → text ≡ class ++ 46 ∷ member → Lacks 58 name → IsTail 58 descriptor → member ≡ name ++ descriptor
    → ((spelled : List ℕ) → SpellsName spelled name → ⊥) → (field : FieldWord) → SpellsField field text → ⊥
no_name text class member name descriptor p e q tail f none field spells = none field.name (spells.0.name, (kind_of text class member name descriptor p e q tail f field spells).0)

pub no_kind : (text class member name descriptor : List ℕ) → Lacks 46 class → text ≡ class ++ 46 ∷ member → Lacks 58 name → IsTail 58 descriptor → member ≡ name ++ descriptor
    → ((kind : Option JType) → SpellsKind kind descriptor → ⊥) → (field : FieldWord) → SpellsField field text → ⊥
no_kind text class member name descriptor p e q tail f none field spells = none field.kind (spells.0.kind, (kind_of text class member name descriptor p e q tail f field spells).1)

pub whole_field : (text class member name descriptor of named : List ℕ) (kind : Option JType) → text ≡ class ++ 46 ∷ member → member ≡ name ++ descriptor
    → SpellsName of class → SpellsName named name → SpellsKind kind descriptor → SpellsField (record { class = of; name = named; kind = kind }) text
unfolding field_text
whole_field text class member name descriptor of named kind e f p q r = (
  record { class = p.0; name = q.0; kind = r.0 },
  e ∙ ap (λ (t : List ℕ). t ++ 46 ∷ member) p.1
      ∙ ap (λ (t : List ℕ). name_text of ++ 46 ∷ t) (f ∙ ap (λ (t : List ℕ). t ++ descriptor) q.1 ∙ ap (λ (t : List ℕ). name_text named ++ t) r.1),
)

-- ---- fields of objects

pub no_object : (word : List ℕ) → ((number : ℕ) (rest : List ℕ) → number < 2 ^ 32 → IsTail 46 rest → word ≡ codes "o" ++ (decimal number ++ rest) → ⊥) → (parts : ℕ × FieldWord) → SpellsFieldOf parts word → ⊥
unfolding slot_text
no_object word none parts spells = none parts.0 (46 ∷ field_text parts.1) spells.0.0 refl spells.1

behind_object : (word rest : List ℕ) (object : ℕ) → object < 2 ^ 32 → IsTail 46 rest → word ≡ codes "o" ++ (decimal object ++ rest) → (parts : ℕ × FieldWord) → SpellsFieldOf parts word → rest ≡ 46 ∷ field_text parts.1
unfolding slot_text
behind_object word rest object small tail e parts spells =
    (same_numbered 46 (codes "o") object parts.0 rest (46 ∷ field_text parts.1) (omega arith) small spells.0.0 tail refl (sym e ∙ spells.1)).1

pub no_member : (word rest : List ℕ) (object : ℕ) → object < 2 ^ 32 → IsTail 46 rest → word ≡ codes "o" ++ (decimal object ++ rest) → ((text : List ℕ) → rest ≡ codes "." ++ text → ⊥)
    → (parts : ℕ × FieldWord) → SpellsFieldOf parts word → ⊥
no_member word rest object small tail e none parts spells = none (field_text parts.1) (behind_object word rest object small tail e parts spells)

pub no_field : (word rest text : List ℕ) (object : ℕ) → object < 2 ^ 32 → IsTail 46 rest → word ≡ codes "o" ++ (decimal object ++ rest) → rest ≡ codes "." ++ text → ((field : FieldWord) → SpellsField field text → ⊥)
    → (parts : ℕ × FieldWord) → SpellsFieldOf parts word → ⊥
no_field word rest text object small tail e f none parts spells =
    none parts.1 (spells.0.1, same_behind (codes ".") text (field_text parts.1) (sym f ∙ behind_object word rest object small tail e parts spells))

pub whole_field_of : (word rest text : List ℕ) (object : ℕ) (field : FieldWord) → object < 2 ^ 32 → word ≡ codes "o" ++ (decimal object ++ rest) → rest ≡ codes "." ++ text → SpellsField field text → SpellsFieldOf (object, field) word
unfolding slot_text
whole_field_of word rest text object field small e f spells =
    ((small, spells.0), e ∙ ap (λ (t : List ℕ). codes "o" ++ (decimal object ++ t)) (f ∙ ap (λ (t : List ℕ). codes "." ++ t) spells.1))

-- ---- elements

abbrev indexed : ℕ → List ℕ
indexed index = decimal index ++ 93 ∷ []

element_is : (parts : ℕ × ℕ) (word text : List ℕ) → word ≡ codes "o" ++ text → SpellsElement parts word → text ≡ decimal parts.0 ++ 91 ∷ indexed parts.1
unfolding slot_text
element_is parts word text e spells = same_behind (codes "o") text (decimal parts.0 ++ 91 ∷ indexed parts.1) (sym e ∙ spells.1)

pub no_o : (word : List ℕ) → ((text : List ℕ) → word ≡ codes "o" ++ text → ⊥) → (parts : ℕ × ℕ) → SpellsElement parts word → ⊥
unfolding slot_text
no_o word none parts spells = none (decimal parts.0 ++ 91 ∷ indexed parts.1) spells.1

pub no_bracket : (word text : List ℕ) → word ≡ codes "o" ++ text → Lacks 91 text → (parts : ℕ × ℕ) → SpellsElement parts word → ⊥
no_bracket word text e lacks parts spells = not_lacking 91 (decimal parts.0) (indexed parts.1) text lacks (sym (element_is parts word text e spells))

array_of : (word text array rest : List ℕ) → word ≡ codes "o" ++ text → Lacks 91 array → text ≡ array ++ 91 ∷ rest → (parts : ℕ × ℕ) → SpellsElement parts word → (array ≡ decimal parts.0) × (rest ≡ indexed parts.1)
array_of word text array rest e lacks f parts spells =
    same_cut 91 array (decimal parts.0) rest (indexed parts.1) lacks (digits_lack 91 parts.0 bracket spells.0.0) (sym f ∙ element_is parts word text e spells)

pub no_end : (word text array rest : List ℕ) → word ≡ codes "o" ++ text → Lacks 91 array → text ≡ array ++ 91 ∷ rest → Lacks 93 rest → (parts : ℕ × ℕ) → SpellsElement parts word → ⊥
no_end word text array rest e lacks f none parts spells = not_lacking 93 (decimal parts.1) [] rest none (sym (array_of word text array rest e lacks f parts spells).1)

index_of : (word text array rest index tail : List ℕ) → word ≡ codes "o" ++ text → Lacks 91 array → text ≡ array ++ 91 ∷ rest → Lacks 93 index → rest ≡ index ++ 93 ∷ tail
    → (parts : ℕ × ℕ) → SpellsElement parts word → (index ≡ decimal parts.1) × (tail ≡ [])
index_of word text array rest index tail e lacks f free g parts spells =
    same_cut 93 index (decimal parts.1) tail [] free (digits_lack 93 parts.1 bracket_end spells.0.1) (sym g ∙ (array_of word text array rest e lacks f parts spells).1)

pub whole_element : (word text array rest index tail : List ℕ) (number at : ℕ) → word ≡ codes "o" ++ text → text ≡ array ++ 91 ∷ rest → rest ≡ index ++ 93 ∷ tail → tail ≡ [] → SpellsNumber number array → SpellsNumber at index
    → SpellsElement (number, at) word
unfolding slot_text
whole_element word text array rest index tail number at e f g none p q = (
  (p.0, q.0),
  e ∙ ap (λ (t : List ℕ). codes "o" ++ t)
      (f ∙ ap (λ (t : List ℕ). t ++ 91 ∷ rest) p.1 ∙ ap (λ (t : List ℕ). decimal number ++ 91 ∷ t) (g ∙ ap (λ (t : List ℕ). t ++ 93 ∷ tail) q.1 ∙ ap (λ (t : List ℕ). decimal at ++ 93 ∷ t) none)),
)

module _ (word text array rest index tail : List ℕ) (e : word ≡ codes "o" ++ text) (lacks : Lacks 91 array) (f : text ≡ array ++ 91 ∷ rest) (free : Lacks 93 index) (g : rest ≡ index ++ 93 ∷ tail) where
  pub more_behind : (tail ≡ [] → ⊥) → (parts : ℕ × ℕ) → SpellsElement parts word → ⊥
  more_behind some parts spells = some (index_of word text array rest index tail e lacks f free g parts spells).1

  pub no_array : ((number : ℕ) → SpellsNumber number array → ⊥) → (parts : ℕ × ℕ) → SpellsElement parts word → ⊥
  no_array none parts spells = none parts.0 (spells.0.0, (array_of word text array rest e lacks f parts spells).0)

  pub no_index : ((number : ℕ) → SpellsNumber number index → ⊥) → (parts : ℕ × ℕ) → SpellsElement parts word → ⊥
  no_index none parts spells = none parts.1 (spells.0.1, (index_of word text array rest index tail e lacks f free g parts spells).0)

-- ---- slots

pub no_slot : (word : List ℕ) → ((number : ℕ) → SpellsNumberBehind (codes "a") number word → ⊥) → ((parts : ℕ × ℕ) → SpellsElement parts word → ⊥) → ((parts : ℕ × FieldWord) → SpellsFieldOf parts word → ⊥)
    → (slot : SlotWord) → SpellsSlot slot word → ⊥
unfolding slot_text
no_slot word args elements fields (Arg number) spells = args number spells
no_slot word args elements fields (Field object field) spells = fields (object, field) spells
no_slot word args elements fields (Element array index) spells = elements (array, index) spells
