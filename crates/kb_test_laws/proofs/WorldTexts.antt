-- In a world of class files that bytes spell all names have texts.
use Rattle.std.proofs.Common.{◌≡◌, ℕ, ◌+◌, ◌⊎◌, inl, inr, ◌&&◌, List, [], ◌∷◌, ◌++◌, map, filter, length, Option, Some, None, IsSome, slice_get, sym, ap, subst, ◌∙◌, zero-add}
use Rattle.std.specs.List.{AllByRecursion}
use Rattle.std.specs.Option.{option_map_or}
use Rattle.std.proofs.lemmas.Option.{none-some}
use Rattle.kb_names.specs.Bytes.{AreBytes}
use Rattle.kb_names.specs.Descriptors.{IsClassName, IsMethodType}
use Rattle.kb_names.specs.Targets.{IsTarget}
use Rattle.kb_names.specs.declared.class_names.Spelling.TheVariants.{Escaped}
use Rattle.kb_names.specs.declared.types.ExactType.{ExactType}
use Rattle.kb_names.specs.declared.types.ExactType.TheVariants as exact
use Rattle.kb_names.specs.declared.types.JType.{JType}
use Rattle.kb_names.proofs.Choices.{passed}
use Rattle.kb_classfile.specs.declared.file.ClassFile.{ClassFile}
use Rattle.kb_class.specs.declared.given.GivenClass.{GivenClass}
use Rattle.kb_class.specs.declared.ids.MethodId.{MethodId}
use Rattle.kb_class.specs.declared.members.MethodInfo.{MethodInfo}
use Rattle.kb_class.specs.Class.{Class, Entry, type_of_entry}
use Rattle.kb_class.specs.Naming.{Has, Names}
use Rattle.kb_class.specs.Platform.{IsPlatform, IsPlatformMethod, platform_table}
use Rattle.kb_class.proofs.Lists.{has_cases, has_first, has_later, has_none, has_either, has_mapped, has_zipped}
use Rattle.kb_link.specs.Links.{Links, Loads}
use Rattle.kb_classes.specs.Universe.{exact_class, given_types, is_given, is_concrete, IsNamed, AreNamedPlatform, IsNamedArray}
use Rattle.kb_classes.specs.World.{World, type_entry_of}
use Rattle.kb_link.proofs.Loaded.{classes_many}
use Rattle.kb_classes.proofs.MethodNumbers.{get_either, stands_in}
use Rattle.kb_link.proofs.SharingLaws.{in_filter}
use Rattle.kb_semantics.specs.Config.{class_name, info_of, no_target, target_of}
use Rattle.kb_heap_words.specs.Words.{IsExact}
use Rattle.kb_test_laws.specs.Texts.{IsOfBytes, NamesHaveTexts}
use Rattle.kb_test_laws.proofs.DescriptorLaws.{held_has_text, exact_of_has_text, part_has_text}
use Rattle.kb_test_laws.proofs.PlatformTable.{row_named, row_methods}
use Rattle.kb_test_laws.proofs.PlatformLaws.{IsRow, row_of}
use Rattle.kb_test_laws.proofs.ClassTexts.{IsOwn, own_at, name_has_text, entry_has_text, method_name, method_kind, described}

-- each of these types is that of a class
platform_class : (classes all : List Class) (types : List ExactType) (type : ExactType) → AreNamedPlatform all classes types → Has types type → (class : Class) × Has classes class × (exact_class class ≡ type)
platform_class [] all types type are has = absurd (has_none type (subst (λ (ts : List ExactType). Has ts type) are has))
platform_class (class ∷ classes) all types type (inl first) has =
    elim (has_cases (exact_class class) type first.1 (subst (λ (ts : List ExactType). Has ts type) first.2 has)) [
      | inl same ↦ (class, has_first class classes, same)
      | inr later ↦ (let found = platform_class classes all first.1 type first.3 later in (found.0, has_later class found.0 classes found.1, found.2))
    ]
platform_class (class ∷ classes) all types type (inr rest) has = (let found = platform_class classes all types type rest.1 has in (found.0, has_later class found.0 classes found.1, found.2))

module _ (given : List GivenClass) (world : World) (of_bytes : AllByRecursion IsOfBytes given) (links : Links given world) where
  abbrev loads : Loads given world.classes
  loads = links.loads

  -- ---- classes

  own_or_row : (number : ℕ) (class : Class) → slice_get world.classes number ≡ Some class → IsOwn number class ⊎ IsRow number class
  own_or_row number class at =
      elim (get_either loads.own loads.platform number class (subst (λ (cs : List Class). slice_get cs number ≡ Some class) loads.parts at)) [
        | inl own ↦ inl (subst (λ (n : ℕ). IsOwn n class) (zero-add number) (own_at 0 given loads.own number class loads.format of_bytes loads.are_own own))
        | inr behind ↦ inr (let found = row_of (length given) platform_table loads.platform behind.0 class loads.are_platform behind.2 in
            record { row = found.0; in_table = found.1; is = subst (λ (n : ℕ). IsPlatform n found.0 class) (ap (λ (n : ℕ). n + behind.0) (sym many) ∙ behind.1) found.2 })
      ]
    where
      many : length loads.own ≡ length given
      many = classes_many 0 given loads.own loads.are_own

  class_named : (number : ℕ) (class : Class) → slice_get world.classes number ≡ Some class → IsClassName Escaped class.name
  class_named number class at = elim (own_or_row number class at) [
    | inl own ↦ name_has_text number class own
    | inr row ↦ subst (IsClassName Escaped) (sym row.is.name) (row_named row.row row.in_table)
  ]

  -- ---- the universe

  named_has_text : (type : ExactType) → IsNamed world.classes type → IsExact type
  named_has_text type (class, has, some, names) = elim (own_or_row has.0 class has.1) [ inl own ↦ of_own own names | inr row ↦ absurd (no_file row) ]
    where
      no_file : IsRow has.0 class → ⊥
      no_file row =
          let none : IsSome (let o : Option ClassFile = None in o) = subst (λ (o : Option ClassFile). IsSome o) row.is.file some in
          absurd cc

      of_own : IsOwn has.0 class → Names class type → IsExact type
      of_own own (inl entry) = entry_has_text has.0 class own entry.0 type (ap type_of_entry entry.1)
      of_own own (inr held) = exact_of_has_text held.1 type (held_has_text held.0 held.1 (described has.0 class own held.0 held.2) held.3) held.4

  array_has_text : (component : JType) → IsNamedArray world.classes component → IsExact (exact.Array component)
  array_has_text component named = part_has_text named.whole component (named_has_text (exact.Array named.whole) named.named) named.base named.part

  class_has_text : (class : Class) (type : ExactType) → Has world.classes class → exact_class class ≡ type → IsExact type
  class_has_text class type has same = subst IsExact same (class_named has.0 class has.1)

  universe_has_texts : (type : ExactType) → Has world.universe type → IsExact type
  universe_has_texts type has =
      let universe = links.linked.universe in
      elim (has_either (given_types world.classes ++ universe.platform) (map exact.Array universe.arrays) type (subst (λ (ts : List ExactType). Has ts type) universe.parts has)) [
        | inl classes ↦ elim (has_either (given_types world.classes) universe.platform type classes) [
          | inl own ↦ (let found = has_mapped exact_class (filter (λ class. is_given class && is_concrete class) world.classes) type own in
              class_has_text found.0 type (in_filter (λ class. is_given class && is_concrete class) world.classes found.0 found.1).0 found.2)
          | inr platform ↦ (let found = platform_class world.classes world.classes universe.platform type universe.are_platform platform in class_has_text found.0 type found.1 found.2)
        ]
        | inr array ↦ (let found = has_mapped exact.Array universe.arrays type array in
            subst IsExact found.2 (array_has_text found.0 ((universe.are_arrays.same found.0).0 found.1)))
      ]

  -- ---- entries

  entry_of : (class entry : ℕ) (type : ExactType) → type_entry_of world class entry ≡ Some type → IsExact type
  entry_of class entry type at =
      let found = passed (λ (c : Class). type_of_entry (slice_get c.entries entry)) (slice_get world.classes class) type at in
      elim (own_or_row class found.0 found.1) [
        | inl own ↦ entry_has_text class found.0 own entry type found.2
        | inr row ↦ absurd (none-some type (subst (λ (es : List Entry). type_of_entry (slice_get es entry) ≡ Some type) row.is.entries found.2))
      ]

  -- ---- methods

  abbrev HasTexts : MethodInfo → Type 0
  HasTexts method = AreBytes method.name × IsMethodType Escaped method.kind

  method_of_class : (number place : ℕ) (class : Class) (method : MethodInfo) → slice_get world.classes number ≡ Some class → slice_get class.methods place ≡ Some method → HasTexts method
  method_of_class number place class method class_at at = elim (own_or_row number class class_at) [
    | inl own ↦ (method_name number class own place method at, method_kind number class own place method at)
    | inr row ↦ (let found = has_zipped (IsPlatformMethod number) row.row.methods class.methods method row.is.methods (place, at) in
        let texts = row_methods row.row found.0 row.in_table found.1 in
        (subst AreBytes (sym found.2.name) texts.name, subst (IsMethodType Escaped) (sym found.2.kind) texts.kind))
  ]

  method_has_text : (id : MethodId) (method : MethodInfo) → info_of world id ≡ Some method → IsTarget (target_of world id)
  method_has_text id method at =
      let stands = stands_in world.classes id.0 method at in
      let number : method.class.0 ≡ stands.number = links.linked.loaded.methods.numbered stands.number stands.class method stands.class_is (stands.place, stands.there) in
      let name : class_name world method.class.0 ≡ stands.class.name =
      ap (class_name world) number ∙ ap (λ (o : Option Class). option_map_or (λ (c : Class). c.name) o []) stands.class_is in
      let texts = method_of_class stands.number stands.place stands.class method stands.class_is stands.there in
      subst (λ (o : Option MethodInfo). IsTarget (option_map_or (λ (m : MethodInfo). record { class = class_name world m.class.0; name = m.name; kind = m.kind }) o no_target)) (sym at)
      (record { class = subst (IsClassName Escaped) (sym name) (class_named stands.number stands.class stands.class_is); name = texts.0; kind = texts.1 })

  pub names_have_texts : NamesHaveTexts world
  names_have_texts = record { universe = universe_has_texts; entries = entry_of; methods = method_has_text }
