-- The rules of names and descriptors, as facts of entries and members and as facts of places.
use Rattle.std.proofs.Common.{◌↔◌, List, [], ◌∷◌, ◌++◌, map, Option, Some, None}
use Rattle.std.specs.List.{AllByRecursion, filter_map, cons_option}
use Rattle.kb_classfile.specs.declared.file.ClassFile.{ClassFile}
use Rattle.kb_classfile.specs.declared.file.PoolEntry.{PoolEntry}
use Rattle.kb_classfile.specs.declared.file.PoolEntry.TheVariants as entries
use Rattle.kb_format.specs.declared.place.Place.{Place}
use Rattle.kb_format.specs.Rules.{HasEntryName, HasAllowedNames, HasEntryType, HasDescriptors}
use Rattle.kb_format.specs.Places.{IsMet, name_in_entry, name_of_field, name_of_method, name_places, type_in_entry, type_of_field, type_of_method, type_places}
use Rattle.kb_format.proofs.Lists.{all_joined, all_front, all_back, all_made, made_all}

-- what holds of a place, where there is one
abbrev IfAsked : (Place → Type 0) → Option Place → Type 0
IfAsked P None = Unit {0}
IfAsked P (Some place) = P place

module _ {A : Type 0} (place_in : A → Option Place) (Q : A → Type 0) (P : Place → Type 0) where
  from_items : ((x : A) → Q x → IfAsked P (place_in x)) → (xs : List A) → AllByRecursion Q xs → AllByRecursion P (filter_map place_in xs)
  from_items turn [] all = tt
  from_items turn (x ∷ xs) all = join (place_in x) (turn x all.0) (from_items turn xs all.1) where
    join : (place : Option Place) → IfAsked P place → AllByRecursion P (filter_map place_in xs) → AllByRecursion P (cons_option place (filter_map place_in xs))
    join None one others = others
    join (Some place) one others = (one, others)

  to_items : ((x : A) → IfAsked P (place_in x) → Q x) → (xs : List A) → AllByRecursion P (filter_map place_in xs) → AllByRecursion Q xs
  to_items turn [] all = tt
  to_items turn (x ∷ xs) all = let both = part (place_in x) all in (turn x both.0, to_items turn xs both.1) where
    part : (place : Option Place) → AllByRecursion P (cons_option place (filter_map place_in xs)) → IfAsked P place × AllByRecursion P (filter_map place_in xs)
    part None all = (tt, all)
    part (Some place) all = (all.0, all.1)

module _ (file : ClassFile) where
  name_asked : (entry : PoolEntry) → HasEntryName file entry ↔ IfAsked (IsMet file.pool) (name_in_entry entry)
  name_asked (entries.Utf8 text) = ((λ h. h), (λ h. h))
  name_asked (entries.Integer value) = ((λ h. h), (λ h. h))
  name_asked entries.Wide = ((λ h. h), (λ h. h))
  name_asked entries.Second = ((λ h. h), (λ h. h))
  name_asked (entries.Class name) = ((λ h. h), (λ h. h))
  name_asked (entries.Str text) = ((λ h. h), (λ h. h))
  name_asked (entries.Field class member) = ((λ h. h), (λ h. h))
  name_asked (entries.Method class member) = ((λ h. h), (λ h. h))
  name_asked (entries.InterfaceMethod class member) = ((λ h. h), (λ h. h))
  name_asked (entries.NameType name kind) = ((λ h. h), (λ h. h))
  name_asked entries.Skipped = ((λ h. h), (λ h. h))

  type_asked : (entry : PoolEntry) → HasEntryType file entry ↔ IfAsked (IsMet file.pool) (type_in_entry entry)
  type_asked (entries.Utf8 text) = ((λ h. h), (λ h. h))
  type_asked (entries.Integer value) = ((λ h. h), (λ h. h))
  type_asked entries.Wide = ((λ h. h), (λ h. h))
  type_asked entries.Second = ((λ h. h), (λ h. h))
  type_asked (entries.Class name) = ((λ h. h), (λ h. h))
  type_asked (entries.Str text) = ((λ h. h), (λ h. h))
  type_asked (entries.Field class member) = ((λ h. h), (λ h. h))
  type_asked (entries.Method class member) = ((λ h. h), (λ h. h))
  type_asked (entries.InterfaceMethod class member) = ((λ h. h), (λ h. h))
  type_asked (entries.NameType name kind) = ((λ h. h), (λ h. h))
  type_asked entries.Skipped = ((λ h. h), (λ h. h))

  abbrev Met : Place → Type 0
  Met = IsMet file.pool

  pub names_met : HasAllowedNames file → AllByRecursion (IsMet file.pool) (name_places file)
  names_met h =
      all_joined Met (filter_map name_in_entry file.pool) (map name_of_field file.fields ++ map name_of_method file.methods)
      (from_items name_in_entry (HasEntryName file) Met (λ entry has. (name_asked entry).0 has) file.pool h.entries)
      (all_joined Met (map name_of_field file.fields) (map name_of_method file.methods)
      (all_made name_of_field Met file.fields h.fields) (all_made name_of_method Met file.methods h.methods))

  pub names_allowed : AllByRecursion (IsMet file.pool) (name_places file) → HasAllowedNames file
  names_allowed all =
      let members = all_back Met (filter_map name_in_entry file.pool) (map name_of_field file.fields ++ map name_of_method file.methods) all in
      record {
        entries = to_items name_in_entry (HasEntryName file) Met (λ entry met. (name_asked entry).1 met) file.pool (all_front Met (filter_map name_in_entry file.pool) (map name_of_field file.fields ++ map name_of_method file.methods) all);
        fields = made_all name_of_field Met file.fields (all_front Met (map name_of_field file.fields) (map name_of_method file.methods) members);
        methods = made_all name_of_method Met file.methods (all_back Met (map name_of_field file.fields) (map name_of_method file.methods) members);
      }

  pub types_met : HasDescriptors file → AllByRecursion (IsMet file.pool) (type_places file)
  types_met h =
      all_joined Met (filter_map type_in_entry file.pool) (map type_of_field file.fields ++ map type_of_method file.methods)
      (from_items type_in_entry (HasEntryType file) Met (λ entry has. (type_asked entry).0 has) file.pool h.entries)
      (all_joined Met (map type_of_field file.fields) (map type_of_method file.methods)
      (all_made type_of_field Met file.fields h.fields) (all_made type_of_method Met file.methods h.methods))

  pub types_right : AllByRecursion (IsMet file.pool) (type_places file) → HasDescriptors file
  types_right all =
      let members = all_back Met (filter_map type_in_entry file.pool) (map type_of_field file.fields ++ map type_of_method file.methods) all in
      record {
        entries = to_items type_in_entry (HasEntryType file) Met (λ entry met. (type_asked entry).1 met) file.pool (all_front Met (filter_map type_in_entry file.pool) (map type_of_field file.fields ++ map type_of_method file.methods) all);
        fields = made_all type_of_field Met file.fields (all_front Met (map type_of_field file.fields) (map type_of_method file.methods) members);
        methods = made_all type_of_method Met file.methods (all_back Met (map type_of_field file.fields) (map type_of_method file.methods) members);
      }
