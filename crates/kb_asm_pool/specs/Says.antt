-- What the entries of a constant pool say, in full (The Java Virtual Machine Specification, Java SE 8 Edition, section 4.4).
use Rattle.std.specs.Prelude.{ℕ, ℤ, Bool, true, false, ◌&&◌, List, [], ◌∷◌, ◌++◌, fold, if◌then◌else◌}
use Rattle.std.specs.List.{list_any}
use Rattle.std.specs.Ordering.{int_eq}
use Rattle.std.specs.Str.{bytes_eq}
use Rattle.kb_asm_pool.specs.declared.items.ReferenceKind.{ReferenceKind}
use Rattle.kb_asm_pool.specs.declared.items.ReferenceKind.TheVariants as kinds

pub data Says : Type 0 where
  text : List ℕ → Says
  int : ℤ → Says
  class : List ℕ → Says
  string : List ℕ → Says
  name_type : List ℕ → List ℕ → Says
  -- a member by its class, its name and its descriptor
  member : ReferenceKind → List ℕ → List ℕ → List ℕ → Says

abbrev pub same_kind : ReferenceKind → ReferenceKind → Bool
same_kind kinds.Field kinds.Field = true
same_kind kinds.Method kinds.Method = true
same_kind kinds.InterfaceMethod kinds.InterfaceMethod = true
same_kind _ _ = false

-- whether two entries say the same
abbrev pub same : Says → Says → Bool
same (text a) (text b) = bytes_eq a b
same (int a) (int b) = int_eq a b
same (class a) (class b) = bytes_eq a b
same (string a) (string b) = bytes_eq a b
same (name_type a c) (name_type b d) = bytes_eq a b && bytes_eq c d
same (member k a c e) (member l b d f) = same_kind k l && (bytes_eq a b && (bytes_eq c d && bytes_eq e f))
same _ _ = false

-- an entry more, unless it is there
abbrev pub added : List Says → Says → List Says
added says one = if list_any (same one) says then says else says ++ one ∷ []

-- these more, each unless it is there
abbrev pub all_added : List Says → List Says → List Says
all_added says more = fold added says more
