-- What `read_class` answers, and what its answers tell of the bytes.
use Rattle.std.specs.Prelude.{◌≡◌, ◌≢◌, ℕ, ◌≤◌, List, [], ◌++◌, length, drop, take, Some}
use Rattle.kb_classfile.specs.declared.file.ClassFile.{ClassFile}
use Rattle.kb_classfile.specs.declared.refusal.ClassRefusal.{ClassRefusal}
use Rattle.kb_classfile.specs.declared.refusal.ClassRefusal.TheVariants as refusals
use Rattle.kb_classfile.specs.Spelling.{Spells, IsU2, IsU4, magic, most_bytes}
use Rattle.kb_classfile.specs.Reading.{first_fault}

-- the refusal is the first fault of the bytes, unless memory ran out
abbrev pub Refuses : List ℕ → ClassRefusal → Type 0
Refuses bytes refusals.NoMemory = Unit {0}
Refuses bytes refusal = first_fault bytes ≡ Some refusal

-- the first four bytes are the magic number
abbrev pub BeginsAsClass : List ℕ → Type 0
BeginsAsClass bytes = IsU4 magic 0 (take 4 bytes)

-- the bytes 6 and 7 are the major version
abbrev pub HasVersion : ℕ → List ℕ → Type 0
HasVersion major bytes = IsU2 major 6 (take 2 (drop 6 bytes))

abbrev pub IsRead : ℕ → Type 0
IsRead major = (45 ≤ major) × (major ≤ 52)

-- not too many bytes, of which the first four are not the magic number
pub record HasOtherMagic (bytes : List ℕ) : Type 0 where
  pub whole : 4 ≤ length bytes
  pub other : BeginsAsClass bytes → ⊥
  pub limit : length bytes ≤ most_bytes

-- not too many bytes: the magic number, and a major version that is not read
pub record HasOtherVersion (major : ℕ) (bytes : List ℕ) : Type 0 where
  pub begins : BeginsAsClass bytes
  pub version : HasVersion major bytes
  pub other : IsRead major → ⊥
  pub limit : length bytes ≤ most_bytes

-- not too many bytes, of which a proper front, of that length, spells a class file
pub record HasExtra (at : ℕ) (bytes : List ℕ) : Type 0 where
  pub front : List ℕ
  pub back : List ℕ
  pub parts : bytes ≡ front ++ back
  pub length_is : at ≡ length front
  pub some : back ≢ []
  pub file : ClassFile
  pub spelled : Spells file front
  pub limit : length bytes ≤ most_bytes

-- an item, from the front up to the end of the bytes, is not whole
pub record IsShort (bytes : List ℕ) : Type 0 where
  pub item : ℕ
  pub within : item ≤ length bytes
  pub is : first_fault bytes ≡ Some (refusals.Short item)
