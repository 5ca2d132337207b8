-- The world of the bytes of class files (JVMS 8 chapters 4 and 5).
use Rattle.std.specs.Prelude.{◌≡◌, ℕ, List, [], ◌∷◌, ◌++◌, map, Option}
use Rattle.std.specs.declared.vec.Vec.{Vec}
use Rattle.std.specs.declared.alloc.Global.{Global}
use Rattle.kb_table.specs.Files.{AreWhole}
use Rattle.kb_class.specs.declared.given.GivenClass.{GivenClass}
use Rattle.kb_class.specs.Given.{IsGivenBy, AreGivenBy}
use Rattle.kb_link.specs.Links.{Links}
use Rattle.kb_classes.specs.World.{World}

-- the class that the bytes spell is behind the others
abbrev pub AddsClass : List ℕ → List GivenClass → List GivenClass → Type 0
AddsClass bytes before after = (class : GivenClass) × IsGivenBy bytes class × (after ≡ before ++ class ∷ [])

-- the bytes of each file
abbrev pub contents_of : List (Vec ℕ Global) → List (List ℕ)
contents_of files = map (λ (bytes : Vec ℕ Global). bytes.items) files

-- the world is that of the classes that the files spell, one each, in order
pub record IsWorldOf (files : List (List ℕ)) (world : World) : Type 0 where
  pub given : List GivenClass
  pub spelled : AreGivenBy files given
  pub links : Links given world

-- the world is that of the files of these names, which are whole where it is told what they hold
pub record IsWorldIn (holds : List ℕ → Option (List ℕ)) (names : List (List ℕ)) (world : World) : Type 0 where
  pub files : List (List ℕ)
  pub whole : AreWhole holds names files
  pub is : IsWorldOf files world
