-- From class files to the world of them, and why there is none.
use Rattle.std.specs.Prelude.{◌≡◌, ℕ, suc, ◌<◌, ◌≤◌, List, [], ◌∷◌, ◌++◌, take, length, Some, IsSome, slice_get}
use Rattle.std.specs.List.{AllByRecursion}
use Rattle.kb_format.specs.Rules.{KeepsRules}
use Rattle.kb_format.specs.Faults.{IsFirstFault}
use Rattle.kb_format.specs.declared.fault.FormatFault.{FormatFault}
use Rattle.kb_format.specs.declared.fault.FormatFault.TheVariants as faults
use Rattle.kb_class.specs.declared.given.GivenClass.{GivenClass}
use Rattle.kb_class.specs.Class.{Class}
use Rattle.kb_class.specs.Loading.{IsClassOf}
use Rattle.kb_class.specs.Platform.{PlatformClass, IsPlatform, platform_table}
use Rattle.kb_classes.specs.declared.refusal.LinkRefusal.{LinkRefusal}
use Rattle.kb_classes.specs.declared.refusal.LinkRefusal.TheVariants as refusals
use Rattle.kb_classes.specs.World.{World}
use Rattle.kb_classes.specs.Subtypes.{AreChains, AreSupers}
use Rattle.kb_classes.specs.Universe.{IsUniverse, AreLiterals}
use Rattle.kb_classes.specs.Rules.{HaveDifferentNames, HaveDifferentFields, HaveOwnMethods, HaveSupers, HaveNoCircle, HaveGoodSupers}
use Rattle.kb_classes.specs.Split.{HaveNoSplit}
use Rattle.kb_classes.specs.Refusals.{RefusesClasses}

-- the most classes that are linked
abbrev pub most_classes : ℕ
most_classes = 64

-- ---- classes

-- the classes of these files, numbered from a number on
abbrev pub AreClassesOf : ℕ → List GivenClass → List Class → Type 0
AreClassesOf number [] [] = Unit {0}
AreClassesOf number (given ∷ others) (class ∷ classes) = IsClassOf number given class × AreClassesOf (suc number) others classes
AreClassesOf number _ _ = ⊥

-- the platform classes, numbered from a number on
abbrev pub ArePlatform : ℕ → List PlatformClass → List Class → Type 0
ArePlatform number [] [] = Unit {0}
ArePlatform number (platform ∷ others) (class ∷ classes) = IsPlatform number platform class × ArePlatform (suc number) others classes
ArePlatform number _ _ = ⊥

abbrev pub KeepsFormat : GivenClass → Type 0
KeepsFormat given = KeepsRules given.file

-- The classes are those of at most 64 files, each of which keeps the rules of a class file, and then those of the platform.
pub record Loads (given : List GivenClass) (classes : List Class) : Type 0 where
  pub most : length given ≤ most_classes
  pub format : AllByRecursion KeepsFormat given
  pub own : List Class
  pub platform : List Class
  pub parts : classes ≡ own ++ platform
  pub are_own : AreClassesOf 0 given own
  pub are_platform : ArePlatform (length given) platform_table platform

-- ---- the world

abbrev pub HasFile : Class → Type 0
HasFile class = IsSome class.file

-- Classes with files, and behind them those of the platform.
pub record HavePlatform (classes : List Class) : Type 0 where
  pub own : List Class
  pub platform : List Class
  pub parts : classes ≡ own ++ platform
  pub given : AllByRecursion HasFile own
  pub are_platform : ArePlatform (length own) platform_table platform

-- what holds of the classes before they are linked
pub record AreLoaded (classes : List Class) : Type 0 where
  pub methods : HaveOwnMethods classes
  pub fields : HaveDifferentFields classes
  pub platform : HavePlatform classes

-- what holds of each world
pub record IsLinked (world : World) : Type 0 where
  pub names : HaveDifferentNames world.classes
  pub supers_there : HaveSupers world.classes
  pub no_circle : HaveNoCircle world.classes
  pub good_supers : HaveGoodSupers world.classes
  pub chains : AreChains world.classes world.chains
  pub no_split : HaveNoSplit world.classes world.chains
  pub supers : AreSupers world.classes world.supers
  pub universe : IsUniverse world.classes world.universe
  pub literals : AreLiterals world.classes world.literals
  pub loaded : AreLoaded world.classes

-- the world is that of the class files
pub record Links (given : List GivenClass) (world : World) : Type 0 where
  pub loads : Loads given world.classes
  pub linked : IsLinked world

-- ---- why there is none

-- The file of that number is the first that breaks a rule of a class file, and this is its first fault.
pub record BreaksFormat (given : List GivenClass) (file : ℕ) (fault : FormatFault) : Type 0 where
  pub most : length given ≤ most_classes
  pub class : GivenClass
  pub there : slice_get given file ≡ Some class
  pub before : AllByRecursion KeepsFormat (take file given)
  pub first : IsFirstFault class.file fault

-- The classes are loaded, and not linked for this reason.
abbrev pub RefusesLoaded : List GivenClass → LinkRefusal → Type 0
RefusesLoaded given refusal = (classes : List Class) × Loads given classes × RefusesClasses classes refusal

-- Why class files are not linked: the first rule that is broken, in this order, unless memory ran out.
abbrev pub RefusesLink : List GivenClass → LinkRefusal → Type 0
RefusesLink given refusals.TooMany = most_classes < length given
RefusesLink given (refusals.BadName file entry) = BreaksFormat given file (faults.BadName entry)
RefusesLink given (refusals.BadDescriptor file entry) = BreaksFormat given file (faults.BadDescriptor entry)
RefusesLink given (refusals.TwoMembers file entry) = BreaksFormat given file (faults.TwoMembers entry)
RefusesLink given (refusals.Twice name) = RefusesLoaded given (refusals.Twice name)
RefusesLink given (refusals.Missing name) = RefusesLoaded given (refusals.Missing name)
RefusesLink given (refusals.Circle name) = RefusesLoaded given (refusals.Circle name)
RefusesLink given (refusals.BadSuper name) = RefusesLoaded given (refusals.BadSuper name)
RefusesLink given (refusals.SplitPackage name method) = RefusesLoaded given (refusals.SplitPackage name method)
RefusesLink given (refusals.NoMethod target) = ⊥
RefusesLink given (refusals.NoField method at) = ⊥
RefusesLink given (refusals.Outside method at what) = ⊥
RefusesLink given (refusals.Initialiser name) = ⊥
RefusesLink given refusals.NoMemory = Unit {0}
