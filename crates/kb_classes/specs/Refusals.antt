-- Why there is no world of classes: the first rule that they break together.
use Rattle.std.specs.Prelude.{◌≡◌, ◌⊎◌, ℕ, List}
use Rattle.kb_class.specs.Class.{Class}
use Rattle.kb_classes.specs.declared.refusal.LinkRefusal.{LinkRefusal}
use Rattle.kb_classes.specs.declared.refusal.LinkRefusal.TheVariants as refusals
use Rattle.kb_classes.specs.Subtypes.{AreChains}
use Rattle.kb_classes.specs.Rules.{HaveDifferentNames, IsGivenTwice, HaveSupers, IsMissing, all_super_names, IsFirst, HaveNoCircle, IsFirstClassOnCircle, HaveGoodSupers, IsFirstBad}
use Rattle.kb_classes.specs.Split.{IsFirstSplit}

-- Why classes with numbers are not linked: the first rule that is broken, in this order, unless memory ran out.
abbrev pub RefusesClasses : List Class → LinkRefusal → Type 0
RefusesClasses classes (refusals.Twice name) = IsGivenTwice classes name
RefusesClasses classes (refusals.Missing name) = HaveDifferentNames classes × IsFirst (IsMissing classes) (all_super_names classes) name
RefusesClasses classes (refusals.Circle name) = HaveDifferentNames classes × HaveSupers classes × IsFirstClassOnCircle classes name
RefusesClasses classes (refusals.BadSuper name) =
    HaveDifferentNames classes × HaveSupers classes × HaveNoCircle classes × IsFirstBad classes name
RefusesClasses classes (refusals.SplitPackage name method) =
    HaveDifferentNames classes × HaveSupers classes × HaveNoCircle classes × HaveGoodSupers classes
    × (chains : List (List ℕ)) × AreChains classes chains × IsFirstSplit classes chains name method
RefusesClasses classes refusals.NoMemory = Unit {0}
RefusesClasses classes _ = ⊥

-- the refusal of that name, unless memory ran out
abbrev pub IsRefusalOf : (List ℕ → LinkRefusal) → List ℕ → LinkRefusal → Type 0
IsRefusalOf refusal name told = (told ≡ refusal name) ⊎ (told ≡ refusals.NoMemory)
