-- Walks over the superclass and the interfaces of a class, and over those of all classes.
use Rattle.std.proofs.Common.{ℕ, inl, inr, List, [], ◌∷◌, refl, sym, subst}
use Rattle.kb_class.specs.Class.{Class}
use Rattle.kb_classes.specs.declared.refusal.LinkRefusal.{LinkRefusal}
use Rattle.kb_classes.specs.declared.refusal.LinkRefusal.TheVariants as refusals
use Rattle.kb_classes.specs.Subtypes.{Claim}
use Rattle.kb_classes.specs.Rules.{IsFirst, IsMissing, IsBad, HaveDifferentNames}
use Rattle.kb_classes.specs.Refusals.{RefusesClasses, IsRefusalOf}
use Rattle.kb_link.specs.Stops.{StopsAtMissing, StopsAtBad}

-- ---- where a walk stops

pub stops_missing : (classes : List Class) (xs ys : List (List ℕ)) (told : LinkRefusal) → ((name : List ℕ) → IsFirst (IsMissing classes) xs name → IsFirst (IsMissing classes) ys name)
    → StopsAtMissing classes xs told → StopsAtMissing classes ys told
stops_missing classes xs ys (refusals.Missing name) f stops = f name stops
stops_missing classes xs ys refusals.NoMemory f stops = tt
stops_missing classes xs ys refusals.TooMany f stops = stops
stops_missing classes xs ys (refusals.BadName file entry) f stops = stops
stops_missing classes xs ys (refusals.BadDescriptor file entry) f stops = stops
stops_missing classes xs ys (refusals.TwoMembers file entry) f stops = stops
stops_missing classes xs ys (refusals.Twice name) f stops = stops
stops_missing classes xs ys (refusals.Circle name) f stops = stops
stops_missing classes xs ys (refusals.BadSuper name) f stops = stops
stops_missing classes xs ys (refusals.SplitPackage name method) f stops = stops
stops_missing classes xs ys (refusals.NoMethod target) f stops = stops
stops_missing classes xs ys (refusals.NoField method at) f stops = stops
stops_missing classes xs ys (refusals.Outside method at what) f stops = stops
stops_missing classes xs ys (refusals.Initialiser name) f stops = stops

pub stops_bad : (classes : List Class) (xs ys : List Claim) (told : LinkRefusal) → ((claim : Claim) → IsFirst (IsBad classes) xs claim → IsFirst (IsBad classes) ys claim)
    → StopsAtBad classes xs told → StopsAtBad classes ys told
stops_bad classes xs ys (refusals.BadSuper name) f stops = (stops.0, stops.1, f stops.0 stops.2)
stops_bad classes xs ys refusals.NoMemory f stops = tt
stops_bad classes xs ys refusals.TooMany f stops = stops
stops_bad classes xs ys (refusals.BadName file entry) f stops = stops
stops_bad classes xs ys (refusals.BadDescriptor file entry) f stops = stops
stops_bad classes xs ys (refusals.TwoMembers file entry) f stops = stops
stops_bad classes xs ys (refusals.Twice name) f stops = stops
stops_bad classes xs ys (refusals.Missing name) f stops = stops
stops_bad classes xs ys (refusals.Circle name) f stops = stops
stops_bad classes xs ys (refusals.SplitPackage name method) f stops = stops
stops_bad classes xs ys (refusals.NoMethod target) f stops = stops
stops_bad classes xs ys (refusals.NoField method at) f stops = stops
stops_bad classes xs ys (refusals.Outside method at what) f stops = stops
stops_bad classes xs ys (refusals.Initialiser name) f stops = stops

-- what stopped the walk refuses the classes
pub missing_refuses : (classes : List Class) (names : List (List ℕ)) (told : LinkRefusal) → HaveDifferentNames classes
    → ((name : List ℕ) → IsFirst (IsMissing classes) names name → RefusesClasses classes (refusals.Missing name)) → StopsAtMissing classes names told → RefusesClasses classes told
missing_refuses classes names (refusals.Missing name) differ f stops = f name stops
missing_refuses classes names refusals.NoMemory differ f stops = tt
missing_refuses classes names refusals.TooMany differ f stops = absurd stops
missing_refuses classes names (refusals.BadName file entry) differ f stops = absurd stops
missing_refuses classes names (refusals.BadDescriptor file entry) differ f stops = absurd stops
missing_refuses classes names (refusals.TwoMembers file entry) differ f stops = absurd stops
missing_refuses classes names (refusals.Twice name) differ f stops = absurd stops
missing_refuses classes names (refusals.Circle name) differ f stops = absurd stops
missing_refuses classes names (refusals.BadSuper name) differ f stops = absurd stops
missing_refuses classes names (refusals.SplitPackage name method) differ f stops = absurd stops
missing_refuses classes names (refusals.NoMethod target) differ f stops = absurd stops
missing_refuses classes names (refusals.NoField method at) differ f stops = absurd stops
missing_refuses classes names (refusals.Outside method at what) differ f stops = absurd stops
missing_refuses classes names (refusals.Initialiser name) differ f stops = absurd stops

pub bad_refuses : (classes : List Class) (claims : List Claim) (told : LinkRefusal)
    → ((claim : Claim) → IsFirst (IsBad classes) claims claim → RefusesClasses classes (refusals.BadSuper claim.name)) → StopsAtBad classes claims told → RefusesClasses classes told
bad_refuses classes claims (refusals.BadSuper name) f stops = subst (λ (n : List ℕ). RefusesClasses classes (refusals.BadSuper n)) stops.1 (f stops.0 stops.2)
bad_refuses classes claims refusals.NoMemory f stops = tt
bad_refuses classes claims refusals.TooMany f stops = absurd stops
bad_refuses classes claims (refusals.BadName file entry) f stops = absurd stops
bad_refuses classes claims (refusals.BadDescriptor file entry) f stops = absurd stops
bad_refuses classes claims (refusals.TwoMembers file entry) f stops = absurd stops
bad_refuses classes claims (refusals.Twice name) f stops = absurd stops
bad_refuses classes claims (refusals.Missing name) f stops = absurd stops
bad_refuses classes claims (refusals.Circle name) f stops = absurd stops
bad_refuses classes claims (refusals.SplitPackage name method) f stops = absurd stops
bad_refuses classes claims (refusals.NoMethod target) f stops = absurd stops
bad_refuses classes claims (refusals.NoField method at) f stops = absurd stops
bad_refuses classes claims (refusals.Outside method at what) f stops = absurd stops
bad_refuses classes claims (refusals.Initialiser name) f stops = absurd stops

-- a list of one
pub bad_alone : (classes : List Class) (claim : Claim) (told : LinkRefusal) → IsBad classes claim → IsRefusalOf (λ name. refusals.BadSuper name) claim.name told → StopsAtBad classes (claim ∷ []) told
bad_alone classes claim told bad is =
    elim is [
      | inl e ↦ subst (StopsAtBad classes (claim ∷ [])) (sym e) (claim, refl, record { before = []; after = []; parts = refl; others = tt; such = bad })
      | inr e ↦ subst (StopsAtBad classes (claim ∷ [])) (sym e) tt
    ]

pub missing_alone : (classes : List Class) (name : List ℕ) (told : LinkRefusal) → IsMissing classes name → IsRefusalOf (λ n. refusals.Missing n) name told → StopsAtMissing classes (name ∷ []) told
missing_alone classes name told missing is =
    elim is [
      | inl e ↦ subst (StopsAtMissing classes (name ∷ [])) (sym e) (record { before = []; after = []; parts = refl; others = tt; such = missing })
      | inr e ↦ subst (StopsAtMissing classes (name ∷ [])) (sym e) tt
    ]
