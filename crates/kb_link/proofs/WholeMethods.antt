-- The code of the methods of loaded classes is whole, and has its places.
use Rattle.std.proofs.Common.{◌≡◌, ℕ, suc, List, [], ◌∷◌, ◌++◌, length, Option, Some, None, IfSome, refl, sym, subst, ◌∙◌, ap}
use Rattle.std.specs.List.{AllByRecursion, AllZip}
use Rattle.std.proofs.lemmas.List.{append_assoc}
use Rattle.kb_format.proofs.Lists.{all_joined}
use Rattle.kb_class.specs.declared.given.GivenClass.{GivenClass}
use Rattle.kb_class.specs.declared.members.MethodInfo.{MethodInfo}
use Rattle.kb_class.specs.declared.members.MethodCode.{MethodCode}
use Rattle.kb_class.specs.Class.{Class}
use Rattle.kb_classfile.specs.declared.file.ClassFile.{ClassFile}
use Rattle.kb_classfile.specs.declared.file.Code.{Code}
use Rattle.kb_classfile.specs.declared.file.Method.{Method as ClassMethod}
use Rattle.kb_code.specs.Listing.{Begins, HasRisingKeys, targets_of}
use Rattle.kb_code.specs.declared.listing.Listing.{Listing}
use Rattle.kb_code.proofs.RisingKeys.{items_rise}
use Rattle.kb_class.specs.Given.{AreGiven, IsGiven, IsListing, AreListings}
use Rattle.kb_class.specs.Loading.{IsWhole, IsClassOf, IsCodeOf, AreMethodsOf}
use Rattle.kb_class.specs.Platform.{PlatformClass, PlatformMethod, IsPlatformMethod, platform_table}
use Rattle.kb_class.proofs.MemberLaws.{given_code_whole}
use Rattle.kb_classes.specs.World.{methods_in}
use Rattle.kb_classes.specs.Rules.{HasWholeCode, HasItsPlaces, HasPlacedCode}
use Rattle.kb_link.specs.Links.{Loads, AreClassesOf, ArePlatform}

-- ---- code that has its places

code_placed : (code : Option Code) (listing : Option Listing) (info : Option MethodCode) → IsListing code listing → IsCodeOf code listing info → IfSome info HasItsPlaces
code_placed None None None listed is = tt
code_placed None None (Some i) listed is = absurd is
code_placed None (Some l) info listed is = absurd listed
code_placed (Some c) None info listed is = absurd listed
code_placed (Some c) (Some l) None listed is = absurd is
code_placed (Some c) (Some l) (Some i) listed is = record {
  targets = subst (λ (k : Listing). AllByRecursion (λ item. AllByRecursion (Begins k.items) (targets_of item.1)) k.items) (sym is.listed) listed.targets;
  ranges = rw (is.listed, is.size, is.handlers) listed.ranges;
  keys = subst (λ (k : Listing). AllByRecursion (λ item. HasRisingKeys item.1) k.items) (sym is.listed) (items_rise l.items 0 c.bytes listed.instructions);
}

methods_placed : (id : ℕ) (file : ClassFile) (methods : List ClassMethod) (listings : List (Option Listing)) (infos : List MethodInfo) → AreListings methods listings → AreMethodsOf id file methods listings infos
    → AllByRecursion HasPlacedCode infos
methods_placed id file methods listings [] listed are = tt
methods_placed id file [] [] (i ∷ infos) listed are = absurd are
methods_placed id file [] (l ∷ listings) (i ∷ infos) listed are = absurd are
methods_placed id file (m ∷ methods) [] (i ∷ infos) listed are = absurd are
methods_placed id file (m ∷ methods) (l ∷ listings) (i ∷ infos) listed are = (code_placed m.code l i.code listed.0 are.0.code, methods_placed id file methods listings infos listed.1 are.1)

-- ---- all methods

methods_joined : (own others : List Class) → methods_in (own ++ others) ≡ methods_in own ++ methods_in others
methods_joined [] others = refl
methods_joined (class ∷ own) others =
    ap (λ (ms : List MethodInfo). class.methods ++ ms) (methods_joined own others) ∙ sym (append_assoc class.methods (methods_in own) (methods_in others))

-- what holds of the code of each given class holds of all code
module _ (Q : MethodCode → Type 0) (of_given : (id : ℕ) (given : GivenClass) (class : Class) → IsGiven given → IsClassOf id given class → AllByRecursion (λ (i : MethodInfo). IfSome i.code Q) class.methods) where
  abbrev HasQ : MethodInfo → Type 0
  HasQ method = IfSome method.code Q

  platform_all : (id : ℕ) (platform : List PlatformMethod) (infos : List MethodInfo) → AllZip (IsPlatformMethod id) platform infos → AllByRecursion HasQ infos
  platform_all id [] [] are = tt
  platform_all id (method ∷ methods) (info ∷ infos) are = (
    subst (λ (code : Option MethodCode). IfSome code Q) (sym are.0.code) tt,
    platform_all id methods infos are.1,
  )
  platform_all id [] (info ∷ infos) are = absurd are
  platform_all id (method ∷ methods) [] are = absurd are

  given_all : (id : ℕ) (given : List GivenClass) (classes : List Class) → AreGiven given → AreClassesOf id given classes → AllByRecursion HasQ (methods_in classes)
  given_all id [] [] are classes_are = tt
  given_all id (given ∷ others) (class ∷ classes) are classes_are =
      all_joined HasQ class.methods (methods_in classes) (of_given id given class are.0 classes_are.0) (given_all (suc id) others classes are.1 classes_are.1)
  given_all id [] (class ∷ classes) are classes_are = absurd classes_are
  given_all id (given ∷ others) [] are classes_are = absurd classes_are

  table_all : (id : ℕ) (table : List PlatformClass) (classes : List Class) → ArePlatform id table classes → AllByRecursion HasQ (methods_in classes)
  table_all id [] [] are = tt
  table_all id (platform ∷ others) (class ∷ classes) are =
      all_joined HasQ class.methods (methods_in classes) (platform_all id platform.methods class.methods are.0.methods) (table_all (suc id) others classes are.1)
  table_all id [] (class ∷ classes) are = absurd are
  table_all id (platform ∷ others) [] are = absurd are

  all_methods : (given : List GivenClass) (classes : List Class) → AreGiven given → Loads given classes → AllByRecursion HasQ (methods_in classes)
  all_methods given classes are loads =
      let own : AllByRecursion HasQ (methods_in loads.own) = given_all 0 given loads.own are loads.are_own in
      let platform : AllByRecursion HasQ (methods_in loads.platform) = table_all (length given) platform_table loads.platform loads.are_platform in
      subst (λ (ms : List MethodInfo). AllByRecursion HasQ ms) (sym (ap methods_in loads.parts ∙ methods_joined loads.own loads.platform))
      (all_joined HasQ (methods_in loads.own) (methods_in loads.platform) own platform)

pub whole_methods : (given : List GivenClass) (classes : List Class) → AreGiven given → Loads given classes → AllByRecursion HasWholeCode (methods_in classes)
whole_methods given classes are loads = all_methods IsWhole given_code_whole given classes are loads

pub placed_methods : (given : List GivenClass) (classes : List Class) → AreGiven given → Loads given classes → AllByRecursion HasPlacedCode (methods_in classes)
placed_methods given classes are loads =
    all_methods HasItsPlaces (λ id one class is loaded. methods_placed id one.file one.file.methods one.listings class.methods is.listed loaded.methods) given classes are loads
