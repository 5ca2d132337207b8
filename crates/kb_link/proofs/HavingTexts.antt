-- Loaded classes have texts: those of a file in its constant pool, those of the platform by descriptors that can be written.
use Rattle.std.proofs.Common.{◌≢◌, ℕ, suc, List, [], ◌∷◌, ◌++◌, length, Option, refl, sym, subst, arith}
use Rattle.std.specs.List.{AllByRecursion, AllZip}
use Rattle.kb_classfile.specs.declared.file.ClassFile.{ClassFile}
use Rattle.kb_classfile.specs.declared.file.Method.{Method as ClassMethod}
use Rattle.kb_code.specs.declared.listing.Listing.{Listing}
use Rattle.kb_names.specs.Descriptors.{IsMethodType}
use Rattle.kb_names.specs.declared.class_names.Spelling.TheVariants.{Raw}
use Rattle.kb_names.specs.declared.types.MethodType.{MethodType}
use Rattle.kb_class.specs.declared.given.GivenClass.{GivenClass}
use Rattle.kb_class.specs.declared.members.MethodInfo.{MethodInfo}
use Rattle.kb_class.specs.Class.{Class}
use Rattle.kb_class.specs.Loading.{IsClassOf, AreMethodsOf}
use Rattle.kb_class.specs.Platform.{PlatformClass, PlatformMethod, IsPlatform, IsPlatformMethod, platform_table, constructor, constructor_of_text, equals}
use Rattle.kb_numbers.specs.Numbers.{IsMethodNamed, HasTextsBy, HasTexts}
use Rattle.kb_link.specs.Links.{AreClassesOf, ArePlatform, Loads}

-- ---- classes with files

methods_named : (id : ℕ) (file : ClassFile) (methods : List ClassMethod) (listings : List (Option Listing)) (infos : List MethodInfo) → AreMethodsOf id file methods listings infos
    → AllZip (IsMethodNamed file) methods infos
methods_named id file [] [] [] are = tt
methods_named id file [] [] (i ∷ infos) are = absurd are
methods_named id file [] (l ∷ listings) infos are = absurd are
methods_named id file (m ∷ methods) [] infos are = absurd are
methods_named id file (m ∷ methods) (l ∷ listings) [] are = absurd are
methods_named id file (m ∷ methods) (l ∷ listings) (i ∷ infos) are = (record { name = are.0.name; kind = are.0.kind }, methods_named id file methods listings infos are.1)

given_has : (number : ℕ) (given : GivenClass) (class : Class) → IsClassOf number given class → HasTexts class
given_has number given class is =
    subst (HasTextsBy class) (sym is.file) (record {
      of_methods = methods_named number given.file given.file.methods given.listings class.methods is.methods;
      of_fields = is.fields;
      of_entries = is.entries;
    })

all_given : (number : ℕ) (given : List GivenClass) (classes : List Class) → AreClassesOf number given classes → AllByRecursion HasTexts classes
all_given number [] [] are = tt
all_given number [] (c ∷ classes) are = absurd are
all_given number (g ∷ given) [] are = absurd are
all_given number (g ∷ given) (c ∷ classes) are = (given_has number g c are.0, all_given (suc number) given classes are.1)

-- ---- platform classes

abbrev IsWritten : PlatformMethod → Type 0
IsWritten method = IsMethodType Raw method.kind

some_text : (byte : ℕ) (bytes : List ℕ) → byte ∷ bytes ≢ []
some_text byte bytes e = absurd cc

constructor_written : IsWritten constructor
constructor_written = record { params = tt; result = tt }

text_written : IsWritten constructor_of_text
text_written = record { params = (record { base = (some_text _ _, refl); dims = omega arith }, tt); result = tt }

equals_written : IsWritten equals
equals_written = record { params = (record { base = (some_text _ _, refl); dims = omega arith }, tt); result = record { base = tt; dims = omega arith } }

abbrev AreWritten : PlatformClass → Type 0
AreWritten class = AllByRecursion IsWritten class.methods

thrown_written : AllByRecursion IsWritten (constructor ∷ constructor_of_text ∷ [])
thrown_written = (constructor_written, (text_written, tt))

table_written : AllByRecursion AreWritten platform_table
unfolding platform_table
table_written = ((constructor_written, (equals_written, tt)), (tt, (thrown_written, (thrown_written, (thrown_written, (thrown_written, (thrown_written, (thrown_written, (thrown_written, (thrown_written, (thrown_written, (thrown_written, (thrown_written, (thrown_written, (thrown_written, (thrown_written, (thrown_written, (tt, (tt, (tt, tt))))))))))))))))))))

written_methods : (id : ℕ) (rows : List PlatformMethod) (infos : List MethodInfo) → AllZip (IsPlatformMethod id) rows infos → AllByRecursion IsWritten rows
    → AllByRecursion (λ (method : MethodInfo). IsMethodType Raw method.kind) infos
written_methods id [] [] each all = tt
written_methods id [] (i ∷ infos) each all = absurd each
written_methods id (r ∷ rows) [] each all = absurd each
written_methods id (r ∷ rows) (i ∷ infos) each all = (subst (λ (k : MethodType). IsMethodType Raw k) (sym each.0.kind) all.0, written_methods id rows infos each.1 all.1)

platform_has : (number : ℕ) (row : PlatformClass) (class : Class) → IsPlatform number row class → AreWritten row → HasTexts class
platform_has number row class is written =
    subst (HasTextsBy class) (sym is.file) (is.fields, is.entries, written_methods number row.methods class.methods is.methods written)

all_platform : (number : ℕ) (table : List PlatformClass) (classes : List Class) → ArePlatform number table classes → AllByRecursion AreWritten table → AllByRecursion HasTexts classes
all_platform number [] [] are written = tt
all_platform number [] (c ∷ classes) are written = absurd are
all_platform number (p ∷ table) [] are written = absurd are
all_platform number (p ∷ table) (c ∷ classes) are written = (platform_has number p c are.0 written.0, all_platform (suc number) table classes are.1 written.1)

all_both : (xs ys : List Class) → AllByRecursion HasTexts xs → AllByRecursion HasTexts ys → AllByRecursion HasTexts (xs ++ ys)
all_both [] ys first second = second
all_both (x ∷ xs) ys first second = (first.0, all_both xs ys first.1 second)

-- ---- all of them

pub have_texts : (given : List GivenClass) (classes : List Class) → Loads given classes → AllByRecursion HasTexts classes
have_texts given classes loads =
    subst (AllByRecursion HasTexts) (sym loads.parts)
    (all_both loads.own loads.platform (all_given 0 given loads.own loads.are_own) (all_platform (length given) platform_table loads.platform loads.are_platform table_written))
