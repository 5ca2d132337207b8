-- The table of platform classes, by names and kinds.
use Rattle.std.specs.Prelude.{ℕ, List, [], ◌∷◌, Option, Some, None, codes}
use Rattle.kb_class.specs.declared.platform.PlatformKind.{PlatformKind}
use Rattle.kb_class.specs.declared.platform.PlatformKind.TheVariants.{Object, Text, Throwable, Thrown, Interface}
use Rattle.kb_class.specs.declared.platform.Superclass.{Superclass}
use Rattle.kb_class.specs.declared.platform.Superclass.TheVariants as superclasses
use Rattle.kb_class.specs.declared.members.MemberKind.{MemberKind}
use Rattle.kb_class.specs.declared.members.MemberKind.TheVariants as kinds
use Rattle.kb_class.specs.declared.members.MethodInfo.{MethodInfo}
use Rattle.kb_class.specs.Platform.{PlatformMethod, PlatformClass, object_name, constructor, constructor_of_text, equals, serializable, comparable, throwable, runtime_exception}

abbrev pub superclass_name : Superclass → List ℕ
superclass_name superclasses.Throwable = throwable
superclass_name superclasses.Exception = codes "java/lang/Exception"
superclass_name superclasses.RuntimeException = runtime_exception
superclass_name superclasses.IndexOutOfBounds = codes "java/lang/IndexOutOfBoundsException"

abbrev pub kind_access : PlatformKind → ℕ
kind_access Object = 0x0001
kind_access Text = 0x0011
kind_access Throwable = 0x0001
kind_access (Thrown above) = 0x0001
kind_access Interface = 0x0601

abbrev pub kind_parent : PlatformKind → Option (List ℕ)
kind_parent Object = None
kind_parent Text = Some object_name
kind_parent Throwable = Some object_name
kind_parent (Thrown above) = Some (superclass_name above)
kind_parent Interface = Some object_name

abbrev pub kind_interfaces : PlatformKind → List (List ℕ)
kind_interfaces Object = []
kind_interfaces Text = serializable ∷ comparable ∷ []
kind_interfaces Throwable = serializable ∷ []
kind_interfaces (Thrown above) = []
kind_interfaces Interface = []

abbrev pub kind_methods : PlatformKind → List PlatformMethod
kind_methods Object = constructor ∷ equals ∷ []
kind_methods Text = []
kind_methods Throwable = constructor ∷ constructor_of_text ∷ []
kind_methods (Thrown above) = constructor ∷ constructor_of_text ∷ []
kind_methods Interface = []

abbrev pub row_of : List ℕ → PlatformKind → PlatformClass
row_of name kind =
    record { name = name; access = kind_access kind; parent = kind_parent kind; interfaces = kind_interfaces kind; methods = kind_methods kind }

abbrev pub rows_of : List (List ℕ) → List PlatformKind → List PlatformClass
rows_of (name ∷ names) (kind ∷ kinds) = row_of name kind ∷ rows_of names kinds
rows_of _ _ = []

unfoldable pub platform_names : List (List ℕ)
platform_names =
    object_name ∷ codes "java/lang/String" ∷ throwable ∷ codes "java/lang/Exception" ∷ runtime_exception ∷ codes "java/lang/Error"
    ∷ codes "java/lang/ArithmeticException" ∷ codes "java/lang/IndexOutOfBoundsException"
    ∷ codes "java/lang/ArrayIndexOutOfBoundsException" ∷ codes "java/lang/ArrayStoreException"
    ∷ codes "java/lang/ClassCastException" ∷ codes "java/lang/IllegalArgumentException"
    ∷ codes "java/lang/IllegalStateException" ∷ codes "java/lang/NegativeArraySizeException"
    ∷ codes "java/lang/NullPointerException" ∷ codes "java/lang/UnsupportedOperationException"
    ∷ codes "java/util/NoSuchElementException" ∷ codes "java/lang/Cloneable" ∷ comparable ∷ serializable ∷ []

unfoldable pub platform_kinds : List PlatformKind
platform_kinds =
    Object ∷ Text ∷ Throwable ∷ Thrown superclasses.Throwable ∷ Thrown superclasses.Exception ∷ Thrown superclasses.Throwable
    ∷ Thrown superclasses.RuntimeException ∷ Thrown superclasses.RuntimeException
    ∷ Thrown superclasses.IndexOutOfBounds ∷ Thrown superclasses.RuntimeException
    ∷ Thrown superclasses.RuntimeException ∷ Thrown superclasses.RuntimeException
    ∷ Thrown superclasses.RuntimeException ∷ Thrown superclasses.RuntimeException
    ∷ Thrown superclasses.RuntimeException ∷ Thrown superclasses.RuntimeException
    ∷ Thrown superclasses.RuntimeException ∷ Interface ∷ Interface ∷ Interface ∷ []

-- what the descriptor of a method says
abbrev pub method_kind : MethodInfo → Option MemberKind
method_kind method = Some (kinds.Method method.kind)
