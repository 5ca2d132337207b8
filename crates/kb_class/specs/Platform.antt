-- The classes that are there without a file: the project's own choice of classes of the Java platform (Java SE 8), with the
-- constructors and methods of them that can be called. None has fields or code.
use Rattle.std.specs.Prelude.{◌≡◌, ℕ, List, [], ◌∷◌, Option, Some, None, codes}
use Rattle.std.specs.List.{AllZip}
use Rattle.kb_names.specs.declared.types.JType.TheVariants as types
use Rattle.kb_names.specs.declared.types.MethodType.{MethodType}
use Rattle.kb_class.specs.declared.members.MethodInfo.{MethodInfo}
use Rattle.kb_class.specs.Class.{Class}

-- a method: its name and type
pub record PlatformMethod : Type 0 where
  pub name : List ℕ
  pub kind : MethodType

-- a class: its name, its access flags (JVMS 8 table 4.1-A), its superclass, its interfaces and its methods
pub record PlatformClass : Type 0 where
  pub name : List ℕ
  pub access : ℕ
  pub parent : Option (List ℕ)
  pub interfaces : List (List ℕ)
  pub methods : List PlatformMethod

abbrev pub object_name : List ℕ
object_name = codes "java/lang/Object"

-- ---- methods

-- a constructor without parameters
abbrev pub constructor : PlatformMethod
constructor = record { name = codes "<init>"; kind = record { params = []; result = None } }

-- a constructor with a message
abbrev pub constructor_of_text : PlatformMethod
constructor_of_text = record { name = codes "<init>"; kind = record { params = types.Class (codes "java/lang/String") ∷ []; result = None } }

-- whether an object is the same
abbrev pub equals : PlatformMethod
equals = record { name = codes "equals"; kind = record { params = types.Class object_name ∷ []; result = Some types.Bool } }

-- ---- kinds of classes

-- ACC_PUBLIC, ACC_FINAL, ACC_INTERFACE and ACC_ABSTRACT
abbrev pub thrown : List ℕ → List ℕ → List (List ℕ) → PlatformClass
thrown name parent interfaces =
    record { name = name; access = 0x0001; parent = Some parent; interfaces = interfaces; methods = constructor ∷ constructor_of_text ∷ [] }

abbrev pub interface : List ℕ → PlatformClass
interface name = record { name = name; access = 0x0601; parent = Some object_name; interfaces = []; methods = [] }

-- ---- the table

abbrev pub serializable : List ℕ
serializable = codes "java/io/Serializable"

abbrev pub comparable : List ℕ
comparable = codes "java/lang/Comparable"

abbrev pub throwable : List ℕ
throwable = codes "java/lang/Throwable"

abbrev pub runtime_exception : List ℕ
runtime_exception = codes "java/lang/RuntimeException"

unfoldable pub platform_table : List PlatformClass
platform_table =
    record { name = object_name; access = 0x0001; parent = None; interfaces = []; methods = constructor ∷ equals ∷ [] }
    ∷ record { name = codes "java/lang/String"; access = 0x0011; parent = Some object_name; interfaces = serializable ∷ comparable ∷ []; methods = [] }
    ∷ thrown throwable object_name (serializable ∷ [])
    ∷ thrown (codes "java/lang/Exception") throwable []
    ∷ thrown runtime_exception (codes "java/lang/Exception") []
    ∷ thrown (codes "java/lang/Error") throwable []
    ∷ thrown (codes "java/lang/ArithmeticException") runtime_exception []
    ∷ thrown (codes "java/lang/IndexOutOfBoundsException") runtime_exception []
    ∷ thrown (codes "java/lang/ArrayIndexOutOfBoundsException") (codes "java/lang/IndexOutOfBoundsException") []
    ∷ thrown (codes "java/lang/ArrayStoreException") runtime_exception []
    ∷ thrown (codes "java/lang/ClassCastException") runtime_exception []
    ∷ thrown (codes "java/lang/IllegalArgumentException") runtime_exception []
    ∷ thrown (codes "java/lang/IllegalStateException") runtime_exception []
    ∷ thrown (codes "java/lang/NegativeArraySizeException") runtime_exception []
    ∷ thrown (codes "java/lang/NullPointerException") runtime_exception []
    ∷ thrown (codes "java/lang/UnsupportedOperationException") runtime_exception []
    ∷ thrown (codes "java/util/NoSuchElementException") runtime_exception []
    ∷ interface (codes "java/lang/Cloneable")
    ∷ interface comparable
    ∷ interface serializable
    ∷ []

-- a method of the class of that number
pub record IsPlatformMethod (id : ℕ) (platform : PlatformMethod) (info : MethodInfo) : Type 0 where
  pub class : info.class.0 ≡ id
  pub access : info.access ≡ 0x0001
  pub name : info.name ≡ platform.name
  pub kind : info.kind ≡ platform.kind
  pub code : info.code ≡ None

-- the class of that number is the platform class
pub record IsPlatform (id : ℕ) (platform : PlatformClass) (class : Class) : Type 0 where
  pub name : class.name ≡ platform.name
  pub access : class.access ≡ platform.access
  pub parent : class.parent ≡ platform.parent
  pub interfaces : class.interfaces ≡ platform.interfaces
  pub fields : class.fields ≡ []
  pub methods : AllZip (IsPlatformMethod id) platform.methods class.methods
  pub entries : class.entries ≡ []
  pub file : class.file ≡ None
