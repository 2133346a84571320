-- The built-in classes, as data: the only place where they are listed. A new built-in method is one line here and
-- a row of the machine. The layers above, and the table of the code, go by this list.
use Rattle.std.specs.Prelude.{ℕ, ◌+◌, Bool, true, false, List, [], ◌∷◌, ◌++◌, codes, length, Option, Some, None}
use Rattle.fm_world.specs.declared.declarations.DeclaredField.{DeclaredField}
use Rattle.fm_world.specs.declared.declarations.DeclaredMethod.{DeclaredMethod}
use Rattle.fm_world.specs.declared.declarations.DeclaredClass.{DeclaredClass}

-- ---- flags, as a compiler would write them (JVMS 4.1, 4.5, 4.6)

-- public; public and static; public, static and final
abbrev pub public : ℕ
public = 0x0001

-- the flags of a static method that everybody may call (JVMS 4.6)
abbrev pub public_static : ℕ
public_static = 0x0009

-- the flags of a constant field (JVMS 4.5)
abbrev pub public_static_final : ℕ
public_static_final = 0x0019

-- of a class: public, and ACC_SUPER as each compiler sets it (JVMS 4.1); of an interface: public, interface and abstract
abbrev pub class_flags : ℕ
class_flags = 0x0021

-- the flags of an interface that everybody may use (JVMS 4.1)
abbrev pub interface_flags : ℕ
interface_flags = 0x0601

-- ---- names that rules speak of

-- the class above all others
abbrev pub object_name : List ℕ
object_name = codes "java/lang/Object"

-- the class of texts
abbrev pub string_name : List ℕ
string_name = codes "java/lang/String"

-- the class of class literals (JVMS 6.5.ldc)
abbrev pub class_literal_name : List ℕ
class_literal_name = codes "java/lang/Class"

-- an interface of arrays
abbrev pub cloneable_name : List ℕ
cloneable_name = codes "java/lang/Cloneable"

-- the other interface of arrays
abbrev pub serializable_name : List ℕ
serializable_name = codes "java/io/Serializable"

-- the classes of which none may be a subclass
abbrev pub sealed_names : List (List ℕ)
sealed_names =
    codes "java/lang/String" ∷ codes "java/lang/StringBuilder" ∷ codes "java/lang/StringBuffer" ∷ codes "java/lang/System"
    ∷ codes "java/io/PrintStream" ∷ codes "java/io/InputStream" ∷ codes "FreeMe" ∷ codes "java/lang/Class" ∷ []

-- ---- methods, in rows that follow one another

-- a method of a name and a descriptor, in the row of that number
abbrev pub method : List ℕ → List ℕ → ℕ → DeclaredMethod
method name descriptor row = record { name = name; descriptor = descriptor; flags = public; row = Some row }

-- a static method of a name and a descriptor, in the row of that number
abbrev pub static_method : List ℕ → List ℕ → ℕ → DeclaredMethod
static_method name descriptor row = record { name = name; descriptor = descriptor; flags = public_static; row = Some row }

-- methods in rows that follow one another from the first one on
abbrev pub numbered : ℕ → List (ℕ → DeclaredMethod) → List DeclaredMethod
numbered row [] = []
numbered row (method ∷ methods) = method row ∷ numbered (row + 1) methods

-- the methods of Object
abbrev pub object_methods : List (ℕ → DeclaredMethod)
object_methods =
    method (codes "<init>") (codes "()V")
    ∷ method (codes "hashCode") (codes "()I")
    ∷ method (codes "equals") (codes "(Ljava/lang/Object;)Z")
    ∷ method (codes "toString") (codes "()Ljava/lang/String;")
    ∷ method (codes "getClass") (codes "()Ljava/lang/Class;")
    ∷ method (codes "clone") (codes "()Ljava/lang/Object;")
    ∷ []

-- the methods of String
abbrev pub string_methods : List (ℕ → DeclaredMethod)
string_methods =
    method (codes "length") (codes "()I")
    ∷ method (codes "charAt") (codes "(I)C")
    ∷ method (codes "equals") (codes "(Ljava/lang/Object;)Z")
    ∷ method (codes "hashCode") (codes "()I")
    ∷ method (codes "compareTo") (codes "(Ljava/lang/String;)I")
    ∷ method (codes "toString") (codes "()Ljava/lang/String;")
    ∷ method (codes "substring") (codes "(II)Ljava/lang/String;")
    ∷ static_method (codes "valueOf") (codes "(I)Ljava/lang/String;")
    ∷ static_method (codes "valueOf") (codes "(J)Ljava/lang/String;")
    ∷ static_method (codes "valueOf") (codes "(C)Ljava/lang/String;")
    ∷ static_method (codes "valueOf") (codes "(Z)Ljava/lang/String;")
    ∷ static_method (codes "valueOf") (codes "([C)Ljava/lang/String;")
    ∷ []

-- the methods of a class that builds texts; its name is in the result type of append
abbrev pub builder_methods : List ℕ → List (ℕ → DeclaredMethod)
builder_methods name =
    let answer = codes ")L" ++ name ++ codes ";" in
    method (codes "<init>") (codes "()V")
    ∷ method (codes "append") (codes "(I" ++ answer)
    ∷ method (codes "append") (codes "(J" ++ answer)
    ∷ method (codes "append") (codes "(C" ++ answer)
    ∷ method (codes "append") (codes "(Z" ++ answer)
    ∷ method (codes "append") (codes "(Ljava/lang/String;" ++ answer)
    ∷ method (codes "length") (codes "()I")
    ∷ method (codes "toString") (codes "()Ljava/lang/String;")
    ∷ method (codes "charAt") (codes "(I)C")
    ∷ method (codes "setLength") (codes "(I)V")
    ∷ []

-- a StringBuffer has the rows of a StringBuilder, and a constructor more
abbrev pub buffer_methods : List (ℕ → DeclaredMethod)
buffer_methods = builder_methods (codes "java/lang/StringBuffer") ++ method (codes "<init>") (codes "(Ljava/lang/String;)V") ∷ []

-- the methods of System
abbrev pub system_methods : List (ℕ → DeclaredMethod)
system_methods = static_method (codes "exit") (codes "(I)V") ∷ []

-- the methods of PrintStream
abbrev pub print_stream_methods : List (ℕ → DeclaredMethod)
print_stream_methods =
    method (codes "print") (codes "(I)V")
    ∷ method (codes "print") (codes "(J)V")
    ∷ method (codes "print") (codes "(C)V")
    ∷ method (codes "print") (codes "(Z)V")
    ∷ method (codes "print") (codes "(Ljava/lang/String;)V")
    ∷ method (codes "println") (codes "(I)V")
    ∷ method (codes "println") (codes "(J)V")
    ∷ method (codes "println") (codes "(C)V")
    ∷ method (codes "println") (codes "(Z)V")
    ∷ method (codes "println") (codes "(Ljava/lang/String;)V")
    ∷ method (codes "println") (codes "()V")
    ∷ []

-- the methods of InputStream
abbrev pub input_stream_methods : List (ℕ → DeclaredMethod)
input_stream_methods = method (codes "read") (codes "()I") ∷ []

-- the constructors of Throwable, which all built-in throwables have with the same rows
abbrev pub throwable_constructors : List (ℕ → DeclaredMethod)
throwable_constructors = method (codes "<init>") (codes "()V") ∷ method (codes "<init>") (codes "(Ljava/lang/String;)V") ∷ []

-- the methods of Throwable
abbrev pub throwable_methods : List (ℕ → DeclaredMethod)
throwable_methods =
    throwable_constructors
    ++ method (codes "getMessage") (codes "()Ljava/lang/String;") ∷ method (codes "toString") (codes "()Ljava/lang/String;") ∷ []

-- the methods of FreeMe
abbrev pub free_me_methods : List (ℕ → DeclaredMethod)
free_me_methods =
    static_method (codes "free") (codes "(Ljava/lang/Object;)V")
    ∷ static_method (codes "link") (codes "(Ljava/lang/Object;Ljava/lang/Object;)Ljava/lang/Object;")
    ∷ static_method (codes "freeChain") (codes "(Ljava/lang/Object;)V")
    ∷ []

-- the methods of Class
abbrev pub class_methods : List (ℕ → DeclaredMethod)
class_methods = method (codes "getName") (codes "()Ljava/lang/String;") ∷ []

-- ---- the row at which the methods of a class begin: those of Object at 0, and each after those of the class before it

-- that of String
abbrev pub string_row : ℕ
string_row = length object_methods

-- that of StringBuilder and StringBuffer
abbrev pub builder_row : ℕ
builder_row = string_row + length string_methods

-- that of System
abbrev pub system_row : ℕ
system_row = builder_row + length buffer_methods

-- that of PrintStream
abbrev pub print_stream_row : ℕ
print_stream_row = system_row + length system_methods

-- that of InputStream
abbrev pub input_stream_row : ℕ
input_stream_row = print_stream_row + length print_stream_methods

-- that of all throwables
abbrev pub throwable_row : ℕ
throwable_row = input_stream_row + length input_stream_methods

-- that of FreeMe
abbrev pub free_me_row : ℕ
free_me_row = throwable_row + length throwable_methods

-- that of Class
abbrev pub class_row : ℕ
class_row = free_me_row + length free_me_methods

-- how many rows there are
abbrev pub built_in_rows : ℕ
built_in_rows = class_row + length class_methods

-- how many methods all classes have: those of a program come after them
abbrev pub built_in_methods : ℕ
built_in_methods = 96

-- ---- fields

-- a constant field without a value in its file
abbrev pub static_field : List ℕ → List ℕ → DeclaredField
static_field name descriptor = record { name = name; descriptor = descriptor; flags = public_static_final; value = None }

-- the fields of System
abbrev pub system_fields : List DeclaredField
system_fields =
    static_field (codes "out") (codes "Ljava/io/PrintStream;") ∷ static_field (codes "in") (codes "Ljava/io/InputStream;") ∷ []

-- ---- classes

-- a class under a superclass
abbrev pub class_under : Option (List ℕ) → List ℕ → List (List ℕ) → Bool → List DeclaredField → List DeclaredMethod → DeclaredClass
class_under superclass name interfaces hidden fields methods = record {
  name = name;
  superclass = superclass;
  interfaces = interfaces;
  flags = class_flags;
  hidden = hidden;
  fields = fields;
  methods = methods;
  file = None;
}

-- a class directly below Object, without interfaces and fields
abbrev pub plain_class : List ℕ → Bool → List DeclaredMethod → DeclaredClass
plain_class name hidden methods = class_under (Some object_name) name [] hidden [] methods

-- a throwable has its superclass's hidden field
abbrev pub throwable_under : List ℕ → List ℕ → DeclaredClass
throwable_under superclass name = class_under (Some superclass) name [] false [] (numbered throwable_row throwable_constructors)

-- an interface without methods
abbrev pub marker : List ℕ → DeclaredClass
marker name = record {
  name = name;
  superclass = Some object_name;
  interfaces = [];
  flags = interface_flags;
  hidden = false;
  fields = [];
  methods = [];
  file = None;
}

-- how many there are: the classes of a program come after them
abbrev pub built_in_classes : ℕ
built_in_classes = 30

-- the number of Class
abbrev pub class_literal_class : ℕ
class_literal_class = 29

-- the classes by the numbers that they have in each program
unfoldable pub built_in : List DeclaredClass
built_in =
    class_under None object_name [] false [] (numbered 0 object_methods)
    ∷ class_under (Some object_name) string_name (serializable_name ∷ []) false [] (numbered string_row string_methods)
    ∷ plain_class (codes "java/lang/StringBuilder") true (numbered builder_row (builder_methods (codes "java/lang/StringBuilder")))
    ∷ plain_class (codes "java/lang/StringBuffer") true (numbered builder_row buffer_methods)
    ∷ class_under (Some object_name) (codes "java/lang/System") [] false system_fields (numbered system_row system_methods)
    ∷ plain_class (codes "java/io/PrintStream") false (numbered print_stream_row print_stream_methods)
    ∷ plain_class (codes "java/io/InputStream") false (numbered input_stream_row input_stream_methods)
    ∷ class_under (Some object_name) (codes "java/lang/Throwable") (serializable_name ∷ []) true [] (numbered throwable_row throwable_methods)
    ∷ plain_class (codes "FreeMe") false (numbered free_me_row free_me_methods)
    ∷ throwable_under (codes "java/lang/Throwable") (codes "java/lang/Exception")
    ∷ throwable_under (codes "java/lang/Throwable") (codes "java/lang/Error")
    ∷ throwable_under (codes "java/lang/Exception") (codes "java/lang/RuntimeException")
    ∷ throwable_under (codes "java/lang/Exception") (codes "java/io/IOException")
    ∷ throwable_under (codes "java/lang/RuntimeException") (codes "java/lang/ArithmeticException")
    ∷ throwable_under (codes "java/lang/RuntimeException") (codes "java/lang/ArrayStoreException")
    ∷ throwable_under (codes "java/lang/RuntimeException") (codes "java/lang/ClassCastException")
    ∷ throwable_under (codes "java/lang/RuntimeException") (codes "java/lang/IndexOutOfBoundsException")
    ∷ throwable_under (codes "java/lang/RuntimeException") (codes "java/lang/NegativeArraySizeException")
    ∷ throwable_under (codes "java/lang/RuntimeException") (codes "java/lang/NullPointerException")
    ∷ throwable_under (codes "java/lang/RuntimeException") (codes "java/lang/IllegalArgumentException")
    ∷ throwable_under (codes "java/lang/RuntimeException") (codes "java/lang/IllegalStateException")
    ∷ throwable_under (codes "java/lang/RuntimeException") (codes "java/lang/UnsupportedOperationException")
    ∷ throwable_under (codes "java/lang/IndexOutOfBoundsException") (codes "java/lang/ArrayIndexOutOfBoundsException")
    ∷ throwable_under (codes "java/lang/IndexOutOfBoundsException") (codes "java/lang/StringIndexOutOfBoundsException")
    ∷ throwable_under (codes "java/lang/Error") (codes "java/lang/LinkageError")
    ∷ throwable_under (codes "java/lang/LinkageError") (codes "java/lang/IncompatibleClassChangeError")
    ∷ marker cloneable_name
    ∷ marker serializable_name
    ∷ throwable_under (codes "java/lang/Exception") (codes "java/lang/CloneNotSupportedException")
    ∷ plain_class class_literal_name false (numbered class_row class_methods)
    ∷ []
