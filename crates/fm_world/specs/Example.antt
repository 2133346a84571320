-- Three classes written by hand, what they are linked to, and neighbours of them that are refused.
use Rattle.std.specs.Prelude.{ℕ, ◌+◌, List, [], ◌∷◌, codes, length, None, map, slice_set, take}
use Rattle.fm_base.specs.declared.kinds.Base.{Base}
use Rattle.fm_base.specs.declared.kinds.Base.TheVariants as base
use Rattle.fm_base.specs.declared.kinds.TypeRef.{TypeRef}
use Rattle.fm_code.specs.declared.constant_pool.Entry.{Entry}
use Rattle.fm_code.specs.declared.constant_pool.Entry.TheVariants as entry
use Rattle.fm_code.specs.declared.class_file.ClassDef.{ClassDef}
use Rattle.fm_code.specs.declared.class_file.Member.{Member}
use Rattle.fm_code.specs.declared.class_file.MemberAttr.TheVariants as attribute
use Rattle.fm_code.specs.declared.code_array.Item.{Item}
use Rattle.fm_code.specs.declared.instructions.Insn.{Insn}
use Rattle.fm_code.specs.declared.instructions.Insn.TheVariants as insn
use Rattle.fm_code.specs.declared.operations.Elem.TheVariants as elem
use Rattle.fm_world.specs.BuiltIns.{built_in, built_in_classes, built_in_methods}
use Rattle.fm_world.specs.Members.{methods_of}
use Rattle.fm_world.specs.Causes.{Cause, Refusal}
use Rattle.fm_world.specs.Descriptors.{of_class}
use Rattle.fm_world.specs.Programs.{class_id, method_id, field_use, method_use}
use Rattle.fm_world.specs.declared.calls.Call.{Call}
use Rattle.fm_world.specs.declared.calls.CallKind.TheVariants as call
use Rattle.fm_world.specs.declared.uses.Use.{Use}
use Rattle.fm_world.specs.declared.uses.Use.TheVariants as resolved

-- ---- the class files, by their records

-- an instruction where its place and its bytes don't matter
abbrev pub item : Insn → Item
item i = record { offset = 0; bytes = []; insn = i }

-- a method, whose Code attribute has the name at that index
abbrev pub coded_method : ℕ → ℕ → ℕ → ℕ → List Item → Member
coded_method flags name descriptor code items = record {
  flags = flags;
  name = name;
  descriptor = descriptor;
  attributes = attribute.Coded code (record { max_stack = 2; max_locals = 1; items = items; length = 1; handlers = []; attributes = [] }) ∷ [];
}

-- a class of version 49.0 without interfaces, whose name is at index 2 and whose superclass is at index 4
abbrev pub class_with : List Entry → List Member → List Member → ClassDef
class_with entries fields methods = record {
  minor = 0;
  major = 49;
  pool = record { entries = entries };
  flags = 33;
  this_class = 2;
  super_class = 4;
  interfaces = [];
  fields = fields;
  methods = methods;
  attributes = [];
}

-- class M, whose main makes a B and calls its constructor, calls A.k, reads B.x, loads a text, and makes arrays; nothing uses the class Gone
abbrev pub main_entries : List Entry
main_entries =
    entry.Second ∷ entry.Utf8 (codes "M") ∷ entry.Class 1 ∷ entry.Utf8 (codes "java/lang/Object") ∷ entry.Class 3
    -- 5
    ∷ entry.Utf8 (codes "B") ∷ entry.Class 5 ∷ entry.Utf8 (codes "<init>") ∷ entry.Utf8 (codes "()V") ∷ entry.NameAndType 7 8
    -- 10
    ∷ entry.Method 6 9 ∷ entry.Utf8 (codes "A") ∷ entry.Class 11 ∷ entry.Utf8 (codes "k") ∷ entry.NameAndType 13 8
    -- 15
    ∷ entry.Method 12 14 ∷ entry.Utf8 (codes "x") ∷ entry.Utf8 (codes "I") ∷ entry.NameAndType 16 17 ∷ entry.Field 6 18
    -- 20
    ∷ entry.Utf8 (codes "hi") ∷ entry.Text 20 ∷ entry.Utf8 (codes "main") ∷ entry.Utf8 (codes "([Ljava/lang/String;)V") ∷ entry.Utf8 (codes "Code")
    -- 25
    ∷ entry.Utf8 (codes "Gone") ∷ entry.Class 25 ∷ []

-- the code of its main
abbrev pub main_items : List Item
main_items =
    item (insn.New 6) ∷ item (insn.Special 10) ∷ item (insn.Virtual 15) ∷ item (insn.GetField 19) ∷ item (insn.LoadPool 21)
    ∷ item (insn.NewRefs 12) ∷ item (insn.NewArray elem.Int) ∷ item (insn.Return None) ∷ []

-- class M, the main class
abbrev pub example_main : ClassDef
example_main = class_with main_entries [] (coded_method 9 22 23 24 main_items ∷ [])

-- class A, with an instance field x of those flags, a static field s of the value "hi", a constructor and k()V
abbrev pub upper_entries : List Entry
upper_entries =
    entry.Second ∷ entry.Utf8 (codes "A") ∷ entry.Class 1 ∷ entry.Utf8 (codes "java/lang/Object") ∷ entry.Class 3
    -- 5
    ∷ entry.Utf8 (codes "x") ∷ entry.Utf8 (codes "I") ∷ entry.Utf8 (codes "<init>") ∷ entry.Utf8 (codes "()V") ∷ entry.Utf8 (codes "k")
    -- 10
    ∷ entry.Utf8 (codes "s") ∷ entry.Utf8 (codes "Ljava/lang/String;") ∷ entry.Utf8 (codes "hi") ∷ entry.Text 12 ∷ entry.Utf8 (codes "ConstantValue")
    -- 15
    ∷ entry.Utf8 (codes "Code") ∷ []

-- code that returns at once
abbrev pub only_return : List Item
only_return = item (insn.Return None) ∷ []

-- class U with these flags of its first field
abbrev pub upper_with : ℕ → ClassDef
upper_with flags =
    class_with upper_entries
    (record { flags = flags; name = 5; descriptor = 6; attributes = [] }
    ∷ record { flags = 8; name = 10; descriptor = 11; attributes = attribute.Constant 14 13 ∷ [] } ∷ [])
    (coded_method 1 7 8 15 only_return ∷ coded_method 1 9 8 15 only_return ∷ [])

-- class U, the superclass of L
abbrev pub example_upper : ClassDef
example_upper = upper_with 1

-- class B below A, with a field y, a constructor and its own k()V
abbrev pub lower_entries : List Entry
lower_entries =
    entry.Second ∷ entry.Utf8 (codes "B") ∷ entry.Class 1 ∷ entry.Utf8 (codes "A") ∷ entry.Class 3
    -- 5
    ∷ entry.Utf8 (codes "y") ∷ entry.Utf8 (codes "J") ∷ entry.Utf8 (codes "<init>") ∷ entry.Utf8 (codes "()V") ∷ entry.Utf8 (codes "k")
    -- 10
    ∷ entry.Utf8 (codes "Code") ∷ []

-- class L
abbrev pub example_lower : ClassDef
example_lower =
    class_with lower_entries (record { flags = 1; name = 5; descriptor = 6; attributes = [] } ∷ [])
    (coded_method 1 7 8 10 only_return ∷ coded_method 1 9 8 10 only_return ∷ [])

-- the three class files
abbrev pub example : List ClassDef
example = example_main ∷ example_upper ∷ example_lower ∷ []

-- ---- what they are linked to

-- the built-in classes have 2 fields: M is the first class after them, with the first method after theirs, A the second one with the next two, and B the third one with the
-- two after them
abbrev pub main_uses : List Use
main_uses =
    resolved.Unused ∷ resolved.Unused ∷ resolved.OfType (record { 0 = built_in_classes }) ∷ resolved.Unused ∷ resolved.OfType (record { 0 = 0 })
    ∷ resolved.Unused ∷ resolved.OfType (record { 0 = built_in_classes + 2 }) ∷ resolved.Unused ∷ resolved.Unused ∷ resolved.Unused
    ∷ method_use (built_in_classes + 2) (built_in_methods + 3) ∷ resolved.Unused ∷ resolved.OfType (record { 0 = built_in_classes + 1 }) ∷ resolved.Unused ∷ resolved.Unused
    ∷ method_use (built_in_classes + 1) (built_in_methods + 2) ∷ resolved.Unused ∷ resolved.Unused ∷ resolved.Unused ∷ field_use (built_in_classes + 2) 2
    ∷ resolved.Unused ∷ resolved.OfText 0 ∷ resolved.Unused ∷ resolved.Unused ∷ resolved.Unused
    ∷ resolved.Unused ∷ resolved.Unused ∷ []

-- the types after those of the classes: String[] for the arguments, A[] and int[]
abbrev pub array_types : List TypeRef
array_types = record { dims = 1; base = of_class 1 } ∷ record { dims = 1; base = of_class (built_in_classes + 1) } ∷ record { dims = 1; base = base.Int } ∷ []

-- the method that the main class calls, by the class that it names
abbrev pub call_of_k : Call
call_of_k = record { kind = call.Virtual; named = record { dims = 0; base = of_class (built_in_classes + 1) }; method = method_id (built_in_methods + 2); caller = class_id built_in_classes }

-- the number of the first method of a built-in class
abbrev pub first_method : ℕ → ℕ
first_method class = length (methods_of (take class built_in))

-- a call of toString on an Object, and on an array of ints: toString is method 3
abbrev pub call_of_to_string : Call
call_of_to_string = record { kind = call.Virtual; named = record { dims = 0; base = of_class 0 }; method = method_id 3; caller = class_id built_in_classes }

-- a call of toString on an array
abbrev pub call_on_array : Call
call_on_array = record { kind = call.Virtual; named = record { dims = 1; base = base.Int }; method = method_id 3; caller = class_id built_in_classes }

-- ---- casts: Object is class 0, String 1, Throwable 7, NullPointerException 18, Cloneable 26 and Serializable 27

-- an array type
abbrev pub array : ℕ → Base → TypeRef
array dimensions b = record { dims = dimensions; base = b }

-- a class as a type
abbrev pub class_type : ℕ → TypeRef
class_type class = array 0 (of_class class)

-- pairs of which the first type fits the second one
abbrev pub castable : List (TypeRef × TypeRef)
castable =
    (class_type 18, class_type 7) ∷ (class_type 18, class_type 27) ∷ (class_type 1, class_type 0) ∷ (class_type 26, class_type 0)
    ∷ (array 1 base.Int, class_type 0) ∷ (array 1 base.Int, class_type 26) ∷ (array 1 (of_class 1), array 1 (of_class 0))
    ∷ (array 2 base.Int, array 1 (of_class 0)) ∷ (array 2 base.Int, array 1 (of_class 27)) ∷ (array 1 base.Int, array 1 base.Int) ∷ []

-- pairs of which the first type doesn't fit the second one
abbrev pub not_castable : List (TypeRef × TypeRef)
not_castable =
    (class_type 7, class_type 18) ∷ (class_type 0, class_type 1) ∷ (class_type 18, class_type 26) ∷ (class_type 0, array 1 base.Int)
    ∷ (array 1 base.Int, class_type 1) ∷ (array 1 (of_class 0), array 1 (of_class 1)) ∷ (array 1 base.Int, array 1 (of_class 0))
    ∷ (array 1 (of_class 0), array 2 base.Int) ∷ (array 1 base.Int, array 1 base.Long) ∷ []

-- ---- neighbours

-- x of A is static
abbrev pub with_static_field : List ClassDef
with_static_field = example_main ∷ upper_with 9 ∷ example_lower ∷ []

-- A's superclass is B
abbrev pub with_cycle : List ClassDef
with_cycle = example_main ∷ class_with (slice_set upper_entries 3 (entry.Utf8 (codes "B"))) [] [] ∷ example_lower ∷ []

-- ---- interfaces: I extends Cloneable and J, and C implements I and then J, whose m it hasn't

-- an interface of that name, with the interfaces at those indices; index 6 is the class at index 5, 8 that at 7
abbrev pub interface_with : List Entry → List ℕ → List Member → ClassDef
interface_with entries interfaces methods = record (class_with entries [] methods) { flags = 0x0601; interfaces = interfaces }

-- a pool that names a class and two more texts or classes
abbrev pub naming : List ℕ → List ℕ → List ℕ → List Entry
naming name first second =
    entry.Second ∷ entry.Utf8 name ∷ entry.Class 1 ∷ entry.Utf8 (codes "java/lang/Object") ∷ entry.Class 3
    ∷ entry.Utf8 first ∷ entry.Class 5 ∷ entry.Utf8 second ∷ entry.Class 7 ∷ []

-- a class with two interfaces of which the first lies below the second
abbrev pub with_interfaces : List ClassDef
with_interfaces =
    interface_with (naming (codes "J") (codes "m") (codes "()V")) [] (record { flags = 0x0401; name = 5; descriptor = 7; attributes = [] } ∷ [])
    ∷ interface_with (naming (codes "I") (codes "java/lang/Cloneable") (codes "J")) (6 ∷ 8 ∷ []) []
    ∷ record (class_with (naming (codes "C") (codes "I") (codes "J")) [] []) { interfaces = 6 ∷ 8 ∷ [] }
    ∷ []

-- ---- overriding: P declares k()V, Q below P a private k()V, and R is below Q

-- a class of that name and superclass, which declares k()V with those flags, if any
abbrev pub declaring : List ℕ → List ℕ → List ℕ → ClassDef
declaring name superclass flags = class_with entries [] (map with_flags flags) where
  entries : List Entry
  entries =
      entry.Second ∷ entry.Utf8 name ∷ entry.Class 1 ∷ entry.Utf8 superclass ∷ entry.Class 3 ∷ entry.Utf8 (codes "k")
      ∷ entry.Utf8 (codes "()V") ∷ entry.Utf8 (codes "Code") ∷ []

  with_flags : ℕ → Member
  with_flags f = coded_method f 5 6 7 only_return

-- three classes of which the upper ones declare one method, first a public and then a private one
abbrev pub with_private : List ClassDef
with_private =
    declaring (codes "P") (codes "java/lang/Object") (1 ∷ []) ∷ declaring (codes "Q") (codes "P") (2 ∷ [])
    ∷ declaring (codes "R") (codes "Q") [] ∷ []

-- P of the package p declares a k()V for its package; Q below it one of q, and R below Q one of p; S below P opens it, and T of q is below S
abbrev pub with_packages : List ClassDef
with_packages =
    declaring (codes "p/P") (codes "java/lang/Object") (0 ∷ []) ∷ declaring (codes "q/Q") (codes "p/P") (1 ∷ [])
    ∷ declaring (codes "p/R") (codes "q/Q") (1 ∷ []) ∷ declaring (codes "p/S") (codes "p/P") (1 ∷ [])
    ∷ declaring (codes "q/T") (codes "p/S") (1 ∷ []) ∷ []

-- what is called where k()V of P is named: of an object of P and of Q that one, and of the others their own
abbrev pub called_in_packages : List ℕ
called_in_packages = map (λ place. built_in_methods + place) (0 ∷ 0 ∷ 2 ∷ 3 ∷ 4 ∷ [])

-- ---- files with the names of built-in classes

-- one that completes StringBuilder: it has its name and superclass, and declares a public k()V
abbrev pub with_completion : List ClassDef
with_completion = declaring (codes "java/lang/StringBuilder") (codes "java/lang/Object") (1 ∷ []) ∷ []

-- FreeMe can't be completed
abbrev pub with_free_me : List ClassDef
with_free_me = declaring (codes "FreeMe") (codes "java/lang/Object") (1 ∷ []) ∷ []

-- a refusal
abbrev pub refusal : Cause → List ℕ → List ℕ → Refusal
refusal cause name user = record { cause = cause; name = name; user = user }
