-- Why class files don't make a program: for each kind of cause all its refusals in order. Inside a kind they follow the files; in a file first the
-- indices of the pool, then fields and methods, then items.
use Rattle.std.specs.Prelude.{ℕ, zero, suc, ◌+◌, ◌==◌, ◌&&◌, ◌||◌, not, Bool, true, false, List, [], ◌∷◌, ◌++◌, length, map, filter, Option, Some, None, is_some, is_none, if◌then◌else◌}
use Rattle.std.specs.List.{flat_map, filter_map, list_any}
use Rattle.std.specs.Str.{bytes_eq}
use Rattle.fm_base.specs.declared.characters.TheConstants.{DOT, LEFT_BRACKET}
use Rattle.fm_code.specs.AccessFlags.{is_static, is_interface, is_abstract}
use Rattle.fm_code.specs.ConstantPool.{class_name_at, entry_at, MemberName}
use Rattle.fm_code.specs.FreeEntries.{free_class}
use Rattle.fm_code.specs.Names.{FieldType}
use Rattle.fm_code.specs.declared.constant_pool.Entry.{Entry}
use Rattle.fm_code.specs.declared.constant_pool.Entry.TheVariants as entry
use Rattle.fm_code.specs.declared.class_file.ClassDef.{ClassDef}
use Rattle.fm_code.specs.declared.class_file.Member.{Member}
use Rattle.fm_code.specs.declared.code_array.Item.{Item}
use Rattle.fm_code.specs.declared.instructions.Insn.{Insn}
use Rattle.fm_code.specs.declared.instructions.Insn.TheVariants as insn
use Rattle.fm_world.specs.BuiltIns.{built_in, object_name, sealed_names}
use Rattle.fm_world.specs.Chains.{array_supers, class_at, chain_of, interfaces_of, listed_interfaces, parent_of, is_among, given_number, self_of}
use Rattle.fm_world.specs.Declarations.{name_at, text_at}
use Rattle.fm_world.specs.declared.declarations.DeclaredClass.{DeclaredClass}
use Rattle.fm_world.specs.declared.declarations.DeclaredMethod.{DeclaredMethod}
use Rattle.fm_world.specs.Descriptors.{class_in, class_number, class_type, types_in}
use Rattle.fm_world.specs.Lookups.{is_interface_at, is_abstract_method, resolved_field, resolved_method, select, special_target}
use Rattle.fm_world.specs.Members.{field_at, is_instance, method_at, first_method}
use Rattle.fm_world.specs.Programs.{main_of}
use Rattle.fm_code.specs.Operands.{pool_index}
use Rattle.fm_world.specs.Uses.{class_items, named_class, named_member, uses_in_order}

-- ---- refusals

-- why class files are no program
pub data Cause : Type 0 where
  Duplicate : Cause
  BuiltIn : Cause
  MissingClass : Cause
  BadParent : Cause
  MissingField : Cause
  MissingMethod : Cause
  NotImplemented : Cause
  NoMain : Cause

-- what is refused, by its name, and the class whose file has that name
pub record Refusal : Type 0 where
  pub cause : Cause
  pub name : List ℕ
  pub user : List ℕ

-- a name of one file
abbrev pub refused : Cause → ClassDef → List ℕ → Refusal
refused cause c name = record { cause = cause; name = name; user = name_at c.pool.entries c.this_class }

-- the class's own name
abbrev pub own_name : ClassDef → List ℕ
own_name c = name_at c.pool.entries c.this_class

-- how a field and a method are named in a refusal
abbrev pub field_text : MemberName → List ℕ
field_text m = m.class ++ DOT ∷ m.name

-- a method as a refusal names it: its class, its name and its descriptor
abbrev pub method_text : MemberName → List ℕ
method_text m = m.class ++ DOT ∷ (m.name ++ m.descriptor)

-- a list with one refusal, or none
abbrev pub refused_if : Bool → Refusal → List Refusal
refused_if wrong refusal = if wrong then refusal ∷ [] else []

-- the same for what is named, if anything is
abbrev pub refused_where : {A : Type 0} → (A → List Refusal) → Option A → List Refusal
refused_where refusals None = []
refused_where refusals (Some named) = refusals named

-- ---- names of classes (JVMS 5.3)

-- a file whose name an earlier file has
abbrev pub duplicates : List (List ℕ) → List ClassDef → List Refusal
duplicates earlier [] = []
duplicates earlier (c ∷ given) =
    refused_if (list_any (bytes_eq (own_name c)) earlier) (refused Duplicate c (own_name c)) ++ duplicates (own_name c ∷ earlier) given

-- a file may complete the built-in class of this name: each but FreeMe and those that arrays are below
abbrev pub may_be_completed : List ℕ → Bool
may_be_completed name = not (list_any (bytes_eq name) (free_class ∷ array_supers))

-- two classes name the same superclass, or both none
abbrev pub same_name : Option (List ℕ) → Option (List ℕ) → Bool
same_name None None = true
same_name (Some name) (Some other) = bytes_eq name other
same_name name other = false

-- the file of a class that has another superclass than Object, as throwables below Throwable, may have instance fields
abbrev pub may_have_fields : DeclaredClass → Bool
may_have_fields b = not (same_name b.superclass (Some object_name))

-- the file completes the built-in class: it has its superclass, is neither an interface nor abstract, and has no instance field where it may have none
abbrev pub completes : DeclaredClass → ClassDef → Bool
completes b c =
    may_be_completed b.name
    && ((not (is_interface c.flags) && not (is_abstract c.flags))
    && (same_name b.superclass (class_name_at c.pool.entries c.super_class)
    && (may_have_fields b || not (list_any (λ f. is_instance f.flags) c.fields))))

-- a file that has the name of a built-in class, and doesn't complete it
abbrev pub built_in_named : ClassDef → List Refusal
built_in_named c =
    refused_where (λ class. refused_if (not (completes (class_at built_in class) c)) (refused BuiltIn c (own_name c))) (class_number built_in (own_name c))

-- ---- classes that aren't there (JVMS 5.3, 5.4.3.1)

-- the class of a type, where it has one that isn't there
abbrev pub missing : List DeclaredClass → ClassDef → FieldType → List Refusal
missing classes c t = refused_where (λ name. refused_if (is_none (class_number classes name)) (refused MissingClass c name)) (class_in t)

-- what an index names: a superclass, an interface, a catch type, or what an instruction names, of a member its class alone
abbrev pub missing_at : List DeclaredClass → ClassDef → ℕ → List Refusal
missing_at classes c index = refused_where (λ name. missing classes c (class_type name)) (named_class c.pool.entries index)

-- what the descriptor of a field or a method of the class names
abbrev pub missing_in : List DeclaredClass → ClassDef → Member → List Refusal
missing_in classes c m = flat_map (missing classes c) (types_in (text_at c.pool.entries m.descriptor))

-- the classes that a file names and that aren't there: those of its pool, then those of its fields and methods
abbrev pub missing_classes : List DeclaredClass → ClassDef → List Refusal
missing_classes classes c =
    flat_map (missing_at classes c) (uses_in_order c) ++ (flat_map (missing_in classes c) c.fields ++ flat_map (missing_in classes c) c.methods)

-- ---- superclasses and interfaces (JVMS 5.3.5)

-- whether a name is that of an array's class (JVMS 4.4.1)
abbrev pub is_array_name : List ℕ → Bool
is_array_name [] = false
is_array_name (c ∷ rest) = c == LEFT_BRACKET

-- whether a given number of superclasses follow: with the number of all classes, whether the chain leads into a cycle
abbrev pub goes_up : ℕ → List DeclaredClass → Option ℕ → Bool
goes_up bound classes None = false
goes_up zero classes (Some class) = true
goes_up (suc bound) classes (Some class) = goes_up bound classes (parent_of classes class)

-- the same for some chain of interfaces, each listed by the one before
abbrev pub goes_deep : ℕ → List DeclaredClass → ℕ → Bool
goes_deep zero classes class = true
goes_deep (suc bound) classes class = list_any (goes_deep bound classes) (listed_interfaces classes class)

-- whether some class that is there passes the test
abbrev pub is_there_and : (ℕ → Bool) → Option ℕ → Bool
is_there_and test None = false
is_there_and test (Some class) = test class

-- no class, or not this one, may have that superclass
abbrev pub is_bad_superclass : List DeclaredClass → ClassDef → List ℕ → Bool
is_bad_superclass classes c name =
    is_array_name name
    || is_there_and (is_interface_at classes) (class_number classes name)
    || goes_up (length classes) classes (class_number classes name)
    || (is_interface c.flags && not (bytes_eq name object_name))
    || list_any (bytes_eq name) sealed_names

-- whether a class of this name can't be a superinterface: it isn't there, is no interface, or leads back to itself
abbrev pub is_bad_interface : List DeclaredClass → List ℕ → Bool
is_bad_interface classes name =
    is_array_name name
    || is_there_and (λ class. not (is_interface_at classes class) || goes_deep (length classes) classes class) (class_number classes name)

-- index 0 names no superclass: then the class itself is named
abbrev pub bad_superclass : List DeclaredClass → ClassDef → List Refusal
bad_superclass classes c =
    let name = name_at c.pool.entries c.super_class in
    if c.super_class == 0 then refused BadParent c (own_name c) ∷ [] else refused_if (is_bad_superclass classes c name) (refused BadParent c name)

-- the refusal of a superinterface, if it is a bad one
abbrev pub bad_interface : List DeclaredClass → ClassDef → ℕ → List Refusal
bad_interface classes c index = let name = name_at c.pool.entries index in refused_if (is_bad_interface classes name) (refused BadParent c name)

-- the refusals of an index that names a superclass, a superinterface, or both
abbrev pub bad_parent_at : List DeclaredClass → ClassDef → ℕ → List Refusal
bad_parent_at classes c index =
    (if index == c.super_class then bad_superclass classes c else []) ++ (if is_among index c.interfaces then bad_interface classes c index else [])

-- the refusals of a file's superclass and superinterfaces, in the order of their indices
abbrev pub bad_parents : List DeclaredClass → ClassDef → List Refusal
bad_parents classes c = flat_map (bad_parent_at classes c) (uses_in_order c)

-- ---- fields that aren't found (JVMS 5.4.3.2, 6.5.getfield and its like)

-- whether the instruction wants a static field; none where it names no field
abbrev pub static_field_wanted : Insn → Option Bool
static_field_wanted (insn.GetStatic index) = Some true
static_field_wanted (insn.PutStatic index) = Some true
static_field_wanted (insn.GetField index) = Some false
static_field_wanted (insn.PutField index) = Some false
static_field_wanted i = None

-- what the instructions of a class that name the index want
abbrev pub wanted_at : (Insn → Option Bool) → ClassDef → ℕ → List Bool
wanted_at wanted c index = filter_map (λ item. if names_it (pool_index item.insn) then wanted item.insn else None) (class_items c) where
  names_it : Option ℕ → Bool
  names_it None = false
  names_it (Some operand) = operand == index

-- whether the flag is another one
abbrev pub differs : Bool → Bool → Bool
differs true b = not b
differs false b = b

-- nothing is found, or with another flag than an instruction wants
abbrev pub is_not_as_wanted : (ℕ → ℕ) → Option ℕ → List Bool → Bool
is_not_as_wanted flags_of found [] = false
is_not_as_wanted flags_of None (wanted ∷ others) = true
is_not_as_wanted flags_of (Some member) wanted = list_any (differs (is_static (flags_of member))) wanted

-- the flags of the field of a number
abbrev pub field_flags : List DeclaredClass → ℕ → ℕ
field_flags classes field = (field_at classes field).field.flags

-- the flags of the method of a number
abbrev pub method_flags : List DeclaredClass → ℕ → ℕ
method_flags classes method = (method_at classes method).method.flags

-- the refusal of an index that names a field, if that isn't there or isn't static where it has to be
abbrev pub missing_field_at : List DeclaredClass → ClassDef → ℕ → List Refusal
missing_field_at classes c index = refused_where of_member (named_member c.pool.entries index) where
  of_member : MemberName → List Refusal
  of_member m =
      refused_if (is_not_as_wanted (field_flags classes) (resolved_field classes m) (wanted_at static_field_wanted c index))
      (refused MissingField c (field_text m))

-- the fields that a file names and that aren't there as it wants them
abbrev pub missing_fields : List DeclaredClass → ClassDef → List Refusal
missing_fields classes c = flat_map (missing_field_at classes c) (uses_in_order c)

-- ---- methods that aren't found (JVMS 5.4.3.3, 5.4.3.4, 6.5.invokevirtual and its like)

-- whether the instruction wants a static method; none where it names no method
abbrev pub static_method_wanted : Insn → Option Bool
static_method_wanted (insn.Virtual index) = Some false
static_method_wanted (insn.Special index) = Some false
static_method_wanted (insn.Static index) = Some true
static_method_wanted (insn.Interface index) = Some false
static_method_wanted i = None

-- a Methodref names an interface, or an InterfaceMethodref doesn't; an array isn't an interface
abbrev pub names_wrong_sort : List DeclaredClass → Entry → List ℕ → Bool
names_wrong_sort classes (entry.Method class member) name = is_there_and (is_interface_at classes) (class_number classes name)
names_wrong_sort classes (entry.InterfaceMethod class member) name = not (is_there_and (is_interface_at classes) (class_number classes name))
names_wrong_sort classes e name = false

-- the refusal of an index that names a method, if that isn't there, or its class is of the other sort, or it isn't static where it has to be
abbrev pub missing_method_at : List DeclaredClass → ClassDef → ℕ → List Refusal
missing_method_at classes c index = refused_where of_member (named_member c.pool.entries index) where
  is_wrong : MemberName → List Bool → Bool
  is_wrong m [] = false
  is_wrong m (first ∷ others) =
      names_wrong_sort classes (entry_at c.pool.entries index) m.class
      || is_not_as_wanted (method_flags classes) (resolved_method classes m) (first ∷ others)

  of_member : MemberName → List Refusal
  of_member m = refused_if (is_wrong m (wanted_at static_method_wanted c index)) (refused MissingMethod c (method_text m))

-- the methods that a file names and that aren't there as it wants them
abbrev pub missing_methods : List DeclaredClass → ClassDef → List Refusal
missing_methods classes c = flat_map (missing_method_at classes c) (uses_in_order c)

-- ---- abstract methods that are left over (JVMS 5.4.5, 6.5.invokespecial)

-- the numbers of a class's abstract methods, the first of them having this number
abbrev pub abstract_from : ℕ → List DeclaredMethod → List ℕ
abstract_from number [] = []
abstract_from number (m ∷ methods) = (if is_abstract m.flags then number ∷ [] else []) ++ abstract_from (number + 1) methods

-- the numbers of the abstract methods that a class declares
abbrev pub abstract_methods : List DeclaredClass → ℕ → List ℕ
abstract_methods classes class = abstract_from (first_method classes class) (class_at classes class).methods

-- no method is selected for it, or an abstract one
abbrev pub is_left_over : List DeclaredClass → ℕ → ℕ → Bool
is_left_over classes class method = is_abstract_or_none (select classes class method) where
  is_abstract_or_none : Option ℕ → Bool
  is_abstract_or_none None = true
  is_abstract_or_none (Some found) = is_abstract_method classes found

-- how a method is named by its own class
abbrev pub declared_name : List DeclaredClass → ℕ → MemberName
declared_name classes method =
    let owned = method_at classes method in
    record { class = (class_at classes owned.class).name; name = owned.method.name; descriptor = owned.method.descriptor }

-- the abstract methods of a class that has objects: its own, those of its superclasses upwards, then those of its superinterfaces
abbrev pub left_over : List DeclaredClass → ClassDef → ℕ → List Refusal
left_over classes c class =
    if is_abstract c.flags || is_interface c.flags then [] else
    map (λ method. refused NotImplemented c (method_text (declared_name classes method)))
    (filter (is_left_over classes class) (flat_map (abstract_methods classes) (chain_of classes class ++ interfaces_of classes class)))

-- a special call that names an abstract method, or would call one
abbrev pub calls_abstract : List DeclaredClass → ℕ → MemberName → Bool
calls_abstract classes caller m = is_there_and is_wrong (resolved_method classes m) where
  is_wrong : ℕ → Bool
  is_wrong method =
      is_abstract_method classes method || is_abstract_method classes (special_target classes caller (class_number classes m.class) method)

-- the refusal of an instruction that calls a method that has no code
abbrev pub abstract_call : List DeclaredClass → ClassDef → ℕ → Item → List Refusal
abstract_call classes c caller item = of_insn item.insn where
  of_member : MemberName → List Refusal
  of_member m = refused_if (calls_abstract classes caller m) (refused NotImplemented c (method_text m))

  of_insn : Insn → List Refusal
  of_insn (insn.Special index) = refused_where of_member (named_member c.pool.entries index)
  of_insn i = []

-- the refusals of a file for methods without code: those left over in objects that have it, and then those that it calls
abbrev pub not_implemented : List DeclaredClass → ClassDef → ℕ → List Refusal
not_implemented classes c class = left_over classes c (self_of classes class) ++ flat_map (abstract_call classes c class) (class_items c)

-- the files by the numbers of their classes
abbrev pub each_from : ℕ → (ClassDef → ℕ → List Refusal) → List ClassDef → List Refusal
each_from class refusals [] = []
each_from class refusals (c ∷ given) = refusals c class ++ each_from (class + 1) refusals given

-- ---- the main class

-- the refusal of a main class that isn't among the files or has no main method
abbrev pub no_main : List DeclaredClass → List ℕ → List Refusal
no_main classes main =
    refused_if (not (is_there_and (λ class. is_some (main_of classes class)) (given_number classes main)))
    (record { cause = NoMain; name = main; user = main })
