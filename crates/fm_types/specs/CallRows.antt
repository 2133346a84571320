-- The rows of calls and returns (JVMS 6.5.invokevirtual and its like, 6.5.return and its like, 4.10.1.9).
use Rattle.std.specs.Prelude.{ℕ, ◌==◌, ◌||◌, Bool, true, false, List, [], ◌∷◌, ◌++◌, codes, Option, Some, None, option_and_then, if◌then◌else◌}
use Rattle.std.specs.Str.{bytes_eq}
use Rattle.fm_base.specs.declared.kinds.Kind.{Kind}
use Rattle.fm_base.specs.declared.kinds.Kind.TheVariants as kind
use Rattle.fm_base.specs.declared.kinds.TypeRef.{TypeRef}
use Rattle.fm_code.specs.declared.operations.Reg.{Reg}
use Rattle.fm_code.specs.declared.operations.Reg.TheVariants as reg
use Rattle.fm_types.specs.Named.{argument_words, class_of_method, on_method, result_of, result_words, this_class}
use Rattle.fm_types.specs.States.{is_uninit, is_uninit_this, replaced, stack_slots, taken, TypeState, worked}
use Rattle.fm_types.specs.declared.slots.Slot.{Slot}
use Rattle.fm_types.specs.declared.slots.Slot.TheVariants as slot
use Rattle.fm_world.specs.Chains.{chain_of, is_among, parent_of, same_type, self_of}
use Rattle.fm_world.specs.Lookups.{constructor_name}
use Rattle.fm_world.specs.Members.{method_at}
use Rattle.fm_world.specs.Numbers.{type_of_class}
use Rattle.fm_world.specs.Programs.{class_of_type, Outline}
use Rattle.fm_world.specs.declared.uses.Use.{Use}

-- ---- which methods

-- the method has this name
abbrev pub has_name : Outline → ℕ → List ℕ → Bool
has_name o method name = bytes_eq (method_at o.classes method).method.name name

-- the method is a constructor (JVMS 2.9)
abbrev pub is_constructor : Outline → ℕ → Bool
is_constructor o method = has_name o method constructor_name

-- a constructor, or a method of the name of those that start classes: these are never called as others are
abbrev pub is_initializer : Outline → ℕ → Bool
is_initializer o method = is_constructor o method || has_name o method (codes "<clinit>")

-- ---- calls of methods

-- the receiver fits the type that is named, and the arguments the parameters
unfoldable pub instance_call_row : Outline → Use → TypeState → Option TypeState
instance_call_row o u s = on_method o u called where
  called : ℕ → TypeRef → Option TypeState
  called m named = if is_initializer o m then None else worked o (argument_words o m ++ slot.Ref named ∷ []) (result_words o m) s

-- the arguments fit the parameters (JVMS 6.5, invokestatic)
unfoldable pub static_call_row : Outline → Use → TypeState → Option TypeState
static_call_row o u s = on_method o u called where
  called : ℕ → TypeRef → Option TypeState
  called m named = if is_initializer o m then None else worked o (argument_words o m) (result_words o m) s

-- ---- calls of constructors

-- each copy of an object becomes one of the class
abbrev pub initialised : (Slot → Bool) → TypeRef → TypeState → TypeState
initialised test t s = record s { locals = replaced test (slot.Ref t) s.locals; stack = replaced test (slot.Ref t) s.stack }

-- whether an option has a type that is this one
abbrev pub is_type : TypeRef → Option TypeRef → Bool
is_type t None = false
is_type t (Some other) = same_type t other

-- whether an option has a class that is this one
abbrev pub is_class : ℕ → Option ℕ → Bool
is_class c None = false
is_class c (Some d) = c == d

-- the type is that of the objects of the class's methods, or of its superclass
abbrev pub names_own_or_parent : Outline → ℕ → TypeRef → Bool
names_own_or_parent o own named = by_class (class_of_type named) where
  by_class : Option ℕ → Bool
  by_class None = false
  by_class (Some c) = (c == self_of o.classes own) || is_class c (parent_of o.classes own)

-- the receiver is the object of a `new` of exactly the class that is named, or a constructor's own object, with its class or the superclass named
abbrev pub constructed : Outline → ℕ → (ℕ → Option TypeRef) → TypeRef → Slot → TypeState → Option TypeState
constructed o method news named slot.Top s = None
constructed o method news named slot.Int s = None
constructed o method news named slot.Long s = None
constructed o method news named slot.Null s = None
constructed o method news named (slot.Ref t) s = None
constructed o method news named (slot.Uninit item) s = if is_type named (news item) then Some (initialised (is_uninit item) named s) else None
constructed o method news named slot.UninitThis s =
    let own = class_of_method o method in
    if names_own_or_parent o own named then Some (record (initialised is_uninit_this (type_of_class (this_class o method)) s) { built = true }) else None

-- a constructor takes its arguments and the object under them
abbrev pub constructor_called : Outline → ℕ → (ℕ → Option TypeRef) → ℕ → TypeRef → TypeState → Option TypeState
constructor_called o method news m named s = option_and_then of_rest (taken o (argument_words o m) s.stack) where
  of_rest : List Slot → Option TypeState
  of_rest [] = None
  of_rest (receiver ∷ stack) = constructed o method news named receiver (record s { stack = stack })

-- ---- special calls

-- the type is that of the class or of one of its superclasses
abbrev pub names_own_or_above : Outline → ℕ → TypeRef → Bool
names_own_or_above o own named = by_class (class_of_type named) where
  by_class : Option ℕ → Bool
  by_class None = false
  by_class (Some c) = is_among c (chain_of o.classes own)

-- beside constructors, methods of the class of the method's own objects and its superclasses, of an object that fits that class
unfoldable pub special_call_row : Outline → ℕ → (ℕ → Option TypeRef) → Use → TypeState → Option TypeState
special_call_row o method news u s = on_method o u called where
  own : ℕ
  own = this_class o method

  called : ℕ → TypeRef → Option TypeState
  called m named =
      if is_constructor o m then constructor_called o method news m named s else
      if is_initializer o m then None else
      if names_own_or_above o own named then worked o (argument_words o m ++ slot.Ref (type_of_class own) ∷ []) (result_words o m) s else
      None

-- ---- returns

-- the kind of return for a result
abbrev pub returned_by : Kind → Reg
returned_by kind.Boolean = reg.Int
returned_by kind.Byte = reg.Int
returned_by kind.Char = reg.Int
returned_by kind.Short = reg.Int
returned_by kind.Int = reg.Int
returned_by kind.Long = reg.Long
returned_by (kind.Ref t) = reg.Ref

-- both are of one kind
abbrev pub same_reg : Reg → Reg → Bool
same_reg reg.Int reg.Int = true
same_reg reg.Long reg.Long = true
same_reg reg.Ref reg.Ref = true
same_reg r q = false

-- a method without a result returns nothing, a constructor only once its object is built; others return a value that fits their result
unfoldable pub return_row : Outline → ℕ → Option Reg → TypeState → Option TypeState
return_row o method value s = by_result value (result_of o method) where
  by_result : Option Reg → Option Kind → Option TypeState
  by_result None None = if s.built then Some s else None
  by_result None (Some k) = None
  by_result (Some r) None = None
  by_result (Some r) (Some k) = if same_reg r (returned_by k) then worked o (stack_slots (k ∷ [])) [] s else None
