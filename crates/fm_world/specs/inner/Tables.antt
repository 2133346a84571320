-- How a program lies in the memory of the code: its parts, with tables that return at once what the definitions look up.
use Rattle.std.specs.Prelude.{◌≡◌, ℕ, ◌^◌, ◌<◌, true, List, ◌∷◌, [], length, map, reverse, nat_eq, Option, None, Some, IfSome, IsSomeAnd, slice_get, slice_index}
use Rattle.std.specs.List.{range_with_len}
use Rattle.std.specs.HashMap.{get}
use Rattle.fm_code.specs.declared.code_array.Code.{Code}
use Rattle.fm_world.specs.Chains.{chain_of, interfaces_of, is_among, parent_of}
use Rattle.fm_world.specs.Lookups.{is_interface_at, is_selectable, object_number}
use Rattle.fm_world.specs.Members.{fields_of, is_instance, methods_of, method_at, method_among, own_method, statics_of}
use Rattle.fm_world.specs.Programs.{Outline, Program, class_info, field_info, method_info}
use Rattle.fm_world.specs.declared.declarations.DeclaredClass.{DeclaredClass}
use Rattle.fm_world.specs.inner.KnownTargets.{KnowsTargets}
use Rattle.fm_world.specs.inner.Layers.{value_at}
use Rattle.fm_world.specs.declared.parts.Parts.{Parts}
use Rattle.fm_world.specs.declared.records.Body.{Body}
use Rattle.fm_world.specs.declared.records.Body.TheVariants as body
use Rattle.fm_world.specs.declared.records.MethodInfo.{MethodInfo}

-- ---- the program

-- the code of a body
abbrev pub code_in : Body → Option Code
code_in (body.Coded code) = Some code
code_in b = None

-- the outline of a program that is made of parts
abbrev pub outline_in : Parts → Outline
outline_in x = record { classes = x.declared; types = x.types.keys; texts = x.texts; main_class = x.main_class.0; main = x.main.0 }

-- the program that is made of parts
abbrev pub program_in : Parts → Program
program_in x = record { outline = outline_in x; uses = x.uses; codes = map (λ (m : MethodInfo). code_in m.body) x.methods; made = x.made }

-- ---- the tables

-- the numbers below a count, in order
abbrev pub numbers_below : ℕ → List ℕ
numbers_below count = range_with_len 0 count

-- a class's superclasses are those of its superclass, so that no chain leads into a cycle
abbrev pub chain_from : List DeclaredClass → Option ℕ → List ℕ
chain_from classes None = []
chain_from classes (Some class) = chain_of classes class

-- each class comes right before its superclass's chain
abbrev pub IsLinear : List DeclaredClass → Type 0
IsLinear classes = (class : ℕ) → class < length classes → chain_of classes class ≡ class ∷ chain_from classes (parent_of classes class)

-- each number is that of an interface
abbrev pub AreInterfaces : List DeclaredClass → List ℕ → Type 0
AreInterfaces classes numbers = (number : ℕ) → is_among number numbers ≡ true → is_interface_at classes number ≡ true

-- each number fits 32 bits
pub record AreFew (x : Parts) : Type 0 where
  pub classes : length x.declared < 2 ^ 32
  pub methods : length x.methods < 2 ^ 32
  pub fields : length x.fields < 2 ^ 32
  pub types : length x.types.keys < 2 ^ 32
  pub texts : length x.texts < 2 ^ 32

-- for each class from the uppermost one down its superclasses and itself; all its superinterfaces; and by the number of a signature the
-- method that is selected for it. Methods of one name and one descriptor have one signature.
pub record AnswerForClasses (x : Parts) : Type 0 where
  pub linear : IsLinear x.declared
  pub displays : x.displays ≡ map (λ class. reverse (chain_of x.declared class)) (numbers_below (length x.declared))
  pub interfaces : x.interfaces ≡ map (interfaces_of x.declared) (numbers_below (length x.declared))
  pub only_interfaces : (class : ℕ) → class < length x.declared → AreInterfaces x.declared (interfaces_of x.declared class)
  pub signatures : length x.signatures ≡ length (methods_of x.declared)
  pub selected : (class method : ℕ) → class < length x.declared → method < length (methods_of x.declared)
      → IsSomeAnd (slice_get x.tops class) (λ table.
      value_at x.selected table (slice_index x.signatures method)
      ≡ (let m = (method_at x.declared method).method in
      method_among x.declared is_selectable m.name m.descriptor (chain_of x.declared class)))

-- the number of Object; and for each class its own method that isn't static, by signature
pub record AnswerForCalls (x : Parts) : Type 0 where
  pub object : object_number x.declared ≡ Some x.object.0
  pub one_each : length x.own ≡ length x.declared
  pub own : (class method : ℕ) → class < length x.declared → method < length (methods_of x.declared)
      → IsSomeAnd (slice_get x.own class) (λ table.
      get nat_eq table (slice_index x.signatures method)
      ≡ (let m = (method_at x.declared method).method in own_method x.declared is_instance m.name m.descriptor class))

-- the records hold of the classes, methods and fields what the definitions say, and the tables return what these look up
pub record AreTables (x : Parts) : Type 0 where
  pub few : AreFew x
  pub classes : x.classes ≡ map (class_info (outline_in x)) (numbers_below (length x.declared))
  pub methods : x.methods ≡ map (method_info (program_in x)) (numbers_below (length (methods_of x.declared)))
  pub fields : x.fields ≡ map (field_info (outline_in x)) (numbers_below (length (fields_of x.declared)))
  pub statics : x.statics ≡ statics_of x.declared
  pub answers : AnswerForClasses x
  pub calls : AnswerForCalls x
  pub known : IfSome x.known (KnowsTargets (program_in x))
