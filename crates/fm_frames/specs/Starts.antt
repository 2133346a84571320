-- The start of classes (JVMS 5.5): what has to be done before an instruction that uses a class for the first time.
use Rattle.std.specs.Prelude.{ℕ, not, Bool, true, List, [], ◌∷◌, ◌++◌, filter, length, reverse, Option, Some, None, is_none, if◌then◌else◌}
use Rattle.std.specs.List.{filter_map, flat_map, range_with_len, slice_index_or}
use Rattle.fm_base.specs.Texts.{units}
use Rattle.fm_world.specs.Chains.{chain_of, class_at}
use Rattle.fm_world.specs.Members.{field_at, first_field, slot_of, start_of}
use Rattle.fm_world.specs.Numbers.{text_number}
use Rattle.fm_world.specs.Programs.{Outline}
use Rattle.fm_world.specs.declared.declarations.Constant.{Constant}
use Rattle.fm_world.specs.declared.declarations.Constant.TheVariants as constant
use Rattle.fm_frames.specs.Effects.{Effect, Plain, OfLiteral, Action, MakeLiteral, SetStatic, Start, Enters, nothing}
use Rattle.fm_frames.specs.ObjectRows.{kind_of_field}
use Rattle.fm_frames.specs.declared.values.Value.TheVariants as value

-- ---- which classes

-- built-in classes are always started
abbrev pub is_started : Outline → List Bool → ℕ → Bool
is_started o started class = if is_none (class_at o.classes class).file then true else slice_index_or started class true

-- the class and its superclasses that aren't started yet, the uppermost first; none of a built-in class, which starts nothing that completes it
abbrev pub to_start : Outline → List Bool → ℕ → List ℕ
to_start o started class =
    if is_none (class_at o.classes class).file then [] else filter (λ above. not (is_started o started above)) (reverse (chain_of o.classes class))

-- ---- the values of their static fields

-- a static field gets the value that its ConstantValue gives, a text by its literal
abbrev pub set_constant : Outline → ℕ → Option Constant → List Action
set_constant o field None = []
set_constant o field (Some (constant.Int n)) = SetStatic (slot_of o.classes field) (kind_of_field o field) (Plain (value.Int n)) ∷ []
set_constant o field (Some (constant.Long n)) = SetStatic (slot_of o.classes field) (kind_of_field o field) (Plain (value.Long n)) ∷ []
set_constant o field (Some (constant.Text text)) = of_number (text_number o.texts (units text)) where
  of_number : Option ℕ → List Action
  of_number None = []
  of_number (Some number) = MakeLiteral number ∷ SetStatic (slot_of o.classes field) (kind_of_field o field) (OfLiteral number) ∷ []

-- the fields of a class by number
abbrev pub fields_at : Outline → ℕ → List ℕ
fields_at o class = range_with_len (first_field o.classes class) (length (class_at o.classes class).fields)

-- a class counts as started, and its constants are put into its static fields (JVMS 5.5)
abbrev pub start_of_class : Outline → ℕ → List Action
start_of_class o class = Start class ∷ flat_map (λ field. set_constant o field (field_at o.classes field).field.value) (fields_at o class)

-- that of several classes, in their order
abbrev pub start_actions : Outline → List ℕ → List Action
start_actions o classes = flat_map (start_of_class o) classes

-- ---- the methods that start them

-- of classes the uppermost of which come first: their start methods in that order
abbrev pub start_methods : Outline → List ℕ → List ℕ
start_methods o classes = filter_map (start_of o.classes) classes

-- the effect after the classes are started: where one of them has a method that starts it, these run first, and the instruction is done by a later
-- step; where none has, the same step does the instruction
abbrev pub started_by : Outline → List ℕ → Effect → Effect
started_by o classes effect = by_methods (start_methods o classes) where
  by_methods : List ℕ → Effect
  by_methods [] = record effect { starts = None; actions = start_actions o classes ++ effect.actions }
  by_methods (m ∷ methods) = record nothing { actions = start_actions o classes; next = Enters (m ∷ methods) }

-- an effect with what its class's start makes of it
abbrev pub with_start : Outline → List Bool → Effect → Effect
with_start o started effect = of_class effect.starts where
  of_class : Option ℕ → Effect
  of_class None = effect
  of_class (Some class) = started_by o (to_start o started class) effect
