-- The rows of objects, of their fields and of static fields (JVMS 6.5.new, 6.5.getfield and its like, 6.5.checkcast, 6.5.instanceof, 6.5.athrow).
use Rattle.std.specs.Prelude.{ℕ, ◌==◌, ◌&&◌, not, Bool, false, List, [], ◌∷◌, Option, Some, None, if◌then◌else◌}
use Rattle.std.specs.List.{list_any}
use Rattle.fm_base.specs.declared.kinds.Base.{Base}
use Rattle.fm_base.specs.declared.kinds.Base.TheVariants as base
use Rattle.fm_base.specs.declared.kinds.TypeRef.{TypeRef}
use Rattle.fm_code.specs.AccessFlags.{is_abstract, is_interface}
use Rattle.fm_types.specs.Fits.{fits, fits_type}
use Rattle.fm_types.specs.Named.{class_of_method, field_words, object_slot, on_field, on_type, this_class, throwable_type}
use Rattle.fm_types.specs.States.{int_word, is_uninit, pushed, replaced, TypeState, worked, worked_below}
use Rattle.fm_types.specs.declared.slots.Slot.{Slot}
use Rattle.fm_types.specs.declared.slots.Slot.TheVariants as slot
use Rattle.fm_world.specs.Chains.{class_at}
use Rattle.fm_world.specs.Members.{field_at}
use Rattle.fm_world.specs.Numbers.{type_of_class}
use Rattle.fm_world.specs.Programs.{Outline}
use Rattle.fm_world.specs.declared.declarations.DeclaredClass.{DeclaredClass}
use Rattle.fm_world.specs.declared.uses.Use.{Use}

-- ---- new objects

-- a class that is neither abstract nor an interface
abbrev pub has_objects : List DeclaredClass → Base → Bool
has_objects classes (base.OfClass c) = let flags = (class_at classes c.0).flags in not (is_abstract flags) && not (is_interface flags)
has_objects classes b = false

-- an object that this item made before may not be on the stack, and copies of it in locals are lost
unfoldable pub new_row : Outline → ℕ → Use → TypeState → Option TypeState
new_row o item u s = on_type o u made where
  made : TypeRef → Option TypeState
  made t =
      if (t.dims == 0) && has_objects o.classes t.base && not (list_any (is_uninit item) s.stack)
      then Some (record s { locals = replaced (is_uninit item) slot.Top s.locals; stack = slot.Uninit item ∷ s.stack })
      else None

-- ---- fields

-- the field's value is put on the stack (JVMS 6.5, getstatic)
unfoldable pub get_static_row : Outline → Use → TypeState → Option TypeState
get_static_row o u s = on_field o u (λ field named. Some (pushed (field_words o field) s))

-- a value that fits the field is taken (JVMS 6.5, putstatic)
unfoldable pub put_static_row : Outline → Use → TypeState → Option TypeState
put_static_row o u s = on_field o u (λ field named. worked o (field_words o field) [] s)

-- an object that fits the named type gives the field's value (JVMS 6.5, getfield)
unfoldable pub get_field_row : Outline → Use → TypeState → Option TypeState
get_field_row o u s = on_field o u (λ field named. worked o (slot.Ref named ∷ []) (field_words o field) s)

-- a receiver fits the type that is named; a constructor may put fields of its own class into its object before another constructor has returned
abbrev pub takes_field : Outline → ℕ → ℕ → TypeRef → Slot → Option (List Slot)
takes_field o method field named receiver = if passes receiver then Some [] else None where
  passes : Slot → Bool
  passes slot.UninitThis =
      ((field_at o.classes field).class == class_of_method o method) && fits_type o.classes (type_of_class (this_class o method)) named
  passes s = fits o s (slot.Ref named)

-- a value that fits the field is taken, and the receiver under it (JVMS 6.5, putfield)
unfoldable pub put_field_row : Outline → ℕ → Use → TypeState → Option TypeState
put_field_row o method u s = on_field o u (λ field named. worked_below o (field_words o field) (takes_field o method field named) s)

-- ---- tests of types, and throwing

-- an object becomes one of the type that is named (JVMS 6.5, checkcast)
unfoldable pub cast_row : Outline → Use → TypeState → Option TypeState
cast_row o u s = on_type o u (λ t. worked o (object_slot o ∷ []) (slot.Ref t ∷ []) s)

-- an object gives an int (JVMS 6.5, instanceof)
unfoldable pub is_a_row : Outline → Use → TypeState → Option TypeState
is_a_row o u s = on_type o u (λ t. worked o (object_slot o ∷ []) int_word s)

-- what is thrown is taken (JVMS 6.5, athrow)
unfoldable pub throw_row : Outline → TypeState → Option TypeState
throw_row o s = worked o (slot.Ref (throwable_type o) ∷ []) [] s
