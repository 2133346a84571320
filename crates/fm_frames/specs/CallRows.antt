-- The rows of calls (JVMS 6.5.invokevirtual and its like).
use Rattle.std.specs.Prelude.{ℕ, ◌+◌, List, codes, Option, Some, None, option_and_then, unwrap_or, if◌then◌else◌}
use Rattle.fm_base.specs.declared.kinds.TypeRef.{TypeRef}
use Rattle.fm_types.specs.Fits.{object_of}
use Rattle.fm_types.specs.Named.{class_of_method}
use Rattle.fm_world.specs.Chains.{is_sub}
use Rattle.fm_world.specs.Descriptors.{argument_word_count}
use Rattle.fm_world.specs.Lookups.{select, special_target}
use Rattle.fm_world.specs.Members.{method_at}
use Rattle.fm_world.specs.Programs.{class_of_type, Outline}
use Rattle.fm_world.specs.declared.uses.Use.{Use}
use Rattle.fm_frames.specs.Effects.{Effect, Calls, going, stuck}
use Rattle.fm_frames.specs.NativeRows.{native_effect}
use Rattle.fm_frames.specs.Natives.{native_of_row}
use Rattle.fm_frames.specs.declared.natives.Native.{Native}
use Rattle.fm_frames.specs.ObjectRows.{starting}
use Rattle.fm_frames.specs.Operands.{on_any, on_object, on_receiver, thrown}
use Rattle.fm_frames.specs.Sights.{Sight, Looks}
use Rattle.fm_frames.specs.Uses.{on_method}

-- the words of a method's arguments without the receiver
abbrev pub words_of_arguments : Outline → ℕ → ℕ
words_of_arguments o method = argument_word_count o.classes (method_at o.classes method).method.descriptor

-- the row of a method, if it is built in
abbrev pub native_of : Outline → ℕ → Option Native
native_of o method = option_and_then native_of_row (method_at o.classes method).method.row

-- a built-in method does its row and makes no frame; another one takes its arguments
abbrev pub entered_as : Outline → ℕ → ℕ → Option ℕ → List Sight → Option Native → Effect
entered_as o words method byte s (Some row) = native_effect o row byte s
entered_as o words method byte s None = going words (Calls method)

-- the effect of entering a method, once it is known; none is known only of states that no typed program reaches
abbrev pub entered : Outline → ℕ → Option ℕ → Option ℕ → List Sight → Effect
entered o words None byte s = stuck
entered o words (Some method) byte s = entered_as o words method byte s (native_of o method)

-- the class in which a method is selected for an object; for an array that of Object
abbrev pub receiver_class : Outline → Looks → ℕ
receiver_class o it = unwrap_or (class_of_type it.type) (object_of o.classes)

-- what invokevirtual does (JVMS 6.5)
unfoldable pub virtual_effect : Outline → Use → Option ℕ → List Sight → Effect
virtual_effect o u byte s = on_method o u called where
  called : ℕ → TypeRef → Effect
  called m named =
      let a = words_of_arguments o m in
      on_object o named s a (λ it. entered o (a + 1) (select o.classes (receiver_class o it) m) byte s)

-- whether the object implements the interface is tested in the run
unfoldable pub interface_effect : Outline → Use → Option ℕ → List Sight → Effect
interface_effect o u byte s = on_method o u called where
  selected : ℕ → TypeRef → Looks → Effect
  selected m named it =
      if is_sub o.classes it.type named then entered o (words_of_arguments o m + 1) (select o.classes (receiver_class o it) m) byte s
      else thrown o (codes "java/lang/IncompatibleClassChangeError")

  called : ℕ → TypeRef → Effect
  called m named = on_any o s (words_of_arguments o m) (selected m named)

-- the receiver isn't looked at, but by a built-in method that is called
unfoldable pub special_effect : Outline → ℕ → Use → Option ℕ → List Sight → Effect
special_effect o method u byte s = on_method o u called where
  called : ℕ → TypeRef → Effect
  called m named =
      let a = words_of_arguments o m in
      on_receiver o s a
      (entered o (a + 1) (Some (special_target o.classes (class_of_method o method) (class_of_type named) m)) byte s)

-- the class that declares the method is started
unfoldable pub static_effect : Outline → Use → Option ℕ → List Sight → Effect
static_effect o u byte s = on_method o u called where
  called : ℕ → TypeRef → Effect
  called m named = starting (class_of_method o m) (entered o (words_of_arguments o m) (Some m) byte s)
