-- The rows of objects, fields and casts (JVMS 6.5).
use Rattle.std.specs.Prelude.{ℕ, ◌+◌, ◌-◌, pos, List, [], ◌∷◌, codes, Option, Some, None, if◌then◌else◌}
use Rattle.fm_base.specs.declared.kinds.TypeRef.{TypeRef}
use Rattle.fm_world.specs.Chains.{is_sub}
use Rattle.fm_base.specs.Kinds.{kind_words}
use Rattle.fm_world.specs.Members.{field_at, slot_of}
use Rattle.fm_world.specs.Programs.{class_of_type, Outline}
use Rattle.fm_world.specs.declared.uses.Use.{Use}
pub use Rattle.fm_types.specs.Named.{kind_of_field}
use Rattle.fm_frames.specs.Effects.{Effect, OfOperand, OfPlace, OfStatic, Make, Put, SetStatic, words, acting, making, int_word, loaded, stuck}
use Rattle.fm_frames.specs.Operands.{on_held, on_object, size_of_type, thrown}
use Rattle.fm_frames.specs.Sights.{Sight}
use Rattle.fm_frames.specs.Uses.{on_field, on_type}

-- the class has to be started before all else
abbrev pub starting : ℕ → Effect → Effect
starting class effect = record effect { starts = Some class }

-- ---- objects

-- an object of a class is made, which starts the class before (JVMS 6.5.new); only classes have objects of this instruction
abbrev pub made_of : Outline → TypeRef → Option ℕ → Effect
made_of o t None = stuck
made_of o t (Some class) = starting class (making 0 (Make t (size_of_type o t) []))

-- what new does: the class is started first (JVMS 6.5)
unfoldable pub new_effect : Outline → Use → Effect
new_effect o u = on_type o u (λ t. made_of o t (class_of_type t))

-- ---- fields

-- the class that declares a field
abbrev pub class_of_field : Outline → ℕ → ℕ
class_of_field o field = (field_at o.classes field).class

-- what getstatic does: the class that declares the field is started first (JVMS 6.5)
unfoldable pub get_static_effect : Outline → Use → Effect
get_static_effect o u = on_field o u read where
  read : ℕ → TypeRef → Effect
  read f named = starting (class_of_field o f) (words 0 (loaded (kind_of_field o f) (OfStatic (slot_of o.classes f))))

-- the value is the last of the words that are taken
unfoldable pub put_static_effect : Outline → Use → Effect
put_static_effect o u = on_field o u written where
  written : ℕ → TypeRef → Effect
  written f named =
      let kind = kind_of_field o f in
      let n = kind_words kind in
      starting (class_of_field o f) (acting n (SetStatic (slot_of o.classes f) kind (OfOperand (n - 1)) ∷ []))

-- what getfield does (JVMS 6.5)
unfoldable pub get_field_effect : Outline → Use → List Sight → Effect
get_field_effect o u s = on_field o u read where
  read : ℕ → TypeRef → Effect
  read f named =
      let kind = kind_of_field o f in
      on_object o named s 0 (λ it. words 1 (loaded kind (OfPlace 0 (slot_of o.classes f) kind)))

-- what putfield does (JVMS 6.5)
unfoldable pub put_field_effect : Outline → Use → List Sight → Effect
put_field_effect o u s = on_field o u written where
  written : ℕ → TypeRef → Effect
  written f named =
      let kind = kind_of_field o f in
      let n = kind_words kind in
      on_object o named s n (λ it. acting (n + 1) (Put (OfOperand n) (slot_of o.classes f) kind (OfOperand (n - 1)) ∷ []))

-- ---- casts, by the types of the run: null passes each cast, and is an instance of nothing

-- what checkcast does (JVMS 6.5)
unfoldable pub cast_effect : Outline → Use → List Sight → Effect
cast_effect o u s = on_type o u cast where
  cast : TypeRef → Effect
  cast t =
      on_held (words 0 []) s 0
      (λ it. if is_sub o.classes it.type t then words 0 [] else thrown o (codes "java/lang/ClassCastException"))

-- what instanceof does (JVMS 6.5)
unfoldable pub is_a_effect : Outline → Use → List Sight → Effect
is_a_effect o u s = on_type o u asked where
  asked : TypeRef → Effect
  asked t = on_held (words 1 (int_word (pos 0))) s 0 (λ it. words 1 (int_word (if is_sub o.classes it.type t then pos 1 else pos 0)))
