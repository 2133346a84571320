-- What invokespecial calls.
use Rattle.std.specs.Prelude.{◌≡◌, ℕ, ◌+◌, ◌<◌, length}
use Rattle.fm_base.specs.declared.ids.MethodId.{MethodId}
use Rattle.fm_base.specs.declared.ids.TypeId.{TypeId}
use Rattle.fm_frames.specs.CallRows.{words_of_arguments}
use Rattle.fm_frames.specs.Sights.{type_numbered}
use Rattle.fm_types.specs.Named.{class_of_method}
use Rattle.fm_world.specs.Lookups.{special_target}
use Rattle.fm_world.specs.Programs.{class_of_type, Outline}

-- in a method, the caller, it calls the target for a method that it names, whose arguments with the receiver are this many words (JVMS 6.5.invokespecial)
pub record IsSpecial (o : Outline) (caller : ℕ) (m : MethodId) (named : TypeId) (words target : ℕ) : Type 0 where
  pub named_inside : named.0 < length o.types
  pub words_are : words ≡ words_of_arguments o m.0 + 1
  pub target_is : target ≡ special_target o.classes (class_of_method o caller) (class_of_type (type_numbered o named.0)) m.0
