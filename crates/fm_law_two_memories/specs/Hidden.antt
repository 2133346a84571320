-- What linking makes sure of where texts are built and exceptions have messages.
use Rattle.std.specs.Prelude.{◌≡◌, ℕ, ◌≤◌, true, false, length, Some}
use Rattle.fm_base.specs.declared.kinds.Kind.TheVariants as kind
use Rattle.fm_base.specs.declared.kinds.TypeRef.{TypeRef}
use Rattle.fm_types.specs.Fits.{AreTree}
use Rattle.fm_world.specs.BuiltIns.{built_in}
use Rattle.fm_world.specs.Chains.{class_at}
use Rattle.fm_world.specs.Programs.{kind_at, Outline, Program}
use Rattle.fm_frames.specs.Runnable.{IsRunnable}
use Rattle.fm_frames.specs.Sights.{has_hidden_field}

-- Objects that have a hidden field have it first, and it is a reference: only built-in classes
-- bring one, and no class above them has a field.
abbrev pub HiddenComesFirst : Outline → Type 0
HiddenComesFirst o = (t : TypeRef) → has_hidden_field o t ≡ true → (text : TypeRef) × (kind_at o.classes t 0 ≡ Some (kind.Ref text))

-- no class of a file brings a hidden field
abbrev pub OwnHideNothing : Outline → Type 0
OwnHideNothing o = (class : ℕ) → length built_in ≤ class → (class_at o.classes class).hidden ≡ false

-- So it is first in each object that has one, where the classes are a tree below Object.
abbrev pub HiddenFieldsComeFirst : Type 0
HiddenFieldsComeFirst = (p : Program) → IsRunnable p → AreTree p.outline.classes → OwnHideNothing p.outline → HiddenComesFirst p.outline
