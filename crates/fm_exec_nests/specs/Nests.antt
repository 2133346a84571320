-- What the row of multianewarray requires of the state (JVMS 6.5.multianewarray).
use Rattle.std.specs.Prelude.{◌≡◌, ℕ, ◌+◌, ◌^◌, ◌<◌, ◌≤◌, Some, slice_get}
use Rattle.fm_base.specs.declared.kinds.TypeRef.{TypeRef}
use Rattle.fm_exec.specs.Steps.{seen}
use Rattle.fm_frames.specs.ArrayRows.{multi_array_effect}
use Rattle.fm_frames.specs.States.{State}
use Rattle.fm_frames.specs.Steps.{objects_made}
use Rattle.fm_world.specs.Programs.{Program}
use Rattle.fm_world.specs.declared.uses.Use.TheVariants as used

-- how many arrays the instruction makes
abbrev pub nested : Program → State → (type dimensions : ℕ) → ℕ
nested p x type dimensions = objects_made (multi_array_effect p.outline (used.OfType (record { 0 = type })) dimensions (seen p x)).actions

-- at least one dimension of the type is made, and no more than the type has; each array can be numbered, and its step counted
pub record NestFits (p : Program) (x : State) (type dimensions : ℕ) : Type 0 where
  pub some : 0 < dimensions
  pub deep : (t : TypeRef) → slice_get p.outline.types type ≡ Some t → dimensions ≤ t.dims
  pub births : x.areas.store.births + nested p x type dimensions < 2 ^ 32
  pub steps : x.steps + nested p x type dimensions < 2 ^ 64
