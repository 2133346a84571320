-- What rows see of references that fit, and which effects are no faults.
use Rattle.std.specs.Prelude.{◌≡◌, Bool, true}
use Rattle.fm_base.specs.declared.kinds.TypeRef.{TypeRef}
use Rattle.fm_frames.specs.Effects.{Next, Faults}
use Rattle.fm_frames.specs.Sights.{Gone, Null, Sight, Thing, Word}

-- null, or an object of a type that passes the test: a cell that isn't held is never seen
abbrev pub SeesA : (TypeRef → Bool) → Sight → Type 0
SeesA test (Word v) = ⊥
SeesA test Null = Unit {0}
SeesA test (Thing it) = test it.type ≡ true
SeesA test Gone = ⊥

-- something else than a fault comes next
abbrev pub IsNoFault : Next → Type 0
IsNoFault (Faults s) = ⊥
IsNoFault next = Unit {0}
