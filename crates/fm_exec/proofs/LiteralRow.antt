-- ldc of a text or of a class gives its literal, which is made where it isn't there.
use Rattle.std.proofs.Common.{◌≡◌, ℕ, refl}
use Rattle.fm_base.specs.declared.ids.TypeId.{TypeId}
use Rattle.fm_world.specs.Programs.{Outline}
use Rattle.fm_world.specs.declared.uses.Use.TheVariants as used
use Rattle.fm_frames.specs.Effects.{giving_literal}
use Rattle.fm_frames.specs.Literals.{class_literal}
use Rattle.fm_frames.specs.NumberRows.{constant_effect}

pub text-constant : (o : Outline) (text : ℕ) → constant_effect o (used.OfText text) ≡ giving_literal 0 text
unfolding constant_effect
text-constant o text = refl

pub class-constant : (o : Outline) (t : TypeId) → constant_effect o (used.OfType t) ≡ giving_literal 0 (class_literal o t.0)
unfolding constant_effect
class-constant o t = refl
