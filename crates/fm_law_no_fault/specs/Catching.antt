-- What linking makes sure of where exceptions are caught.
use Rattle.std.specs.Prelude.{◌≡◌, true}
use Rattle.fm_base.specs.declared.kinds.TypeRef.{TypeRef}
use Rattle.fm_types.specs.Fits.{fits_type}
use Rattle.fm_types.specs.Named.{throwable_type}
use Rattle.fm_world.specs.Chains.{is_sub}
use Rattle.fm_world.specs.Programs.{Program}

-- Nothing that fits Throwable is an interface: so what can be cast to such a type in the run fits it where states are checked.
abbrev pub CatchesFit : Program → Type 0
CatchesFit p =
    (t caught : TypeRef) → fits_type p.outline.classes caught (throwable_type p.outline) ≡ true → is_sub p.outline.classes t caught ≡ true
    → fits_type p.outline.classes t caught ≡ true
