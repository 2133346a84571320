-- What a phase of linking returns: the first refusal of its kind, or nothing.
use Rattle.std.specs.Prelude.{◌≡◌, List, [], Result, Ok, Err, Option, Some, None, slice_get}
use Rattle.fm_link_refusals.specs.declared.error.LinkBad.{LinkBad}
use Rattle.fm_link_refusals.specs.declared.error.LinkFail.{LinkFail}
use Rattle.fm_link_refusals.specs.declared.error.LinkFail.TheVariants as fail
use Rattle.fm_world.specs.Causes.{Cause, Duplicate, BuiltIn, MissingClass, BadParent, MissingField, MissingMethod, NotImplemented, NoMain, Refusal}

-- the refusal of that cause
abbrev pub refusal_as : Cause → LinkBad → Refusal
refusal_as cause bad = record { cause = cause; name = bad.name; user = bad.user }

-- the refusal that an error is; want of memory is none
abbrev pub refusal_of : LinkFail → Option Refusal
refusal_of (fail.Duplicate bad) = Some (refusal_as Duplicate bad)
refusal_of (fail.BuiltIn bad) = Some (refusal_as BuiltIn bad)
refusal_of (fail.MissingClass bad) = Some (refusal_as MissingClass bad)
refusal_of (fail.BadParent bad) = Some (refusal_as BadParent bad)
refusal_of (fail.MissingField bad) = Some (refusal_as MissingField bad)
refusal_of (fail.MissingMethod bad) = Some (refusal_as MissingMethod bad)
refusal_of (fail.NotImplemented bad) = Some (refusal_as NotImplemented bad)
refusal_of (fail.NoMain bad) = Some (refusal_as NoMain bad)
refusal_of fail.NoMemory = None

-- the first of the refusals, where there is to be one
abbrev pub IsFirst : List Refusal → Option Refusal → Type 0
IsFirst refusals None = Unit {0}
IsFirst refusals (Some refusal) = slice_get refusals 0 ≡ Some refusal

-- Ok where nothing is refused, and else the first refusal; want of memory may come at any place
abbrev pub Refuses : {X : Type 0} → List Refusal → Result X LinkFail → Type 0
Refuses refusals (Ok x) = refusals ≡ []
Refuses refusals (Err e) = IsFirst refusals (refusal_of e)
