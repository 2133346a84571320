-- Bytes are refused with one status, and not where they are taken.
use Rattle.std.proofs.Common.{◌≡◌, ◌<◌, ◌≤◌, ℕ, List, [], ◌∷◌, ◌++◌, length, take, Option, Some, None, refl, sym, ap, ◌∙◌, subst, arith, append_assoc, length-append}
use Rattle.std.specs.List.{concat}
use Rattle.std.proofs.lemmas.List.{take_at}
use Rattle.fm_base.proofs.ListFacts.{same_parts}
use Rattle.fm_code.specs.ClassBytes.{magic, class_bytes, pool_bytes, counted, member_bytes, raw_bytes}
use Rattle.fm_code.specs.Numbers.{two}
use Rattle.fm_code.specs.Profile.{IsAcceptedVersion, HasVersion, HasOtherVersion, IsWithinLimits, IsSupported, Profile}
use Rattle.fm_code.specs.Spells.{Spells}
use Rattle.fm_code.specs.declared.class_file.ClassDef.{ClassDef}
use Rattle.fm_code.specs.declared.profile.What.{What}
use Rattle.fm_code.proofs.Bytes.{length-two, two_injective}
use Rattle.fm_code.proofs.ClassLaw.{one_record}
use Rattle.fm_code.proofs.ProfileLaws.{over_limit, unsupported}
use Rattle.fm_cli.specs.declared.command_refusal.CommandRefusal.TheVariants as refusal
use Rattle.fm_link_refusals.specs.Refused.{refusal_of}
use Rattle.fm_world.specs.Causes.{Refusal}
use Rattle.fm_load.specs.ClassRefusal.{IsOverLimit, IsUnsupported, IsRefusedAs, class_refusal_status}
use Rattle.fm_load.specs.LinkRefusal.{cause_line}
use Rattle.fm_load.specs.Refusal.{refusal_line}
use Rattle.fm_load.specs.declared.class_refusal.ClassRefusal.{ClassRefusal}
use Rattle.fm_load.specs.declared.class_refusal.ClassRefusal.TheVariants as refused
use Rattle.fm_load.specs.declared.refusal.JobRefusal.{JobRefusal}
use Rattle.fm_load.specs.declared.refusal.JobRefusal.TheVariants as job_refusal

-- ---- versions

-- the bytes of a class begin with the magic number and its version
class_head : (c : ClassDef) → take 8 (class_bytes c) ≡ magic ++ (two c.minor ++ two c.major)
unfolding class_bytes
class_head c =
    let rest : List ℕ = concat (pool_bytes c.pool ∷ two c.flags ∷ two c.this_class ∷ two c.super_class ∷ counted two c.interfaces ∷ counted member_bytes c.fields ∷ counted member_bytes c.methods ∷ counted raw_bytes c.attributes ∷ []) in
    let head : List ℕ = magic ++ (two c.minor ++ two c.major) in
    let split : class_bytes c ≡ head ++ rest = ap (λ (bytes : List ℕ). magic ++ bytes) (sym (append_assoc (two c.minor) (two c.major) rest)) in
    let size : length head ≡ 8 = omega (arith, length-append (two c.minor) (two c.major), length-two c.minor, length-two c.major) in
    ap (take 8) split ∙ take_at head rest 8 size

-- so they have no other version
pub one_version : (bytes : List ℕ) (c : ClassDef) (major minor : ℕ) → Spells bytes c → HasVersion bytes major minor → (c.major ≡ major) × (c.minor ≡ minor)
one_version bytes c major minor spells version =
    let heads : magic ++ (two c.minor ++ two c.major) ≡ magic ++ (two minor ++ two major) = sym (class_head c) ∙ ap (take 8) (sym spells.bytes_are) ∙ version.head in
    let both = (same_parts magic magic (two c.minor ++ two c.major) (two minor ++ two major) refl heads).1 in
    let parts = same_parts (two c.minor) (two minor) (two c.major) (two major) (length-two c.minor ∙ sym (length-two minor)) both in
    (two_injective c.major major spells.fits.major version.major_fits parts.1, two_injective c.minor minor spells.fits.minor version.minor_fits parts.0)

not_other : (bytes : List ℕ) (c : ClassDef) (major minor : ℕ) → HasOtherVersion bytes major minor → Spells bytes c → IsAcceptedVersion c.major c.minor → ⊥
not_other bytes c major minor other spells accepted =
    let same = one_version bytes c major minor spells other.version in
    let P : ℕ → ℕ → Type 0 = IsAcceptedVersion in
    other.other (subst (λ M. P M minor) same.0 (subst (λ m. P c.major m) same.1 accepted))

-- ---- refusals

-- a class with a count above its limit has no first place that isn't supported
over_or_within : (bytes : List ℕ) (c d : ClassDef) (kind : What) (name : List ℕ) (count : ℕ) (other : List ℕ) (offset : ℕ) → Spells bytes c → Spells bytes d → IsOverLimit c kind name count → IsUnsupported d other offset → ⊥
over_or_within bytes c d kind name count other offset first second over place =
    over_limit c _ over.first (subst IsWithinLimits (one_record bytes d c second first) place.limits)

-- bytes are refused with one status
pub one_status : (bytes : List ℕ) (r s : ClassRefusal) → IsRefusedAs bytes r → IsRefusedAs bytes s → class_refusal_status r ≡ class_refusal_status s
one_status bytes refused.Malformed refused.Malformed p q = refl
one_status bytes refused.Malformed (refused.Version major minor) p q = absurd (p.no_other_version major minor q)
one_status bytes refused.Malformed (refused.Limit kind name count) p q = absurd (p.not_spelled q.0 q.1)
one_status bytes refused.Malformed (refused.Unsupported name offset) p q = absurd (p.not_spelled q.0 q.1)
one_status bytes (refused.Version major minor) refused.Malformed p q = absurd (q.no_other_version major minor p)
one_status bytes (refused.Version major minor) (refused.Version other_major other_minor) p q = refl
one_status bytes (refused.Version major minor) (refused.Limit kind name count) p q = absurd (not_other bytes q.0 major minor p q.1 q.2)
one_status bytes (refused.Version major minor) (refused.Unsupported name offset) p q = absurd (not_other bytes q.0 major minor p q.1 q.2)
one_status bytes (refused.Limit kind name count) refused.Malformed p q = absurd (q.not_spelled p.0 p.1)
one_status bytes (refused.Limit kind name count) (refused.Version major minor) p q = absurd (not_other bytes p.0 major minor q p.1 p.2)
one_status bytes (refused.Limit kind name count) (refused.Limit other_kind other_name other_count) p q = refl
one_status bytes (refused.Limit kind name count) (refused.Unsupported other_name offset) p q = absurd (over_or_within bytes p.0 q.0 kind name count other_name offset p.1 q.1 p.3 q.3)
one_status bytes (refused.Unsupported name offset) refused.Malformed p q = absurd (q.not_spelled p.0 p.1)
one_status bytes (refused.Unsupported name offset) (refused.Version major minor) p q = absurd (not_other bytes p.0 major minor q p.1 p.2)
one_status bytes (refused.Unsupported name offset) (refused.Limit kind other_name count) p q = absurd (over_or_within bytes q.0 p.0 kind other_name count name offset q.1 p.1 q.3 p.3)
one_status bytes (refused.Unsupported name offset) (refused.Unsupported other_name other_offset) p q = refl

-- bytes that are refused spell no class of the profile
pub refused_not_taken : (bytes : List ℕ) (r : ClassRefusal) (c : ClassDef) → IsRefusedAs bytes r → Spells bytes c → Profile c → ⊥
refused_not_taken bytes refused.Malformed c p spells profile = p.not_spelled c spells
refused_not_taken bytes (refused.Version major minor) c p spells profile = not_other bytes c major minor p spells profile.version
refused_not_taken bytes (refused.Limit kind name count) c p spells profile =
    over_limit p.0 _ p.3.first (subst IsWithinLimits (one_record bytes c p.0 spells p.1) profile.limits)
refused_not_taken bytes (refused.Unsupported name offset) c p spells profile =
    unsupported p.0 _ p.3.first (subst IsSupported (one_record bytes c p.0 spells p.1) profile.supported)

-- ---- statuses

-- a class file is refused with a status from 66 to 69
pub record IsForClass (status : ℕ) : Type 0 where
  pub low : 66 ≤ status
  pub high : status ≤ 69

pub class_status : (r : ClassRefusal) → IsForClass (class_refusal_status r)
class_status refused.Malformed = record { low = omega arith; high = omega arith }
class_status (refused.Version major minor) = record { low = omega arith; high = omega arith }
class_status (refused.Limit kind name count) = record { low = omega arith; high = omega arith }
class_status (refused.Unsupported name offset) = record { low = omega arith; high = omega arith }

-- ---- lines

cause_some : (cause : Option Refusal) → 0 < length (cause_line cause)
cause_some None = omega arith
cause_some (Some refusal) = omega arith

-- the line of a refusal has bytes
pub refusal_some : (r : JobRefusal) → 0 < length (refusal_line r)
refusal_some (job_refusal.Shared refusal.Words) = omega arith
refusal_some (job_refusal.Shared (refusal.Read file)) = omega arith
refusal_some (job_refusal.Shared refusal.OutOfMemory) = omega arith
refusal_some (job_refusal.TooManyFiles count) = omega arith
refusal_some (job_refusal.TooManyArguments count) = omega arith
refusal_some (job_refusal.TooLong file) = omega arith
refusal_some (job_refusal.Class file refused.Malformed) = omega arith
refusal_some (job_refusal.Class file (refused.Version major minor)) = omega arith
refusal_some (job_refusal.Class file (refused.Limit kind name count)) = omega arith
refusal_some (job_refusal.Class file (refused.Unsupported name offset)) = omega arith
refusal_some (job_refusal.Link fail) = cause_some (refusal_of fail)
refusal_some (job_refusal.Check name) = omega arith
refusal_some (job_refusal.Write name) = omega arith
