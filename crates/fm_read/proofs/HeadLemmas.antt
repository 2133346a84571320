-- The head of a class file: what is read is what the bytes begin with, and a head is read.
use Rattle.std.proofs.Common.{◌≡◌, ◌≢◌, ℕ, eqb, List, ◌++◌, length, take, drop, Option, Some, None, refl, sym, ap, subst, ◌∙◌, append_assoc, arith}
use Rattle.std.proofs.lemmas.Bool.{eqb-true}
use Rattle.std.proofs.lemmas.List.{take_at, take-append-drop, length-append}
use Rattle.fm_base.proofs.OptionFacts.{cond-some_then}
use Rattle.fm_code.specs.ClassBytes.{magic}
use Rattle.fm_code.specs.Fits.{AreBytes}
use Rattle.fm_code.specs.Numbers.{two, four}
use Rattle.fm_code.specs.Profile.{HasVersion, HasOtherVersion, IsAcceptedVersion}
use Rattle.fm_code.proofs.Bytes.{length-two, magic_bytes}
use Rattle.fm_code.proofs.Pieces.{after_piece, some_is, Takes-then, two_piece, four_piece}
use Rattle.fm_code.specs.inner.Reading.{Fails}
use Rattle.fm_read.specs.inner.Head.{head_bytes, HasHead, head_at, VersionFits}
use Rattle.fm_code.specs.declared.class_file.TheConstants.{MAGIC}
use Rattle.fm_code.specs.declared.error.PieceFail.{PieceFail}
use Rattle.fm_code.specs.declared.error.PieceFail.TheVariants as fail
use Rattle.fm_read.specs.declared.head.Version.{Version}

-- what is read is what the bytes begin with
pub has_head : (bytes : List ℕ) (v : Version) (rest : List ℕ) → AreBytes bytes → head_at bytes ≡ Some (v, rest) → HasHead bytes v rest
unfolding head_at
has_head bytes v rest fits e =
    after_piece four_piece bytes _ (v, rest) fits e λ number a t0 number_fits e0.
    after_piece two_piece a _ (v, rest) t0.rest_fits e0 λ minor c t1 minor_fits e1.
    after_piece two_piece c _ (v, rest) t1.rest_fits e1 λ major d t2 major_fits e2.
    let made : Version = record { major = major; minor = minor } in
    let tested = cond-some_then (eqb number MAGIC) (Some (made, d)) (v, rest) e2 in
    let same = some_is (made, d) (v, rest) tested.1 in
    let number_is : four number ≡ magic = ap four (eqb-true _ _ tested.0) ∙ magic_bytes in
    let version = Takes-then a (two minor) c (two major) d t1 t2 in
    let all = Takes-then bytes (four number) a (two minor ++ two major) d t0 version in
    subst (λ (x : Version × List ℕ). HasHead bytes x.0 x.1) same (record {
      bytes_are = all.parts ∙ ap (λ (w : List ℕ). (w ++ (two minor ++ two major)) ++ d) number_is;
      fits = record { major = major_fits; minor = minor_fits };
    })

-- a head is read
pub head_again : (v : Version) (rest : List ℕ) → VersionFits v → head_at (head_bytes v ++ rest) ≡ Some (v, rest)
unfolding head_at
head_again v rest fits =
    let after_minor = two v.major ++ rest in
    let after_magic = two v.minor ++ after_minor in
    let regrouped : head_bytes v ++ rest ≡ four MAGIC ++ (two v.minor ++ (two v.major ++ rest)) = rw magic_bytes (simp append_assoc) in
    ap head_at regrouped
    ∙ rw (four_piece.again MAGIC after_magic (omega arith), two_piece.again v.minor after_minor fits.minor, two_piece.again v.major rest fits.major) refl

-- a version that the bytes begin with is read
pub is_told : (bytes : List ℕ) (major minor : ℕ) → HasVersion bytes major minor → head_at bytes ≡ Some (record { major = major; minor = minor }, drop 8 bytes)
is_told bytes major minor has =
    let v : Version = record { major = major; minor = minor } in
    let parts : bytes ≡ head_bytes v ++ drop 8 bytes = sym (take-append-drop 8 bytes) ∙ ap (λ (w : List ℕ). w ++ drop 8 bytes) has.head in
    ap head_at parts ∙ head_again v (drop 8 bytes) (record { major = has.major_fits; minor = has.minor_fits })

pub length-head_bytes : (v : Version) → length (head_bytes v) ≡ 8
length-head_bytes v = omega (arith, length-append (two v.minor) (two v.major), length-two v.minor, length-two v.major)

-- and what is read is a version
pub has_version : (bytes : List ℕ) (v : Version) (rest : List ℕ) → HasHead bytes v rest → HasVersion bytes v.major v.minor
has_version bytes v rest head = record {
  major_fits = head.fits.major;
  minor_fits = head.fits.minor;
  head = ap (take 8) head.bytes_are ∙ take_at (head_bytes v) rest 8 (length-head_bytes v);
}

-- where nothing is read, the bytes begin with no version
pub none_told : (bytes : List ℕ) (major minor : ℕ) → head_at bytes ≡ None → HasVersion bytes major minor → ⊥
none_told bytes major minor e has = let read = is_told bytes major minor has in cc

-- a reading that fails for another reason than memory gives nothing
pub nothing_read : {Y : Type 0} (f : PieceFail) (reading : Option Y) → Fails f reading → f ≢ fail.NoMemory → reading ≡ None
nothing_read fail.Malformed reading nothing other = nothing
nothing_read fail.NoMemory reading nothing other = absurd (other refl)

-- the bytes begin with one version alone
pub same_version : (bytes : List ℕ) (v : Version) (rest : List ℕ) (major minor : ℕ) → head_at bytes ≡ Some (v, rest) → HasVersion bytes major minor → v ≡ record { major = major; minor = minor }
same_version bytes v rest major minor e has =
    let told : Version = record { major = major; minor = minor } in
    ap (λ (x : Version × List ℕ). x.0) (some_is (v, rest) (told, drop 8 bytes) (sym e ∙ is_told bytes major minor has))

pub is_other : (bytes : List ℕ) (v : Version) (rest : List ℕ) → AreBytes bytes → head_at bytes ≡ Some (v, rest) → (IsAcceptedVersion v.major v.minor → ⊥) → HasOtherVersion bytes v.major v.minor
is_other bytes v rest fits e other = record { version = has_version bytes v rest (has_head bytes v rest fits e); other = other }
