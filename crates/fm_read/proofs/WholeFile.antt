-- A class file has its version, and no second one.
use Rattle.std.proofs.Common.{◌≡◌, ℕ, List, ◌++◌, drop, take, Some, refl, sym, ap, subst, ◌∙◌, append_assoc}
use Rattle.std.proofs.lemmas.List.{take_at}
use Rattle.fm_code.specs.ClassBytes.{pool_bytes}
use Rattle.fm_code.specs.Profile.{HasVersion, HasOtherVersion, IsAcceptedVersion, IsMalformed}
use Rattle.fm_code.specs.Spells.{Spells}
use Rattle.fm_code.specs.declared.class_file.ClassDef.{ClassDef}
use Rattle.fm_code.proofs.Pieces.{some_is}
use Rattle.fm_read.specs.declared.error.ReadFail.{ReadFail}
use Rattle.fm_read.specs.declared.error.ReadFail.TheVariants as read
use Rattle.fm_read.specs.declared.head.Version.{Version}
use Rattle.fm_read.specs.inner.Head.{head_bytes}
use Rattle.fm_read.specs.inner.Parts.{raw_of_class}
use Rattle.fm_read.proofs.HeadLemmas.{is_told, length-head_bytes}
use Rattle.fm_read.proofs.PartsPieces.{raw_body_bytes}
use Rattle.fm_read.proofs.RecordParts.{class_spelled}
use Rattle.fm_read.proofs.WholeClass.{version_of}

-- a class file begins with its version
pub tells_version : (bytes : List ℕ) (c : ClassDef) → Spells bytes c → HasVersion bytes c.major c.minor
tells_version bytes c spells =
    let after = pool_bytes c.pool ++ raw_body_bytes (raw_of_class c) in
    let own : bytes ≡ head_bytes (version_of c) ++ after = spells.bytes_are ∙ (class_spelled c ∙ simp append_assoc) in
    record {
      major_fits = spells.fits.major;
      minor_fits = spells.fits.minor;
      head = ap (take 8) own ∙ take_at (head_bytes (version_of c)) after 8 (length-head_bytes (version_of c));
    }

-- bytes begin with one version alone
one_version : (bytes : List ℕ) (major minor : ℕ) (v : Version) → HasVersion bytes major minor → HasVersion bytes v.major v.minor → record { major = major; minor = minor } ≡ v
one_version bytes major minor v first second =
    let told : Version = record { major = major; minor = minor } in
    let both : Some (told, drop 8 bytes) ≡ Some (v, drop 8 bytes) = sym (is_told bytes major minor first) ∙ is_told bytes v.major v.minor second in
    ap (λ (x : Version × List ℕ). x.0) (some_is (told, drop 8 bytes) (v, drop 8 bytes) both)

-- so a class file of an accepted version begins with no other one
pub no_other_version : (bytes : List ℕ) (c : ClassDef) (major minor : ℕ) → Spells bytes c → IsAcceptedVersion c.major c.minor → HasOtherVersion bytes major minor → ⊥
no_other_version bytes c major minor spells accepted other =
    let same = one_version bytes major minor (version_of c) other.version (tells_version bytes c spells) in
    other.other (subst (λ (v : Version). IsAcceptedVersion v.major v.minor) (sym same) accepted)

-- a class file whose head isn't taken lacks memory
pub only_no_memory : (bytes : List ℕ) (c : ClassDef) (e : ReadFail) → (e ≡ read.Malformed → (major minor : ℕ) → HasVersion bytes major minor → ⊥) → ((major minor : ℕ) → e ≡ read.Version major minor → HasOtherVersion bytes major minor) →
    Spells bytes c → IsAcceptedVersion c.major c.minor → e ≡ read.NoMemory
only_no_memory bytes c read.Malformed malformed version spells accepted = absurd (malformed refl c.major c.minor (tells_version bytes c spells))
only_no_memory bytes c (read.Version major minor) malformed version spells accepted = absurd (no_other_version bytes c major minor spells accepted (version major minor refl))
only_no_memory bytes c read.NoMemory malformed version spells accepted = refl

-- where there is no version, there is no class file
pub is_malformed : (bytes : List ℕ) → ((major minor : ℕ) → HasVersion bytes major minor → ⊥) → IsMalformed bytes
is_malformed bytes none = record {
  not_spelled = λ c spells. none c.major c.minor (tells_version bytes c spells);
  no_other_version = λ major minor other. none major minor other.version;
}
