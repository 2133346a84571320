-- What is known of class files as their verdict, where contents are known.
use Rattle.std.proofs.Common.{◌≡◌, ℕ, inl, inr, List, [], Option, Some, None, IsSomeAnd, refl, sym, subst}
use Rattle.std.specs.List.{slice_get}
use Rattle.fm_base.proofs.OptionFacts.{IsSomeAnd-weaker}
use Rattle.fm_files.specs.Files.{Bytes, Contents}
use Rattle.fm_code.specs.declared.class_file.ClassDef.{ClassDef}
use Rattle.fm_cli.specs.declared.status.TheConstants.{READ, LIMIT}
use Rattle.fm_check_program.specs.Untyped.{AreTyped}
use Rattle.fm_world.specs.Causes.{Refusal}
use Rattle.fm_world.specs.Programs.{Program}
use Rattle.fm_load.specs.ClassRefusal.{class_refusal_status}
use Rattle.fm_load.specs.Given.{IsFirstUntypedName}
use Rattle.fm_load.specs.Taking.{total_bytes, AllTaken, Reaches, IsTooLong, IsRefused}
use Rattle.fm_load.specs.declared.class_refusal.ClassRefusal.{ClassRefusal}
use Rattle.fm_load.proofs.VerdictLemmas.{FailsAs, Stops}

-- not each method is typed where one isn't
pub not_typed : (p : Program) (name : Bytes) → IsFirstUntypedName p name → ¬ AreTyped p
not_typed p name found typed = found.first.untyped.untyped (typed found.method found.first.untyped.coded)

-- a list that has a first refusal isn't empty
pub not_empty : (rs : List Refusal) (cause : Refusal) → slice_get rs 0 ≡ Some cause → ¬ (rs ≡ [])
not_empty rs cause first empty = let P : List Refusal → Type 0 = λ xs. slice_get xs 0 ≡ Some cause in let none = subst P empty first in cc

module _ (files : List Bytes) (contents : Contents) (held : Bytes → Option Bytes) (known : contents ≡ Some held) where
  pub reached : (file : Bytes) (before : List ClassDef) → Reaches contents files file before → Reaches (Some held) files file before
  reached file before = let P : Contents → Type 0 = λ c. Reaches c files file before in subst P known

  pub all_taken : (classes : List ClassDef) → AllTaken contents files classes → AllTaken (Some held) files classes
  all_taken classes = let P : Contents → Type 0 = λ c. AllTaken c files classes in subst P known

  -- a file that isn't there, is too long or refused
  pub missing_stops : (file : Bytes) (before : List ClassDef) → Reaches contents files file before → held file ≡ None → Stops held files READ
  missing_stops file before reaches missing = record {
    file = file;
    before = before;
    reaches = reached file before reaches;
    fails = inl (missing, refl);
  }

  pub long_stops : (file : Bytes) (before : List ClassDef) → Reaches contents files file before → IsSomeAnd (held file) (IsTooLong (total_bytes before)) → Stops held files LIMIT
  long_stops file before reaches long = record {
    file = file;
    before = before;
    reaches = reached file before reaches;
    fails = inr (IsSomeAnd-weaker (held file) (IsTooLong (total_bytes before)) (FailsAs LIMIT (total_bytes before)) (λ bytes is. inl (is, refl)) long);
  }

  pub bytes_stop : (status : ℕ) (file : Bytes) (before : List ClassDef) (r : ClassRefusal) → class_refusal_status r ≡ status → Reaches contents files file before →
      IsSomeAnd (held file) (IsRefused r (total_bytes before)) → Stops held files status
  bytes_stop status file before r is reaches refused = record {
    file = file;
    before = before;
    reaches = reached file before reaches;
    fails = inr (IsSomeAnd-weaker (held file) (IsRefused r (total_bytes before)) (FailsAs status (total_bytes before)) (λ bytes bad. inr (r, bad, sym is)) refused);
  }
