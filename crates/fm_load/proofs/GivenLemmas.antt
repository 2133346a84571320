-- The classes that are given: those of files, or the one that is made.
use Rattle.std.proofs.Common.{◌≡◌, ◌≤◌, ℕ, ◌+◌, List, [], ◌∷◌, ◌++◌, length, length-append, Option, Some, None, IfSome, ap, sym, ◌∙◌, subst, arith}
use Rattle.std.specs.List.{AllByRecursion}
use Rattle.fm_base.proofs.ListFacts.{AllByRecursion-append}
use Rattle.fm_base.specs.declared.limits.TheConstants.{MAX_CLASS_FILES, MAX_FILE_BYTES}
use Rattle.fm_files.specs.Files.{Bytes, Contents}
use Rattle.fm_code.specs.ClassBytes.{class_bytes}
use Rattle.fm_code.specs.Profile.{Profile}
use Rattle.fm_code.specs.declared.class_file.ClassDef.{ClassDef}
use Rattle.fm_gen.proofs.SpelledLemmas.{made_accepted, made_short, made_spelled}
use Rattle.fm_gen.specs.Made.{made}
use Rattle.fm_load.proofs.KnownLemmas.{all_taken}
use Rattle.fm_load.proofs.ReadLemmas.{returned_of_first, same_number}
use Rattle.fm_load.proofs.VerdictLemmas.{Ends, EndsOnce, Passes}
use Rattle.fm_load.specs.Given.{AreGiven, Given, made_classes}
use Rattle.fm_load.specs.Returned.{returned}
use Rattle.fm_load.specs.Taking.{AreTaken, ClassIsSpelled, IsTaken}

-- ---- what holds of each

taken_all : (P : ClassDef → Type 0) → ((contents : Contents) (file : Bytes) (c : ClassDef) → IsTaken contents file c → P c) → (contents : Contents) (files : List Bytes) (classes : List ClassDef)
    → AreTaken contents files classes → AllByRecursion P classes
taken_all P holds contents [] [] taken = tt
taken_all P holds contents (f ∷ files) (c ∷ classes) taken = (holds contents f c taken.0, taken_all P holds contents files classes taken.1)
taken_all P holds contents [] (c ∷ classes) taken = absurd taken
taken_all P holds contents (f ∷ files) [] taken = absurd taken

made_all : (P : ClassDef → Type 0) → ((n : ℕ) → n ≤ 100 → P (made n)) → (files : List Bytes) (number : Option ℕ) → IfSome number (λ n. (1 ≤ n) × (n ≤ 100) × (files ≡ []))
    → AllByRecursion P (made_classes number)
made_all P holds files None alone = tt
made_all P holds files (Some n) alone = (holds n alone.1, tt)

pub given_all : (P : ClassDef → Type 0) → ((contents : Contents) (file : Bytes) (c : ClassDef) → IsTaken contents file c → P c) → ((n : ℕ) → n ≤ 100 → P (made n))
    → {given : Given} {contents : Contents} {classes : List ClassDef} → AreGiven given contents classes → AllByRecursion P classes
given_all P of_file of_number {given} {contents} {classes} are =
    subst (AllByRecursion P) (sym are.classes_are)
    (AllByRecursion-append P are.read (made_classes given.made) (taken_all P of_file contents given.files are.read are.taken.taken) (made_all P of_number given.files given.made are.alone))

-- they are spelled, accepted, and no longer than a file may be
pub given_spelled : {given : Given} {contents : Contents} {classes : List ClassDef} → AreGiven given contents classes → AllByRecursion ClassIsSpelled classes
given_spelled = given_all ClassIsSpelled (λ contents file c taken. taken.spelled) made_spelled

pub given_accepted : {given : Given} {contents : Contents} {classes : List ClassDef} → AreGiven given contents classes → AllByRecursion Profile classes
given_accepted = given_all Profile (λ contents file c taken. taken.profile) made_accepted

pub given_short : {given : Given} {contents : Contents} {classes : List ClassDef} → AreGiven given contents classes → AllByRecursion (λ c. length (class_bytes c) ≤ MAX_FILE_BYTES) classes
given_short = given_all (λ c. length (class_bytes c) ≤ MAX_FILE_BYTES) (λ contents file c taken. taken.short) made_short

-- and not too many
pub given_few : {given : Given} {contents : Contents} {classes : List ClassDef} → AreGiven given contents classes → length classes ≤ MAX_CLASS_FILES
given_few {given} {contents} {classes} are =
    let number = same_number contents given.files are.read are.taken.taken in
    let both = by given.files are.read given.made are.alone are.taken.few number in
    let size = ap length are.classes_are in
    omega arith
  where
    by : (files : List Bytes) (read : List ClassDef) (number : Option ℕ) → IfSome number (λ n. (1 ≤ n) × (n ≤ 100) × (files ≡ [])) → length files ≤ MAX_CLASS_FILES
        → length read ≡ length files → length (read ++ made_classes number) ≤ MAX_CLASS_FILES
    by files read None alone few same = omega (arith, length-append read [])
    by files read (Some n) alone few same = let none = ap length alone.2 in omega (arith, length-append read (made n ∷ []))

-- what the reads of the files returned is what the classes begin with
pub given_returned : (contents : Contents) (files : List Bytes) (read classes : List ClassDef) (number : Option ℕ) → AreTaken contents files read → classes ≡ read ++ made_classes number
    → returned files read ≡ returned files classes
given_returned contents files read classes number taken are =
    let same = same_number contents files read taken in
    sym (returned_of_first files read (made_classes number) (omega arith)) ∙ ap (returned files) (sym are)

-- ---- verdicts

-- the outcome of classes of files, with the one that is made behind them
abbrev pub Behind : Option ℕ → Ends → Ends
Behind number Last read status = Last (read ++ made_classes number) status

pub behind_once : (number : Option ℕ) (Last : Ends) → EndsOnce Last → EndsOnce (Behind number Last)
behind_once number Last once read = once (read ++ made_classes number)

pub behind : (Last : Ends) {given : Given} {contents : Contents} {classes : List ClassDef} (are : AreGiven given contents classes) (status : ℕ) → Last classes status
    → Behind given.made Last are.read status
behind Last are status = subst (λ (cs : List ClassDef). Last cs status) are.classes_are

-- classes that are given pass, where contents are known
pub given_passes : (Last : Ends) {given : Given} {contents : Contents} {classes : List ClassDef} (held : Bytes → Option Bytes) → contents ≡ Some held → AreGiven given contents classes → (status : ℕ)
    → Last classes status → Passes (Behind given.made Last) held given.files status
given_passes Last {given} {contents} {classes} held known are status last = record {
  classes = are.read;
  taken = all_taken given.files contents held known are.read are.taken;
  last = behind Last are status last;
}

-- the number of the class that is made is within its limits
pub number_within : (files : List Bytes) (number : Option ℕ) → IfSome number (λ n. (1 ≤ n) × (n ≤ 100) × (files ≡ [])) → IfSome number (λ n. (1 ≤ n) × (n ≤ 100))
number_within files None alone = tt
number_within files (Some n) alone = (alone.0, alone.1)
