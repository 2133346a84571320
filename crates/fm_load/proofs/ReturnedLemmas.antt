-- What the reads of a call returned decides as known contents do that hold it.
use Rattle.std.proofs.Common.{◌≡◌, List, [], ◌∷◌, ◌++◌, length, take, Option, Some, None, IfSome, IsSomeAnd, append-nil, refl, sym, ap, ◌∙◌, subst}
use Rattle.std.specs.List.{AllByRecursion}
use Rattle.std.proofs.lemmas.List.{append_cancel_left}
use Rattle.fm_files.specs.Files.{Bytes, Call, Contents, Disk}
use Rattle.fm_code.specs.ClassBytes.{class_bytes}
use Rattle.fm_code.specs.declared.class_file.ClassDef.{ClassDef}
use Rattle.fm_cli.proofs.OutsideLemmas.{known_such}
use Rattle.fm_cli.specs.declared.status.TheConstants.{LIMIT}
use Rattle.fm_load.proofs.GivenLemmas.{given_returned}
use Rattle.fm_load.proofs.KnownLemmas.{bytes_stop, long_stops}
use Rattle.fm_load.proofs.VerdictLemmas.{Stops}
use Rattle.fm_load.specs.ClassRefusal.{class_refusal_status}
use Rattle.fm_load.specs.Given.{AreGiven, Given, IsLong, IsRefusedFile, IsUnread}
use Rattle.fm_load.specs.Returned.{ReadsAs, ReadsFirst, ReadsFrom, ReturnsHeld, returned}
use Rattle.fm_load.specs.Taking.{AreTaken, IsRefused, IsTaken, IsTooLong, Reaches, total_bytes}
use Rattle.fm_load.specs.declared.class_refusal.ClassRefusal.{ClassRefusal}

-- reads of these files that returned the bytes of these classes are the first of themselves
pub reads_first : (files : List Bytes) (classes : List ClassDef) (old new : Disk) → ReadsAs files classes old new → ReadsFirst files classes old new
reads_first files classes old new is = ([], is ∙ ap (λ (calls : List Call). old.reads ++ calls) (sym (append-nil (returned files classes))))

-- what an outcome says of class files holds over these contents too: of all that are given, of one that is too long, and of one that is refused
pub record IsSeen (these : Given) (held : Bytes → Option Bytes) (old new : Disk) : Type 0 where
  pub given : (classes : List ClassDef) → AreGiven these old.contents classes → ReadsFirst these.files classes old new → AreGiven these (Some held) classes
  pub long : (file : Bytes) → IsLong these.files file old new → Stops held these.files LIMIT
  pub refused : (file : Bytes) (r : ClassRefusal) → IsRefusedFile these.files file r old new → Stops held these.files (class_refusal_status r)

-- so it does where these are known
pub known_seen : (these : Given) (held : Bytes → Option Bytes) (old new : Disk) → old.contents ≡ Some held → IsSeen these held old new
known_seen these held old new known = record {
  given = λ classes are reads. let P : Contents → Type 0 = λ c. AreGiven these c classes in subst P known are;
  long = λ file is.
      long_stops these.files old.contents held known file is.before is.reaches (known_such old.contents held file (IsTooLong (total_bytes is.before)) known is.long);
  refused = λ file r is.
      bytes_stop these.files old.contents held known (class_refusal_status r) file is.before r refl is.reaches
      (known_such old.contents held file (IsRefused r (total_bytes is.before)) known is.refused);
}

module _ (held : Bytes → Option Bytes) where
  -- a class that is taken is what its file holds
  taken_so : (contents : Contents) (file : Bytes) (c : ClassDef) → IsTaken contents file c → held file ≡ Some (class_bytes c) → IsTaken (Some held) file c
  taken_so contents file c taken holds = record { holds = holds; spelled = taken.spelled; short = taken.short; profile = taken.profile }

  -- so is each of those that the reads returned
  taken_seen : (contents : Contents) (files : List Bytes) (classes : List ClassDef) (more : List Call) → AreTaken contents files classes
      → AllByRecursion (ReturnsHeld held) (returned files classes ++ more) → AreTaken (Some held) files classes
  taken_seen contents [] [] more taken all = tt
  taken_seen contents [] (c ∷ classes) more taken all = absurd taken
  taken_seen contents (f ∷ files) [] more taken all = absurd taken
  taken_seen contents (f ∷ files) (c ∷ classes) more taken all =
      (taken_so contents f c taken.0 all.0, taken_seen contents files classes more taken.1 all.1)

  -- and of those before the last one
  before_seen : (contents : Contents) (files : List Bytes) (before : List ClassDef) (more : List Call) → AreTaken contents (take (length before) files) before
      → AllByRecursion (ReturnsHeld held) (returned files before ++ more) → AreTaken (Some held) (take (length before) files) before
  before_seen contents [] [] more taken all = tt
  before_seen contents (f ∷ files) [] more taken all = tt
  before_seen contents [] (c ∷ before) more taken all = absurd taken
  before_seen contents (f ∷ files) (c ∷ before) more taken all =
      (taken_so contents f c taken.0 all.0, before_seen contents files before more taken.1 all.1)

  -- bytes that were returned are held
  such_held : (file : Bytes) (P : Bytes → Type 0) (bytes : Option Bytes) → IfSome bytes P → IsSomeAnd bytes (λ own. held file ≡ Some own) → IsSomeAnd (held file) P
  such_held file P None such is = absurd is
  such_held file P (Some own) such is = let Q : Option Bytes → Type 0 = λ o. IsSomeAnd o P in subst Q (sym is) such

  module _ (old new : Disk) (from : ReadsFrom held old new) where
    -- each read of the call returned bytes that are held
    all_held : (calls : List Call) → new.reads ≡ old.reads ++ calls → AllByRecursion (ReturnsHeld held) calls
    all_held calls is = subst (AllByRecursion (ReturnsHeld held)) (append_cancel_left old.reads from.0 calls (sym from.1 ∙ is)) from.2

    -- so did the last one
    pub last_held : (first : List Call) (last : Call) → new.reads ≡ old.reads ++ (first ++ last ∷ []) → ReturnsHeld held last
    last_held first last is = go first (all_held (first ++ last ∷ []) is) where
      go : (calls : List Call) → AllByRecursion (ReturnsHeld held) (calls ++ last ∷ []) → ReturnsHeld held last
      go [] all = all.0
      go (c ∷ calls) all = go calls all.1

    -- the call reaches a file over these contents, whose read returned what they hold
    reached_seen : (files : List Bytes) (file : Bytes) (before : List ClassDef) (bytes : Option Bytes) → Reaches old.contents files file before
        → new.reads ≡ old.reads ++ (returned files before ++ record { name = file; bytes = bytes } ∷ [])
        → Reaches (Some held) files file before × IsSomeAnd bytes (λ own. held file ≡ Some own)
    reached_seen files file before bytes reaches is =
        let last : Call = record { name = file; bytes = bytes } in
        let taken = before_seen old.contents files before (last ∷ []) reaches.taken (all_held (returned files before ++ last ∷ []) is) in
        (record { there = reaches.there; few = reaches.few; taken = taken; short = reaches.short }, last_held (returned files before) last is)

    given_seen : (these : Given) (classes : List ClassDef) → AreGiven these old.contents classes → ReadsFirst these.files classes old new → AreGiven these (Some held) classes
    given_seen these classes are reads =
        let same = given_returned old.contents these.files are.read classes these.made are.taken.taken are.classes_are in
        let P : List Call → Type 0 = λ calls. AllByRecursion (ReturnsHeld held) (calls ++ reads.0) in
        let all = subst P (sym same) (all_held (returned these.files classes ++ reads.0) reads.1) in
        record {
          read = are.read;
          taken = record { few = are.taken.few; taken = taken_seen old.contents these.files are.read reads.0 are.taken.taken all; short = are.taken.short };
          alone = are.alone;
          classes_are = are.classes_are;
        }

    -- it holds where the reads returned what these contents hold
    pub returned_seen : (these : Given) → IsSeen these held old new
    returned_seen these = record {
      given = given_seen these;
      long = λ file is.
          let both = reached_seen these.files file is.before is.last.0 is.reaches is.last.2 in
          long_stops these.files (Some held) held refl file is.before both.0 (such_held file (IsTooLong (total_bytes is.before)) is.last.0 is.last.1 both.1);
      refused = λ file r is.
          let both = reached_seen these.files file is.before (Some is.last.0) is.reaches is.last.2 in
          bytes_stop these.files (Some held) held refl (class_refusal_status r) file is.before r refl both.0
          (such_held file (IsRefused r (total_bytes is.before)) (Some is.last.0) is.last.1 both.1);
    }

    -- and then no read of a class file failed
    pub not_unread : (files : List Bytes) (file : Bytes) → ¬ IsUnread files file old new
    not_unread files file is = (reached_seen files file is.before None is.reaches is.last).1
