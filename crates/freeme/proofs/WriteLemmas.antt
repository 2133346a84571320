-- Classes that are written one after the other.
use Rattle.std.proofs.Common.{◌≡◌, ◌<◌, ◌≤◌, ℕ, ◌+◌, List, [], ◌∷◌, ◌++◌, codes, length, map, take, Contains, Err, Some, IfSome, string_bytes, refl, sym, ap, ◌∙◌, subst, arith, length-append, append-nil, None}
use Rattle.std.specs.List.{AllByRecursion, slice_get}
use Rattle.std.proofs.lemmas.List.{map_push, take_all}
use Rattle.std.proofs.lemmas.Option.{slice_get_within}
use Rattle.std.proofs.lemmas.List.Elements.{Contains-append_left, Contains-append_right}
use Rattle.fm_base.proofs.ListFacts.{same_parts, same_tail}
use Rattle.fm_files.specs.Files.{Bytes, Call, Contents, Disk, OthersAreKept, Holds}
use Rattle.fm_code.specs.ClassBytes.{class_bytes}
use Rattle.fm_code.specs.declared.class_file.ClassDef.{ClassDef}
use Rattle.fm_cli.specs.Outside.{HasWriteFault}
use Rattle.fm_cli.specs.declared.command_refusal.CommandRefusal.TheVariants as refusal
use Rattle.fm_load.specs.declared.refusal.JobRefusal.{JobRefusal}
use Rattle.fm_load.specs.declared.refusal.JobRefusal.TheVariants as job_refusal
use Rattle.fm_load.specs.Changes.{ChangesOnlyAt}
use Rattle.fm_load.specs.Given.{IsUntouched}
use Rattle.freeme.specs.Writing.{class_text, file_name, written_name, IsFileOf, AllWritten, SomeWritten, FailsToWrite, class_write, class_writes}
use Rattle.freeme.specs.inner.Writing.{AreApart, IsWritten, IsWriteFailed, ComesOfClass, ComesOfClasses}
use Rattle.fm_load.proofs.ChangesLemmas.{changes_of_kept, changes_then, holds_still, faultless_then, write_fault_then}
use Rattle.fm_load.proofs.ListLemmas.{take_next, AllByRecursion-next}
use Rattle.fm_load.proofs.ReadLemmas.{call_behind}

-- ---- names

-- files of one name have one text
file_name-injective : (folder : Bytes) (a b : List ℕ) → file_name folder a ≡ file_name folder b → a ≡ b
file_name-injective folder a b e =
    let class = codes ".class" in
    let rest : a ++ class ≡ b ++ class = same_tail 47 47 (a ++ class) (b ++ class) (same_parts folder folder (47 ∷ (a ++ class)) (47 ∷ (b ++ class)) refl e).1 in
    let sizes : length a ≡ length b = omega (arith, ap length rest, length-append a class, length-append b class) in
    (same_parts a b class class sizes rest).0

-- the files of classes of other names hold what they held
hold_still : (folder : Bytes) (text : List ℕ) (old new : Contents) (classes : List ClassDef) → ¬ Contains (map class_text classes) text → OthersAreKept (file_name folder text) old new →
    AllByRecursion (λ c. Holds old (written_name folder c) (class_bytes c)) classes → AllByRecursion (λ c. Holds new (written_name folder c) (class_bytes c)) classes
hold_still folder text old new [] other kept hold = tt
hold_still folder text old new (c ∷ classes) other kept hold = (
  holds_still (λ n. n ≡ file_name folder text) old new (written_name folder c) (class_bytes c) kept
      (λ same. let texts : class_text c ≡ text = file_name-injective folder (class_text c) text same in other (subst (Contains (map class_text (c ∷ classes))) texts (Contains-append_left (class_text c ∷ []) (map class_text classes) (class_text c) (0, omega arith, refl))))
      hold.0,
  hold_still folder text old new classes (λ there. other (Contains-append_right (class_text c ∷ []) (map class_text classes) text there)) kept hold.1,
)

-- ---- one more class

module _ (folder : Bytes) (classes : List ClassDef) (i : ℕ) (class : ClassDef) (there : slice_get classes i ≡ Some class) where
  -- the names of the files, and one more
  names_next : map (written_name folder) (take (i + 1) classes) ≡ map (written_name folder) (take i classes) ++ written_name folder class ∷ []
  names_next = ap (map (written_name folder)) (take_next classes i class there) ∙ map_push (written_name folder) (take i classes) class

  -- their writes, and one more
  writes_next : class_writes folder (take (i + 1) classes) ≡ class_writes folder (take i classes) ++ class_write folder class ∷ []
  writes_next = ap (class_writes folder) (take_next classes i class there) ∙ map_push (class_write folder) (take i classes) class

  among_next : (name : Bytes) → IsFileOf folder (take i classes) name → IsFileOf folder (take (i + 1) classes) name
  among_next name among =
      let Has : List Bytes → Type 0 = λ names. Contains names name in
      subst Has (sym names_next) (Contains-append_left (map (written_name folder) (take i classes)) (written_name folder class ∷ []) name among)

  is_next : (name : Bytes) → name ≡ written_name folder class → IsFileOf folder (take (i + 1) classes) name
  is_next name same =
      let Has : List Bytes → Type 0 = λ names. Contains names name in
      subst Has (sym names_next) (Contains-append_right (map (written_name folder) (take i classes)) (written_name folder class ∷ []) name (0, omega arith, sym same))

  -- only the files of the classes before and this one have changed
  changes_next : (old between new : Contents) → ChangesOnlyAt (IsFileOf folder (take i classes)) old between → OthersAreKept (written_name folder class) between new → ChangesOnlyAt (IsFileOf folder (take (i + 1) classes)) old new
  changes_next old between new first second =
      changes_then (IsFileOf folder (take i classes)) (λ n. n ≡ written_name folder class) (IsFileOf folder (take (i + 1) classes)) old between new among_next is_next first second

  module _ (apart : AreApart classes) where
    other_names : ¬ Contains (map class_text (take i classes)) (class_text class)
    other_names = let Apart : _ → Type 0 = λ o. IfSome o (λ c. ¬ Contains (map class_text (take i classes)) (class_text c)) in subst Apart there (apart i)

    -- it is written too
    pub write_next : {old between new : Disk} → AllWritten folder (take i classes) old between → IsWritten (written_name folder class) class between new → AllWritten folder (take (i + 1) classes) old new
    write_next {old} {between} {new} before now = record {
      written = record {
        hold = AllByRecursion-next (λ c. Holds new.contents (written_name folder c) (class_bytes c)) classes i class there
            (hold_still folder (class_text class) between.contents new.contents (take i classes) other_names now.others before.written.hold) now.holds;
        others = changes_next old.contents between.contents new.contents before.written.others now.others;
      };
      faultless = faultless_then old between new before.faultless now.faultless;
      writes =
          call_behind old.writes between.writes new.writes (class_writes folder (take i classes)) (class_write folder class) before.writes now.writes
          ∙ ap (λ (calls : List Call). old.writes ++ calls) (sym writes_next);
    }

    -- its write failed
    pub write_fails : (name : Bytes) (old between new : Disk) → name ≡ written_name folder class → AllWritten folder (take i classes) old between → IsWriteFailed (written_name folder class) between new → FailsToWrite folder classes name old new
    write_fails name old between new same before now = record {
      count = i;
      class = class;
      next = there;
      name_is = same;
      written = record {
        hold = hold_still folder (class_text class) between.contents new.contents (take i classes) other_names now.others before.written.hold;
        others = changes_next old.contents between.contents new.contents before.written.others now.others;
      };
      fault = let Fault : Bytes → Type 0 = λ n. HasWriteFault n old new in subst Fault (sym same) (write_fault_then (written_name folder class) old between new before.faultless now.fault);
      writes =
          let Fails : Bytes → Type 0 = λ n. new.writes ≡ old.writes ++ (class_writes folder (take i classes) ++ record { name = n; bytes = None } ∷ []) in
          subst Fails (sym same) (call_behind old.writes between.writes new.writes (class_writes folder (take i classes)) (record { name = written_name folder class; bytes = None }) before.writes now.writes);
    }

-- memory couldn't be had for the next one
pub write_stops : (folder : Bytes) (classes : List ClassDef) (i : ℕ) (old between new : Disk) → i < length classes → AllWritten folder (take i classes) old between → IsUntouched between new → SomeWritten folder classes old new
write_stops folder classes i old between new left before now = record {
  count = i;
  some_left = left;
  written = record {
    hold = let P : Contents → Type 0 = λ contents. AllByRecursion (λ c. Holds contents (written_name folder c) (class_bytes c)) (take i classes) in subst P (sym now.kept) before.written.hold;
    others = let P : Contents → Type 0 = λ contents. ChangesOnlyAt (IsFileOf folder (take i classes)) old.contents contents in subst P (sym now.kept) before.written.others;
  };
  faultless = faultless_then old between new before.faultless now.faultless;
  writes = now.unwritten ∙ before.writes;
}

-- none is written yet, and all are
pub none_written : (folder : Bytes) (classes : List ClassDef) (disk : Disk) → AllWritten folder (take 0 classes) disk disk
none_written folder classes disk = record {
  written = record { hold = tt; others = changes_of_kept (IsFileOf folder (take 0 classes)) disk.contents disk.contents refl };
  faultless = record { reads = λ name. refl; writes = λ name. refl };
  writes = sym (append-nil disk.writes);
}

pub all_written : (folder : Bytes) (classes : List ClassDef) (i : ℕ) (old new : Disk) → length classes ≤ i → AllWritten folder (take i classes) old new → AllWritten folder classes old new
all_written folder classes i old new all written = let P : List ClassDef → Type 0 = λ cs. AllWritten folder cs old new in subst P (take_all i classes all) written

-- what a class whose write didn't come off means for all
pub write_ends : {old between : Disk} (new : Disk) (folder : Bytes) (classes : List ClassDef) (i : ℕ) (class : ClassDef) → slice_get classes i ≡ Some class → AreApart classes → (r : JobRefusal) →
    AllWritten folder (take i classes) old between → ComesOfClass folder class between new (Err r) → ComesOfClasses folder classes old new (Err r)
write_ends {old} {between} new folder classes i class there apart (job_refusal.Write name) before now = write_fails folder classes i class there apart (string_bytes name) old between new now.0 before now.1
write_ends {old} {between} new folder classes i class there apart (job_refusal.Shared refusal.OutOfMemory) before now = write_stops folder classes i old between new (slice_get_within classes i class there) before now
write_ends {old} {between} new folder classes i class there apart r before now = absurd now
