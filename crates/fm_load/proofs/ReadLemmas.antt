-- Class files that are read one after the other.
use Rattle.std.proofs.Common.{◌≡◌, ◌≢◌, ◌<◌, ◌≤◌, ℕ, ◌+◌, max, ◌⊎◌, inl, inr, ⊎_elim, List, [], ◌∷◌, ◌++◌, length, take, Contains, Option, Some, None, IfSome, Err, sum_by, refl, sym, ap, ◌∙◌, subst, arith, length-append, append-nil, append_assoc}
use Rattle.std.specs.List.{slice_get}
use Rattle.std.proofs.lemmas.List.{take_all}
use Rattle.std.proofs.lemmas.List.Sums.{sum_by_push, sum_by-le-sum_by}
use Rattle.std.proofs.lemmas.Option.{slice_get_within, get_or_from_slice_get}
use Rattle.fm_base.proofs.TestFacts.{same_or_other}
use Rattle.fm_base.specs.declared.limits.TheConstants.{MAX_CLASS_FILES, MAX_FILE_BYTES, MAX_ALL_CLASS_FILES_BYTES}
use Rattle.fm_files.specs.Files.{Bytes, Call, Counts, Contents, Disk, RisesAt, and_call}
use Rattle.fm_code.specs.ClassBytes.{class_bytes}
use Rattle.fm_code.specs.declared.class_file.ClassDef.{ClassDef}
use Rattle.fm_cli.specs.Outside.{ReadsAlone, HasNoFileFault, HoldsSuch}
use Rattle.fm_cli.specs.declared.command_refusal.CommandRefusal.TheVariants as refusal
use Rattle.fm_load.specs.Changes.{RisesOnlyAt}
use Rattle.fm_load.specs.Taking.{IsTaken, AreTaken, total_bytes, Reaches, IsTooLong, IsRefused, IsSeenTooLong}
use Rattle.fm_load.specs.Given.{IsUntouched, IsUnread, IsLong, IsRefusedFile}
use Rattle.fm_load.specs.Reading.{KeepsWrites, ReadsAll, AreRead, ComesOfFiles}
use Rattle.fm_load.specs.Returned.{AreInOrder, ReadsInOrder, ReadsOnce, ReadsUpTo, returned}
use Rattle.fm_load.specs.inner.Reading.{IsRead, ComesOfFile}
use Rattle.fm_load.specs.declared.refusal.JobRefusal.{JobRefusal}
use Rattle.fm_load.specs.declared.refusal.JobRefusal.TheVariants as job_refusal
use Rattle.fm_load.proofs.ChangesLemmas.{rises_of_kept, rises_then, faultless_then, read_fault_then}
use Rattle.fm_load.proofs.ListLemmas.{take_next}

-- ---- reads of several files

-- a number that rose at one name
rises_alone : (this : Bytes) (old new : Counts) → RisesAt this old new → RisesOnlyAt (λ n. n ≡ this) old new
rises_alone this old new rises = record {
  never_fall = λ name. ⊎_elim
      (λ (same : name ≡ this). let P : Bytes → Type 0 = λ n. old n ≤ new n in subst P (sym same) rises.never_falls)
      (λ (other : name ≢ this). let kept = rises.others name other in omega arith)
      (same_or_other name this);
  others = rises.others;
}

-- no name was read yet
pub reads_none : (files : List Bytes) (disk : Disk) → ReadsAll files disk disk
reads_none files disk = record {
  reads = record {
    faults = rises_of_kept (Contains files) disk.read_faults disk.read_faults (λ name. refl);
    widest = rises_of_kept (Contains files) disk.widest_read disk.widest_read (λ name. refl);
    within = λ name. omega arith;
  };
  writes = record { contents = refl; faults = λ name. refl; calls = refl };
  asked = ([], sym (append-nil disk.reads), tt);
}

-- one of the files is read besides
pub reads_next : (files : List Bytes) (file : Bytes) (old between new : Disk) → Contains files file → ReadsAll files old between → ReadsAlone file between new → KeepsWrites between new → ReadsInOrder files old new → ReadsAll files old new
reads_next files file old between new among before now keeps in_turn = record {
  reads = record {
    faults = rises_then (Contains files) (λ n. n ≡ file) (Contains files) old.read_faults between.read_faults new.read_faults (λ n there. there) is_file before.reads.faults (rises_alone file between.read_faults new.read_faults now.faults);
    widest = rises_then (Contains files) (λ n. n ≡ file) (Contains files) old.widest_read between.widest_read new.widest_read (λ n there. there) is_file before.reads.widest (rises_alone file between.widest_read new.widest_read now.widest);
    within = λ name. ⊎_elim
        (λ (same : name ≡ file).
        let P : Bytes → Type 0 = λ n. new.widest_read n ≤ max (old.widest_read n) (MAX_FILE_BYTES + 1) in
        let first = before.reads.within file in let second = now.within in
        subst P (sym same) (omega arith))
        (λ (other : name ≢ file). let kept = now.widest.others name other in let first = before.reads.within name in omega arith)
        (same_or_other name file);
  };
  writes = record {
    contents = keeps.contents ∙ before.writes.contents;
    faults = λ name. keeps.faults name ∙ before.writes.faults name;
    calls = keeps.calls ∙ before.writes.calls;
  };
  asked = in_turn;
} where
  is_file : (n : Bytes) → n ≡ file → Contains files n
  is_file n same = subst (Contains files) (sym same) among

-- ---- what the reads returned

-- the read of a file that returned the bytes of a class
abbrev read_of : Bytes → ClassDef → Call
read_of file class = record { name = file; bytes = Some (class_bytes class) }

-- no file was read
returned_none : (files : List Bytes) → returned files [] ≡ []
returned_none [] = refl
returned_none (f ∷ files) = refl

-- the read of the next file returned the bytes of this class
returned_next : (files : List Bytes) (classes : List ClassDef) (file : Bytes) (class : ClassDef) → slice_get files (length classes) ≡ Some file
    → returned files (classes ++ class ∷ []) ≡ returned files classes ++ read_of file class ∷ []
returned_next [] classes file class there = absurd (let past = slice_get_within [] (length classes) file there in omega arith)
returned_next (f ∷ files) [] file class there =
    let same : f ≡ file = cc in
    ap (λ (n : Bytes). read_of n class ∷ returned files []) same ∙ ap (λ (rest : List Call). read_of file class ∷ rest) (returned_none files)
returned_next (f ∷ files) (c ∷ classes) file class there = ap (λ (rest : List Call). read_of f c ∷ rest) (returned_next files classes file class there)

-- these reads are in order,
in_order : (files : List Bytes) (classes : List ClassDef) → AreInOrder (returned files classes) files
in_order [] classes = tt
in_order (f ∷ files) [] = tt
in_order (f ∷ files) (c ∷ classes) = (refl, inl refl, in_order files classes)

-- and one more of the next file is,
pub in_order_next : (files : List Bytes) (classes : List ClassDef) (file : Bytes) (bytes : Option Bytes) → slice_get files (length classes) ≡ Some file
    → AreInOrder (returned files classes ++ record { name = file; bytes = bytes } ∷ []) files
in_order_next [] classes file bytes there = absurd (let past = slice_get_within [] (length classes) file there in omega arith)
in_order_next (f ∷ files) [] file bytes there = let same : f ≡ file = cc in (sym same, inr refl, tt)
in_order_next (f ∷ files) (c ∷ classes) file bytes there = (refl, inl refl, in_order_next files classes file bytes there)

-- also with files behind these
pub in_order_before : (calls : List Call) (files more : List Bytes) → AreInOrder calls files → AreInOrder calls (files ++ more)
in_order_before [] files more are = tt
in_order_before (c ∷ calls) (f ∷ files) more are = (are.0, are.1, in_order_before calls files more are.2)
in_order_before (c ∷ calls) [] more are = absurd are

-- what is behind the files, or behind as many classes as files, isn't read
pub returned_before : (files more : List Bytes) (classes : List ClassDef) → length classes ≤ length files → returned (files ++ more) classes ≡ returned files classes
returned_before [] more [] few = returned_none more
returned_before [] more (c ∷ classes) few = absurd (omega arith)
returned_before (f ∷ files) more [] few = refl
returned_before (f ∷ files) more (c ∷ classes) few = ap (λ (rest : List Call). read_of f c ∷ rest) (returned_before files more classes (omega arith))

pub returned_of_first : (files : List Bytes) (classes more : List ClassDef) → length files ≤ length classes → returned files (classes ++ more) ≡ returned files classes
returned_of_first [] classes more all = refl
returned_of_first (f ∷ files) [] more all = absurd (omega arith)
returned_of_first (f ∷ files) (c ∷ classes) more all = ap (λ (rest : List Call). read_of f c ∷ rest) (returned_of_first files classes more (omega arith))

-- one call behind others
pub call_behind : (old between new first : List Call) (call : Call) → between ≡ old ++ first → new ≡ between ++ call ∷ [] → new ≡ old ++ (first ++ call ∷ [])
call_behind old between new first call before now = now ∙ ap (λ (calls : List Call). calls ++ call ∷ []) before ∙ append_assoc old first (call ∷ [])

-- a read of the next file, or none
pub asked_next : (files : List Bytes) (classes : List ClassDef) (file : Bytes) (old between new : Disk) → slice_get files (length classes) ≡ Some file → between.reads ≡ old.reads ++ returned files classes
    → ReadsOnce file between new → ReadsInOrder files old new
asked_next files classes file old between new there before (inl none) = (returned files classes, none ∙ before, in_order files classes)
asked_next files classes file old between new there before (inr (bytes, now)) =
    let call : Call = record { name = file; bytes = bytes } in
    (returned files classes ++ call ∷ [], call_behind old.reads between.reads new.reads (returned files classes) call before now, in_order_next files classes file bytes there)

-- ---- files that are taken

-- one more file is taken
taken_next : (contents : Contents) (files : List Bytes) (classes : List ClassDef) (file : Bytes) (class : ClassDef) → AreTaken contents files classes → IsTaken contents file class → AreTaken contents (files ++ file ∷ []) (classes ++ class ∷ [])
taken_next contents [] [] file class taken now = (now, tt)
taken_next contents (f ∷ files) (c ∷ classes) file class taken now = (taken.0, taken_next contents files classes file class taken.1 now)
taken_next contents [] (c ∷ classes) file class taken now = absurd taken
taken_next contents (f ∷ files) [] file class taken now = absurd taken

-- as many classes as files
pub same_number : (contents : Contents) (files : List Bytes) (classes : List ClassDef) → AreTaken contents files classes → length classes ≡ length files
same_number contents [] [] taken = refl
same_number contents (f ∷ files) (c ∷ classes) taken = let rest = same_number contents files classes taken.1 in omega arith
same_number contents [] (c ∷ classes) taken = absurd taken
same_number contents (f ∷ files) [] taken = absurd taken

-- ---- what is read so far

-- a given number of files are taken, as these classes, which have a given number of bytes together
pub record ReadSoFar (files : List Bytes) (i : ℕ) (classes : List ClassDef) (total : ℕ) (old new : Disk) : Type 0 where
  pub count : length classes ≡ i
  pub taken : AreTaken old.contents (take i files) classes
  pub total_is : total ≡ total_bytes classes
  pub short : total ≤ MAX_ALL_CLASS_FILES_BYTES
  pub seen : total ≤ sum_by new.widest_read (take i files)
  pub faultless : HasNoFileFault old new
  pub reads : new.reads ≡ old.reads ++ returned files classes
  pub all : ReadsAll files old new

pub read_none : (files : List Bytes) (disk : Disk) → ReadSoFar files 0 [] 0 disk disk
read_none files disk = record {
  count = refl;
  taken = tt;
  total_is = refl;
  short = omega arith;
  seen = omega arith;
  faultless = record { reads = λ name. refl; writes = λ name. refl };
  reads = sym (ap (λ (calls : List Call). disk.reads ++ calls) (returned_none files) ∙ append-nil disk.reads);
  all = reads_none files disk;
}

module _ {files : List Bytes} {i : ℕ} {file : Bytes} {classes : List ClassDef} {total : ℕ} {old between new : Disk} (there : slice_get files i ≡ Some file)
    (before : ReadSoFar files i classes total old between) (now : ReadsAlone file between new) (once : ReadsOnce file between new) (keeps : KeepsWrites between new) where
  among : Contains files file
  among = (i, slice_get_within files i file there, get_or_from_slice_get files i file file there)

  -- the file is the next one after those of the classes
  here : slice_get files (length classes) ≡ Some file
  here = let At : ℕ → Type 0 = λ k. slice_get files k ≡ Some file in subst At (sym before.count) there

  pub all_next : ReadsAll files old new
  all_next = reads_next files file old between new among before.all now keeps (asked_next files classes file old between new here before.reads once)

  -- its read is behind theirs
  read_last : (bytes : Option Bytes) → new.reads ≡ and_call between.reads file bytes → ReadsUpTo files classes (record { name = file; bytes = bytes }) old new
  read_last bytes = call_behind old.reads between.reads new.reads (returned files classes) (record { name = file; bytes = bytes }) before.reads

  -- what was seen of the files before, and of this one
  seen_next : sum_by new.widest_read (take (i + 1) files) ≡ sum_by new.widest_read (take i files) + new.widest_read file
  seen_next = ap (sum_by new.widest_read) (take_next files i file there) ∙ sum_by_push new.widest_read (take i files) file

  seen_before : total ≤ sum_by new.widest_read (take i files)
  seen_before =
      let first = before.seen in
      let grown = sum_by-le-sum_by between.widest_read new.widest_read (take i files) (rises_alone file between.widest_read new.widest_read now.widest).never_fall in
      omega arith

  same_contents : between.contents ≡ old.contents
  same_contents = before.all.writes.contents

  -- it is taken too
  pub read_next : (class : ClassDef) (size : ℕ) → IsRead file total class size between new → (grown : List ClassDef) → grown ≡ classes ++ class ∷ [] → ReadSoFar files (i + 1) grown (total + size) old new
  read_next class size read grown is = subst (λ cs. ReadSoFar files (i + 1) cs (total + size) old new) (sym is) (record {
    count = let count = before.count in omega (arith, length-append classes (class ∷ []));
    taken =
        let P : List Bytes → Type 0 = λ fs. AreTaken old.contents fs (classes ++ class ∷ []) in
        let Q : Contents → Type 0 = λ contents. IsTaken contents file class in
        subst P (sym (take_next files i file there)) (taken_next old.contents (take i files) classes file class before.taken (subst Q same_contents read.taken));
    total_is = let was = before.total_is in let size_is = read.size_is in omega (arith, sum_by_push (λ (c : ClassDef). length (class_bytes c)) classes class);
    short = read.short;
    seen = let first = seen_before in let here = read.seen in omega (arith, seen_next);
    faultless = faultless_then old between new before.faultless read.faultless;
    reads = read_last (Some (class_bytes class)) read.reads ∙ ap (λ (calls : List Call). old.reads ++ calls) (sym (returned_next files classes file class here));
    all = all_next;
  })

  -- the call reaches it
  reaches : length files ≤ MAX_CLASS_FILES → Reaches old.contents files file classes
  reaches few =
      let Taken : ℕ → Type 0 = λ k. AreTaken old.contents (take k files) classes in
      record {
        there = here;
        few = few;
        taken = subst Taken (sym before.count) before.taken;
        short = let was = before.total_is in let short = before.short in omega arith;
      }

  -- nothing was written
  unwritten : new.writes ≡ old.writes
  unwritten = keeps.calls ∙ before.all.writes.calls

  -- nothing is touched where no read failed
  untouched : HasNoFileFault between new → IsUntouched old new
  untouched none = record { faultless = faultless_then old between new before.faultless none; kept = keeps.contents ∙ same_contents; unwritten = unwritten }

  -- what is known of the file
  such : (P : ℕ → Bytes → Type 0) → HoldsSuch between.contents file (P total) → HoldsSuch old.contents file (P (total_bytes classes))
  such P holds =
      let Q : Contents → Type 0 = λ contents. HoldsSuch contents file (P (total_bytes classes)) in
      let R : ℕ → Type 0 = λ n. HoldsSuch between.contents file (P n) in
      subst Q same_contents (subst R before.total_is holds)

  -- it was seen to be too long
  long_seen : (MAX_FILE_BYTES < new.widest_read file) ⊎ (MAX_ALL_CLASS_FILES_BYTES < total + new.widest_read file) → IsSeenTooLong new.widest_read files (length classes) file
  long_seen (inl own) = inl own
  long_seen (inr all) =
      let P : ℕ → Type 0 = λ k. MAX_ALL_CLASS_FILES_BYTES < sum_by new.widest_read (take (k + 1) files) in
      inr (subst P (sym before.count) (let first = seen_before in omega (arith, seen_next)))

  -- what was returned of it
  too_long : (bytes : Option Bytes) → IfSome bytes (IsTooLong total) → IfSome bytes (IsTooLong (total_bytes classes))
  too_long bytes = let P : ℕ → Type 0 = λ n. IfSome bytes (IsTooLong n) in subst P before.total_is

  -- what a file that isn't taken means for all
  pub read_ends : (Y : Type 0) → length files ≤ MAX_CLASS_FILES → (r : JobRefusal) → ComesOfFile file total between new (Err r) → ComesOfFiles {Y = Y} files old new (Err r)
  read_ends Y few (job_refusal.TooLong name) comes =
      let Named : Bytes → Type 0 = λ n. IsLong files n old new in
      subst Named (sym comes.0) (record {
        before = classes;
        reaches = reaches few;
        long = such IsTooLong comes.1.long;
        seen = long_seen comes.1.seen;
        last = (comes.1.last.0, too_long comes.1.last.0 comes.1.last.1, read_last comes.1.last.0 comes.1.last.2);
        untouched = untouched comes.1.faultless;
      })
  read_ends Y few (job_refusal.Class name r) comes =
      let Named : Bytes → Type 0 = λ n. IsRefusedFile files n r old new in
      subst Named (sym comes.0) (record {
        before = classes;
        reaches = reaches few;
        refused = such (IsRefused r) comes.1.refused;
        last = let P : ℕ → Type 0 = λ n. IsRefused r n comes.1.last.0 in (comes.1.last.0, subst P before.total_is comes.1.last.1, read_last (Some comes.1.last.0) comes.1.last.2);
        untouched = untouched comes.1.faultless;
      })
  read_ends Y few (job_refusal.Shared (refusal.Read name)) comes =
      let Named : Bytes → Type 0 = λ n. IsUnread files n old new in
      subst Named (sym comes.0) (record {
        before = classes;
        reaches = reaches few;
        fault = read_fault_then file old between new before.faultless comes.1.fault;
        kept = keeps.contents ∙ same_contents;
        unwritten = unwritten;
        last = read_last None comes.1.reads;
      })
  read_ends Y few (job_refusal.Shared refusal.OutOfMemory) comes = untouched comes
  read_ends Y few r comes = comes

-- all files are taken
pub all_read : (files : List Bytes) (i : ℕ) (classes : List ClassDef) (total : ℕ) (old new : Disk) → length files ≤ i → length files ≤ MAX_CLASS_FILES → ReadSoFar files i classes total old new → AreRead files classes old new
all_read files i classes total old new all few read = record {
  taken = record {
    few = few;
    taken = let P : List Bytes → Type 0 = λ fs. AreTaken old.contents fs classes in subst P (take_all i files all) read.taken;
    short = let was = read.total_is in let short = read.short in omega arith;
  };
  faultless = read.faultless;
  reads = read.reads;
}
