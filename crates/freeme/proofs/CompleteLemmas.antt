-- A job is done where nothing is against it and nothing fails: each other status says what can't be then.
use Rattle.std.proofs.Common.{◌≡◌, ◌≢◌, ◌≤◌, ◌⊎◌, ℕ, inl, inr, ⊎_elim, List, [], ◌∷◌, Contains, Option, Some, IsSome, Ok, Err, length, map, refl, sym, ap, ◌∙◌, subst, arith}
use Rattle.std.specs.List.{AllByRecursion, slice_get}
use Rattle.std.specs.Option.{option_map}
use Rattle.std.proofs.lemmas.List.Elements.{Contains-append_right, Contains-get_or}
use Rattle.std.proofs.lemmas.Option.{get_or_from_slice_get, slice_get-map, slice_get_within}
use Rattle.fm_base.proofs.ContainsFacts.{Contains-cons_cases}
use Rattle.fm_base.proofs.ListFacts.{AllByRecursion-weaker, map-map}
use Rattle.fm_base.proofs.OptionFacts.{Some-from_is_some}
use Rattle.fm_cli.proofs.LineLemmas.{instead_for_file}
use Rattle.fm_cli.specs.declared.status.TheConstants.{DONE, READ, WRITE, OUT_OF_MEMORY}
use Rattle.fm_cli_requests.proofs.FreemeRequestLemmas.{asks_one}
use Rattle.fm_cli_requests.specs.FreemeRequest.{FreemeJob, Asks}
use Rattle.fm_code.specs.ClassBytes.{class_bytes}
use Rattle.fm_code.specs.Spells.{HasSpelling}
use Rattle.fm_code.specs.declared.class_file.ClassDef.{ClassDef}
use Rattle.fm_files.specs.Files.{Bytes, Contents}
use Rattle.fm_load.proofs.GivenLemmas.{Behind, behind_once, given_passes, given_spelled}
use Rattle.fm_load.proofs.VerdictLemmas.{Ends, EndsOnce, one_verdict}
use Rattle.fm_load.specs.Given.{AreGiven, Given, IsUnread}
use Rattle.fm_load.specs.ProgramCalls.{ProgramCall, SaysRead}
use Rattle.fm_load.specs.Taking.{ClassIsSpelled}
use Rattle.freeme.proofs.CauseLemmas.{without_read}
use Rattle.freeme.proofs.WrittenLemmas.{names_same}
use Rattle.freeme.specs.Causes.{AskFor, AskForGiven, BecomesAs, IsForDone, IsForRead, IsForWrite, IsKnownAs, SaysWrite, cause_status}
use Rattle.freeme.specs.Complete.{CanBeDone, IsComplete, NothingFails}
use Rattle.freeme.specs.Jobs.{given_of}
use Rattle.freeme.specs.TopCall.{IsUnreported, IsUnwritten, Outcome}
use Rattle.freeme.specs.Writing.{IsFileOf, class_text, file_name, written_name}

-- ---- lists

-- what is at a place is an element
pub element : (xs : List Bytes) (i : ℕ) (x : Bytes) → slice_get xs i ≡ Some x → Contains xs x
element xs i x at = subst (Contains xs) (get_or_from_slice_get xs i x x at) (Contains-get_or xs i x (slice_get_within xs i x at))

-- a status that is neither that of a read nor that of a write
done_or_memory : (result : ℕ) → result ≢ READ → result ≢ WRITE → Contains (DONE ∷ instead_for_file) result → Contains (DONE ∷ OUT_OF_MEMORY ∷ []) result
done_or_memory result unread unwritten among = by (Contains-cons_cases DONE (WRITE ∷ OUT_OF_MEMORY ∷ []) result (without_read DONE result unread among)) where
  by : (result ≡ DONE) ⊎ Contains (WRITE ∷ OUT_OF_MEMORY ∷ []) result → Contains (DONE ∷ OUT_OF_MEMORY ∷ []) result
  by (inl is) = (0, omega arith, sym is)
  by (inr rest) = ⊎_elim
      (λ (is : result ≡ WRITE). absurd (unwritten is))
      (λ (last : Contains (OUT_OF_MEMORY ∷ []) result). Contains-append_right (DONE ∷ []) (OUT_OF_MEMORY ∷ []) result last)
      (Contains-cons_cases WRITE (OUT_OF_MEMORY ∷ []) result rest)

-- ---- classes

-- which of two sorts classes are of, as one of two statuses
abbrev Sorts : (List ClassDef → Type 0) → Ends
Sorts P classes status = (P classes × (status ≡ DONE)) ⊎ ((¬ P classes) × (status ≡ WRITE))

sorted_once : (P : List ClassDef → Type 0) → EndsOnce (Sorts P)
sorted_once P classes s t (inl a) (inl b) = a.1 ∙ sym b.1
sorted_once P classes s t (inl a) (inr b) = absurd (b.0 a.0)
sorted_once P classes s t (inr a) (inl b) = absurd (a.0 b.0)
sorted_once P classes s t (inr a) (inr b) = a.1 ∙ sym b.1

-- where contents are known, the classes that are given are of one sort
pub one_sort : (P : List ClassDef → Type 0) (given : Given) (contents : Contents) → IsSome contents → (these others : List ClassDef)
    → AreGiven given contents these → AreGiven given contents others → P these → ¬ P others → ⊥
one_sort P given contents known these others are also holds fails =
    let held = Some-from_is_some contents known in
    let unlike : DONE ≢ WRITE = λ is. omega arith in
    unlike (one_verdict (Behind given.made (Sorts P)) (behind_once given.made (Sorts P) (sorted_once P)) held.0 given.files DONE WRITE
    (inr (inr (given_passes (Sorts P) held.0 held.1 are DONE (inl (holds, refl)))))
    (inr (inr (given_passes (Sorts P) held.0 held.1 also WRITE (inr (fails, refl))))))

-- the files of classes are those of their names
files_named : (folder : Bytes) (classes : List ClassDef) → map (file_name folder) (map class_text classes) ≡ map (written_name folder) classes
files_named folder = map-map class_text (file_name folder)

-- ---- a job that nothing is against

module _ (call : ProgramCall) (job : FreemeJob) (classes : List ClassDef) (asked : Asks call.words job) (can : CanBeDone job call.old.contents classes) (none : NothingFails job classes call) where
  -- it is known to be done
  known_as_done : AskFor call.words (IsKnownAs DONE call.old)
  known_as_done =
      let P : Option (ℕ × ℕ) → Type 0 = BecomesAs DONE job classes in
      let free = subst P (sym can.no_call) (record {
        program = can.program;
        analysed = can.analysed;
        facts = can.facts;
        exact = can.exact;
        least = can.least;
        status_is = ap cause_status can.no_cause;
      }) in
      (job, (asked, record { known = can.known; classes = classes; checked = can.checked; becomes = free }))

  not_read : ¬ AskForGiven call.words (SaysRead call)
  not_read (own, (own_asked, said)) =
      let P : FreemeJob → Type 0 = λ k. IsUnread k.files said.file call.old call.new in
      let unread = subst P (asks_one call.words own job own_asked asked) said.unread in
      let rose = unread.fault.rose in
      let kept = none.reads said.file (element job.files (length unread.before) said.file unread.reaches.there) in
      omega arith

  -- the classes that are written have the files of these, of which no write failed
  module _ (name : Bytes) (unwritten : IsUnwritten job name call.old call.new) where
    abbrev given : List ClassDef
    given = unwritten.freed.classes

    abbrev made : List ClassDef
    made = unwritten.made.classes.items

    spelled : AllByRecursion HasSpelling given
    spelled =
        AllByRecursion-weaker ClassIsSpelled HasSpelling (λ c spells. (class_bytes c, spells)) given
        (given_spelled unwritten.freed.checked.linked.source)

    files : map (written_name job.folder) made ≡ map (written_name job.folder) given
    files =
        sym (files_named job.folder made) ∙ ap (map (file_name job.folder)) (names_same given unwritten.made spelled unwritten.freed.rewritten)
        ∙ files_named job.folder given

    there : slice_get (map (written_name job.folder) made) unwritten.fails.count ≡ Some (written_name job.folder unwritten.fails.class)
    there = slice_get-map (written_name job.folder) made unwritten.fails.count ∙ ap (option_map (written_name job.folder)) unwritten.fails.next

    here : IsFileOf job.folder given name
    here =
        let P : List Bytes → Type 0 = λ names. Contains names (written_name job.folder unwritten.fails.class) in
        let Q : Bytes → Type 0 = IsFileOf job.folder given in
        subst Q (sym unwritten.fails.name_is)
        (subst P files (element (map (written_name job.folder) made) unwritten.fails.count (written_name job.folder unwritten.fails.class) there))

    abbrev Kept : List ClassDef → Type 0
    Kept cs = (n : Bytes) → IsFileOf job.folder cs n → call.new.write_faults n ≤ call.old.write_faults n

    fails_here : ¬ Kept given
    fails_here kept = let low = kept name here in let rose = unwritten.fails.fault.rose in omega arith

    not_unwritten : ⊥
    not_unwritten = one_sort Kept (given_of job) call.old.contents can.known classes given can.checked.linked.source unwritten.freed.checked.linked.source none.writes fails_here

  not_unreported : (o : Outcome) → ¬ IsUnreported o call
  not_unreported (Ok lines) fails = let rose = fails.0.fault in let kept = none.puts in omega arith
  not_unreported (Err refusal) fails = let rose = fails.0.fault in let kept = none.reports in omega arith

  not_write : ¬ SaysWrite call
  not_write (inl unput) = not_unreported unput.outcome unput.fails
  not_write (inr (inl (own, (own_asked, said)))) =
      let P : FreemeJob → Type 0 = λ k. IsUnwritten k said.name call.old call.new in
      not_unwritten said.name (subst P (asks_one call.words own job own_asked asked) said.unwritten)
  not_write (inr (inr text)) = text.no_job job asked

-- ---- the clause

pub is_complete : (call : ProgramCall) → IsForDone call → IsForRead call → IsForWrite call → IsComplete call
is_complete call done read write job classes asked can none =
    done_or_memory call.status (λ is. not_read call job classes asked can none (read.only is)) (λ is. not_write call job classes asked can none (write.only is))
    (done.there (known_as_done call job classes asked can none))
