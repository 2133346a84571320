-- A job that is ready is run to an end where nothing fails: each other status says what can't be then.
use Rattle.std.proofs.Common.{◌≡◌, ◌⊎◌, ℕ, inl, inr, ⊎_elim, List, [], ◌∷◌, Contains, Some, length, refl, sym, ap, subst, arith}
use Rattle.std.proofs.lemmas.List.Elements.{Contains-append_left, Contains-append_right}
use Rattle.fm_base.proofs.ContainsFacts.{Contains-cons_cases, Contains-none}
use Rattle.fm_cli.proofs.LineLemmas.{instead_for_file}
use Rattle.fm_cli.specs.declared.status.TheConstants.{READ, WRITE, OUT_OF_MEMORY}
use Rattle.fm_cli_requests.proofs.FmrunRequestLemmas.{asks_one}
use Rattle.fm_cli_requests.specs.FmrunRequest.{FmrunJob, Asks}
use Rattle.fm_files.specs.Files.{Bytes}
use Rattle.fm_law_linked.proofs.CodedMethods.{contains_at}
use Rattle.fm_load.specs.Given.{IsUnread}
use Rattle.fm_load.specs.ProgramCalls.{ProgramCall}
use Rattle.fmrun.specs.Causes.{AskFor, IsForRead, IsForRun, IsForWrite, SaysRun, SaysUnprinted, SaysUnread, SaysUnreported, SaysWrite}
use Rattle.fmrun.specs.Complete.{IsComplete, NothingFails}
use Rattle.fmrun.specs.Jobs.{input_files}
use Rattle.fmrun.specs.TopCall.{IsInputUnread}

-- a status that is neither that of a read nor that of a write
left_memory : (result : ℕ) → ¬ (result ≡ READ) → ¬ (result ≡ WRITE) → Contains instead_for_file result → result ≡ OUT_OF_MEMORY
left_memory result unread unwritten among = ⊎_elim
    (λ (is : result ≡ READ). absurd (unread is))
    (λ (rest : Contains (WRITE ∷ OUT_OF_MEMORY ∷ []) result). ⊎_elim
    (λ (is : result ≡ WRITE). absurd (unwritten is))
    (λ (last : Contains (OUT_OF_MEMORY ∷ []) result). ⊎_elim
    (λ (is : result ≡ OUT_OF_MEMORY). is)
    (λ (none : Contains [] result). absurd (Contains-none result none))
    (Contains-cons_cases OUT_OF_MEMORY [] result last))
    (Contains-cons_cases WRITE (OUT_OF_MEMORY ∷ []) result rest))
    (Contains-cons_cases READ (WRITE ∷ OUT_OF_MEMORY ∷ []) result among)

module _ (call : ProgramCall) (job : FmrunJob) (asked : Asks call.words job) (none : NothingFails job call) where
  -- a file of the job wasn't unread
  not_unread : (file : Bytes) → ¬ (IsUnread job.files file call.old call.new ⊎ IsInputUnread job file call.old call.new)
  not_unread file (inl unread) =
      let rose = unread.fault.rose in
      let there = contains_at job.files (length unread.before) file unread.reaches.there in
      let kept = none.reads file (Contains-append_left job.files (input_files job.input) file there) in
      omega arith
  not_unread file (inr unread) =
      let rose = unread.fault.rose in
      let there : Contains (input_files (Some file)) file = (0, omega arith, refl) in
      let In : List Bytes → Type 0 = λ files. Contains files file in
      let kept = none.reads file (Contains-append_right job.files (input_files job.input) file (subst In (sym (ap input_files unread.named)) there)) in
      omega arith

  not_read : ¬ AskFor call.words (SaysUnread call)
  not_read (own, (own_asked, said)) = go (subst (SaysUnread call) (asks_one call.words own job own_asked asked) said) where
    go : ¬ SaysUnread call job
    go (inl said) = not_unread said.file (inl said.unread)
    go (inr said) = not_unread said.file (inr said.unread)

  not_unprinted : ¬ AskFor call.words (SaysUnprinted call)
  not_unprinted (own, (own_asked, said)) = let rose = said.failed.fails.fails.1.fault in let kept = none.prints in omega arith

  not_unreported : ¬ SaysUnreported call
  not_unreported said = let rose = said.fails.fault in let kept = none.puts in omega arith

  not_write : ¬ SaysWrite call
  not_write (inl said) = not_unprinted said
  not_write (inr (inl said)) = not_unreported said
  not_write (inr (inr text)) = text.no_job job asked

-- ---- the clause

pub is_complete : (call : ProgramCall) → IsForRun call → IsForRead call → IsForWrite call → IsComplete call
is_complete call run read write job asked ready none = ⊎_elim
    (λ (said : SaysRun call). inl said)
    (λ (among : Contains instead_for_file call.status). inr (left_memory call.status
    (λ is. not_read call job asked none (read.only is)) (λ is. not_write call job asked none (write.only is)) among))
    (run.ready (job, (asked, ready)))
