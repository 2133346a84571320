use Rattle.std.proofs.Common.{◌≡◌, Err, is_none, refl, ap, ◌∙◌}
use Rattle.std.specs.FinMap.{get}
use Rattle.fm_files.specs.Folder.{FolderFilesState, tallies_after_write}
use Rattle.fm_files.specs.History.{Past}
use Rattle.fm_files.specs.Names.{ByName}
use Rattle.fm_files.specs.Tally.{no_tally}
use Rattle.fm_files.specs.declared.tally.Tally.{Tally}
use Rattle.fm_files.specs.declared.error.WriteFail.TheVariants as write_fail
use Rattle.fm_files.specs.inner.Past.{past_after_write}
use Rattle.fm_files.proofs.NamesLemmas.{IsSome-insert, insert-again, kept_and_released}
use Rattle.fm_files.proofs.folder.FolderFilesFiles.write.Goals as goal
use Rattle.fm_files.proofs.folder.FolderFilesFiles.write.Goals.{in-Ok, in-Err-Failed, in-Err-NoMemory}

pub replace-requires : goal.replace-requires
replace-requires g c = rw c.in_ok-is_new.ensures.ok (IsSome-insert _ _ _)

pub returns : goal.returns
returns g c =
    let old = c.args.self.now in
    let name = c.args.name.now in
    let answer = c.write_file-answer.result in
    let was : c.self.inside.tallies ≡ old.tallies = ap (λ (f : FolderFilesState). f.tallies) c.self.view_is in
    let before : c.self.inside.history.past ≡ old.past = ap (λ (f : FolderFilesState). f.past) c.self.view_is in
    let new = c.in_ok-is_new.ensures.is_new ∙ ap (λ (m : ByName Tally). is_none (get m name)) was in
    let tallies : c.match-answer.self-inside.tallies ≡ tallies_after_write old.tallies name answer = elim c.match-answer.branch [
      | in-Ok w ↦ rw (w.self-inside-is, w.in-Ok.is, c.in_ok-is_new.ensures.ok, was) refl
      | in-Err-Failed w ↦
          let failed : answer ≡ Err write_fail.Failed = w.in-Err-Failed.is ∙ ap Err (rw w.in-Err-Failed.is at w.in-Err-Failed.field-0-is) in
          rw (w.self-inside-is, failed, w.replace.ensures, c.in_ok-after_failure.ensures, c.tally.ensures, c.in_ok-is_new.ensures.ok, was) (insert-again old.tallies name _ _)
      | in-Err-NoMemory w ↦
          let lacked : answer ≡ Err write_fail.NoMemory = w.in-Err-NoMemory.is ∙ ap Err (rw w.in-Err-NoMemory.is at w.in-Err-NoMemory.field-0-is) in
          rw (w.self-inside-is, lacked, w.release.ensures, c.in_ok-is_new.ensures.ok, was) (kept_and_released old.tallies name no_tally c.in_ok-is_new.is_new new)
    ] in
    let kept : c.match-answer.self-inside.history.past ≡ old.past = elim c.match-answer.branch [
      | in-Ok w ↦ rw w.self-inside-is before
      | in-Err-Failed w ↦ rw w.self-inside-is before
      | in-Err-NoMemory w ↦ rw w.self-inside-is before
    ] in
    let past : c.after_write-self-inside.result.past ≡ past_after_write old.past name c.args.bytes.now answer =
    c.after_write-self-inside.ensures ∙ ap (λ (p : Past). past_after_write p name c.args.bytes.now answer) kept in
    record { after = λ i. record { tallies = tallies i; past = past i } }
