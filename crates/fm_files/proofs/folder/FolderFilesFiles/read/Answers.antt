use Rattle.std.proofs.Common.{◌≡◌, is_none, ap, ◌∙◌}
use Rattle.std.specs.FinMap.{get}
use Rattle.fm_files.specs.Folder.{FolderFilesState}
use Rattle.fm_files.specs.History.{Past}
use Rattle.fm_files.specs.Names.{ByName}
use Rattle.fm_files.specs.Tally.{no_tally, tallies_after_read}
use Rattle.fm_files.specs.declared.tally.Tally.{Tally}
use Rattle.fm_files.specs.inner.Past.{past_after_read}
use Rattle.fm_files.proofs.NamesLemmas.{IsSome-insert, kept_and_released}
use Rattle.fm_files.proofs.TallyLemmas.{kept_and_read}
use Rattle.fm_files.proofs.folder.FolderFilesFiles.read.Goals as goal
use Rattle.fm_files.proofs.folder.FolderFilesFiles.read.Goals.{in-Ok-1, in-Err-1}

abbrev state : ByName Tally → Past → FolderFilesState
state tallies past = record { tallies = tallies; past = past }

pub replace-requires : goal.replace-requires
replace-requires g c = rw c.in_ok-is_new.ensures.ok (IsSome-insert _ _ _)

pub returns-in-Ok-clause-after : goal.returns-in-Ok-clause-after
returns-in-Ok-clause-after g c =
    let old = c.args.self.now in
    let name = c.args.name.now in
    let answer = c.read_file-answer.result in
    let was : c.self.inside.tallies ≡ old.tallies = ap (λ (f : FolderFilesState). f.tallies) c.self.view_is in
    let tallies : c.replace.new.self ≡ tallies_after_read old.tallies name c.args.limit answer =
    rw (c.replace.ensures, c.in-Ok.ensures.ok, c.tally.ensures, c.in_ok-is_new.ensures.ok, was) (kept_and_read old.tallies name c.args.limit answer c.in-Ok.ensures.answered) in
    let past : c.after_read-self-inside.result.past ≡ past_after_read old.past name answer =
    c.after_read-self-inside.ensures ∙ ap (λ (f : FolderFilesState). past_after_read f.past name answer) c.self.view_is in
    λ i. record { tallies = tallies i; past = past i }

pub returns-in-Err-clause-after : goal.returns-in-Err-clause-after
returns-in-Err-clause-after g c =
    let old = c.args.self.now in
    let name = c.args.name.now in
    let was : c.self.inside.tallies ≡ old.tallies = ap (λ (f : FolderFilesState). f.tallies) c.self.view_is in
    let new = c.in_ok-is_new.ensures.is_new ∙ ap (λ (m : ByName Tally). is_none (get m name)) was in
    let tallies : c.release.new.self ≡ old.tallies =
    rw (c.release.ensures, c.in_ok-is_new.ensures.ok, was) (kept_and_released old.tallies name no_tally c.in_ok-is_new.is_new new) in
    let past : c.self.inside.history.past ≡ old.past = ap (λ (f : FolderFilesState). f.past) c.self.view_is in
    let as_before : state c.release.new.self c.self.inside.history.past ≡ old = λ i. record { tallies = tallies i; past = past i } in
    elim c.match-answer.branch [
      | in-Ok-1 w ↦ w.self-is ∙ as_before
      | in-Err-1 w ↦ w.self-is ∙ as_before
    ]
