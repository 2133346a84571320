-- A code for each state in memory: its fields in turn.
use Rattle.std.specs.Prelude.{ℕ, List, refl}
use Rattle.std.specs.Coded.{Coded, code_by, coded×, coded_ℕ, coded_list}
use Rattle.std.specs.FinMap.{code}
use Rattle.fm_files.specs.Attempts.{Attempts}
use Rattle.fm_files.specs.Files.{Bytes}
use Rattle.fm_files.specs.Folder.{FolderFilesState}
use Rattle.fm_files.specs.History.{Past, past_code}
use Rattle.fm_files.specs.Memory.{MemFilesState}
use Rattle.fm_files.specs.Names.{ByName}
use Rattle.fm_files.specs.Sure.{SureFilesState}
use Rattle.fm_files.specs.declared.tally.Tally.{Tally}

abbrev pub coded_bytes : Coded Bytes
coded_bytes = coded_list coded_ℕ

abbrev pub coded_by_name : {V : Type 0} → Coded V → Coded (ByName V)
coded_by_name value = code coded_bytes value

abbrev pub coded_attempts : Coded Attempts
coded_attempts =
    code_by (ℕ × List ℕ) (coded× coded_ℕ (coded_list coded_ℕ)) (λ a. (a.made, a.failing)) (λ p. record { made = p.0; failing = p.1 }) (λ _. refl)

abbrev pub coded_tally : Coded Tally
coded_tally =
    code_by (ℕ × (ℕ × ℕ)) (coded× coded_ℕ (coded× coded_ℕ coded_ℕ)) (λ t. (t.read_faults, (t.write_faults, t.widest_read))) (λ p. record { read_faults = p.0; write_faults = p.1.0; widest_read = p.1.1 }) (λ _. refl)

abbrev pub coded_mem_files : Coded MemFilesState
coded_mem_files =
    code_by (ByName Bytes × (ByName Tally × (Attempts × Past))) (coded× (coded_by_name coded_bytes) (coded× (coded_by_name coded_tally) (coded× coded_attempts past_code))) (λ f. (f.held, (f.tallies, (f.attempts, f.past)))) (λ p. record { held = p.0; tallies = p.1.0; attempts = p.1.1.0; past = p.1.1.1 }) (λ _. refl)

abbrev pub coded_sure_files : Coded SureFilesState
coded_sure_files =
    code_by (ByName Bytes × (ByName ℕ × Past)) (coded× (coded_by_name coded_bytes) (coded× (coded_by_name coded_ℕ) past_code)) (λ f. (f.given, (f.widest, f.past))) (λ p. record { given = p.0; widest = p.1.0; past = p.1.1 }) (λ _. refl)

abbrev pub coded_folder_files : Coded FolderFilesState
coded_folder_files =
    code_by (ByName Tally × Past) (coded× (coded_by_name coded_tally) past_code) (λ f. (f.tallies, f.past)) (λ p. record { tallies = p.0; past = p.1 }) (λ _. refl)
