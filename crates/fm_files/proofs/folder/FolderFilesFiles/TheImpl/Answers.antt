use Rattle.std.proofs.Common.{refl, rules, ap}
use Rattle.fm_base.proofs.ResultFacts.{IfOk-from_every}
use Rattle.fm_files.specs.Folder.{FolderFilesState}
use Rattle.fm_files.proofs.FolderLemmas.{IsSetAt-tallies_after_write}
use Rattle.fm_files.proofs.TallyLemmas.{IsSetAt-after_read, read_numbers, write_numbers}
use Rattle.fm_files.proofs.folder.FolderFilesFiles.TheImpl.Goals as goal

pub read-tells : goal.read-tells
read-tells g c =
    let old = c.args.self.now in
    let numbers = read_numbers old.tallies c.new.self.now.tallies c.args.name.now c.args.limit c.result c.ensures.within_limit (rw c.ensures.after (IsSetAt-after_read old.tallies c.args.name.now c.args.limit c.result)) in
    record {
      contents_kept = refl;
      write_faults_kept = numbers.write_faults_kept;
      read_faults_rise = numbers.read_faults_rise;
      widest_read_rises = numbers.widest_read_rises;
      reads = ap (λ (f : FolderFilesState). f.past.reads) c.ensures.after;
      writes = ap (λ (f : FolderFilesState). f.past.writes) c.ensures.after;
      widest_read_within = numbers.widest_read_within;
      within_limit = c.ensures.within_limit;
      seen = numbers.seen;
      known = IfOk-from_every c.result (λ _. tt);
      failed = numbers.failed;
      too_long = numbers.too_long;
      too_long_known = λ _. tt;
      no_memory = numbers.no_memory;
    }

pub write-tells : goal.write-tells
write-tells g c =
    let old = c.args.self.now in
    let numbers = write_numbers old.tallies c.new.self.now.tallies c.args.name.now c.result (rw c.ensures.after (IsSetAt-tallies_after_write old.tallies c.args.name.now c.result)) in
    record {
      read_faults_kept = numbers.read_faults_kept;
      widest_read_kept = numbers.widest_read_kept;
      write_faults_rise = numbers.write_faults_rise;
      others_kept = refl;
      reads = ap (λ (f : FolderFilesState). f.past.reads) c.ensures.after;
      writes = ap (λ (f : FolderFilesState). f.past.writes) c.ensures.after;
      written = search rules;
      failed = numbers.failed;
      no_memory = λ e. (refl, numbers.no_memory e);
    }
