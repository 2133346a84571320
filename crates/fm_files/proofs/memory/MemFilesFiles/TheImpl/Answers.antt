use Rattle.std.proofs.Common.{Some, ap, ◌∙◌}
use Rattle.std.specs.FinMap.{get}
use Rattle.fm_files.specs.History.{Past}
use Rattle.fm_files.specs.Memory.{MemFilesState, after_write}
use Rattle.fm_files.proofs.TallyLemmas.{IsSetAt-after_read, read_numbers, write_numbers}
use Rattle.fm_files.proofs.MemoryLemmas.{held-after_read, tallies-after_read, tallies-after_write, held-after_write, past-after_read, past-after_write, written-after_write}
use Rattle.fm_files.proofs.memory.MemFilesFiles.TheImpl.Goals as goal

pub read-tells : goal.read-tells
read-tells c =
    let old = c.args.self.now in
    let numbers = read_numbers old.tallies c.new.self.now.tallies c.args.name.now c.args.limit c.result c.ensures.answers.within_limit (rw (c.ensures.after, tallies-after_read) (IsSetAt-after_read old.tallies c.args.name.now c.args.limit c.result)) in
    record {
      contents_kept = ap (λ (f : MemFilesState). Some (get f.held)) c.ensures.after ∙ ap (λ h. Some (get h)) (held-after_read old c.args.name.now c.args.limit c.result);
      write_faults_kept = numbers.write_faults_kept;
      read_faults_rise = numbers.read_faults_rise;
      widest_read_rises = numbers.widest_read_rises;
      reads = ap (λ (f : MemFilesState). f.past.reads) c.ensures.after ∙ ap (λ (p : Past). p.reads) (past-after_read old c.args.name.now c.args.limit c.result);
      writes = ap (λ (f : MemFilesState). f.past.writes) c.ensures.after ∙ ap (λ (p : Past). p.writes) (past-after_read old c.args.name.now c.args.limit c.result);
      widest_read_within = numbers.widest_read_within;
      within_limit = c.ensures.answers.within_limit;
      seen = numbers.seen;
      known = c.ensures.answers.held;
      failed = numbers.failed;
      too_long = numbers.too_long;
      too_long_known = c.ensures.answers.too_long;
      no_memory = numbers.no_memory;
    }

pub write-tells : goal.write-tells
write-tells c =
    let old = c.args.self.now in
    let numbers = write_numbers old.tallies c.new.self.now.tallies c.args.name.now c.result (rw c.ensures.after (tallies-after_write old c.args.name.now c.args.bytes.now c.result)) in
    record {
      read_faults_kept = numbers.read_faults_kept;
      widest_read_kept = numbers.widest_read_kept;
      write_faults_rise = numbers.write_faults_rise;
      others_kept = λ name other. rw c.ensures.after (held-after_write old c.args.name.now c.args.bytes.now c.result name other);
      reads = ap (λ (f : MemFilesState). f.past.reads) c.ensures.after ∙ ap (λ (p : Past). p.reads) (past-after_write old c.args.name.now c.args.bytes.now c.result);
      writes = ap (λ (f : MemFilesState). f.past.writes) c.ensures.after ∙ ap (λ (p : Past). p.writes) (past-after_write old c.args.name.now c.args.bytes.now c.result);
      written = rw c.ensures.after (written-after_write old c.args.name.now c.args.bytes.now c.result);
      failed = numbers.failed;
      no_memory = λ e. (ap (λ (f : MemFilesState). Some (get f.held)) (c.ensures.after ∙ ap (after_write old c.args.name.now c.args.bytes.now) e), numbers.no_memory e);
    }
