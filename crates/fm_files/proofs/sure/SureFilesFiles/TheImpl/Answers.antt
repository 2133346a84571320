use Rattle.std.proofs.Common.{Some, ap, ◌∙◌, rules}
use Rattle.fm_files.specs.Sure.{SureFilesState, widest_of}
use Rattle.fm_files.proofs.SureLemmas.{sees-after_sure_read, reads-after_sure_read, writes-after_sure_read, written-sure_write, others-sure_write, writes-sure_write, reads-sure_write}
use Rattle.fm_files.proofs.sure.SureFilesFiles.TheImpl.Goals as goal

pub read-tells : goal.read-tells
read-tells c =
    let old = c.args.self.now in
    let name = c.args.name.now in
    let sees = rw (← c.ensures.after) at (sees-after_sure_read old name c.args.limit c.result c.ensures.within_limit) in
    record {
      contents_kept = search rules;
      write_faults_kept = search rules;
      read_faults_rise = search rules;
      widest_read_rises = sees.widest_read_rises;
      reads = ap (λ (f : SureFilesState). f.past.reads) c.ensures.after ∙ reads-after_sure_read old name c.args.limit c.result c.ensures.sure;
      writes = ap (λ (f : SureFilesState). f.past.writes) c.ensures.after ∙ writes-after_sure_read old name c.args.limit c.result;
      widest_read_within = sees.widest_read_within;
      within_limit = search rules;
      seen = sees.seen;
      known = search rules;
      failed = search rules;
      too_long = sees.too_long;
      too_long_known = search rules;
      no_memory = search rules;
    }

pub write-tells : goal.write-tells
write-tells c =
    let old = c.args.self.now in
    let new = c.new.self.now in
    let name = c.args.name.now in
    let kept = reads-sure_write old new name c.args.bytes.now c.result c.ensures.ok c.ensures.err in
    record {
      read_faults_kept = search rules;
      widest_read_kept = λ name. ap (λ w. widest_of (record old { widest = w }) name) kept.1;
      write_faults_rise = search rules;
      others_kept = λ other_name other. ap Some (others-sure_write old new name c.args.bytes.now c.result c.ensures.ok c.ensures.err other_name other);
      reads = kept.0;
      writes = writes-sure_write old new name c.args.bytes.now c.result c.ensures.ok c.ensures.err c.ensures.sure;
      written = search (rules, written-sure_write old new name c.args.bytes.now c.result c.ensures.ok);
      failed = search rules;
      no_memory = search rules;
    }
