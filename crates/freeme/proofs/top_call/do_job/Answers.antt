use Rattle.std.proofs.lemmas.Result.{err_from_is_err_and}
use Rattle.fm_load.proofs.GivenLemmas.{number_within}
use Rattle.freeme.proofs.JobLemmas.{ends_read, ends_unjudged, ends_within, ends_written, judged, profiles, reads_of, short, spelled}
use Rattle.fm_cli_requests.specs.FreemeRequest.{job_of}
use Rattle.freeme.proofs.top_call.do_job.Goals as goal

pub given_classes-requires-clause-alone : goal.given_classes-requires-clause-alone
given_classes-requires-clause-alone g c = number_within (job_of c.args.request).files c.args.request.made c.requires

pub judged_program-requires-clause-spelled : goal.judged_program-requires-clause-spelled
judged_program-requires-clause-spelled g c =
    spelled (reads_of c.args.request c.requires c.deref-names.ensures.value c.deref-classes.ensures.value c.given_classes.ensures.within c.in_ok-read.ensures.comes)

pub judged_program-requires-clause-accepted : goal.judged_program-requires-clause-accepted
judged_program-requires-clause-accepted g c =
    profiles (reads_of c.args.request c.requires c.deref-names.ensures.value c.deref-classes.ensures.value c.given_classes.ensures.within c.in_ok-read.ensures.comes)

pub returns-in_err-program-clause-within : goal.returns-in_err-program-clause-within
returns-in_err-program-clause-within g c =
    ends_read (reads_of c.args.request c.requires c.deref-names.ensures.value c.deref-classes.ensures.value c.given_classes.ensures.within c.in_ok-read.ensures.comes)

pub returns-in_err-program-clause-comes : goal.returns-in_err-program-clause-comes
returns-in_err-program-clause-comes g c =
    let reads = reads_of c.args.request c.requires c.deref-names.ensures.value c.deref-classes.ensures.value c.given_classes.ensures.within c.in_ok-read.ensures.comes in
    let handed = err_from_is_err_and c.from_residual-in_err-program.result c.from_residual-in_err-program.ensures.1 in
    rw (handed.1, handed.2) (ends_unjudged reads c.in_err-program.field-0.0 c.in_err-program.ensures)

pub write_freed-requires-clause-judged : goal.write_freed-requires-clause-judged
write_freed-requires-clause-judged g c =
    let reads = reads_of c.args.request c.requires c.deref-names.ensures.value c.deref-classes.ensures.value c.given_classes.ensures.within c.in_ok-read.ensures.comes in
    judged reads c.in_ok-program.ensures

pub write_freed-requires-clause-short : goal.write_freed-requires-clause-short
write_freed-requires-clause-short g c =
    short (reads_of c.args.request c.requires c.deref-names.ensures.value c.deref-classes.ensures.value c.given_classes.ensures.within c.in_ok-read.ensures.comes)

pub returns-clause-within : goal.returns-clause-within
returns-clause-within g c =
    let reads = reads_of c.args.request c.requires c.deref-names.ensures.value c.deref-classes.ensures.value c.given_classes.ensures.within c.in_ok-read.ensures.comes in
    ends_within reads c.in_ok-program.ensures c.write_freed.ensures.keeps c.write_freed.result c.write_freed.ensures.comes

pub returns-clause-comes : goal.returns-clause-comes
returns-clause-comes g c =
    let reads = reads_of c.args.request c.requires c.deref-names.ensures.value c.deref-classes.ensures.value c.given_classes.ensures.within c.in_ok-read.ensures.comes in
    let laws = c.law_written_classes.ensures in
    ends_written reads c.in_ok-program.ensures c.write_freed.ensures.keeps (record {
      link = laws.links;
      typed = laws.typed;
      files = laws.files;
      chains_link = laws.chains_link;
      chains_typed = laws.chains_typed;
      accepted = laws.accepted;
    })
    laws.taken
    (record { same = laws.same; narrow = laws.narrow; linked = laws.chains_same; all = laws.chains_all })
    c.write_freed.result c.write_freed.ensures.comes
