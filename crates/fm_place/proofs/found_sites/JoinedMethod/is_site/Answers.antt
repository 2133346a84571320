use Rattle.std.proofs.Common.{◌∙◌, sym}
use Rattle.fm_conn.proofs.MemberLemmas.{call_in}
use Rattle.fm_place.specs.inner.SiteTests.{typed_in}
use Rattle.fm_place.proofs.found_sites.JoinedMethod.is_site.Goals as goal

pub receives_new-requires-clause-call : goal.receives_new-requires-clause-call
receives_new-requires-clause-call c =
    call_in (typed_in c.args.self.now) c.insn_of-insn.result.now c.in-Some-call_of.call c.requires.known.uses c.requires.known.number
    (sym c.call_of.ensures ∙ c.in-Some-call_of.is)
