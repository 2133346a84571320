use Rattle.std.proofs.Common.{◌∙◌, sym}
use Rattle.fm_conn.proofs.MemberLemmas.{call_in}
use Rattle.fm_conn.specs.inner.PairLists.{method_in}
use Rattle.fm_conn.proofs.links.push_calls_at.Goals as goal

pub push_call-requires : goal.push_call-requires
push_call-requires c =
    call_in (method_in c.args.method.now) c.args.at.now.insn.now c.in-Some.call c.requires.asked.uses c.requires.asked.number (sym c.call_of.ensures ∙ c.in-Some.is)
