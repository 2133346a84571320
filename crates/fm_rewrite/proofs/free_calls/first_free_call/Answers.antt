use Rattle.std.proofs.Common.{arith, rules, ◌≡◌, length, None}
use Rattle.fm_rewrite.proofs.FreeCallsLemmas.{none_here}
use Rattle.fm_world.specs.Members.{methods_of}
use Rattle.fm_rewrite.proofs.free_calls.first_free_call.Goals as goal

pub loop-number-preserved : goal.loop-number-preserved
loop-number-preserved c =
    let none : c.first_in_method.result ≡ None = search rules in
    none_here c.args.program.now c.loop-number.number (length (methods_of c.args.program.now.outline.classes)) c.first_in_method.result _
    (omega arith) c.first_in_method.ensures none c.loop-number.invariant
