use Rattle.fm_frames.specs.inner.Doings.{seen}
use Rattle.fm_native.proofs.Hidings.{built-found, built-lost, built-refused}
use Rattle.fm_native.proofs.hidden.built_at.Goals as goal

pub returns-in-Ok-inner_of-clause-value : goal.returns-in-Ok-inner_of-clause-value
returns-in-Ok-inner_of-clause-value g c =
    let p = c.args.program.now in
    let x = c.args.machine.now in
    built-found p.outline x.areas.store (seen p x) c.args.place c.in-Ok.held c.in-Ok-inner_of.text c.in-Ok.ensures.value c.in-Ok-inner_of.ensures.value

pub returns-in-Err-inner_of-clause-value : goal.returns-in-Err-inner_of-clause-value
returns-in-Err-inner_of-clause-value g c =
    let p = c.args.program.now in
    let x = c.args.machine.now in
    built-lost p.outline x.areas.store (seen p x) c.args.place c.in-Ok.held c.in-Err-inner_of.refusal c.in-Ok.ensures.value c.in-Err-inner_of.ensures.value

pub returns-in-Err-inner_of-clause-at : goal.returns-in-Err-inner_of-clause-at
returns-in-Err-inner_of-clause-at g c = c.in-Err-inner_of.ensures.at c.args.place c.in-Ok.ensures.held.word

pub returns-in-Err-clause-value : goal.returns-in-Err-clause-value
returns-in-Err-clause-value g c =
    let p = c.args.program.now in
    let x = c.args.machine.now in
    built-refused p.outline x.areas.store (seen p x) c.args.place c.in-Err.refusal c.in-Err.ensures.value
