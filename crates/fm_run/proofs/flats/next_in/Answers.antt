use Rattle.std.proofs.Common.{◌≡◌, ◌<◌, Some, option_map, sym, subst, ap, ◌∙◌}
use Rattle.fm_fast.specs.Flows.{resumed}
use Rattle.fm_frames.specs.inner.Frames.{place, place_of, topmost}
use Rattle.fm_run.proofs.FlatSteps.{flat-coded, flat-fits, flat-found, flat-inside, flat-next}
use Rattle.fm_run.proofs.QuickSteps.{method-there, quick-at, quicks-here, quicks-long}
use Rattle.fm_run.proofs.flats.next_in.Goals as goal

pub quick_among-requires : goal.quick_among-requires
quick_among-requires g c =
    let p = c.args.program.now in
    let x = resumed c.args.machine.now c.args.frames.now c.args.counted in
    let at = place c.in-Some.place in
    let there : Some at ≡ option_map place_of (topmost c.args.frames.now) = sym (ap (option_map place) c.in-Some.is) ∙ c.topmost.ensures in
    let coded = flat-coded p c.args.steps x at.0 at.1 c.requires.keeps c.requires.on there in
    let are = quicks-here p c.args.frames.now at c.args.quicks.now coded.0 c.requires.quicks there coded.1 in
    subst (λ n. at.1 < n) (sym (quicks-long p at.0 coded.0.items c.args.quicks.now are))
    (flat-inside p c.args.steps x at.0 at.1 coded.0 c.requires.keeps c.requires.on there coded.1)

pub returns-clause-fits : goal.returns-clause-fits
returns-clause-fits g c =
    flat-fits c.args.program.now c.args.steps (resumed c.args.machine.now c.args.frames.now c.args.counted) c.requires.run c.requires.keeps c.requires.on

pub returns-clause-method : goal.returns-clause-method
returns-clause-method g c =
    method-there c.args.frames.now (place c.in-Some.place) (sym (ap (option_map place) c.in-Some.is) ∙ c.topmost.ensures)

pub returns-clause-next : goal.returns-clause-next
returns-clause-next g c =
    let p = c.args.program.now in
    let x = resumed c.args.machine.now c.args.frames.now c.args.counted in
    let at = place c.in-Some.place in
    let there : Some at ≡ option_map place_of (topmost c.args.frames.now) = sym (ap (option_map place) c.in-Some.is) ∙ c.topmost.ensures in
    let coded = flat-coded p c.args.steps x at.0 at.1 c.requires.keeps c.requires.on there in
    let are = quicks-here p c.args.frames.now at c.args.quicks.now coded.0 c.requires.quicks there coded.1 in
    let found = flat-found p c.args.steps x at.0 at.1 coded.0 c.requires.keeps c.requires.on there coded.1 in (
      found.0,
      quick-at p at.0 coded.0.items c.args.quicks.now at.1 found.0 c.quick_among.result.now are found.1 c.quick_among.ensures,
      flat-next p c.args.steps x at.0 at.1 coded.0 found.0 c.requires.run c.requires.few c.requires.keeps c.requires.on c.requires.within there coded.1 found.1,
    )
