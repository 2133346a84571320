use Rattle.std.proofs.Common.{◌≡◌, ◌<◌, None, Some, length, option_map, refl, slice_get, sym, ap, ◌∙◌, rules}
use Rattle.std.proofs.lemmas.Bool.{ltb-true}
use Rattle.std.proofs.lemmas.Option.{slice_get_read}
use Rattle.fm_frames.specs.inner.Frames.{place, place_of, topmost}
use Rattle.fm_run.proofs.CheapSteps.{cheap-is}
use Rattle.fm_run.proofs.runs.cheap_next.Goals as goal

pub returns-else-is_nest : goal.returns-else-is_nest
returns-else-is_nest g c =
    let on : c.args.machine.now.ended ≡ None = search rules in
    let less : c.args.machine.now.steps < c.args.steps = search rules in
    let same : c.in-Some.place.method ≡ c.args.method = search rules in
    let place_is : Some (c.args.method.0, c.in-Some.place.item) ≡ option_map place_of (topmost c.args.machine.now.frames) =
    ap (λ m. Some (m.0, c.in-Some.place.item)) (sym same) ∙ sym (ap (option_map place) c.in-Some.is) ∙ c.topmost.ensures in
    let at : slice_get c.args.code.now.items c.in-Some.place.item ≡ Some c.in-Some-get.item.now =
    slice_get_read c.args.code.now.items (length c.args.code.now.items) c.in-Some.place.item c.in-Some-get.item.now refl
    (ltb-true c.in-Some.place.item (length c.args.code.now.items) (sym c.in-Some-get.ensures.0)) c.in-Some-get.ensures.1 in
    cheap-is c.args.program.now c.args.steps c.args.machine.now c.args.method.0 c.in-Some.place.item c.args.code.now c.in-Some-get.item.now c.requires.run c.requires.few
    c.requires.keeps on less place_is (sym c.requires.code) at (c.is_nest.ensures c.if-is_nest.false)
