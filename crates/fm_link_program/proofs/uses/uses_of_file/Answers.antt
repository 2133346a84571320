use Rattle.std.proofs.Common.{◌≡◌, ◌∙◌, length, arith}
use Rattle.fm_link_refusals.specs.inner.GivenClasses.{class_in}
use Rattle.fm_link_program.proofs.UseSteps.{place_end, place_step}
use Rattle.fm_link_program.specs.inner.Resolved.{outline_by}
use Rattle.fm_link_program.proofs.uses.uses_of_file.Goals as goal

pub loop-place-preserved : goal.loop-place-preserved
loop-place-preserved c =
    place_step (outline_by c.args.resolving) (class_in c.args.file.now) c.as_slice-marks.result.now c.loop-place.place c.is_marked-used.result
    c.loop-place.uses.items c.push.new.self.items c.in_ok-one.one (c.as_slice-marks.ensures.value ∙ c.in_ok-marked.ensures)
    c.loop-place-test.true c.is_marked-used.ensures c.in_ok-one.ensures c.in_ok-push.ensures.items c.loop-place.invariant

pub returns : goal.returns
returns c =
    let end = c.loop-place.auto.place-end in
    let all : c.loop-place.place ≡ length c.as_slice-marks.result.now = omega (arith, c.loop-place-test.false, end) in
    c.new.ensures
    ∙ place_end (outline_by c.args.resolving) (class_in c.args.file.now) c.as_slice-marks.result.now c.loop-place.place c.loop-place.uses.items
    (c.as_slice-marks.ensures.value ∙ c.in_ok-marked.ensures) all c.loop-place.invariant
