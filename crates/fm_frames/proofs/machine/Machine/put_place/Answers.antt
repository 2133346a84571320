use Rattle.std.proofs.Common.{◌≡◌, Some, subst, arith}
use Rattle.fm_cells.specs.Answers.{head_at}
use Rattle.fm_frames.proofs.Acting.{put-past}
use Rattle.fm_frames.proofs.machine.Machine.put_place.Goals as goal
use Rattle.fm_frames.specs.States.{State}

pub returns-else-place-head : goal.returns-else-place-head
returns-else-place-head g c =
    put-past c.args.self.now c.args.cell.0 c.args.place c.args.kind c.args.value c.in-Some.head
    (subst (λ (x : State). Some c.in-Some.head ≡ head_at x.areas.store c.args.cell.0) c.self.view_is c.in-Some.ensures)
    (omega (arith, c.if-place-head.false))
