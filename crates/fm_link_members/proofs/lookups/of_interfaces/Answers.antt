use Rattle.std.proofs.Common.{◌∙◌, ◌<◌, ℕ, Bool, ap, arith, cond, get_or, length, set, true}
use Rattle.fm_world.specs.Lookups.{is_interface_at}
use Rattle.fm_link_members.proofs.FoundLemmas.{length-marks, marks_step}
use Rattle.fm_link_members.proofs.NearestLemmas.{signature_below}
use Rattle.fm_link_members.proofs.SignatureLemmas.{count_of_signatures}
use Rattle.fm_link_members.specs.inner.MemberRows.{no_row}
use Rattle.fm_link_members.proofs.lookups.of_interfaces.Goals as goal

pub loop-member-preserved : goal.loop-member-preserved
loop-member-preserved c =
    let rows = c.args.members.now.rows.items in
    let signatures = c.args.signatures.now.of_members.items in
    let marks = c.loop-member.marks.items in
    let i = c.loop-member.member in
    let place : ℕ → ℕ = λ k. get_or signatures k 0 in
    let test : ℕ → Bool = λ k. is_interface_at c.args.classes.now (get_or rows k no_row).class in
    let inside : i < length signatures =
    omega (arith, c.loop-member-test.true, c.requires.count, count_of_signatures rows c.args.signatures.now c.requires) in
    let below : place i < length marks =
    omega (arith, signature_below rows c.args.signatures.now c.requires i inside, c.loop-member.invariant.count) in
    let is = c.mark_if.ensures
    ∙ ap (λ b. cond b (set marks c.of_member.result true) marks)
    (c.is_interface_at-is_interface.ensures ∙ ap (λ r. is_interface_at c.args.classes.now r.class)
    (c.row_at.ensures ∙ ap (λ xs. get_or xs i no_row) c.as_slice.ensures.value))
    ∙ ap (λ p. cond (test i) (set marks p true) marks) c.of_member.ensures in
    record {
      count = ap length is ∙ length-marks (test i) marks (place i) ∙ c.loop-member.invariant.count;
      marked = marks_step place test marks c.mark_if.new.marks.items i below is c.loop-member.invariant.marked;
    }
