use Rattle.std.proofs.Common.{◌≡◌, ◌+◌, ◌<◌, ◌||◌, sym, ◌∙◌, ap, true, false, length, drop, arith}
use Rattle.std.specs.List.{list_any, slice_get}
use Rattle.fm_check_rows.specs.Outcomes.{is_some_marked, marks}
use Rattle.fm_check_rows.proofs.MarkLemmas.{any_from}
use Rattle.fm_check_rows.proofs.object_rows.holds.Goals as goal

pub returns-then-is_marked_at : goal.returns-then-is_marked_at
returns-then-is_marked_at c =
    let mark = c.args.mark in
    let stack = c.args.stack.now in
    let inside : c.loop-depth.depth < length stack = omega (arith, c.loop-depth-test.true, c.len-size.ensures) in
    let here : is_some_marked mark (slice_get stack c.loop-depth.depth) ≡ true = sym c.is_marked_at.ensures ∙ c.if-is_marked_at.true in
    sym (sym c.loop-depth.invariant.same ∙ any_from mark stack c.loop-depth.depth inside
    ∙ ap (λ b. b || list_any (marks mark) (drop (c.loop-depth.depth + 1) stack)) here)

pub loop-depth-preserved : goal.loop-depth-preserved
loop-depth-preserved c =
    let mark = c.args.mark in
    let stack = c.args.stack.now in
    let inside : c.loop-depth.depth < length stack = omega (arith, c.loop-depth-test.true, c.len-size.ensures) in
    let here : is_some_marked mark (slice_get stack c.loop-depth.depth) ≡ false = sym c.is_marked_at.ensures ∙ c.if-is_marked_at.false in
    record {
      within = omega (arith, inside);
      same = sym (any_from mark stack c.loop-depth.depth inside
          ∙ ap (λ b. b || list_any (marks mark) (drop (c.loop-depth.depth + 1) stack)) here) ∙ c.loop-depth.invariant.same;
    }
