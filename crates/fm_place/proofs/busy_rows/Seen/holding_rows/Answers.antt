use Rattle.std.proofs.Common.{◌≡◌, ◌∙◌, ◌<◌, ℕ, Bool, List, [], Some, get_or, length, ap, sym, subst, arith}
use Rattle.std.specs.Prelude.{slice_get}
use Rattle.std.proofs.lemmas.List.{get_or_read, length-map}
use Rattle.std.proofs.lemmas.Option.{slice_get-get_or}
use Rattle.fm_flow.specs.inner.LiveWalks.{row_of}
use Rattle.fm_place.proofs.GroupLemmas.{holder_row}
use Rattle.fm_place.proofs.HoldingLemmas.{holding_more}
use Rattle.fm_place.specs.inner.PlanRows.{count_of, is_busy_at, IsRowOf}
use Rattle.fm_place.proofs.busy_rows.Seen.holding_rows.Goals as goal

pub bounds-busy-class : goal.bounds-busy-class
bounds-busy-class c =
    let g = c.args.groups.now in
    let h = c.loop-holder.holder in
    let inside : h < length g.held.now = c.loop-holder-test.true in
    let count = c.requires.groups.numbered.one_each ∙ length-map g.held.now (λ (p : ℕ × ℕ). p.1) in
    let there : slice_get g.held.now h ≡ Some (get_or g.held.now h (0, 0)) = slice_get-get_or g.held.now h (0, 0) inside in
    let own = holder_row g c.args.count (is_busy_at c.args.self.now) c.args.busy.now c.requires.groups c.requires.busy h (get_or g.held.now h (0, 0)) there in
    let class : c.index-class.result.now ≡ get_or g.of_holders.items h 0 =
    get_or_read g.of_holders.items h c.index-class.result.now (omega (arith, inside, count)) c.index-class.ensures 0 in
    subst (λ n. n < length c.args.busy.now) (sym class) own.0

pub holding_row-requires-clause-busy : goal.holding_row-requires-clause-busy
holding_row-requires-clause-busy c =
    let g = c.args.groups.now in
    let s = c.args.self.now in
    let h = c.loop-holder.holder in
    let pair = get_or g.held.now h (0, 0) in
    let inside : h < length g.held.now = c.loop-holder-test.true in
    let count = c.requires.groups.numbered.one_each ∙ length-map g.held.now (λ (p : ℕ × ℕ). p.1) in
    let there : slice_get g.held.now h ≡ Some pair = slice_get-get_or g.held.now h (0, 0) inside in
    let own = holder_row g c.args.count (is_busy_at s) c.args.busy.now c.requires.groups c.requires.busy h pair there in
    let class : c.index-class.result.now ≡ get_or g.of_holders.items h 0 =
    get_or_read g.of_holders.items h c.index-class.result.now (omega (arith, inside, count)) c.index-class.ensures 0 in
    let below : c.index-class.result.now < length c.args.busy.now = subst (λ n. n < length c.args.busy.now) (sym class) own.0 in
    let row : c.index-busy-class.result ≡ row_of c.args.busy.now (get_or g.of_holders.items h 0) =
    get_or_read c.args.busy.now c.index-class.result.now c.index-busy-class.result below c.index-busy-class.is [] ∙ ap (row_of c.args.busy.now) class in
    subst (λ (r : List Bool). IsRowOf (count_of s) (λ j. is_busy_at s j pair.1) r) (sym row)
    (subst (λ n. IsRowOf n (λ j. is_busy_at s j pair.1) (row_of c.args.busy.now (get_or g.of_holders.items h 0))) c.requires.count own.1)

pub loop-holder-preserved : goal.loop-holder-preserved
loop-holder-preserved c =
    let held = c.args.groups.now.held.now in
    let h = c.loop-holder.holder in
    let there : slice_get held h ≡ Some (get_or held h (0, 0)) = slice_get-get_or held h (0, 0) c.loop-holder-test.true in
    rw c.in_ok-push.ensures.items
    (holding_more c.args.self.now held h (get_or held h (0, 0)) c.loop-holder.freed c.holding_row.new.freed c.in_ok-row.row c.loop-holder.rows.items
    c.loop-holder.invariant there c.in_ok-row.ensures)
