use Rattle.std.proofs.Common.{◌≡◌, ◌∙◌, ℕ, Bool, true, false, List, [], Contains, replicate, length, ap, sym, subst, arith}
use Rattle.std.proofs.lemmas.List.{length-replicate, nil_from_length}
use Rattle.fm_flow.specs.Flow.{edges_at}
use Rattle.fm_flow.specs.Marking.{Marks}
use Rattle.fm_place.proofs.HoldingLemmas.{following_first, following_inside, following_off, following_on, follows_all}
use Rattle.fm_place.specs.inner.PlanRows.{count_of, Following, IsAfter}
use Rattle.fm_place.proofs.busy_rows.Seen.holding_row.Goals as goal

pub no_marks-requires : goal.no_marks-requires
no_marks-requires c = c.requires.seen.flow_is.edges.within

pub mark-requires : goal.mark-requires
mark-requires c = λ j found.
    let is = (c.in_ok-first.ensures j).0 (subst (λ (list : List ℕ). Contains list j) c.as_slice.ensures.value found) in
    let bits = ap (λ (row : List Bool). length row) c.in_ok-row.ensures in
    omega (arith, is.1, bits, length-replicate c.bits.result false, c.bits.ensures, c.bits-2.ensures)

pub loop-j-init : goal.loop-j-init
loop-j-init c =
    let s = c.args.self.now in
    let pair = c.args.pair.now in
    let firsts = c.as_slice.result.now in
    let row = c.mark.new.reached in
    let waiting = c.mark.new.waiting.items in
    let first_is : IsAfter pair.0 (count_of s) firsts =
    subst (λ (list : List ℕ). IsAfter pair.0 (count_of s) list) (sym c.as_slice.ensures.value)
    (subst (λ n. IsAfter pair.0 n c.in_ok-first.first.items) (c.bits-2.ensures ∙ c.requires.busy.wide) c.in_ok-first.ensures) in
    let row_is : c.in_ok-row.row ≡ replicate (count_of s) false =
    c.in_ok-row.ensures ∙ ap (λ n. replicate n false) (c.bits.ensures ∙ c.requires.busy.wide) in
    let marks : Marks firsts (replicate (count_of s) false) row [] waiting =
    subst (λ (old : List Bool). Marks firsts old row [] waiting) row_is
    (subst (λ (items : List ℕ). Marks firsts c.in_ok-row.row row items waiting) c.new-waiting.ensures.items c.in_ok-mark.ensures) in
    record {
      following = following_first s pair c.args.busy.now c.requires.busy c.args.freed.now row firsts waiting c.requires.wide first_is marks;
      covered = c.in_ok-done.ensures row;
    }

pub get-requires : goal.get-requires
get-requires c =
    let s = c.args.self.now in
    let before = subst (λ (waiting : List ℕ). Following s c.args.pair.now c.args.busy.now c.args.freed.now c.loop-j.row c.loop-j.freed waiting)
    c.in-Some.ensures.items c.loop-j.invariant.following in
    let inside = following_inside s c.args.pair.now c.args.busy.now c.requires.busy c.args.freed.now c.loop-j.row c.loop-j.freed c.pop.new.self.items c.in-Some.j before in
    omega (arith, inside, c.requires.busy.wide)

pub mark_edges-requires : goal.mark_edges-requires
mark_edges-requires c =
    let s = c.args.self.now in
    let before = subst (λ (waiting : List ℕ). Following s c.args.pair.now c.args.busy.now c.args.freed.now c.loop-j.row c.loop-j.freed waiting)
    c.in-Some.ensures.items c.loop-j.invariant.following in
    let inside = following_inside s c.args.pair.now c.args.busy.now c.requires.busy c.args.freed.now c.loop-j.row c.loop-j.freed c.pop.new.self.items c.in-Some.j before in
    let count = c.requires.seen.flow_is.edges.one_each in
    record {
      item = omega arith;
      row = c.loop-j.invariant.following.bits ∙ sym count;
      within = c.requires.seen.flow_is.edges.within;
      marked = c.loop-j.invariant.covered;
    }

pub set-requires : goal.set-requires
set-requires c =
    let s = c.args.self.now in
    let before = subst (λ (waiting : List ℕ). Following s c.args.pair.now c.args.busy.now c.args.freed.now c.loop-j.row c.loop-j.freed waiting)
    c.in-Some.ensures.items c.loop-j.invariant.following in
    let inside = following_inside s c.args.pair.now c.args.busy.now c.requires.busy c.args.freed.now c.loop-j.row c.loop-j.freed c.pop.new.self.items c.in-Some.j before in
    omega (arith, inside, c.loop-j.invariant.following.freed_bits)

pub loop-j-preserved-in-Continue-branch-5 : goal.loop-j-preserved-in-Continue-branch-5
loop-j-preserved-in-Continue-branch-5 c =
    let s = c.args.self.now in
    let j = c.in-Some.j in
    let before = subst (λ (waiting : List ℕ). Following s c.args.pair.now c.args.busy.now c.args.freed.now c.loop-j.row c.loop-j.freed waiting)
    c.in-Some.ensures.items c.loop-j.invariant.following in
    let inside = following_inside s c.args.pair.now c.args.busy.now c.requires.busy c.args.freed.now c.loop-j.row c.loop-j.freed c.pop.new.self.items j before in
    record {
      following = following_on s c.args.pair.now c.args.busy.now c.requires.busy c.args.freed.now c.loop-j.row c.loop-j.freed c.pop.new.self.items j before
          (edges_at s.flow.now j) c.mark_edges.new.row c.mark_edges.new.waiting.items (λ x. c.requires.seen.flow_is.edges.each j x inside)
          (sym c.get.ensures ∙ c.if-get.true) c.in_ok-mark_edges.ensures.marks;
      covered = c.in_ok-mark_edges.ensures.marked;
    }

pub loop-j-preserved : goal.loop-j-preserved
loop-j-preserved c =
    let s = c.args.self.now in
    let before = subst (λ (waiting : List ℕ). Following s c.args.pair.now c.args.busy.now c.args.freed.now c.loop-j.row c.loop-j.freed waiting)
    c.in-Some.ensures.items c.loop-j.invariant.following in
    record {
      following = rw c.set.ensures
          (following_off s c.args.pair.now c.args.busy.now c.requires.busy c.args.freed.now c.loop-j.row c.loop-j.freed c.pop.new.self.items c.in-Some.j before
          (sym c.get.ensures ∙ c.if-get.false));
      covered = c.loop-j.invariant.covered;
    }

pub returns : goal.returns
returns c =
    let s = c.args.self.now in
    let empty : c.loop-j.waiting.items ≡ [] = nil_from_length c.loop-j.waiting.items (let ok = c.loop-j.waiting.ok.0 in omega (arith, c.in_default.ensures.cases.0)) in
    follows_all s c.args.pair.now c.args.busy.now c.requires.busy c.args.freed.now c.loop-j.row c.loop-j.freed
    (subst (λ (waiting : List ℕ). Following s c.args.pair.now c.args.busy.now c.args.freed.now c.loop-j.row c.loop-j.freed waiting) empty c.loop-j.invariant.following)
