use Rattle.std.proofs.Common.{◌<◌, get_or, bit_or, arith, refl, length, set, ◌+◌}
use Rattle.fm_base.proofs.RowsUnion.{Joining_more, Changed, Changed_here, Changed_before, JoinsWords_all, Changed_all}
use Rattle.fm_base.proofs.rows.unite.Goals.{then-joined-words, else-joined-words}
use Rattle.fm_base.proofs.rows.unite.Goals as goal

pub loop-i-init : goal.loop-i-init
loop-i-init c = record {
  same_length = refl;
  initial_fits = λ k. let fits = c.type_inv.words k in omega arith;
  other_fits = λ k. let fits = c.type_inv.other k in omega arith;
  joined = λ k below. absurd (omega arith);
  ahead = λ k _. refl;
  changed = λ k below. absurd (omega arith);
}

pub loop-i-preserved : goal.loop-i-preserved
loop-i-preserved c =
    let inside : c.loop-i.i < length c.loop-i.words = omega arith in
    let word = bit_or (get_or c.loop-i.words c.loop-i.i 0) (get_or c.args.other.now c.loop-i.i 0) in
    let changed : Changed c.args.words.now (set c.loop-i.words c.loop-i.i word) (c.loop-i.i + 1) c.if-joined-words.grown =
    elim c.if-joined-words.branch [
      | then-joined-words w ↦ rw w.grown-is (Changed_here _ _ _ _ _ _ c.loop-i.invariant inside w.if-joined-words.true)
      | else-joined-words w ↦ rw w.grown-is (Changed_before _ _ _ _ _ _ c.loop-i.invariant inside w.if-joined-words.false)
    ] in
    Joining_more _ _ _ _ _ _ c.loop-i.invariant inside word refl changed

pub returns-clause-joined : goal.returns-clause-joined
returns-clause-joined c = JoinsWords_all _ _ _ _ _ c.loop-i.invariant (omega arith) c.requires

pub returns-clause-changed : goal.returns-clause-changed
returns-clause-changed c = Changed_all _ _ _ _ _ c.loop-i.invariant (omega arith) c.requires
