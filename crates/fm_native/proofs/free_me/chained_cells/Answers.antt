use Rattle.std.proofs.Common.{◌≡◌, ◌==◌, ◌-◌, ◌++◌, ◌∷◌, [], false, true, ap, sym, ◌∙◌, arith}
use Rattle.std.specs.Prelude.{map}
use Rattle.std.proofs.lemmas.Bool.{eq-eqb, ne_eqb}
use Rattle.std.specs.Io.KnownBytes.{prepend_known}
use Rattle.fm_cells.specs.declared.answers.Cell.{Cell}
use Rattle.fm_frames.specs.Acts.{chain_cells}
use Rattle.fm_native.proofs.ChainCells.{cells-more, chain-fixed, chain-gone, chain-next, chain-null, chain-over}
use Rattle.fm_native.proofs.free_me.chained_cells.Goals as goal
use Rattle.fm_native.specs.inner.Chains.{cells_in}

pub returns-then-left-eq0 : goal.returns-then-left-eq0
returns-then-left-eq0 g c =
    let there : (c.loop-cell.cell.0 == 0) ≡ false = ne_eqb c.loop-cell.cell.0 0 (λ e. absurd (omega (arith, e, c.loop-cell-test.true))) in
    let none : (c.loop-cell.left == 0) ≡ true = eq-eqb c.loop-cell.left 0 (omega (arith, c.if-left-eq0.true)) in
    sym (chain-over c.loop-cell.left c.args.machine.now.areas.store c.loop-cell.cell.0 (cells_in c.loop-cell.cells) there none) ∙ c.loop-cell.invariant

pub returns-in_default : goal.returns-in_default
returns-in_default g c =
    let there : (c.loop-cell.cell.0 == 0) ≡ false = ne_eqb c.loop-cell.cell.0 0 (λ e. absurd (omega (arith, e, c.loop-cell-test.true))) in
    let some : (c.loop-cell.left == 0) ≡ false = ne_eqb c.loop-cell.left 0 (λ e. absurd (omega (arith, e, c.if-left-eq0.false))) in
    sym (chain-gone c.loop-cell.left c.args.machine.now.areas.store c.loop-cell.cell.0 (cells_in c.loop-cell.cells) there some
    (sym c.in_default.is ∙ c.head.ensures)) ∙ c.loop-cell.invariant

pub returns-then-head : goal.returns-then-head
returns-then-head g c =
    let there : (c.loop-cell.cell.0 == 0) ≡ false = ne_eqb c.loop-cell.cell.0 0 (λ e. absurd (omega (arith, e, c.loop-cell-test.true))) in
    let some : (c.loop-cell.left == 0) ≡ false = ne_eqb c.loop-cell.left 0 (λ e. absurd (omega (arith, e, c.if-left-eq0.false))) in
    sym (chain-fixed c.loop-cell.left c.args.machine.now.areas.store c.loop-cell.cell.0 (cells_in c.loop-cell.cells) c.in-Some.head there some
    (sym c.in-Some.is ∙ c.head.ensures) c.if-head.true) ∙ c.loop-cell.invariant

pub loop-cell-preserved : goal.loop-cell-preserved
loop-cell-preserved g c =
    let store = c.args.machine.now.areas.store in
    let there : (c.loop-cell.cell.0 == 0) ≡ false = ne_eqb c.loop-cell.cell.0 0 (λ e. absurd (omega (arith, e, c.loop-cell-test.true))) in
    let some : (c.loop-cell.left == 0) ≡ false = ne_eqb c.loop-cell.left 0 (λ e. absurd (omega (arith, e, c.if-left-eq0.false))) in
    let pushed : cells_in c.push.new.self ≡ cells_in c.loop-cell.cells ++ c.loop-cell.cell.0 ∷ [] =
    ap (map (λ (cell : Cell). cell.0)) c.in_ok-push.ensures.items ∙ cells-more c.loop-cell.cells.items c.loop-cell.cell in
    ap (λ cells. prepend_known cells (chain_cells (c.loop-cell.left - 1) store c.chain-cell.result.0)) pushed
    ∙ sym (chain-next c.loop-cell.left store c.loop-cell.cell.0 c.chain-cell.result.0 (cells_in c.loop-cell.cells) c.in-Some.head there some
    (sym c.in-Some.is ∙ c.head.ensures) c.if-head.false c.chain-cell.ensures)
    ∙ c.loop-cell.invariant

pub returns : goal.returns
returns g c =
    sym (chain-null c.loop-cell.left c.args.machine.now.areas.store c.loop-cell.cell.0 (cells_in c.loop-cell.cells) (omega (arith, c.loop-cell-test.false)))
    ∙ c.loop-cell.invariant
