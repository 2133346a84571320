use Rattle.std.proofs.Common.{◌≡◌, ap, sym, ◌∙◌, rules}
use Rattle.fm_cells.specs.declared.answers.Cell.{Cell}
use Rattle.fm_frames.specs.Acts.{all_freed, cell_of, chain_from}
use Rattle.fm_frames.specs.Effects.{OfOperand}
use Rattle.fm_frames.specs.declared.natives.Native.TheVariants.{FreeMeFreeChain}
use Rattle.fm_frames.specs.inner.Doings.{seen}
use Rattle.fm_native.proofs.FreeRows.{chain-done, chain-is, chain-lost, freeing_chain}
use Rattle.fm_native.proofs.Rows.{carried}
use Rattle.fm_native.specs.inner.Chains.{cells_in}
use Rattle.std.specs.Option.{option_map}
use Rattle.std.specs.Prelude.{map}
use Rattle.fm_native.proofs.free_me.free_chain.Goals as goal

pub returns-in-Some : goal.returns-in-Some
returns-in-Some g c =
    let p = c.args.program.now in
    let o = p.outline in
    let x = c.args.machine.now in
    let found =
    ap (chain_from x.areas.store) (sym (c.cell_of-first.ensures ∙ ap cell_of c.word.ensures)) ∙ sym c.in_ok-found.ensures ∙ ap (option_map cells_in) c.in-Some.is in
    let same : map (λ (cell : Cell). cell.0) c.deref.result.now ≡ cells_in c.in-Some.cells = search rules in
    carried p g.M.Memory.choose x c.take.new.self FreeMeFreeChain freeing_chain (λ byte. chain-is o byte (seen p x))
    (chain-done p g.M.Memory.choose x c.free_all.new.machine c.take.new.self (cells_in c.in-Some.cells) c.requires.can.ready.next_fits found
    (c.free_all.ensures ∙ ap (λ cs. record x { areas = all_freed x.areas cs }) same) (c.take.ensures p g.M.Memory.choose))

pub returns-in-None : goal.returns-in-None
returns-in-None g c =
    let p = c.args.program.now in
    let o = p.outline in
    let x = c.args.machine.now in
    let found =
    ap (chain_from x.areas.store) (sym (c.cell_of-first.ensures ∙ ap cell_of c.word.ensures)) ∙ sym c.in_ok-found.ensures ∙ ap (option_map cells_in) c.in-None.is in
    carried p g.M.Memory.choose x c.fault.new.self FreeMeFreeChain freeing_chain (λ byte. chain-is o byte (seen p x))
    (chain-lost p g.M.Memory.choose x c.fault.new.self c.requires.can.ready.next_fits found
    (c.fault.ensures c.requires.can.runnable g.M.Memory.choose (OfOperand 0) (sym (c.cell_of-first.ensures ∙ ap cell_of c.word.ensures))))
