use Rattle.std.proofs.Common.{◌∙◌, Some, get_or, ap, sym}
use Rattle.fm_flow.proofs.EdgesOfLemmas.{insn_of-get_or}
use Rattle.fm_flow.proofs.uses.insn_at.Goals as goal

pub returns : goal.returns
returns c =
    let item = c.index-as_slice-j.result in
    insn_of-get_or c.args.code.now c.args.j item c.requires ∙ ap (λ items. Some (get_or items c.args.j item).insn) (sym c.as_slice.ensures)
