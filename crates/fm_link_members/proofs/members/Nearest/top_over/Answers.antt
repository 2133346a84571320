use Rattle.std.proofs.Common.{sym, subst}
use Rattle.fm_link_members.proofs.NearestLemmas.{room_for_signatures, top_is_table}
use Rattle.fm_world.specs.inner.Layers.{IsTable}
use Rattle.fm_link_members.proofs.members.Nearest.top_over.Goals as goal

pub put_section-requires-clause-table : goal.put_section-requires-clause-table
put_section-requires-clause-table c =
    subst (λ t. IsTable c.args.self.now.layers t) (sym c.top-inherited.ensures) (top_is_table c.args.self.now c.requires.tables c.args.parent)

pub put_section-requires-clause-room : goal.put_section-requires-clause-room
put_section-requires-clause-room c =
    room_for_signatures c.args.members.now.rows.items c.args.signatures.now c.requires.signatures c.args.self.now.layers c.requires.room
    c.as_slice-2.result.now c.as_slice-2.ensures.value
