use Rattle.std.proofs.Common.{◌∙◌, sym, arith}
use Rattle.fm_types.specs.Typings.{known_state}
use Rattle.fm_place.proofs.RowLemmas.{item_done, item_unreached}
use Rattle.fm_place.proofs.busy_rows.Seen.mark_item.Goals as goal

pub depth_within-depth-requires : goal.depth_within-depth-requires
depth_within-depth-requires c =
    let meets = c.requires.seen.typed.items c.args.item (known_state c.in-Some.state.now) (sym c.in-Some.ensures) in
    omega (arith, meets.stack, c.depth.ensures)

pub returns-in_default : goal.returns-in_default
returns-in_default c = item_unreached c.args.self.now c.args.groups.now c.args.item 0 c.args.rows.now.items c.in_default.ensures c.requires.rows

pub returns : goal.returns
returns c =
    item_done c.args.self.now c.args.groups.now c.args.item c.depth_within-depth.result c.mark_words.new.rows.items (known_state c.in-Some.state.now)
    c.in-Some.ensures (c.depth_within-depth.ensures ∙ c.depth.ensures) c.mark_words.ensures
