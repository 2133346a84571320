use Rattle.std.proofs.Common.{ℕ}
use Rattle.std.specs.Global.{Vec}
use Rattle.std.proofs.lemmas.List.{map-set}
use Rattle.fm_link_supers.proofs.lists.put_list.Goals as goal

pub returns-then-place-len : goal.returns-then-place-len
returns-then-place-len c = map-set (λ (v : Vec ℕ). v.items) c.args.table.now.items c.args.place c.args.list
