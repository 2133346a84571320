use Rattle.std.proofs.Common.{rules}
use Rattle.fm_layout.proofs.SizesLemmas.{length-load, length-store, length-static}
use Rattle.fm_layout.proofs.rooms.inserted_size.Goals as goal

pub returns-in-Load-Ref-default : goal.returns-in-Load-Ref-default
returns-in-Load-Ref-default c = search (rules, length-load)

pub returns-in-Store-Ref-default : goal.returns-in-Store-Ref-default
returns-in-Store-Ref-default c = search (rules, length-store)

pub returns-in-Static : goal.returns-in-Static
returns-in-Static c = rw c.in-Static.is (length-static c.in-Static.field-0)
