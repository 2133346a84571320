use Rattle.std.proofs.Common.{refl, replicate}
use Rattle.fm_cells.specs.declared.word_cells.WordCells.TheInside.{Inside}
use Rattle.fm_cells.proofs.WordMakes.{opened-done}
use Rattle.fm_cells.proofs.word_cells.WordCells.new.Goals as goal

-- the fields of the new memory
abbrev fields : goal.After-new-2 → Inside
fields c = record {
  words = c.new.result;
  marks = c.new-2.result;
  heads = replicate 64 0;
  made = replicate 64 0;
  budget = c.args.budget;
  limit = c.args.store;
  births = 0;
  live = 0;
  peak = 0;
}

pub invariant_of-result : goal.invariant_of-result
invariant_of-result c = (opened-done (fields c) c.args.budget c.args.store c.new.ensures.items c.new-2.ensures.items refl refl refl refl refl refl refl c.requires).1

pub returns : goal.returns
returns c = (opened-done (fields c) c.args.budget c.args.store c.new.ensures.items c.new-2.ensures.items refl refl refl refl refl refl refl c.requires).0
