use Rattle.fm_law_no_fault.proofs.Operands.{int_asked, long_asked, object_asked}
use Rattle.fm_law_no_fault.proofs.laws.law_operands.Goals as goal

pub returns-clause-objects : goal.returns-clause-objects
returns-clause-objects c =
    λ o tree store own news slots words h n s at t f follows each. object_asked o store own news slots words h n s at tree t f follows each

pub returns-clause-ints : goal.returns-clause-ints
returns-clause-ints c = int_asked

pub returns-clause-longs : goal.returns-clause-longs
returns-clause-longs c = long_asked
