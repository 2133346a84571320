use Rattle.fm_types.specs.Typed.{use_by}
use Rattle.fm_frames.specs.Rows.{effect_of}
use Rattle.fm_frames.specs.Sights.{sights}
use Rattle.fm_law_no_fault.proofs.AllRows.{rows_owe}
use Rattle.fm_law_no_fault.proofs.FrameRows.{no_fault, row_here}
use Rattle.fm_law_no_fault.proofs.laws.law_rows.Goals as goal

pub returns : goal.returns
returns c = λ p typings typed steps cells free x sound areas f i after h stands whole byte.
    no_fault (row_here p typings typed steps cells x sound areas f i after h stands whole)
    (effect_of p.outline f.method (use_by p f.method i) i byte (sights p.outline x.store f.stack))
    (rows_owe p typings typed steps cells free x sound areas f i after h stands whole byte)
