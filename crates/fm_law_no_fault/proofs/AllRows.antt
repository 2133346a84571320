-- All rows together, and what follows for steps and runs.
use Rattle.std.proofs.Common.{◌≡◌, Bool, true, false, refl}
use Rattle.fm_types.specs.Typed.{use_by}
use Rattle.fm_world.specs.Programs.{Program}
use Rattle.fm_frames.specs.Rows.{effect_of}
use Rattle.fm_frames.specs.Sights.{sights}
use Rattle.fm_same.specs.Resolved.{CallsNoFreeMe}
use Rattle.fm_law_sound.specs.Leading.{is_call}
use Rattle.fm_law_sound.specs.Resolved.{StepsAreResolved}
use Rattle.fm_law_sound.specs.Sound.{AreTyped, Typings}
use Rattle.fm_law_sound.proofs.CallsLead.{calls_lead}
use Rattle.fm_law_no_fault.specs.CellsResolved.{CellsAreResolved}
use Rattle.fm_law_no_fault.proofs.CallRows.{call_whole}
use Rattle.fm_law_no_fault.proofs.FrameRows.{plain_row, row_here}
use Rattle.fm_law_no_fault.proofs.RowCases.{kinds, Whole}
use Rattle.fm_law_no_fault.proofs.StepKeeps.{RowsOwe}

pub rows_owe : (p : Program) (typings : Typings) (typed : AreTyped p typings) (steps : StepsAreResolved p) (cells : CellsAreResolved p) → CallsNoFreeMe p
    → RowsOwe p typings typed steps cells
rows_owe p typings typed steps cells free x sound areas f i after h stands whole byte = by_call (is_call i) refl where
  by_call : (b : Bool) → is_call i ≡ b
      → Whole (row_here p typings typed steps cells x sound areas f i after h stands whole)
      (effect_of p.outline f.method (use_by p f.method i) i byte (sights p.outline x.store f.stack))
  by_call true call =
      call_whole p typings typed steps cells free x sound areas f i after h stands whole byte call
      (calls_lead p typings typed steps.calls f i after h (kinds (row_here p typings typed steps cells x sound areas f i after h stands whole)) call x sound byte)
  by_call false call = plain_row p typings typed steps cells x sound areas f i after h stands whole byte call
