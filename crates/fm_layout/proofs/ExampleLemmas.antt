-- The method that frees an array meets what layout and move_tables ask.
use Rattle.std.proofs.Common.{◌≡◌, ℕ, zero, suc, ◌+◌, ◌<◌, [], map, refl, inl, arith}
use Rattle.std.specs.Prelude.{slice_index}
use Rattle.std.specs.List.{flat_map}
use Rattle.fm_code.proofs.Tested.{are_bytes, items_spelled, meant, read}
use Rattle.fm_code.specs.ClassBytes.{item_bytes}
use Rattle.fm_code.specs.Edges.{MeetsCodeRules}
use Rattle.fm_code.specs.InstructionTable.{insn_at}
use Rattle.fm_code.specs.SpellsCode.{SpellsCode}
use Rattle.fm_layout.specs.Conditions.{AreNewItems, AreOldItems}
use Rattle.fm_layout.specs.Example.{popped_anchors, popped_code, popped_new, popped_old}
use Rattle.fm_layout.specs.Laid.{laid_of}
use Rattle.fm_layout.specs.Tables.{AreAnchors}

popped_read : map read popped_old ≡ map (meant popped_old) popped_old
unfolding insn_at
popped_read = refl

popped_spelled : SpellsCode (flat_map item_bytes popped_old) popped_old
popped_spelled = record { bytes_are = refl; offsets = (refl, (refl, (refl, (refl, tt)))); spelled = items_spelled popped_old popped_old popped_read refl }

pub popped_old_ready : AreOldItems popped_old
popped_old_ready = record {
  code = flat_map item_bytes popped_old;
  spelled = popped_spelled;
  bytes = are_bytes (flat_map item_bytes popped_old) refl;
  not_long = omega arith;
  supported = (refl, (refl, (refl, (refl, tt))));
}

pub popped_new_ready : AreNewItems popped_old popped_new
popped_new_ready = record {
  each = (tt, (omega arith, (refl, (refl, (tt, (omega arith, (refl, (omega arith, (omega arith, (tt, (omega arith, (refl, tt))))))))))));
  targets = (tt, (tt, (tt, (tt, (tt, (tt, (tt, (tt, (tt, (tt, (tt, (tt, tt))))))))))));
  in_order = refl;
  few = omega arith;
}

pub popped_meets_rules : MeetsCodeRules popped_code
popped_meets_rules = (
  [],
  record {
    not_empty = omega arith;
    not_long = omega arith;
    measured = refl;
    spelled = popped_spelled;
    locals = (tt, (tt, (tt, (tt, tt))));
    operands = (tt, (tt, (tt, (tt, tt))));
    handlers = (record { not_empty = omega arith; end = omega arith; handler = omega arith; catch_class = inl refl }, tt);
    attributes = tt;
  },
)

anchors_rise : (k : ℕ) → k + 1 < 5 → slice_index popped_anchors k < slice_index popped_anchors (k + 1)
anchors_rise zero inside = omega arith
anchors_rise (suc zero) inside = omega arith
anchors_rise (suc (suc zero)) inside = omega arith
anchors_rise (suc (suc (suc zero))) inside = omega arith
anchors_rise (suc (suc (suc (suc k)))) inside = absurd (omega arith)

anchors_within : (k : ℕ) → k < 5 → slice_index popped_anchors k < 13
anchors_within zero inside = omega arith
anchors_within (suc zero) inside = omega arith
anchors_within (suc (suc zero)) inside = omega arith
anchors_within (suc (suc (suc zero))) inside = omega arith
anchors_within (suc (suc (suc (suc zero)))) inside = omega arith
anchors_within (suc (suc (suc (suc (suc k))))) inside = absurd (omega arith)

pub popped_anchors_ready : AreAnchors popped_code (laid_of popped_old popped_new) popped_anchors
unfolding laid_of
popped_anchors_ready = record { count = refl; rising = anchors_rise; within = anchors_within }
