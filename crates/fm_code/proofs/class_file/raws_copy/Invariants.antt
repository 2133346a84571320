use Rattle.std.proofs.Common.{◌≡◌, take}
use Rattle.fm_code.proofs.class_file.raws_copy.Given as goal

abbrev pub invariant-loop-raw : goal.invariant-loop-raw
invariant-loop-raw l = l.copies.items ≡ take l.raw-index l.raws
