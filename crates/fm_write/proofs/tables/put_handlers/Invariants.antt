use Rattle.std.proofs.Common.{◌≡◌, ◌++◌}
use Rattle.std.specs.List.{flat_map}
use Rattle.std.specs.Slice.Iter.{iter_rest}
use Rattle.fm_code.specs.ClassBytes.{handler_bytes}
use Rattle.fm_write.proofs.tables.put_handlers.Given as goal

abbrev pub invariant-loop-handler : goal.invariant-loop-handler
invariant-loop-handler l = l.out.items ++ flat_map (handler_bytes l.code) (iter_rest l.handler-iterator) ≡ l.initial.out.items ++ flat_map (handler_bytes l.code) l.code.handlers
