-- A code whose only way back is by a handler, as of a call that is tried again until it throws nothing.
use Rattle.std.specs.Prelude.{[], ◌∷◌}
use Rattle.fm_code.specs.EdgesExample.{item_of}
use Rattle.fm_code.specs.declared.code_array.Code.{Code}
use Rattle.fm_code.specs.declared.instructions.Insn.TheVariants as insn
use Rattle.fm_code.specs.declared.operations.Reg.TheVariants as reg

-- aload_0 and athrow; what is thrown is caught and stored, and then both are done again
abbrev pub retrying_code : Code
retrying_code = record {
  max_stack = 1;
  max_locals = 2;
  items =
      item_of 0 (42 ∷ []) (insn.Load reg.Ref 0)
      ∷ item_of 1 (191 ∷ []) insn.Throw
      ∷ item_of 2 (76 ∷ []) (insn.Store reg.Ref 1)
      ∷ item_of 3 (167 ∷ 255 ∷ 253 ∷ []) (insn.Goto 0)
      ∷ [];
  length = 6;
  handlers = record { start = 1; end = 2; handler = 2; catch_class = 0 } ∷ [];
  attributes = [];
}
