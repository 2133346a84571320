use Rattle.std.proofs.Common.{◌≡◌, false, drop}
use Rattle.fm_code.specs.Names.{are_parts}
use Rattle.fm_pool_texts.proofs.names.is_binary_name.Given as goal

-- the rest decides
abbrev pub invariant-loop-c : goal.invariant-loop-c
invariant-loop-c l = are_parts l.begun (drop l.c-index l.name) ≡ are_parts false l.name
