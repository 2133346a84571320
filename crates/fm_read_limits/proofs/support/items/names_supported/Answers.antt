use Rattle.std.proofs.Common.{sym, subst}
use Rattle.fm_code.specs.Names.{IsClassName}
use Rattle.fm_read_limits.proofs.SpelledLemmas.{class_named_is}
use Rattle.fm_read_limits.proofs.support.items.names_supported.Goals as goal

pub is_floating_array-requires : goal.is_floating_array-requires
is_floating_array-requires c =
    subst IsClassName (sym c.as_slice.ensures) (class_named_is c.args.pool.now.entries c.requires c.args.insn.now c.in-Some.name.now (sym c.in-Some.ensures))
