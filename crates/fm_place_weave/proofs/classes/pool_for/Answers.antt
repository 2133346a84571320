use Rattle.std.proofs.Common.{Bool, sym, subst}
use Rattle.fm_chain.specs.Chaining.{entries_for}
use Rattle.fm_code.specs.ClassBytes.{pool_bytes}
use Rattle.fm_code.specs.ConstantPool.{SpellsPool}
use Rattle.fm_code.specs.FreeEntries.{with_free}
use Rattle.fm_code.specs.declared.constant_pool.Pool.{Pool}
use Rattle.fm_place_weave.proofs.ClassLemmas.{full_from}
use Rattle.fm_place_weave.specs.ClassByPlan.{IsFull}
use Rattle.fm_place_weave.proofs.classes.pool_for.Goals as goal

pub find_or_add_free-requires : goal.find_or_add_free-requires
find_or_add_free-requires c = subst (λ (p : Pool). SpellsPool (pool_bytes p) p) (sym c.in_ok-pool.ensures) c.requires

pub returns-in-Err-clause-refused : goal.returns-in-Err-clause-refused
returns-in-Err-clause-refused c =
    subst (λ (chains : Bool). IsFull (entries_for chains c.args.class.now.pool.entries) c.in-Err.fail) (sym c.if-chains.false)
    (subst (λ (p : Pool). IsFull (with_free p.entries) c.in-Err.fail) c.in_ok-pool.ensures
    (full_from (with_free c.in_ok-pool.pool.entries) c.find_or_add_free.result c.in-Err.fail c.in-Err.is c.find_or_add_free.ensures.full))
