use Rattle.std.proofs.Common.{arith, map}
use Rattle.std.specs.declared.alloc.Global.{Global}
use Rattle.std.proofs.lemmas.List.{length-map}
use Rattle.std.proofs.lemmas.Result.{err_from_is_err_and}
use Rattle.fm_load.proofs.ListLemmas.{name_at}
use Rattle.fm_load.proofs.ReadLemmas.{all_next, read_ends, read_next, read_none}
use Rattle.fm_load.proofs.reading.read_classes.Goals as goal

pub returns-in_err-class-clause-within : goal.returns-in_err-class-clause-within
returns-in_err-class-clause-within g c =
    let there = name_at c.args.names.now c.loop-name.name-index _ (omega (arith, c.loop-name-test.true)) in
    all_next there c.loop-name.invariant c.read_class_file.ensures.reads c.read_class_file.ensures.once c.read_class_file.ensures.keeps

pub returns-in_err-class-clause-comes : goal.returns-in_err-class-clause-comes
returns-in_err-class-clause-comes g c =
    let there = name_at c.args.names.now c.loop-name.name-index _ (omega (arith, c.loop-name-test.true)) in
    let handed = err_from_is_err_and c.from_residual.result c.from_residual.ensures.1 in
    rw (handed.1, handed.2) (read_ends there c.loop-name.invariant c.read_class_file.ensures.reads c.read_class_file.ensures.once c.read_class_file.ensures.keeps
    Global (simp length-map c.requires) c.in_err-class.field-0.0 c.in_err-class.ensures.comes)

pub returns-in_err-push-clause-within : goal.returns-in_err-push-clause-within
returns-in_err-push-clause-within g c =
    let there = name_at c.args.names.now c.loop-name.name-index _ (omega (arith, c.loop-name-test.true)) in
    all_next there c.loop-name.invariant c.read_class_file.ensures.reads c.read_class_file.ensures.once c.read_class_file.ensures.keeps

pub loop-name-init : goal.loop-name-init
loop-name-init g c = rw c.new-classes.ensures.items (read_none (map (λ n. n.now) c.args.names.now) (g.F.Files.disk c.args.files.now))

pub loop-name-preserved : goal.loop-name-preserved
loop-name-preserved g c =
    let there = name_at c.args.names.now c.loop-name.name-index _ (omega (arith, c.loop-name-test.true)) in
    read_next there c.loop-name.invariant c.read_class_file.ensures.reads c.read_class_file.ensures.once c.read_class_file.ensures.keeps c.in_ok-class.class c.in_ok-class.length c.in_ok-class.ensures.comes
    _ c.in_ok-push.ensures.items
