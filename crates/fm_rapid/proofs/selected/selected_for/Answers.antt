use Rattle.std.proofs.Common.{get_or}
use Rattle.std.specs.Option.{option_map}
use Rattle.std.proofs.lemmas.List.Elements.{Contains-get_or}
use Rattle.fm_base.specs.declared.ids.MethodId.{MethodId}
use Rattle.fm_rapid.proofs.SelectedLemmas.{found_all, found_next}
use Rattle.fm_world.specs.Lookups.{select}
use Rattle.fm_rapid.proofs.selected.selected_for.Goals as goal

pub select-requires-clause-class : goal.select-requires-clause-class
select-requires-clause-class c =
    c.requires.classes (get_or c.args.classes.now c.loop-class.class-index 0)
    (Contains-get_or c.args.classes.now c.loop-class.class-index 0 c.loop-class-test.true)

pub loop-class-preserved : goal.loop-class-preserved
loop-class-preserved c =
    found_next (λ class. select c.args.program.now.outline.classes class c.args.method.0) c.args.classes.now c.loop-class.class-index
    c.loop-class.found.items c.push_some.new.found.items (option_map (λ (m : MethodId). m.0) c.select.result) c.loop-class-test.true
    c.loop-class.invariant c.in_ok-push_some.ensures c.select.ensures

pub returns : goal.returns
returns c =
    found_all (λ class. select c.args.program.now.outline.classes class c.args.method.0) c.args.classes.now c.loop-class.class-index
    c.loop-class.found.items c.loop-class-test.false c.loop-class.invariant
