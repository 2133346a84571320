use Rattle.std.proofs.Common.{get_or}
use Rattle.std.specs.Option.{option_map}
use Rattle.std.proofs.lemmas.List.Elements.{Contains-get_or}
use Rattle.fm_base.specs.declared.ids.MethodId.{MethodId}
use Rattle.fm_rapid.proofs.SelectedLemmas.{found_all, found_next}
use Rattle.fm_world.specs.Lookups.{select}
use Rattle.fm_rapid.proofs.selected.selected_by.Goals as goal

pub select-requires-clause-method : goal.select-requires-clause-method
select-requires-clause-method c =
    c.requires.methods (get_or c.args.methods.now c.loop-method.method-index 0)
    (Contains-get_or c.args.methods.now c.loop-method.method-index 0 c.loop-method-test.true)

pub loop-method-preserved : goal.loop-method-preserved
loop-method-preserved c =
    found_next (select c.args.program.now.outline.classes c.args.class.0) c.args.methods.now c.loop-method.method-index
    c.loop-method.found.items c.push_some.new.found.items (option_map (λ (m : MethodId). m.0) c.select.result) c.loop-method-test.true
    c.loop-method.invariant c.in_ok-push_some.ensures c.select.ensures

pub returns : goal.returns
returns c =
    found_all (select c.args.program.now.outline.classes c.args.class.0) c.args.methods.now c.loop-method.method-index
    c.loop-method.found.items c.loop-method-test.false c.loop-method.invariant
