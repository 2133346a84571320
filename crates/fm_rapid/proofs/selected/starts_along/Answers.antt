use Rattle.std.proofs.Common.{get_or, ◌∙◌, ap}
use Rattle.std.specs.Option.{option_map}
use Rattle.std.proofs.lemmas.List.Elements.{Contains-get_or}
use Rattle.fm_base.specs.declared.ids.MethodId.{MethodId}
use Rattle.fm_rapid.proofs.SelectedLemmas.{found_all, found_next, start_is}
use Rattle.fm_world.specs.Members.{start_of}
use Rattle.fm_rapid.proofs.selected.starts_along.Goals as goal

pub class-requires : goal.class-requires
class-requires c =
    c.requires (get_or c.args.chain.now c.loop-class.class-index 0)
    (Contains-get_or c.args.chain.now c.loop-class.class-index 0 c.loop-class-test.true)

pub loop-class-preserved : goal.loop-class-preserved
loop-class-preserved c =
    let o = c.args.program.now.outline in
    let class = get_or c.args.chain.now c.loop-class.class-index 0 in
    found_next (start_of o.classes) c.args.chain.now c.loop-class.class-index c.loop-class.found.items c.push_some.new.found.items
    (option_map (λ (m : MethodId). m.0) c.class.result.now.start) c.loop-class-test.true c.loop-class.invariant c.in_ok-push_some.ensures
    (ap (λ i. option_map (λ (m : MethodId). m.0) i.start) c.class.ensures ∙ start_is o class)

pub returns : goal.returns
returns c =
    found_all (start_of c.args.program.now.outline.classes) c.args.chain.now c.loop-class.class-index c.loop-class.found.items c.loop-class-test.false
    c.loop-class.invariant
