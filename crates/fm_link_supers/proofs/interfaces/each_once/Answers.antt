use Rattle.std.proofs.Common.{◌∙◌, ℕ, List, ap, map, nat_eq}
use Rattle.std.specs.Global.{Vec}
use Rattle.fm_link_supers.proofs.TableSteps.{lists_push, map_end, map_step}
use Rattle.fm_link_supers.specs.inner.ListTables.{lists}
use Rattle.fm_world.specs.Chains.{distinct}
use Rattle.fm_link_supers.proofs.interfaces.each_once.Goals as goal

pub loop-interfaces-preserved : goal.loop-interfaces-preserved
loop-interfaces-preserved c =
    let f : Vec ℕ → List ℕ = λ list. distinct nat_eq list.items in
    map_step f c.args.listed.now c.loop-interfaces.interfaces-index c.interfaces-item.result (lists c.loop-interfaces.once.items)
    (lists c.push.new.self.items) (map f c.args.listed.now) c.in_ok-distinct.field-0.items c.loop-interfaces-test.true c.interfaces-item.is
    (lists_push c.loop-interfaces.once.items c.push.new.self.items c.in_ok-distinct.field-0 c.in_ok-push.ensures.items)
    (c.in_ok-distinct.ensures ∙ ap (distinct nat_eq) c.as_slice.ensures.value) c.loop-interfaces.invariant

pub returns : goal.returns
returns c =
    let f : Vec ℕ → List ℕ = λ list. distinct nat_eq list.items in
    map_end f c.args.listed.now c.loop-interfaces.interfaces-index (lists c.loop-interfaces.once.items) (map f c.args.listed.now) c.loop-interfaces-test.false
    c.loop-interfaces.invariant
