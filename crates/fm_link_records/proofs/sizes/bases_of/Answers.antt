use Rattle.std.proofs.Common.{◌∙◌, length, arith}
use Rattle.fm_world.specs.Chains.{chain_of}
use Rattle.fm_link_records.specs.inner.Sizes.{base_of}
use Rattle.fm_link_records.proofs.ClassSteps.{length-lists, list_at}
use Rattle.fm_link_records.proofs.RowSteps.{row_more}
use Rattle.fm_link_records.proofs.SizeSteps.{base_is}
use Rattle.fm_link_records.proofs.sizes.bases_of.Goals as goal

pub bounds-chains-place : goal.bounds-chains-place
bounds-chains-place c =
    let e = length-lists (chain_of c.args.classes.now) (length c.args.classes.now) c.args.chains.now c.requires.chains in
    let h = c.loop-place-test.true in omega (arith, e, h)

pub loop-place-preserved : goal.loop-place-preserved
loop-place-preserved c =
    let classes = c.args.classes.now in
    let place = c.loop-place.place in
    let h = c.loop-place-test.true in
    row_more (base_of classes) place c.loop-place.bases.items c.push.new.self.items c.in_ok-base.base c.in_ok-push.ensures.items
    c.loop-place.invariant
    (base_is classes c.args.own.now c.as_slice-chain.result.now c.above-superclasses.result.now c.index-classes-place.result place c.in_ok-base.base h
    c.index-classes-place.is c.requires.own
    (c.as_slice-chain.ensures.value
    ∙ list_at (chain_of classes) (length classes) place c.args.chains.now c.index-chains-place.result c.requires.chains h c.index-chains-place.is)
    c.above-superclasses.ensures c.in_ok-base.ensures)
