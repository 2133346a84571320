use Rattle.std.proofs.Common.{◌+◌, ◌∙◌, length, arith, None}
use Rattle.fm_world.proofs.TableLemmas.{length-row}
use Rattle.fm_world.specs.Chains.{listed_interfaces, parent_of}
use Rattle.fm_world.specs.Members.{first_method, size_of}
use Rattle.fm_world.specs.Programs.{class_info}
use Rattle.fm_link_records.specs.inner.Classes.{bare_outline}
use Rattle.fm_link_records.proofs.ClassSteps.{info_is, length-lists, list_at, table_default}
use Rattle.fm_link_records.proofs.RowSteps.{row_more}
use Rattle.fm_link_records.proofs.classes.class_infos.Goals as goal

pub bounds-listed-place : goal.bounds-listed-place
bounds-listed-place c =
    let e = length-lists (listed_interfaces c.args.classes.now) (length c.args.classes.now) c.args.listed.now c.requires.listed in
    let h = c.loop-place-test.true in omega (arith, e, h)

pub bounds-parents-place : goal.bounds-parents-place
bounds-parents-place c =
    let e = length-row (parent_of c.args.classes.now) (length c.args.classes.now) c.args.parents.now c.requires.parents in
    let h = c.loop-place-test.true in omega (arith, e, h)

pub bounds-first-place : goal.bounds-first-place
bounds-first-place c =
    let e = length-row (first_method c.args.classes.now) (length c.args.classes.now + 1) c.args.first.now c.requires.first in
    let h = c.loop-place-test.true in omega (arith, e, h)

pub bounds-sizes-place : goal.bounds-sizes-place
bounds-sizes-place c =
    let e = length-row (size_of c.args.classes.now) (length c.args.classes.now) c.args.sizes.now c.requires.sizes in
    let h = c.loop-place-test.true in omega (arith, e, h)

pub loop-place-preserved : goal.loop-place-preserved
loop-place-preserved c =
    let classes = c.args.classes.now in
    let place = c.loop-place.place in
    let h = c.loop-place-test.true in
    row_more (class_info (bare_outline classes)) place c.loop-place.infos.items c.push.new.self.items c.in_ok-info.info c.in_ok-push.ensures.items
    c.loop-place.invariant
    (info_is classes place c.index-classes-place.result _ _ _ _ c.in_ok-info.info h c.index-classes-place.is
    (table_default (parent_of classes) (length classes) place c.args.parents.now None c.requires.parents h)
    (c.as_slice-interfaces.ensures.value
    ∙ list_at (listed_interfaces classes) (length classes) place c.args.listed.now c.index-listed-place.result c.requires.listed h
    c.index-listed-place.is)
    (table_default (first_method classes) (length classes + 1) place c.args.first.now 0 c.requires.first (omega (arith, h)))
    (table_default (size_of classes) (length classes) place c.args.sizes.now 0 c.requires.sizes h)
    c.in_ok-info.ensures)
