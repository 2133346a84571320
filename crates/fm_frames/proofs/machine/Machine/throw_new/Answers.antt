use Rattle.std.proofs.Common.{◌≡◌, ◌<◌, ◌^◌, Option, Some, IfSome, refl, ap, sym, ◌∙◌, subst, false}
use Rattle.fm_cells.specs.Objects.{new_object, request_of}
use Rattle.fm_cells.specs.Stores.{object_at}
use Rattle.fm_cells.specs.declared.answers.Cell.{Cell}
use Rattle.fm_frames.proofs.Programs.{built_in-inside, class-size}
use Rattle.fm_frames.proofs.Throwing.{thrown-actions, thrown-new, thrown-request, told-ok}
use Rattle.fm_frames.proofs.machine.Machine.throw_new.Goals as goal
use Rattle.fm_frames.specs.Operands.{thrown}
use Rattle.fm_frames.specs.inner.Doings.{MakesOne}
use Rattle.fm_types.specs.Named.{built_in_type}
use Rattle.fm_world.specs.declared.records.ClassInfo.{ClassInfo}

pub class-requires : goal.class-requires
class-requires g c = built_in-inside c.args.program.now c.args.class.0 c.requires.can.runnable c.requires.built_in

pub make_one-requires-clause-len_fits : goal.make_one-requires-clause-len_fits
make_one-requires-clause-len_fits g c =
    subst (λ n. n < 2 ^ 31) (sym (ap (λ (k : ClassInfo). k.size) c.class.ensures ∙ class-size c.args.program.now.outline c.args.class.0))
    (c.requires.can.runnable.sizes c.args.class.0)

pub returns-in_default : goal.returns-in_default
returns-in_default g c name is =
    let o = c.args.program.now.outline in
    let size = ap (λ (k : ClassInfo). k.size) c.class.ensures ∙ class-size o c.args.class.0 in
    subst (MakesOne c.args.program.now g.M.Memory.choose c.args.self.now c.make_one.new.self (thrown o name)) c.in_default.is
    (c.in_ok-cell.ensures.makes c.args.program.now (built_in_type o name) (thrown o name)
    (thrown-request o name c.args.class.0 c.type_id-id.result.0 c.class.result.now.size c.pack_of-pack.result c.type_of_class-t.result is
    c.type_of_class-t.ensures c.type_id-id.ensures.number (c.pack_of-pack.ensures.value c.requires.can.runnable))
    (thrown-actions o name c.args.class.0 c.class.result.now.size is size) refl)

pub returns : goal.returns
returns g c =
    told-ok c.throw.result _ _
    (λ left name is.
    let o = c.args.program.now.outline in
    let size = ap (λ (k : ClassInfo). k.size) c.class.ensures ∙ class-size o c.args.class.0 in
    let request = request_of c.type_id-id.result.0 c.class.result.now.size c.pack_of-pack.result false in
    let Holds : Option Cell → Type 0 = λ made. IfSome made (λ (cell : Cell). object_at c.make_one.new.self.areas.store cell.0
    ≡ Some (new_object c.args.self.now.areas.store.births request)) in
    thrown-new c.args.program.now g.M.Memory.choose c.args.self.now c.make_one.new.self c.throw.new.self name c.in-Some.cell
    (new_object c.args.self.now.areas.store.births request) c.type_numbered.result c.requires.can.ready.next_fits
    (subst (MakesOne c.args.program.now g.M.Memory.choose c.args.self.now c.make_one.new.self (thrown o name)) c.in-Some.is
    (c.in_ok-cell.ensures.makes c.args.program.now (built_in_type o name) (thrown o name)
    (thrown-request o name c.args.class.0 c.type_id-id.result.0 c.class.result.now.size c.pack_of-pack.result c.type_of_class-t.result is
    c.type_of_class-t.ensures c.type_id-id.ensures.number (c.pack_of-pack.ensures.value c.requires.can.runnable))
    (thrown-actions o name c.args.class.0 c.class.result.now.size is size) refl))
    (subst Holds c.in-Some.is c.in_ok-cell.ensures.object) c.type_numbered.ensures.value left)
    c.throw.ensures
