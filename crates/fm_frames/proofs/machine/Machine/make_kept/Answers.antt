use Rattle.std.proofs.Common.{[], Some, None, ap, sym, ◌∙◌, subst, length, unwrap_or}
use Rattle.fm_cells.specs.Objects.{request_of}
use Rattle.fm_base.specs.declared.kinds.TypeRef.{TypeRef}
use Rattle.fm_frames.proofs.TextSteps.{kept-request, made-takes, made-written}
use Rattle.fm_frames.proofs.machine.Machine.make_kept.Goals as goal
use Rattle.fm_frames.specs.inner.Doings.{Makes}
use Rattle.fm_world.specs.Numbers.{type_number}

pub returns-in_default : goal.returns-in_default
returns-in_default g c t is pack =
    let p = c.args.program.now in
    let units = c.args.units.now in
    let r = request_of c.type_id-id.result.0 (length units) 4 c.args.fixed in
    let number = c.type_id-id.ensures.number ∙ ap (λ (t : TypeRef). unwrap_or (type_number p.outline.types t) 0) c.type_of_class.ensures in
    subst (λ r. Makes g.M.Memory.choose c.args.self.now c.make_object.new.self r units None)
    (sym (kept-request p c.type_id-id.result.0 c.args.class.0 (length units) c.args.fixed t number is pack))
    (subst (Makes g.M.Memory.choose c.args.self.now c.make_object.new.self r []) c.in_default.is c.in_ok-cell.ensures)

pub write_units-requires-clause-takes : goal.write_units-requires-clause-takes
write_units-requires-clause-takes g c =
    let units = c.args.units.now in
    let r = request_of c.type_id-id.result.0 (length units) 4 c.args.fixed in
    made-takes g.M.Memory.choose c.args.self.now c.make_object.new.self c.type_id-id.result.0 c.args.fixed units c.in-Some.cell
    (subst (Makes g.M.Memory.choose c.args.self.now c.make_object.new.self r []) c.in-Some.is c.in_ok-cell.ensures)

pub returns : goal.returns
returns g c t is pack =
    let p = c.args.program.now in
    let units = c.args.units.now in
    let r = request_of c.type_id-id.result.0 (length units) 4 c.args.fixed in
    let number = c.type_id-id.ensures.number ∙ ap (λ (t : TypeRef). unwrap_or (type_number p.outline.types t) 0) c.type_of_class.ensures in
    subst (λ r. Makes g.M.Memory.choose c.args.self.now c.write_units.new.machine r units (Some c.in-Some.cell))
    (sym (kept-request p c.type_id-id.result.0 c.args.class.0 (length units) c.args.fixed t number is pack))
    (made-written g.M.Memory.choose c.args.self.now c.make_object.new.self c.write_units.new.machine r units c.in-Some.cell
    (subst (Makes g.M.Memory.choose c.args.self.now c.make_object.new.self r []) c.in-Some.is c.in_ok-cell.ensures)
    c.write_units.ensures)
