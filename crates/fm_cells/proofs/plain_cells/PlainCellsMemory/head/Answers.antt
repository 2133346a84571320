use Rattle.std.proofs.Common.{◌≡◌, ap, sym, ◌∙◌, Some, None, arith, length}
use Rattle.std.specs.Option.{option_map}
use Rattle.fm_cells.specs.Answers.{head_of}
use Rattle.fm_cells.specs.Objects.{IsObject}
use Rattle.fm_cells.specs.inner.Residents.{resident_object}
use Rattle.fm_cells.specs.Stores.{object_at}
use Rattle.fm_cells.proofs.Elements.{fits_at}
use Rattle.fm_cells.proofs.PlainStores.{found_some, found_none}
use Rattle.fm_cells.proofs.plain_cells.PlainCellsMemory.head.Goals as goal

pub returns-in_err-resident : goal.returns-in_err-resident
returns-in_err-resident c =
    let was : c.resident_at.result ≡ None = c.in_err-resident.was {u = tt} in
    let none : object_at c.args.self.now c.args.cell.0 ≡ None = found_none c.self.inside _ _ c.args.cell.0 _ c.self.view_is c.deref.ensures.value was c.resident_at.ensures in
    c.from_residual.ensures ∙ sym (ap (λ o. option_map head_of o) none)

pub overflow_cast-result : goal.overflow_cast-result
overflow_cast-result c =
    let was : c.resident_at.result ≡ Some c.in_ok-resident.resident = c.in_ok-resident.was {u = tt} in
    let some : object_at c.args.self.now c.args.cell.0 ≡ Some (resident_object c.in_ok-resident.resident.now) = found_some c.self.inside _ _ c.args.cell.0 _ c.in_ok-resident.resident c.self.view_is c.deref.ensures.value was c.resident_at.ensures in
    let object : IsObject (resident_object c.in_ok-resident.resident.now) = fits_at _ c.args.self.now c.args.cell.0 (resident_object c.in_ok-resident.resident.now) c.self.view_is c.self.invariant.sound some in
    omega (arith, object.length_fits, c.in_ok-resident.resident.now.elements.ok.0, c.len.ensures)

pub returns : goal.returns
returns c =
    let was : c.resident_at.result ≡ Some c.in_ok-resident.resident = c.in_ok-resident.was {u = tt} in
    let some : object_at c.args.self.now c.args.cell.0 ≡ Some (resident_object c.in_ok-resident.resident.now) = found_some c.self.inside _ _ c.args.cell.0 _ c.in_ok-resident.resident c.self.view_is c.deref.ensures.value was c.resident_at.ensures in
    let len : c.len.result ≡ length c.in_ok-resident.resident.now.elements.items = c.len.ensures ∙ c.in_ok-resident.resident.now.elements.ok.0 in
    sym (ap (λ o. option_map head_of o) some ∙ ap (λ n. Some (record (head_of (resident_object c.in_ok-resident.resident.now)) { len = n })) (sym len))
