use Rattle.std.proofs.Common.{◌≡◌, ◌<◌, ap, sym, ◌∙◌, Some, None, arith, get_or, length}
use Rattle.std.proofs.lemmas.List.{get_or_default}
use Rattle.fm_cells.specs.inner.Residents.{resident_object}
use Rattle.fm_cells.specs.Stores.{object_at, elements_at}
use Rattle.fm_cells.proofs.PlainStores.{found_some, found_none}
use Rattle.fm_cells.proofs.Elements.{elements_at-some, elements_at-none, element-fits}
use Rattle.fm_cells.proofs.plain_cells.PlainCellsMemory.get.Goals as goal

pub index-requires : goal.index-requires
index-requires c =
    let some : object_at c.args.self.now c.args.cell.0 ≡ Some (resident_object c.in-Some.resident.now) = found_some c.self.inside _ _ c.args.cell.0 _ c.in-Some.resident c.self.view_is c.deref.ensures.value c.in-Some.is c.resident_at.ensures in
    omega (arith, ap length (elements_at-some c.args.self.now c.args.cell.0 (resident_object c.in-Some.resident.now) some), c.in-Some.resident.now.elements.ok.0)

pub unreachable-requires : goal.unreachable-requires
unreachable-requires c =
    let none : object_at c.args.self.now c.args.cell.0 ≡ None = found_none c.self.inside _ _ c.args.cell.0 _ c.self.view_is c.deref.ensures.value c.in-None.is c.resident_at.ensures in
    omega (arith, ap length (elements_at-none c.args.self.now c.args.cell.0 none))

pub returns-clause-value : goal.returns-clause-value
returns-clause-value c =
    let some : object_at c.args.self.now c.args.cell.0 ≡ Some (resident_object c.in-Some.resident.now) = found_some c.self.inside _ _ c.args.cell.0 _ c.in-Some.resident c.self.view_is c.deref.ensures.value c.in-Some.is c.resident_at.ensures in
    let same : elements_at c.args.self.now c.args.cell.0 ≡ c.in-Some.resident.now.elements.items = elements_at-some c.args.self.now c.args.cell.0 (resident_object c.in-Some.resident.now) some in
    let within : c.args.place < length c.in-Some.resident.now.elements.items = omega (arith, ap length same) in
    c.index.ensures ∙ get_or_default c.in-Some.resident.now.elements.items c.args.place c.index.result.now 0 within ∙ ap (λ all. get_or all c.args.place 0) (sym same)

pub returns-clause-fits : goal.returns-clause-fits
returns-clause-fits c =
    let some : object_at c.args.self.now c.args.cell.0 ≡ Some (resident_object c.in-Some.resident.now) = found_some c.self.inside _ _ c.args.cell.0 _ c.in-Some.resident c.self.view_is c.deref.ensures.value c.in-Some.is c.resident_at.ensures in
    let same : elements_at c.args.self.now c.args.cell.0 ≡ c.in-Some.resident.now.elements.items = elements_at-some c.args.self.now c.args.cell.0 (resident_object c.in-Some.resident.now) some in
    let within : c.args.place < length c.in-Some.resident.now.elements.items = omega (arith, ap length same) in
    let value : c.index.result.now ≡ get_or (elements_at c.args.self.now c.args.cell.0) c.args.place 0 = c.index.ensures ∙ get_or_default c.in-Some.resident.now.elements.items c.args.place c.index.result.now 0 within ∙ ap (λ all. get_or all c.args.place 0) (sym same) in
    element-fits _ c.args.self.now c.args.cell.0 c.args.place c.index.result.now c.self.view_is c.self.invariant.sound c.requires value
