use Rattle.std.proofs.Common.{◌≡◌, ap, sym, subst, Some, None}
use Rattle.std.specs.Prelude.{IsSome}
use Rattle.std.specs.Option.{option_map, unwrap_or}
use Rattle.fm_cells.specs.Objects.{Object}
use Rattle.fm_cells.specs.inner.Residents.{resident_object}
use Rattle.fm_cells.specs.Stores.{object_at}
use Rattle.fm_cells.proofs.PlainStores.{found_some, found_none}
use Rattle.fm_cells.proofs.plain_cells.PlainCellsMemory.chain.Goals as goal

pub unreachable-requires : goal.unreachable-requires
unreachable-requires c =
    let none : object_at c.args.self.now c.args.cell.0 ≡ None = found_none c.self.inside _ _ c.args.cell.0 _ c.self.view_is c.deref.ensures.value c.in-None.is c.resident_at.ensures in
    let no : IsSome {T = Object} None = subst IsSome none c.requires in cc

pub returns : goal.returns
returns c =
    let some : object_at c.args.self.now c.args.cell.0 ≡ Some (resident_object c.in-Some.resident.now) = found_some c.self.inside _ _ c.args.cell.0 _ c.in-Some.resident c.self.view_is c.deref.ensures.value c.in-Some.is c.resident_at.ensures in
    sym (ap (λ o. unwrap_or (option_map (λ (object : Object). object.chain) o) 0) some)
