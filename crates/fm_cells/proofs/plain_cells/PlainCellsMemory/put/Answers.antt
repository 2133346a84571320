use Rattle.std.proofs.Common.{◌≡◌, ◌<◌, ◌^◌, ap, sym, refl, ◌∙◌, subst, Some, None, arith, length}
use Rattle.std.specs.Prelude.{IsSome}
use Rattle.std.specs.Option.{option_map}
use Rattle.std.specs.Vec.{with_item}
use Rattle.fm_cells.specs.Sizes.{element_bits}
use Rattle.fm_cells.specs.Changes.{put_by}
use Rattle.fm_cells.specs.Objects.{Object}
use Rattle.fm_cells.specs.inner.Residents.{resident_object}
use Rattle.fm_cells.specs.inner.PlainStores.{plain_store, IsPlain}
use Rattle.fm_cells.specs.Stores.{object_at}
use Rattle.fm_cells.proofs.Elements.{pack_at-some, elements_at-some, held_of_elements, put_by-some, fits_at}
use Rattle.fm_cells.proofs.Changes.{object_words-with_element}
use Rattle.fm_cells.proofs.PlainStores.{resident_read, overwritten}
use Rattle.fm_cells.proofs.Soundness.{IsObject-with_element}
use Rattle.fm_cells.proofs.plain_cells.PlainCellsMemory.put.Goals as goal
use Rattle.fm_cells.proofs.plain_cells.PlainCellsMemory.put.Goals.{in-Some, in_default}

pub index_mut-requires-in-Some : goal.index_mut-requires-in-Some
index_mut-requires-in-Some c =
    let held : IsSome (object_at c.args.self.now c.args.cell.0) = held_of_elements c.args.self.now c.args.cell.0 c.args.place c.requires.within in
    let some : object_at c.args.self.now c.args.cell.0 ≡ Some (resident_object c.in-Some.resident) = resident_read c.self.inside c.args.self.now c.args.cell.0 c.index_mut.result.now c.self.view_is c.self.invariant held c.index_mut.ensures.value ∙ ap (λ o. option_map resident_object o) c.in-Some.is in
    omega (arith, c.requires.within, ap length (elements_at-some c.args.self.now c.args.cell.0 (resident_object c.in-Some.resident) some), c.in-Some.resident.elements.ok.0)

both : (c : goal.Joined-index_mut) → (plain_store c.match-index_mut.self-inside ≡ put_by c.args.self.now c.args.cell.0 c.args.place c.args.element) × IsPlain c.match-index_mut.self-inside
both c =
    let held : IsSome (object_at c.args.self.now c.args.cell.0) = held_of_elements c.args.self.now c.args.cell.0 c.args.place c.requires.within in
    let read = resident_read c.self.inside c.args.self.now c.args.cell.0 c.index_mut.result.now c.self.view_is c.self.invariant held c.index_mut.ensures.value in
    elim c.match-index_mut.branch as (λ _. (plain_store c.match-index_mut.self-inside ≡ put_by c.args.self.now c.args.cell.0 c.args.place c.args.element) × IsPlain c.match-index_mut.self-inside) [
      | in-Some w ↦
          let old = resident_object w.in-Some.resident in
          let some : object_at c.args.self.now c.args.cell.0 ≡ Some old = read ∙ ap (λ o. option_map resident_object o) w.in-Some.is in
          let fits : c.args.element < 2 ^ element_bits old.pack = subst (λ pack. c.args.element < 2 ^ element_bits pack) (pack_at-some c.args.self.now c.args.cell.0 old some) c.requires.fits in
          let object = fits_at _ c.args.self.now c.args.cell.0 old c.self.view_is c.self.invariant.sound some in
          let change = overwritten c.self.inside _ c.args.self.now c.args.cell.0 old (record w.in-Some.resident { elements = with_item w.in-Some.resident.elements c.args.place c.args.element }) c.self.view_is c.self.invariant some w.self-inside-is
          (IsObject-with_element old c.args.place c.args.element object fits) refl (object_words-with_element old c.args.place c.args.element) in
          (change.0 ∙ sym (put_by-some c.args.self.now c.args.cell.0 c.args.place c.args.element old some), change.1)
      | in_default w ↦
          let none : object_at c.args.self.now c.args.cell.0 ≡ None = read ∙ ap (λ o. option_map resident_object o) w.in_default.is in
          let no : IsSome {T = Object} None = subst IsSome none held in absurd (cc)
    ]

pub invariant_of-self : goal.invariant_of-self
invariant_of-self c = (both c).1

pub returns : goal.returns
returns c = (both c).0
