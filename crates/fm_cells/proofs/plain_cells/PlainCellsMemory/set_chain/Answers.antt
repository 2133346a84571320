use Rattle.std.proofs.Common.{◌≡◌, ap, sym, refl, ◌∙◌, subst, Some, None, arith}
use Rattle.std.specs.Prelude.{IsSome}
use Rattle.std.specs.Option.{option_map}
use Rattle.fm_cells.specs.Changes.{chained_by}
use Rattle.fm_cells.specs.Objects.{Object}
use Rattle.fm_cells.specs.inner.Residents.{resident_object}
use Rattle.fm_cells.specs.inner.PlainStores.{plain_store, IsPlain}
use Rattle.fm_cells.specs.Stores.{object_at}
use Rattle.fm_cells.proofs.Elements.{chained_by-some, fits_at}
use Rattle.fm_cells.proofs.Changes.{object_words-with_chain}
use Rattle.fm_cells.proofs.PlainStores.{resident_read, overwritten}
use Rattle.fm_cells.proofs.Soundness.{IsObject-with_chain}
use Rattle.fm_cells.proofs.plain_cells.PlainCellsMemory.set_chain.Goals as goal
use Rattle.fm_cells.proofs.plain_cells.PlainCellsMemory.set_chain.Goals.{in-Some, in_default}

both : (c : goal.Joined-index_mut) → (plain_store c.match-index_mut.self-inside ≡ chained_by c.args.self.now c.args.cell.0 c.args.to.0) × IsPlain c.match-index_mut.self-inside
both c =
    let held : IsSome (object_at c.args.self.now c.args.cell.0) = c.requires in
    let read = resident_read c.self.inside c.args.self.now c.args.cell.0 c.index_mut.result.now c.self.view_is c.self.invariant held c.index_mut.ensures.value in
    elim c.match-index_mut.branch as (λ _. (plain_store c.match-index_mut.self-inside ≡ chained_by c.args.self.now c.args.cell.0 c.args.to.0) × IsPlain c.match-index_mut.self-inside) [
      | in-Some w ↦
          let old = resident_object w.in-Some.resident in
          let some : object_at c.args.self.now c.args.cell.0 ≡ Some old = read ∙ ap (λ o. option_map resident_object o) w.in-Some.is in
          let object = fits_at _ c.args.self.now c.args.cell.0 old c.self.view_is c.self.invariant.sound some in
          let change = overwritten c.self.inside _ c.args.self.now c.args.cell.0 old (record w.in-Some.resident { chain = c.args.to.0 }) c.self.view_is c.self.invariant some w.self-inside-is
          (IsObject-with_chain old c.args.to.0 object (omega arith)) refl (object_words-with_chain old c.args.to.0) in
          (change.0 ∙ sym (chained_by-some c.args.self.now c.args.cell.0 c.args.to.0 old some), change.1)
      | in_default w ↦
          let none : object_at c.args.self.now c.args.cell.0 ≡ None = read ∙ ap (λ o. option_map resident_object o) w.in_default.is in
          let no : IsSome {T = Object} None = subst IsSome none held in absurd (cc)
    ]

pub invariant_of-self : goal.invariant_of-self
invariant_of-self c = (both c).1

pub returns : goal.returns
returns c = (both c).0
