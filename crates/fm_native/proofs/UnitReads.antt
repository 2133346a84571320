-- The units of a text that was found, read one by one.
use Rattle.std.proofs.Common.{◌≡◌, ℕ, ◌^◌, ◌<◌, get_or, sym, ◌∙◌, subst, arith}
use Rattle.std.proofs.lemmas.List.{get_or-take}
use Rattle.std.proofs.lemmas.List.Elements.{All-get_or}
use Rattle.fm_cells.specs.Stores.{elements_at, Store}
use Rattle.fm_frames.specs.inner.Places.{element_at}
use Rattle.fm_native.specs.declared.asked.Text.{Text}
use Rattle.fm_native.specs.inner.Asked.{IsTextAt, units_in}

pub unit-is : (store : Store) (text : Text) (place unit : ℕ) → place < text.len → unit ≡ element_at store text.cell.0 place
    → unit ≡ get_or (units_in store text) place 0
unit-is store text place unit within is = is ∙ sym (get_or-take text.len (elements_at store text.cell.0) place 0 within)

pub unit-fits : (store : Store) (text : Text) (place unit : ℕ) → IsTextAt store text → place < text.len → unit ≡ element_at store text.cell.0 place
    → unit < 2 ^ 16
unit-fits store text place unit known within is =
    subst (λ n. n < 2 ^ 16) (sym (unit-is store text place unit within is))
    (All-get_or (λ unit. unit < 2 ^ 16) (units_in store text) place 0 (omega (arith, known.len)) known.units)
