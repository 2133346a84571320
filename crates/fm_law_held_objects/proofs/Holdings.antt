-- What a holder holds, by the colours of its object, and in other colours.
use Rattle.std.proofs.Common.{◌≡◌, ℕ, refl, sym, ◌∙◌, ap}
use Rattle.std.proofs.lemmas.Bool.{false≢true}
use Rattle.std.proofs.lemmas.Option.{none-some, same_Some}
use Rattle.fm_cells.specs.Objects.{Object}
use Rattle.fm_cells.specs.Soundness.{IsOrderly}
use Rattle.fm_cells.specs.Stores.{object_at, Store}
use Rattle.fm_frames.specs.Acts.{cell_of}
use Rattle.fm_frames.specs.States.{null}
use Rattle.fm_frames.specs.declared.values.Value.{Value}
use Rattle.fm_law_holders.specs.Holding.{Holding, HoldsFixed, HoldsNull, HoldsOwn, HoldsFreeable}
use Rattle.fm_same.specs.Colours.{Colour}
use Rattle.fm_same.specs.Regions.{Own}

-- what may be freed has the region of its holder
pub own_of : (store : Store) (colour : Colour) (depth class : ℕ) (v : Value) (birth : ℕ) → IsOrderly store → Holding store colour depth class v
    → HoldsFreeable store v birth → colour birth ≡ Own depth class
own_of store colour depth class v birth orderly (HoldsNull null_is) h =
    absurd (none-some h.object (sym orderly.null_not_held ∙ ap (λ w. object_at store (cell_of w)) (sym null_is) ∙ h.held))
own_of store colour depth class v birth orderly (HoldsFixed object held fixed) h =
    absurd (false≢true (sym h.not_fixed ∙ ap (λ (o : Object). o.fixed) (same_Some h.object object (sym h.held ∙ held)) ∙ fixed))
own_of store colour depth class v birth orderly (HoldsOwn object held loose own) h =
    ap colour (sym h.birth_is ∙ ap (λ (o : Object). o.birth) (same_Some h.object object (sym h.held ∙ held))) ∙ own

-- null leads to nothing
pub nothing_of_null : (store : Store) (birth : ℕ) → IsOrderly store → HoldsFreeable store null birth → ⊥
nothing_of_null store birth orderly h = none-some h.object (sym orderly.null_not_held ∙ h.held)

-- ---- in other colours

pub holding_by : (store : Store) (colour other : Colour) (depth class : ℕ) (v : Value) → ((birth : ℕ) → HoldsFreeable store v birth → other birth ≡ colour birth)
    → Holding store colour depth class v → Holding store other depth class v
holding_by store colour other depth class v same (HoldsNull null_is) = HoldsNull null_is
holding_by store colour other depth class v same (HoldsFixed object held fixed) = HoldsFixed object held fixed
holding_by store colour other depth class v same (HoldsOwn object held loose own) =
    HoldsOwn object held loose (same object.birth (record { object = object; held = held; not_fixed = loose; birth_is = refl }) ∙ own)
