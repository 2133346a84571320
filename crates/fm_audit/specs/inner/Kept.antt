-- What serves to see whether new items keep the old ones, and insert what may be inserted.
use Rattle.std.specs.Prelude.{◌≡◌, ◌≢◌, ◌&&◌, ℕ, Bool, true, List, [], ◌∷◌, length, drop, Option, Some, if◌then◌else◌}
use Rattle.std.specs.List.{list_all}
use Rattle.fm_code.specs.declared.code_array.Code.{Code}
use Rattle.fm_code.specs.declared.code_array.Item.{Item}
use Rattle.fm_audit.specs.Reading.{after_frees, after_taken, kept_count, Read, taken}
use Rattle.fm_audit.specs.SafeParts.{AreKept}
use Rattle.fm_audit.specs.declared.parts.Part.{Part}
use Rattle.fm_audit.specs.declared.parts.Part.TheVariants as part
use Rattle.fm_audit.specs.inner.Frees.{are_once_from}
use Rattle.fm_audit.specs.inner.Holders.{is_local}

-- of each old item there are new ones left
abbrev pub AreThere : (free first : ℕ) → (old new : List Item) → Type 0
AreThere free first [] new = Unit {0}
AreThere free first (item ∷ old) new =
    let here = after_frees free first new in
    let next = drop (kept_count item here) here in
    (length here ≢ 0) × AreThere free first old (after_taken (taken first next) next)

-- each holder that is found has a local that there may be, and none is freed twice before one item
abbrev pub is_insertable : Code → Read → Bool
is_insertable code found =
    list_all (is_local code.max_locals) found.starts
    && (list_all (λ (p : ℕ × ℕ). is_local code.max_locals p.1) found.pairs.before
    && (list_all (λ (p : ℕ × ℕ). is_local code.max_locals p.1) found.pairs.after && are_once_from 0 (length code.items) found.pairs.before))

-- the old items are kept, and what is found may be inserted
abbrev pub IsWell : (free : ℕ) → Code → Read → (new : List Item) → Type 0
IsWell free code found new = AreKept free code.max_locals code.items new × (is_insertable code found ≡ true)

-- the least part that is failed besides this one, if it is one, where new items keep the old ones well or not
abbrev pub least_failed : (well : Bool) → Option Part → Option Part
least_failed well later = if well then later else Some part.Items
