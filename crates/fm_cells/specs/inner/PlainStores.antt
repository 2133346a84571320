-- A list of optional objects, seen as a store: cell 1 is the first of them, and a freed cell never serves again.
use Rattle.std.specs.Prelude.{◌≡◌, ◌-◌, ◌≤◌, ◌^◌}
use Rattle.fm_cells.specs.Stores.{Store, live_words}
use Rattle.fm_cells.specs.Soundness.{IsSound, IsNeverReused}
use Rattle.fm_cells.specs.inner.Residents.{plain_of}
use Rattle.fm_cells.specs.declared.plain_cells.PlainCells.TheInside.{Inside}

-- the store that the list and the numbers beside it are
abbrev pub plain_store : Inside → Store
plain_store inside = plain_of inside.residents.items inside.budget inside.limit inside.made_words inside.peak inside.made

-- the store is a sound one of memory that is never reused, and the live words are its
pub record IsPlain (inside : Inside) : Type 0 where
  pub sound : IsSound (plain_store inside)
  pub never_reused : IsNeverReused (plain_store inside)
  pub live_is : inside.live ≡ live_words (plain_store inside)
  pub limit_fits : inside.limit ≤ 2 ^ 32 - 2
