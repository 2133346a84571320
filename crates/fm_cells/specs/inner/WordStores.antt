-- One vector of words, seen as a store.
use Rattle.std.specs.Prelude.{◌≡◌, ◌-◌, ◌*◌, ◌^◌, ◌≤◌, length}
use Rattle.fm_cells.specs.Stores.{Store, live_words}
use Rattle.fm_cells.specs.Soundness.{IsSound, IsLastReused}
use Rattle.fm_cells.specs.inner.Layouts.{words_store, Keeps}
use Rattle.fm_cells.specs.declared.word_cells.WordCells.TheInside.{Inside}

-- the store that the fields are
abbrev pub word_store : Inside → Store
word_store inside = words_store inside.words.items inside.marks.items inside.heads inside.made inside.budget inside.limit inside.births inside.peak

-- the fields keep a sound store of memory that takes the last freed cell, and the live words are its; there is a mark for each word
pub record IsWords (inside : Inside) : Type 0 where
  pub sound : IsSound (word_store inside)
  pub last_reused : IsLastReused (word_store inside)
  pub keeps : Keeps inside.words.items inside.marks.items inside.heads (word_store inside)
  pub live_is : inside.live ≡ live_words (word_store inside)
  pub limit_fits : inside.limit ≤ 2 ^ 32 - 2
  pub marks_long : length inside.words.items ≤ 64 * length inside.marks.items
