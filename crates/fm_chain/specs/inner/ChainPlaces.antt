-- Where the entries of FreeMe's methods are in a pool, and how many are missing.
use Rattle.std.specs.Prelude.{ℕ, ◌+◌, List}
use Rattle.fm_chain.specs.ChainEntries.{chain_method, link_method}
use Rattle.fm_chain.specs.declared.entries.ChainPlaces.{ChainPlaces}
use Rattle.fm_code.specs.declared.constant_pool.Entry.{Entry}
use Rattle.fm_pool.specs.inner.EntryPlaces.{method_places, missing_of, with_descriptor}
use Rattle.fm_pool.specs.inner.FreePlaces as free

-- where all entries are
abbrev pub places_in : List Entry → ChainPlaces
places_in entries = record {
  free = free.places_in entries;
  link = method_places entries link_method;
  free_chain = method_places entries chain_method;
}

-- how many are missing, where the descriptor of freeChain is that of free
abbrev pub missing_in : ChainPlaces → ℕ
missing_in p = free.missing_in p.free + missing_of p.link + missing_of (with_descriptor p.free_chain 0)
