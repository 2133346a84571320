-- Where the entries of FreeMe.free are in a pool. It only serves the proofs.
use Rattle.std.specs.Prelude.{ℕ, ◌+◌, List}
use Rattle.fm_code.specs.FreeEntries.{of_utf8, of_class, index_of, free_class, free_method}
use Rattle.fm_code.specs.declared.constant_pool.Entry.{Entry}
use Rattle.fm_pool.specs.declared.free_entries.FreePlaces.{FreePlaces}
use Rattle.fm_pool.specs.inner.EntryPlaces.{method_places, missing_at, missing_of}

-- where each of them is, if it is there
abbrev pub places_in : List Entry → FreePlaces
places_in entries = record {
  class_text = index_of entries (of_utf8 free_class);
  class = index_of entries (of_class free_class);
  method = method_places entries free_method;
}

-- how many are missing
abbrev pub missing_in : FreePlaces → ℕ
missing_in p = missing_at p.class_text + missing_at p.class + missing_of p.method
