-- What insertions are read as, and that new code which is woven by them is.
use Rattle.std.specs.Prelude.{◌≡◌, ℕ, length, map, Some, nat_eq}
use Rattle.std.specs.List.{flat_map, IsDistinct, range_with_len}
use Rattle.fm_code.specs.Edges.{MeetsCodeRules}
use Rattle.fm_code.specs.declared.code_array.Code.{Code}
use Rattle.fm_place.specs.Insertions.{after_at, before_at, Holder, Insertions}
use Rattle.fm_place.specs.PlansBy.{paired}
use Rattle.fm_place.specs.Woven.{woven_code}
use Rattle.fm_audit.specs.Reading.{Read, read}

-- all holders are null at the start, and the pairs of each item are those of what is inserted before and after it
abbrev pub read_by : Code → Insertions → Read
read_by code ins = record {
  starts = range_with_len 0 (length ins.holders);
  pairs = record {
    before = flat_map (paired (before_at ins)) (range_with_len 0 (length code.items));
    after = flat_map (paired (after_at ins)) (range_with_len 0 (length code.items));
  };
}

-- no two holders are of one site
abbrev pub HaveOwnSites : Insertions → Type 0
HaveOwnSites ins = IsDistinct nat_eq (map (λ (h : Holder). h.site) ins.holders)

-- the new code of a method by insertions is read as these, whatever they are, as long as no site has two holders
abbrev pub WovenIsRead : Type 0
WovenIsRead =
    (free : ℕ) (code : Code) (ins : Insertions) → MeetsCodeRules code → HaveOwnSites ins
    → read free code.max_locals code.items (woven_code free code ins).items ≡ Some (read_by code ins)
