-- The indices of pools refer to what they referred to before.
use Rattle.std.proofs.Common.{◌≡◌, refl, sym, ◌∙◌, ap, ℕ, ◌+◌, ◌<◌, ◌≤◌, ◌⊎◌, inl, inr, false, cond, List, [], ◌∷◌, ◌++◌, length, length-append, map, replicate, get_or, Option, Some, option_map, arith, zero-add, zero, suc}
use Rattle.std.specs.Prelude.{slice_get}
use Rattle.std.specs.List.{AllByRecursion}
use Rattle.std.proofs.lemmas.Bool.{cases_lt}
use Rattle.std.proofs.lemmas.List.{get_or-append-add, get_or-map, get_or_past, length-replicate}
use Rattle.std.proofs.lemmas.List.FromFn.{get_or-map-range_with_len, length-map-range_with_len}
use Rattle.std.proofs.lemmas.Option.{get_or_from_slice_get, slice_get_within}
use Rattle.fm_law_relinked.proofs.ClassLists.{used_same}
use Rattle.fm_law_spelled.proofs.Growing.{either_class, grown_class, grows, more}
use Rattle.fm_law_relinked.proofs.Outlines.{outline_same}
use Rattle.fm_law_relinked.proofs.PoolStays.{use_same}
use Rattle.fm_law_relinked.proofs.UsedWithin.{unused_past}
use Rattle.fm_link_supers.proofs.ParentRefusals.{spelled_at}
use Rattle.fm_chain.specs.Chaining.{chained_class, chained_classes, chained_from, class_calls, class_has_chain}
use Rattle.fm_code.specs.Spells.{HasSpelling}
use Rattle.fm_code.specs.declared.class_file.ClassDef.{ClassDef}
use Rattle.fm_code.specs.declared.constant_pool.Entry.{Entry}
use Rattle.fm_law_relinked.specs.Again.{first_at, UsesStay}
use Rattle.fm_law_spelled.specs.Calling.{IsCall}
use Rattle.fm_place.specs.Rewriting.{first_given, Plans}
use Rattle.fm_world.specs.BuiltIns.{built_in}
use Rattle.fm_world.specs.Programs.{class_uses, Outline, outline_of, program_of, resolved_at, use_of, uses_of}
use Rattle.fm_world.specs.Uses.{is_used}
use Rattle.fm_world.specs.declared.uses.Use.{Use}
use Rattle.fm_world.specs.declared.uses.Use.TheVariants as resolved

-- ---- one class

-- what an index of a class's pool refers to, if the class uses it
abbrev pub use_in : Outline → ClassDef → ℕ → Use
use_in o c index = cond (is_used c index) (resolved_at o c.pool.entries index) resolved.Unused

row_length : (o : Outline) (c : ClassDef) → length (class_uses o c) ≡ length c.pool.entries
row_length o c = length-map-range_with_len (use_in o c) 0 (length c.pool.entries)

pub row_within : (o : Outline) (c : ClassDef) (index : ℕ) → index < length c.pool.entries → get_or (class_uses o c) index resolved.Unused ≡ use_in o c index
row_within o c index within = get_or-map-range_with_len (use_in o c) 0 (length c.pool.entries) index index resolved.Unused within (zero-add index)

pub row_past : (o : Outline) (c : ClassDef) (index : ℕ) → length c.pool.entries ≤ index → get_or (class_uses o c) index resolved.Unused ≡ resolved.Unused
row_past o c index past = get_or_past (class_uses o c) index resolved.Unused (let long = row_length o c in omega (arith, past, long))

pub row_unused : (o : Outline) (c : ClassDef) (index : ℕ) → is_used c index ≡ false → get_or (class_uses o c) index resolved.Unused ≡ resolved.Unused
row_unused o c index unused = by_place (cases_lt index (length c.pool.entries)) where
  by_place : (index < length c.pool.entries) ⊎ (length c.pool.entries ≤ index) → get_or (class_uses o c) index resolved.Unused ≡ resolved.Unused
  by_place (inl within) = row_within o c index within ∙ ap (λ b. cond b (resolved_at o c.pool.entries index) resolved.Unused) unused
  by_place (inr past) = row_past o c index past

grown_row : (plans : Plans) (first : ℕ) (c : ClassDef) → HasSpelling c → (o : Outline) (index : ℕ)
    → (IsCall (class_has_chain plans first c) (class_calls plans first c) index → ⊥)
    → get_or (class_uses o (grown_class plans first c)) index resolved.Unused ≡ get_or (class_uses o c) index resolved.Unused
grown_row plans first c (bytes, spells) o index other = by_place (cases_lt index (length c.pool.entries)) where
  own : List Entry
  own = more plans first c

  same : is_used (grown_class plans first c) index ≡ is_used c index
  same = used_same (class_has_chain plans first c) (more plans first c) (class_calls plans first c) plans first c (grows plans first c) index other

  by_place : (index < length c.pool.entries) ⊎ (length c.pool.entries ≤ index)
      → get_or (class_uses o (grown_class plans first c)) index resolved.Unused ≡ get_or (class_uses o c) index resolved.Unused
  by_place (inl within) =
      let both = length-append c.pool.entries own in
      row_within o (grown_class plans first c) index (omega (arith, within, both))
      ∙ (λ k. cond (same k) (use_same c.pool.entries own spells.pool.entries index within o k) resolved.Unused)
      ∙ sym (row_within o c index within)
  by_place (inr past) =
      row_unused o (grown_class plans first c) index (same ∙ unused_past c (bytes, spells) index past) ∙ sym (row_past o c index past)

-- ---- all classes

pub use_at : (given : List ClassDef) (main : List ℕ) (place : ℕ) (c : ClassDef) → slice_get given place ≡ Some c → (index : ℕ)
    → use_of (program_of given main) (length built_in + place) index ≡ get_or (class_uses (outline_of given main) c) index resolved.Unused
unfolding program_of uses_of
use_at given main place c there index =
    let o = outline_of given main in
    let front : List (List Use) = replicate (length built_in) [] in
    let rows = map (class_uses o) given in
    let count : length front ≡ length built_in = length-replicate (length built_in) [] in
    ap (λ r. get_or r index resolved.Unused)
    (ap (λ n. get_or (front ++ rows) (n + place) []) (sym count) ∙ get_or-append-add front rows place []
    ∙ get_or-map (class_uses o) given place c [] (slice_get_within given place c there) ∙ ap (class_uses o) (get_or_from_slice_get given place c c there))

pub written_at : (plans : Plans) (first : ℕ) (given : List ClassDef) (place : ℕ) (c : ClassDef) → slice_get given place ≡ Some c
    → slice_get (chained_from plans first given) place ≡ Some (chained_class plans (first_at first given place) c)
written_at plans first [] place c there = cc
written_at plans first (d ∷ given) zero c there = ap (λ (o : Option ClassDef). option_map (chained_class plans first) o) there
written_at plans first (d ∷ given) (suc place) c there = written_at plans (first + length d.methods) given place c there

-- by the number of the class's first method
pub uses_by : (plans : Plans) (given : List ClassDef) (main : List ℕ) → AllByRecursion HasSpelling given → (place first : ℕ) (c : ClassDef)
    → slice_get given place ≡ Some c → slice_get (chained_classes plans given) place ≡ Some (chained_class plans first c)
    → (index : ℕ) → (IsCall (class_has_chain plans first c) (class_calls plans first c) index → ⊥)
    → use_of (program_of (chained_classes plans given) main) (length built_in + place) index ≡ use_of (program_of given main) (length built_in + place) index
uses_by plans given main spelled place first c there new index other =
    let o = outline_of given main in
    use_at (chained_classes plans given) main place (chained_class plans first c) new index
    ∙ ap (λ p. get_or (class_uses p (chained_class plans first c)) index resolved.Unused) (outline_same plans given main spelled)
    ∙ either_class plans first c (λ (d : ClassDef). get_or (class_uses o d) index resolved.Unused ≡ get_or (class_uses o c) index resolved.Unused) refl
    (grown_row plans first c (spelled_at given place c spelled there) o index other)
    ∙ sym (use_at given main place c there index)

pub uses_same : UsesStay
uses_same given main plans spelled place c there index other =
    uses_by plans given main spelled place (first_at first_given given place) c there (written_at plans first_given given place c there) index other
