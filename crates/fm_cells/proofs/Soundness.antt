-- Every store that calls lead to is sound.
use Rattle.std.proofs.Common.{◌≡◌, ℕ, ◌+◌, ◌-◌, ◌^◌, ◌<◌, ◌≤◌, Bool, true, false, cond, List, length, refl, sym, ◌∙◌, ap, subst, nat_eq, arith, length-set, inl, inr, set, get_or}
use Rattle.std.specs.Prelude.{Option, Some, None}
use Rattle.std.specs.List.{sum}
use Rattle.std.specs.FinMap.{gets}
use Rattle.std.proofs.lemmas.Option.{none-some, same_Some}
use Rattle.std.proofs.lemmas.List.{length-replicate, get_or-replicate}
use Rattle.std.proofs.lemmas.List.Sums.{sum_by-set}
use Rattle.std.proofs.lemmas.List.Elements.{All-set}
use Rattle.std.proofs.lemmas.Bool.{cases_eq}
use Rattle.std.proofs.lemmas.Bool.Decides.{nat_tests}
use Rattle.std.proofs.lemmas.Nat.{pow_pos}
use Rattle.fm_cells.specs.Sizes.{IsPack, element_bits, packed_words}
use Rattle.fm_cells.specs.Objects.{Object, IsObject, object_words, size_class_of, Request, IsRequest, request_words, request_size_class, new_object}
use Rattle.fm_cells.specs.Stores.{Store, opened, object_at, made_count, words_needed}
use Rattle.fm_cells.specs.Changes.{Take, made_by, made_after, without_object, with_object, with_element, with_chain}
use Rattle.fm_cells.specs.Choices.{MayReuse}
use Rattle.fm_cells.specs.Soundness.{CellsFit, IsOrderly, IsSound}
use Rattle.fm_cells.proofs.Held.{held_if, nothing_held, held_after, held_before}
use Rattle.fm_cells.proofs.SizeLaws.{size_class-lt}
use Rattle.fm_cells.proofs.Changes.{live_words-opened, object_at-made_by, object_at-without_object, object_at-with_object, live_words-made_by, live_words-without_object, live_words-with_object}

-- an opened store is in order
pub IsOrderly-opened : (budget : ℕ) (limit : Option ℕ) (free : List (List ℕ)) → IsOrderly (opened budget limit free)
IsOrderly-opened budget limit free =
    record {
      null_not_held = grind (arith, gets, nat_tests);
      born = λ cell object h. grind (arith, gets, nat_tests);
      births_apart = λ cell other object second h k e. grind (arith, gets, nat_tests);
    }

-- and sound
pub IsSound-opened : (budget : ℕ) (limit : Option ℕ) (free : List (List ℕ)) → IsSound (opened budget limit free)
IsSound-opened budget limit free =
    record {
      orderly = IsOrderly-opened budget limit free;
      cells_fit = λ cell h. absurd (nothing_held cell h);
      objects_fit = λ cell object h. grind (arith, gets, nat_tests);
      live_within_peak = omega (arith, live_words-opened budget limit free);
      peak_within_budget = omega arith;
      classes = refl;
      made_within_births = omega arith;
      births_fit = omega arith;
      untouched = λ _. refl;
    }

-- the words of an object and of a request are far below those of the largest size class
pub body_words_bound : (len pack : ℕ) → len < 2 ^ 31 → IsPack pack → packed_words len pack ≤ 2 ^ 31 + 1
body_words_bound len pack h (inl e) = subst (λ p. packed_words len p ≤ 2 ^ 31 + 1) (sym e) (omega arith)
body_words_bound len pack h (inr (inl e)) = subst (λ p. packed_words len p ≤ 2 ^ 31 + 1) (sym e) (omega arith)
body_words_bound len pack h (inr (inr (inl e))) = subst (λ p. packed_words len p ≤ 2 ^ 31 + 1) (sym e) (omega arith)
body_words_bound len pack h (inr (inr (inr e))) = subst (λ p. packed_words len p ≤ 2 ^ 31 + 1) (sym e) (omega arith)

pub request_words_bound : (request : Request) → IsRequest request → request_words request ≤ 2 ^ 31 + 1
request_words_bound request h = body_words_bound request.len request.pack h.len_fits h.pack_is

pub object_words_bound : (object : Object) → IsObject object → object_words object ≤ 2 ^ 31 + 1
object_words_bound object h = body_words_bound (length object.elements) object.pack h.length_fits h.pack_is

-- their size classes are among the 64
pub request_size_class-lt : (request : Request) → request_size_class request < 64
request_size_class-lt request = size_class-lt (request_words request)

pub size_class_of-lt : (object : Object) → size_class_of object < 64
size_class_of-lt object = size_class-lt (object_words object)

-- the object that is made lies in its ranges
pub IsObject-new_object : (birth : ℕ) (request : Request) → birth < 2 ^ 32 → IsRequest request → IsObject (new_object birth request)
IsObject-new_object birth request fits h =
    record {
      class_fits = h.class_fits;
      birth_fits = fits;
      pack_is = h.pack_is;
      chain_fits = omega arith;
      length_fits = omega (arith, length-replicate {A = ℕ} request.len 0, h.len_fits);
      elements_fit = λ k d below.
          let within : k < request.len = omega (arith, length-replicate {A = ℕ} request.len 0) in
          omega (arith, get_or-replicate {A = ℕ} request.len k 0 d within, pow_pos (element_bits request.pack));
    }

-- the sum of the counts rises by one where one of them does
pub sum-one_more : (counts : List ℕ) (k : ℕ) → k < length counts → sum (set counts k (get_or counts k 0 + 1)) ≡ sum counts + 1
sum-one_more counts k within = omega (arith, sum_by-set (λ x. x) counts k (get_or counts k 0 + 1) 0 within)

-- what holds of the object in one cell, and of each held object, holds of each object after one cell was changed
changed_object : (P : Object → Type 0) (there : Bool) (changed : Object) (before after : Option Object) (object : Object) → after ≡ cond there (Some changed) before → P changed → (before ≡ Some object → P object) → after ≡ Some object → P object
changed_object P true changed before after object e new old h = let same : changed ≡ object = same_Some changed object (sym e ∙ h) in subst P same new
changed_object P false changed before after object e new old h = old (sym e ∙ h)

-- an object that is held after one cell was freed was held before
pub kept_object : (there : Bool) (before after : Option Object) (object : Object) → after ≡ cond there None before → after ≡ Some object → before ≡ Some object
kept_object true before after object e h = absurd (none-some object (sym e ∙ h))
kept_object false before after object e h = sym e ∙ h

-- births stay apart where the changed object's birth is no other's
apart_after : (store next : Store) (cell : ℕ) (changed : Object) → ((q : ℕ) → object_at next q ≡ cond (nat_eq q cell) (Some changed) (object_at store q)) → IsOrderly store → ((other : ℕ) (second : Object) → object_at store other ≡ Some second → changed.birth ≡ second.birth → cell ≡ other) → (q other : ℕ) (object second : Object) → object_at next q ≡ Some object → object_at next other ≡ Some second → object.birth ≡ second.birth → q ≡ other
apart_after store next cell changed at orderly fresh q other object second h k e =
    elim (cases_eq q cell) as (λ _. q ≡ other) [
      | inl p ↦ elim (cases_eq other cell) as (λ _. q ≡ other) [
        | inl r ↦ p ∙ sym r
        | inr r ↦
            let old : object_at store other ≡ Some second = grind (arith, nat_tests, at other) in
            let here : object_at next q ≡ Some changed = grind (arith, nat_tests, at q) in
            let same : changed ≡ object = same_Some changed object (sym here ∙ h) in
            p ∙ fresh other second old (ap (λ o. o.birth) same ∙ e)
      ]
      | inr p ↦
          let old : object_at store q ≡ Some object = grind (arith, nat_tests, at q) in
          elim (cases_eq other cell) as (λ _. q ≡ other) [
            | inl r ↦
                let here : object_at next other ≡ Some changed = grind (arith, nat_tests, at other) in
                let same : changed ≡ second = same_Some changed second (sym here ∙ k) in
                sym (fresh q object old (ap (λ o. o.birth) same ∙ sym e)) ∙ sym r
            | inr r ↦
                let older : object_at store other ≡ Some second = grind (arith, nat_tests, at other) in
                orderly.births_apart q other object second old older e
          ]
    ]

-- the counts after a choice are those of 64 classes, and rise by no more than one
pub made_after-length : (store : Store) (request : Request) (grows : Bool) → length (made_after store request grows) ≡ length store.made
made_after-length store request true = length-set store.made (request_size_class request) (made_count store (request_size_class request) + 1)
made_after-length store request false = refl

made_after-sum : (store : Store) (request : Request) (grows : Bool) → request_size_class request < length store.made → sum (made_after store request grows) ≤ sum store.made + 1
made_after-sum store request true h = omega (arith, sum-one_more store.made (request_size_class request) h)
made_after-sum store request false h = omega arith

-- a make leads from a store in order to one
pub IsOrderly-made_by : (store : Store) (request : Request) (cell : ℕ) (grows : Bool) → IsOrderly store → MayReuse store request (Take cell grows) → IsOrderly (made_by store request (Take cell grows))
IsOrderly-made_by store request cell grows orderly may =
    let at = object_at-made_by store request cell grows in
    let made = new_object store.births request in
    record {
      null_not_held = grind (arith, nat_tests, at 0, orderly.null_not_held, may.0);
      born = λ q object h. changed_object (λ o. o.birth < store.births + 1) (nat_eq q cell) made (object_at store q) _ object (at q) (omega arith) (λ e. omega (arith, orderly.born q object e)) h;
      births_apart = apart_after store (made_by store request (Take cell grows)) cell made at orderly (λ other second e same. absurd (omega (arith, orderly.born other second e)));
    }

-- and from a sound store to a sound store
pub IsSound-made_by : (store : Store) (request : Request) (cell : ℕ) (grows : Bool) → IsSound store → IsRequest request → store.births < 2 ^ 32 - 1 → words_needed store request ≤ store.budget → MayReuse store request (Take cell grows)
    → CellsFit (made_by store request (Take cell grows)) → IsSound (made_by store request (Take cell grows))
IsSound-made_by store request cell grows sound asked fits within may cells =
    let at = object_at-made_by store request cell grows in
    let made = new_object store.births request in
    let class : request_size_class request < length store.made = omega (arith, request_size_class-lt request, sound.classes) in
    record {
      orderly = IsOrderly-made_by store request cell grows sound.orderly may;
      cells_fit = cells;
      objects_fit = λ q object h. changed_object (λ o. IsObject o) (nat_eq q cell) made (object_at store q) _ object (at q) (IsObject-new_object store.births request (omega arith) asked) (sound.objects_fit q object) h;
      live_within_peak = omega (arith, live_words-made_by store request cell grows may.1);
      peak_within_budget = omega (arith, sound.peak_within_budget);
      classes = made_after-length store request grows ∙ sound.classes;
      made_within_births = omega (arith, made_after-sum store request grows class, sound.made_within_births);
      births_fit = omega arith;
      untouched = λ h. absurd (omega arith);
    }

-- a free leads from a store in order to one
pub IsOrderly-without_object : (store : Store) (cell : ℕ) (object : Object) → IsOrderly store → IsOrderly (without_object store cell object)
IsOrderly-without_object store cell object orderly =
    let at = object_at-without_object store cell object in
    let left = λ (q : ℕ) (o : Object) (h : object_at (without_object store cell object) q ≡ Some o). kept_object (nat_eq q cell) (object_at store q) _ o (at q) h in
    record {
      null_not_held = grind (arith, nat_tests, at 0, orderly.null_not_held);
      born = λ q o h. orderly.born q o (left q o h);
      births_apart = λ q other o second h k e. orderly.births_apart q other o second (left q o h) (left other second k) e;
    }

-- and from a sound store to a sound store
pub IsSound-without_object : (store : Store) (cell : ℕ) (object : Object) → IsSound store → object_at store cell ≡ Some object → IsSound (without_object store cell object)
IsSound-without_object store cell object sound held =
    let at = object_at-without_object store cell object in
    let left = λ (q : ℕ) (o : Object) (h : object_at (without_object store cell object) q ≡ Some o). kept_object (nat_eq q cell) (object_at store q) _ o (at q) h in
    record {
      orderly = IsOrderly-without_object store cell object sound.orderly;
      cells_fit = λ q h. sound.cells_fit q (held_before (nat_eq q cell) _ _ (at q) h);
      objects_fit = λ q o h. sound.objects_fit q o (left q o h);
      live_within_peak = omega (arith, live_words-without_object store cell object held, sound.live_within_peak);
      peak_within_budget = sound.peak_within_budget;
      classes = sound.classes;
      made_within_births = sound.made_within_births;
      births_fit = sound.births_fit;
      untouched = λ none. absurd (omega (arith, sound.orderly.born cell object held));
    }

-- a put, or a change of a chain, leads from a store in order to one
pub IsOrderly-with_object : (store : Store) (cell : ℕ) (old object : Object) → IsOrderly store → object_at store cell ≡ Some old → object.birth ≡ old.birth → IsOrderly (with_object store cell object)
IsOrderly-with_object store cell old object orderly held same_birth =
    let at = object_at-with_object store cell object in
    record {
      null_not_held = elim (cases_eq 0 cell) as (λ _. object_at (with_object store cell object) 0 ≡ None) [
        | inl e ↦ let none : object_at store cell ≡ None = subst (λ c. object_at store c ≡ None) e orderly.null_not_held in absurd (none-some old (sym none ∙ held))
        | inr e ↦ grind (arith, nat_tests, at 0, orderly.null_not_held)
      ];
      born = λ q o h. changed_object (λ o. o.birth < store.births) (nat_eq q cell) object (object_at store q) _ o (at q) (omega (arith, orderly.born cell old held)) (λ e. orderly.born q o e) h;
      births_apart = apart_after store (with_object store cell object) cell object at orderly (λ other second e same. orderly.births_apart cell other old second held e (sym same_birth ∙ same));
    }

-- and from a sound store to a sound store
pub IsSound-with_object : (store : Store) (cell : ℕ) (old object : Object) → IsSound store → object_at store cell ≡ Some old → IsObject object → object.birth ≡ old.birth → object_words object ≡ object_words old → IsSound (with_object store cell object)
IsSound-with_object store cell old object sound held fits same_birth same_words =
    let at = object_at-with_object store cell object in
    record {
      orderly = IsOrderly-with_object store cell old object sound.orderly held same_birth;
      cells_fit = λ q h. elim (cases_eq q cell) as (λ _. q < 2 ^ 32) [
        | inl e ↦ subst (λ c. c < 2 ^ 32) (sym e) (sound.cells_fit cell (held_if (object_at store cell) old held))
        | inr e ↦ sound.cells_fit q (held_after q cell _ _ _ (at q) h e)
      ];
      objects_fit = λ q o h. changed_object (λ o. IsObject o) (nat_eq q cell) object (object_at store q) _ o (at q) fits (sound.objects_fit q o) h;
      live_within_peak = omega (arith, live_words-with_object store cell old object held same_words, sound.live_within_peak);
      peak_within_budget = sound.peak_within_budget;
      classes = sound.classes;
      made_within_births = sound.made_within_births;
      births_fit = sound.births_fit;
      untouched = λ none. absurd (omega (arith, sound.orderly.born cell old held));
    }

-- an element within its range, or a chain within its own, leaves the object in its ranges
pub IsObject-with_element : (object : Object) (place element : ℕ) → IsObject object → element < 2 ^ element_bits object.pack → IsObject (with_element object place element)
IsObject-with_element object place element h fits =
    record {
      class_fits = h.class_fits;
      birth_fits = h.birth_fits;
      pack_is = h.pack_is;
      chain_fits = h.chain_fits;
      length_fits = omega (arith, length-set object.elements place element, h.length_fits);
      elements_fit = All-set (λ x. x < 2 ^ element_bits object.pack) object.elements place element fits h.elements_fit;
    }

pub IsObject-with_chain : (object : Object) (to : ℕ) → IsObject object → to < 2 ^ 32 → IsObject (with_chain object to)
IsObject-with_chain object to h fits =
    record {
      class_fits = h.class_fits;
      birth_fits = h.birth_fits;
      pack_is = h.pack_is;
      chain_fits = fits;
      length_fits = h.length_fits;
      elements_fit = h.elements_fit;
    }
