-- What the fields of a memory that is never reused keep.
use Rattle.std.proofs.Common.{◌≡◌, ◌≢◌, ℕ, suc, Bool, true, false, replicate, ◌+◌, max, [], ◌∷◌, ◌++◌, slice_set, slice_index_or, ◌-◌, ◌^◌, ◌<◌, ◌≤◌, List, length, get_or, refl, sym, ◌∙◌, ap, subst, arith, inl, inr}
use Rattle.std.specs.Prelude.{Option, Some, None, IsSome}
use Rattle.std.specs.Option.{option_map, option_copied}
use Rattle.std.proofs.Common.{Bor, Global}
use Rattle.std.specs.declared.vec.Vec.{Vec}
use Rattle.std.specs.Vec.{with_item}
use Rattle.std.proofs.lemmas.List.{get_or_default}
use Rattle.std.proofs.lemmas.Bool.{cases_lt, le-ltb}
use Rattle.fm_cells.specs.Objects.{Object, IsObject, object_words, Request, IsRequest, request_words, request_size_class, new_object, request_of}
use Rattle.fm_cells.specs.Sizes.{cell_words}
use Rattle.fm_cells.specs.Choices.{lawful, never_choice}
use Rattle.fm_cells.specs.Changes.{Take, made_by, without_object, with_object}
use Rattle.fm_cells.specs.Stores.{Store, object_at, live_words, words_needed, passes_limit}
use Rattle.fm_cells.specs.Soundness.{IsSound, IsNeverReused}
use Rattle.fm_cells.specs.inner.Residents.{resident_object, object_in, plain_of}
use Rattle.fm_cells.specs.inner.PlainStores.{plain_store, IsPlain}
use Rattle.fm_cells.specs.declared.plain_cells.Resident.{Resident}
use Rattle.fm_cells.specs.declared.plain_cells.PlainCells.TheInside.{Inside}
use Rattle.fm_cells.proofs.Residents.{object_at-plain_of, place-lt, plain_of-some, plain_of-none, plain_of-made, never_choice-is}
use Rattle.fm_cells.proofs.Held.{held_if}
use Rattle.fm_cells.proofs.Changes.{live_words-made_by, live_words-with_object, live_words-without_object}
use Rattle.fm_cells.proofs.Choices.{lawful_choice-left, MayReuse-never_choice}
use Rattle.fm_cells.proofs.Soundness.{IsSound-made_by, IsSound-without_object, IsSound-with_object}
use Rattle.fm_cells.proofs.NeverReused.{MayReuse-next, IsNeverReused-made_by, IsNeverReused-without_object, IsNeverReused-with_object}

-- fields that are a store which is never reused, with its live words
pub IsPlain-is : (inside : Inside) (store : Store) → plain_store inside ≡ store → IsSound store → IsNeverReused store → inside.live ≡ live_words store → inside.limit ≤ 2 ^ 32 - 2 → IsPlain inside
IsPlain-is inside store is sound never live fits = record {
  sound = subst (λ s. IsSound s) (sym is) sound;
  never_reused = subst (λ s. IsNeverReused s) (sym is) never;
  live_is = live ∙ ap live_words (sym is);
  limit_fits = fits;
}

-- the object that was found in the residents is the one that the memory holds
pub found : (inside : Inside) (now : Store) (residents : List (Option Resident)) (cell : ℕ) (object : Option Object) → plain_store inside ≡ now → residents ≡ inside.residents.items → object ≡ object_in residents cell → object_at now cell ≡ object
found inside now residents cell object view same is =
    ap (λ s. object_at s cell) (sym view)
    ∙ object_at-plain_of inside.residents.items inside.budget inside.limit inside.made_words inside.peak inside.made cell
    ∙ ap (λ all. object_in all cell) (sym same) ∙ sym is

-- the cells that hold an object are numbered from 1
held-above : (inside : Inside) (now : Store) (cell : ℕ) → plain_store inside ≡ now → IsPlain inside → IsSome (object_at now cell) → 0 < cell
held-above inside now cell view plain held = elim (cases_lt 0 cell) as (λ _. 0 < cell) [
  | inl h ↦ h
  | inr h ↦
      let null : cell ≡ 0 = omega arith in
      let none : object_at now cell ≡ None = ap (λ s. object_at s cell) (sym view) ∙ ap (object_at (plain_store inside)) null ∙ plain.sound.orderly.null_not_held in
      let no : IsSome {T = Object} None = subst IsSome none held in absurd (cc)
]

-- the place of a held cell is one of the residents
pub place-below : (inside : Inside) (now : Store) (cell : ℕ) → plain_store inside ≡ now → IsPlain inside → IsSome (object_at now cell) → cell - 1 < inside.residents.len
place-below inside now cell view plain held =
    let up = held-above inside now cell view plain held in
    let next : suc (cell - 1) ≡ cell = omega arith in
    let here : IsSome (object_in inside.residents.items (suc (cell - 1))) = subst IsSome (found inside now inside.residents.items cell _ view refl refl ∙ ap (object_in inside.residents.items) (sym next)) held in
    omega (arith, place-lt inside.residents.items (cell - 1) here, inside.residents.ok.0)

-- what a read of the resident of a held cell gives is its object
pub resident_read : (inside : Inside) (now : Store) (cell : ℕ) (resident : Option Resident) → plain_store inside ≡ now → IsPlain inside → IsSome (object_at now cell) → resident ≡ get_or inside.residents.items (cell - 1) resident → object_at now cell ≡ option_map resident_object resident
resident_read inside now cell resident view plain held read =
    let up = held-above inside now cell view plain held in
    let next : suc (cell - 1) ≡ cell = omega arith in
    let below : cell - 1 < length inside.residents.items = omega (arith, place-below inside now cell view plain held, inside.residents.ok.0) in
    let is : resident ≡ get_or inside.residents.items (cell - 1) None = read ∙ get_or_default inside.residents.items (cell - 1) resident None below in
    found inside now inside.residents.items cell _ view refl refl ∙ ap (object_in inside.residents.items) (sym next) ∙ ap (λ o. option_map resident_object o) (sym is)

-- a resident that is overwritten by one with the birth and the words of the old one
pub overwritten : (inside after : Inside) (now : Store) (cell : ℕ) (old : Object) (resident : Resident) → plain_store inside ≡ now → IsPlain inside → object_at now cell ≡ Some old
    → after ≡ record inside { residents = with_item inside.residents (cell - 1) (Some resident) } → IsObject (resident_object resident) → (resident_object resident).birth ≡ old.birth → object_words (resident_object resident) ≡ object_words old
    → (plain_store after ≡ with_object now cell (resident_object resident)) × IsPlain after
overwritten inside after now cell old resident view plain held is fits same_birth same_words =
    let some : IsSome (object_at now cell) = held_if (object_at now cell) old held in
    let up = held-above inside now cell view plain some in
    let next : suc (cell - 1) ≡ cell = omega arith in
    let below : cell - 1 < length inside.residents.items = omega (arith, place-below inside now cell view plain some, inside.residents.ok.0) in
    let changed : plain_store after ≡ with_object now cell (resident_object resident) =
    ap plain_store is
    ∙ plain_of-some inside.residents.items (cell - 1) resident (resident_object resident) inside.budget inside.limit inside.made_words inside.peak inside.made below refl
    ∙ ap (λ c. with_object (plain_store inside) c (resident_object resident)) next
    ∙ ap (λ s. with_object s cell (resident_object resident)) view in
    let sound : IsSound now = subst (λ s. IsSound s) view plain.sound in
    let never : IsNeverReused now = subst (λ s. IsNeverReused s) view plain.never_reused in (
      changed,
      IsPlain-is after _ changed (IsSound-with_object now cell old (resident_object resident) sound held fits same_birth same_words) (IsNeverReused-with_object now cell old (resident_object resident) never held same_birth)
          (ap (λ a. a.live) is ∙ plain.live_is ∙ ap live_words view ∙ sym (live_words-with_object now cell old (resident_object resident) held same_words))
          (subst (λ a. a.limit ≤ 2 ^ 32 - 2) (sym is) plain.limit_fits),
    )

-- what the search of a cell's resident says of the memory
pub found_some : (inside : Inside) (now : Store) (residents : List (Option Resident)) (cell : ℕ) (answer : Option (Bor Resident)) (resident : Bor Resident) → plain_store inside ≡ now → residents ≡ inside.residents.items → answer ≡ Some resident → option_map resident_object (option_copied answer) ≡ object_in residents cell → object_at now cell ≡ Some (resident_object resident.now)
found_some inside now residents cell answer resident view same was is = found inside now residents cell (Some (resident_object resident.now)) view same (ap (λ r. option_map resident_object (option_copied r)) (sym was) ∙ is)

pub found_none : (inside : Inside) (now : Store) (residents : List (Option Resident)) (cell : ℕ) (answer : Option (Bor Resident)) → plain_store inside ≡ now → residents ≡ inside.residents.items → answer ≡ None → option_map resident_object (option_copied answer) ≡ object_in residents cell → object_at now cell ≡ None
found_none inside now residents cell answer view same was is = found inside now residents cell None view same (ap (λ r. option_map resident_object (option_copied r)) (sym was) ∙ is)

-- a resident that is emptied
pub emptied : (inside after : Inside) (now : Store) (cell words : ℕ) (object : Object) → plain_store inside ≡ now → IsPlain inside → object_at now cell ≡ Some object → words ≡ object_words object
    → after ≡ record inside { residents = with_item inside.residents (cell - 1) None; live = inside.live - words }
    → (plain_store after ≡ without_object now cell object) × IsPlain after
emptied inside after now cell words object view plain held size is =
    let some : IsSome (object_at now cell) = held_if (object_at now cell) object held in
    let up = held-above inside now cell view plain some in
    let next : suc (cell - 1) ≡ cell = omega arith in
    let below : cell - 1 < length inside.residents.items = omega (arith, place-below inside now cell view plain some, inside.residents.ok.0) in
    let changed : plain_store after ≡ without_object now cell object =
    ap plain_store is
    ∙ plain_of-none inside.residents.items (cell - 1) object inside.budget inside.limit inside.made_words inside.peak inside.made below
    ∙ ap (λ c. without_object (plain_store inside) c object) next
    ∙ ap (λ s. without_object s cell object) view in
    let sound : IsSound now = subst (λ s. IsSound s) view plain.sound in
    let never : IsNeverReused now = subst (λ s. IsNeverReused s) view plain.never_reused in
    let live : inside.live ≡ live_words now = plain.live_is ∙ ap live_words view in
    let left : inside.live - words ≡ live_words (without_object now cell object) = omega (arith, live_words-without_object now cell object held) in
    (changed, IsPlain-is after _ changed (IsSound-without_object now cell object sound held) (IsNeverReused-without_object now cell object never) (ap (λ a. a.live) is ∙ left) (subst (λ a. a.limit ≤ 2 ^ 32 - 2) (sym is) plain.limit_fits))

-- the words of a held object are among the live words
pub words-le-live : (inside : Inside) (now : Store) (cell words : ℕ) (object : Object) → plain_store inside ≡ now → IsPlain inside → object_at now cell ≡ Some object → words ≡ object_words object → words ≤ inside.live
words-le-live inside now cell words object view plain held size =
    let live : inside.live ≡ live_words now = plain.live_is ∙ ap live_words view in
    omega (arith, live_words-without_object now cell object held)

-- a cell that holds an object isn't null
pub held_above_null : (inside : Inside) (now : Store) (cell : ℕ) (object : Object) → plain_store inside ≡ now → IsPlain inside → object_at now cell ≡ Some object → cell ≢ 0
held_above_null inside now cell object view plain held = λ null. let up = held-above inside now cell view plain (held_if (object_at now cell) object held) in omega arith

-- fields whose residents are the same elements are the same store
pub same_residents : (inside after : Inside) (residents : Vec (Option Resident) Global) → residents.items ≡ inside.residents.items → IsPlain inside → after ≡ record inside { residents = residents } → (plain_store after ≡ plain_store inside) × IsPlain after
same_residents inside after residents same plain is =
    let view : plain_store after ≡ plain_store inside = ap plain_store is ∙ ap (λ all. plain_of all inside.budget inside.limit inside.made_words inside.peak inside.made) same in
    (view, IsPlain-is after _ view plain.sound plain.never_reused (ap (λ a. a.live) is ∙ plain.live_is) (subst (λ a. a.limit ≤ 2 ^ 32 - 2) (sym is) plain.limit_fits))

-- a resident that is pushed, with the numbers that follow it: the store after a make in the next cell
pub pushed : (inside after : Inside) (residents : Vec (Option Resident) Global) (resident : Resident) (request : Request) (words cell peak class : ℕ) → IsPlain inside → IsRequest request → (plain_store inside).births < 2 ^ 32 - 1
    → residents.items ≡ inside.residents.items ++ Some resident ∷ [] → resident_object resident ≡ new_object inside.residents.len request
    → words ≡ request_words request → cell ≡ cell_words (request_words request) → peak ≡ max inside.peak (inside.live + words) → class ≡ request_size_class request
    → words ≤ inside.budget - inside.live → cell ≤ inside.limit - inside.made_words
    → after ≡ record inside { residents = residents; live = inside.live + words; peak = peak; made_words = inside.made_words + cell; made = slice_set inside.made class (slice_index_or inside.made class 0 + 1) }
    → (Take (inside.residents.len + 1) true ≡ never_choice (plain_store inside) request) × (plain_store after ≡ made_by (plain_store inside) request (never_choice (plain_store inside) request)) × IsPlain after
pushed inside after residents resident request words cell peak class plain asked fits are object is_words is_cell is_peak is_class lives room is =
    let store = plain_store inside in
    let never = plain.never_reused in
    let len : inside.residents.len ≡ length inside.residents.items = inside.residents.ok.0 in
    let within_budget : inside.live ≤ inside.budget = omega (arith, plain.live_is, plain.sound.live_within_peak, plain.sound.peak_within_budget) in
    let needed : words_needed store request ≤ store.budget = omega (arith, plain.live_is) in
    let made_within : inside.made_words ≤ inside.limit = never.made_within_limit in
    let below : inside.made_words + cell_words (request_words request) ≤ inside.limit = omega arith in
    let open_limit : passes_limit store request ≡ false = le-ltb inside.limit (inside.made_words + cell_words (request_words request)) below in
    let choice : Take (store.births + 1) true ≡ never_choice store request = never_choice-is inside.residents.items inside.budget inside.limit inside.made_words inside.peak inside.made request below in
    let may = MayReuse-next store request true never in
    let after_make = IsNeverReused-made_by store request never open_limit in
    let made : plain_store after ≡ made_by store request (Take (store.births + 1) true) =
    ap plain_store is ∙ plain_of-made inside.residents.items residents.items resident request inside.budget inside.limit inside.made_words inside.peak inside.live inside.made words cell peak class are (object ∙ ap (λ n. new_object n request) len) plain.live_is is_words is_cell is_peak is_class in
    let live : after.live ≡ live_words (made_by store request (Take (store.births + 1) true)) =
    ap (λ a. a.live) is ∙ omega (arith, plain.live_is, live_words-made_by store request (store.births + 1) true may.1) in (
      ap (λ n. Take (n + 1) true) len ∙ choice,
      made ∙ ap (made_by store request) choice,
      IsPlain-is after _ made (IsSound-made_by store request (store.births + 1) true plain.sound asked fits needed may (λ q h. omega (arith, after_make.within q h))) after_make live (subst (λ a. a.limit ≤ 2 ^ 32 - 2) (sym is) plain.limit_fits),
    )

-- the choice that is made lawful is the next number that no object had
pub lawful-next : (inside : Inside) (now : Store) (request : Request) → plain_store inside ≡ now → IsPlain inside → lawful never_choice now request ≡ never_choice now request
lawful-next inside now request view plain =
    lawful_choice-left now request (never_choice now request) (MayReuse-never_choice now request (subst (λ s. IsNeverReused s) view plain.never_reused))

-- a resident with the numbers of a request is the object that it makes
pub new_resident : (class birth births pack : ℕ) (fixed : Bool) (len : ℕ) (elements : List ℕ) → birth ≡ births → elements ≡ replicate len 0
    → ◌≡◌ {A = Object} (record { class = class; birth = birth; pack = pack; fixed = fixed; chain = 0; elements = elements }) (new_object births (request_of class len pack fixed))
new_resident class birth births pack fixed len elements is zeros = λ i. record { class = class; birth = is i; pack = pack; fixed = fixed; chain = 0; elements = zeros i }
