-- A list of residents as a store: what is in a cell, and the store after a push and after a write.
use Rattle.std.proofs.Common.{◌≡◌, ℕ, zero, suc, ◌+◌, ◌<◌, ◌≤◌, true, false, cond, List, [], ◌∷◌, ◌++◌, length, sym, ◌∙◌, ap, subst, nat_eq, arith, inl, inr, max, set, get_or, replicate, length-set, length-append, get_or-set_same, get_or-set_other}
use Rattle.std.specs.Prelude.{Option, Some, None, IsSome}
use Rattle.std.specs.Option.{option_map}
use Rattle.std.proofs.lemmas.List.{get_or_past, get_or_append_left, get_or_at}
use Rattle.std.proofs.lemmas.Bool.{cases_eq, cases_lt, lt-ltb, le-ltb}
use Rattle.fm_base.proofs.TestFacts.{apart-nat_eq, same-nat_eq}
use Rattle.fm_cells.specs.Sizes.{cell_words}
use Rattle.fm_cells.specs.Objects.{Object, Request, request_words, request_size_class, new_object}
use Rattle.fm_cells.specs.Stores.{opened, no_lists, object_at, live_words}
use Rattle.fm_cells.specs.Changes.{Take, RefuseStore, made_by, without_object, with_object}
use Rattle.fm_cells.specs.Choices.{never_choice}
use Rattle.fm_cells.specs.inner.Tables.{map_of}
use Rattle.fm_cells.specs.inner.Residents.{resident_object, object_in, plain_of}
use Rattle.fm_cells.specs.declared.plain_cells.Resident.{Resident}
use Rattle.fm_cells.proofs.Tables.{get-map_of, map_of-insert, map_of-remove}

-- nothing lies past the last resident
object_in-past : (residents : List (Option Resident)) (cell : ℕ) → length residents + 1 ≤ cell → object_in residents cell ≡ None
object_in-past residents zero h = absurd (omega arith)
object_in-past residents (suc place) h = ap (λ o. option_map resident_object o) (get_or_past residents place None (omega arith))

-- the object in a cell of the store
pub object_at-plain_of : (residents : List (Option Resident)) (budget limit made_words peak : ℕ) (made : List ℕ) (cell : ℕ) → object_at (plain_of residents budget limit made_words peak made) cell ≡ object_in residents cell
object_at-plain_of residents budget limit made_words peak made cell = get-map_of (object_in residents) (length residents + 1) cell (object_in-past residents cell)

object_in-push : (residents : List (Option Resident)) (resident : Resident) (cell : ℕ) → object_in (residents ++ Some resident ∷ []) cell ≡ cond (nat_eq cell (length residents + 1)) (Some (resident_object resident)) (object_in residents cell)
object_in-push residents resident zero = sym (ap (λ b. cond b (Some (resident_object resident)) None) (apart-nat_eq 0 (length residents + 1) (λ e. absurd (omega arith))))
object_in-push residents resident (suc place) = elim (cases_eq place (length residents)) as (λ _. object_in (residents ++ Some resident ∷ []) (suc place) ≡ cond (nat_eq (suc place) (length residents + 1)) (Some (resident_object resident)) (object_in residents (suc place))) [
  | inl e ↦
      let last : suc place ≡ length residents + 1 = omega arith in
      ap (λ o. option_map resident_object o) (get_or_at residents (Some resident) [] None place (sym e))
      ∙ sym (ap (λ j. cond (nat_eq j (length residents + 1)) (Some (resident_object resident)) (object_in residents (suc place))) last ∙ ap (λ b. cond b (Some (resident_object resident)) (object_in residents (suc place))) (same-nat_eq (length residents + 1)))
  | inr e ↦
      let other : nat_eq (suc place) (length residents + 1) ≡ false = apart-nat_eq (suc place) (length residents + 1) (λ h. e (omega arith)) in
      elim (cases_lt place (length residents)) as (λ _. object_in (residents ++ Some resident ∷ []) (suc place) ≡ object_in residents (suc place)) [
        | inl h ↦ ap (λ o. option_map resident_object o) (get_or_append_left residents (Some resident ∷ []) None place h)
        | inr h ↦
            ap (λ o. option_map resident_object o) (get_or_past (residents ++ Some resident ∷ []) place None (simp length-append (omega arith)) ∙ sym (get_or_past residents place None h))
      ] ∙ sym (ap (λ b. cond b (Some (resident_object resident)) (object_in residents (suc place))) other)
]

object_in-set : (residents : List (Option Resident)) (place : ℕ) (resident : Option Resident) (cell : ℕ) → place < length residents → object_in (set residents place resident) cell ≡ cond (nat_eq cell (suc place)) (option_map resident_object resident) (object_in residents cell)
object_in-set residents place resident zero h = sym (ap (λ b. cond b (option_map resident_object resident) None) (apart-nat_eq 0 (suc place) (λ e. absurd (omega arith))))
object_in-set residents place resident (suc at) h = elim (cases_eq at place) as (λ _. object_in (set residents place resident) (suc at) ≡ cond (nat_eq (suc at) (suc place)) (option_map resident_object resident) (object_in residents (suc at))) [
  | inl e ↦
      subst (λ j. object_in (set residents place resident) (suc j) ≡ cond (nat_eq (suc j) (suc place)) (option_map resident_object resident) (object_in residents (suc j))) (sym e)
      (ap (λ o. option_map resident_object o) (get_or-set_same residents place resident None h) ∙ sym (ap (λ b. cond b (option_map resident_object resident) (object_in residents (suc place))) (same-nat_eq (suc place))))
  | inr e ↦
      ap (λ o. option_map resident_object o) (get_or-set_other residents place at resident None e)
      ∙ sym (ap (λ b. cond b (option_map resident_object resident) (object_in residents (suc at))) (apart-nat_eq (suc at) (suc place) (λ h. e (omega arith))))
]

-- a resident that is pushed is an object that is made in the next cell
pub plain_of-push : (residents after : List (Option Resident)) (resident : Resident) (request : Request) (budget limit made_words peak live : ℕ) (made : List ℕ)
    → after ≡ residents ++ Some resident ∷ [] → resident_object resident ≡ new_object (length residents) request → live ≡ live_words (plain_of residents budget limit made_words peak made)
    → plain_of after budget limit (made_words + cell_words (request_words request)) (max peak (live + request_words request)) (set made (request_size_class request) (get_or made (request_size_class request) 0 + 1))
    ≡ made_by (plain_of residents budget limit made_words peak made) request (Take (length residents + 1) true)
plain_of-push residents after resident request budget limit made_words peak live made pushed object living =
    let at : (q : ℕ) → object_in after q ≡ cond (nat_eq q (length residents + 1)) (Some (new_object (length residents) request)) (object_in residents q) =
    λ q. ap (λ all. object_in all q) pushed ∙ object_in-push residents resident q ∙ ap (λ o. cond (nat_eq q (length residents + 1)) (Some o) (object_in residents q)) object in
    let held = map_of-insert (object_in residents) (object_in after) (length residents + 1) (length after + 1) (length residents + 1) (new_object (length residents) request) (object_in-past residents) (object_in-past after) at in
    let births : length after ≡ length residents + 1 = ap length pushed ∙ length-append residents (Some resident ∷ []) in
    λ i. record {
      held = held i;
      budget = budget;
      limit = Some limit;
      births = births i;
      made_words = made_words + cell_words (request_words request);
      peak = max peak (living i + request_words request);
      made = set made (request_size_class request) (get_or made (request_size_class request) 0 + 1);
      free = [];
    }

-- a resident that is emptied is an object that is freed
pub plain_of-none : (residents : List (Option Resident)) (place : ℕ) (object : Object) (budget limit made_words peak : ℕ) (made : List ℕ) → place < length residents
    → plain_of (set residents place None) budget limit made_words peak made ≡ without_object (plain_of residents budget limit made_words peak made) (suc place) object
plain_of-none residents place object budget limit made_words peak made h =
    let held = map_of-remove (object_in residents) (object_in (set residents place None)) (length residents + 1) (length (set residents place None) + 1) (suc place) (object_in-past residents) (object_in-past (set residents place None)) (λ q. object_in-set residents place None q h) in
    let births = length-set residents place None in
    λ i. record { held = held i; budget = budget; limit = Some limit; births = births i; made_words = made_words; peak = peak; made = made; free = [] }

-- a resident that is overwritten is a change of its object
pub plain_of-some : (residents : List (Option Resident)) (place : ℕ) (resident : Resident) (object : Object) (budget limit made_words peak : ℕ) (made : List ℕ) → place < length residents → resident_object resident ≡ object
    → plain_of (set residents place (Some resident)) budget limit made_words peak made ≡ with_object (plain_of residents budget limit made_words peak made) (suc place) object
plain_of-some residents place resident object budget limit made_words peak made h is =
    let at : (q : ℕ) → object_in (set residents place (Some resident)) q ≡ cond (nat_eq q (suc place)) (Some object) (object_in residents q) = λ q. object_in-set residents place (Some resident) q h ∙ ap (λ o. cond (nat_eq q (suc place)) (Some o) (object_in residents q)) is in
    let held = map_of-insert (object_in residents) (object_in (set residents place (Some resident))) (length residents + 1) (length (set residents place (Some resident)) + 1) (suc place) object (object_in-past residents) (object_in-past (set residents place (Some resident))) at in
    let births = length-set residents place (Some resident) in
    λ i. record { held = held i; budget = budget; limit = Some limit; births = births i; made_words = made_words; peak = peak; made = made; free = [] }

-- a held cell is one of the residents
pub place-lt : (residents : List (Option Resident)) (place : ℕ) → IsSome (object_in residents (suc place)) → place < length residents
place-lt residents place h = elim (cases_lt place (length residents)) as (λ _. place < length residents) [
  | inl l ↦ l
  | inr l ↦ let none : IsSome {T = Object} None = subst IsSome (object_in-past residents (suc place) (omega arith)) h in absurd (cc)
]

-- the same where the words of the request, of its cell and so on are known by other names
pub plain_of-made : (residents after : List (Option Resident)) (resident : Resident) (request : Request) (budget limit made_words peak live : ℕ) (made : List ℕ) (words cell peak' class : ℕ)
    → after ≡ residents ++ Some resident ∷ [] → resident_object resident ≡ new_object (length residents) request → live ≡ live_words (plain_of residents budget limit made_words peak made)
    → words ≡ request_words request → cell ≡ cell_words (request_words request) → peak' ≡ max peak (live + words) → class ≡ request_size_class request
    → plain_of after budget limit (made_words + cell) peak' (set made class (get_or made class 0 + 1)) ≡ made_by (plain_of residents budget limit made_words peak made) request (Take (length residents + 1) true)
plain_of-made residents after resident request budget limit made_words peak live made words cell peak' class pushed object living is_words is_cell is_peak is_class =
    let most : peak' ≡ max peak (live + request_words request) = is_peak ∙ ap (λ w. max peak (live + w)) is_words in
    ap (λ w. plain_of after budget limit (made_words + w) peak' (set made class (get_or made class 0 + 1))) is_cell
    ∙ ap (λ p. plain_of after budget limit (made_words + cell_words (request_words request)) p (set made class (get_or made class 0 + 1))) most
    ∙ ap (λ k. plain_of after budget limit (made_words + cell_words (request_words request)) (max peak (live + request_words request)) (set made k (get_or made k 0 + 1))) is_class
    ∙ plain_of-push residents after resident request budget limit made_words peak live made pushed object living

-- no residents are a store in which nothing was made
pub plain_of-nil : (residents : List (Option Resident)) (budget limit : ℕ) → residents ≡ [] → plain_of residents budget limit 0 0 (replicate 64 0) ≡ opened budget (Some limit) no_lists
unfolding map_of
plain_of-nil residents budget limit none = ap (λ all. plain_of all budget limit 0 0 (replicate 64 0)) none

-- a new cell that doesn't pass the store limit is what memory that is never reused chooses
pub never_choice-is : (residents : List (Option Resident)) (budget limit made_words peak : ℕ) (made : List ℕ) (request : Request) → made_words + cell_words (request_words request) ≤ limit → Take (length residents + 1) true ≡ never_choice (plain_of residents budget limit made_words peak made) request
never_choice-is residents budget limit made_words peak made request h = sym (ap (λ b. cond b RefuseStore (Take (length residents + 1) true)) (le-ltb limit (made_words + cell_words (request_words request)) h))

pub never_choice-refused : (residents : List (Option Resident)) (budget limit made_words peak : ℕ) (made : List ℕ) (request : Request) → limit < made_words + cell_words (request_words request) → RefuseStore ≡ never_choice (plain_of residents budget limit made_words peak made) request
never_choice-refused residents budget limit made_words peak made request h = sym (ap (λ b. cond b RefuseStore (Take (length residents + 1) true)) (lt-ltb limit (made_words + cell_words (request_words request)) h))
