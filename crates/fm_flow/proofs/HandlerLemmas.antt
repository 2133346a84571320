-- Handlers of an item, gathered one entry of the exception table after the other, and the ends of their ranges.
use Rattle.std.proofs.Common.{◌≡◌, ℕ, ◌+◌, ◌<◌, ◌≤◌, ◌↔◌, Bool, true, List, [], ◌∷◌, ◌++◌, length, take, get_or, set, Contains, inl, inr, ⊎_elim, sym, subst, arith, length-set}
use Rattle.std.proofs.lemmas.List.{take_more, take_all}
use Rattle.std.proofs.lemmas.List.Elements.{All-get_or, All-from_recursion, Contains-append_left, Contains-push, Contains-push_cases}
use Rattle.std.specs.List.{AllByRecursion, Any}
use Rattle.fm_base.proofs.ListFacts.{AllByRecursion-weaker, AllByRecursion-append}
use Rattle.fm_code.specs.Edges.{Catches}
use Rattle.fm_code.specs.declared.code_array.Handler.{Handler}
use Rattle.fm_flow.proofs.AnyLemmas.{Any-take_more}
use Rattle.fm_base.proofs.RowFacts.{has-set_kept, has-set_same}
use Rattle.fm_flow.specs.inner.Walks.{EndsWithin, IsMarked, AreMarked}

-- an entry that is nowhere
abbrev pub blank : Handler
blank = record { start = 0; end = 0; handler = 0; catch_class = 0 }

-- the list has the handlers of item j
abbrev pub AreCaught : ℕ → List Handler → List ℕ → Type 0
AreCaught j handlers list = (x : ℕ) → Contains list x ↔ Any (Catches j x) handlers

-- no entry
pub AreCaught-none : (j : ℕ) → AreCaught j [] []
AreCaught-none j x = (λ (k, inside, there). absurd (omega arith), λ (k, h, inside, there, catches). absurd (omega arith))

-- an entry more, whose range holds the item
pub AreCaught-push : (j : ℕ) (handlers : List Handler) (i : ℕ) (list : List ℕ) → i < length handlers → AreCaught j (take i handlers) list →
    (get_or handlers i blank).start ≤ j → j < (get_or handlers i blank).end →
    AreCaught j (take (i + 1) handlers) (list ++ (get_or handlers i blank).handler ∷ [])
AreCaught-push j handlers i list inside so_far after before x =
    let h = get_or handlers i blank in
    let more = Any-take_more (Catches j x) handlers i blank inside in (
      λ found.
          more.1
          (⊎_elim (λ earlier. inl ((so_far x).0 earlier))
          (λ (same : h.handler ≡ x). inr (record { after_start = after; before_end = before; handler_is = same }))
          (Contains-push_cases list h.handler x found)),
      λ some.
          ⊎_elim (λ earlier. Contains-append_left list (h.handler ∷ []) x ((so_far x).1 earlier))
          (λ (last : Catches j x h). subst (λ (n : ℕ). Contains (list ++ h.handler ∷ []) n) last.handler_is (Contains-push list h.handler))
          (more.0 some),
    )

-- an entry more, whose range doesn't
pub AreCaught-skip : (j : ℕ) (handlers : List Handler) (i : ℕ) (list : List ℕ) → i < length handlers → AreCaught j (take i handlers) list →
    ((get_or handlers i blank).start ≤ j → j < (get_or handlers i blank).end → ⊥) → AreCaught j (take (i + 1) handlers) list
AreCaught-skip j handlers i list inside so_far outside x =
    let more = Any-take_more (Catches j x) handlers i blank inside in (
      λ found. more.1 (inl ((so_far x).0 found)),
      λ some.
          ⊎_elim (λ earlier. (so_far x).1 earlier)
          (λ (last : Catches j x (get_or handlers i blank)). absurd (outside last.after_start last.before_end))
          (more.0 some),
    )

-- all entries
pub AreCaught-all : (j : ℕ) (handlers : List Handler) (i : ℕ) (list : List ℕ) → length handlers ≤ i → AreCaught j (take i handlers) list → AreCaught j handlers list
AreCaught-all j handlers i list past all = subst (λ (hs : List Handler). AreCaught j hs list) (take_all i handlers past) all

-- ---- the ends of ranges

-- a mark more keeps all marks
pub IsMarked-set : (ends : List Bool) (i : ℕ) (h : Handler) → IsMarked ends h → IsMarked (set ends i true) h
IsMarked-set ends i h marked = record { start = has-set_kept ends i h.start marked.start; end = has-set_kept ends i h.end marked.end }

-- an entry more is marked
pub AreMarked-more : (count : ℕ) (handlers : List Handler) (i : ℕ) (ends : List Bool) → i < length handlers → AreMarked count (take i handlers) ends →
    EndsWithin count (get_or handlers i blank) →
    AreMarked count (take (i + 1) handlers) (set (set ends (get_or handlers i blank).start true) (get_or handlers i blank).end true)
AreMarked-more count handlers i ends inside so_far within =
    let h = get_or handlers i blank in
    let start = within.start in
    let end = within.end in
    let bits = so_far.bits in
    let once = set ends h.start true in
    let twice = set once h.end true in
    let first = length-set ends h.start true in
    let second = length-set once h.end true in
    let marked : IsMarked twice h = record {
      start = has-set_kept once h.end h.start (has-set_same ends h.start (omega arith));
      end = has-set_same once h.end (omega arith);
    } in
    let before : AllByRecursion (IsMarked twice) (take i handlers) =
    AllByRecursion-weaker (IsMarked ends) (IsMarked twice) (λ g was. IsMarked-set once h.end g (IsMarked-set ends h.start g was)) (take i handlers) so_far.each in
    record {
      bits = omega arith;
      each = subst (λ (hs : List Handler). AllByRecursion (IsMarked twice) hs) (sym (take_more handlers i blank inside))
          (AllByRecursion-append (IsMarked twice) (take i handlers) (h ∷ []) before (marked, tt));
    }

-- all entries are
pub AreMarked-all : (count : ℕ) (handlers : List Handler) (i : ℕ) (ends : List Bool) → length handlers ≤ i → AreMarked count (take i handlers) ends →
    AreMarked count handlers ends
AreMarked-all count handlers i ends past all = subst (λ (hs : List Handler). AreMarked count hs ends) (take_all i handlers past) all

-- the entry at a place has what all have
pub EndsWithin-at : (count : ℕ) (handlers : List Handler) (i : ℕ) → i < length handlers → AllByRecursion (EndsWithin count) handlers → EndsWithin count (get_or handlers i blank)
EndsWithin-at count handlers i inside all = All-get_or (EndsWithin count) handlers i blank inside (All-from_recursion (EndsWithin count) handlers all)
