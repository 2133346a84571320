-- Which locals an instruction loads a reference from, and which it stores over.
use Rattle.std.proofs.Common.{◌≡◌, ℕ, ◌+◌, ◌<◌, ◌≤◌, ◌↔◌, ◌==◌, true, List, [], ◌∷◌, length, get_or, replicate, Contains, Some, ⊎_elim, ap, ◌∙◌, subst, arith}
use Rattle.std.proofs.lemmas.Bool.{eq-eqb, eqb-true, false≢true, or_cases, or_left, or_right}
use Rattle.std.proofs.lemmas.List.Elements.{All-get_or, All-from_recursion, Contains-append_left, Contains-push, Contains-push_cases}
use Rattle.std.specs.Prelude.{slice_get}
use Rattle.fm_base.proofs.OptionFacts.{option_map-some, Some-from_some_and, IsSomeAnd-from_some, IsSomeAnd-at_some, same_value}
use Rattle.fm_code.proofs.EdgesLemmas.{insn_inside}
use Rattle.fm_code.specs.Edges.{MeetsCodeRules, insn_of}
use Rattle.fm_code.specs.Live.{stores_over, Loads}
use Rattle.fm_code.specs.SpellsCode.{LocalsFit}
use Rattle.fm_code.specs.declared.code_array.Code.{Code}
use Rattle.fm_code.specs.declared.code_array.Item.{Item}
use Rattle.fm_code.specs.declared.operations.Reg.TheVariants as reg
use Rattle.fm_code.specs.declared.instructions.Insn.{Insn}
use Rattle.fm_code.specs.declared.instructions.Insn.TheVariants as insn
use Rattle.fm_flow.proofs.EdgesOfLemmas.{insn_of-get_or}
use Rattle.fm_flow.proofs.ListsByLemmas.{Listing, Listing-none, Listing-more, AreListsBy-all}
use Rattle.fm_flow.specs.inner.LiveWalks.{local_loaded, locals_stored, AddsToEach, AreUsesOf, StoresOver}

-- ---- one instruction

-- the only number of a list of one
only : (x k : ℕ) → Contains (x ∷ []) k → x ≡ k
only x k found = ⊎_elim (λ (none : Contains [] k). absurd (let inside = none.1 in omega arith)) (λ same. same) (Contains-push_cases [] x k found)

loaded_tells : (i : Insn) (k : ℕ) → Contains (local_loaded i) k → i ≡ insn.Load reg.Ref k
loaded_tells (insn.Load reg.Ref local) k found = ap (insn.Load reg.Ref) (only local k found)
loaded_tells i k found = absurd (let inside = found.1 in omega arith)

-- the locals that are listed are those that are loaded
pub loaded_listed : (code : Code) (j : ℕ) (i : Insn) → insn_of code j ≡ Some i → (k : ℕ) → Contains (local_loaded i) k ↔ Loads code k j
loaded_listed code j i is k = (
  λ found. is ∙ ap Some (loaded_tells i k found),
  λ loads.
      let same : insn.Load reg.Ref k ≡ i = same_value (insn_of code j) (insn.Load reg.Ref k) i loads is in
      subst (λ (n : Insn). Contains (local_loaded n) k) same (Contains-push [] k),
)

stored_tells : (i : Insn) (k : ℕ) → Contains (locals_stored i) k → stores_over k i ≡ true
stored_tells (insn.Store reg.Int local) k found = eq-eqb local k (only local k found)
stored_tells (insn.Store reg.Ref local) k found = eq-eqb local k (only local k found)
stored_tells (insn.Store reg.Long local) k found =
    ⊎_elim (λ first. or_left (local == k) (local + 1 == k) (eq-eqb local k (only local k first)))
    (λ second. or_right (local == k) (local + 1 == k) (eq-eqb (local + 1) k second))
    (Contains-push_cases (local ∷ []) (local + 1) k found)
stored_tells i k found = absurd (let inside = found.1 in omega arith)

tells_stored : (i : Insn) (k : ℕ) → stores_over k i ≡ true → Contains (locals_stored i) k
tells_stored (insn.Store reg.Int local) k is = subst (λ (n : ℕ). Contains (local ∷ []) n) (eqb-true local k is) (Contains-push [] local)
tells_stored (insn.Store reg.Ref local) k is = subst (λ (n : ℕ). Contains (local ∷ []) n) (eqb-true local k is) (Contains-push [] local)
tells_stored (insn.Store reg.Long local) k is =
    ⊎_elim
    (λ (first : (local == k) ≡ true).
    subst (λ (n : ℕ). Contains (local ∷ (local + 1) ∷ []) n) (eqb-true local k first) (Contains-append_left (local ∷ []) ((local + 1) ∷ []) local (Contains-push [] local)))
    (λ (second : (local + 1 == k) ≡ true).
    subst (λ (n : ℕ). Contains (local ∷ (local + 1) ∷ []) n) (eqb-true (local + 1) k second) (Contains-push (local ∷ []) (local + 1)))
    (or_cases (local == k) (local + 1 == k) is)
tells_stored i k is = absurd (false≢true is)

-- and those that are stored over
pub stored_listed : (code : Code) (j : ℕ) (i : Insn) → insn_of code j ≡ Some i → (k : ℕ) → Contains (locals_stored i) k ↔ StoresOver code k j
stored_listed code j i is k = (
  λ found. IsSomeAnd-from_some (insn_of code j) (λ i. stores_over k i ≡ true) i is (stored_tells i k found),
  λ stores. tells_stored i k (IsSomeAnd-at_some (insn_of code j) (λ i. stores_over k i ≡ true) i is stores),
)

-- ---- locals lie within max_locals

pub locals_fit : (code : Code) (j : ℕ) (i : Insn) → MeetsCodeRules code → insn_of code j ≡ Some i → LocalsFit code.max_locals i
locals_fit code j i (entries, valid) is =
    let Fits : Item → Type 0 = λ item. LocalsFit code.max_locals item.insn in
    let inside = insn_inside code j i is in
    let d = (option_map-some (λ (item : Item). item.insn) (slice_get code.items j) i is).0 in
    subst (LocalsFit code.max_locals) (same_value (insn_of code j) (get_or code.items j d).insn i (insn_of-get_or code j d inside) is)
    (All-get_or Fits code.items j d inside (All-from_recursion Fits code.items valid.locals))

-- what is loaded
pub loaded_fits : (code : Code) (j k : ℕ) → MeetsCodeRules code → Loads code k j → k < code.max_locals
loaded_fits code j k rules loads = locals_fit code j (insn.Load reg.Ref k) rules loads

-- what is stored over
pub stored_fits : (n k : ℕ) (i : Insn) → LocalsFit n i → Contains (locals_stored i) k → k < n
stored_fits n k (insn.Store reg.Int local) fits found = let same = only local k found in omega arith
stored_fits n k (insn.Store reg.Ref local) fits found = let same = only local k found in omega arith
stored_fits n k (insn.Store reg.Long local) fits found =
    ⊎_elim (λ first. let same = only local k first in omega arith) (λ (same : local + 1 ≡ k). omega arith) (Contains-push_cases (local ∷ []) (local + 1) k found)
stored_fits n k i fits found = absurd (let inside = found.1 in omega arith)

-- ---- the items below j

-- their uses
pub record Using (code : Code) (loads stores : List (List ℕ)) (j : ℕ) : Type 0 where
  pub loaded : Listing code.max_locals (Loads code) loads j
  pub stored : Listing code.max_locals (StoresOver code) stores j

pub Using-none : (code : Code) → Using code (replicate code.max_locals []) (replicate code.max_locals []) 0
Using-none code = record {
  loaded = Listing-none code.max_locals (Loads code);
  stored = Listing-none code.max_locals (StoresOver code);
}

-- an item more
pub Using-more : (code : Code) (loads stores new_loads new_stores : List (List ℕ)) (j : ℕ) (i : Insn) → Using code loads stores j → insn_of code j ≡ Some i →
    AddsToEach (local_loaded i) j loads new_loads → AddsToEach (locals_stored i) j stores new_stores → Using code new_loads new_stores (j + 1)
Using-more code loads stores new_loads new_stores j i so_far is load store = record {
  loaded = Listing-more code.max_locals (Loads code) loads new_loads (local_loaded i) j so_far.loaded (loaded_listed code j i is) load;
  stored = Listing-more code.max_locals (StoresOver code) stores new_stores (locals_stored i) j so_far.stored (stored_listed code j i is) store;
}

pub AreUsesOf-all : (code : Code) (loads stores : List (List ℕ)) (j : ℕ) → length code.items ≤ j → Using code loads stores j → AreUsesOf code loads stores
AreUsesOf-all code loads stores j past all = record {
  loaded = AreListsBy-all code.max_locals (Loads code) loads j (λ k x is. let inside = insn_inside code x (insn.Load reg.Ref k) is in omega arith) all.loaded;
  stored = AreListsBy-all code.max_locals (StoresOver code) stores j
      (λ k x is.
      let found = Some-from_some_and (insn_of code x) (λ i. stores_over k i ≡ true) is in
      let inside = insn_inside code x found.0 found.1 in omega arith)
      all.stored;
}
