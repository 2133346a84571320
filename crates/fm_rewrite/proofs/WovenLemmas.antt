-- A class with its pool, and the number of its first method that is too long.
use Rattle.std.proofs.Common.{◌≡◌, refl, sym, ◌∙◌, ap, ℕ, ◌+◌, ◌<◌, Bool, true, false, cond, List, [], ◌∷◌, length, Option, Some, None, arith}
use Rattle.std.specs.Option.{option_map, option_or}
use Rattle.fm_chain.specs.Chaining.{calls_for, entries_for}
use Rattle.fm_chain.specs.declared.calls.Calls.{Calls}
use Rattle.fm_chain.specs.declared.entries.ChainPool.{ChainPool}
use Rattle.fm_code.specs.declared.class_file.ClassDef.{ClassDef}
use Rattle.fm_code.specs.declared.class_file.Member.{Member}
use Rattle.fm_rewrite.specs.inner.ByPlans.{changes_by, long_by, pool_by}
use Rattle.fm_place_weave.specs.ClassByPlan.{first_long, has_chains, long_method}
use Rattle.fm_place_weave.specs.declared.planned.Planned.{Planned}

-- this many methods later
abbrev pub later_by : ℕ → ℕ × ℕ → ℕ × ℕ
later_by first long = (first + long.0, long.1)

abbrev long_at : ℕ → ℕ → Option (ℕ × ℕ)
long_at method bytes = Some (method, bytes)

-- places count from the first method of the class, numbers from that of the program
shifted : (calls : Calls) (first place next_one : ℕ) (done : List Planned) (methods : List Member) → next_one ≡ first + place
    → first_long calls next_one done methods ≡ option_map (later_by first) (first_long calls place done methods)
shifted calls first place next_one [] methods is = refl
shifted calls first place next_one (p ∷ done) [] is = refl
shifted calls first place next_one (p ∷ done) (m ∷ methods) is =
    by_method (long_method calls p m) (shifted calls first (place + 1) (next_one + 1) done methods (omega (arith, is))) where
      by_method : (o : Option ℕ)
          → first_long calls (next_one + 1) done methods ≡ option_map (later_by first) (first_long calls (place + 1) done methods)
          → option_or (option_map {U = ℕ × ℕ} (λ bytes. (next_one, bytes)) o) (first_long calls (next_one + 1) done methods)
          ≡ option_map (later_by first) (option_or (option_map {U = ℕ × ℕ} (λ bytes. (place, bytes)) o) (first_long calls (place + 1) done methods))
      by_method None rest = rest
      by_method (Some bytes) rest = ap (λ n. long_at n bytes) is

-- the place is one of a method of the class
pub place_within : (calls : Calls) (place : ℕ) (done : List Planned) (methods : List Member) (long : ℕ × ℕ) → first_long calls place done methods ≡ Some long
    → long.0 < place + length methods
place_within calls place [] methods long is = absurd cc
place_within calls place (p ∷ done) [] long is = absurd cc
place_within calls place (p ∷ done) (m ∷ methods) long is =
    by_method (long_method calls p m) is (place_within calls (place + 1) done methods long) where
      by_method : (o : Option ℕ) → option_or (option_map {U = ℕ × ℕ} (λ bytes. (place, bytes)) o) (first_long calls (place + 1) done methods) ≡ Some long
          → (first_long calls (place + 1) done methods ≡ Some long → long.0 < place + 1 + length methods) → long.0 < place + length (m ∷ methods)
      by_method None found later = let within = later found in omega (arith, within)
      by_method (Some bytes) found later =
          let both : ◌≡◌ {A = ℕ × ℕ} (place, bytes) long = cc in
          let same : place ≡ long.0 = ap (λ (l : ℕ × ℕ). l.0) both in
          omega (arith, same)

-- ---- the class and its pool

module _ (c : ClassDef) (done : List Planned) (pool : ChainPool) where
  abbrev made : ChainPool
  made = record { pool = record { entries = entries_for (has_chains done) c.pool.entries }; calls = calls_for (has_chains done) c.pool.entries }

  -- where there is a pool, a method is changed, and the pool has the entries of FreeMe's methods
  of_pool : (b : Bool) → changes_by done ≡ b → cond b (Some made) None ≡ Some pool → (changes_by done ≡ true) × (made ≡ pool)
  of_pool true is found = (is, cc)
  of_pool false is found = absurd cc

  pub pool_calls : Some pool ≡ pool_by done c → calls_for (has_chains done) c.pool.entries ≡ pool.calls
  pool_calls is = ap (λ (p : ChainPool). p.calls) (of_pool (changes_by done) refl (sym is)).1

  pub long_from_place : Some pool ≡ pool_by done c → (first : ℕ) → long_by first done c ≡ option_map (later_by first) (first_long pool.calls 0 done c.methods)
  long_from_place is first =
      let changed = (of_pool (changes_by done) refl (sym is)).0 in
      ap (λ b. cond b (first_long (calls_for (has_chains done) c.pool.entries) first done c.methods) None) changed
      ∙ ap (λ calls. first_long calls first done c.methods) (pool_calls is)
      ∙ shifted pool.calls first 0 first done c.methods (omega arith)
