-- Where a step does not pass the words that may live, none of its objects does.
use Rattle.std.proofs.Common.{◌≡◌, ℕ, ◌+◌, ◌<◌, ◌≤◌, ◌&&◌, ◌⊎◌, inl, inr, cond, Bool, true, false, List, [], ◌∷◌, nat_lt, refl, sym, ◌∙◌, ap, arith}
use Rattle.std.proofs.lemmas.Bool.{cases_lt, false≢true, lt-ltb}
use Rattle.fm_base.specs.declared.limits.TheConstants.{MAX_LIVE_WORDS}
use Rattle.fm_cells.specs.Stores.{live_words}
use Rattle.fm_world.specs.Programs.{Outline}
use Rattle.fm_frames.specs.Effects.{Action, Make, MakeFixed, MakeLiteral, Put, SetStatic, Start, Free, SetChain, FreeChain, Copy}
use Rattle.fm_frames.specs.States.{Areas}
use Rattle.fm_frames.specs.Steps.{is_over, makes, words_among, words_made}
use Rattle.fm_law_sound.specs.Making.{AreFew}

-- of few words in all each object has few
few_of : (o : Outline) (x : Areas) (actions : List Action) (literals : List ℕ) → words_among o x literals actions ≤ MAX_LIVE_WORDS → AreFew o actions
few_of o x [] literals few = tt
few_of o x (Make t len content ∷ more) literals few = (omega (arith, few), few_of o x more literals (omega (arith, few)))
few_of o x (MakeFixed t ∷ more) literals few = (tt, few_of o x more literals (omega (arith, few)))
few_of o x (MakeLiteral text ∷ more) literals few = (tt, few_of o x more (text ∷ literals) (omega (arith, few)))
few_of o x (Put object place k v ∷ more) literals few = (tt, few_of o x more literals (omega (arith, few)))
few_of o x (SetStatic slot k v ∷ more) literals few = (tt, few_of o x more literals (omega (arith, few)))
few_of o x (Start class ∷ more) literals few = (tt, few_of o x more literals (omega (arith, few)))
few_of o x (Free operand ∷ more) literals few = (tt, few_of o x more literals (omega (arith, few)))
few_of o x (SetChain operand to ∷ more) literals few = (tt, few_of o x more literals (omega (arith, few)))
few_of o x (FreeChain operand ∷ more) literals few = (tt, few_of o x more literals (omega (arith, few)))
few_of o x (Copy t len operand ∷ more) literals few = (tt, few_of o x more literals (omega (arith, few)))

-- what makes nothing has nothing of many words
none_made : (o : Outline) (actions : List Action) → makes actions ≡ false → AreFew o actions
none_made o [] none = tt
none_made o (Make t len content ∷ more) none = absurd (false≢true (sym none))
none_made o (MakeFixed t ∷ more) none = absurd (false≢true (sym none))
none_made o (MakeLiteral text ∷ more) none = absurd (false≢true (sym none))
none_made o (Put object place k v ∷ more) none = (tt, none_made o more none)
none_made o (SetStatic slot k v ∷ more) none = (tt, none_made o more none)
none_made o (Start class ∷ more) none = (tt, none_made o more none)
none_made o (Free operand ∷ more) none = (tt, none_made o more none)
none_made o (SetChain operand to ∷ more) none = (tt, none_made o more none)
none_made o (FreeChain operand ∷ more) none = (tt, none_made o more none)
none_made o (Copy t len operand ∷ more) none = absurd (false≢true (sym none))

few_needed : (needed budget live : ℕ) → (nat_lt 0 needed && nat_lt budget (live + needed)) ≡ false → budget ≤ MAX_LIVE_WORDS → needed ≤ MAX_LIVE_WORDS
few_needed needed budget live not_over few = by_some (cases_lt 0 needed) (cases_lt budget (live + needed)) where
  by_some : (0 < needed) ⊎ (needed ≤ 0) → (budget < live + needed) ⊎ (live + needed ≤ budget) → needed ≤ MAX_LIVE_WORDS
  by_some (inr nothing) other = omega (arith, nothing)
  by_some (inl some) (inr within) = omega (arith, within, few)
  by_some (inl some) (inl passes) =
      absurd (false≢true (sym not_over ∙ ap (λ b. b && nat_lt budget (live + needed)) (lt-ltb 0 needed some) ∙ lt-ltb budget (live + needed) passes))

pub few_within : (o : Outline) (x : Areas) (actions : List Action) → x.store.budget ≤ MAX_LIVE_WORDS → is_over o x actions ≡ false → AreFew o actions
few_within o x actions budget not_over = by_making (makes actions) refl where
  by_making : (b : Bool) → makes actions ≡ b → AreFew o actions
  by_making false none = none_made o actions none
  by_making true some =
      let needed : ℕ = words_made o x actions in
      let few : needed ≤ MAX_LIVE_WORDS =
      few_needed needed x.store.budget (live_words x.store)
      (sym (ap (λ b. cond b (nat_lt 0 needed && nat_lt x.store.budget (live_words x.store + needed)) false) some) ∙ not_over) budget in
      few_of o x actions [] (omega (arith, few))
