-- Locals with those of holders behind them: what a holder holds is loaded, and something is stored in it.
use Rattle.std.proofs.Common.{◌≡◌, refl, sym, ◌∙◌, ap, ℕ, zero, suc, ◌+◌, ◌-◌, ◌<◌, Bool, true, false, cond, List, [], ◌∷◌, ◌++◌, length, length-append, set, Some, None, option_and_then, option_map, arith}
use Rattle.std.specs.Prelude.{nat_lt, slice_get}
use Rattle.std.specs.List.{AllByRecursion}
use Rattle.std.proofs.lemmas.Bool.{le-ltb}
use Rattle.std.proofs.lemmas.List.{get_or-append-add, get_or_append_left, set-append_right}
use Rattle.std.proofs.lemmas.Option.{slice_get-get_or}
use Rattle.fm_base.proofs.ListFacts.{AllByRecursion-get_or, same_head, same_tail}
use Rattle.fm_code.specs.declared.operations.Reg.TheVariants as reg
use Rattle.fm_law_retyped.proofs.Trimmed.{trimmed}
use Rattle.fm_types.specs.NumberRows.{load_row, loaded, store_row, suits}
use Rattle.fm_types.specs.States.{cut_before, is_long, is_reference, local_at, pushed, stored, TypeState}
use Rattle.fm_types.specs.declared.slots.Slot.{Slot}
use Rattle.fm_types.specs.declared.slots.Slot.TheVariants as slot
use Rattle.fm_world.specs.Programs.{Outline}

-- no first half of a long
abbrev pub IsShort : Slot → Type 0
IsShort s = is_long s ≡ false

short_by : (s : Slot) → cond (is_long s) slot.Top s ∷ [] ≡ s ∷ [] → is_long s ≡ false
short_by slot.Long same = ap is_long (sym (same_head slot.Top slot.Long [] [] same))
short_by s same = refl

-- the last of trimmed locals is none
last_short : (locals : List Slot) → trimmed locals ≡ locals → (k : ℕ) → suc k ≡ length locals → is_long (local_at locals k) ≡ false
last_short [] same k is = absurd (omega (arith, is))
last_short (s ∷ []) same zero is = short_by s same
last_short (s ∷ []) same (suc k) is = absurd (omega (arith, is))
last_short (s ∷ t ∷ locals) same zero is = absurd (omega (arith, is))
last_short (s ∷ t ∷ locals) same (suc k) is =
    last_short (t ∷ locals) (same_tail s s (trimmed (t ∷ locals)) (t ∷ locals) same) k (omega (arith, is))

module _ (own holders : List Slot) where
  abbrev both : List Slot
  both = own ++ holders

  count_both : length both ≡ length own + length holders
  count_both = length-append own holders

  holder_here : (h : ℕ) → local_at both (length own + h) ≡ local_at holders h
  holder_here h = get_or-append-add own holders h slot.Top

  holder_set : (h : ℕ) (x : Slot) → set both (length own + h) x ≡ own ++ set holders h x
  holder_set h x =
      let place : length own + h - length own ≡ h = omega arith in
      set-append_right own holders (length own) (length own + h) x refl (omega arith) ∙ ap (λ n. own ++ set holders n x) place

  -- what comes before a holder is no first half of a long
  short_before : trimmed own ≡ own → AllByRecursion IsShort holders → (h k : ℕ) → length own + h ≡ suc k → is_long (local_at both k) ≡ false
  short_before same short zero k is =
      ap is_long (get_or_append_left own holders slot.Top k (omega (arith, is))) ∙ last_short own same k (omega (arith, is))
  short_before same short (suc h) k is =
      let place : k ≡ length own + h = omega (arith, is) in
      ap (λ n. is_long (local_at both n)) place ∙ ap is_long (holder_here h) ∙ AllByRecursion-get_or IsShort holders slot.Top short refl h

  no_cut : trimmed own ≡ own → AllByRecursion IsShort holders → (h n : ℕ) → length own + h ≡ n → cut_before n both ≡ both
  no_cut same short h zero is = refl
  no_cut same short h (suc k) is = ap (λ b. cond b (set both k slot.Top) both) (short_before same short h k is)

  -- a state of these
  abbrev with_both : List Slot → Bool → TypeState
  with_both stack built = record { locals = both; stack = stack; built = built }

  pub holder_stored : (o : Outline) (h : ℕ) (x : Slot) (stack : List Slot) (built : Bool) → trimmed own ≡ own → AllByRecursion IsShort holders
      → h < length holders → is_reference x ≡ true
      → store_row o reg.Ref (length own + h) (with_both (x ∷ stack) built)
      ≡ Some (record { locals = own ++ set holders h x; stack = stack; built = built })
  unfolding store_row
  holder_stored o h x stack built same short within refers =
      let k = length own + h in
      let s = with_both (x ∷ stack) built in
      let count = count_both in
      let new = set (cut_before k both) k x in
      let room : nat_lt (length both) (k + 1) ≡ false = le-ltb (length both) (k + 1) (omega (arith, within, count)) in
      let is : new ≡ own ++ set holders h x = ap (λ l. set l k x) (no_cut same short h k refl) ∙ holder_set h x in
      ap (λ b. cond b (option_map (λ locals. record s { locals = locals; stack = stack }) (stored k (x ∷ []) both)) None) refers
      ∙ ap (λ b. option_map (λ locals. record s { locals = locals; stack = stack }) (cond b None (Some new))) room
      ∙ ap (λ l. Some (record { locals = l; stack = stack; built = built })) is

  pub holder_loaded : (h : ℕ) (stack : List Slot) (built : Bool) → h < length holders → is_reference (local_at holders h) ≡ true
      → load_row reg.Ref (length own + h) (with_both stack built) ≡ Some (pushed (local_at holders h ∷ []) (with_both stack built))
  unfolding load_row
  holder_loaded h stack built within refers =
      let k = length own + h in
      let s = with_both stack built in
      let count = count_both in
      let found : slice_get both k ≡ Some (local_at holders h) =
      slice_get-get_or both k slot.Top (omega (arith, within, count)) ∙ ap Some (holder_here h) in
      ap (option_and_then (λ (x : Slot). cond (suits reg.Ref x) (Some (pushed (loaded reg.Ref x) s)) None)) found
      ∙ ap (λ b. cond b (Some (pushed (local_at holders h ∷ []) s)) None) refers
