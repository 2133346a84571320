-- The effect of an item that is kept is that of the old item; of the opposite of a branch, it goes where the branch doesn't.
use Rattle.std.proofs.Common.{◌≡◌, ℕ, ◌⊎◌, inl, inr, Bool, List, ◌∷◌, Option, Some, None, option_and_then, unwrap_or, refl, sym, ap, ◌∙◌, slice_get}
use Rattle.fm_code.specs.Edges.{insn_of}
use Rattle.fm_code.specs.SpellsCode.{with_targets}
use Rattle.fm_code.specs.declared.code_array.Code.{Code}
use Rattle.fm_code.specs.declared.instructions.Insn.{Insn}
use Rattle.fm_conn.specs.Facts.{Facts}
use Rattle.fm_frames.specs.Effects.{Effect}
use Rattle.fm_frames.specs.JumpRows.{int_jump_effect, null_jump_effect, pair_jump_effect}
use Rattle.fm_frames.specs.Rows.{effect_of}
use Rattle.fm_frames.specs.Sights.{Sight, sights}
use Rattle.fm_frames.specs.Starts.{with_start}
use Rattle.fm_frames.specs.States.{Frame, State}
use Rattle.fm_frames.specs.Steps.{effect_by, next_effect, next_insn}
use Rattle.fm_law_retyped.proofs.KeptRows.{same_row}
use Rattle.fm_law_same_runs.specs.Beside.{kept_item, Marks}
use Rattle.fm_law_sound.proofs.Cases.{by_int, by_reference}
use Rattle.fm_law_sound.proofs.StartActs.{for_class}
use Rattle.fm_law_unwoven.proofs.UnseenTargets.{opposites_exchange, targets_unseen}
use Rattle.fm_law_unwoven.specs.Kept.{old_frame, old_state}
use Rattle.fm_law_unwoven.specs.UnseenCode.{with_exchanged}
use Rattle.fm_law_unwoven.specs.WovenFrom.{HasInserted, inserted_by, IsWovenFrom}
use Rattle.fm_law_woven_flow.specs.Roles.{IsOpposite, IsRetargeted}
use Rattle.fm_layout.specs.Spelling.{conditional, opposite}
use Rattle.fm_layout.specs.declared.rooms.Condition.{Condition}
use Rattle.fm_layout.specs.declared.rooms.Condition.TheVariants as condition
use Rattle.fm_place.specs.Rewriting.{Plans}
use Rattle.fm_types.specs.Typed.{use_by}
use Rattle.fm_world.specs.Programs.{code_at, Outline, Program}
use Rattle.fm_world.specs.declared.uses.Use.{Use}

-- ---- branches start no class

abbrev StartsNone : Effect → Type 0
StartsNone e = e.starts ≡ None

pub branch_starts : (o : Outline) (method : ℕ) (u : Use) (c : Condition) (target : ℕ) (byte : Option ℕ) (s : List Sight)
    → (effect_of o method u (conditional c target) byte s).starts ≡ None
unfolding effect_of int_jump_effect pair_jump_effect null_jump_effect
branch_starts o method u (condition.Int t) target byte s = by_int StartsNone s 0 _ refl (λ a. refl)
branch_starts o method u (condition.Pair t) target byte s = by_int StartsNone s 0 _ refl (λ b. by_int StartsNone s 1 _ refl (λ a. refl))
branch_starts o method u (condition.Same same) target byte s = refl
branch_starts o method u (condition.Null null) target byte s = by_reference StartsNone s 0 _ refl (λ b. refl)

start_exchanged : (o : Outline) (started : List Bool) (e : Effect) → e.starts ≡ None
    → with_start o started (with_exchanged e) ≡ with_exchanged (with_start o started e)
start_exchanged o started e none = ap (for_class o started (with_exchanged e)) none ∙ sym (ap with_exchanged (ap (for_class o started e) none))

-- ---- the topmost frame at a kept item

module _ (p q : Program) (facts : Facts) (plans : Plans) (marks : Marks) (from : IsWovenFrom p q facts plans marks) (z : State) (g : Frame) (callers : List Frame)
    (code : Code) (code_is : code_at p g.method ≡ Some code) (j : ℕ) (j_is : kept_item marks g.method g.item ≡ Some j)
    (i : Insn) (found : insn_of code j ≡ Some i) where
  abbrev pub y : State
  y = record z { frames = g ∷ callers }

  abbrev pub x : State
  x = old_state p marks z.steps (record z { frames = g ∷ callers })

  abbrev pub f : Frame
  f = old_frame p marks g

  abbrev pub w : HasInserted q marks g.method code (inserted_by (plans g.method))
  w = from.methods g.method code code_is

  abbrev byte : Option ℕ
  byte = slice_get z.input 0

  pub item_is : f.item ≡ j
  item_is = ap (λ o. unwrap_or o 0) j_is

  pub at_number : g.item ≡ w.laid.numbers j
  at_number = (w.laid.once g.item j j_is).1

  pub old_next : next_insn p f ≡ Some i
  old_next = ap (option_and_then (λ (c : Code). insn_of c f.item)) code_is ∙ ap (insn_of code) item_is ∙ found

  pub new_next : (kept : Insn) → insn_of w.new (w.laid.numbers j) ≡ Some kept → next_insn q g ≡ Some kept
  new_next kept is = ap (option_and_then (λ (c : Code). insn_of c g.item)) w.new_is ∙ ap (insn_of w.new) at_number ∙ is

  abbrev own : Effect
  own = effect_of p.outline g.method (use_by p g.method i) i byte (sights p.outline z.areas.store g.stack)

  -- the kept instruction, with what it names in the second program, is looked at by the first one
  kept_named : (kept : Insn) → IsRetargeted i kept ⊎ IsOpposite i kept
      → effect_of q.outline g.method (use_by q g.method kept) kept byte (sights q.outline z.areas.store g.stack)
      ≡ effect_of p.outline g.method (use_by p g.method i) kept byte (sights p.outline z.areas.store g.stack)
  kept_named kept same =
      let uses : use_by q g.method kept ≡ use_by p g.method i = (same_row i kept same).used q g.method ∙ (from.named g.method code code_is).insns j i found in
      (λ t. effect_of (from.outline t) g.method (uses t) kept byte (sights (from.outline t) z.areas.store g.stack))

  -- the effects of both frames, with the start of a class
  pub old_effect : next_effect p x ≡ with_start p.outline z.areas.started own
  unfolding next_effect
  old_effect = ap (λ o. with_start p.outline z.areas.started (effect_by p x f o)) old_next

  new_effect : (kept : Insn) (e : Effect) → insn_of w.new (w.laid.numbers j) ≡ Some kept
      → effect_of q.outline g.method (use_by q g.method kept) kept byte (sights q.outline z.areas.store g.stack) ≡ e
      → next_effect q y ≡ with_start p.outline z.areas.started e
  unfolding next_effect
  new_effect kept e is effect =
      ap (λ o. with_start q.outline z.areas.started (effect_by q y g o)) (new_next kept is)
      ∙ (λ t. with_start (from.outline t) z.areas.started (effect t))

  -- an item that is kept whole
  pub whole_effect : insn_of w.new (w.laid.numbers j) ≡ Some (with_targets w.laid.entries i) → next_effect q y ≡ next_effect p x
  whole_effect is =
      let kept = with_targets w.laid.entries i in
      new_effect kept own is
      (kept_named kept (inl (record { targets = w.laid.entries; is = refl }))
      ∙ targets_unseen p.outline g.method (use_by p g.method i) w.laid.entries i byte (sights p.outline z.areas.store g.stack))
      ∙ sym old_effect

  -- and one that is split
  pub split_effect : (c : Condition) (target other : ℕ) → i ≡ conditional c target
      → insn_of w.new (w.laid.numbers j) ≡ Some (conditional (opposite c) other) → next_effect q y ≡ with_exchanged (next_effect p x)
  split_effect c target other branch is =
      let kept = conditional (opposite c) other in
      let s = sights p.outline z.areas.store g.stack in
      let u = use_by p g.method i in
      let none : own.starts ≡ None = ap (λ k. (effect_of p.outline g.method u k byte s).starts) branch ∙ branch_starts p.outline g.method u c target byte s in
      new_effect kept (with_exchanged own) is
      (kept_named kept (inr (record { condition = c; target = target; other = other; branch = branch; test = refl }))
      ∙ opposites_exchange p.outline g.method u c target other byte s
      ∙ ap (λ k. with_exchanged (effect_of p.outline g.method u k byte s)) (sym branch))
      ∙ start_exchanged p.outline z.areas.started own none
      ∙ ap with_exchanged (sym old_effect)
