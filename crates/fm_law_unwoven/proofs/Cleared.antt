-- Holders are cleared in frames at kept items and in those that haven't begun.
use Rattle.std.proofs.Common.{◌≡◌, ℕ, zero, suc, ◌+◌, ◌<◌, ◌⊎◌, inl, inr, true, List, [], ◌∷◌, ◌++◌, length, map, Option, Some, None, sym, ap, ◌∙◌, arith}
use Rattle.std.specs.Prelude.{slice_get}
use Rattle.std.specs.List.{range_with_len}
use Rattle.std.proofs.lemmas.Bool.{false≢true}
use Rattle.std.proofs.lemmas.Option.{none-some, same_Some}
use Rattle.fm_chain.specs.declared.calls.Calls.{Calls}
use Rattle.fm_code.specs.declared.code_array.Code.{Code}
use Rattle.fm_conn.specs.Facts.{Facts}
use Rattle.fm_conn.specs.Links.{typed_method}
use Rattle.fm_frames.specs.States.{Frame, null, word_at}
use Rattle.fm_law_same_runs.specs.Beside.{kept_item, Marks}
use Rattle.fm_law_unwoven.specs.Kept.{HasNotBegun, HoldersStand, StandBelow, StandKept, StandsAtKept}
use Rattle.fm_law_unwoven.specs.Laid.{all_insns_to, frees_at, LieInserted, mark_at, Todo, ToStart}
use Rattle.fm_law_unwoven.specs.Runs.{AreCleared, IsCleared}
use Rattle.fm_law_unwoven.specs.WovenFrom.{HasInserted, inserted_by, IsWovenFrom, own_marks}
use Rattle.fm_place.specs.Insertions.{Holder, Insertions}
use Rattle.fm_place.specs.Places.{is_busy, MayHold}
use Rattle.fm_place.specs.Rewriting.{Plans}
use Rattle.fm_place.specs.Woven.{local_of}
use Rattle.fm_world.specs.Programs.{code_at, Program}

-- where something has to start, the first item is inserted
first_inserted : (new : Code) (own : List (Option ℕ)) (calls : Calls) (old : Code) (count : ℕ) (rest : List Todo) (next : ℕ) → 0 < count
    → LieInserted new own 0 (all_insns_to calls old (map ToStart (range_with_len 0 count) ++ rest)) next → mark_at own 0 ≡ None
first_inserted new own calls old zero rest next some lies = absurd (omega (arith, some))
first_inserted new own calls old (suc count) rest next some lies = lies.1

-- a list that has an element isn't empty
has_some : (holders : List Holder) (h : ℕ) (holder : Holder) → slice_get holders h ≡ Some holder → 0 < length holders
has_some [] h holder is = absurd (none-some holder is)
has_some (first ∷ holders) h holder is = omega arith

module _ (p q : Program) (facts : Facts) (plans : Plans) (marks : Marks) (from : IsWovenFrom p q facts plans marks) where
  -- a frame at a kept item: a holder that isn't null is of a busy class
  kept_cleared : (g : Frame) → StandsAtKept p facts plans marks g → IsCleared p facts plans marks g
  kept_cleared g stands j code h holder item_is code_is is quiet = by_may (stand.may h holder is) where
    stand : HoldersStand facts (typed_method p facts.typing g.method code) (inserted_by (plans g.method)) g stands.item
    stand = stands.holders code code_is

    same : stands.item ≡ j
    same = same_Some stands.item j (sym stands.item_is ∙ item_is)

    by_may : (word_at g.locals (local_of code h) ≡ null)
        ⊎ ((is_busy facts (typed_method p facts.typing g.method code) holder.class stands.item ≡ true)
        × MayHold facts (typed_method p facts.typing g.method code) holder.site holder.class stands.item)
        → word_at g.locals (local_of code h) ≡ null
    by_may (inl none) = none
    by_may (inr holds) =
        absurd (false≢true (sym quiet ∙ sym (ap (is_busy facts (typed_method p facts.typing g.method code) holder.class) same) ∙ holds.0))

  -- the first item of a method that has holders is inserted
  pub none_at_first : (method : ℕ) (code : Code) → code_at p method ≡ Some code → (j : ℕ) → kept_item marks method 0 ≡ Some j
      → (h : ℕ) (holder : Holder) → slice_get (inserted_by (plans method)).holders h ≡ Some holder → ⊥
  none_at_first method code code_is j item_is h holder is =
      let w : HasInserted q marks method code (inserted_by (plans method)) = from.methods method code code_is in
      let plan : Insertions = inserted_by (plans method) in
      let first : mark_at (own_marks marks method) 0 ≡ None =
      first_inserted w.new (own_marks marks method) w.calls code (length plan.holders) (frees_at plan 0) (w.laid.numbers 0) (has_some plan.holders h holder is)
      w.laid.start in
      none-some j (sym first ∙ item_is)

  -- so a frame that hasn't begun has nothing to clear
  begun_cleared : (above g : Frame) → HasNotBegun q above g → IsCleared p facts plans marks g
  begun_cleared above g stands j code h holder item_is code_is is quiet =
      absurd (none_at_first g.method code code_is j (sym (ap (kept_item marks g.method) stands.first) ∙ item_is) h holder is)

  -- all frames below another one
  pub below_cleared : (above : Frame) (callers : List Frame) → StandBelow p q facts plans marks above callers → AreCleared p facts plans marks callers
  below_cleared above [] below = tt
  below_cleared above (g ∷ callers) below = (by_kind below.0, below_cleared g callers below.1) where
    by_kind : StandsAtKept p facts plans marks g ⊎ HasNotBegun q above g → IsCleared p facts plans marks g
    by_kind (inl stands) = kept_cleared g stands
    by_kind (inr begun) = begun_cleared above g begun

  -- all frames, the topmost at a kept item
  pub frames_cleared : (frames : List Frame) → StandKept p q facts plans marks frames → AreCleared p facts plans marks frames
  frames_cleared [] stands = tt
  frames_cleared (g ∷ callers) stands = (kept_cleared g stands.0, below_cleared g callers stands.1)
