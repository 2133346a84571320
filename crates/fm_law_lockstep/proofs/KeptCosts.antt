-- At states that go together the next step costs the same.
use Rattle.std.proofs.Common.{◌≡◌, ℕ, ◌<◌, List, [], ◌∷◌, length, map, max, Some, None, option_map, slice_get, refl, sym, ap, subst, ◌∙◌, arith}
use Rattle.fm_code.specs.Edges.{insn_of}
use Rattle.fm_code.specs.declared.code_array.Code.{Code}
use Rattle.fm_code.specs.declared.code_array.Item.{Item}
use Rattle.fm_conn.specs.Facts.{Facts}
use Rattle.fm_frames.specs.Effects.{Effect}
use Rattle.fm_frames.specs.States.{Frame, State}
use Rattle.fm_frames.specs.Steps.{cost, next_effect, objects_made}
use Rattle.fm_law_lockstep.proofs.Seen.{retired_is_unseen}
use Rattle.fm_law_lockstep.proofs.Uncounted.{effect_counted}
use Rattle.fm_law_lockstep.specs.Together.{TogetherCostsSame}
use Rattle.fm_law_same_runs.specs.Beside.{kept_item, Marks}
use Rattle.fm_law_two_memories.proofs.EffectsSame.{effects_same}
use Rattle.fm_law_two_memories.specs.Pairing.{EndAlike}
use Rattle.fm_law_two_memories.specs.Seeing.{SeesNothingGone}
use Rattle.fm_law_unwoven.proofs.KeptEffects.{split_effect, whole_effect}
use Rattle.fm_law_unwoven.specs.Kept.{IsAtKept, old_frame, old_state}
use Rattle.fm_law_unwoven.specs.Laid.{IsKept, IsSplit, IsWhole}
use Rattle.fm_law_unwoven.specs.WovenFrom.{HasInserted, inserted_by, IsWovenFrom, own_marks}
use Rattle.fm_law_woven_flow.proofs.RoleLists.{element_at}
use Rattle.fm_place.specs.Rewriting.{Plans}
use Rattle.fm_world.specs.Programs.{code_at, Program}

module _ (p q : Program) (facts : Facts) (plans : Plans) (marks : Marks) (from : IsWovenFrom p q facts plans marks) where
  module _ (z : State) (g : Frame) (callers : List Frame) (at : IsAtKept p q facts plans marks (record z { frames = g ∷ callers })) where
    abbrev code : Code
    code = at.sound.frames.0.code

    code_is : code_at p g.method ≡ Some code
    code_is = at.sound.frames.0.code_is

    abbrev j : ℕ
    j = at.frames.0.item

    j_is : kept_item marks g.method g.item ≡ Some j
    j_is = at.frames.0.item_is

    abbrev w : HasInserted q marks g.method code (inserted_by (plans g.method))
    w = from.methods g.method code code_is

    item : (i : Item) × (slice_get code.items j ≡ Some i)
    item = element_at code.items j (w.laid.once g.item j j_is).0

    found : insn_of code j ≡ Some item.0.insn
    found = ap (option_map (λ (k : Item). k.insn)) item.1

    abbrev Same : Type 0
    Same =
        (next_effect q (record z { frames = g ∷ callers })).actions
        ≡ (next_effect p (old_state p marks z.steps (record z { frames = g ∷ callers }))).actions

    by_kept : IsKept code w.new (own_marks marks g.method) w.laid.entries j item.0.insn (w.laid.numbers j) (w.laid.behind j) → Same
    by_kept (IsWhole is behind) =
        ap (λ (e : Effect). e.actions) (whole_effect p q facts plans marks from z g callers code code_is j j_is item.0.insn found is)
    by_kept (IsSplit c target other branch test follows jump mark behind) =
        ap (λ (e : Effect). e.actions) (split_effect p q facts plans marks from z g callers code code_is j j_is item.0.insn found c target other branch test)

    frame_same : Same
    frame_same = by_kept (w.laid.kept j item.0.insn found)

  -- the kept item does the same as the old one
  pub same_actions : (y : State) → IsAtKept p q facts plans marks y → 0 < length (map (old_frame p marks) y.frames)
      → (next_effect q y).actions ≡ (next_effect p (old_state p marks y.steps y)).actions
  same_actions y at some = by_frames y.frames refl where
    Wanted : List Frame → Type 0
    Wanted frames =
        (next_effect q (record y { frames = frames })).actions
        ≡ (next_effect p (old_state p marks y.steps (record y { frames = frames }))).actions

    by_frames : (frames : List Frame) → y.frames ≡ frames → Wanted y.frames
    by_frames [] none =
        absurd (let count : length (map (old_frame p marks) y.frames) ≡ 0 = ap (λ fs. length (map (old_frame p marks) fs)) none in omega (arith, some, count))
    by_frames (g ∷ callers) are =
        subst Wanted (sym are)
        (frame_same y g callers (subst (λ frames. IsAtKept p q facts plans marks (record y { frames = frames })) are at))

pub together_costs_same : TogetherCostsSame
unfolding cost
together_costs_same b from linked x y t =
    ap (λ actions. max 1 (objects_made actions))
    (same_actions b.one b.other b.facts b.plans b.marks from y t.kept (t.kept.sound.running going)
    ∙ ap (λ (e : Effect). e.actions) (effect_counted b.one u y.steps u.frames)
    ∙ ap (λ (e : Effect). e.actions) (effects_same t.gone b.one linked.without.hidden x u t.paired seen).0) where
      u : State
      u = old_state b.one b.marks x.steps y

      going : y.ended ≡ None
      going = subst (λ e. EndAlike t.gone x.areas.store y.areas.store e y.ended) t.goes_on t.paired.ended

      seen : SeesNothingGone t.gone b.one.outline x
      seen =
          retired_is_unseen b.one b.facts linked.without x t.colour t.gone t.known.coloured t.retired t.paired.areas.store.loose
