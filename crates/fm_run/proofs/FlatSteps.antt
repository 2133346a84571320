-- Steps over frames that are taken out of the machine are steps of the run.
use Rattle.std.proofs.Common.{◌≡◌, ℕ, ◌+◌, ◌^◌, ◌<◌, ◌≤◌, Bool, true, false, List, ◌∷◌, [], length, Option, Some, None, option_map, refl, sym, ap, ◌∙◌, subst, slice_get, arith}
use Rattle.std.proofs.lemmas.Option.{none-some, same_Some}
use Rattle.fm_base.proofs.OptionFacts.{option_map-some}
use Rattle.fm_cells.specs.Choices.{IsLawful}
use Rattle.fm_cells.specs.Soundness as cells
use Rattle.fm_code.specs.Edges.{insn_of}
use Rattle.fm_code.specs.declared.code_array.Code.{Code}
use Rattle.fm_code.specs.declared.code_array.Item.{Item}
use Rattle.fm_code.specs.declared.code_array.TheConstants.{MAX_CODE_BYTES}
use Rattle.fm_code.specs.declared.instructions.Insn.{Insn}
use Rattle.fm_exec.specs.Steps.{seen, Steps}
use Rattle.fm_fast.proofs.Asked.{asked}
use Rattle.fm_fast.specs.Flows.{on, resumed, stepped_on}
use Rattle.fm_fast.specs.Operands.{AsksOf}
use Rattle.fm_fast.specs.Packed.{ArePacked}
use Rattle.fm_frames.specs.Acts.{Choose}
use Rattle.fm_frames.specs.Rows.{effect_of}
use Rattle.fm_frames.specs.States.{Frame, State}
use Rattle.fm_frames.specs.inner.Doings.{DoesIn, NextFits}
use Rattle.fm_frames.specs.inner.Frames.{place_of, topmost}
use Rattle.fm_exec_nests.proofs.CostSteps.{insn-found, IsOnTop, on-top}
use Rattle.fm_exec_nests.specs.inner.Costs.{nest_of}
use Rattle.fm_law_can_step.proofs.Standing.{IsStanding, standing_by}
use Rattle.fm_law_can_step.specs.Ready.{CanRun}
use Rattle.fm_run.proofs.CheapSteps.{cheap-is}
use Rattle.fm_run.proofs.NextSteps.{named-is, own_effect, row-does}
use Rattle.fm_run.proofs.Ranging.{quietly-then, went-quietly}
use Rattle.fm_run.proofs.Standing.{insn-here, item-inside}
use Rattle.fm_run.proofs.Steadying.{did-quietly}
use Rattle.fm_run.specs.inner.Flats.{DoesAlone, done_by, FlowsNext, IsFlatNext, IsStraight, item_in, WentOn}
use Rattle.fm_run.specs.inner.Going.{IsCheapNext, Keeps, LeadsQuietly}
use Rattle.fm_run.specs.inner.Nexts.{DoesNext, StandsAt, StandsIn}
use Rattle.fm_law_sound.specs.Sound.{IsSound}
use Rattle.fm_types.specs.Typed.{use_by}
use Rattle.fm_world.specs.Programs.{code_at, Program}
use Rattle.fm_world.specs.declared.uses.Use.{Use}

-- ---- the next instruction

-- a sound state that goes on is at an instruction
pub flat-standing : (p : Program) (budget : ℕ) (x : State) → Keeps p budget x → x.ended ≡ None → IsStanding p x
flat-standing p budget x keeps on = standing_by p keeps.sound.0 x x.frames keeps.sound.1 on

place-of : (p : Program) (x : State) (s : IsStanding p x) (method item : ℕ) → Some (method, item) ≡ option_map place_of (topmost x.frames)
    → ◌≡◌ {A = ℕ × ℕ} (method, item) (place_of s.frame)
place-of p x s method item is = same_Some _ _ (is ∙ ap (λ (frames : List Frame). option_map place_of (topmost frames)) s.frames_is)

pub flat-inside : (p : Program) (budget : ℕ) (x : State) (method item : ℕ) (code : Code) → Keeps p budget x → x.ended ≡ None
    → Some (method, item) ≡ option_map place_of (topmost x.frames) → code_at p method ≡ Some code → item < length code.items
flat-inside p budget x method item code keeps on place_is code_is =
    let s = flat-standing p budget x keeps on in
    item-inside p x s (method, item) code (place-of p x s method item place_is) code_is

-- its method has code
pub flat-coded : (p : Program) (budget : ℕ) (x : State) (method item : ℕ) → Keeps p budget x → x.ended ≡ None
    → Some (method, item) ≡ option_map place_of (topmost x.frames) → (code : Code) × (code_at p method ≡ Some code)
flat-coded p budget x method item keeps on place_is =
    let s = flat-standing p budget x keeps on in
    (s.code, ap (λ (q : ℕ × ℕ). code_at p q.0) (place-of p x s method item place_is) ∙ s.code_is)

-- the item where it is has an instruction
pub flat-found : (p : Program) (budget : ℕ) (x : State) (method item : ℕ) (code : Code) → Keeps p budget x → x.ended ≡ None
    → Some (method, item) ≡ option_map place_of (topmost x.frames) → code_at p method ≡ Some code → (i : Insn) × (insn_of code item ≡ Some i)
flat-found p budget x method item code keeps on place_is code_is =
    let s = flat-standing p budget x keeps on in
    let at = place-of p x s method item place_is in
    let same : s.code ≡ code = same_Some _ _ (sym s.code_is ∙ ap (λ (q : ℕ × ℕ). code_at p q.0) (sym at) ∙ code_is) in
    (s.insn, ap (λ (q : ℕ × ℕ). insn_of code q.1) at ∙ sym (ap (λ (c : Code). insn_of c s.frame.item) same) ∙ s.insn_is)

-- it has what the row of its instruction asks
flat-asks : (p : Program) (budget : ℕ) (x : State) (method item : ℕ) (code : Code) (i : Insn) → Keeps p budget x → x.ended ≡ None
    → Some (method, item) ≡ option_map place_of (topmost x.frames) → code_at p method ≡ Some code → insn_of code item ≡ Some i → AsksOf i x.frames
flat-asks p budget x method item code i keeps on place_is code_is insn_is =
    let s = flat-standing p budget x keeps on in
    let here : s.insn ≡ i = insn-here p x s (method, item) code i (place-of p x s method item place_is) code_is insn_is in
    subst (AsksOf i) (sym s.frames_is)
    (subst (λ i. AsksOf i (s.frame ∷ s.callers)) here (asked p.outline s.known s.frame s.callers s.kinds s.whole s.after _ _ _ _ s.insn s.row))

-- objects that a sound state holds are packed as those of their types
pub packed-in : (p : Program) (x : State) → IsSound p x → ArePacked p x
packed-in p x sound = λ cell object held. let of_program = sound.1.areas.heap cell object held in (of_program.numbered, of_program.of_type.pack)

pub flat-fits : (p : Program) (budget : ℕ) (x : State) → CanRun p → Keeps p budget x → x.ended ≡ None → NextFits x.frames
flat-fits p budget x run keeps on =
    let s = flat-standing p budget x keeps on in
    let few = run.steps.items s.frame.method s.code s.code_is in
    let most : MAX_CODE_BYTES ≤ 65536 = omega arith in
    let below = s.below in
    let fits : s.frame.item + 1 < 2 ^ 64 = omega (arith, few, most, below) in
    subst NextFits (sym s.frames_is) fits

-- it is one of fewer than 65,536
pub flat-below : (p : Program) (budget : ℕ) (x : State) → CanRun p → Keeps p budget x → x.ended ≡ None → item_in x.frames < 65536
flat-below p budget x run keeps on =
    let s = flat-standing p budget x keeps on in
    let few = run.steps.items s.frame.method s.code s.code_is in
    let most : MAX_CODE_BYTES < 65536 = omega arith in
    let below = s.below in
    let here : s.frame.item < 65536 = omega (arith, few, most, below) in
    subst (λ (frames : List Frame). item_in frames < 65536) (sym s.frames_is) here

pub flat-next : (p : Program) (budget : ℕ) (x : State) (method item : ℕ) (code : Code) (i : Insn) → CanRun p → budget < 2 ^ 64 → Keeps p budget x
    → x.ended ≡ None → x.steps < budget → Some (method, item) ≡ option_map place_of (topmost x.frames) → code_at p method ≡ Some code
    → insn_of code item ≡ Some i → IsFlatNext p budget x method i
flat-next p budget x method item code i run few keeps on within place_is code_is insn_is =
    let found = option_map-some (λ (item : Item). item.insn) (slice_get code.items item) i insn_is in
    let top : IsOnTop x.frames method item = on-top x.frames method item place_is in
    record {
      at = record {
        at = record {
          frame = top.frame;
          callers = top.callers;
          frames_is = top.frames_are;
          insn_is = insn-found p x.frames method item top code found.0 (sym code_is) found.1 ∙ ap Some found.2;
        };
        method_is = top.method_is;
      };
      asks = flat-asks p budget x method item code i keeps on place_is code_is insn_is;
      next =
          λ cheap.
          subst (IsCheapNext p budget x method) found.2
          (cheap-is p budget x method item code found.0 run few keeps on within place_is (sym code_is) found.1 (ap nest_of found.2 ∙ cheap));
    }

pub cheap-next : (p : Program) (budget : ℕ) (x : State) (method : ℕ) (insn i : Insn) → IsFlatNext p budget x method insn → insn ≡ i → nest_of i ≡ None
    → IsCheapNext p budget x method insn
cheap-next p budget x method insn i next is cheap = next.next (ap nest_of is ∙ cheap)

-- ---- rows

-- the row for what an index refers to
pub named-does : (p : Program) (choose : Choose) (x y : State) (method : ℕ) (i : Insn) (u : Use) → StandsIn p x method i → use_by p method i ≡ u
    → Steps p choose x y (effect_of p.outline method u i (slice_get x.input 0) (seen p x)) → DoesNext p choose x y
named-does p choose x y method i u stands is does = subst (DoesIn p choose x y) (sym (named-is p x method i u stands is)) does

-- a row over only frames
pub row-flows : (p : Program) (method : ℕ) (old new : List Frame) (insn i : Insn) → insn ≡ i → nest_of i ≡ None
    → ((choose : Choose) (x : State) (at : StandsAt p (on x old) insn) → Steps p choose (on x old) (stepped_on x new) (own_effect p (on x old) at.frame.method i))
    → FlowsNext p method old new insn
row-flows p method old new insn i is cheap flows = record {
  cheap = ap nest_of is ∙ cheap;
  does = λ choose x stands. row-does p choose (on x old) (stepped_on x new) insn i stands.at is (flows choose x stands.at);
}

-- ---- whether the next instruction was done

-- where it was, it was a cheap one, and where it wasn't, the state is the same
pub record Flowed (p : Program) (choose : Choose) (budget method : ℕ) (x y same : State) (did : Bool) : Type 0 where
  pub done : did ≡ true → (i : Insn) × IsCheapNext p budget x method i × DoesNext p choose x y
  pub kept : did ≡ false → same ≡ x
  pub ended : y.ended ≡ x.ended

-- a row of a group
pub group-flowed : (p : Program) (choose : Choose) (budget method : ℕ) (m : State) (old : List Frame) (counted : ℕ) (new : List Frame) (insn : Insn) (did : Bool)
    → IsFlatNext p budget (resumed m old counted) method insn → (did ≡ true → FlowsNext p method old new insn) → (did ≡ false → new ≡ old)
    → Flowed p choose budget method (resumed m old counted) (resumed m new (counted + 1)) (resumed m new counted) did
group-flowed p choose budget method m old counted new insn did next flows same = record {
  done =
      λ told.
      let row = flows told in
      let found = next.next row.cheap in
      (insn, found, row.does choose (resumed m old counted) found.at);
  kept = λ told. λ j. resumed m (same told j) counted;
  ended = refl;
}

-- a call, a return or another one that is done out of line
pub call-flowed : (p : Program) (choose : Choose) (budget method : ℕ) (m : State) (old : List Frame) (counted : ℕ) (m2 : State) (new : List Frame)
    (insn : Insn) (did : Bool) → IsFlatNext p budget (resumed m old counted) method insn
    → (did ≡ true → DoesAlone p choose insn (resumed m old counted) (resumed m2 new (counted + 1))) → (did ≡ false → new ≡ old) → (did ≡ false → m2 ≡ m)
    → m2.ended ≡ m.ended → Flowed p choose budget method (resumed m old counted) (resumed m2 new (counted + 1)) (resumed m2 new counted) did
call-flowed p choose budget method m old counted m2 new insn did next does same kept ended = record {
  done =
      λ told.
      let call = does told in
      (insn, next.next call.0, call.1);
  kept = λ told. λ j. resumed (kept told j) (same told j) counted;
  ended = ended;
}

-- the same for what the branches leave
pub flowed-joined : (p : Program) (choose : Choose) (budget method counted : ℕ) (x m m2 : State) (f f2 : List Frame) (d d2 : Bool) → m2 ≡ m → f2 ≡ f → d2 ≡ d
    → Flowed p choose budget method x (resumed m f (counted + 1)) (resumed m f counted) d
    → Flowed p choose budget method x (resumed m2 f2 (counted + 1)) (resumed m2 f2 counted) d2
flowed-joined p choose budget method counted x m m2 f f2 d d2 m_is f_is d_is flowed =
    subst (λ z. Flowed p choose budget method x (resumed z f2 (counted + 1)) (resumed z f2 counted) d2) (sym m_is)
    (subst (λ z. Flowed p choose budget method x (resumed m z (counted + 1)) (resumed m z counted) d2) (sym f_is)
    (subst (λ z. Flowed p choose budget method x (resumed m f (counted + 1)) (resumed m f counted) z) (sym d_is) flowed))

-- ---- the run goes on

pub flowed-on : (p : Program) (choose : Choose) (budget method : ℕ) (first x y same : State) → CanRun p → IsLawful choose → cells.IsSound y.areas.store
    → Flowed p choose budget method x y same true → x.ended ≡ None → LeadsQuietly p choose budget first x → Keeps p budget x
    → LeadsQuietly p choose budget first y × Keeps p budget y × (y.ended ≡ None)
flowed-on p choose budget method first x y same run lawful sound flowed on leads keeps =
    let done = flowed.done refl in
    let went = went-quietly p choose budget first x y true
    (λ told. did-quietly p choose budget x y method done.0 run done.1 done.2 lawful sound) (λ told. absurd (cc)) leads keeps in
    (went.0, went.1, flowed.ended ∙ on)

-- a run that went on twice
pub then-went : (p : Program) (choose : Choose) (budget : ℕ) (x y z : State) → WentOn p choose budget x y → WentOn p choose budget y z
    → WentOn p choose budget x z
then-went p choose budget x y z first then = record {
  leads = quietly-then p choose budget x y z first.leads then.leads;
  keeps = then.keeps;
  on = then.on;
}

-- the same for what the branches leave
pub went-joined : (p : Program) (choose : Choose) (budget : ℕ) (x m m2 : State) (f f2 : List Frame) (n n2 : ℕ) → m2 ≡ m → f2 ≡ f → n2 ≡ n
    → WentOn p choose budget x (resumed m f n) → WentOn p choose budget x (resumed m2 f2 n2)
went-joined p choose budget x m m2 f f2 n n2 m_is f_is n_is went =
    subst (WentOn p choose budget x) (sym (λ j. resumed (m_is j) (f_is j) (n_is j))) went

-- ---- the item that is next

pub item-there : (frames : List Frame) (place : ℕ × ℕ) → Some place ≡ option_map place_of (topmost frames) → place.1 ≡ item_in frames
item-there [] place is = absurd (none-some place (sym is))
item-there (f ∷ callers) place is = ap (λ (q : ℕ × ℕ). q.1) (same_Some _ _ is)

pub item-none : (frames : List Frame) → ◌≡◌ {A = Option (ℕ × ℕ)} None (option_map place_of (topmost frames)) → 0 ≡ item_in frames
item-none [] is = refl
item-none (f ∷ callers) is = absurd (none-some _ is)

-- ---- steps that are counted by where straight code ends

module _ (p : Program) (choose : Choose) (budget before : ℕ) (first m : State) (frames : List Frame) (reach counted : ℕ) where
  pub straight : done_by reach frames ≡ counted → LeadsQuietly p choose budget first (resumed m frames counted) → Keeps p budget (resumed m frames counted)
      → m.ended ≡ None → before ≤ counted → 65536 ≤ reach + item_in frames → reach ≤ budget → IsStraight p choose budget before first m frames reach
  straight is leads keeps on more there within = record {
    leads = subst (λ n. LeadsQuietly p choose budget first (resumed m frames n)) (sym is) leads;
    keeps = subst (λ n. Keeps p budget (resumed m frames n)) (sym is) keeps;
    on = on;
    more = subst (λ n. before ≤ n) (sym is) more;
    there = there;
    within = within;
  }

  pub straight-leads : counted ≡ done_by reach frames → IsStraight p choose budget before first m frames reach
      → LeadsQuietly p choose budget first (resumed m frames counted)
  straight-leads is went = subst (λ n. LeadsQuietly p choose budget first (resumed m frames n)) (sym is) went.leads

  pub straight-keeps : counted ≡ done_by reach frames → IsStraight p choose budget before first m frames reach → Keeps p budget (resumed m frames counted)
  straight-keeps is went = subst (λ n. Keeps p budget (resumed m frames n)) (sym is) went.keeps

-- the item that is next, and the count before it, which is within the budget
pub straight-below : (p : Program) (choose : Choose) (budget before : ℕ) (first m : State) (frames : List Frame) (reach : ℕ) → CanRun p
    → IsStraight p choose budget before first m frames reach → item_in frames < 65536
straight-below p choose budget before first m frames reach run went =
    flat-below p budget (resumed m frames (done_by reach frames)) run went.keeps went.on

pub straight-within : (p : Program) (choose : Choose) (budget before : ℕ) (first m : State) (frames : List Frame) (reach counted : ℕ) → CanRun p
    → counted ≡ done_by reach frames → IsStraight p choose budget before first m frames reach
    → (counted < budget) × (reach + item_in frames ≡ counted + 65536) × (before ≤ counted)
straight-within p choose budget before first m frames reach counted run is went =
    let below = straight-below p choose budget before first m frames reach run went in
    let there = went.there in
    let within = went.within in
    let more = went.more in
    (omega (arith, is, below, there, within), omega (arith, is, there), omega (arith, is, more))

-- ---- the next instruction of straight code

module _ (p : Program) (choose : Choose) (budget before : ℕ) (first m : State) (frames : List Frame) (reach counted : ℕ) where
  -- the run went on to it
  pub straight-here : counted ≡ done_by reach frames → IsStraight p choose budget before first m frames reach
      → WentOn p choose budget first (resumed m frames counted)
  straight-here is went = record {
    leads = straight-leads p choose budget before first m frames reach counted is went;
    keeps = straight-keeps p choose budget before first m frames reach counted is went;
    on = went.on;
  }

  -- and over it, if it was done
  pub straight-over : (method : ℕ) (m2 : State) (new : List Frame) (did : Bool) → CanRun p → IsLawful choose → cells.IsSound m2.areas.store
      → counted ≡ done_by reach frames → IsStraight p choose budget before first m frames reach
      → Flowed p choose budget method (resumed m frames counted) (resumed m2 new (counted + 1)) (resumed m2 new counted) did → did ≡ true
      → WentOn p choose budget first (resumed m2 new (counted + 1))
  straight-over method m2 new did run lawful sound is went flowed done =
      let here = straight-here is went in
      let over = flowed-on p choose budget method first (resumed m frames counted) (resumed m2 new (counted + 1)) (resumed m2 new counted) run lawful sound
      (subst (Flowed p choose budget method (resumed m frames counted) (resumed m2 new (counted + 1)) (resumed m2 new counted)) done flowed)
      here.on here.leads here.keeps in
      record { leads = over.0; keeps = over.1; on = over.2 }

  -- or is still there
  pub straight-stays : (method : ℕ) (m2 : State) (new : List Frame) (did : Bool) → counted ≡ done_by reach frames
      → IsStraight p choose budget before first m frames reach
      → Flowed p choose budget method (resumed m frames counted) (resumed m2 new (counted + 1)) (resumed m2 new counted) did → did ≡ false
      → WentOn p choose budget first (resumed m2 new counted)
  straight-stays method m2 new did is went flowed none = subst (WentOn p choose budget first) (sym (flowed.kept none)) (straight-here is went)

  -- where the next item comes after the last one, the reach stays as it is
  pub straight-next : (m2 : State) (new : List Frame) → CanRun p → counted ≡ done_by reach frames → IsStraight p choose budget before first m frames reach
      → WentOn p choose budget first (resumed m2 new (counted + 1)) → item_in new ≡ item_in frames + 1
      → IsStraight p choose budget before first m2 new reach
  straight-next m2 new run is went over there =
      let was = straight-within p choose budget before first m frames reach counted run is went in
      straight p choose budget before first m2 new reach (counted + 1) (omega (arith, was.1, there)) over.leads over.keeps over.on
      (omega (arith, was.2)) (omega (arith, was.1, there)) went.within

-- where a jump leads there, the reach is that of its target
pub straight-jumped : (p : Program) (choose : Choose) (budget before : ℕ) (first m : State) (frames : List Frame) (reach counted : ℕ) → before ≤ counted
    → WentOn p choose budget first (resumed m frames (counted + 1)) → done_by reach frames ≡ counted + 1 → 65536 ≤ reach + item_in frames → reach ≤ budget
    → IsStraight p choose budget before first m frames reach
straight-jumped p choose budget before first m frames reach counted more over is there within =
    straight p choose budget before first m frames reach (counted + 1) is over.leads over.keeps over.on (omega (arith, more)) there within

-- ---- frames that are taken out and put in again

pub taken-out : (x m : State) (frames : List Frame) (steps : ℕ) → m ≡ (record x { frames = [] }) → frames ≡ x.frames → steps ≡ x.steps
    → resumed m frames steps ≡ x
taken-out x m frames steps m_is frames_is steps_is = λ j. resumed (m_is j) (frames_is j) (steps_is j)
