-- The actions of each step of a sound state fit.
use Rattle.std.proofs.Common.{◌≡◌, ℕ, Bool, true, false, List, [], ◌∷◌, Option, Some, option_and_then, refl, sym, ◌∙◌, ap, subst, slice_get}
use Rattle.fm_code.specs.Edges.{insn_of}
use Rattle.fm_code.specs.declared.code_array.Code.{Code}
use Rattle.fm_code.specs.declared.instructions.Insn.{Insn}
use Rattle.fm_types.specs.Rows.{row_after}
use Rattle.fm_types.specs.States.{TypeState}
use Rattle.fm_types.specs.Typed.{IsTypingOf, made_at, MeetsItem, use_by}
use Rattle.fm_world.specs.Programs.{Outline, Program}
use Rattle.fm_frames.specs.Effects.{Calls, Effect, faulty, going, stuck}
use Rattle.fm_frames.specs.Rows.{effect_of}
use Rattle.fm_frames.specs.Sights.{Sight, sights}
use Rattle.fm_frames.specs.Starts.{with_start}
use Rattle.fm_frames.specs.States.{Frame, State}
use Rattle.fm_frames.specs.Steps.{effect_by, next_insn, is_over, next_effect}
use Rattle.fm_law_sound.specs.Acting.{ActsFit}
use Rattle.fm_law_sound.specs.Going.{StandsAtRow}
use Rattle.fm_law_sound.specs.Laws.{NextActsFit}
use Rattle.fm_law_sound.specs.Leading.{is_call}
use Rattle.fm_law_sound.specs.Making.{AreFew, MakesAreResolved, MakesFew}
use Rattle.fm_law_sound.specs.Resolved.{IsNamed, StepsAreResolved}
use Rattle.fm_law_sound.specs.Sound.{FrameHasKinds, IsSoundBy, StandsWithout, Typings}
use Rattle.fm_law_sound.proofs.BuiltInActs.{built_ins_fit}
use Rattle.fm_law_sound.proofs.CallCases.{by_call, HoldsOfCalls}
use Rattle.fm_law_sound.proofs.FramesStand.{met_row, typing_of}
use Rattle.fm_law_sound.proofs.HiddenFields.{text_first}
use Rattle.fm_law_sound.proofs.InsnActs.{Fits, insn_fits}
use Rattle.fm_law_sound.proofs.MadeObjects.{change_thrown, null_thrown}
use Rattle.fm_law_sound.proofs.StartActs.{before_fits}

module _ (p : Program) (typings : Typings) (ready : StepsAreResolved p) (made : MakesAreResolved p) (z : State) (f : Frame) (callers : List Frame) where
  abbrev o : Outline
  o = p.outline

  -- the state, with its frames
  abbrev x : State
  x = record z { frames = f ∷ callers }

  abbrev A : Effect → Type 0
  A e = Fits o z.areas.store f e

  plain : (e : Effect) → e.actions ≡ [] → A e
  plain e none = record { fits = λ few. subst (λ actions. ActsFit o z.areas.store f [] actions) (sym none) tt }

  module _ (sound : IsSoundBy p typings x) where
    abbrev stands : StandsWithout p typings 0 f
    stands = sound.frames.0

    typing : IsTypingOf p f.method stands.code (typings f.method)
    typing = typing_of p typings sound.typed f.method stands.code stands.code_is

    meets : MeetsItem p f.method stands.code (typings f.method) f.item stands.known
    meets = typing.items f.item stands.known stands.at

    kinds : FrameHasKinds stands.known f.locals f.stack
    kinds = record { in_locals = stands.locals; in_stack = stands.stack }

    module _ (i : Insn) (after : TypeState) (insn_is : insn_of stands.code f.item ≡ Some i) (row : row_after o f.method f.item (made_at p f.method stands.code) (use_by p f.method i) i stands.known ≡ Some after) where
      abbrev at_row : StandsAtRow p typings f i after
      at_row = record {
        code = stands.code;
        code_is = stands.code_is;
        insn_is = insn_is;
        known = stands.known;
        at = stands.at;
        row = row;
        targets = ready.targets f.method stands.code f.item i stands.code_is insn_is;
      }

      named : IsNamed p f.method i (use_by p f.method i)
      named = record { code = stands.code; code_is = stands.code_is; item = f.item; insn_is = insn_is; use_is = refl }

      abbrev byte : Option ℕ
      byte = slice_get z.input 0

      abbrev s : List Sight
      s = sights o z.areas.store f.stack

      abbrev own : Effect
      own = effect_of o f.method (use_by p f.method i) i byte s

      called_fits : HoldsOfCalls p f i byte s A
      called_fits = record {
        none = plain stuck refl;
        gone = λ operand. plain (faulty operand) refl;
        null = record { fits = λ few. (null_thrown p made.makeable, tt) };
        unlike = record { fits = λ few. (change_thrown p made.makeable, tt) };
        first = λ class e h. record { fits = h.fits };
        called = λ target words is. plain (going words (Calls target)) refl;
        of_row = λ row is. record {
          fits = λ few. built_ins_fit p made.makeable made.names (text_first p made.makeable.runnable made.makeable.tree) z.areas.store sound.areas.heap f row byte is.have few;
        };
      }

      own_fits : (b : Bool) → is_call i ≡ b → A own
      own_fits true call = by_call p ready.calls z.areas sound.areas typings f byte A i after at_row kinds meets.whole call called_fits
      own_fits false call =
          insn_fits p made.makeable z.areas.store f stands.known kinds meets.whole after i (use_by p f.method i) (made_at p f.method stands.code) byte
          (ready.fields f.method i (use_by p f.method i) named) (made.made f.method i (use_by p f.method i) named) call row

      found_insn : next_insn p f ≡ Some i
      found_insn = ap (λ found. option_and_then (λ (c : Code). insn_of c f.item) found) stands.code_is ∙ insn_is

      acts_fit : MakesFew p x → is_over o z.areas (next_effect p x).actions ≡ false → ActsFit o z.areas.store f [] (next_effect p x).actions
      unfolding next_effect
      acts_fit =
          subst (λ e. (is_over o z.areas (with_start o z.areas.started e).actions ≡ false → AreFew o (with_start o z.areas.started e).actions)
          → is_over o z.areas (with_start o z.areas.started e).actions ≡ false → ActsFit o z.areas.store f [] (with_start o z.areas.started e).actions)
          (sym (ap (effect_by p x f) found_insn))
          (λ few within. before_fits p made.makeable made.constants z.areas.store f z.areas.started own (own_fits (is_call i) refl).fits (few within))

    frame_acts_fit : MakesFew p x → is_over o z.areas (next_effect p x).actions ≡ false → ActsFit o z.areas.store f [] (next_effect p x).actions
    frame_acts_fit =
        let met = met_row p typings f stands.code stands.known meets in acts_fit met.insn met.after met.insn_is met.row

pub next_acts_fit : (p : Program) (typings : Typings) → StepsAreResolved p → MakesAreResolved p → (x : State) → IsSoundBy p typings x → MakesFew p x
    → NextActsFit p x
next_acts_fit p typings ready made x sound few f callers is =
    subst (λ frames. IsSoundBy p typings (record x { frames = frames }) → MakesFew p (record x { frames = frames })
    → is_over p.outline x.areas (next_effect p (record x { frames = frames })).actions ≡ false
    → ActsFit p.outline x.areas.store f [] (next_effect p (record x { frames = frames })).actions) (sym is)
    (λ sound_here few_here within. frame_acts_fit p typings ready made x f callers sound_here few_here within) sound few
