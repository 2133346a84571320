-- Where the topmost frame is, by its place.
use Rattle.std.proofs.Common.{◌≡◌, ℕ, ◌<◌, List, ◌∷◌, length, Some, None, option_map, option_and_then, sym, ◌∙◌, ap, subst}
use Rattle.std.proofs.lemmas.Option.{none-some, same_Some}
use Rattle.fm_code.specs.Edges.{insn_of}
use Rattle.fm_code.specs.declared.code_array.Code.{Code}
use Rattle.fm_code.specs.declared.instructions.Insn.{Insn}
use Rattle.fm_frames.specs.States.{Frame, State}
use Rattle.fm_frames.specs.Steps.{next_insn}
use Rattle.fm_frames.specs.inner.Frames.{place, place_of, topmost}
use Rattle.fm_frames.specs.declared.frames.Cursor.{Cursor}
use Rattle.fm_law_can_step.proofs.Standing.{IsStanding}
use Rattle.fm_run.specs.inner.Nexts.{HasCode, HasFrame, StandsIn}
use Rattle.fm_world.specs.Programs.{code_at, Program}

-- the place of the topmost frame, where there is one
pub no-place : (frames : List Frame) (frame : Frame) (callers : List Frame) → frames ≡ frame ∷ callers → None ≡ option_map place_of (topmost frames) → ⊥
no-place frames frame callers is told = none-some (place_of frame) (told ∙ ap (λ frames. option_map place_of (topmost frames)) is)

pub place-is : (frames : List Frame) (c : Cursor) → Some (place c) ≡ option_map place_of (topmost frames) → (frame : Frame) (callers : List Frame)
    → frames ≡ frame ∷ callers → place c ≡ place_of frame
place-is frames c told frame callers is = same_Some _ _ (told ∙ ap (λ frames. option_map place_of (topmost frames)) is)

pub has-frame : (p : Program) (x : State) → IsStanding p x → HasFrame x
has-frame p x s = (s.frame, s.callers, s.frames_is)

pub has-code : (p : Program) (x : State) (s : IsStanding p x) (at : ℕ × ℕ) → at ≡ place_of s.frame → HasCode p at.0
has-code p x s at is = subst (λ (q : ℕ × ℕ). HasCode p q.0) (sym is) (s.code, s.code_is)

pub item-inside : (p : Program) (x : State) (s : IsStanding p x) (at : ℕ × ℕ) (code : Code) → at ≡ place_of s.frame → code_at p at.0 ≡ Some code
    → at.1 < length code.items
item-inside p x s at code is code_is =
    let same : s.code ≡ code = same_Some _ _ (sym s.code_is ∙ ap (λ (q : ℕ × ℕ). code_at p q.0) (sym is) ∙ code_is) in
    subst (λ (q : ℕ × ℕ). q.1 < length code.items) (sym is) (subst (λ (c : Code). s.frame.item < length c.items) same s.below)

pub stands-here : (p : Program) (x : State) (s : IsStanding p x) (at : ℕ × ℕ) (code : Code) (i : Insn) → at ≡ place_of s.frame → code_at p at.0 ≡ Some code
    → insn_of code at.1 ≡ Some i → StandsIn p x at.0 i
stands-here p x s at code i is code_is insn_is =
    let here : next_insn p s.frame ≡ Some i =
    ap (λ (q : ℕ × ℕ). option_and_then (λ code. insn_of code q.1) (code_at p q.0)) (sym is)
    ∙ ap (λ found. option_and_then (λ code. insn_of code at.1) found) code_is ∙ insn_is in
    record {
      at = record { frame = s.frame; callers = s.callers; frames_is = s.frames_is; insn_is = here };
      method_is = sym (ap (λ (q : ℕ × ℕ). q.0) is);
    }

-- the instruction at which it is, found in the method's code
pub insn-here : (p : Program) (x : State) (s : IsStanding p x) (at : ℕ × ℕ) (code : Code) (i : Insn) → at ≡ place_of s.frame → code_at p at.0 ≡ Some code
    → insn_of code at.1 ≡ Some i → s.insn ≡ i
insn-here p x s at code i is code_is insn_is =
    let same : s.code ≡ code = same_Some _ _ (sym s.code_is ∙ ap (λ (q : ℕ × ℕ). code_at p q.0) (sym is) ∙ code_is) in
    same_Some _ _ (sym s.insn_is ∙ ap (λ (c : Code). insn_of c s.frame.item) same ∙ ap (λ (q : ℕ × ℕ). insn_of code q.1) (sym is) ∙ insn_is)
