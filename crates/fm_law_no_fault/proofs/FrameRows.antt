-- The row at which a frame of a whole state is: its effect is no fault.
use Rattle.std.proofs.Common.{◌≡◌, ℕ, false, length, Option, Some, None, option_and_then, refl, sym, ◌∙◌, ap, subst}
use Rattle.std.specs.List.{AllZip}
use Rattle.std.proofs.lemmas.Option.{same_Some}
use Rattle.std.proofs.lemmas.Slice.Zip.{AllZip-long}
use Rattle.fm_base.specs.declared.kinds.TypeRef.{TypeRef}
use Rattle.fm_code.specs.Edges.{insn_of}
use Rattle.fm_code.specs.declared.code_array.Code.{Code}
use Rattle.fm_code.specs.declared.instructions.Insn.{Insn}
use Rattle.fm_code.specs.declared.instructions.Insn.TheVariants as insn
use Rattle.fm_types.specs.Named.{this_class}
use Rattle.fm_types.specs.States.{TypeState}
use Rattle.fm_types.specs.Typed.{made_at, type_of_use, use_by, use_in}
use Rattle.fm_world.specs.Programs.{Program}
use Rattle.fm_frames.specs.Effects.{Calls, Effect, Enters, Exits, Falls, Faults, Jumps, JumpsIfSame, Next, Returns, Throws}
use Rattle.fm_frames.specs.Rows.{effect_of}
use Rattle.fm_frames.specs.Sights.{sights}
use Rattle.fm_frames.specs.States.{Areas, Frame}
use Rattle.fm_law_sound.specs.Going.{StandsAtRow}
use Rattle.fm_law_sound.specs.Leading.{is_call}
use Rattle.fm_law_sound.specs.Resolved.{IsNamed, StepsAreResolved}
use Rattle.fm_law_sound.specs.Sound.{AreasAreSound, AreTyped, HasKind, StandsWithout, Typings}
use Rattle.fm_law_sound.proofs.FramesStand.{typing_of}
use Rattle.fm_law_no_fault.specs.CellsResolved.{CellsAreResolved}
use Rattle.fm_law_no_fault.specs.Seen.{IsNoFault}
use Rattle.fm_law_no_fault.specs.Whole.{AreasAreWhole, FrameFits, FrameIsWhole, WordFits}
use Rattle.fm_law_no_fault.proofs.Owing.{NextSuits}
use Rattle.fm_law_no_fault.proofs.PlainRows.{MakesNamed, plain_whole}
use Rattle.fm_law_no_fault.proofs.RowCases.{Row, Whole}
use Rattle.fm_law_no_fault.proofs.WaitingFrames.{lowest_all}

-- what an item's `new` names
abbrev type_by : Program → ℕ → Insn → Option TypeRef
type_by p method (insn.New index) = type_of_use p.outline (use_in p method index)
type_by p method i = None

made_here : (p : Program) (method item : ℕ) (code : Code) (i : Insn) → insn_of code item ≡ Some i → made_at p method code item ≡ type_by p method i
made_here p method item code i is = ap (λ found. option_and_then (type_by p method) found) is

-- no effect that owes what it should is a fault
pub no_fault : (r : Row) (e : Effect) → Whole r e → IsNoFault e.next
no_fault r e h = by_next e.next h.next where
  by_next : (next : Next) → NextSuits r.program r.areas.store r.own r.news r.after r.frame e next → IsNoFault next
  by_next Falls owes = tt
  by_next (Jumps n) owes = tt
  by_next (JumpsIfSame same) owes = tt
  by_next (Calls target) owes = tt
  by_next (Returns n) owes = tt
  by_next (Throws s) owes = tt
  by_next (Enters methods) owes = tt
  by_next (Exits n) owes = tt
  by_next (Faults s) owes = owes

module _ (p : Program) (typings : Typings) (typed : AreTyped p typings) (steps : StepsAreResolved p) (cells : CellsAreResolved p) (x : Areas) (sound : AreasAreSound p.outline x) (areas : AreasAreWhole p.outline x) (f : Frame) (i : Insn) (after : TypeState) (h : StandsAtRow p typings f i after) (stands : StandsWithout p typings 0 f) (whole : FrameIsWhole p typings x.store f) where
  abbrev pub own : ℕ
  own = this_class p.outline f.method

  abbrev pub news : ℕ → Option TypeRef
  news = made_at p f.method h.code

  pub fits_it : FrameFits p.outline x.store own news h.known f.locals f.stack
  fits_it = whole h.code h.known h.code_is h.at

  pub long : length h.known.stack ≡ length f.stack
  long =
      let same : stands.known ≡ h.known = same_Some stands.known h.known (sym stands.at ∙ h.at) in
      ap (λ (s : TypeState). length s.stack) (sym same) ∙ sym (AllZip-long HasKind stands.known.stack f.stack stands.stack)

  -- the row, with the frame that fits the state before it
  abbrev pub row_here : Row
  row_here = record {
    program = p;
    cells = cells;
    steps = steps;
    areas = x;
    sound = sound;
    whole = areas;
    own = own;
    news = news;
    before = h.known;
    unsplit = ((typing_of p typings typed f.method h.code h.code_is).items f.item h.known h.at).whole;
    frame = f;
    own_is = refl;
    locals = fits_it.in_locals;
    stack = subst (λ xs. AllZip (WordFits p.outline x.store own news) xs f.stack) (lowest_all h.known.stack (length f.stack) long) fits_it.in_stack;
    after = after;
  }

  named_here : IsNamed p f.method i (use_by p f.method i)
  named_here = record { code = h.code; code_is = h.code_is; item = f.item; insn_is = h.insn_is; use_is = refl }

  makes_here : (j : Insn) → insn_of h.code f.item ≡ Some j → MakesNamed row_here (use_by p f.method j) j
  makes_here (insn.New index) is = made_here p f.method f.item h.code (insn.New index) is
  makes_here j is = tt

  pub plain_row : (byte : Option ℕ) → is_call i ≡ false
      → Whole row_here (effect_of p.outline f.method (use_by p f.method i) i byte (sights p.outline x.store f.stack))
  plain_row byte call =
      plain_whole row_here i (use_by p f.method i) byte (steps.fields f.method i (use_by p f.method i) named_here) named_here (makes_here i h.insn_is) call h.row
