-- Along which edges of the old code a step leads.
use Rattle.std.proofs.Common.{◌≡◌, ℕ, ◌+◌, ◌<◌, inl, Bool, true, List, [], ◌∷◌, length, Option, Some, None, option_and_then, refl, sym, ap, subst, ◌∙◌}
use Rattle.fm_base.proofs.OptionFacts.{Some-from_some_and}
use Rattle.fm_code.specs.Edges.{falls_through, insn_of, IsEdge, IsNormalEdge}
use Rattle.fm_code.specs.SpellsCode.{targets_of}
use Rattle.fm_code.specs.declared.code_array.Code.{Code}
use Rattle.fm_code.specs.declared.instructions.Insn.{Insn}
use Rattle.fm_code.specs.declared.instructions.Insn.TheVariants as insn
use Rattle.fm_code.specs.declared.operations.Reg.{Reg}
use Rattle.fm_code.specs.declared.operations.Reg.TheVariants as reg
use Rattle.fm_frames.specs.Effects.{Effect, Falls, Jumps, JumpsIfSame, Next}
use Rattle.fm_frames.specs.JumpRows.{lookup_effect, return_effect, table_effect, throw_effect}
use Rattle.fm_frames.specs.Rows.{effect_of}
use Rattle.fm_frames.specs.Sights.{Sight}
use Rattle.fm_frames.specs.Starts.{start_methods, to_start, with_start}
use Rattle.fm_frames.specs.States.{Frame}
use Rattle.fm_frames.specs.Steps.{target_at}
use Rattle.fm_law_sound.proofs.Cases.{by_int, by_object}
use Rattle.fm_law_sound.proofs.FramesStand.{next_edge, target_edge, typing_of}
use Rattle.fm_law_sound.proofs.StartActs.{after_methods, for_class}
use Rattle.fm_law_sound.specs.Going.{StandsAtRow}
use Rattle.fm_law_sound.specs.Resolved.{StepsAreResolved}
use Rattle.fm_law_sound.specs.Sound.{AreTyped, StandsWithout, Typings}
use Rattle.fm_law_unwoven.specs.UnseenCode.{GoesWithin}
use Rattle.fm_types.specs.Named.{throwable_type}
use Rattle.fm_types.specs.Rows.{row_after}
use Rattle.fm_types.specs.States.{TypeState}
use Rattle.fm_types.specs.Typed.{after_item, FitsAt, made_at, use_by}
use Rattle.fm_world.specs.Programs.{Outline, Program}
use Rattle.fm_world.specs.declared.uses.Use.{Use}

-- ---- the next item

-- it follows only where the instruction goes on to it
abbrev pub FallsAs : Insn → Next → Type 0
FallsAs i Falls = falls_through i ≡ true
FallsAs i (JumpsIfSame same) = falls_through i ≡ true
FallsAs i next = Unit {0}

abbrev HasFallen : Insn → Effect → Type 0
HasFallen i e = FallsAs i e.next

through : (i : Insn) (next : Next) → falls_through i ≡ true → FallsAs i next
through i Falls is = is
through i (JumpsIfSame same) is = is
through i next is = tt

returns_fall : (value : Option Reg) → FallsAs (insn.Return value) (return_effect value).next
unfolding return_effect
returns_fall None = tt
returns_fall (Some reg.Int) = tt
returns_fall (Some reg.Long) = tt
returns_fall (Some reg.Ref) = tt

own_falls : (o : Outline) (method : ℕ) (u : Use) (i : Insn) (byte : Option ℕ) (s : List Sight) → FallsAs i (effect_of o method u i byte s).next
unfolding effect_of table_effect lookup_effect throw_effect
own_falls o method u (insn.Goto target) byte s = tt
own_falls o method u (insn.Table low others targets) byte s = by_int (HasFallen (insn.Table low others targets)) s 0 _ tt (λ key. tt)
own_falls o method u (insn.Lookup others keys targets) byte s = by_int (HasFallen (insn.Lookup others keys targets)) s 0 _ tt (λ key. tt)
own_falls o method u (insn.Return value) byte s = returns_fall value
own_falls o method u insn.Throw byte s = by_object (HasFallen insn.Throw) o (throwable_type o) s 0 _ tt tt tt (λ it seen passes. tt)
own_falls o method u i byte s = through i (effect_of o method u i byte s).next refl

module _ (i : Insn) (o : Outline) (started : List Bool) (e : Effect) (falls : FallsAs i e.next) where
  methods_fall : (classes methods : List ℕ) → FallsAs i (after_methods o classes e methods).next
  methods_fall classes [] = falls
  methods_fall classes (m ∷ methods) = tt

  class_falls : (class : Option ℕ) → FallsAs i (for_class o started e class).next
  class_falls None = falls
  class_falls (Some class) = methods_fall (to_start o started class) (start_methods o (to_start o started class))

  started_falls : FallsAs i (with_start o started e).next
  started_falls = class_falls e.starts

-- also where a class has to be started before
pub step_falls : (o : Outline) (started : List Bool) (method : ℕ) (u : Use) (i : Insn) (byte : Option ℕ) (s : List Sight)
    → FallsAs i (with_start o started (effect_of o method u i byte s)).next
step_falls o started method u i byte s = started_falls i o started (effect_of o method u i byte s) (own_falls o method u i byte s)

-- ---- edges

-- what follows in the frame itself lies at the end of edges from item j
abbrev pub LeadsOn : Program → Code → Frame → (j : ℕ) → Next → Type 0
LeadsOn p code f j Falls = IsEdge code j (f.item + 1)
LeadsOn p code f j (Jumps n) = IsEdge code j (target_at p f n)
LeadsOn p code f j (JumpsIfSame same) = IsEdge code j (target_at p f 0) × IsEdge code j (f.item + 1)
LeadsOn p code f j next = Unit {0}

module _ (p : Program) (typings : Typings) (ready : StepsAreResolved p) (typed : AreTyped p typings) (words : ℕ) (f : Frame)
    (stands : StandsWithout p typings words f) (i : Insn) (there : insn_of stands.code f.item ≡ Some i) where
  row : (after : TypeState)
      × (row_after p.outline f.method f.item (made_at p f.method stands.code) (use_by p f.method i) i stands.known ≡ Some after)
  row =
      let meets = (typing_of p typings typed f.method stands.code stands.code_is).items f.item stands.known stands.at in
      let found = Some-from_some_and (after_item p f.method stands.code f.item stands.known)
      (λ given. (next : ℕ) → IsNormalEdge stands.code f.item next → FitsAt p (typings f.method) next given) meets.row in (
        found.0,
        sym (ap (option_and_then
            (λ (k : Insn). row_after p.outline f.method f.item (made_at p f.method stands.code) (use_by p f.method k) k stands.known)) there)
            ∙ found.1,
      )

  abbrev at_row : StandsAtRow p typings f i row.0
  at_row = record {
    code = stands.code;
    code_is = stands.code_is;
    insn_is = there;
    known = stands.known;
    at = stands.at;
    row = row.1;
    targets = ready.targets f.method stands.code f.item i stands.code_is there;
  }

  pub leads_behind : falls_through i ≡ true → IsEdge stands.code f.item (f.item + 1)
  leads_behind falls = inl (next_edge p typings ready.tree typed f i row.0 at_row falls)

  leads_to : (n : ℕ) → n < length (targets_of i) → IsEdge stands.code f.item (target_at p f n)
  leads_to n inside = inl (target_edge p typings ready.tree typed f i row.0 at_row n inside)

  from_item : (j to : ℕ) → f.item ≡ j → IsEdge stands.code f.item to → IsEdge stands.code j to
  from_item j to at edge = subst (λ k. IsEdge stands.code k to) at edge

  pub next_leads : (j : ℕ) → f.item ≡ j → (next : Next) → FallsAs i next → GoesWithin p.outline (length (targets_of i)) next → LeadsOn p stands.code f j next
  next_leads j at Falls falls within = from_item j (f.item + 1) at (leads_behind falls)
  next_leads j at (Jumps n) falls within = from_item j (target_at p f n) at (leads_to n within)
  next_leads j at (JumpsIfSame same) falls within =
      (from_item j (target_at p f 0) at (leads_to 0 within), from_item j (f.item + 1) at (leads_behind falls))
  next_leads j at next falls within = tt
