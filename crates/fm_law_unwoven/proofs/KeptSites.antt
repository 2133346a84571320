-- What is known of a method's insertions: they are safe at each item, and what an item with holders gave is a reference on top of the stack.
use Rattle.std.proofs.Common.{◌≡◌, ℕ, ◌+◌, ◌-◌, ◌<◌, Bool, true, false, List, [], ◌∷◌, length, reverse, Option, Some, None, option_and_then, IsSomeAnd, Contains, slice_get, refl, sym, ap, subst, ◌∙◌, arith, if◌then◌else◌}
use Rattle.std.specs.Prelude.{is_some, nat_eq}
use Rattle.std.specs.List.{IsDistinct}
use Rattle.std.proofs.lemmas.Bool.{and_parts, eqb-true, false≢true}
use Rattle.std.proofs.lemmas.Option.{none-some}
use Rattle.fm_base.proofs.ContainsFacts.{Contains-none}
use Rattle.fm_base.proofs.ListFacts.{AllByRecursion-at}
use Rattle.fm_code.proofs.EdgesLemmas.{Contains-first}
use Rattle.fm_code.specs.Edges.{insn_of}
use Rattle.fm_code.specs.SpellsCode.{targets_of}
use Rattle.fm_code.specs.declared.code_array.Code.{Code}
use Rattle.fm_code.specs.declared.instructions.Insn.{Insn}
use Rattle.fm_code.specs.declared.instructions.Insn.TheVariants as insn
use Rattle.fm_conn.specs.Facts.{Facts}
use Rattle.fm_conn.specs.Links.{typed_method}
use Rattle.fm_conn.specs.Nodes.{TypedMethod}
use Rattle.fm_frames.specs.States.{Frame, word_at}
use Rattle.fm_frames.specs.declared.values.Value.{Value}
use Rattle.fm_law_same_runs.specs.Beside.{Marks}
use Rattle.fm_law_sound.proofs.FramesStand.{typing_of}
use Rattle.fm_law_sound.specs.Resolved.{StepsAreResolved}
use Rattle.fm_law_sound.specs.Sound.{AreTyped, HaveKinds, IsReference, StandsWithout}
use Rattle.fm_law_unwoven.specs.WovenFrom.{inserted_by, IsWovenFrom}
use Rattle.fm_place.proofs.BusyLemmas.{depth_of}
use Rattle.fm_place.proofs.FullLemmas.{numbers-found}
use Rattle.fm_place.specs.Insertions.{after_at, Insertions}
use Rattle.fm_place.specs.Rewriting.{Plans}
use Rattle.fm_place.specs.Safe.{IsSafeAt, IsSafeHolder}
use Rattle.fm_place.specs.Sites.{is_captured, kind_of_site, site_class, site_kind}
use Rattle.fm_same.proofs.ItemFacts.{slot_from_below}
use Rattle.fm_same.specs.Laws.{SitesAreNodes}
use Rattle.fm_types.specs.States.{is_reference, TypeState}
use Rattle.fm_types.specs.Typed.{state_at}
use Rattle.fm_types.specs.declared.slots.Slot as slots
use Rattle.fm_types.specs.declared.slots.Slot.TheVariants as slot
use Rattle.fm_world.specs.Programs.{code_at, Program}
use Rattle.fm_law_sound.proofs.CallsStand.{reference_value}

-- ---- on top of the stack

-- the highest word is a reference
on_top : (known : List slots.Slot) (stack : List Value) → IsSomeAnd (slice_get (reverse known) (length known - 1)) (λ s. is_reference s ≡ true)
    → HaveKinds known stack → (0 < length stack) × IsReference (word_at stack 0)
on_top [] stack node kinds = absurd node
on_top (s ∷ known) [] node kinds = absurd kinds
on_top (s ∷ known) (v ∷ stack) node kinds =
    let same : length (s ∷ known) - 1 ≡ length (s ∷ known) - 1 - 0 = omega arith in
    let there : slice_get (reverse (s ∷ known)) (length (s ∷ known) - 1) ≡ Some s =
    ap (slice_get (reverse (s ∷ known))) same ∙ slot_from_below (s ∷ known) 0 (omega arith) in
    (omega arith, reference_value s v (subst (λ (o : Option slots.Slot). IsSomeAnd o (λ t. is_reference t ≡ true)) there node) kinds.0)

abbrev top_in : Option TypeState → Option slots.Slot
top_in o = option_and_then (λ (s : TypeState). slice_get (reverse s.stack) (depth_of o - 1)) o

-- ---- sites

-- an instruction with targets is none
no_site : (facts : Facts) (x : TypedMethod) (j : ℕ) (i : Insn) → 0 < length (targets_of i) → kind_of_site facts x j i ≡ None
no_site facts x j (insn.IfInt test target) some = refl
no_site facts x j (insn.IfPair test target) some = refl
no_site facts x j (insn.IfSame same target) some = refl
no_site facts x j (insn.IfNull null target) some = refl
no_site facts x j (insn.Goto target) some = refl
no_site facts x j (insn.Table low others targets) some = refl
no_site facts x j (insn.Lookup others keys targets) some = refl
no_site facts x j i some = absurd (omega (arith, some))

-- ---- one method

module _ (p q : Program) (facts : Facts) (plans : Plans) (marks : Marks) (from : IsWovenFrom p q facts plans marks) (method : ℕ) (code : Code)
    (code_is : code_at p method ≡ Some code) where
  abbrev x : TypedMethod
  x = typed_method p facts.typing method code

  safe_by : (o : Option Insertions) → plans method ≡ o → (j : ℕ) → j < length code.items
      → IsSafeAt facts (typed_method p facts.typing method code) (inserted_by o) j
  unfolding IsDistinct
  safe_by None is j inside = record {
    once = tt;
    may = λ h among. absurd (Contains-none h among);
    must = λ h holder there quiet held. absurd (none-some holder there);
  }
  safe_by (Some plan) is j inside = (from.safe method code plan code_is is).items j inside

  -- safe at each item
  pub safe_at : (j : ℕ) → j < length code.items → IsSafeAt facts (typed_method p facts.typing method code) (inserted_by (plans method)) j
  safe_at = safe_by (plans method) refl

  -- an item behind which a holder keeps something is a site
  site_by : (o : Option Insertions) → plans method ≡ o → (j h : ℕ) → Contains (after_at (inserted_by o) j) h
      → is_some (site_kind facts (typed_method p facts.typing method code) j) ≡ true
  site_by None is j h among = absurd (Contains-none h among)
  site_by (Some plan) is j h among =
      let listed = numbers-found (λ o. nat_eq o.site j) 0 plan.holders h among in
      let site : listed.holder.site ≡ j = eqb-true listed.holder.site j listed.passes in
      let safe = from.safe method code plan code_is is in
      let holder : IsSafeHolder facts x listed.holder =
      AllByRecursion-at (IsSafeHolder facts x) plan.holders listed.place listed.holder safe.holders listed.there in
      let kind =
      (and_parts (is_some (site_kind facts x listed.holder.site)) (is_captured facts x (site_class facts x listed.holder.site)) holder.captured).0 in
      subst (λ n. is_some (site_kind facts x n) ≡ true) site kind

  -- so nothing is kept behind a branch
  pub none_behind : (j : ℕ) (i : Insn) → insn_of code j ≡ Some i → 0 < length (targets_of i) → after_at (inserted_by (plans method)) j ≡ []
  none_behind j i found some = by_holders (after_at (inserted_by (plans method)) j) refl where
    by_state : (b : Bool) → is_some (if b then kind_of_site facts x j i else None) ≡ false
    by_state true = ap is_some (no_site facts x j i some)
    by_state false = refl

    none : is_some (site_kind facts x j) ≡ false
    none =
        ap (λ o. is_some (if is_some (state_at x.states j) then option_and_then (kind_of_site facts x j) o else None)) found ∙ by_state (is_some (state_at x.states j))

    by_holders : (hs : List ℕ) → after_at (inserted_by (plans method)) j ≡ hs → after_at (inserted_by (plans method)) j ≡ []
    by_holders [] is = is
    by_holders (h ∷ hs) is =
        let among : Contains (after_at (inserted_by (plans method)) j) h = subst (λ all. Contains all h) (sym is) (Contains-first h hs h refl) in
        absurd (false≢true (sym none ∙ site_by (plans method) refl j h among))

  module _ (nodes : SitesAreNodes) (ready : StepsAreResolved p) (typed : AreTyped p facts.typing) (j : ℕ) where
    -- behind an item that has holders, the frame's highest word is a reference
    pub gives : (f : Frame) → method ≡ f.method → f.item ≡ j + 1 → StandsWithout p facts.typing 0 f
        → (h : ℕ) → Contains (after_at (inserted_by (plans method)) j) h → (0 < length f.stack) × IsReference (word_at f.stack 0)
    gives f method_is item_is stands h among =
        let at : state_at (facts.typing method) (j + 1) ≡ Some stands.known =
        (λ k. state_at (facts.typing (method_is k)) (sym item_is k)) ∙ stands.at in
        let node =
        nodes p facts method code (facts.typing method) ready code_is (typing_of p facts.typing typed method code code_is) j (site_by (plans method) refl j h among) in
        on_top stands.known.stack f.stack
        (subst (λ (o : Option TypeState). IsSomeAnd (top_in o) (λ s. is_reference s ≡ true)) at node) stands.stack
