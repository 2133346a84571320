-- Of what a holder holds at the next kept item: null, what it held before, or the object that the site of its class gave.
use Rattle.std.proofs.Common.{◌≡◌, inl, ℕ, ◌+◌, ◌-◌, ◌<◌, true, List, [], ◌∷◌, length, Some, Contains, slice_get, refl, sym, ap, subst, ◌∙◌, arith, ⊎_elim}
use Rattle.std.specs.Prelude.{is_some, nat_eq}
use Rattle.std.specs.List.{AllByRecursion, AllZip}
use Rattle.std.proofs.lemmas.Bool.{and_parts, cases_Bool, eqb-true}
use Rattle.std.proofs.lemmas.Option.{same_Some}
use Rattle.std.proofs.lemmas.Slice.Zip.{AllZip-long}
use Rattle.fm_base.proofs.ListFacts.{AllByRecursion-at}
use Rattle.fm_cells.specs.Stores.{Store}
use Rattle.fm_code.specs.declared.code_array.Code.{Code}
use Rattle.fm_conn.specs.Facts.{Facts}
use Rattle.fm_conn.specs.Links.{typed_method}
use Rattle.fm_conn.specs.Nodes.{depth_at, Slot, TypedMethod}
use Rattle.fm_frames.specs.Acts.{cell_of}
use Rattle.fm_frames.specs.States.{Frame, State, word_at}
use Rattle.fm_frames.specs.declared.values.Value.{Value}
use Rattle.fm_law_holders.specs.Holding.{HoldsFreeable}
use Rattle.fm_law_holders.specs.Uninitialised.{Made}
use Rattle.fm_law_lockstep.proofs.HeldTwins.{there_may}
use Rattle.fm_law_lockstep.proofs.Seen.{itself}
use Rattle.fm_law_lockstep.specs.Both.{Both}
use Rattle.fm_law_lockstep.specs.Known.{IsKnown, IsLinked}
use Rattle.fm_law_sound.proofs.FramesStand.{typing_of}
use Rattle.fm_law_sound.specs.Sound.{AreTyped, HasKind, Stand, StandsWithout}
use Rattle.fm_law_two_memories.specs.Pairing.{ArePaired, Gone, SameValue}
use Rattle.fm_law_two_memories.specs.Seeing.{IsThere}
use Rattle.fm_place.proofs.BusyLemmas.{depth_of}
use Rattle.fm_place.proofs.FullLemmas.{Numbered, numbers-found}
use Rattle.fm_place.specs.Insertions.{after_at, Holder, Insertions}
use Rattle.fm_place.specs.Places.{is_busy}
use Rattle.fm_place.specs.Safe.{IsSafeHolder}
use Rattle.fm_place.specs.Sites.{is_captured, is_captured_site, site_class, site_kind}
use Rattle.fm_same.proofs.Retiring.{dead_if_retired}
use Rattle.fm_same.specs.Colours.{Colour, node_of_word}
use Rattle.fm_same.specs.DeadRegions.{InWord, InWordOf, IsHeldAt, IsRoot, LeadsTo}
use Rattle.fm_same.specs.Laws.{SitesMakeBusy}
use Rattle.fm_same.specs.Regions.{Retired}
use Rattle.fm_types.specs.Typed.{state_at}
use Rattle.fm_world.specs.Programs.{code_at, Program}

-- ---- the class of what a site gives

module _ (p : Program) (facts : Facts) (linked : IsLinked p facts) (busy : SitesMakeBusy) (method : ℕ) (code : Code) (code_is : code_at p method ≡ Some code)
    (plan : Insertions) (safe : AllByRecursion (IsSafeHolder facts (typed_method p facts.typing method code)) plan.holders) (j only : ℕ) (among : Contains (after_at plan j) only)
    (holder : Holder) (is : slice_get plan.holders only ≡ Some holder) where
  abbrev x : TypedMethod
  x = typed_method p facts.typing method code

  listed : Numbered (λ o. nat_eq o.site j) 0 plan.holders only
  listed = numbers-found (λ o. nat_eq o.site j) 0 plan.holders only among

  same_holder : listed.holder ≡ holder
  same_holder =
      let number = listed.number in
      let place : listed.place ≡ only = omega (arith, number) in
      same_Some listed.holder holder (sym listed.there ∙ ap (slice_get plan.holders) place ∙ is)

  site : holder.site ≡ j
  site = ap (λ (h : Holder). h.site) (sym same_holder) ∙ eqb-true listed.holder.site j listed.passes

  is_safe : IsSafeHolder facts (typed_method p facts.typing method code) holder
  is_safe = AllByRecursion-at (IsSafeHolder facts x) plan.holders only holder safe is

  pub kind : is_some (site_kind facts (typed_method p facts.typing method code) j) ≡ true
  kind =
      (and_parts (is_some (site_kind facts x j)) (is_captured facts x (site_class facts x j))
      (subst (λ n. is_captured_site facts x n ≡ true) site is_safe.captured)).0

  class_is : holder.class ≡ site_class facts (typed_method p facts.typing method code) j
  class_is = is_safe.class ∙ ap (site_class facts x) site

  -- it is that of the word on top behind the site
  pub class_on_top : facts.class method (Slot (j + 1) (depth_at (typed_method p facts.typing method code) (j + 1) - 1)) ≡ holder.class
  class_on_top = sym class_is

  -- and it is busy there
  pub busy_behind : AreTyped p facts.typing → is_busy facts (typed_method p facts.typing method code) holder.class (j + 1) ≡ true
  busy_behind typed =
      subst (λ class. is_busy facts x class (j + 1) ≡ true) (sym class_is)
      (busy p facts method code (facts.typing method) linked.without.steps code_is (typing_of p facts.typing typed method code code_is) j kind)

-- ---- on top of the stack

module _ (b : Both) (next : State) (colour : Colour) (made : Made) (known : IsKnown b.one b.facts next colour made) (gone : Gone)
    (retired : (birth : ℕ) → gone.births birth ≡ true → colour birth ≡ Retired) (other : Store) (paired : ArePaired gone b.one.outline next.areas.store other)
    (fx : Frame) (cx : List Frame) (are : next.frames ≡ fx ∷ cx) where
  stands : StandsWithout b.one b.facts.typing 0 fx
  stands = (subst (Stand b.one b.facts.typing) are known.whole.sound.frames).0

  -- the node of the highest word is that on top by the typing
  pub top_node : (method : ℕ) (code : Code) (item : ℕ) → fx.method ≡ method → fx.item ≡ item
      → node_of_word fx 0 ≡ Slot item (depth_at (typed_method b.one b.facts.typing method code) item - 1)
  top_node method code item method_is item_is =
      let at : state_at (b.facts.typing method) item ≡ Some stands.known =
      (λ k. state_at (b.facts.typing (sym method_is k)) (sym item_is k)) ∙ stands.at in
      let depth : depth_at (typed_method b.one b.facts.typing method code) item ≡ length stands.known.stack = ap depth_of at in
      let words : length stands.known.stack ≡ length fx.stack = sym (AllZip-long HasKind stands.known.stack fx.stack stands.stack) in
      let same : length fx.stack - 1 - 0 ≡ depth_at (typed_method b.one b.facts.typing method code) item - 1 = omega (arith, depth, words) in
      (λ k. Slot (item_is k) (same k))

  -- what a root leads to isn't gone
  root_there : (v : Value) → IsRoot b.facts next.frames v → IsThere gone next.areas.store (cell_of v)
  root_there v root found held =
      ⊎_elim
      (λ lost.
      absurd ((dead_if_retired b.one b.facts next next colour found.birth known.coloured (retired found.birth lost) (itself b.one b.facts next colour known.coloured)).no_root
      v root
      (record {
        trail = [];
        last = cell_of v;
        follows = refl;
        object = found;
        held = held;
        not_fixed = paired.loose (cell_of v) found held lost;
        is = refl;
      })))
      (λ here. here) (cases_Bool (gone.births found.birth))

  -- what the second frame's highest word leads to, the first one's does, and its class holds it
  pub record IsOnTop (depth class birth : ℕ) : Type 0 where
    pub value : Value
    pub held : IsHeldAt b.facts depth class next.frames value
    pub leads : LeadsTo b.one.outline next.areas.store value birth

  pub on_top : (depth class birth : ℕ) (stack : List Value) → length cx ≡ depth → b.facts.class fx.method (node_of_word fx 0) ≡ class
      → AllZip (SameValue gone next.areas.store other) fx.stack stack → 0 < length stack → HoldsFreeable other (word_at stack 0) birth
      → IsOnTop depth class birth
  on_top depth class birth stack count class_is same some may = by_stack fx.stack refl stack same some may where
    by_value : (v w : Value) → slice_get fx.stack 0 ≡ Some v → SameValue gone next.areas.store other v w → HoldsFreeable other w birth
        → IsOnTop depth class birth
    by_value v w at twin theirs =
        let root : IsRoot b.facts next.frames v = subst (λ fs. IsRoot b.facts fs v) (sym are) (inl (InWord 0 at)) in
        let mine = there_may gone b.one.outline next.areas.store other paired colour retired v w twin (root_there v root) birth theirs in
        record {
          value = v;
          held = subst (λ fs. IsHeldAt b.facts depth class fs v) (sym are) (inl (count, InWordOf 0 at class_is));
          leads = record { trail = []; last = cell_of v; follows = refl; object = mine.object; held = mine.held; not_fixed = mine.not_fixed; is = mine.birth_is };
        }

    by_stack : (vs : List Value) → fx.stack ≡ vs → (ws : List Value) → AllZip (SameValue gone next.areas.store other) vs ws → 0 < length ws
        → HoldsFreeable other (word_at ws 0) birth → IsOnTop depth class birth
    by_stack [] is [] twins more theirs = absurd (omega (arith, more))
    by_stack [] is (w ∷ ws) twins more theirs = absurd twins
    by_stack (v ∷ vs) is [] twins more theirs = absurd twins
    by_stack (v ∷ vs) is (w ∷ ws) twins more theirs = by_value v w (ap (λ words. slice_get words 0) is) twins.0 theirs
