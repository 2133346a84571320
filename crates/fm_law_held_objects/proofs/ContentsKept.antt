-- What a holder holds by colours, in other colours, after a step, and once an object joins its chain.
use Rattle.std.proofs.Common.{◌≡◌, ◌⊎◌, ◌<◌, ℕ, Bool, true, false, List, [], ◌∷◌, length, Contains, Some, refl, sym, ◌∙◌, ap, subst, ⊎_elim}
use Rattle.std.specs.Prelude.{nat_eq}
use Rattle.std.specs.List.{AllByRecursion, IsDistinct}
use Rattle.std.proofs.lemmas.Bool.{cases_Bool, eqb-true, false≢true}
use Rattle.std.proofs.lemmas.Option.{none-some, same_Some, slice_get_within}
use Rattle.fm_base.proofs.ContainsFacts.{Contains-cons_cases, Contains-none}
use Rattle.fm_cells.specs.Changes.{chained_by}
use Rattle.fm_cells.specs.Objects.{Object}
use Rattle.fm_cells.specs.Soundness.{IsOrderly}
use Rattle.fm_cells.specs.Stores.{object_at, Store}
use Rattle.fm_chain.specs.Chained.{looped_at}
use Rattle.fm_code.proofs.EdgesLemmas.{Contains-first, Contains-later}
use Rattle.fm_code.specs.declared.code_array.Code.{Code}
use Rattle.fm_frames.specs.Acts.{cell_of}
use Rattle.fm_frames.specs.States.{null, State}
use Rattle.fm_frames.specs.declared.values.Value.{Value}
use Rattle.fm_law_chained.proofs.Links.{chains_are_linked, links_stay}
use Rattle.fm_law_chained.specs.Chain.{IsChain, IsLink}
use Rattle.fm_law_held_objects.proofs.Holdings.{holding_by, nothing_of_null, own_of}
use Rattle.fm_law_held_objects.specs.Contents.{Has, HasInChain, HoldsOneOrAll, HoldsAll}
use Rattle.fm_law_held_objects.specs.Held.{AreHeld, HolderHas}
use Rattle.fm_law_holders.specs.Holding.{holder_value, Holding, HoldsFixed, HoldsFreeable, HoldsNull, HoldsOwn}
use Rattle.fm_law_holders.specs.NewResults.{KeepsObjects}
use Rattle.fm_law_sound.specs.Sound.{Typings}
use Rattle.fm_place.specs.Insertions.{Insertions}
use Rattle.fm_same.specs.Colours.{Colour}
use Rattle.fm_same.specs.Regions.{Own}

-- ---- a cell has one chain

null_first : (store : Store) (cell birth : ℕ) (births : List ℕ) → IsOrderly store → cell ≡ 0 → IsChain store cell (birth ∷ births) → ⊥
null_first store cell birth births orderly none (link, rest) =
    none-some link.object (sym orderly.null_not_held ∙ ap (object_at store) (sym none) ∙ link.held)

pub chain_same : (store : Store) (cell : ℕ) (one two : List ℕ) → IsOrderly store → IsChain store cell one → IsChain store cell two → one ≡ two
chain_same store cell [] [] orderly first second = refl
chain_same store cell [] (birth ∷ two) orderly first second = absurd (null_first store cell birth two orderly first second)
chain_same store cell (birth ∷ one) [] orderly first second = absurd (null_first store cell birth one orderly second first)
chain_same store cell (birth ∷ one) (other ∷ two) orderly (link, rest) (next, more) =
    let same : link.object ≡ next.object = same_Some link.object next.object (sym link.held ∙ next.held) in
    let births : birth ≡ other = sym link.born ∙ ap (λ (o : Object). o.birth) same ∙ next.born in
    let later : one ≡ two =
    chain_same store link.object.chain one two orderly rest (subst (λ (o : Object). IsChain store o.chain two) (sym same) more) in
    (λ k. births k ∷ later k)

-- ---- where an object of it is

chain_at : (store : Store) (birth : ℕ) (births : List ℕ) (cell : ℕ) → IsChain store cell births → Contains births birth → (q : ℕ) × IsLink store q birth
chain_at store birth [] cell chain among = absurd (Contains-none birth among)
chain_at store birth (first ∷ births) cell (link, rest) among =
    ⊎_elim (λ (same : birth ≡ first). (cell, subst (IsLink store cell) (sym same) link))
    (λ (later : Contains births birth). chain_at store birth births link.object.chain rest later)
    (Contains-cons_cases first births birth among)

pub has_at : (looped : Bool) (store : Store) (v : Value) (birth : ℕ) → Has looped store v birth → (q : ℕ) × IsLink store q birth
has_at false store v birth has =
    (cell_of v, record { object = has.object; held = has.held; loose = has.not_fixed; born = has.birth_is })
has_at true store v birth has = chain_at store birth has.births (cell_of v) has.chain has.among

pub has_born : (looped : Bool) (store : Store) (v : Value) (birth : ℕ) → IsOrderly store → Has looped store v birth → birth < store.births
has_born looped store v birth orderly has =
    let at = has_at looped store v birth has in
    subst (λ n. n < store.births) at.1.born (orderly.born at.0 at.1.object at.1.held)

-- ---- by colours

pub own_has : (looped : Bool) (store : Store) (colour : Colour) (depth class : ℕ) (v : Value) (birth : ℕ) → IsOrderly store
    → HoldsOneOrAll looped store colour depth class v → Has looped store v birth → colour birth ≡ Own depth class
own_has false store colour depth class v birth orderly holds has = own_of store colour depth class v birth orderly holds has
own_has true store colour depth class v birth orderly holds has =
    holds.own birth
    (subst (λ births. Contains births birth) (chain_same store (cell_of v) has.births holds.births orderly has.chain holds.chain) has.among)

-- null has nothing
pub nothing_has : (looped : Bool) (store : Store) (birth : ℕ) → IsOrderly store → Has looped store null birth → ⊥
nothing_has false store birth orderly has = nothing_of_null store birth orderly has
nothing_has true store birth orderly has = by_births has.births has.chain has.among where
  by_births : (births : List ℕ) → IsChain store (cell_of null) births → Contains births birth → ⊥
  by_births [] chain among = Contains-none birth among
  by_births (first ∷ births) chain among = null_first store 0 first births orderly refl chain

-- and may be in any holder
pub null_holds : (looped : Bool) (store : Store) (colour : Colour) (depth class : ℕ) (v : Value) → v ≡ null → HoldsOneOrAll looped store colour depth class v
unfolding IsDistinct
null_holds false store colour depth class v none = HoldsNull none
null_holds true store colour depth class v none =
    record { births = []; chain = ap cell_of none; once = tt; own = λ birth among. absurd (Contains-none birth among) }

-- in other colours
pub holds_by : (looped : Bool) (store : Store) (colour other : Colour) (depth class : ℕ) (v : Value)
    → ((birth : ℕ) → Has looped store v birth → other birth ≡ colour birth) → HoldsOneOrAll looped store colour depth class v → HoldsOneOrAll looped store other depth class v
holds_by false store colour other depth class v same holds = holding_by store colour other depth class v same holds
holds_by true store colour other depth class v same holds = record {
  births = holds.births;
  chain = holds.chain;
  once = holds.once;
  own = λ birth among. same birth (record { births = holds.births; chain = holds.chain; among = among }) ∙ holds.own birth among;
}

-- holders hold what they held where none of their objects has another colour
pub held_by : (typings : Typings) (x : State) (colour other : Colour) (depth : ℕ) (store : Store) (code : Code) (plan : Insertions) (locals : List Value)
    → ((h birth : ℕ) → h < length plan.holders → HolderHas store code plan locals h birth → other birth ≡ colour birth)
    → AreHeld typings x colour depth store code plan locals → AreHeld typings x other depth store code plan locals
held_by typings x colour other depth store code plan locals same had = record {
  holds = λ h holder at.
      holds_by (looped_at plan h) store colour other depth holder.class (holder_value code locals h)
      (λ birth has. same h birth (slice_get_within plan.holders h holder at) has) (had.holds h holder at);
  apart = had.apart;
  initialised = had.initialised;
}

-- ---- after a step

module _ (store later : Store) (later_orderly : IsOrderly later) (keeps : KeepsObjects store later) where
  -- what may be freed might be freed before
  may_before : (colour : Colour) (depth class : ℕ) (v : Value) (birth : ℕ) → Holding store colour depth class v → HoldsFreeable later v birth
      → HoldsFreeable store v birth
  may_before colour depth class v birth (HoldsNull none) may =
      absurd (none-some may.object (sym later_orderly.null_not_held ∙ ap (λ u. object_at later (cell_of u)) (sym none) ∙ may.held))
  may_before colour depth class v birth (HoldsFixed object held fixed) may =
      let now = keeps (cell_of v) object held in
      absurd (false≢true (sym may.not_fixed ∙ ap (λ (o : Object). o.fixed) (same_Some may.object now.0 (sym may.held ∙ now.1)) ∙ now.3 ∙ fixed))
  may_before colour depth class v birth (HoldsOwn object held loose own) may =
      let now = keeps (cell_of v) object held in
      record {
        object = object;
        held = held;
        not_fixed = loose;
        birth_is = sym now.2 ∙ ap (λ (o : Object). o.birth) (same_Some now.0 may.object (sym now.1 ∙ may.held)) ∙ may.birth_is;
      }

  chain_later : (first : ℕ) (births : List ℕ) → IsChain store first births → IsChain later first births
  chain_later first births chain =
      links_stay store later first births
      (λ cell object held among.
      let now = keeps cell object held in
      record { now = now.0; held = now.1; born = now.2; fixed = now.3; chain = now.4 }) chain

  -- what it holds it held before
  pub has_before : (looped : Bool) (colour : Colour) (depth class : ℕ) (v : Value) (birth : ℕ) → HoldsOneOrAll looped store colour depth class v
      → Has looped later v birth → Has looped store v birth
  has_before false colour depth class v birth holds has = may_before colour depth class v birth holds has
  has_before true colour depth class v birth holds has = record {
    births = holds.births;
    chain = holds.chain;
    among = subst (λ births. Contains births birth)
        (chain_same later (cell_of v) has.births holds.births later_orderly has.chain (chain_later (cell_of v) holds.births holds.chain)) has.among;
  }

  -- and what it had it has
  pub has_later : (looped : Bool) (v : Value) (birth : ℕ) → Has looped store v birth → Has looped later v birth
  has_later false v birth has =
      let now = keeps (cell_of v) has.object has.held in
      record { object = now.0; held = now.1; not_fixed = now.3 ∙ has.not_fixed; birth_is = now.2 ∙ has.birth_is }
  has_later true v birth has =
      record { births = has.births; chain = chain_later (cell_of v) has.births has.chain; among = has.among }

  plain_later : (colour other : Colour) (depth class : ℕ) (v : Value)
      → ((birth : ℕ) → HoldsFreeable store v birth → colour birth ≡ Own depth class → other birth ≡ colour birth)
      → Holding store colour depth class v → Holding later other depth class v
  plain_later colour other depth class v same (HoldsNull none) = HoldsNull none
  plain_later colour other depth class v same (HoldsFixed object held fixed) =
      let now = keeps (cell_of v) object held in HoldsFixed now.0 now.1 (now.3 ∙ fixed)
  plain_later colour other depth class v same (HoldsOwn object held loose own) =
      let now = keeps (cell_of v) object held in
      HoldsOwn now.0 now.1 (now.3 ∙ loose)
      (ap other now.2 ∙ same object.birth (record { object = object; held = held; not_fixed = loose; birth_is = refl }) own ∙ own)

  -- and what it may hold it may hold
  pub holds_later : (looped : Bool) (colour other : Colour) (depth class : ℕ) (v : Value)
      → ((birth : ℕ) → Has looped store v birth → colour birth ≡ Own depth class → other birth ≡ colour birth)
      → HoldsOneOrAll looped store colour depth class v → HoldsOneOrAll looped later other depth class v
  holds_later false colour other depth class v same holds = plain_later colour other depth class v same holds
  holds_later true colour other depth class v same holds = record {
    births = holds.births;
    chain = chain_later (cell_of v) holds.births holds.chain;
    once = holds.once;
    own = λ birth among.
        same birth (record { births = holds.births; chain = holds.chain; among = among }) (holds.own birth among) ∙ holds.own birth among;
  }

-- ---- an object joins a chain

unlike_each : (birth : ℕ) (births : List ℕ) → (Contains births birth → ⊥) → AllByRecursion (λ other. nat_eq birth other ≡ false) births
unlike_each birth [] away = tt
unlike_each birth (other ∷ births) away = (
  ⊎_elim (λ same. absurd (away (Contains-first other births birth (eqb-true birth other same)))) (λ apart. apart) (cases_Bool (nat_eq birth other)),
  unlike_each birth births (λ among. away (Contains-later other births birth among)),
)

pub holds_joined : (store : Store) (colour : Colour) (depth class : ℕ) (v w : Value) (object : Object) → object_at store (cell_of w) ≡ Some object
    → object.fixed ≡ false → colour object.birth ≡ Own depth class → (holds : HoldsAll store colour depth class v) → (Contains holds.births object.birth → ⊥)
    → HoldsAll (chained_by store (cell_of w) (cell_of v)) colour depth class w
unfolding IsDistinct
holds_joined store colour depth class v w object held loose own holds away = record {
  births = object.birth ∷ holds.births;
  chain = chains_are_linked store (cell_of w) (cell_of v) object holds.births held loose away holds.chain;
  once = (unlike_each object.birth holds.births away, holds.once);
  own = λ birth among.
      ⊎_elim (λ (same : birth ≡ object.birth). ap colour same ∙ own) (λ later. holds.own birth later)
      (Contains-cons_cases object.birth holds.births birth among);
}

-- so the chain has what it had, and the object
pub has_joined : (store : Store) (colour : Colour) (depth class : ℕ) (v w : Value) (object : Object) → object_at store (cell_of w) ≡ Some object
    → object.fixed ≡ false → (holds : HoldsAll store colour depth class v) → (Contains holds.births object.birth → ⊥)
    → IsOrderly (chained_by store (cell_of w) (cell_of v)) → (birth : ℕ) → HasInChain (chained_by store (cell_of w) (cell_of v)) w birth
    → (birth ≡ object.birth) ⊎ Contains holds.births birth
has_joined store colour depth class v w object held loose holds away orderly birth has =
    Contains-cons_cases object.birth holds.births birth
    (subst (λ births. Contains births birth)
    (chain_same (chained_by store (cell_of w) (cell_of v)) (cell_of w) has.births (object.birth ∷ holds.births) orderly has.chain
    (chains_are_linked store (cell_of w) (cell_of v) object holds.births held loose away holds.chain))
    has.among)
