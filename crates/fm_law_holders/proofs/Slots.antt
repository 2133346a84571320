-- Lists of slots against lists of values: what isn't initialised was made at its item, and of other slots nothing is asked.
use Rattle.std.proofs.Common.{◌≡◌, ◌&&◌, true, List, [], ◌∷◌, ◌++◌, length, subst, arith}
use Rattle.std.specs.List.{AllByRecursion, AllZip}
use Rattle.std.proofs.lemmas.Bool.{and_parts, false≢true}
use Rattle.std.proofs.lemmas.Bool.Decides.{nat_tests}
use Rattle.std.proofs.lemmas.List.{length-append}
use Rattle.std.proofs.lemmas.Slice.Zip.{AllZip-long}
use Rattle.fm_cells.specs.Stores.{Store}
use Rattle.fm_types.specs.Fits.{fits}
use Rattle.fm_types.specs.States.{all_fit, state_fits, TypeState}
use Rattle.fm_types.specs.declared.slots.Slot.{Slot}
use Rattle.fm_types.specs.declared.slots.Slot.TheVariants as slot
use Rattle.fm_world.specs.Programs.{Outline}
use Rattle.fm_frames.specs.declared.values.Value.{Value}
use Rattle.fm_law_holders.specs.Uninitialised.{Made, ValueIsMade}
use Rattle.fm_types.proofs.EachCheckRow.{IsPlain}

-- the locals and the words of a stack are as the state has them
pub record AreAt (store : Store) (made : Made) (known : TypeState) (locals stack : List Value) : Type 0 where
  pub in_locals : AllZip (ValueIsMade store made) known.locals locals
  pub in_stack : AllZip (ValueIsMade store made) known.stack stack

module _ (store : Store) (made : Made) where
  abbrev pub Is : Slot → Value → Type 0
  Is s v = ValueIsMade store made s v

  abbrev pub Are : List Slot → List Value → Type 0
  Are xs words = AllZip Is xs words

  -- ---- slots of which nothing is asked

  pub other_is : (s : Slot) (v : Value) → IsPlain s → Is s v
  other_is (slot.Uninit item) v h = absurd h
  other_is s v h = tt

  pub others_are : (xs : List Slot) (words : List Value) → AllByRecursion IsPlain xs → length words ≡ length xs → Are xs words
  others_are [] [] each long = tt
  others_are [] (v ∷ words) each long = absurd (cc)
  others_are (x ∷ xs) [] each long = absurd (cc)
  others_are (x ∷ xs) (v ∷ words) each long = (other_is x v each.0, others_are xs words each.1 (cc (long)))

  -- ---- along an edge

  fitting_is : (o : Outline) (a b : Slot) (v : Value) → fits o a b ≡ true → Is a v → Is b v
  unfolding fits
  fitting_is o a slot.Top v f h = tt
  fitting_is o slot.Int slot.Int v f h = tt
  fitting_is o slot.Long slot.Long v f h = tt
  fitting_is o slot.Null slot.Null v f h = tt
  fitting_is o slot.Null (slot.Ref t) v f h = tt
  fitting_is o (slot.Ref a) (slot.Ref b) v f h = tt
  fitting_is o (slot.Uninit item) (slot.Uninit other) v f h =
      let same : item ≡ other = grind (arith, nat_tests, f) in subst (λ i. Is (slot.Uninit i) v) same h
  fitting_is o slot.UninitThis slot.UninitThis v f h = tt
  fitting_is o a b v f h = absurd (false≢true f)

  fitting_are : (o : Outline) (xs ys : List Slot) (words : List Value) → all_fit o xs ys ≡ true → Are xs words → Are ys words
  fitting_are o [] [] words f h = h
  fitting_are o [] (y ∷ ys) words f h = absurd (false≢true f)
  fitting_are o (x ∷ xs) [] words f h = absurd (false≢true f)
  fitting_are o (x ∷ xs) (y ∷ ys) [] f h = absurd h
  fitting_are o (x ∷ xs) (y ∷ ys) (v ∷ words) f h =
      let parts = and_parts (fits o x y) (all_fit o xs ys) f in (fitting_is o x y v parts.0 h.0, fitting_are o xs ys words parts.1 h.1)

  pub are_along : (o : Outline) (s other : TypeState) (locals stack : List Value) → state_fits o s other ≡ true → AreAt store made s locals stack
      → AreAt store made other locals stack
  unfolding state_fits
  are_along o s other locals stack f h =
      let outer = and_parts (all_fit o s.locals other.locals && all_fit o s.stack other.stack) _ f in
      let inner = and_parts (all_fit o s.locals other.locals) (all_fit o s.stack other.stack) outer.0 in
      record {
        in_locals = fitting_are o s.locals other.locals locals inner.0 h.in_locals;
        in_stack = fitting_are o s.stack other.stack stack inner.1 h.in_stack;
      }

-- ---- how many are on top

-- as many values are above as slots, where as many are below
pub above_long : {A B : Type 0} (P : A → B → Type 0) (xs rest : List A) (ys left : List B) → AllZip P (xs ++ rest) (ys ++ left)
    → length left ≡ length rest → length ys ≡ length xs
above_long P xs rest ys left h same =
    let whole = AllZip-long P (xs ++ rest) (ys ++ left) h in
    let first = length-append xs rest in
    let second = length-append ys left in
    omega (arith, whole, first, second, same)
