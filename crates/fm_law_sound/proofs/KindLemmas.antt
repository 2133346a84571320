-- Kinds of values: along the order of slots, and in the lists that rows make of a stack and of locals.
use Rattle.std.proofs.Common.{◌≡◌, ℕ, ℤ, zero, suc, true, List, [], ◌∷◌, length, drop, take, Some, refl, sym, ◌∙◌, ap, subst, arith}
use Rattle.std.specs.List.{AllZip}
use Rattle.std.proofs.lemmas.Bool.{false≢true}
use Rattle.fm_base.proofs.OptionFacts.{cond-some_then}
use Rattle.fm_code.specs.declared.operations.Reg.{Reg}
use Rattle.fm_code.specs.declared.operations.Reg.TheVariants as reg
use Rattle.fm_types.specs.Fits.{fits}
use Rattle.fm_types.specs.NumberRows.{is_int, suits}
use Rattle.fm_types.specs.States.{is_whole, local_at, state_fits, taken, TypeState}
use Rattle.fm_types.specs.declared.slots.Slot.{Slot}
use Rattle.fm_types.specs.declared.slots.Slot.TheVariants as slot
use Rattle.fm_types.proofs.Zips.{zip-drop}
use Rattle.fm_types.proofs.StateOrder.{Fitting, IsUnder, long_below, other_below, shape_of, Stands, under-parts, whole-long, whole-other}
use Rattle.fm_world.specs.Programs.{Outline}
use Rattle.fm_frames.specs.States.{word_at}
use Rattle.fm_frames.specs.declared.values.Value.{Value}
use Rattle.fm_frames.specs.declared.values.Value.TheVariants as value
use Rattle.fm_law_sound.specs.Sound.{FrameHasKinds, HasKind, HaveKinds, LocalHasKind, LocalsHaveKinds}
use Rattle.fm_law_sound.proofs.FramesLeft.{taken_drop}

-- ---- along the order of slots

pub kind_along : (o : Outline) (a b : Slot) (v : Value) → fits o a b ≡ true → shape_of a ≡ shape_of b → HasKind a v → HasKind b v
unfolding fits
kind_along o slot.Top slot.Top v f same h = h
kind_along o a slot.Top v f same h = absurd (omega (arith, same))
kind_along o slot.Int slot.Int v f same h = h
kind_along o slot.Long slot.Long v f same h = h
kind_along o slot.Null slot.Null v f same h = h
kind_along o slot.Null (slot.Ref t) v f same h = h
kind_along o (slot.Ref a) (slot.Ref b) v f same h = h
kind_along o (slot.Uninit item) (slot.Uninit other) v f same h = h
kind_along o slot.UninitThis slot.UninitThis v f same h = h
kind_along o a b v f same h = absurd (false≢true f)

pub local_along : (o : Outline) (a b : Slot) (v : Value) → fits o a b ≡ true → LocalHasKind a v → LocalHasKind b v
unfolding fits
local_along o a slot.Top v f h = tt
local_along o slot.Int slot.Int v f h = h
local_along o slot.Long slot.Long v f h = h
local_along o slot.Null slot.Null v f h = h
local_along o slot.Null (slot.Ref t) v f h = h
local_along o (slot.Ref a) (slot.Ref b) v f h = h
local_along o (slot.Uninit item) (slot.Uninit other) v f h = h
local_along o slot.UninitThis slot.UninitThis v f h = h
local_along o a b v f h = absurd (false≢true f)

stack_along : (o : Outline) (xs ys : List Slot) (words : List Value) → AllZip (Stands o) xs ys → HaveKinds xs words → HaveKinds ys words
stack_along o [] [] words level h = h
stack_along o [] (y ∷ ys) words level h = absurd level
stack_along o (x ∷ xs) [] words level h = absurd level
stack_along o (x ∷ xs) (y ∷ ys) [] level h = absurd h
stack_along o (x ∷ xs) (y ∷ ys) (v ∷ words) level h =
    (kind_along o x y v level.0.fitting level.0.shape h.0, stack_along o xs ys words level.1 h.1)

locals_along : (o : Outline) (xs ys : List Slot) (words : List Value) → AllZip (Fitting o) xs ys → LocalsHaveKinds xs words → LocalsHaveKinds ys words
locals_along o [] [] words fitting h = h
locals_along o [] (y ∷ ys) words fitting h = absurd fitting
locals_along o (x ∷ xs) [] words fitting h = absurd fitting
locals_along o (x ∷ xs) (y ∷ ys) [] fitting h = absurd h
locals_along o (x ∷ xs) (y ∷ ys) (v ∷ words) fitting h = (local_along o x y v fitting.0 h.0, locals_along o xs ys words fitting.1 h.1)

pub kinds_along : (o : Outline) (s other : TypeState) → is_whole s.stack ≡ true → is_whole other.stack ≡ true → state_fits o s other ≡ true
    → (locals stack : List Value) → FrameHasKinds s locals stack → FrameHasKinds other locals stack
kinds_along o s other whole other_whole fitting locals stack h =
    let under : IsUnder o s other = under-parts o s other fitting whole other_whole in
    record {
      in_locals = locals_along o s.locals other.locals locals under.locals h.in_locals;
      in_stack = stack_along o s.stack other.stack stack under.stack.level h.in_stack;
    }

-- ---- one place of a list

pub local_kind_or : (xs : List Slot) (locals : List Value) (k : ℕ) → LocalsHaveKinds xs locals → LocalHasKind (local_at xs k) (word_at locals k)
local_kind_or [] [] k h = tt
local_kind_or [] (v ∷ locals) k h = absurd h
local_kind_or (x ∷ xs) [] k h = absurd h
local_kind_or (x ∷ xs) (v ∷ locals) zero h = h.0
local_kind_or (x ∷ xs) (v ∷ locals) (suc k) h = local_kind_or xs locals k h.1

-- ---- a local as a word of the stack, and back

pub suited : (r : Reg) (s : Slot) (v : Value) → suits r s ≡ true → LocalHasKind s v → HasKind s v
suited reg.Int slot.Top v is h = absurd (false≢true is)
suited reg.Long slot.Top v is h = absurd (false≢true is)
suited reg.Ref slot.Top v is h = absurd (false≢true is)
suited r s v is h = h

pub as_local : (s : Slot) (v : Value) → HasKind s v → LocalHasKind s v
as_local slot.Top v h = tt
as_local s v h = h

pub int_local : (s : Slot) (v : Value) → is_int s ≡ true → LocalHasKind s v → (n : ℤ) × (v ≡ value.Int n)
int_local slot.Int v is h = h
int_local s v is h = absurd (false≢true is)

pub from_int : (s : Slot) (v : Value) → is_int s ≡ true → (n : ℤ) × (v ≡ value.Int n) → LocalHasKind s v
from_int slot.Int v is h = h
from_int s v is h = absurd (false≢true is)

-- ---- what is taken from the top

taken_more : (o : Outline) (s wanted : Slot) (more stack rest : List Slot) → taken o (wanted ∷ more) (s ∷ stack) ≡ Some rest
    → (fits o s wanted ≡ true) × (taken o more stack ≡ Some rest)
taken_more o s wanted more stack rest is = cond-some_then (fits o s wanted) (taken o more stack) rest is

-- what is left has its kinds
pub taken_rest : (o : Outline) (wanted stack rest : List Slot) (words : List Value) → taken o wanted stack ≡ Some rest → HaveKinds stack words
    → HaveKinds rest (drop (length wanted) words)
taken_rest o wanted stack rest words is h =
    subst (λ xs. HaveKinds xs (drop (length wanted) words)) (taken_drop o wanted stack rest is) (zip-drop HasKind (length wanted) stack words h)

other_words : (o : Outline) (w s : Slot) (v : Value) → fits o s w ≡ true → shape_of w ≡ 2 → HasKind s v → HasKind w v
other_words o w s v f shape h = kind_along o s w v f (other_below o s w f shape ∙ sym shape) h

-- what is taken has the kinds that were wanted, where no long is split
pub taken_words : (o : Outline) (wanted stack rest : List Slot) (words : List Value) → is_whole wanted ≡ true → is_whole stack ≡ true
    → taken o wanted stack ≡ Some rest → HaveKinds stack words → HaveKinds wanted (take (length wanted) words)
taken_words o [] stack rest words w whole is h = tt
taken_words o (slot.Top ∷ []) stack rest words w whole is h = absurd (false≢true w)
taken_words o (x ∷ more) [] rest words w whole is h = absurd (cc)
taken_words o (x ∷ more) (s ∷ stack) rest [] w whole is h = absurd h
taken_words o (slot.Top ∷ slot.Long ∷ more) (s ∷ []) rest (v ∷ words) w whole is h =
    let first = taken_more o s slot.Top (slot.Long ∷ more) [] rest is in absurd (cc)
taken_words o (slot.Top ∷ slot.Long ∷ more) (s ∷ t ∷ stack) rest (v ∷ []) w whole is h = absurd h.1
taken_words o (slot.Top ∷ slot.Long ∷ more) (s ∷ t ∷ stack) rest (v ∷ u ∷ words) w whole is h =
    let first = taken_more o s slot.Top (slot.Long ∷ more) (t ∷ stack) rest is in
    let second = taken_more o t slot.Long more stack rest first.1 in
    let long : t ≡ slot.Long = long_below o t second.0 in
    let parts = whole-long s stack (sym (ap (λ a. is_whole (s ∷ a ∷ stack)) long) ∙ whole) in (
      subst (λ a. HasKind a v) parts.0 h.0,
      (subst (λ a. HasKind a u) long h.1.0, taken_words o more stack rest words w parts.1 second.1 h.1.1),
    )
taken_words o (slot.Top ∷ x ∷ more) (s ∷ stack) rest (v ∷ words) w whole is h = absurd (false≢true w)
taken_words o (slot.Long ∷ more) (s ∷ stack) rest (v ∷ words) w whole is h = absurd (false≢true w)
taken_words o (x ∷ more) (s ∷ stack) rest (v ∷ words) w whole is h =
    let first = taken_more o s x more stack rest is in (
      other_words o x s v first.0 refl h.0,
      taken_words o more stack rest words w (sym (whole-other s stack (other_below o s x first.0 refl)) ∙ whole) first.1 h.1,
    )
