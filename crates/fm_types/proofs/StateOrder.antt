-- One state under another: each slot fits, and the longs of their stacks are level. What is taken and put on top keeps that.
use Rattle.std.proofs.Common.{◌≡◌, refl, sym, ◌∙◌, ap, ℕ, ◌&&◌, ◌||◌, not, Bool, true, false, List, [], ◌∷◌, ◌++◌, Option, Some, None, arith}
use Rattle.std.specs.List.{AllZip}
use Rattle.std.specs.Option.{option_map}
use Rattle.std.proofs.lemmas.Bool.{and_from, and_parts, false≢true}
use Rattle.fm_types.proofs.Order.{fits-refl, fits-trans}
use Rattle.fm_types.proofs.Zips.{Follows, follows-if, follows-map, follows-map_found, follows-then, zip-append, zip-implied, zip-refl}
use Rattle.fm_types.specs.Fits.{AreTree, fits}
use Rattle.fm_types.specs.States.{all_fit, is_whole, state_fits, taken, TypeState, worked, worked_below}
use Rattle.fm_types.specs.declared.slots.Slot.{Slot}
use Rattle.fm_types.specs.declared.slots.Slot.TheVariants as slot
use Rattle.fm_world.specs.Programs.{Outline}

-- ---- what a slot is to a long

-- Top, a long, or any other
abbrev pub shape_of : Slot → ℕ
shape_of slot.Top = 0
shape_of slot.Int = 2
shape_of slot.Long = 1
shape_of slot.Null = 2
shape_of (slot.Ref t) = 2
shape_of (slot.Uninit item) = 2
shape_of slot.UninitThis = 2

abbrev pub Fitting : Outline → Slot → Slot → Type 0
Fitting o a b = fits o a b ≡ true

pub record Stands (o : Outline) (a b : Slot) : Type 0 where
  pub fitting : fits o a b ≡ true
  pub shape : shape_of a ≡ shape_of b

pub stands-refl : (o : Outline) → AreTree o.classes → (a : Slot) → Stands o a a
stands-refl o tree a = record { fitting = fits-refl o tree a; shape = refl }

pub other_below : (o : Outline) (a b : Slot) → fits o a b ≡ true → shape_of b ≡ 2 → shape_of a ≡ 2
unfolding fits
other_below o a slot.Top h e = absurd (omega (arith, e))
other_below o slot.Int slot.Int h e = refl
other_below o slot.Long slot.Long h e = absurd (omega (arith, e))
other_below o slot.Null slot.Null h e = refl
other_below o slot.Null (slot.Ref t) h e = refl
other_below o (slot.Ref s) (slot.Ref t) h e = refl
other_below o (slot.Uninit i) (slot.Uninit j) h e = refl
other_below o slot.UninitThis slot.UninitThis h e = refl
other_below o a b h e = absurd (false≢true h)

pub long_below : (o : Outline) (a : Slot) → fits o a slot.Long ≡ true → a ≡ slot.Long
unfolding fits
long_below o slot.Long h = refl
long_below o a h = absurd (false≢true h)

pub top_above : (o : Outline) (b : Slot) → fits o slot.Top b ≡ true → b ≡ slot.Top
unfolding fits
top_above o slot.Top h = refl
top_above o b h = absurd (false≢true h)

pub shape-top : (a : Slot) → shape_of a ≡ 0 → a ≡ slot.Top
shape-top slot.Top h = refl
shape-top a h = absurd (omega (arith, h))

shape-long : (a : Slot) → shape_of a ≡ 1 → a ≡ slot.Long
shape-long slot.Long h = refl
shape-long a h = absurd (omega (arith, h))

-- ---- whole stacks

pub whole-other : (a : Slot) (xs : List Slot) → shape_of a ≡ 2 → is_whole (a ∷ xs) ≡ is_whole xs
whole-other slot.Top xs h = absurd (omega (arith, h))
whole-other slot.Long xs h = absurd (omega (arith, h))
whole-other a xs h = refl

pub whole-long : (a : Slot) (xs : List Slot) → is_whole (a ∷ slot.Long ∷ xs) ≡ true → (a ≡ slot.Top) × (is_whole xs ≡ true)
whole-long slot.Top xs h = (refl, h)
whole-long a xs h = absurd (false≢true h)

pub whole-append : (xs ys : List Slot) → is_whole xs ≡ true → is_whole ys ≡ true → is_whole (xs ++ ys) ≡ true
whole-append [] ys h rest = rest
whole-append (slot.Top ∷ []) ys h rest = absurd (false≢true h)
whole-append (slot.Top ∷ slot.Long ∷ xs) ys h rest = whole-append xs ys h rest
whole-append (slot.Top ∷ x ∷ xs) ys h rest = absurd (false≢true h)
whole-append (slot.Long ∷ xs) ys h rest = absurd (false≢true h)
whole-append (x ∷ xs) ys h rest = whole-append xs ys h rest

abbrev pub IsShaped : Slot → Slot → Type 0
IsShaped a b = shape_of a ≡ shape_of b

-- stacks of the same longs are whole alike
pub whole-shaped : (xs ys : List Slot) → AllZip IsShaped xs ys → is_whole ys ≡ true → is_whole xs ≡ true
whole-shaped [] [] h whole = refl
whole-shaped [] (y ∷ ys) h whole = absurd h
whole-shaped (x ∷ xs) [] h whole = absurd h
whole-shaped (x ∷ xs) (slot.Top ∷ []) h whole = absurd (false≢true whole)
whole-shaped (x ∷ []) (slot.Top ∷ slot.Long ∷ ys) h whole = absurd h.1
whole-shaped (x ∷ z ∷ xs) (slot.Top ∷ slot.Long ∷ ys) h whole =
    let top : x ≡ slot.Top = shape-top x h.0 in
    let long : z ≡ slot.Long = shape-long z h.1.0 in
    ap (λ a. is_whole (a ∷ z ∷ xs)) top ∙ ap (λ a. is_whole (slot.Top ∷ a ∷ xs)) long ∙ whole-shaped xs ys h.1.1 whole
whole-shaped (x ∷ xs) (slot.Top ∷ y ∷ ys) h whole = absurd (false≢true whole)
whole-shaped (x ∷ xs) (slot.Long ∷ ys) h whole = absurd (false≢true whole)
whole-shaped (x ∷ xs) (y ∷ ys) h whole = whole-other x xs h.0 ∙ whole-shaped xs ys h.1 whole

pub whole-level : (o : Outline) (xs ys : List Slot) → AllZip (Stands o) xs ys → is_whole ys ≡ true → is_whole xs ≡ true
whole-level o xs ys h whole =
    whole-shaped xs ys (zip-implied (Stands o) IsShaped (λ x y (w : Stands o x y). w.shape) xs ys h) whole

-- of two whole stacks that fit the longs are level
pub level-whole : (o : Outline) (xs ys : List Slot) → AllZip (Fitting o) xs ys → is_whole xs ≡ true → is_whole ys ≡ true → AllZip (Stands o) xs ys
level-whole o [] [] h first second = tt
level-whole o [] (y ∷ ys) h first second = absurd h
level-whole o (x ∷ xs) [] h first second = absurd h
level-whole o (x ∷ xs) (slot.Top ∷ []) h first second = absurd (false≢true second)
level-whole o (x ∷ []) (slot.Top ∷ slot.Long ∷ ys) h first second = absurd h.1
level-whole o (x ∷ z ∷ xs) (slot.Top ∷ slot.Long ∷ ys) h first second =
    let long : z ≡ slot.Long = long_below o z h.1.0 in
    let parts : (x ≡ slot.Top) × (is_whole xs ≡ true) = whole-long x xs (sym (ap (λ a. is_whole (x ∷ a ∷ xs)) long) ∙ first) in (
      record { fitting = h.0; shape = ap shape_of parts.0 },
      (record { fitting = h.1.0; shape = ap shape_of long }, level-whole o xs ys h.1.1 parts.1 second),
    )
level-whole o (x ∷ xs) (slot.Top ∷ y ∷ ys) h first second = absurd (false≢true second)
level-whole o (x ∷ xs) (slot.Long ∷ ys) h first second = absurd (false≢true second)
level-whole o (x ∷ xs) (y ∷ ys) h first second =
    let shape : shape_of x ≡ 2 = other_below o x y h.0 refl in
    (record { fitting = h.0; shape = shape }, level-whole o xs ys h.1 (sym (whole-other x xs shape) ∙ first) second)

-- ---- states

pub record IsStackUnder (o : Outline) (a b : List Slot) : Type 0 where
  pub level : AllZip (Stands o) a b
  pub whole : is_whole b ≡ true

pub record IsUnder (o : Outline) (s t : TypeState) : Type 0 where
  pub locals : AllZip (Fitting o) s.locals t.locals
  pub stack : IsStackUnder o s.stack t.stack
  pub built : t.built ≡ true → s.built ≡ true

pub all_fit-parts : (o : Outline) (xs ys : List Slot) → all_fit o xs ys ≡ true → AllZip (Fitting o) xs ys
all_fit-parts o [] [] h = tt
all_fit-parts o [] (y ∷ ys) h = absurd (false≢true h)
all_fit-parts o (x ∷ xs) [] h = absurd (false≢true h)
all_fit-parts o (x ∷ xs) (y ∷ ys) h =
    let parts = and_parts (fits o x y) (all_fit o xs ys) h in
    (parts.0, all_fit-parts o xs ys parts.1)

pub all_fit-from : (o : Outline) (xs ys : List Slot) → AllZip (Fitting o) xs ys → all_fit o xs ys ≡ true
all_fit-from o [] [] h = refl
all_fit-from o [] (y ∷ ys) h = absurd h
all_fit-from o (x ∷ xs) [] h = absurd h
all_fit-from o (x ∷ xs) (y ∷ ys) h = and_from (fits o x y) (all_fit o xs ys) h.0 (all_fit-from o xs ys h.1)

built-parts : (a b : Bool) → (a || not b) ≡ true → b ≡ true → a ≡ true
built-parts true b h e = refl
built-parts false true h e = absurd (false≢true h)
built-parts false false h e = absurd (false≢true e)

built-from : (a b : Bool) → (b ≡ true → a ≡ true) → (a || not b) ≡ true
built-from true b h = refl
built-from false true h = absurd (false≢true (h refl))
built-from false false h = refl

pub under-parts : (o : Outline) (s t : TypeState) → state_fits o s t ≡ true → is_whole s.stack ≡ true → is_whole t.stack ≡ true → IsUnder o s t
unfolding state_fits
under-parts o s t h first second =
    let outer = and_parts (all_fit o s.locals t.locals && all_fit o s.stack t.stack) (s.built || not t.built) h in
    let inner = and_parts (all_fit o s.locals t.locals) (all_fit o s.stack t.stack) outer.0 in
    record {
      locals = all_fit-parts o s.locals t.locals inner.0;
      stack = record { level = level-whole o s.stack t.stack (all_fit-parts o s.stack t.stack inner.1) first second; whole = second };
      built = built-parts s.built t.built outer.1;
    }

pub under-fits : (o : Outline) (s t : TypeState) → IsUnder o s t → state_fits o s t ≡ true
unfolding state_fits
under-fits o s t h =
    let stacks : AllZip (Fitting o) s.stack t.stack =
    zip-implied (Stands o) (Fitting o) (λ x y (w : Stands o x y). w.fitting) s.stack t.stack h.stack.level in
    and_from (all_fit o s.locals t.locals && all_fit o s.stack t.stack) (s.built || not t.built)
    (and_from (all_fit o s.locals t.locals) (all_fit o s.stack t.stack) (all_fit-from o s.locals t.locals h.locals)
    (all_fit-from o s.stack t.stack stacks))
    (built-from s.built t.built h.built)

pub under-refl : (o : Outline) → AreTree o.classes → (s : TypeState) → is_whole s.stack ≡ true → IsUnder o s s
under-refl o tree s whole = record {
  locals = zip-refl (Fitting o) (fits-refl o tree) s.locals;
  stack = record { level = zip-refl (Stands o) (stands-refl o tree) s.stack; whole = whole };
  built = (λ e. e);
}

-- ---- what is taken from the top

-- one more slot is taken from both
taken_one : (o : Outline) → AreTree o.classes → (wanted : Slot) (more : List Slot) (x y : Slot) (xs ys : List Slot) → Stands o x y
    → (fits o y wanted ≡ true → Follows (IsStackUnder o) (taken o more xs) (taken o more ys))
    → Follows (IsStackUnder o) (taken o (wanted ∷ more) (x ∷ xs)) (taken o (wanted ∷ more) (y ∷ ys))
taken_one o tree wanted more x y xs ys stands rest =
    follows-if (IsStackUnder o) (fits o x wanted) (fits o y wanted) (taken o more xs) (taken o more ys)
    (λ e. fits-trans o tree x y wanted stands.fitting e) rest

pub taken-under : (o : Outline) → AreTree o.classes → (wanted a b : List Slot) → is_whole wanted ≡ true → IsStackUnder o a b
    → Follows (IsStackUnder o) (taken o wanted a) (taken o wanted b)
taken-under o tree [] a b w h = h
taken-under o tree (x ∷ more) a [] w h = tt
taken-under o tree (x ∷ more) [] (b ∷ bs) w h = absurd h.level
taken-under o tree (slot.Top ∷ []) (a ∷ as_) (b ∷ bs) w h = absurd (false≢true w)
taken-under o tree (slot.Top ∷ slot.Long ∷ more) (a ∷ []) (b ∷ []) w h =
    taken_one o tree slot.Top (slot.Long ∷ more) a b [] [] h.level.0 (λ e. tt)
taken-under o tree (slot.Top ∷ slot.Long ∷ more) (a ∷ []) (b ∷ c ∷ bs) w h = absurd h.level.1
taken-under o tree (slot.Top ∷ slot.Long ∷ more) (a ∷ d ∷ as_) (b ∷ []) w h = absurd h.level.1
taken-under o tree (slot.Top ∷ slot.Long ∷ more) (a ∷ d ∷ as_) (b ∷ c ∷ bs) w h =
    taken_one o tree slot.Top (slot.Long ∷ more) a b (d ∷ as_) (c ∷ bs) h.level.0
    (λ e. taken_one o tree slot.Long more d c as_ bs h.level.1.0
    (λ f. taken-under o tree more as_ bs w (record {
      level = h.level.1.1;
      whole = (whole-long b bs (sym (ap (λ s. is_whole (b ∷ s ∷ bs)) (long_below o c f)) ∙ h.whole)).1;
    })))
taken-under o tree (slot.Top ∷ x ∷ more) (a ∷ as_) (b ∷ bs) w h = absurd (false≢true w)
taken-under o tree (slot.Long ∷ more) (a ∷ as_) (b ∷ bs) w h = absurd (false≢true w)
taken-under o tree (x ∷ more) (a ∷ as_) (b ∷ bs) w h =
    taken_one o tree x more a b as_ bs h.level.0
    (λ e. taken-under o tree more as_ bs w (record {
      level = h.level.1;
      whole = sym (whole-other b bs (other_below o b x e refl)) ∙ h.whole;
    }))

-- ---- what is put on top

pub on_top : (o : Outline) (x y a b : List Slot) → IsStackUnder o x y → IsStackUnder o a b → IsStackUnder o (x ++ a) (y ++ b)
on_top o x y a b top h =
    record { level = zip-append (Stands o) x y a b top.level h.level; whole = whole-append y b top.whole h.whole }

pub same_top : (o : Outline) → AreTree o.classes → (given : List Slot) → is_whole given ≡ true → IsStackUnder o given given
same_top o tree given whole = record { level = zip-refl (Stands o) (stands-refl o tree) given; whole = whole }

pub with_stack : (o : Outline) (s t : TypeState) (a b : List Slot) → IsUnder o s t → IsStackUnder o a b
    → IsUnder o (record s { stack = a }) (record t { stack = b })
with_stack o s t a b h stack = record { locals = h.locals; stack = stack; built = h.built }

pub pushed-under : (o : Outline) → AreTree o.classes → (given : List Slot) (s t : TypeState) → is_whole given ≡ true → IsUnder o s t
    → IsUnder o (record s { stack = given ++ s.stack }) (record t { stack = given ++ t.stack })
pushed-under o tree given s t whole h =
    with_stack o s t (given ++ s.stack) (given ++ t.stack) h (on_top o given given s.stack t.stack (same_top o tree given whole) h.stack)

pub worked-under : (o : Outline) → AreTree o.classes → (wanted given : List Slot) (s t : TypeState) → is_whole wanted ≡ true
    → is_whole given ≡ true → IsUnder o s t
    → Follows (IsUnder o) (worked o wanted given s) (worked o wanted given t)
worked-under o tree wanted given s t first second h =
    follows-map (IsStackUnder o) (IsUnder o) (λ stack. record s { stack = given ++ stack }) (λ stack. record t { stack = given ++ stack })
    (taken o wanted s.stack) (taken o wanted t.stack) (taken-under o tree wanted s.stack t.stack first h.stack)
    (λ a b rest. with_stack o s t (given ++ a) (given ++ b) h (on_top o given given a b (same_top o tree given second) rest))

-- what a slot gives keeps the order, and is given for a slot that is no part of a long
pub record KeepsBelow (o : Outline) (given : Slot → Option (List Slot)) : Type 0 where
  pub follows : (a b : Slot) → Stands o a b → Follows (IsStackUnder o) (given a) (given b)
  pub other : (b : Slot) (slots : List Slot) → given b ≡ Some slots → shape_of b ≡ 2

-- the state where what a slot gives is put in its place
abbrev pub from_below : (Slot → Option (List Slot)) → TypeState → List Slot → Option TypeState
from_below given s [] = None
from_below given s (below ∷ stack) = option_map (λ slots. record s { stack = slots ++ stack }) (given below)

from_below-under : (o : Outline) (given : Slot → Option (List Slot)) (s t : TypeState) → KeepsBelow o given → IsUnder o s t
    → (a b : List Slot) → IsStackUnder o a b
    → Follows (IsUnder o) (from_below given s a) (from_below given t b)
from_below-under o given s t keeps h a [] rest = tt
from_below-under o given s t keeps h [] (y ∷ bs) rest = absurd rest.level
from_below-under o given s t keeps h (x ∷ as_) (y ∷ bs) rest =
    follows-map_found (IsStackUnder o) (IsUnder o) _ _ (given x) (given y) (keeps.follows x y rest.level.0)
    (λ us vs e top. with_stack o s t (us ++ as_) (vs ++ bs) h
    (on_top o us vs as_ bs top
    (record { level = rest.level.1; whole = sym (whole-other y bs (keeps.other y vs e)) ∙ rest.whole })))

-- what is put on top follows from the slot below what is taken
pub worked_below-under : (o : Outline) → AreTree o.classes → (wanted : List Slot) (given : Slot → Option (List Slot)) (s t : TypeState)
    → is_whole wanted ≡ true → KeepsBelow o given → IsUnder o s t
    → Follows (IsUnder o) (worked_below o wanted given s) (worked_below o wanted given t)
worked_below-under o tree wanted given s t whole keeps h =
    follows-then (IsStackUnder o) (IsUnder o) (from_below given s) (from_below given t) (taken o wanted s.stack) (taken o wanted t.stack)
    (taken-under o tree wanted s.stack t.stack whole h.stack) (from_below-under o given s t keeps h)
