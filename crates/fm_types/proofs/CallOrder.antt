-- Calls of constructors keep the order.
use Rattle.std.proofs.Common.{◌≡◌, refl, sym, ◌∙◌, ap, subst, ℕ, Bool, true, false, List, [], ◌∷◌, ◌++◌, Option, Some, None, cond}
use Rattle.std.specs.List.{AllZip}
use Rattle.std.proofs.lemmas.Bool.{eqb-true, false≢true}
use Rattle.fm_base.specs.declared.kinds.Kind.{Kind}
use Rattle.fm_base.specs.declared.kinds.TypeRef.{TypeRef}
use Rattle.fm_code.specs.declared.operations.Reg.{Reg}
use Rattle.fm_types.proofs.ObjectOrder.{argument_words-whole, IsMark, mark-level, replaced-fits, uninit_mark}
use Rattle.fm_types.proofs.Order.{fits-refl}
use Rattle.fm_types.proofs.StateOrder.{IsShaped, IsStackUnder, IsUnder, shape_of, Stands, taken-under, whole-append, whole-other, whole-shaped, with_stack}
use Rattle.fm_types.proofs.Zips.{Follows, follows-if, follows-then, zip-map}
use Rattle.fm_types.specs.CallRows.{constructed, constructor_called, initialised, is_type, names_own_or_parent, returned_by, same_reg}
use Rattle.fm_types.specs.Fits.{AreTree, fits}
use Rattle.fm_types.specs.Named.{argument_words, class_of_method, this_class}
use Rattle.fm_types.specs.States.{is_uninit, is_uninit_this, is_whole, replaced, stack_slots, taken, TypeState, worked}
use Rattle.fm_types.specs.declared.slots.Slot.{Slot}
use Rattle.fm_types.specs.declared.slots.Slot.TheVariants as slot
use Rattle.fm_world.specs.Numbers.{type_of_class}
use Rattle.fm_world.specs.Programs.{Outline}

-- ---- calls of methods

-- the arguments, and below them a reference, are whole
pub called-whole : (o : Outline) (m : ℕ) (named : TypeRef) → is_whole (argument_words o m ++ slot.Ref named ∷ []) ≡ true
called-whole o m named = whole-append (argument_words o m) (slot.Ref named ∷ []) (argument_words-whole o m) refl

-- ---- objects that are initialised

this_mark : (o : Outline) → IsMark o is_uninit_this
unfolding fits
this_mark o = record { below = below; above = above; other = other } where
  below : (a b : Slot) → fits o a b ≡ true → is_uninit_this b ≡ true → is_uninit_this a ≡ true
  below slot.UninitThis slot.UninitThis h e = refl
  below a slot.UninitThis h e = absurd (false≢true h)
  below a b h e = absurd (false≢true e)

  above : (a b : Slot) → fits o a b ≡ true → is_uninit_this a ≡ true → is_uninit_this b ≡ false → b ≡ slot.Top
  above slot.UninitThis slot.UninitThis h e f = absurd (false≢true (sym f))
  above slot.UninitThis slot.Top h e f = refl
  above slot.UninitThis b h e f = absurd (false≢true h)
  above a b h e f = absurd (false≢true e)

  other : (a : Slot) → is_uninit_this a ≡ true → shape_of a ≡ 2
  other slot.UninitThis e = refl
  other a e = absurd (false≢true e)

-- a marked slot becomes a reference: on level stacks in the same places
replaced-level : (o : Outline) → AreTree o.classes → (test : Slot → Bool) → IsMark o test → (t : TypeRef) (xs ys : List Slot)
    → AllZip (Stands o) xs ys → AllZip (Stands o) (replaced test (slot.Ref t) xs) (replaced test (slot.Ref t) ys)
replaced-level o tree test mark t xs ys h =
    zip-map (Stands o) (Stands o) (λ s. cond (test s) (slot.Ref t) s) (λ s. cond (test s) (slot.Ref t) s)
    (λ a b w. by_tests a b w (test a) (test b) (mark-level o test mark a b w)) xs ys h where
      by_tests : (a b : Slot) → Stands o a b → (p q : Bool) → p ≡ q → Stands o (cond p (slot.Ref t) a) (cond q (slot.Ref t) b)
      by_tests a b w true true e = record { fitting = fits-refl o tree (slot.Ref t); shape = refl }
      by_tests a b w true false e = absurd (false≢true (sym e))
      by_tests a b w false true e = absurd (false≢true e)
      by_tests a b w false false e = w

-- and longs stay as they are
replaced-whole : (o : Outline) (test : Slot → Bool) → IsMark o test → (t : TypeRef) (xs : List Slot) → is_whole xs ≡ true
    → is_whole (replaced test (slot.Ref t) xs) ≡ true
replaced-whole o test mark t xs whole =
    whole-shaped (replaced test (slot.Ref t) xs) xs (shaped xs) whole where
      by_test : (a : Slot) (p : Bool) → test a ≡ p → shape_of (cond p (slot.Ref t) a) ≡ shape_of a
      by_test a true e = sym (mark.other a e)
      by_test a false e = refl

      shaped : (ys : List Slot) → AllZip IsShaped (replaced test (slot.Ref t) ys) ys
      shaped [] = tt
      shaped (y ∷ ys) = (by_test y (test y) refl, shaped ys)

initialised-under : (o : Outline) → AreTree o.classes → (test : Slot → Bool) → IsMark o test → (named : TypeRef) (s t : TypeState) → IsUnder o s t
    → IsUnder o (initialised test named s) (initialised test named t)
initialised-under o tree test mark named s t h = record {
  locals = replaced-fits o tree test mark (slot.Ref named) s.locals t.locals h.locals;
  stack = record {
    level = replaced-level o tree test mark named s.stack t.stack h.stack.level;
    whole = replaced-whole o test mark named t.stack h.stack.whole;
  };
  built = h.built;
}

-- ---- calls of constructors

-- what isn't initialised is met by itself alone
same_uninit : (o : Outline) (a : Slot) (item : ℕ) → fits o a (slot.Uninit item) ≡ true → a ≡ slot.Uninit item
unfolding fits
same_uninit o (slot.Uninit i) item h = ap (λ n. slot.Uninit n) (eqb-true i item h)
same_uninit o a item h = absurd (false≢true h)

same_this : (o : Outline) (a : Slot) → fits o a slot.UninitThis ≡ true → a ≡ slot.UninitThis
unfolding fits
same_this o slot.UninitThis h = refl
same_this o a h = absurd (false≢true h)

-- the receiver, and what is below it
receiver-under : (o : Outline) → AreTree o.classes → (method : ℕ) (news : ℕ → Option TypeRef) (named : TypeRef) (x y : Slot) (s t : TypeState)
    → fits o x y ≡ true → (shape_of y ≡ 2 → IsUnder o s t)
    → Follows (IsUnder o) (constructed o method news named x s) (constructed o method news named y t)
receiver-under o tree method news named x slot.Top s t f h = tt
receiver-under o tree method news named x slot.Int s t f h = tt
receiver-under o tree method news named x slot.Long s t f h = tt
receiver-under o tree method news named x slot.Null s t f h = tt
receiver-under o tree method news named x (slot.Ref r) s t f h = tt
receiver-under o tree method news named x (slot.Uninit item) s t f h =
    let P : Slot → Type 0 = λ receiver. Follows (IsUnder o) (constructed o method news named receiver s)
    (constructed o method news named (slot.Uninit item) t) in
    subst P (sym (same_uninit o x item f))
    (follows-if (IsUnder o) (is_type named (news item)) (is_type named (news item)) _ _ (λ e. e)
    (λ e. initialised-under o tree (is_uninit item) (uninit_mark o item) named s t (h refl)))
receiver-under o tree method news named x slot.UninitThis s t f h =
    let P : Slot → Type 0 = λ receiver. Follows (IsUnder o) (constructed o method news named receiver s)
    (constructed o method news named slot.UninitThis t) in
    subst P (sym (same_this o x f))
    (follows-if (IsUnder o) (names_own_or_parent o (class_of_method o method) named) (names_own_or_parent o (class_of_method o method) named) _ _ (λ e. e)
    (λ e. built (initialised-under o tree is_uninit_this (this_mark o) (type_of_class own) s t (h refl)))) where
      own : ℕ
      own = this_class o method

      built : IsUnder o (initialised is_uninit_this (type_of_class own) s) (initialised is_uninit_this (type_of_class own) t)
          → IsUnder o (record (initialised is_uninit_this (type_of_class own) s) { built = true })
          (record (initialised is_uninit_this (type_of_class own) t) { built = true })
      built w = record { locals = w.locals; stack = w.stack; built = λ e. refl }

-- the rest of the row, once the arguments are taken
abbrev pub after_arguments : Outline → ℕ → (ℕ → Option TypeRef) → TypeRef → TypeState → List Slot → Option TypeState
after_arguments o method news named s [] = None
after_arguments o method news named s (receiver ∷ stack) = constructed o method news named receiver (record s { stack = stack })

after_arguments-under : (o : Outline) → AreTree o.classes → (method : ℕ) (news : ℕ → Option TypeRef) (named : TypeRef) (s t : TypeState)
    → IsUnder o s t
    → (a b : List Slot) → IsStackUnder o a b
    → Follows (IsUnder o) (after_arguments o method news named s a) (after_arguments o method news named t b)
after_arguments-under o tree method news named s t h a [] w = tt
after_arguments-under o tree method news named s t h [] (y ∷ bs) w = absurd w.level
after_arguments-under o tree method news named s t h (x ∷ as_) (y ∷ bs) w =
    receiver-under o tree method news named x y (record s { stack = as_ }) (record t { stack = bs }) w.level.0.fitting
    (λ shape. with_stack o s t as_ bs h (record { level = w.level.1; whole = sym (whole-other y bs shape) ∙ w.whole }))

pub constructor_called-under : (o : Outline) → AreTree o.classes → (method : ℕ) (news : ℕ → Option TypeRef) (m : ℕ) (named : TypeRef) (s t : TypeState)
    → IsUnder o s t
    → Follows (IsUnder o) (constructor_called o method news m named s) (constructor_called o method news m named t)
constructor_called-under o tree method news m named s t h =
    follows-then (IsStackUnder o) (IsUnder o) (after_arguments o method news named s) (after_arguments o method news named t)
    (taken o (argument_words o m) s.stack) (taken o (argument_words o m) t.stack)
    (taken-under o tree (argument_words o m) s.stack t.stack (argument_words-whole o m) h.stack)
    (after_arguments-under o tree method news named s t h)

-- ---- returns

-- the row of a result that is known
abbrev pub return_by : Outline → TypeState → Option Reg → Option Kind → Option TypeState
return_by o s None None = cond s.built (Some s) None
return_by o s None (Some k) = None
return_by o s (Some r) None = None
return_by o s (Some r) (Some k) = cond (same_reg r (returned_by k)) (worked o (stack_slots (k ∷ [])) [] s) None
