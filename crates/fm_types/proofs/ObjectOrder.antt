-- The rows of new objects, and what fields take, keep the order.
use Rattle.std.proofs.Common.{◌≡◌, refl, sym, ◌∙◌, ap, ℕ, ◌&&◌, ◌||◌, not, Bool, true, false, List, [], ◌∷◌, reverse, nat_eq, Some, None, cond, arith}
use Rattle.std.specs.List.{AllZip, flat_map, list_any}
use Rattle.std.proofs.lemmas.Bool.{eqb-true, false≢true}
use Rattle.std.proofs.lemmas.List.{reverse-append}
use Rattle.fm_base.specs.declared.kinds.Kind.{Kind}
use Rattle.fm_base.specs.declared.kinds.Kind.TheVariants as kind
use Rattle.fm_base.specs.declared.kinds.TypeRef.{TypeRef}
use Rattle.fm_types.proofs.ArrayOrder.{follows-on_type, nothing}
use Rattle.fm_types.proofs.Order.{fits-refl, fits-top, fits-trans}
use Rattle.fm_types.proofs.StateOrder.{Fitting, IsStackUnder, IsUnder, KeepsBelow, on_top, same_top, shape_of, Stands, whole-append}
use Rattle.fm_types.proofs.Zips.{Follows, follows-if, zip-map}
use Rattle.fm_types.specs.Fits.{AreTree, fits}
use Rattle.fm_types.specs.Named.{argument_words, parameters_of}
use Rattle.fm_types.specs.ObjectRows.{has_objects, new_row, takes_field}
use Rattle.fm_types.specs.States.{is_uninit, is_whole, local_slots, replaced, stack_slots, TypeState}
use Rattle.fm_types.specs.declared.slots.Slot.{Slot}
use Rattle.fm_types.specs.declared.slots.Slot.TheVariants as slot
use Rattle.fm_world.specs.Programs.{Outline}
use Rattle.fm_world.specs.declared.uses.Use.{Use}

-- ---- words of kinds

kind-whole : (k : Kind) → is_whole (reverse (local_slots k)) ≡ true
kind-whole kind.Boolean = refl
kind-whole kind.Byte = refl
kind-whole kind.Char = refl
kind-whole kind.Short = refl
kind-whole kind.Int = refl
kind-whole kind.Long = refl
kind-whole (kind.Ref t) = refl

pub stack_slots-whole : (kinds : List Kind) → is_whole (stack_slots kinds) ≡ true
stack_slots-whole [] = refl
stack_slots-whole (k ∷ kinds) =
    ap is_whole (reverse-append (local_slots k) (flat_map local_slots kinds))
    ∙ whole-append (stack_slots kinds) (reverse (local_slots k)) (stack_slots-whole kinds) (kind-whole k)

pub argument_words-whole : (o : Outline) (m : ℕ) → is_whole (argument_words o m) ≡ true
argument_words-whole o m = stack_slots-whole (parameters_of o m)

-- ---- marks of objects that aren't initialised

-- a test that distinguishes one kind of object that isn't initialised from all other slots
pub record IsMark (o : Outline) (test : Slot → Bool) : Type 0 where
  pub below : (a b : Slot) → fits o a b ≡ true → test b ≡ true → test a ≡ true
  pub above : (a b : Slot) → fits o a b ≡ true → test a ≡ true → test b ≡ false → b ≡ slot.Top
  pub other : (a : Slot) → test a ≡ true → shape_of a ≡ 2

-- on level stacks the marks are level too
pub mark-level : (o : Outline) (test : Slot → Bool) → IsMark o test → (a b : Slot) → Stands o a b → test a ≡ test b
mark-level o test mark a b w = by_tests (test a) (test b) refl refl where
  by_tests : (p q : Bool) → test a ≡ p → test b ≡ q → p ≡ q
  by_tests true true e f = refl
  by_tests false false e f = refl
  by_tests false true e f = absurd (false≢true (sym e ∙ mark.below a b w.fitting f))
  by_tests true false e f =
      let top : shape_of b ≡ 0 = ap shape_of (mark.above a b w.fitting e f) in
      let shape = mark.other a e in
      absurd (omega (arith, w.shape, top, shape))

pub any-level : (o : Outline) (test : Slot → Bool) → IsMark o test → (xs ys : List Slot) → AllZip (Stands o) xs ys
    → list_any test xs ≡ list_any test ys
any-level o test mark [] [] h = refl
any-level o test mark [] (y ∷ ys) h = absurd h
any-level o test mark (x ∷ xs) [] h = absurd h
any-level o test mark (x ∷ xs) (y ∷ ys) h =
    ap (λ p. p || list_any test xs) (mark-level o test mark x y h.0) ∙ ap (λ p. test y || p) (any-level o test mark xs ys h.1)

-- marked slots are replaced by one that fits itself
pub replaced-fits : (o : Outline) → AreTree o.classes → (test : Slot → Bool) → IsMark o test → (other : Slot) (xs ys : List Slot)
    → AllZip (Fitting o) xs ys → AllZip (Fitting o) (replaced test other xs) (replaced test other ys)
replaced-fits o tree test mark other xs ys h =
    zip-map (Fitting o) (Fitting o) (λ s. cond (test s) other s) (λ s. cond (test s) other s)
    (λ a b fitting. by_tests a b fitting (test a) (test b) refl refl) xs ys h where
      by_tests : (a b : Slot) → fits o a b ≡ true → (p q : Bool) → test a ≡ p → test b ≡ q → fits o (cond p other a) (cond q other b) ≡ true
      by_tests a b fitting true true e f = fits-refl o tree other
      by_tests a b fitting true false e f = ap (fits o other) (mark.above a b fitting e f) ∙ fits-top o other
      by_tests a b fitting false true e f = absurd (false≢true (sym e ∙ mark.below a b fitting f))
      by_tests a b fitting false false e f = fitting

pub uninit_mark : (o : Outline) (item : ℕ) → IsMark o (is_uninit item)
unfolding fits
uninit_mark o item = record { below = below; above = above; other = other } where
  below : (a b : Slot) → fits o a b ≡ true → is_uninit item b ≡ true → is_uninit item a ≡ true
  below (slot.Uninit i) (slot.Uninit j) h e = ap (nat_eq item) (eqb-true i j h) ∙ e
  below a (slot.Uninit j) h e = absurd (false≢true h)
  below a b h e = absurd (false≢true e)

  above : (a b : Slot) → fits o a b ≡ true → is_uninit item a ≡ true → is_uninit item b ≡ false → b ≡ slot.Top
  above (slot.Uninit i) (slot.Uninit j) h e f = absurd (false≢true (sym f ∙ ap (nat_eq item) (sym (eqb-true i j h)) ∙ e))
  above (slot.Uninit i) slot.Top h e f = refl
  above (slot.Uninit i) b h e f = absurd (false≢true h)
  above a b h e f = absurd (false≢true e)

  other : (a : Slot) → is_uninit item a ≡ true → shape_of a ≡ 2
  other (slot.Uninit i) e = refl
  other a e = absurd (false≢true e)

-- ---- new objects

pub new_row-under : (o : Outline) → AreTree o.classes → (item : ℕ) (u : Use) (s t : TypeState) → IsUnder o s t
    → Follows (IsUnder o) (new_row o item u s) (new_row o item u t)
unfolding new_row
new_row-under o tree item u s t h =
    follows-on_type (IsUnder o) o u _ _
    (λ named. follows-if (IsUnder o) (nat_eq named.dims 0 && has_objects o.classes named.base && not (list_any (is_uninit item) s.stack))
    (nat_eq named.dims 0 && has_objects o.classes named.base && not (list_any (is_uninit item) t.stack)) _ _
    (λ e. ap (λ p. nat_eq named.dims 0 && has_objects o.classes named.base && not p) none ∙ e)
    (λ e. record {
      locals = replaced-fits o tree (is_uninit item) (uninit_mark o item) slot.Top s.locals t.locals h.locals;
      stack = on_top o (slot.Uninit item ∷ []) (slot.Uninit item ∷ []) s.stack t.stack (same_top o tree (slot.Uninit item ∷ []) refl) h.stack;
      built = h.built;
    })) where
      none : list_any (is_uninit item) s.stack ≡ list_any (is_uninit item) t.stack
      none = any-level o (is_uninit item) (uninit_mark o item) s.stack t.stack h.stack.level

-- ---- fields

-- where the receiver passes, it is taken and nothing is given
no_words : (o : Outline) (p q : Bool) → (q ≡ true → p ≡ true) → Follows (IsStackUnder o) (cond p (Some []) None) (cond q (Some []) None)
no_words o p q passes = follows-if (IsStackUnder o) p q (Some []) (Some []) passes (λ e. nothing o)

pub takes_field-keeps : (o : Outline) → AreTree o.classes → (method field : ℕ) (named : TypeRef) → KeepsBelow o (takes_field o method field named)
unfolding fits
takes_field-keeps o tree method field named = record { follows = λ a b w. follows a b w.fitting; other = other } where
  beneath : (a b : Slot) → fits o a b ≡ true → fits o b (slot.Ref named) ≡ true → fits o a (slot.Ref named) ≡ true
  beneath a b h e = fits-trans o tree a b (slot.Ref named) h e

  follows : (a b : Slot) → fits o a b ≡ true → Follows (IsStackUnder o) (takes_field o method field named a) (takes_field o method field named b)
  follows slot.UninitThis slot.UninitThis h = no_words o _ _ (λ e. e)
  follows a slot.Top h = tt
  follows a slot.UninitThis h = absurd (false≢true h)
  follows slot.UninitThis b h = absurd (false≢true h)
  follows a b h = no_words o (fits o a (slot.Ref named)) (fits o b (slot.Ref named)) (beneath a b h)

  other : (b : Slot) (slots : List Slot) → takes_field o method field named b ≡ Some slots → shape_of b ≡ 2
  other slot.Top slots e = cc
  other slot.Long slots e = cc
  other b slots e = refl
