-- What the rows of calls use of lists, of words that are counted and of slots that ask the same in each method.
use Rattle.std.proofs.Common.{◌≡◌, ℕ, zero, suc, ◌+◌, not, cond, Bool, true, false, List, [], ◌∷◌, ◌++◌, length, reverse, take, Option, Some, None, refl, sym, ◌∙◌, ap, subst, slice_get, arith}
use Rattle.std.specs.List.{AllByRecursion, AllZip, flat_map}
use Rattle.std.proofs.lemmas.Bool.{false≢true}
use Rattle.std.proofs.lemmas.List.{reverse-append}
use Rattle.std.proofs.lemmas.Option.{same_Some}
use Rattle.fm_base.proofs.ListFacts.{AllByRecursion-append}
use Rattle.fm_base.proofs.OptionFacts.{cond-some_then, option_and_then-some}
use Rattle.fm_base.specs.declared.ids.MethodId.{MethodId}
use Rattle.fm_base.specs.declared.ids.TypeId.{TypeId}
use Rattle.fm_base.specs.declared.kinds.Kind.{Kind}
use Rattle.fm_base.specs.declared.kinds.Kind.TheVariants as kind
use Rattle.fm_base.specs.declared.kinds.TypeRef.{TypeRef}
use Rattle.fm_cells.specs.Stores.{Store}
use Rattle.fm_types.specs.Fits.{fits}
use Rattle.fm_types.specs.Named as typed
use Rattle.fm_types.specs.States.{local_slots, taken, TypeState}
use Rattle.fm_types.specs.declared.slots.Slot.{Slot}
use Rattle.fm_types.proofs.Zips.{zip-append}
use Rattle.fm_world.specs.Programs.{Outline}
use Rattle.fm_world.specs.declared.uses.Use.{Use}
use Rattle.fm_world.specs.declared.uses.Use.TheVariants as resolved
use Rattle.fm_frames.specs.Effects.{Effect}
use Rattle.fm_frames.specs.Natives.{has_receiver}
use Rattle.fm_frames.specs.declared.natives.Native.{Native}
use Rattle.fm_frames.specs.declared.natives.Native.TheVariants.{FreeMeFree, FreeMeFreeChain, FreeMeLink}
use Rattle.fm_frames.specs.States.{word_at}
use Rattle.fm_frames.specs.Uses.{by_type, on_method}
use Rattle.fm_frames.specs.declared.values.Value.{Value}
use Rattle.fm_same.specs.Covering.{is_free_me}
use Rattle.fm_law_no_fault.proofs.ReturnsKeep.{IsAnyones}

-- ---- what an instruction names

pub by_row_method : (P : Effect → Type 0) (o : Outline) (u : Use) (follows : ℕ → TypeRef → Option TypeState) (after : TypeState)
    → typed.on_method o u follows ≡ Some after → (k : ℕ → TypeRef → Effect)
    → ((m : MethodId) (n : TypeId) (t : TypeRef) → u ≡ resolved.OfMethod m n → slice_get o.types n.0 ≡ Some t → follows m.0 t ≡ Some after → P (k m.0 t))
    → P (on_method o u k)
by_row_method P o (resolved.OfMethod m n) follows after row k each =
    let parts = option_and_then-some (follows m.0) (slice_get o.types n.0) after row in
    subst (λ found. P (by_type found (k m.0))) (sym parts.1) (each m n parts.0 refl parts.1 parts.2)
by_row_method P o u follows after row k each = absurd (cc)

-- ---- lists

-- the last of what is taken
pub taken_last : (o : Outline) (xs : List Slot) (w : Slot) (stack rest : List Slot) → taken o (xs ++ w ∷ []) stack ≡ Some rest
    → (s : Slot) × (taken o xs stack ≡ Some (s ∷ rest)) × (slice_get stack (length xs) ≡ Some s) × (fits o s w ≡ true)
taken_last o [] w [] rest is = absurd (cc)
taken_last o [] w (s ∷ stack) rest is =
    let parts = cond-some_then (fits o s w) (Some stack) rest is in
    (s, ap (λ ys. Some (s ∷ ys)) (same_Some stack rest parts.1), refl, parts.0)
taken_last o (x ∷ xs) w [] rest is = absurd (cc)
taken_last o (x ∷ xs) w (s ∷ stack) rest is =
    let parts = cond-some_then (fits o s x) (taken o (xs ++ w ∷ []) stack) rest is in
    let found = taken_last o xs w stack rest parts.1 in
    (found.0, ap (λ b. cond b (taken o xs stack) None) parts.0 ∙ found.1, found.2, found.3)

pub at_end : (xs : List Slot) (w : Slot) → slice_get (xs ++ w ∷ []) (length xs) ≡ Some w
at_end [] w = refl
at_end (x ∷ xs) w = at_end xs w

pub zip_reversed : {A B : Type 0} (P : A → B → Type 0) (xs : List A) (words : List B) → AllZip P xs words → AllZip P (reverse xs) (reverse words)
zip_reversed P [] [] h = tt
zip_reversed P [] (v ∷ words) h = absurd h
zip_reversed P (x ∷ xs) [] h = absurd h
zip_reversed P (x ∷ xs) (v ∷ words) h =
    subst (λ ys. AllZip P ys (reverse (v ∷ words))) (sym (reverse-append (x ∷ []) xs))
    (subst (λ ys. AllZip P (reverse xs ++ x ∷ []) ys) (sym (reverse-append (v ∷ []) words))
    (zip-append P (reverse xs) (reverse words) (x ∷ []) (v ∷ []) (zip_reversed P xs words h.1) (h.0, tt)))

-- one more word is taken, which is there
pub take_more : (n : ℕ) (words : List Value) (xs : List Slot) (s : Slot) → length xs ≡ length words → slice_get xs n ≡ Some s
    → take (suc n) words ≡ take n words ++ word_at words n ∷ []
take_more zero [] [] s long at = absurd (cc)
take_more zero [] (x ∷ xs) s long at = absurd (cc)
take_more zero (v ∷ words) xs s long at = refl
take_more (suc n) [] [] s long at = absurd (cc)
take_more (suc n) [] (x ∷ xs) s long at = absurd (cc)
take_more (suc n) (v ∷ words) [] s long at = absurd (cc)
take_more (suc n) (v ∷ words) (x ∷ xs) s long at = ap (λ ys. v ∷ ys) (take_more n words xs s (same_suc long) at) where
  same_suc : {a b : ℕ} → suc a ≡ suc b → a ≡ b
  same_suc e = omega (arith, e)

-- ---- slots that ask the same in each method

module _ (o : Outline) (store : Store) (own other : ℕ) (news others : ℕ → Option TypeRef) where
  local_anyones : (k : Kind) → AllByRecursion (IsAnyones o store own other news others) (local_slots k)
  local_anyones kind.Boolean = (λ v h. tt, tt)
  local_anyones kind.Byte = (λ v h. tt, tt)
  local_anyones kind.Char = (λ v h. tt, tt)
  local_anyones kind.Short = (λ v h. tt, tt)
  local_anyones kind.Int = (λ v h. tt, tt)
  local_anyones kind.Long = (λ v h. tt, (λ v h. tt, tt))
  local_anyones (kind.Ref t) = (λ v h. h, tt)

  pub locals_anyones : (kinds : List Kind) → AllByRecursion (IsAnyones o store own other news others) (flat_map local_slots kinds)
  locals_anyones [] = tt
  locals_anyones (k ∷ kinds) =
      AllByRecursion-append (IsAnyones o store own other news others) (local_slots k) (flat_map local_slots kinds) (local_anyones k) (locals_anyones kinds)

-- a method of FreeMe has no receiver
pub free_alone : (row : Native) → has_receiver row ≡ true → is_free_me row ≡ false
free_alone FreeMeFree has = absurd (false≢true has)
free_alone FreeMeLink has = absurd (false≢true has)
free_alone FreeMeFreeChain has = absurd (false≢true has)
free_alone row has = refl

pub from_not : (b c : Bool) → c ≡ not b → c ≡ false → b ≡ true
from_not true c is off = refl
from_not false c is off = absurd (false≢true (sym off ∙ is))

-- one word, unless there is no receiver
abbrev pub unless : Bool → ℕ
unless b = cond b 0 1

pub either_count : (b c : Bool) (n : ℕ) → c ≡ not b → n ≡ cond b 1 0 → n ≡ unless c
either_count true c n is count = count ∙ ap unless (sym is)
either_count false c n is count = count ∙ ap unless (sym is)
