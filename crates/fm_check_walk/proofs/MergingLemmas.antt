-- Fits and joins of lists of slots, from either end; and the join of two states is the least that both fit.
use Rattle.std.proofs.Common.{◌≡◌, refl, sym, ◌∙◌, ap, ℕ, zero, suc, ◌+◌, ◌<◌, ◌≤◌, ◌==◌, ◌&&◌, ◌||◌, not, Bool, true, false, List, [], ◌∷◌, ◌++◌, length, reverse, set, Some, None, cond, subst, arith}
use Rattle.std.proofs.Math.Bool.{and_comm}
use Rattle.std.proofs.lemmas.Bool.{and_from, and_parts, eqb-true, eq-eqb, false≢true}
use Rattle.std.proofs.lemmas.List.{length-reverse, reverse-append}
use Rattle.std.proofs.lemmas.List.Elements.{length_all_zip}
use Rattle.std.specs.List.{AllZip}
use Rattle.fm_base.proofs.TestFacts.{and_true}
use Rattle.fm_check_walk.specs.inner.Merging.{have_same_sizes, join_slots, join_state}
use Rattle.fm_types.proofs.LeastJoins.{join-least}
use Rattle.fm_types.proofs.Order.{fits-refl, fits-trans}
use Rattle.fm_types.proofs.StateOrder.{all_fit-from, all_fit-parts, Fitting, IsShaped, level-whole, other_below, shape_of, Stands, whole-shaped}
use Rattle.fm_types.proofs.Zips.{zip-refl}
use Rattle.fm_types.specs.Fits.{AreTree, fits}
use Rattle.fm_types.specs.Joins.{join}
use Rattle.fm_types.specs.States.{all_fit, is_whole, local_at, state_fits, TypeState}
use Rattle.fm_types.specs.declared.slots.Slot.{Slot}
use Rattle.fm_types.specs.declared.slots.Slot.TheVariants as slot
use Rattle.fm_world.specs.Programs.{Outline}

-- ---- lists from the other end

reverse-cons : (x : Slot) (xs : List Slot) → reverse (x ∷ xs) ≡ reverse xs ++ x ∷ []
reverse-cons x xs = reverse-append (x ∷ []) xs

and-assoc : (a b c : Bool) → (a && (b && c)) ≡ ((a && b) && c)
and-assoc true b c = refl
and-assoc false b c = refl

all_fit-append : (o : Outline) (xs ys us vs : List Slot) → length xs ≡ length us
    → all_fit o (xs ++ ys) (us ++ vs) ≡ (all_fit o xs us && all_fit o ys vs)
all_fit-append o [] ys [] vs same = refl
all_fit-append o [] ys (u ∷ us) vs same = absurd (omega (arith, same))
all_fit-append o (x ∷ xs) ys [] vs same = absurd (omega (arith, same))
all_fit-append o (x ∷ xs) ys (u ∷ us) vs same =
    let rest : length xs ≡ length us = omega (arith, same) in
    ap (λ b. fits o x u && b) (all_fit-append o xs ys us vs rest) ∙ and-assoc (fits o x u) (all_fit o xs us) (all_fit o ys vs)

pub all_fit-reverse : (o : Outline) (xs ys : List Slot) → length xs ≡ length ys → all_fit o (reverse xs) (reverse ys) ≡ all_fit o xs ys
all_fit-reverse o [] [] same = refl
all_fit-reverse o [] (y ∷ ys) same = absurd (omega (arith, same))
all_fit-reverse o (x ∷ xs) [] same = absurd (omega (arith, same))
all_fit-reverse o (x ∷ xs) (y ∷ ys) same =
    let rest : length xs ≡ length ys = omega (arith, same) in
    let turned : length (reverse xs) ≡ length (reverse ys) = length-reverse xs ∙ rest ∙ sym (length-reverse ys) in
    ap (λ zs. all_fit o zs (reverse (y ∷ ys))) (reverse-cons x xs)
    ∙ ap (λ zs. all_fit o (reverse xs ++ x ∷ []) zs) (reverse-cons y ys)
    ∙ all_fit-append o (reverse xs) (x ∷ []) (reverse ys) (y ∷ []) turned
    ∙ ap (λ b. all_fit o (reverse xs) (reverse ys) && b) (and_true (fits o x y))
    ∙ ap (λ b. b && fits o x y) (all_fit-reverse o xs ys rest)
    ∙ and_comm (all_fit o xs ys) (fits o x y)

join_slots-append : (o : Outline) (xs ys us vs : List Slot) → length xs ≡ length us
    → join_slots o (xs ++ ys) (us ++ vs) ≡ join_slots o xs us ++ join_slots o ys vs
join_slots-append o [] ys [] vs same = refl
join_slots-append o [] ys (u ∷ us) vs same = absurd (omega (arith, same))
join_slots-append o (x ∷ xs) ys [] vs same = absurd (omega (arith, same))
join_slots-append o (x ∷ xs) ys (u ∷ us) vs same =
    let rest : length xs ≡ length us = omega (arith, same) in
    ap (λ zs. join o x u ∷ zs) (join_slots-append o xs ys us vs rest)

pub join_slots-reverse : (o : Outline) (xs ys : List Slot) → length xs ≡ length ys
    → reverse (join_slots o (reverse xs) (reverse ys)) ≡ join_slots o xs ys
join_slots-reverse o [] [] same = refl
join_slots-reverse o [] (y ∷ ys) same = absurd (omega (arith, same))
join_slots-reverse o (x ∷ xs) [] same = absurd (omega (arith, same))
join_slots-reverse o (x ∷ xs) (y ∷ ys) same =
    let rest : length xs ≡ length ys = omega (arith, same) in
    let turned : length (reverse xs) ≡ length (reverse ys) = length-reverse xs ∙ rest ∙ sym (length-reverse ys) in
    ap (λ zs. reverse (join_slots o zs (reverse (y ∷ ys)))) (reverse-cons x xs)
    ∙ ap (λ zs. reverse (join_slots o (reverse xs ++ x ∷ []) zs)) (reverse-cons y ys)
    ∙ ap reverse (join_slots-append o (reverse xs) (x ∷ []) (reverse ys) (y ∷ []) turned)
    ∙ reverse-append (join_slots o (reverse xs) (reverse ys)) (join o x y ∷ [])
    ∙ ap (λ zs. join o x y ∷ zs) (join_slots-reverse o xs ys rest)

module _ (o : Outline) where
  -- the joins at the first places, this number of them
  abbrev pub joined_to : ℕ → List Slot → List Slot → List Slot
  joined_to zero slots others = slots
  joined_to (suc n) [] others = []
  joined_to (suc n) (a ∷ slots) [] = a ∷ slots
  joined_to (suc n) (a ∷ slots) (b ∷ others) = join o a b ∷ joined_to n slots others

  pub length-joined_to : (n : ℕ) (slots others : List Slot) → length (joined_to n slots others) ≡ length slots
  length-joined_to zero slots others = refl
  length-joined_to (suc n) [] others = refl
  length-joined_to (suc n) (a ∷ slots) [] = refl
  length-joined_to (suc n) (a ∷ slots) (b ∷ others) = ap suc (length-joined_to n slots others)

  next_joined : (n : ℕ) (slots others : List Slot) → n < length slots → length slots ≡ length others
      → set (joined_to n slots others) n (join o (local_at (joined_to n slots others) n) (local_at others n)) ≡ joined_to (suc n) slots others
  next_joined n [] others inside level = absurd (omega (arith, inside))
  next_joined n (a ∷ slots) [] inside level = absurd (omega (arith, level))
  next_joined zero (a ∷ slots) (b ∷ others) inside level = refl
  next_joined (suc n) (a ∷ slots) (b ∷ others) inside level =
      ap (λ (rest : List Slot). join o a b ∷ rest) (next_joined n slots others (omega (arith, inside)) (omega (arith, level)))

  -- one place more
  pub joined-more : (n : ℕ) (slots others before after : List Slot) (other : Slot) → n < length slots → length slots ≡ length others
      → before ≡ joined_to n slots others → other ≡ local_at others n → after ≡ set before n (join o (local_at before n) other)
      → after ≡ joined_to (n + 1) slots others
  joined-more n slots others before after other inside level was same is =
      let more : suc n ≡ n + 1 = omega arith in
      is ∙ ap (λ (x : Slot). set before n (join o (local_at before n) x)) same
      ∙ ap (λ (xs : List Slot). set xs n (join o (local_at xs n) (local_at others n))) was ∙ next_joined n slots others inside level
      ∙ ap (λ (k : ℕ). joined_to k slots others) more

  -- all places
  pub joined-all : (n : ℕ) (slots others : List Slot) → length slots ≤ n → length slots ≡ length others → joined_to n slots others ≡ join_slots o slots others
  joined-all zero [] others past level = refl
  joined-all zero (a ∷ slots) others past level = absurd (omega (arith, past))
  joined-all (suc n) [] others past level = refl
  joined-all (suc n) (a ∷ slots) [] past level = absurd (omega (arith, level))
  joined-all (suc n) (a ∷ slots) (b ∷ others) past level =
      ap (λ (rest : List Slot). join o a b ∷ rest) (joined-all n slots others (omega (arith, past)) (omega (arith, level)))

-- ---- what fits, part by part

pub record FitsByParts (o : Outline) (a b : TypeState) : Type 0 where
  pub locals : AllZip (Fitting o) a.locals b.locals
  pub stack : AllZip (Fitting o) a.stack b.stack
  pub built : (a.built || not b.built) ≡ true

pub fits-parts : (o : Outline) (a b : TypeState) → state_fits o a b ≡ true → FitsByParts o a b
unfolding state_fits
fits-parts o a b h =
    let outer = and_parts (all_fit o a.locals b.locals && all_fit o a.stack b.stack) (a.built || not b.built) h in
    let inner = and_parts (all_fit o a.locals b.locals) (all_fit o a.stack b.stack) outer.0 in
    record { locals = all_fit-parts o a.locals b.locals inner.0; stack = all_fit-parts o a.stack b.stack inner.1; built = outer.1 }

pub fits-from : (o : Outline) (a b : TypeState) → FitsByParts o a b → state_fits o a b ≡ true
unfolding state_fits
fits-from o a b h =
    and_from (all_fit o a.locals b.locals && all_fit o a.stack b.stack) (a.built || not b.built)
    (and_from (all_fit o a.locals b.locals) (all_fit o a.stack b.stack) (all_fit-from o a.locals b.locals h.locals)
    (all_fit-from o a.stack b.stack h.stack))
    h.built

zip-trans : (o : Outline) → AreTree o.classes → (xs ys zs : List Slot) → AllZip (Fitting o) xs ys → AllZip (Fitting o) ys zs → AllZip (Fitting o) xs zs
zip-trans o tree [] [] zs f g = g
zip-trans o tree [] (y ∷ ys) zs f g = absurd f
zip-trans o tree (x ∷ xs) [] zs f g = absurd f
zip-trans o tree (x ∷ xs) (y ∷ ys) [] f g = absurd g
zip-trans o tree (x ∷ xs) (y ∷ ys) (z ∷ zs) f g = (fits-trans o tree x y z f.0 g.0, zip-trans o tree xs ys zs f.1 g.1)

pub built-trans : (a b c : Bool) → (a || not b) ≡ true → (b || not c) ≡ true → (a || not c) ≡ true
built-trans true b c f g = refl
built-trans false true c f g = absurd (false≢true f)
built-trans false false true f g = absurd (false≢true g)
built-trans false false false f g = refl

pub built-refl : (a : Bool) → (a || not a) ≡ true
built-refl true = refl
built-refl false = refl

pub state-trans : (o : Outline) → AreTree o.classes → (a b c : TypeState) → state_fits o a b ≡ true → state_fits o b c ≡ true → state_fits o a c ≡ true
state-trans o tree a b c f g =
    let first = fits-parts o a b f in
    let second = fits-parts o b c g in
    fits-from o a c (record {
      locals = zip-trans o tree a.locals b.locals c.locals first.locals second.locals;
      stack = zip-trans o tree a.stack b.stack c.stack first.stack second.stack;
      built = built-trans a.built b.built c.built first.built second.built;
    })

pub state-refl : (o : Outline) → AreTree o.classes → (a : TypeState) → state_fits o a a ≡ true
state-refl o tree a =
    fits-from o a a (record {
      locals = zip-refl (Fitting o) (fits-refl o tree) a.locals;
      stack = zip-refl (Fitting o) (fits-refl o tree) a.stack;
      built = built-refl a.built;
    })

-- ---- the join

joins-first : (o : Outline) → AreTree o.classes → (xs ys : List Slot) → length xs ≡ length ys → AllZip (Fitting o) xs (join_slots o xs ys)
joins-first o tree [] ys same = tt
joins-first o tree (x ∷ xs) [] same = absurd (omega (arith, same))
joins-first o tree (x ∷ xs) (y ∷ ys) same = ((join-least o tree x y).first, joins-first o tree xs ys (omega (arith, same)))

joins-second : (o : Outline) → AreTree o.classes → (xs ys : List Slot) → length xs ≡ length ys → AllZip (Fitting o) ys (join_slots o xs ys)
joins-second o tree [] [] same = tt
joins-second o tree [] (y ∷ ys) same = absurd (omega (arith, same))
joins-second o tree (x ∷ xs) [] same = absurd (omega (arith, same))
joins-second o tree (x ∷ xs) (y ∷ ys) same = ((join-least o tree x y).second, joins-second o tree xs ys (omega (arith, same)))

joins-least : (o : Outline) → AreTree o.classes → (xs ys zs : List Slot) → AllZip (Fitting o) xs zs → AllZip (Fitting o) ys zs
    → AllZip (Fitting o) (join_slots o xs ys) zs
joins-least o tree [] ys zs f g = f
joins-least o tree (x ∷ xs) [] [] f g = absurd f
joins-least o tree (x ∷ xs) [] (z ∷ zs) f g = absurd g
joins-least o tree (x ∷ xs) (y ∷ ys) [] f g = absurd f
joins-least o tree (x ∷ xs) (y ∷ ys) (z ∷ zs) f g = ((join-least o tree x y).least z f.0 g.0, joins-least o tree xs ys zs f.1 g.1)

-- the join of what is level is level
join-shaped : (o : Outline) → AreTree o.classes → (a b c : Slot) → Stands o a c → Stands o b c → shape_of (join o a b) ≡ shape_of c
unfolding join
join-shaped o tree slot.Top slot.Top slot.Top f g = refl
join-shaped o tree slot.Top b slot.Top f g = absurd (omega (arith, g.shape))
join-shaped o tree a b slot.Top f g = absurd (omega (arith, f.shape))
join-shaped o tree slot.Long slot.Long slot.Long f g = refl
join-shaped o tree slot.Long b slot.Long f g = absurd (omega (arith, g.shape))
join-shaped o tree a b slot.Long f g = absurd (omega (arith, f.shape))
join-shaped o tree a b c f g = other_below o (join o a b) c ((join-least o tree a b).least c f.fitting g.fitting) refl

joins-shaped : (o : Outline) → AreTree o.classes → (xs ys zs : List Slot) → AllZip (Stands o) xs zs → AllZip (Stands o) ys zs
    → AllZip IsShaped (join_slots o xs ys) zs
joins-shaped o tree [] ys zs f g = elim zs as (λ zs. AllZip (Stands o) [] zs → AllZip IsShaped [] zs) [ [] ↦ λ h. tt | z ∷ zs ↦ λ h. absurd h ] f
joins-shaped o tree (x ∷ xs) [] [] f g = absurd f
joins-shaped o tree (x ∷ xs) [] (z ∷ zs) f g = absurd g
joins-shaped o tree (x ∷ xs) (y ∷ ys) [] f g = absurd f
joins-shaped o tree (x ∷ xs) (y ∷ ys) (z ∷ zs) f g = (join-shaped o tree x y z f.0 g.0, joins-shaped o tree xs ys zs f.1 g.1)

built-first : (a b : Bool) → (a || not (a && b)) ≡ true
built-first true b = refl
built-first false b = refl

built-second : (a b : Bool) → (b || not (a && b)) ≡ true
built-second true true = refl
built-second true false = refl
built-second false true = refl
built-second false false = refl

built-least : (a b c : Bool) → (a || not c) ≡ true → (b || not c) ≡ true → ((a && b) || not c) ≡ true
built-least true b c f g = g
built-least false b c f g = f

pub record IsStateJoin (o : Outline) (a b joined : TypeState) : Type 0 where
  pub first : state_fits o a joined ≡ true
  pub second : state_fits o b joined ≡ true
  pub whole : is_whole joined.stack ≡ true
  pub least : (c : TypeState) → state_fits o a c ≡ true → state_fits o b c ≡ true → state_fits o joined c ≡ true

abbrev pub join_of : Outline → TypeState → TypeState → TypeState
join_of o a b = record { locals = join_slots o a.locals b.locals; stack = join_slots o a.stack b.stack; built = a.built && b.built }

pub record AreLevel (a b : TypeState) : Type 0 where
  pub locals : length a.locals ≡ length b.locals
  pub stack : length a.stack ≡ length b.stack

pub level-parts : (a b : TypeState) → have_same_sizes a b ≡ true → AreLevel a b
level-parts a b h =
    let parts = and_parts (length a.locals == length b.locals) (length a.stack == length b.stack) h in
    record { locals = eqb-true (length a.locals) (length b.locals) parts.0; stack = eqb-true (length a.stack) (length b.stack) parts.1 }

pub level-from : (a b : TypeState) → AreLevel a b → have_same_sizes a b ≡ true
level-from a b h =
    and_from (length a.locals == length b.locals) (length a.stack == length b.stack) (eq-eqb (length a.locals) (length b.locals) h.locals)
    (eq-eqb (length a.stack) (length b.stack) h.stack)

join_of-least : (o : Outline) → AreTree o.classes → (a b : TypeState) → AreLevel a b → is_whole (join_slots o a.stack b.stack) ≡ true
    → IsStateJoin o a b (join_of o a b)
join_of-least o tree a b level whole = record {
  first = fits-from o a (join_of o a b) (record {
    locals = joins-first o tree a.locals b.locals level.locals;
    stack = joins-first o tree a.stack b.stack level.stack;
    built = built-first a.built b.built;
  });
  second = fits-from o b (join_of o a b) (record {
    locals = joins-second o tree a.locals b.locals level.locals;
    stack = joins-second o tree a.stack b.stack level.stack;
    built = built-second a.built b.built;
  });
  whole = whole;
  least = λ c f g.
      let first = fits-parts o a c f in
      let second = fits-parts o b c g in
      fits-from o (join_of o a b) c (record {
        locals = joins-least o tree a.locals b.locals c.locals first.locals second.locals;
        stack = joins-least o tree a.stack b.stack c.stack first.stack second.stack;
        built = built-least a.built b.built c.built first.built second.built;
      });
}

-- a join is the least state that both fit
pub join_state-least : (o : Outline) → AreTree o.classes → (a b joined : TypeState) → join_state o a b ≡ Some joined → IsStateJoin o a b joined
unfolding join_state
join_state-least o tree a b joined is =
    by_test (have_same_sizes a b && is_whole (join_slots o a.stack b.stack)) refl is where
      by_test : (t : Bool) → (have_same_sizes a b && is_whole (join_slots o a.stack b.stack)) ≡ t → cond t (Some (join_of o a b)) None ≡ Some joined
          → IsStateJoin o a b joined
      by_test true e h =
          let parts = and_parts (have_same_sizes a b) (is_whole (join_slots o a.stack b.stack)) e in
          let same : join_of o a b ≡ joined = cc in
          subst (IsStateJoin o a b) same (join_of-least o tree a b (level-parts a b parts.0) parts.1)
      by_test false e h = cc

-- where whole states fit a whole one, there is a join
pub join_state-some : (o : Outline) → AreTree o.classes → (a b c : TypeState) → is_whole a.stack ≡ true → is_whole b.stack ≡ true → is_whole c.stack ≡ true
    → state_fits o a c ≡ true → state_fits o b c ≡ true → join_state o a b ≡ None → ⊥
unfolding join_state
join_state-some o tree a b c whole_a whole_b whole_c f g is =
    let first = fits-parts o a c f in
    let second = fits-parts o b c g in
    let level : AreLevel a b = record {
      locals = length_all_zip (Fitting o) a.locals c.locals first.locals ∙ sym (length_all_zip (Fitting o) b.locals c.locals second.locals);
      stack = length_all_zip (Fitting o) a.stack c.stack first.stack ∙ sym (length_all_zip (Fitting o) b.stack c.stack second.stack);
    } in
    let shaped = joins-shaped o tree a.stack b.stack c.stack (level-whole o a.stack c.stack first.stack whole_a whole_c)
    (level-whole o b.stack c.stack second.stack whole_b whole_c) in
    let whole : is_whole (join_slots o a.stack b.stack) ≡ true = whole-shaped (join_slots o a.stack b.stack) c.stack shaped whole_c in
    let test = and_from (have_same_sizes a b) (is_whole (join_slots o a.stack b.stack)) (level-from a b level) whole in
    by_test (have_same_sizes a b && is_whole (join_slots o a.stack b.stack)) test is where
      by_test : (t : Bool) → t ≡ true → cond t (Some (join_of o a b)) None ≡ None → ⊥
      by_test true e h = cc
      by_test false e h = false≢true e

-- ---- states that don't fit

not_fits : (b : Bool) → (b ≡ true → ⊥) → false ≡ b
not_fits true h = absurd (h refl)
not_fits false h = refl

pub sizes-unfit : (o : Outline) (a b : TypeState) → have_same_sizes a b ≡ false → false ≡ state_fits o a b
sizes-unfit o a b sizes = not_fits (state_fits o a b) (λ h.
    let parts = fits-parts o a b h in
    let level : AreLevel a b = record {
      locals = length_all_zip (Fitting o) a.locals b.locals parts.locals;
      stack = length_all_zip (Fitting o) a.stack b.stack parts.stack;
    } in
    false≢true (sym sizes ∙ level-from a b level))

built-unfit_parts : (a b : Bool) → b ≡ true → a ≡ false → (a || not b) ≡ true → ⊥
built-unfit_parts a true e f h = false≢true (sym f ∙ or-false a h) where
  or-false : (a : Bool) → (a || false) ≡ true → a ≡ true
  or-false true h = refl
  or-false false h = h
built-unfit_parts a false e f h = false≢true e

pub built-unfit : (o : Outline) (a b : TypeState) → b.built ≡ true → a.built ≡ false → false ≡ state_fits o a b
built-unfit o a b e f = not_fits (state_fits o a b) (λ h. built-unfit_parts a.built b.built e f (fits-parts o a b h).built)

pub locals-unfit : (o : Outline) (a b : TypeState) → all_fit o a.locals b.locals ≡ false → false ≡ state_fits o a b
locals-unfit o a b e =
    not_fits (state_fits o a b) (λ h. false≢true (sym e ∙ all_fit-from o a.locals b.locals (fits-parts o a b h).locals))

-- and where sizes, locals and `built` fit, the stack decides
pub stack-decides : (o : Outline) (a b : TypeState) → (a.built || not b.built) ≡ true → all_fit o a.locals b.locals ≡ true
    → all_fit o a.stack b.stack ≡ state_fits o a b
unfolding state_fits
stack-decides o a b built locals =
    sym (and_true (all_fit o a.stack b.stack))
    ∙ ap (λ c. all_fit o a.stack b.stack && c) (sym built)
    ∙ ap (λ c. (c && all_fit o a.stack b.stack) && (a.built || not b.built)) (sym locals)

pub built-by_first : (a b : Bool) → a ≡ true → (a || not b) ≡ true
built-by_first true b h = refl
built-by_first false b h = absurd (false≢true h)

pub built-by_second : (a b : Bool) → b ≡ false → (a || not b) ≡ true
built-by_second true b h = refl
built-by_second false true h = absurd (false≢true (sym h))
built-by_second false false h = refl

-- ---- the join by its parts

pub join_state-sizes : (o : Outline) (a b : TypeState) → have_same_sizes a b ≡ false → None ≡ join_state o a b
unfolding join_state
join_state-sizes o a b sizes = ap (λ t. cond (t && is_whole (join_slots o a.stack b.stack)) (Some (join_of o a b)) None) (sym sizes)

pub join_state-split : (o : Outline) (a b : TypeState) → is_whole (join_slots o a.stack b.stack) ≡ false → None ≡ join_state o a b
unfolding join_state
join_state-split o a b split =
    by_test (have_same_sizes a b) (is_whole (join_slots o a.stack b.stack)) split where
      by_test : (t w : Bool) → w ≡ false → None ≡ cond (t && w) (Some (join_of o a b)) None
      by_test true true h = absurd (false≢true (sym h))
      by_test true false h = refl
      by_test false w h = refl

pub join_state-is : (o : Outline) (a b s : TypeState) → have_same_sizes a b ≡ true → is_whole s.stack ≡ true → s.locals ≡ join_slots o a.locals b.locals
    → s.stack ≡ join_slots o a.stack b.stack → s.built ≡ (a.built && b.built) → Some s ≡ join_state o a b
unfolding join_state
join_state-is o a b s sizes whole locals stack built =
    let same : s ≡ join_of o a b =
    ap (λ x. record s { locals = x }) locals ∙ ap (λ x. record s { locals = join_slots o a.locals b.locals; stack = x }) stack
    ∙ ap (λ x. record s { locals = join_slots o a.locals b.locals; stack = join_slots o a.stack b.stack; built = x }) built in
    let test = and_from (have_same_sizes a b) (is_whole (join_slots o a.stack b.stack)) sizes (ap is_whole (sym stack) ∙ whole) in
    ap Some same ∙ ap (λ t. cond t (Some (join_of o a b)) None) (sym test)

-- the joins of stacks whose last slot is the top
pub stack-joined : (o : Outline) (a b : TypeState) (stack slots xs ys : List Slot) → have_same_sizes a b ≡ true → stack ≡ reverse slots
    → slots ≡ join_slots o xs ys → xs ≡ reverse a.stack → ys ≡ reverse b.stack → stack ≡ join_slots o a.stack b.stack
stack-joined o a b stack slots xs ys sizes turned joined first second =
    turned ∙ ap reverse joined
    ∙ ap (λ zs. reverse (join_slots o zs ys)) first
    ∙ ap (λ zs. reverse (join_slots o (reverse a.stack) zs)) second
    ∙ join_slots-reverse o a.stack b.stack (level-parts a b sizes).stack
