-- The counts of the dimensions are read from the stack, and lengths made of them.
use Rattle.std.proofs.Common.{◌≡◌, ℕ, zero, suc, ◌+◌, ◌<◌, ◌≤◌, ◌^◌, ℤ, pos, Bool, true, false, if◌then◌else◌, List, [], ◌∷◌, ◌++◌, length, map, take, get_or, Option, Some, None, option_map, slice_get, refl, ap, sym, ◌∙◌, arith}
use Rattle.std.specs.Prelude.{int_lt, reverse, unsigned_abs, ◌||◌}
use Rattle.std.specs.List.{AllByRecursion, range_with_len}
use Rattle.std.proofs.lemmas.List.{append-nil, append_assoc, map_more, reverse-append, take_all}
use Rattle.std.proofs.lemmas.List.Folds.{list_any_at, list_any_more}
use Rattle.std.proofs.lemmas.Option.{none-some, same_Some, slice_get-map}
use Rattle.fm_base.proofs.ListFacts.{range-next}
use Rattle.fm_cells.specs.Objects.{Object}
use Rattle.fm_cells.specs.Stores.{object_at, Store}
use Rattle.fm_exec.proofs.ArraySteps.{len_of}
use Rattle.fm_exec.specs.Steps.{seen}
use Rattle.fm_frames.specs.ArrayRows.{int_at, ints_at}
use Rattle.fm_frames.specs.Sights.{sight, Sight, sight_of_cell, sight_of_object, sights, Word}
use Rattle.fm_frames.specs.States.{State}
use Rattle.fm_frames.specs.Steps.{stack_of}
use Rattle.fm_frames.specs.declared.values.Value.{Value}
use Rattle.fm_frames.specs.declared.values.Value.TheVariants as value
use Rattle.fm_frames.specs.inner.Doings.{int_in}
use Rattle.fm_exec_nests.specs.inner.Counts.{any_negative, ints_on, joined, Lens}
use Rattle.fm_world.specs.Programs.{Outline, Program}

-- ---- the ints on top of the stack

-- ints before others
abbrev pub prefixed : List ℤ → Option (List ℤ) → Option (List ℤ)
prefixed before None = None
prefixed before (Some others) = Some (before ++ others)

prefixed-joined : (before : List ℤ) (n : ℤ) (others : Option (List ℤ)) → prefixed before (joined (Some n) others) ≡ prefixed (before ++ n ∷ []) others
prefixed-joined before n None = refl
prefixed-joined before n (Some others) = ap Some (sym (append_assoc before (n ∷ []) others))

pub next-int : (stack : List Value) (before : List ℤ) (all : Option (List ℤ)) (left below : ℕ) (n : ℤ) → left ≡ suc below → Some n ≡ int_in (slice_get stack below)
    → all ≡ prefixed before (ints_on stack left) → all ≡ prefixed (before ++ n ∷ []) (ints_on stack below)
next-int stack before all left below n next is so =
    so ∙ ap (λ k. prefixed before (ints_on stack k)) next
    ∙ ap (λ found. prefixed before (joined found (ints_on stack below))) (sym is)
    ∙ prefixed-joined before n (ints_on stack below)

pub no-int : (stack : List Value) (before : List ℤ) (all : Option (List ℤ)) (left below : ℕ) → left ≡ suc below → None ≡ int_in (slice_get stack below)
    → all ≡ prefixed before (ints_on stack left) → None ≡ all
no-int stack before all left below next is so =
    sym (so ∙ ap (λ k. prefixed before (ints_on stack k)) next ∙ ap (λ found. prefixed before (joined found (ints_on stack below))) (sym is))

pub first-ints : (found : Option (List ℤ)) → found ≡ prefixed [] found
first-ints None = refl
first-ints (Some others) = refl

pub all-ints : (stack : List Value) (before : List ℤ) (all : Option (List ℤ)) (left : ℕ) → left ≡ 0 → all ≡ prefixed before (ints_on stack left) → Some before ≡ all
all-ints stack before all left none so =
    sym (so ∙ ap (λ k. prefixed before (ints_on stack k)) none ∙ ap Some (append-nil before))

-- ---- as the row sees them

abbrev int_of : Option Sight → Option ℤ
int_of (Some (Word (value.Int n))) = Some n
int_of other = None

cell-no-int : (o : Outline) (store : Store) (cell : ℕ) → int_of (Some (sight_of_cell o store cell)) ≡ None
cell-no-int o store zero = refl
cell-no-int o store (suc cell) = by_object (object_at store (suc cell)) where
  by_object : (object : Option Object) → int_of (Some (sight_of_object o store object)) ≡ None
  by_object None = refl
  by_object (Some object) = refl

int-in : (o : Outline) (store : Store) (v : Option Value) → int_of (option_map (sight o store) v) ≡ int_in v
int-in o store None = refl
int-in o store (Some value.Top) = refl
int-in o store (Some (value.Int n)) = refl
int-in o store (Some (value.Long n)) = refl
int-in o store (Some (value.Ref cell)) = cell-no-int o store cell.0

int-at : (o : Outline) (store : Store) (stack : List Value) (operand : ℕ) → int_at (sights o store stack) operand ≡ int_in (slice_get stack operand)
int-at o store stack operand = ap int_of (slice_get-map (sight o store) stack operand) ∙ int-in o store (slice_get stack operand)

places-from : (n : ℕ) → reverse (range_with_len 0 (suc n)) ≡ n ∷ reverse (range_with_len 0 n)
places-from n =
    let same : 0 + n ≡ n = omega arith in
    ap reverse (range-next 0 n) ∙ ap (λ m. reverse (range_with_len 0 n ++ m ∷ [])) same ∙ reverse-append (range_with_len 0 n) (n ∷ [])

pub ints-seen : (p : Program) (x : State) (dimensions : ℕ) → ints_at (seen p x) (reverse (range_with_len 0 dimensions)) ≡ ints_on (stack_of x) dimensions
ints-seen p x zero = refl
ints-seen p x (suc n) =
    ap (ints_at (seen p x)) (places-from n)
    ∙ ap (λ found. joined found (ints_at (seen p x) (reverse (range_with_len 0 n)))) (int-at p.outline x.areas.store (stack_of x) n)
    ∙ ap (joined (int_in (slice_get (stack_of x) n))) (ints-seen p x n)

-- ---- lengths

-- none of the counts so far is negative, and they have these lengths
pub record LensSoFar (counts : List ℤ) (i : ℕ) (lens : List ℕ) : Type 0 where
  pub none : any_negative (take i counts) ≡ false
  pub are : lens ≡ map unsigned_abs (take i counts)
  pub fit : AllByRecursion (λ len. len < 2 ^ 31) lens

pub lens-begin : (counts : List ℤ) → LensSoFar counts 0 []
lens-begin counts = record { none = refl; are = refl; fit = tt }

all-push : (P : ℕ → Type 0) (xs : List ℕ) (y : ℕ) → AllByRecursion P xs → P y → AllByRecursion P (xs ++ y ∷ [])
all-push P [] y all last = (last, tt)
all-push P (x ∷ xs) y all last = (all.0, all-push P xs y all.1 last)

pub not-negative : (count : ℤ) (len : ℕ) → Some len ≡ len_of count → (int_lt count (pos 0) ≡ false) × (len ≡ unsigned_abs count)
not-negative count len is = by_sign (int_lt count (pos 0)) is where
  by_sign : (b : Bool) → Some len ≡ (if b then None else Some (unsigned_abs count)) → (b ≡ false) × (len ≡ unsigned_abs count)
  by_sign true some = absurd (none-some _ (sym some))
  by_sign false some = (refl, same_Some _ _ some)

negative : (count : ℤ) → None ≡ len_of count → int_lt count (pos 0) ≡ true
negative count is = by_sign (int_lt count (pos 0)) is where
  by_sign : (b : Bool) → None ≡ (if b then None else Some (unsigned_abs count)) → b ≡ true
  by_sign true none = refl
  by_sign false none = absurd (none-some _ none)

pub lens-next : (counts : List ℤ) (i : ℕ) (lens : List ℕ) (d : ℤ) (len : ℕ) → i < length counts → LensSoFar counts i lens → Some len ≡ len_of (get_or counts i d)
    → len < 2 ^ 31 → LensSoFar counts (i + 1) (lens ++ len ∷ [])
lens-next counts i lens d len inside so is fits =
    let told = not-negative (get_or counts i d) len is in
    record {
      none = list_any_more (λ n. int_lt n (pos 0)) counts i d inside ∙ ap (λ b. b || int_lt (get_or counts i d) (pos 0)) so.none ∙ told.0;
      are = ap (λ xs. xs ++ len ∷ []) so.are ∙ ap (λ n. map unsigned_abs (take i counts) ++ n ∷ []) told.1 ∙ sym (map_more unsigned_abs counts i d inside);
      fit = all-push (λ len. len < 2 ^ 31) lens len so.fit fits;
    }

pub lens-refused : (counts : List ℤ) (i : ℕ) (d : ℤ) → i < length counts → None ≡ len_of (get_or counts i d) → Lens counts None
lens-refused counts i d inside is = list_any_at (λ n. int_lt n (pos 0)) counts i d inside (negative (get_or counts i d) is)

pub lens-ended : (counts : List ℤ) (i : ℕ) (lens : List ℕ) → length counts ≤ i → LensSoFar counts i lens → Lens counts (Some lens)
lens-ended counts i lens over so =
    let all : take i counts ≡ counts = take_all i counts over in (
      ap any_negative (sym all) ∙ so.none,
      so.are ∙ ap (map unsigned_abs) all,
      so.fit,
    )
