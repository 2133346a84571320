-- Values as their kinds and bits give them: each one by itself, and their list.
use Rattle.std.proofs.Common.{◌≡◌, ℕ, ℤ, ◌-◌, ◌<◌, ◌≤◌, ◌%◌, ◌^◌, List, [], ◌∷◌, ◌++◌, length, take, take_all, set, get_or, replicate, zero, suc, refl, ap, sym, ◌∙◌, subst, arith}
use Rattle.std.specs.Prelude.{FitsSigned}
use Rattle.std.specs.Int.{w32, w64, cast_signed, cast_unsigned}
use Rattle.std.proofs.Math.Facts.{Fits-of_z}
use Rattle.std.proofs.Math.Nat.{mod-eq_of_lt}
use Rattle.std.proofs.lemmas.Int.{of_z-to_z, to_z-of_z}
use Rattle.std.proofs.lemmas.List.{length-replicate}
use Rattle.std.proofs.lemmas.Nat.{mod_below}
use Rattle.fm_frames.specs.declared.value_list.ValueKind.{ValueKind}
use Rattle.fm_frames.specs.declared.value_list.ValueKind.TheVariants as kind
use Rattle.fm_frames.specs.declared.values.Value.{Value}
use Rattle.fm_frames.specs.declared.values.Value.TheVariants as value
use Rattle.fm_frames.specs.inner.Values.{kind_of, value_in, values_in}

-- ---- the bits of a value

pub top-kept : (v : Value) (b : ℕ) → v ≡ value.Top → value_in (kind_of v) b ≡ v
unfolding value_in
top-kept v b is = subst (λ v. value_in (kind_of v) b ≡ v) (sym is) refl

pub int-kept : (v : Value) (n : ℤ) (b : ℕ) → v ≡ value.Int n → b ≡ cast_unsigned w32 (cast_signed w32 (cast_unsigned w32 n)) → FitsSigned w32 n
    → value_in (kind_of v) b ≡ v
unfolding value_in
int-kept v n b is cast fits =
    let small : cast_unsigned w32 n < 2 ^ 32 = (Fits-of_z {w = w32} {z = n} fits).fits in
    let plain : b ≡ cast_unsigned w32 n = cast ∙ ap (cast_unsigned w32) (to_z-of_z w32 n fits) in
    let low : b % 2 ^ 32 ≡ cast_unsigned w32 n = ap (λ m. m % 2 ^ 32) plain ∙ mod-eq_of_lt small in
    let whole : value.Int (cast_signed w32 (b % 2 ^ 32)) ≡ value.Int n =
    ap (λ m. value.Int (cast_signed w32 m)) low ∙ ap value.Int (to_z-of_z w32 n fits) in
    subst (λ v. value_in (kind_of v) b ≡ v) (sym is) whole

pub long-kept : (v : Value) (n : ℤ) (b : ℕ) → v ≡ value.Long n → b ≡ cast_unsigned w64 (cast_signed w64 (cast_unsigned w64 n)) → FitsSigned w64 n
    → value_in (kind_of v) b ≡ v
unfolding value_in
long-kept v n b is cast fits =
    let plain : b ≡ cast_unsigned w64 n = cast ∙ ap (cast_unsigned w64) (to_z-of_z w64 n fits) in
    let whole : value.Long (cast_signed w64 b) ≡ value.Long n =
    ap (λ m. value.Long (cast_signed w64 m)) plain ∙ ap value.Long (to_z-of_z w64 n fits) in
    subst (λ v. value_in (kind_of v) b ≡ v) (sym is) whole

pub ref-kept : (v : Value) (cell : ℕ) → v ≡ value.Ref (record { 0 = cell }) → cell < 2 ^ 32 → value_in (kind_of v) cell ≡ v
unfolding value_in
ref-kept v cell is small =
    let whole : value.Ref (record { 0 = cell % 2 ^ 32 }) ≡ value.Ref (record { 0 = cell }) =
    ap (λ m. value.Ref (record { 0 = m })) (mod-eq_of_lt small) in
    subst (λ v. value_in (kind_of v) cell ≡ v) (sym is) whole

-- ---- the value of bits

pub top-read : (k : ValueKind) (b : ℕ) → k ≡ kind.Top → value.Top ≡ value_in k b
unfolding value_in
top-read k b is = sym (ap (λ k. value_in k b) is)

pub int-read : (k : ValueKind) (b low : ℕ) (r : ℤ) → k ≡ kind.Int → low ≡ b % 2 ^ 32 → r ≡ cast_signed w32 low
    → value.Int (cast_signed w32 (cast_unsigned w32 r)) ≡ value_in k b
unfolding value_in
int-read k b low r is half cast =
    let small : low < 2 ^ 32 = omega (arith, half, mod_below b (2 ^ 32) (omega arith)) in
    ap (λ r. value.Int (cast_signed w32 (cast_unsigned w32 r))) cast
    ∙ ap (λ m. value.Int (cast_signed w32 m)) (of_z-to_z w32 low small ∙ half) ∙ sym (ap (λ k. value_in k b) is)

pub long-read : (k : ValueKind) (b : ℕ) (r : ℤ) → k ≡ kind.Long → r ≡ cast_signed w64 b → b < 2 ^ 64
    → value.Long (cast_signed w64 (cast_unsigned w64 r)) ≡ value_in k b
unfolding value_in
long-read k b r is cast small =
    ap (λ r. value.Long (cast_signed w64 (cast_unsigned w64 r))) cast
    ∙ ap (λ m. value.Long (cast_signed w64 m)) (of_z-to_z w64 b small) ∙ sym (ap (λ k. value_in k b) is)

pub ref-read : (k : ValueKind) (b low : ℕ) → k ≡ kind.Ref → low ≡ b % 2 ^ 32 → value.Ref (record { 0 = low }) ≡ value_in k b
unfolding value_in
ref-read k b low is half = ap (λ m. value.Ref (record { 0 = m })) half ∙ sym (ap (λ k. value_in k b) is)

-- ---- the list

pub length-values : (kinds : List ValueKind) (bits : List ℕ) → length kinds ≡ length bits → length (values_in kinds bits) ≡ length kinds
length-values [] bits long = refl
length-values (k ∷ kinds) [] long = absurd (omega (arith, long))
length-values (k ∷ kinds) (b ∷ bits) long = ap suc (length-values kinds bits (omega (arith, long)))

pub get-values : (kinds : List ValueKind) (bits : List ℕ) (i : ℕ) (k : ValueKind) (b : ℕ) (v : Value) → length kinds ≡ length bits → i < length kinds
    → get_or (values_in kinds bits) i v ≡ value_in (get_or kinds i k) (get_or bits i b)
get-values [] bits i k b v long within = absurd (omega (arith, within))
get-values (l ∷ kinds) [] i k b v long within = absurd (omega (arith, long))
get-values (l ∷ kinds) (c ∷ bits) zero k b v long within = refl
get-values (l ∷ kinds) (c ∷ bits) (suc i) k b v long within = get-values kinds bits i k b v (omega (arith, long)) (omega (arith, within))

pub set-values : (kinds : List ValueKind) (bits : List ℕ) (i : ℕ) (k : ValueKind) (b : ℕ)
    → values_in (set kinds i k) (set bits i b) ≡ set (values_in kinds bits) i (value_in k b)
set-values [] bits i k b = refl
set-values (l ∷ kinds) [] zero k b = refl
set-values (l ∷ kinds) [] (suc i) k b = refl
set-values (l ∷ kinds) (c ∷ bits) zero k b = refl
set-values (l ∷ kinds) (c ∷ bits) (suc i) k b = ap (λ vs. value_in l c ∷ vs) (set-values kinds bits i k b)

pub clear-values : (kinds : List ValueKind) (bits : List ℕ) (i : ℕ) → values_in (set kinds i kind.Top) bits ≡ set (values_in kinds bits) i value.Top
unfolding value_in
clear-values [] bits i = refl
clear-values (l ∷ kinds) [] zero = refl
clear-values (l ∷ kinds) [] (suc i) = refl
clear-values (l ∷ kinds) (c ∷ bits) zero = refl
clear-values (l ∷ kinds) (c ∷ bits) (suc i) = ap (λ vs. value_in l c ∷ vs) (clear-values kinds bits i)

pub append-values : (kinds more : List ValueKind) (bits others : List ℕ) → length kinds ≡ length bits
    → values_in (kinds ++ more) (bits ++ others) ≡ values_in kinds bits ++ values_in more others
append-values [] more [] others long = refl
append-values [] more (c ∷ bits) others long = absurd (omega (arith, long))
append-values (l ∷ kinds) more [] others long = absurd (omega (arith, long))
append-values (l ∷ kinds) more (c ∷ bits) others long = ap (λ vs. value_in l c ∷ vs) (append-values kinds more bits others (omega (arith, long)))

pub no-values : (n : ℕ) (bits : List ℕ) → length bits ≡ n → values_in (replicate n kind.Top) bits ≡ replicate n value.Top
unfolding value_in
no-values zero bits long = refl
no-values (suc n) [] long = absurd (omega (arith, long))
no-values (suc n) (b ∷ bits) long = ap (λ vs. value.Top ∷ vs) (no-values n bits (omega (arith, long)))

pub take-values : (n : ℕ) (kinds : List ValueKind) (bits : List ℕ) → values_in (take n kinds) (take n bits) ≡ take n (values_in kinds bits)
take-values zero kinds bits = refl
take-values (suc n) [] bits = refl
take-values (suc n) (l ∷ kinds) [] = refl
take-values (suc n) (l ∷ kinds) (c ∷ bits) = ap (λ vs. value_in l c ∷ vs) (take-values n kinds bits)

-- ---- as calls leave it

pub long-as : (kinds : List ValueKind) (bits : List ℕ) (x : List Value) → length kinds ≡ length bits → values_in kinds bits ≡ x → length x ≡ length kinds
long-as kinds bits x long is = sym (ap length is) ∙ length-values kinds bits long

pub is-at : (kinds : List ValueKind) (bits : List ℕ) (x : List Value) (i : ℕ) (k : ValueKind) (b : ℕ) (v : Value) → length kinds ≡ length bits
    → values_in kinds bits ≡ x → i < length x → k ≡ get_or kinds i k → b ≡ get_or bits i b → v ≡ value_in k b → v ≡ get_or x i v
is-at kinds bits x i k b v long is within kind_is bits_are made =
    made ∙ (λ j. value_in (kind_is j) (bits_are j))
    ∙ sym (get-values kinds bits i k b v long (omega (arith, within, long-as kinds bits x long is))) ∙ ap (λ vs. get_or vs i v) is

pub is-set : (kinds : List ValueKind) (bits : List ℕ) (x : List Value) (i : ℕ) (k : ValueKind) (b : ℕ) (v : Value) → values_in kinds bits ≡ x
    → value_in k b ≡ v → values_in (set kinds i k) (set bits i b) ≡ set x i v
is-set kinds bits x i k b v is made = set-values kinds bits i k b ∙ (λ j. set (is j) i (made j))

pub is-cleared : (kinds : List ValueKind) (bits : List ℕ) (x : List Value) (i : ℕ) → values_in kinds bits ≡ x
    → values_in (set kinds i kind.Top) bits ≡ set x i value.Top
is-cleared kinds bits x i is = clear-values kinds bits i ∙ ap (λ vs. set vs i value.Top) is

pub is-copied : (kinds : List ValueKind) (bits : List ℕ) (x : List Value) (from to : ℕ) (k : ValueKind) (b : ℕ) → length kinds ≡ length bits
    → values_in kinds bits ≡ x → from < length x → k ≡ get_or kinds from k → b ≡ get_or bits from b
    → values_in (set kinds to k) (set bits to b) ≡ set x to (get_or x from value.Top)
is-copied kinds bits x from to k b long is within kind_is bits_are =
    is-set kinds bits x to k b (get_or x from value.Top) is
    ((λ j. value_in (kind_is j) (bits_are j))
    ∙ sym (get-values kinds bits from k b value.Top long (omega (arith, within, long-as kinds bits x long is)))
    ∙ ap (λ vs. get_or vs from value.Top) is)

pub is-pushed : (kinds more : List ValueKind) (bits others : List ℕ) (x : List Value) (k : ValueKind) (b : ℕ) (v : Value) → length kinds ≡ length bits
    → values_in kinds bits ≡ x → more ≡ kinds ++ k ∷ [] → others ≡ bits ++ b ∷ [] → value_in k b ≡ v → values_in more others ≡ x ++ v ∷ []
is-pushed kinds more bits others x k b v long is kinds_are bits_are made =
    (λ j. values_in (kinds_are j) (bits_are j)) ∙ append-values kinds (k ∷ []) bits (b ∷ []) long ∙ (λ j. is j ++ made j ∷ [])

pub is-lengthened : (kinds more : List ValueKind) (bits others : List ℕ) (x : List Value) (len : ℕ) → length kinds ≡ length bits → values_in kinds bits ≡ x
    → length x ≤ len → more ≡ take len kinds ++ replicate (len - length kinds) kind.Top → others ≡ take len bits ++ replicate (len - length bits) 0
    → values_in more others ≡ x ++ replicate (len - length x) value.Top
is-lengthened kinds more bits others x len long is within kinds_are bits_are =
    let same : length x ≡ length kinds = long-as kinds bits x long is in
    let n : ℕ = len - length kinds in
    let m : ℕ = len - length bits in
    let all : more ≡ kinds ++ replicate n kind.Top =
    kinds_are ∙ ap (λ ks. ks ++ replicate n kind.Top) (take_all len kinds (omega (arith, within, same))) in
    let whole : others ≡ bits ++ replicate m 0 =
    bits_are ∙ ap (λ bs. bs ++ replicate m 0) (take_all len bits (omega (arith, within, same, long))) in
    (λ j. values_in (all j) (whole j)) ∙ append-values kinds (replicate n kind.Top) bits (replicate m 0) long
    ∙ (λ j. is j ++ no-values n (replicate m 0) (length-replicate m 0 ∙ (let e : m ≡ n = omega (arith, long) in e)) j)
    ∙ ap (λ k. x ++ replicate (len - k) value.Top) (sym same)

pub is-cut : (kinds fewer : List ValueKind) (bits others : List ℕ) (x : List Value) (len : ℕ) → values_in kinds bits ≡ x
    → fewer ≡ take len kinds → others ≡ take len bits → values_in fewer others ≡ take len x
is-cut kinds fewer bits others x len is kinds_are bits_are =
    (λ j. values_in (kinds_are j) (bits_are j)) ∙ take-values len kinds bits ∙ ap (take len) is
