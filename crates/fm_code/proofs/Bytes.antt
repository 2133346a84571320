-- Numbers and their bytes: the bytes of a number that was read are the bytes that were read, and numbers that fit are distinguished by their bytes.
use Rattle.std.proofs.Common.{◌≡◌, ℕ, zero, suc, ◌+◌, ◌*◌, ◌/◌, ◌%◌, ◌^◌, ◌<◌, ◌≤◌, List, [], ◌∷◌, ◌++◌, length, take, drop, ℤ, refl, ap, sym, ◌∙◌, arith}
use Rattle.std.proofs.Math.Nat.{div-one, mul-add-div_right, mul-add-mod_self_right, mod-eq_of_lt, mod-lt, mul_assoc, mul-le-mul_right, pow-succ', one-le-pow}
use Rattle.std.proofs.lemmas.Nat.{div-mul-add}
use Rattle.std.proofs.lemmas.Int.{ints, to_z-of_z, of_z-to_z}
use Rattle.std.specs.Int.{w32, w64, cast_unsigned, cast_signed, byte_at, bytes_high_first}
use Rattle.std.specs.Prelude.{FitsSigned}
use Rattle.byteorder.specs.Endian.{big_from, big_number, big_bytes}
use Rattle.byteorder.specs.Numbers.{big_from-cons, length-bytes_high_first, big_number-reads_back}
use Rattle.fm_code.specs.Numbers.{two, four, eight, signed_four, signed_eight}
use Rattle.fm_code.specs.ClassBytes.{magic}
use Rattle.fm_code.specs.Fits.{AreBytes, FitsTwo, FitsFour}
use Rattle.fm_code.specs.declared.class_file.TheConstants.{MAGIC}

-- a byte of a number, by its place
byte_at-pow : (k x : ℕ) → byte_at k x ≡ x / 256 ^ k % 256
byte_at-pow zero x = ap (λ (n : ℕ). n % 256) (sym (div-one x))
byte_at-pow (suc k) x = refl

-- a power of 256 is above 0
pow_pos256 : (n : ℕ) → zero < 256 ^ n
pow_pos256 n = let least = one-le-pow n 256 (omega arith) in omega arith

-- what is above the lowest k bytes doesn't show in them
bytes_high_first-above : (k b r : ℕ) → bytes_high_first k (b * 256 ^ k + r) ≡ bytes_high_first k r
bytes_high_first-above zero b r = refl
bytes_high_first-above (suc k) b r =
    let shifted : b * 256 ^ suc k ≡ b * 256 * 256 ^ k = ap (λ (n : ℕ). b * n) (pow-succ' 256 k) ∙ sym (mul_assoc b 256 (256 ^ k)) in
    let quotient : (b * 256 * 256 ^ k + r) / 256 ^ k ≡ b * 256 + r / 256 ^ k = mul-add-div_right (pow_pos256 k) (b * 256) r in
    let head : byte_at k (b * 256 ^ suc k + r) ≡ byte_at k r =
    byte_at-pow k (b * 256 ^ suc k + r) ∙ ap (λ (n : ℕ). (n + r) / 256 ^ k % 256) shifted ∙ ap (λ (n : ℕ). n % 256) quotient
    ∙ mul-add-mod_self_right b 256 (r / 256 ^ k) ∙ sym (byte_at-pow k r) in
    ap (λ (n : ℕ). n ∷ bytes_high_first k (b * 256 ^ suc k + r)) head
    ∙ ap (λ (n : ℕ). byte_at k r ∷ bytes_high_first k (n + r)) shifted
    ∙ ap (λ (bytes : List ℕ). byte_at k r ∷ bytes) (bytes_high_first-above k (b * 256) r)

-- n bytes make a number below 256 to the n-th power
pub big_number-lt : (n : ℕ) (xs : List ℕ) → n ≤ length xs → AreBytes xs → big_number n xs < 256 ^ n
big_number-lt zero xs enough bytes = omega arith
big_number-lt (suc n) [] enough bytes = absurd (omega arith)
big_number-lt (suc n) (x ∷ xs) enough (byte, bytes) =
    let moved = big_from-cons 0 n x xs in
    let rest = big_number-lt n xs (omega arith) bytes in
    let top : x * 256 ^ n ≤ 255 * 256 ^ n = mul-le-mul_right (256 ^ n) (omega arith) in
    rw (moved, pow-succ' 256 n) (omega arith)

-- the bytes of the number that n bytes make are those n bytes
pub big_bytes-big_number : (n : ℕ) (xs : List ℕ) → n ≤ length xs → AreBytes xs → big_bytes n (big_number n xs) ≡ take n xs
big_bytes-big_number zero xs enough bytes = refl
big_bytes-big_number (suc n) [] enough bytes = absurd (omega arith)
big_bytes-big_number (suc n) (x ∷ xs) enough (byte, bytes) =
    let rest = big_number n xs in
    let moved : big_from 1 n (x ∷ xs) ≡ rest = big_from-cons 0 n x xs in
    let fits = big_number-lt n xs (omega arith) bytes in
    let head : byte_at n (x * 256 ^ n + rest) ≡ x =
    byte_at-pow n (x * 256 ^ n + rest) ∙ ap (λ (q : ℕ). q % 256) (div-mul-add x (256 ^ n) rest fits) ∙ mod-eq_of_lt byte in
    let tail : bytes_high_first n (x * 256 ^ n + rest) ≡ take n xs = bytes_high_first-above n x rest ∙ big_bytes-big_number n xs (omega arith) bytes in
    ap (λ (r : ℕ). bytes_high_first (suc n) (x * 256 ^ n + r)) moved
    ∙ ap (λ (b : ℕ). b ∷ bytes_high_first n (x * 256 ^ n + rest)) head
    ∙ ap (λ (bs : List ℕ). x ∷ bs) tail

-- the bytes of a number are bytes
pub AreBytes-big_bytes : (n x : ℕ) → AreBytes (big_bytes n x)
AreBytes-big_bytes zero x = tt
AreBytes-big_bytes (suc n) x =
    let byte : x / 256 ^ n % 256 < 256 = mod-lt (x / 256 ^ n) (omega arith) in
    (rw (byte_at-pow n x) byte, AreBytes-big_bytes n x)

-- ---- two, four and eight bytes

-- what the names stand for
pub two-bytes : (x : ℕ) → two x ≡ big_bytes 2 x
unfolding two
two-bytes x = refl

pub four-bytes : (x : ℕ) → four x ≡ big_bytes 4 x
unfolding four
four-bytes x = refl

pub eight-bytes : (x : ℕ) → eight x ≡ big_bytes 8 x
unfolding eight
eight-bytes x = refl

pub signed_four-bytes : (z : ℤ) → signed_four z ≡ four (cast_unsigned w32 z)
unfolding signed_four
signed_four-bytes z = refl

pub signed_eight-bytes : (z : ℤ) → signed_eight z ≡ eight (cast_unsigned w64 z)
unfolding signed_eight
signed_eight-bytes z = refl

-- how many bytes there are
pub length-two : (x : ℕ) → length (two x) ≡ 2
unfolding two
length-two x = length-bytes_high_first 2 x

pub length-four : (x : ℕ) → length (four x) ≡ 4
unfolding four
length-four x = length-bytes_high_first 4 x

pub length-eight : (x : ℕ) → length (eight x) ≡ 8
unfolding eight
length-eight x = length-bytes_high_first 8 x

pub length-signed_four : (z : ℤ) → length (signed_four z) ≡ 4
unfolding signed_four
length-signed_four z = length-four (cast_unsigned w32 z)

pub length-signed_eight : (z : ℤ) → length (signed_eight z) ≡ 8
unfolding signed_eight
length-signed_eight z = length-eight (cast_unsigned w64 z)

-- each of them is a byte
pub AreBytes-two : (x : ℕ) → AreBytes (two x)
unfolding two
AreBytes-two x = AreBytes-big_bytes 2 x

pub AreBytes-four : (x : ℕ) → AreBytes (four x)
unfolding four
AreBytes-four x = AreBytes-big_bytes 4 x

pub AreBytes-eight : (x : ℕ) → AreBytes (eight x)
unfolding eight
AreBytes-eight x = AreBytes-big_bytes 8 x

pub AreBytes-signed_four : (z : ℤ) → AreBytes (signed_four z)
unfolding signed_four
AreBytes-signed_four z = AreBytes-four (cast_unsigned w32 z)

pub AreBytes-signed_eight : (z : ℤ) → AreBytes (signed_eight z)
unfolding signed_eight
AreBytes-signed_eight z = AreBytes-eight (cast_unsigned w64 z)

-- what the first bytes are read as
pub big_number-two : (x : ℕ) (rest : List ℕ) → FitsTwo x → big_number 2 (two x ++ rest) ≡ x
unfolding two
big_number-two x rest fits = big_number-reads_back 2 x rest fits

pub big_number-four : (x : ℕ) (rest : List ℕ) → FitsFour x → big_number 4 (four x ++ rest) ≡ x
unfolding four
big_number-four x rest fits = big_number-reads_back 4 x rest fits

pub big_number-eight : (x : ℕ) (rest : List ℕ) → x < 2 ^ 64 → big_number 8 (eight x ++ rest) ≡ x
unfolding eight
big_number-eight x rest fits = big_number-reads_back 8 x rest fits

-- the bytes that were read are those of the number
pub two-big_number : (xs : List ℕ) → 2 ≤ length xs → AreBytes xs → two (big_number 2 xs) ≡ take 2 xs
unfolding two
two-big_number xs enough bytes = big_bytes-big_number 2 xs enough bytes

pub four-big_number : (xs : List ℕ) → 4 ≤ length xs → AreBytes xs → four (big_number 4 xs) ≡ take 4 xs
unfolding four
four-big_number xs enough bytes = big_bytes-big_number 4 xs enough bytes

pub eight-big_number : (xs : List ℕ) → 8 ≤ length xs → AreBytes xs → eight (big_number 8 xs) ≡ take 8 xs
unfolding eight
eight-big_number xs enough bytes = big_bytes-big_number 8 xs enough bytes

-- what is read from a given number of bytes fits that number
pub FitsTwo-big_number : (xs : List ℕ) → 2 ≤ length xs → AreBytes xs → FitsTwo (big_number 2 xs)
FitsTwo-big_number xs enough bytes = big_number-lt 2 xs enough bytes

pub FitsFour-big_number : (xs : List ℕ) → 4 ≤ length xs → AreBytes xs → FitsFour (big_number 4 xs)
FitsFour-big_number xs enough bytes = big_number-lt 4 xs enough bytes

-- numbers that fit are distinguished by their bytes
pub two_injective : (x y : ℕ) → FitsTwo x → FitsTwo y → two x ≡ two y → x ≡ y
two_injective x y x_fits y_fits e =
    sym (big_number-two x [] x_fits) ∙ ap (λ (bytes : List ℕ). big_number 2 (bytes ++ [])) e ∙ big_number-two y [] y_fits

pub four_injective : (x y : ℕ) → FitsFour x → FitsFour y → four x ≡ four y → x ≡ y
four_injective x y x_fits y_fits e =
    sym (big_number-four x [] x_fits) ∙ ap (λ (bytes : List ℕ). big_number 4 (bytes ++ [])) e ∙ big_number-four y [] y_fits

pub eight_injective : (x y : ℕ) → x < 2 ^ 64 → y < 2 ^ 64 → eight x ≡ eight y → x ≡ y
eight_injective x y x_fits y_fits e =
    sym (big_number-eight x [] x_fits) ∙ ap (λ (bytes : List ℕ). big_number 8 (bytes ++ [])) e ∙ big_number-eight y [] y_fits

-- ---- signed numbers

-- a number's two's complement fits its width
cast_unsigned-w32_fits : (z : ℤ) → FitsSigned w32 z → cast_unsigned w32 z < 2 ^ 32
cast_unsigned-w32_fits z fits = omega (arith, ints)

cast_unsigned-w64_fits : (z : ℤ) → FitsSigned w64 z → cast_unsigned w64 z < 2 ^ 64
cast_unsigned-w64_fits z fits = omega (arith, ints)

-- the bytes of a signed number are read as it
pub big_number-signed_four : (z : ℤ) (rest : List ℕ) → FitsSigned w32 z → cast_signed w32 (big_number 4 (signed_four z ++ rest)) ≡ z
unfolding signed_four
big_number-signed_four z rest fits =
    ap (cast_signed w32) (big_number-four (cast_unsigned w32 z) rest (cast_unsigned-w32_fits z fits)) ∙ to_z-of_z w32 z fits

pub big_number-signed_eight : (z : ℤ) (rest : List ℕ) → FitsSigned w64 z → cast_signed w64 (big_number 8 (signed_eight z ++ rest)) ≡ z
unfolding signed_eight
big_number-signed_eight z rest fits =
    ap (cast_signed w64) (big_number-eight (cast_unsigned w64 z) rest (cast_unsigned-w64_fits z fits)) ∙ to_z-of_z w64 z fits

pub signed_four_injective : (x y : ℤ) → FitsSigned w32 x → FitsSigned w32 y → signed_four x ≡ signed_four y → x ≡ y
signed_four_injective x y x_fits y_fits e =
    sym (big_number-signed_four x [] x_fits) ∙ ap (λ (bytes : List ℕ). cast_signed w32 (big_number 4 (bytes ++ []))) e ∙ big_number-signed_four y [] y_fits

pub signed_eight_injective : (x y : ℤ) → FitsSigned w64 x → FitsSigned w64 y → signed_eight x ≡ signed_eight y → x ≡ y
signed_eight_injective x y x_fits y_fits e =
    sym (big_number-signed_eight x [] x_fits) ∙ ap (λ (bytes : List ℕ). cast_signed w64 (big_number 8 (bytes ++ []))) e ∙ big_number-signed_eight y [] y_fits

-- the bytes that were read are those of the signed number
pub signed_four-big_number : (xs : List ℕ) → 4 ≤ length xs → AreBytes xs → signed_four (cast_signed w32 (big_number 4 xs)) ≡ take 4 xs
unfolding signed_four
signed_four-big_number xs enough bytes =
    ap four (of_z-to_z w32 (big_number 4 xs) (big_number-lt 4 xs enough bytes)) ∙ four-big_number xs enough bytes

pub signed_eight-big_number : (xs : List ℕ) → 8 ≤ length xs → AreBytes xs → signed_eight (cast_signed w64 (big_number 8 xs)) ≡ take 8 xs
unfolding signed_eight
signed_eight-big_number xs enough bytes =
    ap eight (of_z-to_z w64 (big_number 8 xs) (big_number-lt 8 xs enough bytes)) ∙ eight-big_number xs enough bytes

-- ---- lists of bytes

-- bytes joined, cut at the end and cut at the start
pub AreBytes-append : (xs ys : List ℕ) → AreBytes xs → AreBytes ys → AreBytes (xs ++ ys)
AreBytes-append [] ys first second = second
AreBytes-append (x ∷ xs) ys (byte, first) second = (byte, AreBytes-append xs ys first second)

pub AreBytes-take : (n : ℕ) (xs : List ℕ) → AreBytes xs → AreBytes (take n xs)
AreBytes-take zero xs bytes = tt
AreBytes-take (suc n) [] bytes = tt
AreBytes-take (suc n) (x ∷ xs) (byte, bytes) = (byte, AreBytes-take n xs bytes)

pub AreBytes-drop : (n : ℕ) (xs : List ℕ) → AreBytes xs → AreBytes (drop n xs)
AreBytes-drop zero xs bytes = bytes
AreBytes-drop (suc n) [] bytes = tt
AreBytes-drop (suc n) (x ∷ xs) (byte, bytes) = AreBytes-drop n xs bytes

-- ---- the magic number

pub magic_bytes : four MAGIC ≡ magic
unfolding four
magic_bytes = refl
