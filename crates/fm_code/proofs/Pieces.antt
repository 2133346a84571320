-- What a piece that is read has: its spelling is what was taken from the front, and its spelling is read as it.
use Rattle.std.proofs.Common.{◌≡◌, ℕ, zero, suc, ◌≤◌, ◌<◌, ◌^◌, false, ltb, List, [], ◌∷◌, ◌++◌, length, take, drop, get_or, Option, Some, None, refl, sym, ap, subst, ◌∙◌, append_assoc, arith}
use Rattle.std.specs.List.{flat_map, AllByRecursion}
use Rattle.std.proofs.lemmas.Bool.{ltb-false, le-ltb}
use Rattle.std.proofs.lemmas.List.{append-nil, nil_from_length, take_at, drop_at, take-append-drop, length-append, length-take}
use Rattle.std.proofs.lemmas.List.Elements.{All-from_get_or, recursion_from_All}
use Rattle.std.proofs.lemmas.List.Concat.{flat_map-cons}
use Rattle.byteorder.specs.Endian.{big_number}
use Rattle.fm_base.proofs.OptionFacts.{cond-some_else}
use Rattle.fm_code.specs.Numbers.{two, four, eight}
use Rattle.fm_code.specs.ClassBytes.{counted, raw_bytes}
use Rattle.fm_code.specs.Fits.{AreBytes, CountedFits, FitsTwo, FitsFour, IsByte, RawFits}
use Rattle.fm_code.specs.declared.class_file.Raw.{Raw}
use Rattle.fm_code.proofs.Bytes.{AreBytes-take, AreBytes-drop, length-two, length-four, length-eight, big_number-lt, big_number-two, big_number-four, big_number-eight, two-big_number, four-big_number, eight-big_number, FitsTwo-big_number, FitsFour-big_number}
use Rattle.fm_code.specs.inner.Reading.{◌>>=◌, number_at, bytes_at, several_at, counted_at, raw_at}

-- ---- steps that didn't fail

pub bind_some : {A B : Type 0} (o : Option A) (f : A → Option B) (y : B) → (o >>= f) ≡ Some y → (x : A) × (o ≡ Some x) × (f x ≡ Some y)
bind_some (Some x) f y e = (x, refl, e)
bind_some None f y e = absurd cc

abbrev done : {A : Type 0} → A → Option A
done x = Some x

pub some_is : {A : Type 0} (x y : A) → done x ≡ done y → x ≡ y
some_is x y e = cc

-- ---- what is taken from the front

pub record Takes (bytes text rest : List ℕ) : Type 0 where
  pub parts : bytes ≡ text ++ rest
  pub rest_fits : AreBytes rest

pub Takes-then : (a x b y c : List ℕ) → Takes a x b → Takes b y c → Takes a (x ++ y) c
Takes-then a x b y c p q = record { parts = p.parts ∙ ap (λ (t : List ℕ). x ++ t) q.parts ∙ sym (append_assoc x y c); rest_fits = q.rest_fits }

pub record IsPiece {X : Type 0} (piece_at : List ℕ → Option (X × List ℕ)) (spell : X → List ℕ) (Fits : X → Type 0) : Type 0 where
  pub takes : (bytes : List ℕ) (x : X × List ℕ) → AreBytes bytes → piece_at bytes ≡ Some x → Takes bytes (spell x.0) x.1 × Fits x.0
  pub again : (x : X) (rest : List ℕ) → Fits x → piece_at (spell x ++ rest) ≡ Some (x, rest)

-- ---- numbers and bytes

-- enough bytes, their number, and those after it
pub number_parts : (size : ℕ) (bytes : List ℕ) (x : ℕ × List ℕ) → number_at size bytes ≡ Some x → (size ≤ length bytes) × (big_number size bytes ≡ x.0) × (drop size bytes ≡ x.1)
number_parts size bytes x e =
    let g = cond-some_else (ltb (length bytes) size) (Some (big_number size bytes, drop size bytes)) x e in
    let same = some_is (big_number size bytes, drop size bytes) x g.1 in
    (ltb-false _ _ g.0, ap (λ (p : ℕ × List ℕ). p.0) same, ap (λ (p : ℕ × List ℕ). p.1) same)

two_takes : (bytes : List ℕ) (x : ℕ × List ℕ) → AreBytes bytes → number_at 2 bytes ≡ Some x → Takes bytes (two x.0) x.1 × FitsTwo x.0
two_takes bytes x fits e =
    let p = number_parts 2 bytes x e in
    let front : two x.0 ≡ take 2 bytes = rw (← p.1) (two-big_number bytes p.0 fits) in
    (record { parts = rw (front, ← p.2) (sym (take-append-drop 2 bytes)); rest_fits = rw (← p.2) (AreBytes-drop 2 bytes fits) }, rw (← p.1) (FitsTwo-big_number bytes p.0 fits))

two_again : (n : ℕ) (rest : List ℕ) → FitsTwo n → number_at 2 (two n ++ rest) ≡ Some (n, rest)
two_again n rest fits =
    let size = length-two n in
    let long : ltb (length (two n ++ rest)) 2 ≡ false = le-ltb _ _ (omega (arith, length-append (two n) rest)) in
    rw (long, big_number-two n rest fits, drop_at (two n) rest 2 size) refl

pub two_piece : IsPiece (number_at 2) two FitsTwo
two_piece = record { takes = two_takes; again = two_again }

four_takes : (bytes : List ℕ) (x : ℕ × List ℕ) → AreBytes bytes → number_at 4 bytes ≡ Some x → Takes bytes (four x.0) x.1 × FitsFour x.0
four_takes bytes x fits e =
    let p = number_parts 4 bytes x e in
    let front : four x.0 ≡ take 4 bytes = rw (← p.1) (four-big_number bytes p.0 fits) in
    (record { parts = rw (front, ← p.2) (sym (take-append-drop 4 bytes)); rest_fits = rw (← p.2) (AreBytes-drop 4 bytes fits) }, rw (← p.1) (FitsFour-big_number bytes p.0 fits))

four_again : (n : ℕ) (rest : List ℕ) → FitsFour n → number_at 4 (four n ++ rest) ≡ Some (n, rest)
four_again n rest fits =
    let size = length-four n in
    let long : ltb (length (four n ++ rest)) 4 ≡ false = le-ltb _ _ (omega (arith, length-append (four n) rest)) in
    rw (long, big_number-four n rest fits, drop_at (four n) rest 4 size) refl

pub four_piece : IsPiece (number_at 4) four FitsFour
four_piece = record { takes = four_takes; again = four_again }

eight_takes : (bytes : List ℕ) (x : ℕ × List ℕ) → AreBytes bytes → number_at 8 bytes ≡ Some x → Takes bytes (eight x.0) x.1 × (x.0 < 2 ^ 64)
eight_takes bytes x fits e =
    let p = number_parts 8 bytes x e in
    let front : eight x.0 ≡ take 8 bytes = rw (← p.1) (eight-big_number bytes p.0 fits) in
    (record { parts = rw (front, ← p.2) (sym (take-append-drop 8 bytes)); rest_fits = rw (← p.2) (AreBytes-drop 8 bytes fits) }, rw (← p.1) (big_number-lt 8 bytes p.0 fits))

eight_again : (n : ℕ) (rest : List ℕ) → n < 2 ^ 64 → number_at 8 (eight n ++ rest) ≡ Some (n, rest)
eight_again n rest fits =
    let size = length-eight n in
    let long : ltb (length (eight n ++ rest)) 8 ≡ false = le-ltb _ _ (omega (arith, length-append (eight n) rest)) in
    rw (long, big_number-eight n rest fits, drop_at (eight n) rest 8 size) refl

pub eight_piece : IsPiece (number_at 8) eight (λ n. n < 2 ^ 64)
eight_piece = record { takes = eight_takes; again = eight_again }

one_takes : (bytes : List ℕ) (x : ℕ × List ℕ) → AreBytes bytes → number_at 1 bytes ≡ Some x → Takes bytes (x.0 ∷ []) x.1 × IsByte x.0
one_takes [] x fits e = absurd (let p = number_parts 1 [] x e in omega (arith, p.0))
one_takes (b ∷ bytes) x fits e =
    let p = number_parts 1 (b ∷ bytes) x e in
    let same : b ≡ x.0 = omega (arith, p.1) in
    (record { parts = rw (same, ← p.2) refl; rest_fits = rw (← p.2) fits.1 }, rw (← same) fits.0)

one_again : (b : ℕ) (rest : List ℕ) → IsByte b → number_at 1 (b ∷ rest) ≡ Some (b, rest)
one_again b rest fits =
    let long : ltb (length (b ∷ rest)) 1 ≡ false = le-ltb _ _ (omega arith) in
    let same : big_number 1 (b ∷ rest) ≡ b = omega arith in
    rw (long, same) refl

pub one_piece : IsPiece (number_at 1) (λ b. b ∷ []) IsByte
one_piece = record { takes = one_takes; again = one_again }

-- a given number of bytes, unchanged
pub bytes_takes : (size : ℕ) (bytes : List ℕ) (x : List ℕ × List ℕ) → AreBytes bytes → bytes_at size bytes ≡ Some x → Takes bytes x.0 x.1 × (length x.0 ≡ size) × AreBytes x.0
bytes_takes size bytes x fits e =
    let g = cond-some_else (ltb (length bytes) size) (Some (take size bytes, drop size bytes)) x e in
    let enough : size ≤ length bytes = ltb-false _ _ g.0 in
    let same = some_is (take size bytes, drop size bytes) x g.1 in
    subst (λ (y : List ℕ × List ℕ). Takes bytes y.0 y.1 × (length y.0 ≡ size) × AreBytes y.0) same
    (record { parts = sym (take-append-drop size bytes); rest_fits = AreBytes-drop size bytes fits }, omega (arith, length-take size bytes), AreBytes-take size bytes fits)

pub bytes_again : (size : ℕ) (text rest : List ℕ) → length text ≡ size → bytes_at size (text ++ rest) ≡ Some (text, rest)
bytes_again size text rest same =
    let long : ltb (length (text ++ rest)) size ≡ false = le-ltb _ _ (omega (arith, length-append text rest)) in
    rw (long, take_at text rest size same, drop_at text rest size same) refl

-- ---- pieces one after the other

pub several_takes : {X : Type 0} (piece_at : List ℕ → Option (X × List ℕ)) (spell : X → List ℕ) (Fits : X → Type 0) → IsPiece piece_at spell Fits
    → (count : ℕ) (bytes : List ℕ) (x : List X × List ℕ) → AreBytes bytes → several_at piece_at count bytes ≡ Some x → Takes bytes (flat_map spell x.0) x.1 × (length x.0 ≡ count) × AllByRecursion Fits x.0
unfolding several_at
several_takes {X = X} piece_at spell Fits piece zero bytes x fits e =
    subst (λ (y : List X × List ℕ). Takes bytes (flat_map spell y.0) y.1 × (length y.0 ≡ 0) × AllByRecursion Fits y.0) (some_is ([], bytes) x e) (record { parts = refl; rest_fits = fits }, refl, tt)
several_takes {X = X} piece_at spell Fits piece (suc count) bytes x fits e =
    let a = bind_some (piece_at bytes) (λ first. several_at piece_at count first.1 >>= λ others. Some (first.0 ∷ others.0, others.1)) x e in
    let b = bind_some (several_at piece_at count a.0.1) (λ others. Some (a.0.0 ∷ others.0, others.1)) x a.2 in
    let first = piece.takes bytes a.0 fits a.1 in
    let second = several_takes piece_at spell Fits piece count a.0.1 b.0 first.0.rest_fits b.1 in
    let both = Takes-then bytes (spell a.0.0) a.0.1 (flat_map spell b.0.0) b.0.1 first.0 second.0 in
    let made : List X × List ℕ = (a.0.0 ∷ b.0.0, b.0.1) in
    subst (λ (y : List X × List ℕ). Takes bytes (flat_map spell y.0) y.1 × (length y.0 ≡ suc count) × AllByRecursion Fits y.0) (some_is made x b.2) (rw flat_map-cons both, ap suc second.1, (first.1, second.2))

pub several_again : {X : Type 0} (piece_at : List ℕ → Option (X × List ℕ)) (spell : X → List ℕ) (Fits : X → Type 0) → IsPiece piece_at spell Fits
    → (xs : List X) (rest : List ℕ) → AllByRecursion Fits xs → several_at piece_at (length xs) (flat_map spell xs ++ rest) ≡ Some (xs, rest)
unfolding several_at
several_again piece_at spell Fits piece [] rest fits = refl
several_again piece_at spell Fits piece (x ∷ xs) rest fits =
    let regrouped : flat_map spell (x ∷ xs) ++ rest ≡ spell x ++ (flat_map spell xs ++ rest) = ap (λ (bytes : List ℕ). bytes ++ rest) (flat_map-cons spell x xs) ∙ append_assoc (spell x) (flat_map spell xs) rest in
    ap (several_at piece_at (suc (length xs))) regrouped ∙ rw (piece.again x (flat_map spell xs ++ rest) fits.0, several_again piece_at spell Fits piece xs rest fits.1) refl

pub counted_takes : {X : Type 0} (piece_at : List ℕ → Option (X × List ℕ)) (spell : X → List ℕ) (Fits : X → Type 0) → IsPiece piece_at spell Fits
    → (bytes : List ℕ) (x : List X × List ℕ) → AreBytes bytes → counted_at piece_at bytes ≡ Some x → Takes bytes (counted spell x.0) x.1 × CountedFits Fits x.0
unfolding counted_at
counted_takes piece_at spell Fits piece bytes x fits e =
    let a = bind_some (number_at 2 bytes) (λ count. several_at piece_at count.0 count.1) x e in
    let t0 = two_piece.takes bytes a.0 fits a.1 in
    let t1 = several_takes piece_at spell Fits piece a.0.0 a.0.1 x t0.0.rest_fits a.2 in
    let both = Takes-then bytes (two a.0.0) a.0.1 (flat_map spell x.0) x.1 t0.0 t1.0 in
    (subst (λ (n : ℕ). Takes bytes (two n ++ flat_map spell x.0) x.1) (sym t1.1) both, record { count = subst FitsTwo (sym t1.1) t0.1; each = t1.2 })

pub counted_again : {X : Type 0} (piece_at : List ℕ → Option (X × List ℕ)) (spell : X → List ℕ) (Fits : X → Type 0) → IsPiece piece_at spell Fits
    → (xs : List X) (rest : List ℕ) → CountedFits Fits xs → counted_at piece_at (counted spell xs ++ rest) ≡ Some (xs, rest)
unfolding counted_at
counted_again piece_at spell Fits piece xs rest fits =
    ap (counted_at piece_at) (append_assoc (two (length xs)) (flat_map spell xs) rest)
    ∙ rw (two_piece.again (length xs) (flat_map spell xs ++ rest) fits.count) (several_again piece_at spell Fits piece xs rest fits.each)

pub counted_piece : {X : Type 0} (piece_at : List ℕ → Option (X × List ℕ)) (spell : X → List ℕ) (Fits : X → Type 0) → IsPiece piece_at spell Fits → IsPiece (counted_at piece_at) (counted spell) (CountedFits Fits)
counted_piece piece_at spell Fits piece = record { takes = counted_takes piece_at spell Fits piece; again = counted_again piece_at spell Fits piece }

-- the bytes of a slice are bytes
pub all_bytes : (bytes : List ℕ) → ((i : ℕ) → get_or bytes i 0 < 256) → AreBytes bytes
all_bytes bytes h = recursion_from_All IsByte bytes (All-from_get_or IsByte bytes 0 (λ i lt. h i))

-- ---- a step of a reading

-- a piece was read, and what comes next gave the value
pub after_piece : {X Y P : Type 0} {piece_at : List ℕ → Option (X × List ℕ)} {spell : X → List ℕ} {Fits : X → Type 0} → IsPiece piece_at spell Fits → (bytes : List ℕ) (next : X × List ℕ → Option Y) (y : Y) → AreBytes bytes → (piece_at bytes >>= next) ≡ Some y →
    ((x : X) (rest : List ℕ) → Takes bytes (spell x) rest → Fits x → next (x, rest) ≡ Some y → P) → P
after_piece {piece_at = piece_at} piece bytes next y fits e go =
    let read = bind_some (piece_at bytes) next y e in
    let taken = piece.takes bytes read.0 fits read.1 in
    go read.0.0 read.0.1 taken.0 taken.1 read.2

-- ---- attributes

raw_made : (bytes : List ℕ) (x : Raw × List ℕ) (name size : ℕ) (body rest : List ℕ) → Takes bytes (two name ++ (four size ++ body)) rest → length body ≡ size → FitsTwo name → FitsFour size → AreBytes body →
    (record { name = name; bytes = body }, rest) ≡ x → Takes bytes (raw_bytes x.0) x.1 × RawFits x.0
unfolding raw_bytes
raw_made bytes x name size body rest taken sized name_fits size_fits body_fits made =
    subst (λ (y : Raw × List ℕ). Takes bytes (raw_bytes y.0) y.1 × RawFits y.0) made (
      subst (λ (n : ℕ). Takes bytes (two name ++ (four n ++ body)) rest) (sym sized) taken,
      record { name = name_fits; size = subst FitsFour (sym sized) size_fits; bytes = body_fits },
    )

raw_takes : (bytes : List ℕ) (x : Raw × List ℕ) → AreBytes bytes → raw_at bytes ≡ Some x → Takes bytes (raw_bytes x.0) x.1 × RawFits x.0
unfolding raw_at raw_bytes
raw_takes bytes x fits e =
    after_piece two_piece bytes _ x fits e λ name a t0 name_fits e0.
    after_piece four_piece a _ x t0.rest_fits e0 λ size c t1 size_fits e1.
    let body = bind_some (bytes_at size c) (λ body. Some (record { name = name; bytes = body.0 }, body.1)) x e1 in
    let t2 = bytes_takes size c body.0 t1.rest_fits body.1 in
    raw_made bytes x name size body.0.0 body.0.1 (Takes-then bytes (two name) a (four size ++ body.0.0) body.0.1 t0 (Takes-then a (four size) c body.0.0 body.0.1 t1 t2.0)) t2.1 name_fits size_fits t2.2 (some_is _ x body.2)

pub raw_again : (a : Raw) (rest : List ℕ) → FitsTwo a.name → FitsFour (length a.bytes) → raw_at (raw_bytes a ++ rest) ≡ Some (a, rest)
unfolding raw_at raw_bytes
raw_again a rest name_fits size_fits =
    let regrouped : raw_bytes a ++ rest ≡ two a.name ++ (four (length a.bytes) ++ (a.bytes ++ rest)) = simp append_assoc in
    ap raw_at regrouped
    ∙ rw (two_piece.again a.name (four (length a.bytes) ++ (a.bytes ++ rest)) name_fits, four_piece.again (length a.bytes) (a.bytes ++ rest) size_fits, bytes_again (length a.bytes) a.bytes rest refl) refl

pub raw_piece : IsPiece raw_at raw_bytes RawFits
raw_piece = record { takes = raw_takes; again = λ a rest fits. raw_again a rest fits.name fits.size }

pub raws_piece : IsPiece (counted_at raw_at) (counted raw_bytes) (CountedFits RawFits)
raws_piece = counted_piece raw_at raw_bytes RawFits raw_piece

-- ---- all of the bytes

-- the last piece of all of the bytes
pub all_of : (bytes text rest : List ℕ) → Takes bytes text rest → length rest ≡ 0 → bytes ≡ text
all_of bytes text rest taken none = taken.parts ∙ ap (λ (r : List ℕ). text ++ r) (nil_from_length rest none) ∙ append-nil text

-- a piece, and all that is after it
pub then_all : (bytes text rest all : List ℕ) → Takes bytes text rest → rest ≡ all → bytes ≡ text ++ all
then_all bytes text rest all taken e = taken.parts ∙ ap (λ (r : List ℕ). text ++ r) e
