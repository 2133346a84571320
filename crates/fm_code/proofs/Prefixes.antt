-- Spellings that determine where they end: numbers, counted lists, and attributes.
use Rattle.std.proofs.Common.{◌≡◌, ℕ, ◌^◌, ◌<◌, List, [], ◌∷◌, ◌++◌, length, take, drop, refl, ap, sym, ◌∙◌, arith, subst, Option, None, Some, IsSomeAnd, FitsSigned}
use Rattle.std.proofs.lemmas.List.{append_assoc, take_at, drop_at}
use Rattle.std.specs.Int.{w32, w64}
use Rattle.std.specs.List.{AllByRecursion, flat_map}
use Rattle.fm_code.specs.ConstantPool.{utf8_at}
use Rattle.fm_code.specs.Numbers.{two, four, eight, signed_four, signed_eight}
use Rattle.fm_code.specs.ClassBytes.{counted, attribute_bytes, raw_bytes}
use Rattle.fm_code.specs.Fits.{FitsTwo, FitsFour, CountedFits, RawFits}
use Rattle.fm_code.specs.declared.constant_pool.Entry.{Entry}
use Rattle.fm_base.proofs.ListFacts.{AllByRecursion-both}
use Rattle.fm_code.proofs.Bytes.{length-two, length-four, length-eight, length-signed_four, length-signed_eight, two_injective, four_injective, eight_injective, signed_four_injective, signed_eight_injective}

-- a value and what follows it are determined by the bytes
abbrev pub Cancels : {X : Type 0} → (X → List ℕ) → (X → Type 0) → Type 0
Cancels {X = X} spell Fits = (x y : X) (r s : List ℕ) → Fits x → Fits y → spell x ++ r ≡ spell y ++ s → (x ≡ y) × (r ≡ s)

-- a piece of a known length is determined by the bytes
pub split_same : (a b r s : List ℕ) → length a ≡ length b → a ++ r ≡ b ++ s → (a ≡ b) × (r ≡ s)
split_same a b r s same e = (
  sym (take_at a r (length b) same) ∙ ap (take (length b)) e ∙ take_at b s (length b) refl,
  sym (drop_at a r (length b) same) ∙ ap (drop (length b)) e ∙ drop_at b s (length b) refl,
)

-- the first of two pieces, in front of all that follows it
pub peel : (a x r b y s : List ℕ) → (a ++ x) ++ r ≡ (b ++ y) ++ s → a ++ (x ++ r) ≡ b ++ (y ++ s)
peel a x r b y s e = sym (append_assoc a x r) ∙ e ∙ append_assoc b y s

-- the equations E hold where the pieces p and q are in front of the same bytes, and what follows is the same
pub record Tells (p q : List ℕ) (E : Type 0) : Type 0 where
  pub cancel : (r s : List ℕ) → p ++ r ≡ q ++ s → E × (r ≡ s)

-- a value that the bytes determine
pub tells : {X : Type 0} (spell : X → List ℕ) (Fits : X → Type 0) → Cancels spell Fits → (x y : X) → Fits x → Fits y → Tells (spell x) (spell y) (x ≡ y)
tells spell Fits cancels x y x_fits y_fits = record { cancel = λ r s e. cancels x y r s x_fits y_fits e }

-- no piece determines nothing
pub tells_nothing : Tells [] [] (Unit {0})
tells_nothing = record { cancel = λ r s e. (tt, e) }

infixr 45 ◌then◌
infixr 45 ◌so◌
-- a second pair of pieces after the first, which may rest on what the first has determined
pub ◌so◌ : {p q p' q' : List ℕ} {E E' : Type 0} → Tells p q E → (E → Tells p' q' E') → Tells (p ++ p') (q ++ q') (E × E')
◌so◌ {p = p} {q = q} {p' = p'} {q' = q'} first second = record {
  cancel = λ r s e.
      let front = first.cancel (p' ++ r) (q' ++ s) (peel p p' r q q' s e) in
      let back = (second front.0).cancel r s front.1 in
      ((front.0, back.0), back.1);
}

-- a second pair of pieces after the first
pub ◌then◌ : {p q p' q' : List ℕ} {E E' : Type 0} → Tells p q E → Tells p' q' E' → Tells (p ++ p') (q ++ q') (E × E')
first then second = first so (λ _. second)

-- ---- numbers

pub Cancels-two : Cancels two FitsTwo
Cancels-two x y r s x_fits y_fits e =
    let pieces = split_same (two x) (two y) r s (length-two x ∙ sym (length-two y)) e in (two_injective x y x_fits y_fits pieces.0, pieces.1)

pub Cancels-four : Cancels four FitsFour
Cancels-four x y r s x_fits y_fits e =
    let pieces = split_same (four x) (four y) r s (length-four x ∙ sym (length-four y)) e in (four_injective x y x_fits y_fits pieces.0, pieces.1)

pub Cancels-eight : Cancels eight (λ (n : ℕ). n < 2 ^ 64)
Cancels-eight x y r s x_fits y_fits e =
    let pieces = split_same (eight x) (eight y) r s (length-eight x ∙ sym (length-eight y)) e in (eight_injective x y x_fits y_fits pieces.0, pieces.1)

pub Cancels-signed_four : Cancels signed_four (FitsSigned w32)
Cancels-signed_four x y r s x_fits y_fits e =
    let pieces = split_same (signed_four x) (signed_four y) r s (length-signed_four x ∙ sym (length-signed_four y)) e in
    (signed_four_injective x y x_fits y_fits pieces.0, pieces.1)

pub Cancels-signed_eight : Cancels signed_eight (FitsSigned w64)
Cancels-signed_eight x y r s x_fits y_fits e =
    let pieces = split_same (signed_eight x) (signed_eight y) r s (length-signed_eight x ∙ sym (length-signed_eight y)) e in
    (signed_eight_injective x y x_fits y_fits pieces.0, pieces.1)

-- ---- lists

-- as many elements, one after the other
pub cancel_elements : {X : Type 0} (spell : X → List ℕ) (Fits : X → Type 0) → Cancels spell Fits → (xs ys : List X) (r s : List ℕ) → length xs ≡ length ys →
    AllByRecursion Fits xs → AllByRecursion Fits ys → flat_map spell xs ++ r ≡ flat_map spell ys ++ s → (xs ≡ ys) × (r ≡ s)
cancel_elements spell Fits cancels [] [] r s same first second e = (refl, e)
cancel_elements spell Fits cancels [] (y ∷ ys) r s same first second e = absurd (omega arith)
cancel_elements spell Fits cancels (x ∷ xs) [] r s same first second e = absurd (omega arith)
cancel_elements spell Fits cancels (x ∷ xs) (y ∷ ys) r s same (x_fits, first) (y_fits, second) e =
    let head = cancels x y (flat_map spell xs ++ r) (flat_map spell ys ++ s) x_fits y_fits (peel (spell x) (flat_map spell xs) r (spell y) (flat_map spell ys) s e) in
    let tail = cancel_elements spell Fits cancels xs ys r s (omega arith) first second head.1 in
    (λ i. head.0 i ∷ tail.0 i, tail.1)

-- a list after its length
pub Cancels-counted : {X : Type 0} (spell : X → List ℕ) (Fits : X → Type 0) → Cancels spell Fits → Cancels (counted spell) (CountedFits Fits)
Cancels-counted spell Fits cancels xs ys r s xs_fit ys_fit e =
    let count = Cancels-two (length xs) (length ys) (flat_map spell xs ++ r) (flat_map spell ys ++ s) xs_fit.count ys_fit.count
    (peel (two (length xs)) (flat_map spell xs) r (two (length ys)) (flat_map spell ys) s e) in
    cancel_elements spell Fits cancels xs ys r s count.0 xs_fit.each ys_fit.each count.1

-- ---- attributes

-- an attribute's name, its bytes, and what follows
pub cancel_attribute : (name name' : ℕ) (body body' r s : List ℕ) → FitsTwo name → FitsTwo name' → FitsFour (length body) → FitsFour (length body') →
    attribute_bytes name body ++ r ≡ attribute_bytes name' body' ++ s → (name ≡ name') × (body ≡ body') × (r ≡ s)
cancel_attribute name name' body body' r s name_fits name'_fits size_fits size'_fits e =
    let first = Cancels-two name name' ((four (length body) ++ body) ++ r) ((four (length body') ++ body') ++ s) name_fits name'_fits
    (peel (two name) (four (length body) ++ body) r (two name') (four (length body') ++ body') s e) in
    let size = Cancels-four (length body) (length body') (body ++ r) (body' ++ s) size_fits size'_fits
    (peel (four (length body)) body r (four (length body')) body' s first.1) in
    let rest = split_same body body' r s size.0 size.1 in
    (first.0, rest.0, rest.1)

-- an attribute that is kept as it is
pub Cancels-raw : Cancels raw_bytes RawFits
unfolding raw_bytes
Cancels-raw x y r s x_fits y_fits e =
    let parts = cancel_attribute x.name y.name x.bytes y.bytes r s x_fits.name y_fits.name x_fits.size y_fits.size e in
    (λ i. record { name = parts.0 i; bytes = parts.1 i }, parts.2)

-- ---- pieces of a record

pub tells_two : (x y : ℕ) → FitsTwo x → FitsTwo y → Tells (two x) (two y) (x ≡ y)
tells_two x y x_fits y_fits = tells two FitsTwo Cancels-two x y x_fits y_fits

pub tells_four : (x y : ℕ) → FitsFour x → FitsFour y → Tells (four x) (four y) (x ≡ y)
tells_four x y x_fits y_fits = tells four FitsFour Cancels-four x y x_fits y_fits

pub tells_counted : {X : Type 0} (spell : X → List ℕ) (Fits : X → Type 0) → Cancels spell Fits → (xs ys : List X) → CountedFits Fits xs → CountedFits Fits ys →
    Tells (counted spell xs) (counted spell ys) (xs ≡ ys)
tells_counted spell Fits cancels xs ys xs_fit ys_fit = tells (counted spell) (CountedFits Fits) (Cancels-counted spell Fits cancels) xs ys xs_fit ys_fit

-- a piece of a known length
pub tells_same : (p q : List ℕ) → length p ≡ length q → Tells p q (p ≡ q)
tells_same p q same = record { cancel = λ r s e. split_same p q r s same e }

-- elements with a second property
pub CountedFits-both : {X : Type 0} (P Q : X → Type 0) (xs : List X) → CountedFits P xs → AllByRecursion Q xs → CountedFits (λ x. P x × Q x) xs
CountedFits-both P Q xs fits all = record { count = fits.count; each = AllByRecursion-both P Q xs fits.each all }

-- with nothing after it
pub told_alone : {X : Type 0} (spell : X → List ℕ) (Fits : X → Type 0) → Cancels spell Fits → (x y : X) → Fits x → Fits y → spell x ≡ spell y → x ≡ y
told_alone spell Fits cancels x y x_fits y_fits e = (cancels x y [] [] x_fits y_fits (ap (λ (bytes : List ℕ). bytes ++ []) e)).0

-- ---- texts that distinguish kinds

-- one index has one text
one_text : (o : Option (List ℕ)) (s t : List ℕ) → o ≡ Some s → o ≡ Some t → s ≡ t
one_text o s t first second = cc

-- what holds of a value that is there
some_and : {X : Type 0} (P : X → Type 0) (o : Option X) (x : X) → o ≡ Some x → IsSomeAnd o P → P x
some_and P None x e h = absurd h
some_and P (Some y) x e h = let same : y ≡ x = cc in subst P same h

-- two names at one index are one text
pub same_text : (entries : List Entry) (n m : ℕ) (s t : List ℕ) → n ≡ m → utf8_at entries n ≡ Some s → utf8_at entries m ≡ Some t → s ≡ t
same_text entries n m s t same first second = one_text (utf8_at entries n) s t first (ap (utf8_at entries) same ∙ second)

-- what holds of the text at an index holds of it
pub text_meets : (P : List ℕ → Type 0) (entries : List Entry) (n m : ℕ) (s : List ℕ) → n ≡ m → utf8_at entries n ≡ Some s → IsSomeAnd (utf8_at entries m) P → P s
text_meets P entries n m s same first second = some_and P (utf8_at entries m) s (ap (utf8_at entries) (sym same) ∙ first) second
