-- The constant pool as a piece.
use Rattle.std.proofs.Common.{inl, inr, ◌≡◌, ℕ, zero, suc, ◌<◌, Bool, true, false, cond, eqb, ltb, List, [], ◌∷◌, ◌++◌, length, take, Option, Some, refl, sym, ap, subst, ◌∙◌, append_assoc, arith, ◌^◌, ℤ}
use Rattle.std.specs.Prelude.{FitsSigned}
use Rattle.std.proofs.lemmas.Int.{ints}
use Rattle.std.specs.List.{flat_map, AllByRecursion}
use Rattle.std.specs.Int.{w32, w64, cast_signed}
use Rattle.std.proofs.lemmas.Bool.{eqb-true, le-ltb, cases_Bool}
use Rattle.std.proofs.lemmas.List.{drop_at, take-append-drop, length-append}
use Rattle.std.proofs.lemmas.List.Concat.{flat_map-cons}
use Rattle.fm_code.specs.ConstantPool.{takes_two, AreSlots}
use Rattle.fm_code.specs.Numbers.{two, four, eight, signed_four, signed_eight}
use Rattle.fm_code.specs.ClassBytes.{entry_bytes, counted}
use Rattle.fm_code.specs.Fits.{AreBytes, FitsTwo, IsByte, CountedFits, EntryFits}
use Rattle.fm_code.specs.declared.constant_pool.TheConstants.{CONSTANT_Utf8, CONSTANT_Integer, CONSTANT_Float, CONSTANT_Long, CONSTANT_Double, CONSTANT_Class, CONSTANT_String, CONSTANT_Fieldref, CONSTANT_Methodref, CONSTANT_InterfaceMethodref, CONSTANT_NameAndType, CONSTANT_MethodHandle, CONSTANT_MethodType, CONSTANT_InvokeDynamic}
use Rattle.fm_code.specs.declared.constant_pool.Entry.{Entry}
use Rattle.fm_code.specs.declared.constant_pool.Entry.TheVariants as entry
use Rattle.fm_code.proofs.Bytes.{AreBytes-drop, length-signed_four, length-signed_eight, big_number-lt, big_number-signed_four, big_number-signed_eight, signed_four-big_number, signed_eight-big_number}
use Rattle.fm_code.proofs.PoolPrefixes.{IsSpelledEntry, slots_spelled}
use Rattle.fm_code.specs.inner.Reading.{◌>>=◌, number_at, bytes_at}
use Rattle.fm_pool.specs.inner.Reading.{text_at, pair_at, handle_at, dynamic_after, entry_after, entry_at_front, slot_at, slots_at, pool_at}
use Rattle.fm_code.proofs.Pieces.{bind_some, some_is, Takes, Takes-then, IsPiece, number_parts, one_piece, two_piece, four_piece, eight_piece, bytes_takes, bytes_again}

-- ---- texts

-- a text after its length
abbrev pub text_bytes : List ℕ → List ℕ
text_bytes text = two (length text) ++ text

abbrev pub TextFits : List ℕ → Type 0
TextFits text = FitsTwo (length text) × AreBytes text

text_takes : (bytes : List ℕ) (x : List ℕ × List ℕ) → AreBytes bytes → text_at bytes ≡ Some x → Takes bytes (text_bytes x.0) x.1 × TextFits x.0
unfolding text_at
text_takes bytes x fits e =
    let a = bind_some (number_at 2 bytes) (λ size. bytes_at size.0 size.1) x e in
    let t0 = two_piece.takes bytes a.0 fits a.1 in
    let t1 = bytes_takes a.0.0 a.0.1 x t0.0.rest_fits a.2 in
    let both = Takes-then bytes (two a.0.0) a.0.1 x.0 x.1 t0.0 t1.0 in
    (subst (λ (n : ℕ). Takes bytes (two n ++ x.0) x.1) (sym t1.1) both, (subst FitsTwo (sym t1.1) t0.1, t1.2))

text_again : (text rest : List ℕ) → TextFits text → text_at (text_bytes text ++ rest) ≡ Some (text, rest)
unfolding text_at
text_again text rest h =
    ap text_at (append_assoc (two (length text)) text rest) ∙ rw (two_piece.again (length text) (text ++ rest) h.0) (bytes_again (length text) text rest refl)

-- ---- signed numbers and pairs

FitsSigned-w32 : (n : ℕ) → n < 2 ^ 32 → FitsSigned w32 (cast_signed w32 n)
FitsSigned-w32 n lt = omega (arith, ints)

FitsSigned-w64 : (n : ℕ) → n < 2 ^ 64 → FitsSigned w64 (cast_signed w64 n)
FitsSigned-w64 n lt = omega (arith, ints)

-- four bytes that are read as a signed number
four_takes : (bytes : List ℕ) (x : ℕ × List ℕ) → AreBytes bytes → number_at 4 bytes ≡ Some x → Takes bytes (signed_four (cast_signed w32 x.0)) x.1 × FitsSigned w32 (cast_signed w32 x.0)
four_takes bytes x fits e =
    let p = number_parts 4 bytes x e in
    let front : signed_four (cast_signed w32 x.0) ≡ take 4 bytes = rw (← p.1) (signed_four-big_number bytes p.0 fits) in
    let small : x.0 < 2 ^ 32 = rw (← p.1) (big_number-lt 4 bytes p.0 fits) in
    (record { parts = rw (front, ← p.2) (sym (take-append-drop 4 bytes)); rest_fits = rw (← p.2) (AreBytes-drop 4 bytes fits) }, FitsSigned-w32 x.0 small)

four_again : (z : ℤ) (rest : List ℕ) → FitsSigned w32 z → entry_after CONSTANT_Integer (signed_four z ++ rest) ≡ Some (entry.Integer z, rest)
unfolding entry_after
four_again z rest fits =
    let size = length-signed_four z in
    let long : ltb (length (signed_four z ++ rest)) 4 ≡ false = le-ltb _ _ (omega (arith, length-append (signed_four z) rest)) in
    rw (long, big_number-signed_four z rest fits, drop_at (signed_four z) rest 4 size) refl

-- eight bytes likewise
eight_takes : (bytes : List ℕ) (x : ℕ × List ℕ) → AreBytes bytes → number_at 8 bytes ≡ Some x → Takes bytes (signed_eight (cast_signed w64 x.0)) x.1 × FitsSigned w64 (cast_signed w64 x.0)
eight_takes bytes x fits e =
    let p = number_parts 8 bytes x e in
    let front : signed_eight (cast_signed w64 x.0) ≡ take 8 bytes = rw (← p.1) (signed_eight-big_number bytes p.0 fits) in
    let small : x.0 < 2 ^ 64 = rw (← p.1) (big_number-lt 8 bytes p.0 fits) in
    (record { parts = rw (front, ← p.2) (sym (take-append-drop 8 bytes)); rest_fits = rw (← p.2) (AreBytes-drop 8 bytes fits) }, FitsSigned-w64 x.0 small)

eight_again : (z : ℤ) (rest : List ℕ) → FitsSigned w64 z → entry_after CONSTANT_Long (signed_eight z ++ rest) ≡ Some (entry.Long z, rest)
unfolding entry_after
eight_again z rest fits =
    let size = length-signed_eight z in
    let long : ltb (length (signed_eight z ++ rest)) 8 ≡ false = le-ltb _ _ (omega (arith, length-append (signed_eight z) rest)) in
    rw (long, big_number-signed_eight z rest fits, drop_at (signed_eight z) rest 8 size) refl

abbrev pair_bytes : ℕ × ℕ → List ℕ
pair_bytes pair = two pair.0 ++ two pair.1

abbrev PairFits : ℕ × ℕ → Type 0
PairFits pair = FitsTwo pair.0 × FitsTwo pair.1

pair_takes : (bytes : List ℕ) (x : (ℕ × ℕ) × List ℕ) → AreBytes bytes → pair_at bytes ≡ Some x → Takes bytes (pair_bytes x.0) x.1 × PairFits x.0
unfolding pair_at
pair_takes bytes x fits e =
    let a = bind_some (number_at 2 bytes) (λ first. number_at 2 first.1 >>= λ second. Some ((first.0, second.0), second.1)) x e in
    let b = bind_some (number_at 2 a.0.1) (λ second. Some ((a.0.0, second.0), second.1)) x a.2 in
    let t0 = two_piece.takes bytes a.0 fits a.1 in
    let t1 = two_piece.takes a.0.1 b.0 t0.0.rest_fits b.1 in
    subst (λ (y : (ℕ × ℕ) × List ℕ). Takes bytes (pair_bytes y.0) y.1 × PairFits y.0) (some_is ((a.0.0, b.0.0), b.0.1) x b.2)
    (Takes-then bytes (two a.0.0) a.0.1 (two b.0.0) b.0.1 t0.0 t1.0, (t0.1, t1.1))

pair_again : (a b : ℕ) (rest : List ℕ) → FitsTwo a → FitsTwo b → pair_at ((two a ++ two b) ++ rest) ≡ Some ((a, b), rest)
unfolding pair_at
pair_again a b rest a_fits b_fits =
    ap pair_at (append_assoc (two a) (two b) rest) ∙ rw (two_piece.again a (two b ++ rest) a_fits, two_piece.again b rest b_fits) refl

-- the kind of a method handle, and an index
abbrev handle_bytes : ℕ × ℕ → List ℕ
handle_bytes handle = handle.0 ∷ two handle.1

abbrev HandleFits : ℕ × ℕ → Type 0
HandleFits handle = IsByte handle.0 × FitsTwo handle.1

handle_takes : (bytes : List ℕ) (x : (ℕ × ℕ) × List ℕ) → AreBytes bytes → handle_at bytes ≡ Some x → Takes bytes (handle_bytes x.0) x.1 × HandleFits x.0
unfolding handle_at
handle_takes bytes x fits e =
    let a = bind_some (number_at 1 bytes) (λ kind. number_at 2 kind.1 >>= λ member. Some ((kind.0, member.0), member.1)) x e in
    let b = bind_some (number_at 2 a.0.1) (λ member. Some ((a.0.0, member.0), member.1)) x a.2 in
    let t0 = one_piece.takes bytes a.0 fits a.1 in
    let t1 = two_piece.takes a.0.1 b.0 t0.0.rest_fits b.1 in
    subst (λ (y : (ℕ × ℕ) × List ℕ). Takes bytes (handle_bytes y.0) y.1 × HandleFits y.0) (some_is ((a.0.0, b.0.0), b.0.1) x b.2)
    (Takes-then bytes (a.0.0 ∷ []) a.0.1 (two b.0.0) b.0.1 t0.0 t1.0, (t0.1, t1.1))

handle_again : (a b : ℕ) (rest : List ℕ) → IsByte a → FitsTwo b → handle_at ((a ∷ two b) ++ rest) ≡ Some ((a, b), rest)
unfolding handle_at
handle_again a b rest a_fits b_fits = rw (one_piece.again a (two b ++ rest) a_fits, two_piece.again b rest b_fits) refl

-- ---- entries

-- an entry that is spelled
pub record IsReadEntry (e : Entry) : Type 0 where
  pub fits : EntryFits e
  pub spelled : IsSpelledEntry e

-- the entry, after its tag
abbrev TakesEntry : List ℕ → Entry × List ℕ → Type 0
TakesEntry bytes x = Takes bytes (entry_bytes x.0) x.1 × IsReadEntry x.0

-- what a step after a tag gives, made into an entry
made : {A : Type 0} (tag : ℕ) (bytes : List ℕ) (reading : Option (A × List ℕ)) (make : A → Entry) (spell : A → List ℕ) (x : Entry × List ℕ)
    → ((a : A) → entry_bytes (make a) ≡ tag ∷ spell a)
    → ((a : A × List ℕ) → reading ≡ Some a → Takes bytes (spell a.0) a.1 × IsReadEntry (make a.0))
    → (reading >>= λ a. Some (make a.0, a.1)) ≡ Some x → TakesEntry (tag ∷ bytes) x
made tag bytes reading make spell x spelled takes e =
    let a = bind_some reading (λ a. Some (make a.0, a.1)) x e in
    let t = takes a.0 a.1 in
    subst (TakesEntry (tag ∷ bytes)) (some_is (make a.0.0, a.0.1) x a.2)
    (record { parts = ap (λ (w : List ℕ). tag ∷ w) t.0.parts ∙ ap (λ (w : List ℕ). w ++ a.0.1) (sym (spelled a.0.0)); rest_fits = t.0.rest_fits }, t.1)

-- one more tag
by_tag : {A : Type 0} (tag known : ℕ) (here there : Option A) (x : A) (P : ℕ → Type 0) → (here ≡ Some x → P known) → (there ≡ Some x → P tag) → cond (eqb tag known) here there ≡ Some x → P tag
by_tag tag known here there x P known_tag other e =
    elim (cases_Bool (eqb tag known)) [
      | inl same ↦ subst P (sym (eqb-true tag known same)) (known_tag (rw same at e))
      | inr apart ↦ other (rw apart at e)
    ]

dynamic_after_takes : (tag : ℕ) (bytes : List ℕ) (x : Entry × List ℕ) → AreBytes bytes → dynamic_after tag bytes ≡ Some x → TakesEntry (tag ∷ bytes) x
unfolding dynamic_after entry_bytes
dynamic_after_takes tag bytes x fits e =
    let P : ℕ → Type 0 = λ t. TakesEntry (t ∷ bytes) x in
    by_tag tag CONSTANT_MethodHandle _ _ x P (made CONSTANT_MethodHandle bytes (handle_at bytes) (λ a. entry.MethodHandle a.0 a.1) handle_bytes x (λ a. refl) (λ a h. let t = handle_takes bytes a fits h in (t.0, record { fits = t.1; spelled = tt })))
    (λ no1. by_tag tag CONSTANT_MethodType _ _ x P (made CONSTANT_MethodType bytes (number_at 2 bytes) entry.MethodType two x (λ a. refl) (λ a h. let t = two_piece.takes bytes a fits h in (t.0, record { fits = t.1; spelled = tt })))
    (λ no2. by_tag tag CONSTANT_InvokeDynamic _ _ x P (made CONSTANT_InvokeDynamic bytes (pair_at bytes) (λ a. entry.InvokeDynamic a.0 a.1) pair_bytes x (λ a. refl) (λ a h. let t = pair_takes bytes a fits h in (t.0, record { fits = t.1; spelled = tt })))
    (λ no3. absurd cc) no2) no1) e

entry_after_takes : (tag : ℕ) (bytes : List ℕ) (x : Entry × List ℕ) → AreBytes bytes → entry_after tag bytes ≡ Some x → TakesEntry (tag ∷ bytes) x
unfolding entry_after entry_bytes
entry_after_takes tag bytes x fits e =
    let P : ℕ → Type 0 = λ t. TakesEntry (t ∷ bytes) x in
    by_tag tag CONSTANT_Utf8 _ _ x P (made CONSTANT_Utf8 bytes (text_at bytes) entry.Utf8 text_bytes x (λ a. refl) (λ a h. let t = text_takes bytes a fits h in (t.0, record { fits = t.1; spelled = tt })))
    (λ no1. by_tag tag CONSTANT_Integer _ _ x P (made CONSTANT_Integer bytes (number_at 4 bytes) (λ n. entry.Integer (cast_signed w32 n)) (λ n. signed_four (cast_signed w32 n)) x (λ a. refl) (λ a h. let t = four_takes bytes a fits h in (t.0, record { fits = t.1; spelled = tt })))
    (λ no2. by_tag tag CONSTANT_Float _ _ x P (made CONSTANT_Float bytes (number_at 4 bytes) entry.Float four x (λ a. refl) (λ a h. let t = four_piece.takes bytes a fits h in (t.0, record { fits = t.1; spelled = tt })))
    (λ no3. by_tag tag CONSTANT_Long _ _ x P (made CONSTANT_Long bytes (number_at 8 bytes) (λ n. entry.Long (cast_signed w64 n)) (λ n. signed_eight (cast_signed w64 n)) x (λ a. refl) (λ a h. let t = eight_takes bytes a fits h in (t.0, record { fits = t.1; spelled = tt })))
    (λ no4. by_tag tag CONSTANT_Double _ _ x P (made CONSTANT_Double bytes (number_at 8 bytes) entry.Double eight x (λ a. refl) (λ a h. let t = eight_piece.takes bytes a fits h in (t.0, record { fits = t.1; spelled = tt })))
    (λ no5. by_tag tag CONSTANT_Class _ _ x P (made CONSTANT_Class bytes (number_at 2 bytes) entry.Class two x (λ a. refl) (λ a h. let t = two_piece.takes bytes a fits h in (t.0, record { fits = t.1; spelled = tt })))
    (λ no6. by_tag tag CONSTANT_String _ _ x P (made CONSTANT_String bytes (number_at 2 bytes) entry.Text two x (λ a. refl) (λ a h. let t = two_piece.takes bytes a fits h in (t.0, record { fits = t.1; spelled = tt })))
    (λ no7. by_tag tag CONSTANT_Fieldref _ _ x P (made CONSTANT_Fieldref bytes (pair_at bytes) (λ a. entry.Field a.0 a.1) pair_bytes x (λ a. refl) (λ a h. let t = pair_takes bytes a fits h in (t.0, record { fits = t.1; spelled = tt })))
    (λ no8. by_tag tag CONSTANT_Methodref _ _ x P (made CONSTANT_Methodref bytes (pair_at bytes) (λ a. entry.Method a.0 a.1) pair_bytes x (λ a. refl) (λ a h. let t = pair_takes bytes a fits h in (t.0, record { fits = t.1; spelled = tt })))
    (λ no9. by_tag tag CONSTANT_InterfaceMethodref _ _ x P (made CONSTANT_InterfaceMethodref bytes (pair_at bytes) (λ a. entry.InterfaceMethod a.0 a.1) pair_bytes x (λ a. refl) (λ a h. let t = pair_takes bytes a fits h in (t.0, record { fits = t.1; spelled = tt })))
    (λ no10. by_tag tag CONSTANT_NameAndType _ _ x P (made CONSTANT_NameAndType bytes (pair_at bytes) (λ a. entry.NameAndType a.0 a.1) pair_bytes x (λ a. refl) (λ a h. let t = pair_takes bytes a fits h in (t.0, record { fits = t.1; spelled = tt })))
    (λ other. dynamic_after_takes tag bytes x fits other) no10) no9) no8) no7) no6) no5) no4) no3) no2) no1) e

entry_takes : (bytes : List ℕ) (x : Entry × List ℕ) → AreBytes bytes → entry_at_front bytes ≡ Some x → TakesEntry bytes x
unfolding entry_at_front
entry_takes bytes x fits e =
    let a = bind_some (number_at 1 bytes) (λ tag. entry_after tag.0 tag.1) x e in
    let t = one_piece.takes bytes a.0 fits a.1 in
    let after = entry_after_takes a.0.0 a.0.1 x t.0.rest_fits a.2 in
    (record { parts = t.0.parts ∙ after.0.parts; rest_fits = after.0.rest_fits }, after.1)

entry_again : (e : Entry) (rest : List ℕ) → IsReadEntry e → entry_at_front (entry_bytes e ++ rest) ≡ Some (e, rest)
unfolding entry_at_front entry_after dynamic_after entry_bytes
entry_again (entry.Utf8 name) rest h = rw (one_piece.again CONSTANT_Utf8 (text_bytes name ++ rest) (omega arith), text_again name rest h.fits) refl
entry_again (entry.Integer z) rest h = rw (one_piece.again CONSTANT_Integer (signed_four z ++ rest) (omega arith)) (four_again z rest h.fits)
entry_again (entry.Float bits) rest h = rw (one_piece.again CONSTANT_Float (four bits ++ rest) (omega arith), four_piece.again bits rest h.fits) refl
entry_again (entry.Long z) rest h = rw (one_piece.again CONSTANT_Long (signed_eight z ++ rest) (omega arith)) (eight_again z rest h.fits)
entry_again (entry.Double bits) rest h = rw (one_piece.again CONSTANT_Double (eight bits ++ rest) (omega arith), eight_piece.again bits rest h.fits) refl
entry_again (entry.Class name) rest h = rw (one_piece.again CONSTANT_Class (two name ++ rest) (omega arith), two_piece.again name rest h.fits) refl
entry_again (entry.Text units) rest h = rw (one_piece.again CONSTANT_String (two units ++ rest) (omega arith), two_piece.again units rest h.fits) refl
entry_again (entry.Field n m) rest h = rw (one_piece.again CONSTANT_Fieldref ((two n ++ two m) ++ rest) (omega arith), pair_again n m rest h.fits.0 h.fits.1) refl
entry_again (entry.Method n m) rest h = rw (one_piece.again CONSTANT_Methodref ((two n ++ two m) ++ rest) (omega arith), pair_again n m rest h.fits.0 h.fits.1) refl
entry_again (entry.InterfaceMethod n m) rest h = rw (one_piece.again CONSTANT_InterfaceMethodref ((two n ++ two m) ++ rest) (omega arith), pair_again n m rest h.fits.0 h.fits.1) refl
entry_again (entry.NameAndType n m) rest h = rw (one_piece.again CONSTANT_NameAndType ((two n ++ two m) ++ rest) (omega arith), pair_again n m rest h.fits.0 h.fits.1) refl
entry_again (entry.MethodHandle kind m) rest h = rw (one_piece.again CONSTANT_MethodHandle ((kind ∷ two m) ++ rest) (omega arith), handle_again kind m rest h.fits.0 h.fits.1) refl
entry_again (entry.MethodType n) rest h = rw (one_piece.again CONSTANT_MethodType (two n ++ rest) (omega arith), two_piece.again n rest h.fits) refl
entry_again (entry.InvokeDynamic n m) rest h = rw (one_piece.again CONSTANT_InvokeDynamic ((two n ++ two m) ++ rest) (omega arith), pair_again n m rest h.fits.0 h.fits.1) refl
entry_again entry.Second rest h = absurd h.spelled

-- ---- what is at the indices

second_nil : entry_bytes entry.Second ≡ []
unfolding entry_bytes
second_nil = refl

pub record AreReadSlots (due : Bool) (entries : List Entry) : Type 0 where
  pub fits : AllByRecursion EntryFits entries
  pub slots : AreSlots due entries

spelled_slots : (e : Entry) (entries : List Entry) → IsSpelledEntry e → AreSlots (takes_two e) entries → AreSlots false (e ∷ entries)
spelled_slots entry.Second entries spelled slots = absurd spelled
spelled_slots e entries spelled slots = slots

-- an entry or nothing, and those after it
slot_takes : (due : Bool) (bytes : List ℕ) (x : Entry × List ℕ) (entries : List Entry) → AreBytes bytes → slot_at due bytes ≡ Some x → AreReadSlots (takes_two x.0) entries → Takes bytes (entry_bytes x.0) x.1 × AreReadSlots due (x.0 ∷ entries)
slot_takes true bytes x entries fits e rest =
    let same = some_is (entry.Second, bytes) x e in
    subst (λ (y : Entry × List ℕ). AreReadSlots (takes_two y.0) entries → Takes bytes (entry_bytes y.0) y.1 × AreReadSlots true (y.0 ∷ entries)) same
    (λ remaining. (record { parts = ap (λ (w : List ℕ). w ++ bytes) (sym second_nil); rest_fits = fits }, record { fits = (tt, remaining.fits); slots = remaining.slots })) rest
slot_takes false bytes x entries fits e rest =
    let t = entry_takes bytes x fits e in
    (t.0, record { fits = (t.1.fits, rest.fits); slots = spelled_slots x.0 entries t.1.spelled rest.slots })

-- what follows a slot fits in itself
slot_rest : (due : Bool) (bytes : List ℕ) (x : Entry × List ℕ) → AreBytes bytes → slot_at due bytes ≡ Some x → AreBytes x.1
slot_rest true bytes x fits e = subst (λ (y : Entry × List ℕ). AreBytes y.1) (some_is (entry.Second, bytes) x e) fits
slot_rest false bytes x fits e = (entry_takes bytes x fits e).0.rest_fits

slots_takes : (due : Bool) (count : ℕ) (bytes : List ℕ) (x : List Entry × List ℕ) → AreBytes bytes → slots_at due count bytes ≡ Some x → Takes bytes (flat_map entry_bytes x.0) x.1 × (length x.0 ≡ count) × AreReadSlots due x.0
unfolding slots_at
slots_takes true zero bytes x fits e = absurd cc
slots_takes false zero bytes x fits e =
    subst (λ (y : List Entry × List ℕ). Takes bytes (flat_map entry_bytes y.0) y.1 × (length y.0 ≡ 0) × AreReadSlots false y.0) (some_is ([], bytes) x e)
    (record { parts = refl; rest_fits = fits }, refl, record { fits = tt; slots = tt })
slots_takes due (suc count) bytes x fits e =
    let a = bind_some (slot_at due bytes) (λ first. slots_at (takes_two first.0) count first.1 >>= λ others. Some (first.0 ∷ others.0, others.1)) x e in
    let b = bind_some (slots_at (takes_two a.0.0) count a.0.1) (λ others. Some (a.0.0 ∷ others.0, others.1)) x a.2 in
    let second = slots_takes (takes_two a.0.0) count a.0.1 b.0 (slot_rest due bytes a.0 fits a.1) b.1 in
    let first = slot_takes due bytes a.0 b.0.0 fits a.1 second.2 in
    let both = Takes-then bytes (entry_bytes a.0.0) a.0.1 (flat_map entry_bytes b.0.0) b.0.1 first.0 second.0 in
    subst (λ (y : List Entry × List ℕ). Takes bytes (flat_map entry_bytes y.0) y.1 × (length y.0 ≡ suc count) × AreReadSlots due y.0) (some_is (a.0.0 ∷ b.0.0, b.0.1) x b.2)
    (rw flat_map-cons both, ap suc second.1, first.1)

slots_again : (due : Bool) (entries : List Entry) (rest : List ℕ) → AreReadSlots due entries → slots_at due (length entries) (flat_map entry_bytes entries ++ rest) ≡ Some (entries, rest)
unfolding slots_at
slots_again true [] rest h = absurd h.slots
slots_again false [] rest h = refl
slots_again true (entry.Second ∷ entries) rest h =
    let remaining : AreReadSlots false entries = record { fits = h.fits.1; slots = h.slots } in
    let nothing : flat_map entry_bytes (entry.Second ∷ entries) ++ rest ≡ flat_map entry_bytes entries ++ rest =
    ap (λ (bytes : List ℕ). bytes ++ rest) (flat_map-cons entry_bytes entry.Second entries) ∙ ap (λ (w : List ℕ). (w ++ flat_map entry_bytes entries) ++ rest) second_nil in
    ap (slots_at true (suc (length entries))) nothing ∙ rw (slots_again false entries rest remaining) refl
slots_again true (e ∷ entries) rest h = absurd h.slots
slots_again false (e ∷ entries) rest h =
    let here = slots_spelled e entries h.slots in
    let remaining : AreReadSlots (takes_two e) entries = record { fits = h.fits.1; slots = here.1 } in
    let regrouped : flat_map entry_bytes (e ∷ entries) ++ rest ≡ entry_bytes e ++ (flat_map entry_bytes entries ++ rest) =
    ap (λ (bytes : List ℕ). bytes ++ rest) (flat_map-cons entry_bytes e entries) ∙ append_assoc (entry_bytes e) (flat_map entry_bytes entries) rest in
    let slot : entry_at_front (flat_map entry_bytes (e ∷ entries) ++ rest) ≡ Some (e, flat_map entry_bytes entries ++ rest) =
    ap entry_at_front regrouped ∙ entry_again e (flat_map entry_bytes entries ++ rest) (record { fits = h.fits.0; spelled = here.0 }) in
    rw (slot, slots_again (takes_two e) entries rest remaining) refl

-- ---- the pool

-- the entries of a pool
pub record IsReadPool (entries : List Entry) : Type 0 where
  pub fits : CountedFits EntryFits entries
  pub slots : AreSlots true entries

pool_takes : (bytes : List ℕ) (x : List Entry × List ℕ) → AreBytes bytes → pool_at bytes ≡ Some x → Takes bytes (counted entry_bytes x.0) x.1 × IsReadPool x.0
unfolding pool_at
pool_takes bytes x fits e =
    let a = bind_some (number_at 2 bytes) (λ count. slots_at true count.0 count.1) x e in
    let t0 = two_piece.takes bytes a.0 fits a.1 in
    let t1 = slots_takes true a.0.0 a.0.1 x t0.0.rest_fits a.2 in
    let both = Takes-then bytes (two a.0.0) a.0.1 (flat_map entry_bytes x.0) x.1 t0.0 t1.0 in (
      subst (λ (n : ℕ). Takes bytes (two n ++ flat_map entry_bytes x.0) x.1) (sym t1.1) both,
      record { fits = record { count = subst FitsTwo (sym t1.1) t0.1; each = t1.2.fits }; slots = t1.2.slots },
    )

pool_again : (entries : List Entry) (rest : List ℕ) → IsReadPool entries → pool_at (counted entry_bytes entries ++ rest) ≡ Some (entries, rest)
unfolding pool_at
pool_again entries rest h =
    let slots : AreReadSlots true entries = record { fits = h.fits.each; slots = h.slots } in
    ap pool_at (append_assoc (two (length entries)) (flat_map entry_bytes entries) rest)
    ∙ rw (two_piece.again (length entries) (flat_map entry_bytes entries ++ rest) h.fits.count) (slots_again true entries rest slots)

pub pool_piece : IsPiece pool_at (counted entry_bytes) IsReadPool
pool_piece = record { takes = pool_takes; again = pool_again }
