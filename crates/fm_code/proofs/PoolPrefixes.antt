-- The constant pool is determined by its bytes.
use Rattle.std.proofs.Common.{◌≡◌, ℕ, Bool, true, false, List, [], ◌∷◌, ◌++◌, length, refl, ap, sym, ◌∙◌, arith, subst}
use Rattle.std.specs.List.{AllByRecursion, flat_map}
use Rattle.fm_base.proofs.ListFacts.{same_head, same_tail}
use Rattle.fm_code.specs.ConstantPool.{AreSlots, takes_two}
use Rattle.fm_code.specs.Numbers.{two}
use Rattle.fm_code.specs.ClassBytes.{entry_bytes, pool_bytes}
use Rattle.fm_code.specs.Fits.{FitsTwo, CountedFits, EntryFits}
use Rattle.fm_code.specs.declared.constant_pool.Entry.{Entry}
use Rattle.fm_code.specs.declared.constant_pool.Entry.TheVariants as entry
use Rattle.fm_code.specs.declared.constant_pool.Pool.{Pool}
use Rattle.fm_code.proofs.Prefixes.{Cancels, Cancels-two, Cancels-four, Cancels-eight, Cancels-signed_four, Cancels-signed_eight, split_same, peel}

-- an entry that is spelled
abbrev pub IsSpelledEntry : Entry → Type 0
IsSpelledEntry entry.Second = ⊥
IsSpelledEntry e = Unit {0}

-- two indices
cancel_pair : (a b c d : ℕ) (r s : List ℕ) → FitsTwo a → FitsTwo b → FitsTwo c → FitsTwo d → (two a ++ two b) ++ r ≡ (two c ++ two d) ++ s →
    (a ≡ c) × (b ≡ d) × (r ≡ s)
cancel_pair a b c d r s a_fits b_fits c_fits d_fits e =
    let first = Cancels-two a c (two b ++ r) (two d ++ s) a_fits c_fits (peel (two a) (two b) r (two c) (two d) s e) in
    let second = Cancels-two b d r s b_fits d_fits first.1 in
    (first.0, second.0, second.1)

-- the tag determines the kind of an entry, and what follows determines the rest
pub cancel_entry : (x y : Entry) (r s : List ℕ) → IsSpelledEntry x → IsSpelledEntry y → EntryFits x → EntryFits y →
    entry_bytes x ++ r ≡ entry_bytes y ++ s → (x ≡ y) × (r ≡ s)
unfolding entry_bytes
cancel_entry (entry.Utf8 a) (entry.Utf8 b) r s _ _ a_fits b_fits e =
    let count = Cancels-two (length a) (length b) (a ++ r) (b ++ s) a_fits.0 b_fits.0 (peel (two (length a)) a r (two (length b)) b s (same_tail 1 1 _ _ e)) in
    let text = split_same a b r s count.0 count.1 in
    (ap entry.Utf8 text.0, text.1)
cancel_entry (entry.Integer a) (entry.Integer b) r s _ _ a_fits b_fits e =
    let value = Cancels-signed_four a b r s a_fits b_fits (same_tail 3 3 _ _ e) in (ap entry.Integer value.0, value.1)
cancel_entry (entry.Float a) (entry.Float b) r s _ _ a_fits b_fits e =
    let value = Cancels-four a b r s a_fits b_fits (same_tail 4 4 _ _ e) in (ap entry.Float value.0, value.1)
cancel_entry (entry.Long a) (entry.Long b) r s _ _ a_fits b_fits e =
    let value = Cancels-signed_eight a b r s a_fits b_fits (same_tail 5 5 _ _ e) in (ap entry.Long value.0, value.1)
cancel_entry (entry.Double a) (entry.Double b) r s _ _ a_fits b_fits e =
    let value = Cancels-eight a b r s a_fits b_fits (same_tail 6 6 _ _ e) in (ap entry.Double value.0, value.1)
cancel_entry (entry.Class a) (entry.Class b) r s _ _ a_fits b_fits e =
    let value = Cancels-two a b r s a_fits b_fits (same_tail 7 7 _ _ e) in (ap entry.Class value.0, value.1)
cancel_entry (entry.Text a) (entry.Text b) r s _ _ a_fits b_fits e =
    let value = Cancels-two a b r s a_fits b_fits (same_tail 8 8 _ _ e) in (ap entry.Text value.0, value.1)
cancel_entry (entry.Field a b) (entry.Field c d) r s _ _ x_fits y_fits e =
    let values = cancel_pair a b c d r s x_fits.0 x_fits.1 y_fits.0 y_fits.1 (same_tail 9 9 _ _ e) in (λ i. entry.Field (values.0 i) (values.1 i), values.2)
cancel_entry (entry.Method a b) (entry.Method c d) r s _ _ x_fits y_fits e =
    let values = cancel_pair a b c d r s x_fits.0 x_fits.1 y_fits.0 y_fits.1 (same_tail 10 10 _ _ e) in (λ i. entry.Method (values.0 i) (values.1 i), values.2)
cancel_entry (entry.InterfaceMethod a b) (entry.InterfaceMethod c d) r s _ _ x_fits y_fits e =
    let values = cancel_pair a b c d r s x_fits.0 x_fits.1 y_fits.0 y_fits.1 (same_tail 11 11 _ _ e) in
    (λ i. entry.InterfaceMethod (values.0 i) (values.1 i), values.2)
cancel_entry (entry.NameAndType a b) (entry.NameAndType c d) r s _ _ x_fits y_fits e =
    let values = cancel_pair a b c d r s x_fits.0 x_fits.1 y_fits.0 y_fits.1 (same_tail 12 12 _ _ e) in
    (λ i. entry.NameAndType (values.0 i) (values.1 i), values.2)
cancel_entry (entry.MethodHandle a b) (entry.MethodHandle c d) r s _ _ x_fits y_fits e =
    let handle = same_tail 15 15 _ _ e in
    let kind : a ≡ c = same_head a c _ _ handle in
    let value = Cancels-two b d r s x_fits.1 y_fits.1 (same_tail a c _ _ handle) in
    (λ i. entry.MethodHandle (kind i) (value.0 i), value.1)
cancel_entry (entry.MethodType a) (entry.MethodType b) r s _ _ a_fits b_fits e =
    let value = Cancels-two a b r s a_fits b_fits (same_tail 16 16 _ _ e) in (ap entry.MethodType value.0, value.1)
cancel_entry (entry.InvokeDynamic a b) (entry.InvokeDynamic c d) r s _ _ x_fits y_fits e =
    let values = cancel_pair a b c d r s x_fits.0 x_fits.1 y_fits.0 y_fits.1 (same_tail 18 18 _ _ e) in
    (λ i. entry.InvokeDynamic (values.0 i) (values.1 i), values.2)
cancel_entry entry.Second y r s spelled _ _ _ e = absurd spelled
cancel_entry x entry.Second r s _ spelled _ _ e = absurd spelled
cancel_entry x y r s _ _ _ _ e = absurd (let tags = same_head _ _ _ _ e in omega (arith, tags))

-- where nothing is due nothing is spelled
pub slots_due : (x : Entry) (xs : List Entry) → AreSlots true (x ∷ xs) → (x ≡ entry.Second) × AreSlots false xs
slots_due entry.Second xs slots = (refl, slots)
slots_due x xs slots = absurd slots

-- elsewhere an entry is spelled, and what it takes is due after it
pub slots_spelled : (x : Entry) (xs : List Entry) → AreSlots false (x ∷ xs) → IsSpelledEntry x × AreSlots (takes_two x) xs
slots_spelled entry.Second xs slots = absurd slots
slots_spelled x xs slots = (tt, slots)

-- as many entries, one after the other
pub cancel_entries : (due : Bool) (xs ys : List Entry) (r s : List ℕ) → length xs ≡ length ys → AreSlots due xs → AreSlots due ys →
    AllByRecursion EntryFits xs → AllByRecursion EntryFits ys → flat_map entry_bytes xs ++ r ≡ flat_map entry_bytes ys ++ s → (xs ≡ ys) × (r ≡ s)
unfolding entry_bytes
cancel_entries due [] [] r s same _ _ _ _ e = (refl, e)
cancel_entries due [] (y ∷ ys) r s same _ _ _ _ e = absurd (omega arith)
cancel_entries due (x ∷ xs) [] r s same _ _ _ _ e = absurd (omega arith)
cancel_entries true (x ∷ xs) (y ∷ ys) r s same first second (_, first_fit) (_, second_fit) e =
    let before = slots_due x xs first in
    let after = slots_due y ys second in
    let rest : flat_map entry_bytes xs ++ r ≡ flat_map entry_bytes ys ++ s =
    sym (ap (λ (z : Entry). (entry_bytes z ++ flat_map entry_bytes xs) ++ r) before.0) ∙ e
    ∙ ap (λ (z : Entry). (entry_bytes z ++ flat_map entry_bytes ys) ++ s) after.0 in
    let tail = cancel_entries false xs ys r s (omega arith) before.1 after.1 first_fit second_fit rest in
    (λ i. (before.0 ∙ sym after.0) i ∷ tail.0 i, tail.1)
cancel_entries false (x ∷ xs) (y ∷ ys) r s same first second (x_fits, first_fit) (y_fits, second_fit) e =
    let before = slots_spelled x xs first in
    let after = slots_spelled y ys second in
    let head = cancel_entry x y (flat_map entry_bytes xs ++ r) (flat_map entry_bytes ys ++ s) before.0 after.0 x_fits y_fits
    (peel (entry_bytes x) (flat_map entry_bytes xs) r (entry_bytes y) (flat_map entry_bytes ys) s e) in
    let due_same : AreSlots (takes_two x) ys = subst (λ (z : Entry). AreSlots (takes_two z) ys) (sym head.0) after.1 in
    let tail = cancel_entries (takes_two x) xs ys r s (omega arith) before.1 due_same first_fit second_fit head.1 in
    (λ i. head.0 i ∷ tail.0 i, tail.1)

-- a constant pool whose slots are right
pub record PoolFits (pool : Pool) : Type 0 where
  pub entries : CountedFits EntryFits pool.entries
  pub slots : AreSlots true pool.entries

-- a pool is determined by its bytes
pub Cancels-pool : Cancels pool_bytes PoolFits
unfolding pool_bytes
Cancels-pool x y r s x_fits y_fits e =
    let count = Cancels-two (length x.entries) (length y.entries) (flat_map entry_bytes x.entries ++ r) (flat_map entry_bytes y.entries ++ s)
    x_fits.entries.count y_fits.entries.count
    (peel (two (length x.entries)) (flat_map entry_bytes x.entries) r (two (length y.entries)) (flat_map entry_bytes y.entries) s e) in
    let entries = cancel_entries true x.entries y.entries r s count.0 x_fits.slots y_fits.slots x_fits.entries.each y_fits.entries.each count.1 in
    (λ i. record { entries = entries.0 i }, entries.1)
