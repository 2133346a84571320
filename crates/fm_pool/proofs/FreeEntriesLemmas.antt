-- The six entries of FreeMe.free in turn.
use Rattle.std.proofs.Common.{◌≡◌, ◌↔◌, ℕ, ◌+◌, ◌<◌, ◌≤◌, List, [], length, length-append, Result, Ok, Err, refl, sym, ap, ◌∙◌, arith}
use Rattle.std.specs.Result.{IsErrAnd}
use Rattle.fm_code.specs.FreeEntries.{Sought, placed, sought_class_text, sought_class, sought_name, sought_descriptor, sought_pair, sought_free, with_free, free_class, free_name, free_descriptor}
use Rattle.fm_code.specs.declared.constant_pool.Entry.{Entry}
use Rattle.fm_code.specs.declared.constant_pool.Entry.TheVariants as entry
use Rattle.fm_pool.specs.declared.error.AddFail.{AddFail}
use Rattle.fm_pool.specs.declared.error.AddFail.TheVariants as fail
use Rattle.fm_pool.specs.declared.free_entries.FreePlaces.{FreePlaces}
use Rattle.fm_pool.specs.inner.EntryPlaces.{method_placed, MethodPlaced, placed_at}
use Rattle.fm_pool.specs.inner.FreePlaces.{missing_in, places_in}
use Rattle.fm_pool.proofs.MissingLemmas.{at, method_size, placed_size}

-- ---- one after the other

pub class_text_is : (entries : List Entry) → sought_class_text entries ≡ placed (length entries) [] (entry.Utf8 free_class) (places_in entries).class_text
unfolding sought_class_text
class_text_is entries = refl

pub class_is : (entries : List Entry) (s : Sought) → sought_class_text entries ≡ s → sought_class entries ≡ placed (length entries) s.missing (entry.Class s.index) (places_in entries).class
unfolding sought_class
class_is entries s e = ap (λ (s : Sought). placed (length entries) s.missing (entry.Class s.index) (places_in entries).class) e

pub name_is : (entries : List Entry) (s : Sought) → sought_class entries ≡ s → sought_name entries ≡ placed (length entries) s.missing (entry.Utf8 free_name) (places_in entries).method.name
unfolding sought_name
name_is entries s e = ap (λ (s : Sought). placed (length entries) s.missing (entry.Utf8 free_name) (places_in entries).method.name) e

pub descriptor_is : (entries : List Entry) (s : Sought) → sought_name entries ≡ s → sought_descriptor entries ≡ placed (length entries) s.missing (entry.Utf8 free_descriptor) (places_in entries).method.descriptor
unfolding sought_descriptor
descriptor_is entries s e = ap (λ (s : Sought). placed (length entries) s.missing (entry.Utf8 free_descriptor) (places_in entries).method.descriptor) e

pub pair_is : (entries : List Entry) (name s : Sought) → sought_name entries ≡ name → sought_descriptor entries ≡ s
    → sought_pair entries ≡ placed (length entries) s.missing (entry.NameAndType name.index s.index) (places_in entries).method.pair
unfolding sought_pair
pair_is entries name s e f =
    ap (λ (s : Sought). placed (length entries) s.missing (entry.NameAndType (sought_name entries).index s.index) (places_in entries).method.pair) f
    ∙ ap (λ (n : Sought). placed (length entries) s.missing (entry.NameAndType n.index s.index) (places_in entries).method.pair) e

pub method_is : (entries : List Entry) (class s : Sought) → sought_class entries ≡ class → sought_pair entries ≡ s → sought_free entries ≡ placed (length entries) s.missing (entry.Method class.index s.index) (places_in entries).method.method
unfolding sought_free
method_is entries class s e f =
    ap (λ (s : Sought). placed (length entries) s.missing (entry.Method (sought_class entries).index s.index) (places_in entries).method.method) f
    ∙ ap (λ (c : Sought). placed (length entries) s.missing (entry.Method c.index s.index) (places_in entries).method.method) e

-- the entries of the method together
free_placed : (entries : List Entry)
    → placed_at (sought_free entries).index (sought_descriptor entries).index (sought_free entries).missing
    ≡ method_placed (length entries) (sought_class entries).missing (sought_class entries).index free_name free_descriptor (places_in entries).method
unfolding sought_name sought_descriptor sought_pair sought_free
free_placed entries = refl

-- what comes of them
pub record AreFreePlaced (entries : List Entry) (class descriptor method : ℕ) (missing : List Entry) : Type 0 where
  pub method_at : sought_free entries ≡ at method missing
  pub class_at : class ≡ (sought_class entries).index
  pub descriptor_at : descriptor ≡ (sought_descriptor entries).index

-- the code places them in turn, and so do the definitions
pub all_placed : (entries : List Entry) (p : FreePlaces) (n1 n2 n3 i1 i2 f fd : ℕ) (m0 m1 m2 m3 : List Entry)
    → p ≡ places_in entries → m0 ≡ [] → n1 ≡ length entries → n2 ≡ n1 → n3 ≡ n2
    → placed n1 m0 (entry.Utf8 free_class) p.class_text ≡ at i1 m1
    → placed n2 m1 (entry.Class i1) p.class ≡ at i2 m2
    → method_placed n3 m2 i2 free_name free_descriptor p.method ≡ placed_at f fd m3
    → AreFreePlaced entries i2 fd f m3
all_placed entries p n1 n2 n3 i1 i2 f fd m0 m1 m2 m3 found none k1 k2 k3 h1 h2 h3 =
    let q2 = k2 ∙ k1 in
    let q3 = k3 ∙ q2 in
    let e1 = class_text_is entries ∙ (rw (none, k1, found) at h1) in
    let e2 : sought_class entries ≡ at i2 m2 = class_is entries (at i1 m1) e1 ∙ (rw (q2, found) at h2) in
    let e3 : placed_at (sought_free entries).index (sought_descriptor entries).index (sought_free entries).missing ≡ placed_at f fd m3 =
    free_placed entries
    ∙ ap (λ (s : Sought). method_placed (length entries) s.missing s.index free_name free_descriptor (places_in entries).method) e2
    ∙ (rw (q3, found) at h3) in
    record {
      method_at = ap (λ (m : MethodPlaced). at m.method m.missing) e3;
      class_at = sym (ap (λ (s : Sought). s.index) e2);
      descriptor_at = sym (ap (λ (m : MethodPlaced). m.descriptor) e3);
    }

-- ---- how many are missing

pub free_size : (entries : List Entry) → length (sought_free entries).missing ≡ missing_in (places_in entries)
free_size entries =
    let p : FreePlaces = places_in entries in
    let n = length entries in
    let s1 = ap (λ (s : Sought). length s.missing) (class_text_is entries) ∙ placed_size n [] (entry.Utf8 free_class) p.class_text in
    let s2 = ap (λ (s : Sought). length s.missing) (class_is entries (sought_class_text entries) refl) ∙ placed_size n (sought_class_text entries).missing (entry.Class (sought_class_text entries).index) p.class in
    let s3 = ap (λ (m : MethodPlaced). length m.missing) (free_placed entries) ∙ method_size n (sought_class entries).missing (sought_class entries).index free_name free_descriptor p.method in
    omega (arith, s1, s2, s3)

with_free_size : (entries : List Entry) → length (with_free entries) ≡ length entries + missing_in (places_in entries)
with_free_size entries = omega (arith, free_size entries, length-append entries (sought_free entries).missing)

-- ---- a pool that is full

abbrev full : ℕ → Result ℕ AddFail
full n = Err (fail.Full n)

-- the result shows that the pool would have a given number of indices
pub is_full : (made count : ℕ) → made ≡ count → 65535 < made → (n : ℕ) → (full made ≡ full n) ↔ ((65535 < count) × (n ≡ count))
is_full made count is many n = (λ e. let same : made ≡ n = cc in (omega (arith, is, many), sym same ∙ is), λ h. ap full (is ∙ sym h.1))

abbrev done : ℕ → Result ℕ AddFail
done index = Ok index

not_full : (r : Result ℕ AddFail) (made count : ℕ) → ((m : ℕ) → r ≡ full m → ⊥) → made ≡ count → made ≤ 65535 → (n : ℕ) → (r ≡ full n) ↔ ((65535 < count) × (n ≡ count))
not_full r made count other is few n = (λ e. absurd (other n e), λ h. absurd (omega (arith, h.0, is, few)))

-- there is room where an index is returned, and where memory runs out
pub room_if_done : (made count index : ℕ) → made ≡ count → made ≤ 65535 → (n : ℕ) → (done index ≡ full n) ↔ ((65535 < count) × (n ≡ count))
room_if_done made count index is few n = not_full (done index) made count (λ m e. cc) is few n

pub room_if_short : (r : Result ℕ AddFail) (made count : ℕ) → IsErrAnd r (λ e. e ≡ fail.NoMemory) → made ≡ count → made ≤ 65535 → (n : ℕ) → (r ≡ full n) ↔ ((65535 < count) × (n ≡ count))
room_if_short (Ok index) made count short is few n = absurd short
room_if_short (Err e) made count short is few n = not_full (Err e) made count (λ m f. cc) is few n

-- what is counted is the number of indices that the pool would have
pub counted : (entries : List Entry) (p : FreePlaces) (size missing : ℕ) → p ≡ places_in entries → size ≡ length entries → missing ≡ missing_in p → size + missing ≡ length (with_free entries)
counted entries p size missing found is count = let all = with_free_size entries in let same = ap missing_in found in omega (arith, all, is, count, same)
