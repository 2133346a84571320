-- The four entries of a method in turn, and how many of them are missing.
use Rattle.std.proofs.Common.{◌≡◌, ℕ, ◌+◌, List, [], ◌∷◌, length, length-append, Option, Some, None, ap, ◌∙◌, arith}
use Rattle.fm_code.specs.FreeEntries.{Sought, placed}
use Rattle.fm_code.specs.declared.constant_pool.Entry.{Entry}
use Rattle.fm_code.specs.declared.constant_pool.Entry.TheVariants as entry
use Rattle.fm_pool.specs.declared.sought.MethodPlaces.{MethodPlaces}
use Rattle.fm_pool.specs.inner.EntryPlaces.{method_placed, missing_at, missing_of, placed_at}

abbrev pub at : ℕ → List Entry → Sought
at index missing = record { index = index; missing = missing }

pub method_in_turn : (n1 n2 n3 n4 i1 i2 i3 i4 class : ℕ) (name descriptor : List ℕ) (p : MethodPlaces) (m0 m1 m2 m3 m4 : List Entry)
    → n2 ≡ n1 → n3 ≡ n2 → n4 ≡ n3
    → placed n1 m0 (entry.Utf8 name) p.name ≡ at i1 m1
    → placed n2 m1 (entry.Utf8 descriptor) p.descriptor ≡ at i2 m2
    → placed n3 m2 (entry.NameAndType i1 i2) p.pair ≡ at i3 m3
    → placed n4 m3 (entry.Method class i3) p.method ≡ at i4 m4
    → method_placed n1 m0 class name descriptor p ≡ placed_at i4 i2 m4
method_in_turn n1 n2 n3 n4 i1 i2 i3 i4 class name descriptor p m0 m1 m2 m3 m4 k2 k3 k4 h1 h2 h3 h4 =
    let e2 : placed n1 m1 (entry.Utf8 descriptor) p.descriptor ≡ at i2 m2 = rw k2 at h2 in
    let e3 : placed n1 m2 (entry.NameAndType i1 i2) p.pair ≡ at i3 m3 = rw (k3 ∙ k2) at h3 in
    let e4 : placed n1 m3 (entry.Method class i3) p.method ≡ at i4 m4 = rw (k4 ∙ k3 ∙ k2) at h4 in
    ap (λ (n : Sought).
    let d = placed n1 n.missing (entry.Utf8 descriptor) p.descriptor in
    let pair = placed n1 d.missing (entry.NameAndType n.index d.index) p.pair in
    let method = placed n1 pair.missing (entry.Method class pair.index) p.method in
    placed_at method.index d.index method.missing) h1
    ∙ ap (λ (d : Sought).
    let pair = placed n1 d.missing (entry.NameAndType i1 d.index) p.pair in
    let method = placed n1 pair.missing (entry.Method class pair.index) p.method in
    placed_at method.index d.index method.missing) e2
    ∙ ap (λ (pair : Sought).
    let method = placed n1 pair.missing (entry.Method class pair.index) p.method in
    placed_at method.index i2 method.missing) e3
    ∙ ap (λ (method : Sought). placed_at method.index i2 method.missing) e4

-- ---- how many are missing

pub placed_size : (count : ℕ) (missing : List Entry) (e : Entry) (found : Option ℕ) → length (placed count missing e found).missing ≡ length missing + missing_at found
placed_size count missing e (Some index) = omega arith
placed_size count missing e None = length-append missing (e ∷ [])

pub method_size : (count : ℕ) (missing : List Entry) (class : ℕ) (name descriptor : List ℕ) (p : MethodPlaces)
    → length (method_placed count missing class name descriptor p).missing ≡ length missing + missing_of p
method_size count missing class name descriptor p =
    let n = placed count missing (entry.Utf8 name) p.name in
    let d = placed count n.missing (entry.Utf8 descriptor) p.descriptor in
    let pair = placed count d.missing (entry.NameAndType n.index d.index) p.pair in
    let s1 = placed_size count missing (entry.Utf8 name) p.name in
    let s2 = placed_size count n.missing (entry.Utf8 descriptor) p.descriptor in
    let s3 = placed_size count d.missing (entry.NameAndType n.index d.index) p.pair in
    let s4 = placed_size count pair.missing (entry.Method class pair.index) p.method in
    omega (arith, s1, s2, s3, s4)
