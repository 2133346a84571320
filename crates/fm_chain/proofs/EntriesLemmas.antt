-- The entries of FreeMe's other methods after those of free, in turn.
use Rattle.std.proofs.Common.{◌≡◌, ℕ, ◌+◌, List, length, length-append, ◌≤◌, Result, Ok, Err, refl, sym, subst, ap, ◌∙◌, arith}
use Rattle.std.specs.Prelude.{IfErr}
use Rattle.std.specs.Result.{IsErrAnd}
use Rattle.fm_code.specs.FreeEntries.{free_descriptor, sought_class, sought_descriptor, sought_free}
use Rattle.fm_code.specs.declared.constant_pool.Entry.{Entry}
use Rattle.fm_pool.proofs.FreeEntriesLemmas.{free_size}
use Rattle.fm_pool.proofs.MissingLemmas.{at, method_size}
use Rattle.fm_pool.specs.declared.error.AddFail.{AddFail}
use Rattle.fm_pool.specs.declared.error.AddFail.TheVariants as fail
use Rattle.fm_pool.specs.inner.EntryPlaces.{method_placed, method_places, MethodPlaced, placed_at, with_descriptor}
use Rattle.fm_chain.specs.ChainEntries.{calls_with, chain_method, chain_name, IsRefused, link_descriptor, link_method, link_name, sought_chain, sought_chain_name, sought_chain_pair, sought_link, sought_link_descriptor, sought_link_name, sought_link_pair, with_chains}
use Rattle.fm_chain.specs.declared.entries.ChainPlaces.{ChainPlaces}
use Rattle.fm_chain.specs.inner.ChainPlaces.{missing_in, places_in}

-- ---- one method after the other

abbrev link_at : List Entry → MethodPlaced
link_at entries = placed_at (sought_link entries).index (sought_link_descriptor entries).index (sought_link entries).missing

abbrev chain_at : List Entry → MethodPlaced
chain_at entries = placed_at (sought_chain entries).index (sought_descriptor entries).index (sought_chain entries).missing

link_placed : (entries : List Entry) → link_at entries
    ≡ method_placed (length entries) (sought_free entries).missing (sought_class entries).index link_name link_descriptor (method_places entries link_method)
unfolding sought_link_name sought_link_descriptor sought_link_pair sought_link
link_placed entries = refl

chain_placed : (entries : List Entry) → chain_at entries
    ≡ method_placed (length entries) (sought_link entries).missing (sought_class entries).index chain_name free_descriptor
    (with_descriptor (method_places entries chain_method) (sought_descriptor entries).index)
unfolding sought_chain_name sought_chain_pair sought_chain
chain_placed entries = refl

-- what comes of both
pub record AreAllPlaced (entries : List Entry) (free link chain : ℕ) (missing : List Entry) : Type 0 where
  pub calls : record { free = free; link = link; free_chain = chain } ≡ calls_with entries
  pub missing_is : missing ≡ (sought_chain entries).missing

-- the code places them in turn, and so do the definitions
pub all_placed : (entries : List Entry) (p : ChainPlaces) (n1 n2 class f fd l ld g gd : ℕ) (m0 m1 m2 : List Entry)
    → p ≡ places_in entries → n1 ≡ length entries → n2 ≡ n1
    → sought_free entries ≡ at f m0 → class ≡ (sought_class entries).index → fd ≡ (sought_descriptor entries).index
    → method_placed n1 m0 class link_name link_descriptor p.link ≡ placed_at l ld m1
    → method_placed n2 m1 class chain_name free_descriptor (with_descriptor p.free_chain fd) ≡ placed_at g gd m2
    → AreAllPlaced entries f l g m2
all_placed entries p n1 n2 class f fd l ld g gd m0 m1 m2 found k1 k2 free same of_free h1 h2 =
    let q2 = k2 ∙ k1 in
    let class_is : (sought_class entries).index ≡ class = sym same in
    let descriptor_is : (sought_descriptor entries).index ≡ fd = sym of_free in
    let e1 : link_at entries ≡ placed_at l ld m1 =
    link_placed entries
    ∙ (λ k. method_placed (length entries) (free k).missing (class_is k) link_name link_descriptor (method_places entries link_method))
    ∙ (rw (k1, found) at h1) in
    let e2 : chain_at entries ≡ placed_at g gd m2 =
    chain_placed entries
    ∙ (λ k. method_placed (length entries) (e1 k).missing (class_is k) chain_name free_descriptor
    (with_descriptor (method_places entries chain_method) (descriptor_is k)))
    ∙ (rw (q2, found) at h2) in
    record {
      calls = sym (λ k. record { free = (free k).index; link = (e1 k).method; free_chain = (e2 k).method });
      missing_is = sym (λ k. (e2 k).missing);
    }

-- ---- how many are missing

with_chains_size : (entries : List Entry) → length (with_chains entries) ≡ length entries + missing_in (places_in entries)
with_chains_size entries =
    let n = length entries in
    let p : ChainPlaces = places_in entries in
    let s1 =
    ap (λ (m : MethodPlaced). length m.missing) (link_placed entries)
    ∙ method_size n (sought_free entries).missing (sought_class entries).index link_name link_descriptor p.link in
    let s2 =
    ap (λ (m : MethodPlaced). length m.missing) (chain_placed entries)
    ∙ method_size n (sought_link entries).missing (sought_class entries).index chain_name free_descriptor
    (with_descriptor p.free_chain (sought_descriptor entries).index) in
    omega (arith, free_size entries, s1, s2, length-append entries (sought_chain entries).missing)

-- what is counted is the number of indices that the pool would have
pub counted : (entries : List Entry) (p : ChainPlaces) (size missing : ℕ) → p ≡ places_in entries → size ≡ length entries → missing ≡ missing_in p
    → size + missing ≡ length (with_chains entries)
counted entries p size missing found is count = let all = with_chains_size entries in let same = ap missing_in found in omega (arith, all, is, count, same)

-- ---- want of memory

-- memory runs out where there is room
pub refused_short : {A : Type 0} (r : Result A AddFail) (entries : List Entry) → IsErrAnd r (λ e. e ≡ fail.NoMemory) → length entries ≤ 65535
    → IfErr r (IsRefused entries)
refused_short (Ok x) entries short few = tt
refused_short (Err e) entries short few = subst (λ f. IsRefused entries f) (sym short) few
