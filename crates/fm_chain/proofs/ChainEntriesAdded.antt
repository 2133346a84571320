-- The entries of the methods of FreeMe name them in the pool that they are put into, and some bytes spell that pool.
use Rattle.std.proofs.Common.{◌≡◌, ℕ, List, [], ◌∷◌, ◌++◌, append_assoc, Some, refl, sym, ap, subst, ◌∙◌, arith}
use Rattle.fm_chain.specs.ChainEntries.{chain_method, chain_name, link_descriptor, link_method, link_name, sought_chain, sought_chain_name, sought_chain_pair, sought_link, sought_link_descriptor, sought_link_name, sought_link_pair, with_chains}
use Rattle.fm_chain.specs.Laws.{CallsAreNamed, EntriesAreSupported, PoolsAreSpelled}
use Rattle.fm_code.specs.ConstantPool.{class_name_at, IsMethodPair, MemberName, method_ref_at, utf8_at}
use Rattle.fm_code.specs.FreeEntries.{Content, free_class, free_descriptor, free_method, of_method, of_name_and_type, of_utf8, Sought, sought, sought_class, sought_descriptor, sought_free}
use Rattle.fm_code.specs.Names.{IsMethodDescriptor}
use Rattle.fm_code.specs.declared.constant_pool.Entry.{Entry}
use Rattle.fm_code.specs.declared.constant_pool.Entry.TheVariants as entry
use Rattle.fm_pool.proofs.FreeEntriesAdded.{all_supported, class_carried, Has, is_descriptor, is_object, object_type, spelled, step, Step, steps, text_added, text_carried}
use Rattle.fm_pool.proofs.GrownPool.{method_kept}

-- ---- the definitions of what is sought

link_name_is : (entries : List Entry) → sought_link_name entries ≡ sought entries (sought_free entries).missing (of_utf8 link_name) (entry.Utf8 link_name)
unfolding sought_link_name
link_name_is entries = refl

link_descriptor_is : (entries : List Entry)
    → sought_link_descriptor entries ≡ sought entries (sought_link_name entries).missing (of_utf8 link_descriptor) (entry.Utf8 link_descriptor)
unfolding sought_link_descriptor
link_descriptor_is entries = refl

link_pair_is : (entries : List Entry) → sought_link_pair entries
    ≡ sought entries (sought_link_descriptor entries).missing (of_name_and_type link_name link_descriptor)
    (entry.NameAndType (sought_link_name entries).index (sought_link_descriptor entries).index)
unfolding sought_link_pair
link_pair_is entries = refl

link_is : (entries : List Entry) → sought_link entries
    ≡ sought entries (sought_link_pair entries).missing (of_method link_method) (entry.Method (sought_class entries).index (sought_link_pair entries).index)
unfolding sought_link
link_is entries = refl

chain_name_is : (entries : List Entry) → sought_chain_name entries ≡ sought entries (sought_link entries).missing (of_utf8 chain_name) (entry.Utf8 chain_name)
unfolding sought_chain_name
chain_name_is entries = refl

chain_pair_is : (entries : List Entry) → sought_chain_pair entries
    ≡ sought entries (sought_chain_name entries).missing (of_name_and_type chain_name free_descriptor)
    (entry.NameAndType (sought_chain_name entries).index (sought_descriptor entries).index)
unfolding sought_chain_pair
chain_pair_is entries = refl

chain_is : (entries : List Entry) → sought_chain entries
    ≡ sought entries (sought_chain_pair entries).missing (of_method chain_method) (entry.Method (sought_class entries).index (sought_chain_pair entries).index)
unfolding sought_chain
chain_is entries = refl

-- ---- names and descriptors

is_link_descriptor : IsMethodDescriptor 0 link_descriptor
is_link_descriptor = (
  record { parameters = object_type ∷ object_type ∷ []; result = Some object_type },
  (record { parameters = (is_object, (is_object, tt)); result = is_object }, (refl, omega arith)),
)

link_pair : IsMethodPair (link_name, link_descriptor)
link_pair = (refl, is_link_descriptor)

chain_pair : IsMethodPair (chain_name, free_descriptor)
chain_pair = (refl, is_descriptor)

-- ---- one entry after the other

-- a method that was named before a step is named after it
method_carried : (entries before : List Entry) (content : Content) (s : Sought) (i : ℕ) (m : MemberName) → Step entries before content s
    → method_ref_at (entries ++ before) i ≡ Some m → method_ref_at (entries ++ s.missing) i ≡ Some m
method_carried entries before content s i m w h =
    subst (λ (all : List Entry). method_ref_at all i ≡ Some m)
    (append_assoc entries before w.more ∙ ap (λ (l : List Entry). entries ++ l) (sym w.goes_on)) (method_kept (entries ++ before) w.more i m h)

-- an entry of link is in its place, and so are the class, the descriptor of free, and free
record LinkSteps (entries : List Entry) : Type 0 where
  link : Step entries (sought_link_pair entries).missing (of_method link_method) (sought_link entries)
  class : class_name_at (entries ++ (sought_link entries).missing) (sought_class entries).index ≡ Some free_class
  descriptor : utf8_at (entries ++ (sought_link entries).missing) (sought_descriptor entries).index ≡ Some free_descriptor
  free : method_ref_at (entries ++ (sought_link entries).missing) (sought_free entries).index ≡ Some free_method

link_steps : (entries : List Entry) → LinkSteps entries
link_steps entries =
    let own = steps entries in
    let class = (sought_class entries).index in
    let descriptor = (sought_descriptor entries).index in
    let free = (sought_free entries).index in
    let m0 = (sought_free entries).missing in
    let s1 : Step entries m0 (of_utf8 link_name) (sought_link_name entries) =
    subst (Step entries m0 (of_utf8 link_name)) (sym (link_name_is entries))
    (step entries m0 (of_utf8 link_name) (entry.Utf8 link_name) own.method.added refl (text_added (entries ++ m0) link_name refl (omega arith))) in
    let m1 = (sought_link_name entries).missing in
    let s2 : Step entries m1 (of_utf8 link_descriptor) (sought_link_descriptor entries) =
    subst (Step entries m1 (of_utf8 link_descriptor)) (sym (link_descriptor_is entries))
    (step entries m1 (of_utf8 link_descriptor) (entry.Utf8 link_descriptor) s1.added refl (text_added (entries ++ m1) link_descriptor refl (omega arith))) in
    let m2 = (sought_link_descriptor entries).missing in
    let e3 = entry.NameAndType (sought_link_name entries).index (sought_link_descriptor entries).index in
    let both : Has (entries ++ m2) (of_name_and_type link_name link_descriptor) e3 =
    (text_carried entries m1 (of_utf8 link_descriptor) (sought_link_descriptor entries) (sought_link_name entries).index link_name s2 s1.stands, s2.stands) in
    let s3 : Step entries m2 (of_name_and_type link_name link_descriptor) (sought_link_pair entries) =
    subst (Step entries m2 (of_name_and_type link_name link_descriptor)) (sym (link_pair_is entries))
    (step entries m2 (of_name_and_type link_name link_descriptor) e3 s2.added both ((link_name, link_descriptor), both.0, both.1, link_pair)) in
    let m3 = (sought_link_pair entries).missing in
    let e4 = entry.Method class (sought_link_pair entries).index in
    let class1 = class_carried entries m0 (of_utf8 link_name) (sought_link_name entries) class s1 own.class_left in
    let class2 = class_carried entries m1 (of_utf8 link_descriptor) (sought_link_descriptor entries) class s2 class1 in
    let class3 = class_carried entries m2 (of_name_and_type link_name link_descriptor) (sought_link_pair entries) class s3 class2 in
    let named : Has (entries ++ m3) (of_method link_method) e4 = (class3, s3.stands) in
    let s4 : Step entries m3 (of_method link_method) (sought_link entries) =
    subst (Step entries m3 (of_method link_method)) (sym (link_is entries))
    (step entries m3 (of_method link_method) e4 s3.added named ((link_name, link_descriptor), named.0, named.1, link_pair)) in
    let d1 = text_carried entries m0 (of_utf8 link_name) (sought_link_name entries) descriptor free_descriptor s1 own.descriptor_left in
    let d2 = text_carried entries m1 (of_utf8 link_descriptor) (sought_link_descriptor entries) descriptor free_descriptor s2 d1 in
    let d3 = text_carried entries m2 (of_name_and_type link_name link_descriptor) (sought_link_pair entries) descriptor free_descriptor s3 d2 in
    let f1 = method_carried entries m0 (of_utf8 link_name) (sought_link_name entries) free free_method s1 own.method.stands in
    let f2 = method_carried entries m1 (of_utf8 link_descriptor) (sought_link_descriptor entries) free free_method s2 f1 in
    let f3 = method_carried entries m2 (of_name_and_type link_name link_descriptor) (sought_link_pair entries) free free_method s3 f2 in
    record {
      link = s4;
      class = class_carried entries m3 (of_method link_method) (sought_link entries) class s4 class3;
      descriptor = text_carried entries m3 (of_method link_method) (sought_link entries) descriptor free_descriptor s4 d3;
      free = method_carried entries m3 (of_method link_method) (sought_link entries) free free_method s4 f3;
    }

-- and so is one of freeChain
record ChainSteps (entries : List Entry) : Type 0 where
  chain : Step entries (sought_chain_pair entries).missing (of_method chain_method) (sought_chain entries)
  free : method_ref_at (with_chains entries) (sought_free entries).index ≡ Some free_method
  link : method_ref_at (with_chains entries) (sought_link entries).index ≡ Some link_method

chain_steps : (entries : List Entry) → ChainSteps entries
chain_steps entries =
    let own = link_steps entries in
    let class = (sought_class entries).index in
    let descriptor = (sought_descriptor entries).index in
    let m4 = (sought_link entries).missing in
    let s5 : Step entries m4 (of_utf8 chain_name) (sought_chain_name entries) =
    subst (Step entries m4 (of_utf8 chain_name)) (sym (chain_name_is entries))
    (step entries m4 (of_utf8 chain_name) (entry.Utf8 chain_name) own.link.added refl (text_added (entries ++ m4) chain_name refl (omega arith))) in
    let m5 = (sought_chain_name entries).missing in
    let e6 = entry.NameAndType (sought_chain_name entries).index descriptor in
    let both : Has (entries ++ m5) (of_name_and_type chain_name free_descriptor) e6 =
    (s5.stands, text_carried entries m4 (of_utf8 chain_name) (sought_chain_name entries) descriptor free_descriptor s5 own.descriptor) in
    let s6 : Step entries m5 (of_name_and_type chain_name free_descriptor) (sought_chain_pair entries) =
    subst (Step entries m5 (of_name_and_type chain_name free_descriptor)) (sym (chain_pair_is entries))
    (step entries m5 (of_name_and_type chain_name free_descriptor) e6 s5.added both ((chain_name, free_descriptor), both.0, both.1, chain_pair)) in
    let m6 = (sought_chain_pair entries).missing in
    let e7 = entry.Method class (sought_chain_pair entries).index in
    let class5 = class_carried entries m4 (of_utf8 chain_name) (sought_chain_name entries) class s5 own.class in
    let class6 = class_carried entries m5 (of_name_and_type chain_name free_descriptor) (sought_chain_pair entries) class s6 class5 in
    let named : Has (entries ++ m6) (of_method chain_method) e7 = (class6, s6.stands) in
    let s7 : Step entries m6 (of_method chain_method) (sought_chain entries) =
    subst (Step entries m6 (of_method chain_method)) (sym (chain_is entries))
    (step entries m6 (of_method chain_method) e7 s6.added named ((chain_name, free_descriptor), named.0, named.1, chain_pair)) in
    let left : (i : ℕ) (m : MemberName) → method_ref_at (entries ++ m4) i ≡ Some m → method_ref_at (with_chains entries) i ≡ Some m =
    (λ i m there.
    method_carried entries m6 (of_method chain_method) (sought_chain entries) i m s7
    (method_carried entries m5 (of_name_and_type chain_name free_descriptor) (sought_chain_pair entries) i m s6
    (method_carried entries m4 (of_utf8 chain_name) (sought_chain_name entries) i m s5 there))) in
    record {
      chain = s7;
      free = left (sought_free entries).index free_method own.free;
      link = left (sought_link entries).index link_method own.link.stands;
    }

-- ---- the laws

pub calls_are_named : CallsAreNamed
calls_are_named entries = let all = chain_steps entries in record { free = all.free; link = all.link; free_chain = all.chain.stands }

pub entries_are_supported : EntriesAreSupported
entries_are_supported entries own = all_supported entries (sought_chain entries).missing (chain_steps entries).chain.added own

pub pools_are_spelled : PoolsAreSpelled
pools_are_spelled pool spells few = spelled pool.entries (sought_chain pool.entries).missing spells (chain_steps pool.entries).chain.added few
