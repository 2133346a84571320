-- Bytes spell the made class, it is accepted, and it is no longer than a file may be.
use Rattle.std.proofs.Common.{◌≡◌, ◌≢◌, ◌≤◌, ◌<◌, ◌+◌, ◌*◌, ◌∙◌, ℕ, zero, suc, true, false, inr, List, [], ◌∷◌, ◌++◌, Some, ap, sym, codes, length, length-append, map, refl, arith}
use Rattle.std.specs.List.{AllByRecursion, flat_map, list_all, range_with_len}
use Rattle.std.specs.Char.Utf16.{utf16_chars}
use Rattle.std.proofs.lemmas.Grind.{flat_map-append}
use Rattle.std.proofs.lemmas.List.Concat.{length-flat_map}
use Rattle.std.proofs.lemmas.List.Elements.{All-from_recursion}
use Rattle.std.proofs.lemmas.List.FromFn.{length-map-range_with_len}
use Rattle.std.proofs.lemmas.List.Sums.{sum_by-le}
use Rattle.fm_base.proofs.ListFacts.{AllByRecursion-append}
use Rattle.fm_base.proofs.OptionFacts.{IsSome-from_some, IsSomeAnd-from_some, same_value}
use Rattle.fm_base.specs.declared.limits.TheConstants.{MAX_FILE_BYTES}
use Rattle.fm_code.proofs.Bytes.{length-four, length-two}
use Rattle.fm_code.proofs.Floating.{is_plain, no_floating_method}
use Rattle.fm_code.specs.ClassBytes.{class_bytes, code_bytes, entry_bytes, magic, member_attribute_bytes, member_bytes, pool_bytes}
use Rattle.fm_code.specs.CodeRules.{CodeIsValid}
use Rattle.fm_code.specs.ConstantPool.{class_name_at, utf8_at}
use Rattle.fm_code.specs.Fits.{ClassFits, CodeFits, MemberFits}
use Rattle.fm_code.specs.Members.{AreDifferent, AreDistinct, MethodIsValid}
use Rattle.fm_code.specs.Names.{IsMethodDescriptor, is_method_name}
use Rattle.fm_code.specs.Numbers.{four, two}
use Rattle.fm_code.specs.Profile.{CodeIsWithin, ItemIsSupported, MethodIsSupported, MethodIsWithin, Profile}
use Rattle.fm_code.specs.Spells.{Spells}
use Rattle.fm_code.specs.declared.class_file.Member.{Member}
use Rattle.fm_code.specs.declared.code_array.Code.{Code}
use Rattle.fm_gen.proofs.CodeLemmas.{code_fits, code_size, code_supported, code_valid, code_within, f_good, f_some, g_good, g_some, main_good, main_some, sizes}
use Rattle.fm_gen.proofs.LoopLemmas.{concat_length, f_short, g_short, main_short}
use Rattle.fm_gen.proofs.NameLemmas.{named, named_method, other_letter, other_number}
use Rattle.fm_gen.proofs.PoolLemmas.{all_sizes, all_supported, code_there, entries_length, f_stands, g_stands, main_descriptor, main_there, nothing_descriptor, nothing_there, object_descriptor, object_name, object_there, own_name, pool_spelled, texts_there, to_object}
use Rattle.fm_gen.specs.Made.{code_with, f_insns, f_method, g_insns, g_method, made, made_entries, main_insns, main_method, method_with, name_index}

-- ---- a method

pub record IsGood (n most : ℕ) (m : Member) : Type 0 where
  pub valid : MethodIsValid false (made_entries n) m
  pub supported : MethodIsSupported false (made_entries n) m
  pub within : MethodIsWithin m
  pub fits : MemberFits m
  pub size : length (member_bytes m) ≤ most

member_size : (name descriptor : ℕ) (code : Code) → length (member_bytes (method_with name descriptor code)) ≡ 14 + length (code_bytes code)
unfolding member_bytes member_attribute_bytes
member_size name descriptor code =
    let body = two 12 ++ (four (length (code_bytes code)) ++ code_bytes code) in
    let attributes = two 1 ++ (body ++ []) in
    omega (
      arith,
      concat_length (two 9 ∷ two name ∷ two descriptor ∷ attributes ∷ []),
      length-append (two 1) (body ++ []),
      length-append body [],
      length-append (two 12) (four (length (code_bytes code)) ++ code_bytes code),
      length-append (four (length (code_bytes code))) (code_bytes code),
      length-two 9,
      length-two name,
      length-two descriptor,
      length-two 1,
      length-two 12,
      length-four (length (code_bytes code)),
    )

good_by : (n most name descriptor : ℕ) (text described : List ℕ) (code : Code) → name < 65536 → descriptor < 65536 → utf8_at (made_entries n) name ≡ Some text → is_method_name text ≡ true
    → text ≢ codes "<init>" → utf8_at (made_entries n) descriptor ≡ Some described → IsMethodDescriptor 0 described → list_all is_plain described ≡ true → CodeIsValid (made_entries n) code
    → AllByRecursion (ItemIsSupported (made_entries n)) code.items → CodeIsWithin code → CodeFits code → 14 + length (code_bytes code) ≤ most → IsGood n most (method_with name descriptor code)
good_by n most name descriptor text described code low small there is other at_descriptor descriptor_is plain valid supported within fits size =
    let all = made_entries n in
    record {
      valid = record {
        name = IsSomeAnd-from_some (utf8_at all name) (λ t. is_method_name t ≡ true) text there is;
        descriptor = IsSomeAnd-from_some (utf8_at all descriptor) (IsMethodDescriptor 0) described at_descriptor descriptor_is;
        attributes = ((code_there n, valid), tt);
        coded = refl;
        abstract_alone = λ e. cc;
        constructor = λ e. absurd (other (same_value (utf8_at all name) text (codes "<init>") there e));
        of_interface = λ e. cc;
      };
      supported = record {
        head = record {
          descriptor = IsSomeAnd-from_some (utf8_at all descriptor) _ described at_descriptor (no_floating_method described plain);
          not_native = refl;
          of_interface = λ e. cc;
        };
        items = supported;
      };
      within = within;
      fits = record {
        flags = omega arith;
        name = omega arith;
        descriptor = omega arith;
        attributes = record { count = omega arith; each = ((omega arith, fits), tt) };
      };
      size = omega (arith, member_size name descriptor code, size);
    }

module _ (n : ℕ) (few : n ≤ 100) where
  f_is_good : (i : ℕ) → i < 100 * n → IsGood n 44 (f_method i)
  f_is_good i below =
      let all = made_entries n in
      let good = f_good 1 n few (omega arith) i below in
      let some = f_some i in
      let many = f_short i in
      let is = good_by n 44 (name_index i) 9 (named 102 i) to_object (code_with 2 1 (f_insns i)) (omega arith) (omega arith) (f_stands n i below).text
      (named_method 102 i (omega arith, omega arith) (omega arith)) (other_letter 102 60 _ _ (λ e. omega arith)) (object_there n) object_descriptor refl in
      is (code_valid 1 all 2 (f_insns i) good some (omega arith) (omega arith) (omega arith)) (code_supported 1 all 2 (f_insns i) good some (omega arith) (omega arith) (omega arith))
      (code_within 1 all 2 (f_insns i) good some (omega arith) (omega arith) (omega arith)) (code_fits 1 all 2 (f_insns i) good some (omega arith) (omega arith) (omega arith))
      (omega (arith, code_size 1 all 2 (f_insns i) good some (omega arith) (omega arith) (omega arith), sizes (f_insns i), many))

  g_is_good : (j : ℕ) → j < n → IsGood n 1600 (g_method n j)
  g_is_good j below =
      let all = made_entries n in
      let good = g_good 0 n few j below in
      let some = g_some j in
      let many = g_short j in
      good_by n 1600 (name_index (100 * n + j)) 6 (named 103 j) (codes "()V") (code_with 2 0 (g_insns j)) (omega arith) (omega arith) (g_stands n j below).text
      (named_method 103 j (omega arith, omega arith) (omega arith)) (other_letter 103 60 _ _ (λ e. omega arith)) (nothing_there n) nothing_descriptor refl
      (code_valid 0 all 2 (g_insns j) good some (omega arith) (omega arith) (omega arith)) (code_supported 0 all 2 (g_insns j) good some (omega arith) (omega arith) (omega arith))
      (code_within 0 all 2 (g_insns j) good some (omega arith) (omega arith) (omega arith)) (code_fits 0 all 2 (g_insns j) good some (omega arith) (omega arith) (omega arith))
      (omega (arith, code_size 0 all 2 (g_insns j) good some (omega arith) (omega arith) (omega arith), sizes (g_insns j), many))

  main_is_good : IsGood n 1600 (main_method n)
  main_is_good =
      let all = made_entries n in
      let good = main_good 1 n few in
      let some = main_some n in
      let many = main_short n in
      good_by n 1600 10 11 (codes "main") (codes "([Ljava/lang/String;)V") (code_with 0 1 (main_insns n)) (omega arith) (omega arith) (main_there n)
      refl (other_letter 109 60 _ _ (λ e. omega arith)) (texts_there n) main_descriptor refl
      (code_valid 1 all 0 (main_insns n) good some (omega arith) (omega arith) (omega arith)) (code_supported 1 all 0 (main_insns n) good some (omega arith) (omega arith) (omega arith))
      (code_within 1 all 0 (main_insns n) good some (omega arith) (omega arith) (omega arith)) (code_fits 1 all 0 (main_insns n) good some (omega arith) (omega arith) (omega arith))
      (omega (arith, code_size 1 all 0 (main_insns n) good some (omega arith) (omega arith) (omega arith), sizes (main_insns n), many))

-- ---- lists of methods

all_mapped : (P : Member → Type 0) (f : ℕ → Member) (a m : ℕ) → ((i : ℕ) → a ≤ i → i < a + m → P (f i)) → AllByRecursion P (map f (range_with_len a m))
all_mapped P f a zero each = tt
all_mapped P f a (suc m) each = (each a (omega arith) (omega arith), all_mapped P f (a + 1) m (λ i low high. each i (omega arith) (omega arith)))

module _ (n : ℕ) where
  abbrev Differ : Member → Member → Type 0
  Differ = AreDifferent (made_entries n)

  differ_by : (a b : Member) (first second : List ℕ) → utf8_at (made_entries n) a.name ≡ Some first → utf8_at (made_entries n) b.name ≡ Some second → first ≢ second → Differ a b
  differ_by a b first second at_first at_second other both =
      other (same_value (utf8_at (made_entries n) b.name) first second (sym both.0 ∙ at_first) at_second)

  distinct_mapped : (f : ℕ → Member) (a m : ℕ) → ((i j : ℕ) → i < j → j < a + m → Differ (f i) (f j)) → AreDistinct (made_entries n) (map f (range_with_len a m))
  distinct_mapped f a zero differ = tt
  distinct_mapped f a (suc m) differ = (
    all_mapped (Differ (f a)) f (a + 1) m (λ j low high. differ a j (omega arith) (omega arith)),
    distinct_mapped f (a + 1) m (λ i j less high. differ i j less (omega arith)),
  )

  distinct_append : (xs ys : List Member) → AreDistinct (made_entries n) xs → AreDistinct (made_entries n) ys → AllByRecursion (λ x. AllByRecursion (Differ x) ys) xs → AreDistinct (made_entries n) (xs ++ ys)
  distinct_append [] ys first second apart = second
  distinct_append (x ∷ xs) ys first second apart = (AllByRecursion-append (Differ x) xs ys first.0 apart.0, distinct_append xs ys first.1 second apart.1)

module _ (n : ℕ) (few : n ≤ 100) where
  abbrev f_methods : List Member
  f_methods = map f_method (range_with_len 0 (100 * n))

  abbrev g_methods : List Member
  g_methods = map (g_method n) (range_with_len 0 n)

  all_distinct : AreDistinct (made_entries n) (f_methods ++ g_methods ++ main_method n ∷ [])
  all_distinct =
      distinct_append n (f_methods ++ g_methods) (main_method n ∷ [])
      (distinct_append n f_methods g_methods
      (distinct_mapped n f_method 0 (100 * n) (λ i j less high. differ_by n (f_method i) (f_method j) (named 102 i) (named 102 j) (f_stands n i (omega arith)).text (f_stands n j (omega arith)).text
      (other_number 102 i j less (omega arith))))
      (distinct_mapped n (g_method n) 0 n (λ i j less high. differ_by n (g_method n i) (g_method n j) (named 103 i) (named 103 j) (g_stands n i (omega arith)).text (g_stands n j (omega arith)).text
      (other_number 103 i j less (omega arith))))
      (all_mapped (λ x. AllByRecursion (Differ n x) g_methods) f_method 0 (100 * n) (λ i low high. all_mapped (Differ n (f_method i)) (g_method n) 0 n
      (λ j from to. differ_by n (f_method i) (g_method n j) (named 102 i) (named 103 j) (f_stands n i (omega arith)).text (g_stands n j (omega arith)).text (other_letter 102 103 _ _ (λ e. omega arith))))))
      (tt, tt)
      (AllByRecursion-append (λ x. AllByRecursion (Differ n x) (main_method n ∷ [])) f_methods g_methods
      (all_mapped (λ x. AllByRecursion (Differ n x) (main_method n ∷ [])) f_method 0 (100 * n)
      (λ i low high. (differ_by n (f_method i) (main_method n) (named 102 i) (codes "main") (f_stands n i (omega arith)).text (main_there n) (other_letter 102 109 _ _ (λ e. omega arith)), tt)))
      (all_mapped (λ x. AllByRecursion (Differ n x) (main_method n ∷ [])) (g_method n) 0 n
      (λ j low high. (differ_by n (g_method n j) (main_method n) (named 103 j) (codes "main") (g_stands n j (omega arith)).text (main_there n) (other_letter 103 109 _ _ (λ e. omega arith)), tt))))

  -- what holds of each method
  methods_all : (P : Member → Type 0) → ((most : ℕ) (m : Member) → IsGood n most m → P m) → AllByRecursion P (f_methods ++ g_methods ++ main_method n ∷ [])
  methods_all P gives =
      AllByRecursion-append P (f_methods ++ g_methods) (main_method n ∷ [])
      (AllByRecursion-append P f_methods g_methods (all_mapped P f_method 0 (100 * n) (λ i low high. gives 44 (f_method i) (f_is_good n few i (omega arith))))
      (all_mapped P (g_method n) 0 n (λ j low high. gives 1600 (g_method n j) (g_is_good n few j (omega arith)))))
      (gives 1600 (main_method n) (main_is_good n few), tt)

  methods_count : length (f_methods ++ g_methods ++ main_method n ∷ []) ≡ 101 * n + 1
  methods_count =
      omega (
        arith,
        length-append (f_methods ++ g_methods) (main_method n ∷ []),
        length-append f_methods g_methods,
        length-map-range_with_len f_method 0 (100 * n),
        length-map-range_with_len (g_method n) 0 n,
      )

  fits : ClassFits (made n)
  unfolding made
  fits = record {
    minor = omega arith;
    major = omega arith;
    flags = omega arith;
    this_class = omega arith;
    super_class = omega arith;
    interfaces = record { count = omega arith; each = tt };
    fields = record { count = omega arith; each = tt };
    methods = record { count = omega (arith, methods_count); each = methods_all MemberFits (λ most m good. good.fits) };
    attributes = record { count = omega arith; each = tt };
  }

  pub made_spelled : Spells (class_bytes (made n)) (made n)
  unfolding made
  made_spelled = record {
    bytes_are = refl;
    fits = fits;
    pool = pool_spelled n few;
    this_class = IsSomeAnd-from_some (class_name_at (made_entries n) 2) _ (codes "G") (own_name n) refl;
    super_class = inr (IsSome-from_some (class_name_at (made_entries n) 4) (codes "java/lang/Object") (object_name n));
    interfaces = tt;
    fields = tt;
    distinct_fields = tt;
    methods = methods_all (MethodIsValid false (made_entries n)) (λ most m good. good.valid);
    distinct_methods = all_distinct;
    attributes = tt;
  }

  pub made_accepted : Profile (made n)
  unfolding made utf16_chars
  made_accepted = record {
    version = inr (omega arith, omega arith, refl);
    limits = methods_all MethodIsWithin (λ most m good. good.within);
    supported = record {
      name = IsSomeAnd-from_some (class_name_at (made_entries n) 2) _ (codes "G") (own_name n) (record { no_zero = refl; whole_pairs = refl });
      fields = tt;
      methods = methods_all (MethodIsSupported false (made_entries n)) (λ most m good. good.supported);
      pool = all_supported n few;
    };
  }

-- ---- its length

-- pieces none of which is longer than a number
flat_short : {X : Type 0} (f : X → List ℕ) (most : ℕ) (xs : List X) → AllByRecursion (λ x. length (f x) ≤ most) xs → length (flat_map f xs) ≤ length xs * most
flat_short f most xs all =
    let sum = sum_by-le (λ x. length (f x)) most xs (All-from_recursion (λ x. length (f x) ≤ most) xs all) in
    omega (arith, sum, length-flat_map f xs)

module _ (n : ℕ) (few : n ≤ 100) where
  f_size : length (flat_map member_bytes (f_methods n few)) ≤ 4400 * n
  f_size =
      let short = flat_short member_bytes 44 (f_methods n few) (all_mapped (λ m. length (member_bytes m) ≤ 44) f_method 0 (100 * n) (λ i low high. (f_is_good n few i (omega arith)).size)) in
      omega (arith, rw (length-map-range_with_len f_method 0 (100 * n)) at short)

  g_size : length (flat_map member_bytes (g_methods n few)) ≤ 1600 * n
  g_size =
      let short = flat_short member_bytes 1600 (g_methods n few) (all_mapped (λ m. length (member_bytes m) ≤ 1600) (g_method n) 0 n (λ j low high. (g_is_good n few j (omega arith)).size)) in
      omega (arith, rw (length-map-range_with_len (g_method n) 0 n) at short)

  methods_size : length (flat_map member_bytes (f_methods n few ++ g_methods n few ++ main_method n ∷ [])) ≤ 6000 * n + 1600
  methods_size =
      let last = main_method n ∷ [] in
      omega (
        arith,
        f_size,
        g_size,
        (main_is_good n few).size,
        length-append (member_bytes (main_method n)) [],
        ap length (flat_map-append member_bytes (f_methods n few ++ g_methods n few) last),
        ap length (flat_map-append member_bytes (f_methods n few) (g_methods n few)),
        length-append (flat_map member_bytes (f_methods n few ++ g_methods n few)) (flat_map member_bytes last),
        length-append (flat_map member_bytes (f_methods n few)) (flat_map member_bytes (g_methods n few)),
      )

  entries_size : length (flat_map entry_bytes (made_entries n)) ≤ 18180 * n + 780
  entries_size =
      let short = flat_short entry_bytes 60 (made_entries n) (all_sizes n few) in
      omega (arith, rw (entries_length n) at short)

  -- a made class has less bytes than a file may have
  pub made_short : length (class_bytes (made n)) ≤ MAX_FILE_BYTES
  unfolding made class_bytes pool_bytes two
  made_short =
      let all = f_methods n few ++ g_methods n few ++ main_method n ∷ [] in
      let entries = two (length (made_entries n)) ++ flat_map entry_bytes (made_entries n) in
      let members = two (length all) ++ flat_map member_bytes all in
      let none = two 0 ++ [] in
      omega (
        arith,
        concat_length (magic ∷ two 0 ∷ two 49 ∷ entries ∷ two 33 ∷ two 2 ∷ two 4 ∷ none ∷ none ∷ members ∷ none ∷ []),
        length-append (two (length (made_entries n))) (flat_map entry_bytes (made_entries n)),
        length-append (two (length all)) (flat_map member_bytes all),
        entries_size,
        methods_size,
      )
