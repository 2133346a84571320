-- The classes of a program that links are printed under names of their own.
use Rattle.std.proofs.Common.{◌≡◌, ◌≢◌, ℕ, zero, suc, ◌+◌, ◌-◌, ◌/◌, ◌%◌, ◌<◌, ◌≤◌, ◌&&◌, not, Bool, true, false, List, [], ◌∷◌, ◌++◌, map, take, Option, Some, None, Contains, IfSome, is_some, refl, sym, ap, ◌∙◌, ap₂, subst, arith, ⊎_elim}
use Rattle.std.specs.Prelude.{nat_le, nat_lt, slice_get, unwrap_or}
use Rattle.std.specs.Char.Escape.{encode_utf16}
use Rattle.std.specs.Char.Utf16.{is_high_surrogate, is_low_surrogate, lone_unit_char, surrogate_pair_char, utf16_chars}
use Rattle.std.specs.List.{AllByRecursion, flat_map, list_any}
use Rattle.std.specs.Str.{bytes_eq}
use Rattle.std.proofs.lemmas.Bool.{false≢true, leb-true, le-ltb, ltb-true, lt-ltb, and_parts, or_parts}
use Rattle.std.proofs.lemmas.Str.{encodes_same}
use Rattle.std.proofs.lemmas.Slice.Eq.{bytes_eq-Decides}
use Rattle.fm_code.proofs.EdgesLemmas.{Contains-first, Contains-later}
use Rattle.fm_base.proofs.ContainsFacts.{Contains-cons_cases}
use Rattle.fm_base.proofs.ListFacts.{AllByRecursion-at, AllByRecursion-get_or, AllByRecursion-weaker}
use Rattle.fm_base.proofs.OptionFacts.{IsSomeAnd-at_some, Some-from_some_and}
use Rattle.fm_base.proofs.Utf16Lemmas.{no_units, with_last, with_pair, without_pair}
use Rattle.fm_base.specs.Texts.{IsModifiedUtf8, shown, unit_bytes, units, utf8}
use Rattle.fm_code.specs.ConstantPool.{class_name_at, entry_at, EntryIsValid}
use Rattle.fm_code.specs.Profile.{IsSupportedName, NameIsSupported}
use Rattle.fm_code.specs.Spells.{HasSpelling}
use Rattle.fm_code.specs.declared.class_file.ClassDef.{ClassDef}
use Rattle.fm_code.specs.declared.constant_pool.Entry.TheVariants as entry
use Rattle.fm_pool.proofs.GrownPool.{class_entry, utf8_entry}
use Rattle.fm_cli.specs.Printed.{printed}
use Rattle.fm_world.specs.Causes.{duplicates, own_name, Refusal, refused_if}
use Rattle.fm_world.specs.Linking.{refusals, refused_duplicates}
use Rattle.fm_law_spelled.specs.Names.{AreNew, NamesAreApart}

-- ---- units of whole pairs are those of their characters

abbrev is_missing : Option ℕ → Bool
is_missing o = not (is_some o)

-- the units of characters
abbrev units_again : List (Option ℕ) → List ℕ
units_again cs = flat_map encode_utf16 (map shown cs)

lone_again : (u : ℕ) → u < 65536 → is_missing (lone_unit_char u) ≡ false → encode_utf16 (shown (lone_unit_char u)) ≡ u ∷ []
lone_again u fits some = by (nat_le 0xD800 u && nat_lt u 0xE000) refl where
  by : (t : Bool) → (nat_le 0xD800 u && nat_lt u 0xE000) ≡ t → encode_utf16 (shown (lone_unit_char u)) ≡ u ∷ []
  by true e = let none : true ≡ false = rw e at some in cc
  by false e = rw (e, lt-ltb u 0x1_0000 fits)

-- a character past U+FFFF has two units
two_units : (c : ℕ) → 0x1_0000 ≤ c → encode_utf16 c ≡ (0xD800 + (c - 0x1_0000) / 0x400) ∷ (0xDC00 + (c - 0x1_0000) % 0x400) ∷ []
two_units c from = rw (le-ltb c 0x1_0000 from) refl

pair_again : (u v : ℕ) → (is_high_surrogate u && is_low_surrogate v) ≡ true → encode_utf16 (surrogate_pair_char u v) ≡ u ∷ v ∷ []
pair_again u v pair =
    let parts : (is_high_surrogate u ≡ true) × (is_low_surrogate v ≡ true) = and_parts (is_high_surrogate u) (is_low_surrogate v) pair in
    let high : (nat_le 0xD800 u ≡ true) × (nat_lt u 0xDC00 ≡ true) = and_parts (nat_le 0xD800 u) (nat_lt u 0xDC00) parts.0 in
    let low : (nat_le 0xDC00 v ≡ true) × (nat_lt v 0xE000 ≡ true) = and_parts (nat_le 0xDC00 v) (nat_lt v 0xE000) parts.1 in
    let from_high : 0xD800 ≤ u = leb-true 0xD800 u high.0 in
    let from_low : 0xDC00 ≤ v = leb-true 0xDC00 v low.0 in
    let below : v < 0xE000 = ltb-true v 0xE000 low.1 in
    let first : 0xD800 + (surrogate_pair_char u v - 0x1_0000) / 0x400 ≡ u = omega arith in
    let second : 0xDC00 + (surrogate_pair_char u v - 0x1_0000) % 0x400 ≡ v = omega arith in
    two_units (surrogate_pair_char u v) (omega arith) ∙ ap₂ (λ x y. x ∷ y ∷ []) first second

whole_again : (us : List ℕ) → AllByRecursion (λ u. u < 65536) us → list_any is_missing (utf16_chars us) ≡ false → units_again (utf16_chars us) ≡ us
whole_again [] fit whole = ap units_again (no_units [] refl)
whole_again (u ∷ []) fit whole =
    let same : utf16_chars (u ∷ []) ≡ lone_unit_char u ∷ [] = with_last (u ∷ []) [] u refl refl ∙ ap (λ cs. lone_unit_char u ∷ cs) (no_units [] refl) in
    let some = or_parts (is_missing (lone_unit_char u)) false (sym (ap (list_any is_missing) same) ∙ whole) in
    ap units_again same ∙ ap (λ ws. ws ++ []) (lone_again u fit.0 some.0)
whole_again (u ∷ v ∷ us) fit whole = by (is_high_surrogate u && is_low_surrogate v) refl (whole_again us fit.1.1) (whole_again (v ∷ us) fit.1) where
  Again : List ℕ → Type 0
  Again ws = list_any is_missing (utf16_chars ws) ≡ false → units_again (utf16_chars ws) ≡ ws

  by : (t : Bool) → (is_high_surrogate u && is_low_surrogate v) ≡ t → Again us → Again (v ∷ us) → units_again (utf16_chars (u ∷ v ∷ us)) ≡ u ∷ v ∷ us
  by true e past next =
      let same : utf16_chars (u ∷ v ∷ us) ≡ Some (surrogate_pair_char u v) ∷ utf16_chars us = with_pair (u ∷ v ∷ us) (v ∷ us) us u v refl refl (sym e) in
      let rest : list_any is_missing (utf16_chars us) ≡ false = sym (ap (list_any is_missing) same) ∙ whole in
      ap units_again same ∙ ap (λ ws. ws ++ units_again (utf16_chars us)) (pair_again u v e) ∙ ap (λ ws. u ∷ v ∷ ws) (past rest)
  by false e past next =
      let same : utf16_chars (u ∷ v ∷ us) ≡ lone_unit_char u ∷ utf16_chars (v ∷ us) = without_pair (u ∷ v ∷ us) (v ∷ us) us u v refl refl (sym e) in
      let both = or_parts (is_missing (lone_unit_char u)) (list_any is_missing (utf16_chars (v ∷ us))) (sym (ap (list_any is_missing) same) ∙ whole) in
      ap units_again same ∙ ap (λ ws. ws ++ units_again (utf16_chars (v ∷ us))) (lone_again u fit.0 both.0) ∙ ap (λ ws. u ∷ ws) (next both.1)

-- ---- names that are printed alike are one

-- a name that may be a class's
pub record IsClean (name : List ℕ) : Type 0 where
  pub modified : IsModifiedUtf8 name
  pub supported : IsSupportedName name

pub printed_apart : (a b : List ℕ) → IsClean a → IsClean b → printed a ≡ printed b → a ≡ b
unfolding printed utf8
printed_apart a b x y same =
    let cs = encodes_same (map shown (utf16_chars (units a))) (map shown (utf16_chars (units b))) same in
    let us : units a ≡ units b =
    sym (whole_again (units a) x.modified.in_range x.supported.whole_pairs) ∙ ap (flat_map encode_utf16) cs ∙ whole_again (units b) y.modified.in_range y.supported.whole_pairs in
    x.modified.shortest ∙ ap (flat_map unit_bytes) us ∙ sym y.modified.shortest

-- ---- names of class files

-- some bytes spell the class, so its name is clean
clean_name : (c : ClassDef) → HasSpelling c → NameIsSupported c → IsClean (own_name c)
clean_name c (bytes, spells) supported =
    let entries = c.pool.entries in
    let found = Some-from_some_and (class_name_at entries c.this_class) _ spells.this_class in
    let class = class_entry entries c.this_class found.0 found.1 in
    let text = utf8_entry entries class.0 found.0 class.2 in
    let valid : EntryIsValid entries (entry_at entries class.0) = AllByRecursion-get_or (EntryIsValid entries) entries entry.Second spells.pool.entries tt class.0 in
    let own : found.0 ≡ own_name c = ap (λ o. unwrap_or o []) (sym found.1) in
    record {
      modified = subst IsModifiedUtf8 own (subst (EntryIsValid entries) text valid);
      supported = subst IsSupportedName own (IsSomeAnd-at_some (class_name_at entries c.this_class) IsSupportedName found.0 found.1 supported);
    }

abbrev HasCleanName : ClassDef → Type 0
HasCleanName c = IsClean (own_name c)

clean_names : (given : List ClassDef) → AllByRecursion HasSpelling given → AllByRecursion NameIsSupported given → AllByRecursion HasCleanName given
clean_names [] spelled supported = tt
clean_names (c ∷ given) spelled supported = (clean_name c spelled.0 supported.0, clean_names given spelled.1 supported.1)

-- ---- names of their own

not_among : (name : List ℕ) (earlier : List (List ℕ)) → list_any (bytes_eq name) earlier ≡ false → ¬ Contains earlier name
not_among name [] none there = omega (arith, there.1)
not_among name (other ∷ earlier) none there = ⊎_elim
    (λ (same : name ≡ other). absurd (false≢true (sym (or_parts _ _ none).0 ∙ (bytes_eq-Decides name other).1 same)))
    (λ (later : Contains earlier name). not_among name earlier (or_parts _ _ none).1 later)
    (Contains-cons_cases other earlier name there)

left_none : {X : Type 0} (xs ys : List X) → xs ++ ys ≡ [] → (xs ≡ []) × (ys ≡ [])
left_none [] ys e = (refl, e)
left_none (x ∷ xs) ys e = cc

none_refused : (wrong : Bool) (r : Refusal) → refused_if wrong r ≡ [] → wrong ≡ false
none_refused false r e = refl
none_refused true r e = cc

-- no file after these names has one of them
abbrev IsNewAfter : List (List ℕ) → ClassDef → Type 0
IsNewAfter earlier c = ¬ Contains earlier (own_name c)

new_after : (earlier : List (List ℕ)) (given : List ClassDef) → duplicates earlier given ≡ [] → AllByRecursion (IsNewAfter earlier) given
new_after earlier [] none = tt
new_after earlier (c ∷ given) none =
    let parts = left_none _ (duplicates (own_name c ∷ earlier) given) none in
    let own = not_among (own_name c) earlier (none_refused _ _ parts.0) in
    let later = new_after (own_name c ∷ earlier) given parts.1 in
    (own, AllByRecursion-weaker (IsNewAfter (own_name c ∷ earlier)) (IsNewAfter earlier) (λ d new there. new (Contains-later (own_name c) earlier (own_name d) there)) given later)

abbrev pub printed_name : ClassDef → List ℕ
printed_name c = printed (own_name c)

-- the class is printed under another name than this one
abbrev IsPrintedApart : ClassDef → ClassDef → Type 0
IsPrintedApart c d = printed_name d ≢ printed_name c

others_apart : (c : ClassDef) (earlier : List (List ℕ)) (given : List ClassDef) → HasCleanName c → AllByRecursion HasCleanName given
    → duplicates (own_name c ∷ earlier) given ≡ [] → AllByRecursion (IsPrintedApart c) given
others_apart c earlier given own clean none = both given clean (new_after (own_name c ∷ earlier) given none) where
  both : (ds : List ClassDef) → AllByRecursion HasCleanName ds → AllByRecursion (IsNewAfter (own_name c ∷ earlier)) ds → AllByRecursion (IsPrintedApart c) ds
  both [] are new = tt
  both (d ∷ ds) are new =
      ((λ same. new.0 (Contains-first (own_name c) earlier (own_name d) (printed_apart (own_name d) (own_name c) are.0 own same))), both ds are.1 new.1)

-- one text before others that are new
new_before : (text : List ℕ) (texts : List (List ℕ)) → AllByRecursion (λ other. other ≢ text) texts → AreNew texts → AreNew (text ∷ texts)
new_before text texts apart new zero = λ there. omega (arith, there.1)
new_before text texts apart new (suc place) = at (slice_get texts place) refl (new place) where
  at : (o : Option (List ℕ)) → slice_get texts place ≡ o → IfSome o (λ t. ¬ Contains (take place texts) t) → IfSome o (λ t. ¬ Contains (text ∷ take place texts) t)
  at None is own = tt
  at (Some t) is own = λ there. ⊎_elim
      (λ (same : t ≡ text). AllByRecursion-at (λ other. other ≢ text) texts place t apart is same)
      (λ (later : Contains (take place texts) t). own later)
      (Contains-cons_cases text (take place texts) t there)

none_earlier : AreNew []
none_earlier zero = tt
none_earlier (suc place) = tt

all_new : (earlier : List (List ℕ)) (given : List ClassDef) → AllByRecursion HasCleanName given → duplicates earlier given ≡ [] → AreNew (map printed_name given)
all_new earlier [] clean none = none_earlier
all_new earlier (c ∷ given) clean none =
    let parts = left_none _ (duplicates (own_name c ∷ earlier) given) none in
    new_before (printed_name c) (map printed_name given) (mapped given (others_apart c earlier given clean.0 clean.1 parts.1)) (all_new (own_name c ∷ earlier) given clean.1 parts.1)
  where
    mapped : (ds : List ClassDef) → AllByRecursion (IsPrintedApart c) ds → AllByRecursion (λ other. other ≢ printed_name c) (map printed_name ds)
    mapped [] apart = tt
    mapped (d ∷ ds) apart = (apart.0, mapped ds apart.1)

pub names_apart : NamesAreApart
unfolding refusals refused_duplicates
names_apart given main spelled supported none =
    let first = left_none _ _ (left_none _ _ (left_none _ _ (left_none _ _ (left_none _ _ (left_none _ _ (left_none _ _ none).0).0).0).0).0).0 in
    all_new [] given (clean_names given spelled supported) first.0
