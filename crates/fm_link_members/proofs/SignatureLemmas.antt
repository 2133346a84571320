-- Signatures distinguish the names and descriptors of members, so that a class's own member is found by its signature.
use Rattle.std.proofs.Common.{◌≡◌, refl, sym, ◌∙◌, ap, subst, ℕ, ◌<◌, ◌&&◌, Bool, true, false, List, [], length, map, get_or, nat_eq, Option, Some, None, option_map, slice_get, arith}
use Rattle.std.proofs.Math.ListN.{get_or-map}
use Rattle.std.specs.List.{position_from}
use Rattle.std.specs.Str.{bytes_eq}
use Rattle.std.proofs.lemmas.Bool.{and_from, eq-eqb, eqb-true}
use Rattle.std.proofs.lemmas.Iterator.Adapters.{position_from-zero}
use Rattle.std.proofs.lemmas.List.{length-map}
use Rattle.std.proofs.lemmas.List.Quantifiers.{position-Some}
use Rattle.std.proofs.lemmas.Option.{get_or_from_slice_get, slice_get-get_or, slice_get-map}
use Rattle.std.proofs.lemmas.Slice.Eq.{bytes_eq-Decides}
use Rattle.fm_base.proofs.TestFacts.{and_false, and_left, and_right, same_test}
use Rattle.fm_link_names.specs.inner.Numbering.{text_of}
use Rattle.fm_link_members.specs.declared.members.MemberRow.{MemberRow}
use Rattle.fm_link_members.specs.declared.members.Signatures.{Signatures}
use Rattle.fm_link_members.specs.inner.MemberRows.{no_row, AreRows, Owned, row_alike}
use Rattle.fm_link_members.specs.inner.MemberTables.{has_key, is_own, own_by, signature_of, AreDistinct, AreSignatures}
use Rattle.fm_link_members.proofs.FirstOnes.{IsFirst, first_from-is, first_is_one, position-is}
use Rattle.fm_link_members.proofs.SectionLemmas.{is_named}

-- ---- tests

and_assoc : (a b c : Bool) → ((a && b) && c) ≡ (a && (b && c))
and_assoc true b c = refl
and_assoc false b c = refl

-- ---- texts

-- a text is another one exactly where their numbers are equal
pub text-number : (texts : List (List ℕ)) → AreDistinct texts → (a n : ℕ) (name : List ℕ) → a < length texts → slice_get texts n ≡ Some name
    → nat_eq a n ≡ bytes_eq (text_of texts a) name
text-number texts distinct a n name within there =
    same_test (nat_eq a n) (bytes_eq (text_of texts a) name) (λ e. (bytes_eq-Decides (text_of texts a) name).1 (forth e))
    (λ e. eq-eqb a n (distinct a n name (back ((bytes_eq-Decides (text_of texts a) name).0 e)) there)) where
      forth : nat_eq a n ≡ true → text_of texts a ≡ name
      forth e = ap (text_of texts) (eqb-true a n e) ∙ get_or_from_slice_get texts n name [] there

      back : text_of texts a ≡ name → slice_get texts a ≡ Some name
      back e = slice_get-get_or texts a [] within ∙ ap (λ t. Some t) e

-- ---- signatures

pub count_of_signatures : (rows : List MemberRow) (s : Signatures) → AreSignatures rows s → length s.of_members.items ≡ length rows
count_of_signatures rows s are =
    sym (length-map s.of_members.items (λ n. Some n)) ∙ ap length are.of_members
    ∙ length-map rows (λ (r : MemberRow). signature_of rows r.name r.descriptor)

pub signature_at : (rows : List MemberRow) (s : Signatures) → AreSignatures rows s → (k : ℕ) → k < length rows
    → signature_of rows (get_or rows k no_row).name (get_or rows k no_row).descriptor ≡ Some (get_or s.of_members.items k 0)
signature_at rows s are k within = by_option (sym of_row ∙ ap (λ xs. slice_get xs k) (sym are.of_members) ∙ of_signature) where
  row : MemberRow
  row = get_or rows k no_row

  of_row : slice_get (map (λ (r : MemberRow). signature_of rows r.name r.descriptor) rows) k ≡ Some (signature_of rows row.name row.descriptor)
  of_row = slice_get-map (λ (r : MemberRow). signature_of rows r.name r.descriptor) rows k
      ∙ ap (option_map (λ (r : MemberRow). signature_of rows r.name r.descriptor)) (slice_get-get_or rows k no_row within)

  of_signature : slice_get (map (λ (n : ℕ). Some n) s.of_members.items) k ≡ Some (Some (get_or s.of_members.items k 0))
  of_signature = slice_get-map (λ (n : ℕ). Some n) s.of_members.items k
      ∙ ap (option_map (λ (n : ℕ). Some n)) (slice_get-get_or s.of_members.items k 0 (omega (arith, within, count_of_signatures rows s are)))

  by_option : {a b : Option ℕ} → Some a ≡ Some b → a ≡ b
  by_option h = cc

-- a member has the signature of a name with a descriptor exactly where it has these
pub signature-key : (rows : List MemberRow) (s : Signatures) → AreSignatures rows s → (k : ℕ) → k < length rows → (name descriptor signature : ℕ)
    → signature_of rows name descriptor ≡ Some signature
    → nat_eq (get_or s.of_members.items k 0) signature ≡ has_key name descriptor (get_or rows k no_row)
signature-key rows s are k within name descriptor signature found =
    same_test (nat_eq own signature) (has_key name descriptor row) forth back where
      row : MemberRow
      row = get_or rows k no_row

      own : ℕ
      own = get_or s.of_members.items k 0

      first : MemberRow
      first = get_or rows signature no_row

      same_number : {a b : ℕ} → Some a ≡ Some b → a ≡ b
      same_number h = cc

      named : has_key name descriptor first ≡ true
      named = (position-Some (has_key name descriptor) rows signature no_row found).1

      alike : nat_eq own signature ≡ true → has_key row.name row.descriptor first ≡ true
      alike e =
          (position-Some (has_key row.name row.descriptor) rows signature no_row
          (signature_at rows s are k within ∙ ap (λ n. Some n) (eqb-true own signature e))).1

      forth : nat_eq own signature ≡ true → has_key name descriptor row ≡ true
      forth e =
          let n = eqb-true first.name name (and_left (nat_eq first.name name) (nat_eq first.descriptor descriptor) named) in
          let d = eqb-true first.descriptor descriptor (and_right (nat_eq first.name name) (nat_eq first.descriptor descriptor) named) in
          let m = eqb-true first.name row.name (and_left (nat_eq first.name row.name) (nat_eq first.descriptor row.descriptor) (alike e)) in
          let b = eqb-true first.descriptor row.descriptor
          (and_right (nat_eq first.name row.name) (nat_eq first.descriptor row.descriptor) (alike e)) in
          and_from (nat_eq row.name name) (nat_eq row.descriptor descriptor) (eq-eqb row.name name (sym m ∙ n))
          (eq-eqb row.descriptor descriptor (sym b ∙ d))

      back : has_key name descriptor row ≡ true → nat_eq own signature ≡ true
      back e =
          let n = eqb-true row.name name (and_left (nat_eq row.name name) (nat_eq row.descriptor descriptor) e) in
          let d = eqb-true row.descriptor descriptor (and_right (nat_eq row.name name) (nat_eq row.descriptor descriptor) e) in
          eq-eqb own signature (same_number (sym (signature_at rows s are k within) ∙ ap (λ x. signature_of rows x row.descriptor) n
          ∙ ap (signature_of rows name) d ∙ found))

-- ---- members

-- what a row says of the name and the descriptor of numbers
key-named : (texts : List (List ℕ)) (rows : List MemberRow) (owned : List Owned) → AreDistinct texts → AreRows texts owned rows
    → (passes : ℕ → Bool) (name descriptor : ℕ) (n d : List ℕ) (class k : ℕ) → slice_get texts name ≡ Some n → slice_get texts descriptor ≡ Some d
    → k < length rows
    → (nat_eq (get_or rows k no_row).class class && (has_key name descriptor (get_or rows k no_row) && passes (get_or rows k no_row).flags))
    ≡ is_named passes n d class (get_or owned k (row_alike texts no_row))
key-named texts rows owned distinct are passes name descriptor n d class k there_n there_d within =
    ap (λ b. nat_eq row.class class && (b && nat_eq row.descriptor descriptor && passes row.flags)) (text-number texts distinct row.name name n
    (are.names k row there) there_n)
    ∙ ap (λ b. nat_eq row.class class && (bytes_eq (text_of texts row.name) n && b && passes row.flags))
    (text-number texts distinct row.descriptor descriptor d (are.descriptors k row there) there_d)
    ∙ ap (is_named passes n d class) (sym (get_or-map (row_alike texts) rows k no_row)
    ∙ ap (λ xs. get_or xs k (row_alike texts no_row)) are.same) where
      row : MemberRow
      row = get_or rows k no_row

      there : slice_get rows k ≡ Some row
      there = slice_get-get_or rows k no_row within

pub length-owned : (texts : List (List ℕ)) (rows : List MemberRow) (owned : List Owned) → AreRows texts owned rows → length rows ≡ length owned
length-owned texts rows owned are = sym (length-map rows (row_alike texts)) ∙ ap length are.same

-- the first member of the class that is so named
is_first-named : (texts : List (List ℕ)) (rows : List MemberRow) (owned : List Owned) → AreRows texts owned rows → (p : Owned → Bool)
    → IsFirst (λ k. p (get_or owned k (row_alike texts no_row))) 0 (length rows) (position_from p 0 owned)
is_first-named texts rows owned are p =
    position-is p owned 0 (row_alike texts no_row) (λ k. p (get_or owned k (row_alike texts no_row))) (length rows)
    (omega (arith, length-owned texts rows owned are))
    (λ k below. ap (λ j. p (get_or owned j (row_alike texts no_row))) (omega arith))

pub own_by-named : (texts : List (List ℕ)) (rows : List MemberRow) (owned : List Owned) (s : Signatures) → AreDistinct texts
    → AreRows texts owned rows → AreSignatures rows s → (passes : ℕ → Bool) (name descriptor signature : ℕ) (n d : List ℕ) (class : ℕ)
    → slice_get texts name ≡ Some n → slice_get texts descriptor ≡ Some d → signature_of rows name descriptor ≡ Some signature
    → own_by rows s.of_members.items passes signature class ≡ position_from (is_named passes n d class) 0 owned
own_by-named texts rows owned s distinct are signed passes name descriptor signature n d class there_n there_d found =
    first_is_one (is_own rows s.of_members.items passes signature class) (λ k. is_named passes n d class (get_or owned k (row_alike texts no_row))) 0
    (length rows) (own_by rows s.of_members.items passes signature class) (position_from (is_named passes n d class) 0 owned)
    (λ k from within. same k within)
    (first_from-is (is_own rows s.of_members.items passes signature class) (length rows) 0 (length rows) (omega arith))
    (is_first-named texts rows owned are (is_named passes n d class)) where
      same : (k : ℕ) → k < length rows
          → is_own rows s.of_members.items passes signature class k ≡ is_named passes n d class (get_or owned k (row_alike texts no_row))
      same k within =
          ap (λ b. nat_eq (get_or rows k no_row).class class && b && passes (get_or rows k no_row).flags) (signature-key rows s signed k within name
          descriptor signature found)
          ∙ and_assoc (nat_eq (get_or rows k no_row).class class) (has_key name descriptor (get_or rows k no_row))
          (passes (get_or rows k no_row).flags)
          ∙ key-named texts rows owned distinct are passes name descriptor n d class k there_n there_d within

pub none-named : (texts : List (List ℕ)) (rows : List MemberRow) (owned : List Owned) → AreDistinct texts → AreRows texts owned rows
    → (passes : ℕ → Bool) (name descriptor : ℕ) (n d : List ℕ) (class : ℕ) → slice_get texts name ≡ Some n → slice_get texts descriptor ≡ Some d
    → signature_of rows name descriptor ≡ None → position_from (is_named passes n d class) 0 owned ≡ None
none-named texts rows owned distinct are passes name descriptor n d class there_n there_d none =
    first_is_one (λ k. is_named passes n d class (get_or owned k (row_alike texts no_row))) (λ k. false) 0 (length rows)
    (position_from (is_named passes n d class) 0 owned) None (λ k from within. fails k within)
    (is_first-named texts rows owned are (is_named passes n d class)) (λ k from within. refl) where
      no_key : IsFirst (λ k. has_key name descriptor (get_or rows k no_row)) 0 (length rows) None
      no_key = (let P : Option ℕ → Type 0 = λ o. IsFirst (λ k. has_key name descriptor (get_or rows k no_row)) 0 (length rows) o in
          subst P (sym (position_from-zero (has_key name descriptor) rows) ∙ none)
          (position-is (has_key name descriptor) rows 0 no_row (λ k. has_key name descriptor (get_or rows k no_row)) (length rows) (omega arith)
          (λ k below. ap (λ j. has_key name descriptor (get_or rows j no_row)) (omega arith))))

      fails : (k : ℕ) → k < length rows → is_named passes n d class (get_or owned k (row_alike texts no_row)) ≡ false
      fails k within =
          sym (key-named texts rows owned distinct are passes name descriptor n d class k there_n there_d within)
          ∙ ap (λ b. nat_eq (get_or rows k no_row).class class && (b && passes (get_or rows k no_row).flags)) (no_key k (omega arith) within)
          ∙ and_false (nat_eq (get_or rows k no_row).class class)
