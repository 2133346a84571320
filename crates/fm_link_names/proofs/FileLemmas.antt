-- Pools and files, numbered one after the other.
use Rattle.std.proofs.Common.{◌≡◌, refl, sym, ◌∙◌, subst, ℕ, ◌+◌, ◌<◌, ◌≤◌, ◌⊎◌, inl, inr, List, [], ◌∷◌, ◌++◌, length, slice_get, Option, Some, None, Vec, Global, arith}
use Rattle.std.proofs.lemmas.Bool.{cases_lt}
use Rattle.std.specs.Borrow.{Bor}
use Rattle.std.specs.List.{slice_index_or}
use Rattle.std.proofs.lemmas.List.{get_or_append_left, get_or_push, get_or_past, length_push}
use Rattle.std.proofs.lemmas.Option.{none-some, slice_get_past, slice_get_within}
use Rattle.fm_code.specs.ConstantPool.{entry_at, utf8_at}
use Rattle.fm_code.specs.declared.class_file.ClassDef.{ClassDef}
use Rattle.fm_code.specs.declared.constant_pool.Entry.{Entry}
use Rattle.fm_code.specs.declared.constant_pool.Entry.TheVariants as entry
use Rattle.fm_link_names.proofs.PlaceLemmas.{slice_get_push_cases}
use Rattle.fm_link_names.proofs.TextLemmas.{number_kept}
use Rattle.fm_link_names.specs.declared.given.GivenFile.{GivenFile}
use Rattle.fm_link_names.specs.declared.texts.Texts.{Texts}
use Rattle.fm_link_names.specs.inner.Files.{AreFiles, IsFile, text_in}
use Rattle.fm_link_names.specs.inner.Numbering.{AreTexts, entry_text, Extends, IsNumberOf, texts_in}

pub extends_through : (a b c : List (List ℕ)) → Extends a b → Extends b c → Extends a c
extends_through a b c ab bc n text at = bc n text (ab n text at)

-- ---- the texts of a pool

-- the numbers of a pool's texts, with texts that may be new
pub record AreNumbered (old now : Texts) (entries : List Entry) (numbers : List (Option ℕ)) : Type 0 where
  pub are : AreTexts now
  pub extends : Extends (texts_in old) (texts_in now)
  pub count : length numbers ≡ length entries
  pub each : (index : ℕ) → IsNumberOf (texts_in now) (utf8_at entries index) (slice_index_or numbers index None)

pub none_numbered : (texts : Texts) → AreTexts texts → AreNumbered texts texts [] []
none_numbered texts are = record { are = are; extends = λ n text at. at; count = refl; each = nothing } where
  nothing : (index : ℕ) → IsNumberOf (texts_in texts) (utf8_at [] index) (slice_index_or [] index None)
  nothing index = tt

-- one entry more
pub entry_numbered : (old now new : Texts) (entries : List Entry) (numbers : List (Option ℕ)) (e : Entry) (number : Option ℕ)
    → AreNumbered old now entries numbers → AreTexts new → Extends (texts_in now) (texts_in new) → IsNumberOf (texts_in new) (entry_text e) number
    → AreNumbered old new (entries ++ e ∷ []) (numbers ++ number ∷ [])
entry_numbered old now new entries numbers e number so_far are extends is = record {
  are = are;
  extends = extends_through (texts_in old) (texts_in now) (texts_in new) so_far.extends extends;
  count = let a = length_push numbers number in let b = length_push entries e in omega (arith, a, b, so_far.count);
  each = λ index. by_place index (cases_lt index (length entries));
} where
  IsAt : ℕ → Entry → Option ℕ → Type 0
  IsAt index f n =
      (entry_at (entries ++ e ∷ []) index ≡ f)
      × (slice_index_or (numbers ++ number ∷ []) index None ≡ n)
      × IsNumberOf (texts_in new) (entry_text f) n

  from : (index : ℕ) (f : Entry) (n : Option ℕ) → IsAt index f n
      → IsNumberOf (texts_in new) (utf8_at (entries ++ e ∷ []) index) (slice_index_or (numbers ++ number ∷ []) index None)
  from index f n (entry_is, number_is, at) =
      let E : Entry → Type 0 = λ x. IsNumberOf (texts_in new) (entry_text x) (slice_index_or (numbers ++ number ∷ []) index None) in
      let N : Option ℕ → Type 0 = λ m. IsNumberOf (texts_in new) (entry_text f) m in
      subst E (sym entry_is) (subst N (sym number_is) at)

  by_place : (index : ℕ) → (index < length entries) ⊎ (length entries ≤ index)
      → IsNumberOf (texts_in new) (utf8_at (entries ++ e ∷ []) index) (slice_index_or (numbers ++ number ∷ []) index None)
  by_place index (inl below) =
      let within : index < length numbers = omega (arith, below, so_far.count) in
      from index (entry_at entries index) (slice_index_or numbers index None) (
        get_or_append_left entries (e ∷ []) entry.Second index below,
        get_or_append_left numbers (number ∷ []) None index within,
        number_kept (texts_in now) (texts_in new) extends (utf8_at entries index) (slice_index_or numbers index None) (so_far.each index),
      )
  by_place index (inr above) = past index above (cases_lt index (length entries + 1)) where
    past : (k : ℕ) → length entries ≤ k → (k < length entries + 1) ⊎ (length entries + 1 ≤ k)
        → IsNumberOf (texts_in new) (utf8_at (entries ++ e ∷ []) k) (slice_index_or (numbers ++ number ∷ []) k None)
    past k from_here (inl here) =
        let last : length entries ≡ k = omega (arith, from_here, here) in
        let same : length numbers ≡ k = omega (arith, last, so_far.count) in
        from k e number (get_or_push entries e entry.Second k last, get_or_push numbers number None k same, is)
    past k from_here (inr beyond) =
        let a = length_push numbers number in
        let b = length_push entries e in
        let no_entry : length (entries ++ e ∷ []) ≤ k = omega (arith, b, beyond) in
        let no_number : length (numbers ++ number ∷ []) ≤ k = omega (arith, a, beyond, so_far.count) in
        from k entry.Second None (get_or_past (entries ++ e ∷ []) k entry.Second no_entry, get_or_past (numbers ++ number ∷ []) k None no_number, tt)

-- ---- files

pub file_kept : (old new : List (List ℕ)) (k : ℕ) (c : ClassDef) (file : GivenFile) → Extends old new → IsFile old k c file → IsFile new k c file
file_kept old new k c file extends is = record {
  class_is = is.class_is;
  number_is = is.number_is;
  texts_are = λ index. number_kept old new extends (utf8_at c.pool.entries index) (text_in file index) (is.texts_are index);
}

pub no_files : (texts : List (List ℕ)) → AreFiles texts [] []
no_files texts = record { count = refl; each = λ k c file at other. absurd (none-some c (sym (slice_get_past [] k (omega arith)) ∙ at)) }

-- one file more
pub file_more : (old new : List (List ℕ)) (given : List ClassDef) (files : List GivenFile) (c : ClassDef) (file : GivenFile)
    → AreFiles old given files → Extends old new → IsFile new (length files) c file → AreFiles new (given ++ c ∷ []) (files ++ file ∷ [])
file_more old new given files c file so_far extends is = record {
  count = let a = length_push files file in let b = length_push given c in omega (arith, a, b, so_far.count);
  each = λ k d other at_class at_file. by_place k d other (slice_get_push_cases given c d k at_class)
      (slice_get_push_cases files file other k at_file);
} where
  by_place : (k : ℕ) (d : ClassDef) (other : GivenFile) → (slice_get given k ≡ Some d) ⊎ ((k ≡ length given) × (c ≡ d))
      → (slice_get files k ≡ Some other) ⊎ ((k ≡ length files) × (file ≡ other)) → IsFile new k d other
  by_place k d other (inl a) (inl b) = file_kept old new k d other extends (so_far.each k d other a b)
  by_place k d other (inl a) (inr b) = let below = slice_get_within given k d a in absurd (omega (arith, below, b.0, so_far.count))
  by_place k d other (inr a) (inl b) = let below = slice_get_within files k other b in absurd (omega (arith, below, a.0, so_far.count))
  by_place k d other (inr a) (inr b) =
      let K : ℕ → Type 0 = λ n. IsFile new n d other in
      let D : ClassDef → Type 0 = λ e. IsFile new (length files) e other in
      let F : GivenFile → Type 0 = λ f. IsFile new (length files) c f in
      subst K (sym b.0) (subst D a.1 (subst F b.1 is))

-- the files so far, with texts that may be new
pub record AreFilesSoFar (old now : Texts) (given : List ClassDef) (so_far : List GivenFile) : Type 0 where
  pub are : AreTexts now
  pub extends : Extends (texts_in old) (texts_in now)
  pub files : AreFiles (texts_in now) given so_far

pub no_files_yet : (texts : Texts) → AreTexts texts → AreFilesSoFar texts texts [] []
no_files_yet texts are = record { are = are; extends = λ n text at. at; files = no_files (texts_in texts) }

pub file_added : (old now new : Texts) (given : List ClassDef) (files : List GivenFile) (c : ClassDef) (file : GivenFile)
    → AreFilesSoFar old now given files → AreTexts new → Extends (texts_in now) (texts_in new) → IsFile (texts_in new) (length files) c file
    → AreFilesSoFar old new (given ++ c ∷ []) (files ++ file ∷ [])
file_added old now new given files c file so_far are extends is = record {
  are = are;
  extends = extends_through (texts_in old) (texts_in now) (texts_in new) so_far.extends extends;
  files = file_more (texts_in now) (texts_in new) given files c file so_far.files extends is;
}

-- the file that is pushed
pub file_pushed : (old now new : Texts) (given : List ClassDef) (files more : List GivenFile) (class : Bor ClassDef) (number : ℕ)
    (numbers : Vec (Option ℕ) Global)
    → more ≡ files ++ record { class = class; number = number; texts = numbers } ∷ [] → number ≡ length files
    → AreFilesSoFar old now given files → AreTexts new → Extends (texts_in now) (texts_in new)
    → ((index : ℕ) → IsNumberOf (texts_in new) (utf8_at class.now.pool.entries index) (slice_index_or numbers.items index None))
    → AreFilesSoFar old new (given ++ class.now ∷ []) more
file_pushed old now new given files more class number numbers pushed last so_far are extends texts =
    let P : List GivenFile → Type 0 = λ fs. AreFilesSoFar old new (given ++ class.now ∷ []) fs in
    subst P (sym pushed)
    (file_added old now new given files class.now (record { class = class; number = number; texts = numbers }) so_far are extends
    (record { class_is = refl; number_is = last; texts_are = texts }))
