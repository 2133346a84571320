-- The units of literals: those of texts, and of the names of types, which are short (JVMS 4.4.7).
use Rattle.std.proofs.Common.{◌≡◌, refl, ℕ, ◌+◌, ◌-◌, ◌^◌, ◌<◌, ◌==◌, ◌&&◌, Bool, true, false, cond, List, [], ◌∷◌, ◌++◌, length, nat_lt, option_map, unwrap_or, Option, Some, None, replicate, slice_get, arith}
use Rattle.std.specs.List.{AllByRecursion, slice_index_or}
use Rattle.std.proofs.lemmas.Bool.{and_parts, ltb-true}
use Rattle.std.proofs.lemmas.List.{length-append, length-map, length-replicate}
use Rattle.fm_base.proofs.ListFacts.{AllByRecursion-append, AllByRecursion-get_or}
use Rattle.fm_base.specs.declared.characters.TheConstants.{DOT, LEFT_BRACKET, SEMICOLON, SLASH}
use Rattle.fm_base.specs.declared.kinds.Base.{Base}
use Rattle.fm_base.specs.declared.kinds.Base.TheVariants as base
use Rattle.fm_base.specs.declared.kinds.TypeRef.{TypeRef}
use Rattle.fm_code.specs.ConstantPool.{entry_at}
use Rattle.fm_code.specs.Spells.{HasSpelling}
use Rattle.fm_code.specs.declared.class_file.ClassDef.{ClassDef}
use Rattle.fm_code.specs.declared.constant_pool.Entry.{Entry}
use Rattle.fm_code.specs.declared.constant_pool.Entry.TheVariants as entry
use Rattle.fm_frames.specs.Acts.{literal_text, name_numbered}
use Rattle.fm_frames.specs.NativeRows.{base_text, plain_name, spelled_type, type_name}
use Rattle.fm_law_linked.proofs.FewTypes.{numbered_shallow}
use Rattle.fm_law_linked.proofs.TextUnits.{empty_text, IsShortText, numbered_short, parted_few, text_few}
use Rattle.fm_law_linked.proofs.TypeNames.{names_fit}
use Rattle.fm_law_sound.specs.Making.{AreUnits}
use Rattle.fm_world.specs.BuiltIns.{built_in}
use Rattle.fm_world.specs.Chains.{class_at}
use Rattle.fm_world.specs.Declarations.{declared_from, name_at, no_class}
use Rattle.fm_world.specs.Programs.{classes_of, Outline, outline_of}
use Rattle.fm_world.specs.declared.declarations.DeclaredClass.{DeclaredClass}

-- ---- the names of classes

abbrev HasShortName : DeclaredClass → Type 0
HasShortName c = length c.name < 2 ^ 16

named_short : (c : ClassDef) → HasSpelling c → (index : ℕ) → length (name_at c.pool.entries index) < 2 ^ 16
named_short c spelled index = by_entry (entry_at c.pool.entries index) refl where
  by_entry : (e : Entry) → entry_at c.pool.entries index ≡ e → length (name_at c.pool.entries index) < 2 ^ 16
  by_entry (entry.Class name) is = rw is (text_few c spelled name)
  by_entry e is = rw is (omega arith)

short_from : (n : ℕ) (given : List ClassDef) → AllByRecursion HasSpelling given → AllByRecursion HasShortName (declared_from n given)
short_from n [] spelled = tt
short_from n (c ∷ given) spelled = (named_short c spelled.0 c.this_class, short_from (n + 1) given spelled.1)

abbrev all_short : List DeclaredClass → Bool
all_short [] = true
all_short (c ∷ classes) = nat_lt (length c.name) 256 && all_short classes

built_in_short : all_short built_in ≡ true
unfolding built_in
built_in_short = refl

each_short : (classes : List DeclaredClass) → all_short classes ≡ true → AllByRecursion HasShortName classes
each_short [] all = tt
each_short (c ∷ classes) all =
    let two = and_parts (nat_lt (length c.name) 256) (all_short classes) all in
    let few = ltb-true (length c.name) 256 two.0 in (omega (arith, few), each_short classes two.1)

class_short : (given : List ClassDef) → AllByRecursion HasSpelling given → (class : ℕ) → length (class_at (classes_of given) class).name < 2 ^ 16
unfolding classes_of
class_short given spelled class =
    AllByRecursion-get_or HasShortName (built_in ++ declared_from 0 given) no_class
    (AllByRecursion-append HasShortName built_in (declared_from 0 given) (each_short built_in built_in_short) (short_from 0 given spelled)) (omega arith) class

-- ---- the names of types

module _ (o : Outline) (each : (class : ℕ) → length (class_at o.classes class).name < 2 ^ 16) where
  base_short : (b : Base) → length (base_text o b) < 2 ^ 16 + 2
  base_short base.Boolean = omega arith
  base_short base.Byte = omega arith
  base_short base.Char = omega arith
  base_short base.Short = omega arith
  base_short base.Int = omega arith
  base_short base.Long = omega arith
  base_short (base.OfClass class) =
      let name = each class.0 in
      let all = length-append (class_at o.classes class.0).name (SEMICOLON ∷ []) in omega (arith, name, all)

  plain_short : (b : Base) → length (plain_name o b) < 2 ^ 16 + 2
  plain_short (base.OfClass class) = let name = each class.0 in omega (arith, name)
  plain_short b = base_short b

  -- with a byte for each dimension
  spelled_short : (t : TypeRef) → t.dims < 256 → length (spelled_type o t) < 2 ^ 17
  spelled_short t few =
      let same = length-map (cond (t.dims == 0) (plain_name o t.base) array) (λ c. cond (c == SLASH) DOT c) in
      let short = by_flag (t.dims == 0) in omega (arith, same, short) where
        array : List ℕ
        array = replicate t.dims LEFT_BRACKET ++ base_text o t.base

        by_flag : (b : Bool) → length (cond b (plain_name o t.base) array) < 2 ^ 17
        by_flag true = let short = plain_short t.base in omega (arith, short)
        by_flag false =
            let all = length-append (replicate t.dims LEFT_BRACKET) (base_text o t.base) in
            let brackets = length-replicate t.dims LEFT_BRACKET in
            let short = base_short t.base in omega (arith, all, brackets, short, few)

  name_short : (t : TypeRef) → t.dims < 256 → length (type_name o t) < 2 ^ 31
  name_short t few =
      let bytes = spelled_short t few in
      let units = parted_few (spelled_type o t) in omega (arith, bytes, units)

-- ---- the literals

short_names : (given : List ClassDef) (main : List ℕ) → AllByRecursion HasSpelling given → (class : ℕ)
    → length (class_at (outline_of given main).classes class).name < 2 ^ 16
unfolding outline_of
short_names given main spelled class = class_short given spelled class

-- the units of literals are those of chars, and there are few of them
pub literals_short : (given : List ClassDef) (main : List ℕ) → AllByRecursion HasSpelling given → (literal : ℕ)
    → (length (literal_text (outline_of given main) literal) < 2 ^ 31) × AreUnits (literal_text (outline_of given main) literal)
literals_short given main spelled literal = let its = by_text (nat_lt literal (length o.texts)) in (its.few, its.fit) where
  o : Outline
  o = outline_of given main

  by_type : (type : ℕ) (found : Option TypeRef) → slice_get o.types type ≡ found → IsShortText (unwrap_or (option_map (type_name o) found) [])
  by_type type None at = empty_text
  by_type type (Some t) at = record {
    few = name_short o (short_names given main spelled) t (numbered_shallow given main spelled type t at);
    fit = names_fit given main spelled type t at;
  }

  by_text : (b : Bool) → IsShortText (cond b (slice_index_or o.texts literal []) (name_numbered o (literal - length o.texts)))
  by_text true = numbered_short given main spelled literal
  by_text false = by_type (literal - length o.texts) (slice_get o.types (literal - length o.texts)) refl
