-- What indices are resolved to, by the tables.
use Rattle.std.proofs.Common.{◌≡◌, refl, sym, ◌∙◌, ap, subst, ℕ, zero, suc, ◌+◌, ◌<◌, ◌≤◌, List, [], ◌∷◌, ◌++◌, length, map, take, get_or, Bool, false, Option, None, append_assoc, arith}
use Rattle.std.specs.Prelude.{option_and_then}
use Rattle.std.proofs.lemmas.List.{map_push, take_all, take_more}
use Rattle.std.specs.List.{range_with_len, slice_index_or, AllByRecursion}
use Rattle.fm_code.specs.ConstantPool.{entry_at}
use Rattle.fm_code.specs.Spells.{HasSpelling}
use Rattle.fm_code.specs.declared.class_file.ClassDef.{ClassDef}
use Rattle.fm_code.specs.declared.constant_pool.Entry.{Entry}
use Rattle.fm_code.specs.declared.constant_pool.Entry.TheVariants as entry
use Rattle.fm_link_names.specs.declared.given.GivenFile.{GivenFile}
use Rattle.fm_link_names.specs.inner.Numbering.{texts_in}
use Rattle.fm_link_records.proofs.ClassSteps.{table_default}
use Rattle.fm_link_records.proofs.NamedLaws.{type_at-is}
use Rattle.fm_link_records.proofs.RowSteps.{row_more}
use Rattle.fm_link_records.proofs.TextLaws.{text_number-is}
use Rattle.fm_link_records.proofs.UseLaws.{found_by, resolved_at-is}
use Rattle.fm_link_records.specs.inner.Named.{text_at, type_at}
use Rattle.fm_link_records.specs.inner.Uses.{use_by}
use Rattle.fm_link_refusals.specs.inner.GivenClasses.{class_in, given_in, IsNumbered}
use Rattle.fm_link_program.specs.declared.uses.Resolving.{Resolving}
use Rattle.fm_link_program.specs.inner.Resolved.{classes_by, member_found, outline_by, use_if, IsResolving}
use Rattle.fm_world.proofs.TableLemmas.{length-row}
use Rattle.fm_world.specs.Numbers.{type_number}
use Rattle.fm_world.specs.Programs.{Outline, class_uses, resolved_at, type_number_at}
use Rattle.fm_world.specs.Uses.{is_used, named_member, pool_indices}
use Rattle.fm_world.specs.declared.uses.Use.{Use}

found-by : (o : Outline) (entries : List Entry) (index : ℕ) (e : Entry)
    → member_found o.classes (named_member entries index) e ≡ found_by o entries index e
found-by o entries index (entry.Field class member) = refl
found-by o entries index (entry.Method class member) = refl
found-by o entries index (entry.InterfaceMethod class member) = refl
found-by o entries index e = refl

-- an entry with the numbers of what it names is what it is resolved to
pub resolved-is : (r : Resolving) (file : GivenFile) (index : ℕ) (named found text : Option ℕ) (made : Use)
    → IsResolving r → IsNumbered (texts_in r.linking.texts.now) file → HasSpelling (class_in file)
    → named ≡ option_and_then (type_number r.types.now.types.keys) (type_at r.by_text.now file index)
    → found ≡ member_found (classes_by r.linking) (named_member (class_in file).pool.entries index) (entry_at (class_in file).pool.entries index)
    → text ≡ option_and_then (λ n. slice_index_or r.literals.now.by_text.items n None) (text_at file index)
    → made ≡ use_by (entry_at (class_in file).pool.entries index) named found text
    → made ≡ resolved_at (outline_by r) (class_in file).pool.entries index
resolved-is r file index named found text made is numbered spelled named_is found_is text_is made_is =
    let o = outline_by r in
    let entries = (class_in file).pool.entries in
    let e = entry_at entries index in
    let texts = texts_in r.linking.texts.now in
    made_is
    ∙ ap (λ n. use_by e n found text) (named_is ∙ ap (option_and_then (type_number o.types))
    (type_at-is texts o.classes r.by_text.now file.number (class_in file) file is.by_text spelled numbered index))
    ∙ ap (λ f. use_by e (type_number_at o entries index) f text) (found_is ∙ found-by o entries index e)
    ∙ ap (use_by e (type_number_at o entries index) (found_by o entries index e))
    (text_is ∙ text_number-is texts o.texts r.literals.now.by_text.items file.number (class_in file) file is.texts spelled numbered index)
    ∙ resolved_at-is o entries index

-- each file is spelled
pub spelled_here : (files : List GivenFile) (i : ℕ) (file : GivenFile) → AllByRecursion HasSpelling (given_in files) → i < length files
    → file ≡ get_or files i file → HasSpelling (class_in file)
spelled_here [] i file all within is = absurd (omega (arith, within))
spelled_here (f ∷ files) zero file all within is = let same : f ≡ file = sym is in subst (λ g. HasSpelling (class_in g)) same all.0
spelled_here (f ∷ files) (suc i) file all within is = spelled_here files i file all.1 (omega (arith, within)) is

-- ---- one file

-- the mark of an index
used_at : (c : ClassDef) (used : List Bool) (place : ℕ) (mark : Bool) → used ≡ map (is_used c) (pool_indices c) → place < length used
    → mark ≡ get_or used place false → mark ≡ is_used c place
used_at c used place mark are within read =
    let long = length-row (is_used c) (length c.pool.entries) used are in
    read ∙ table_default (is_used c) (length c.pool.entries) place used false are (omega (arith, within, long))

pub place_step : (o : Outline) (c : ClassDef) (used : List Bool) (place : ℕ) (mark : Bool) (old new : List Use) (one : Use)
    → used ≡ map (is_used c) (pool_indices c) → place < length used → mark ≡ get_or used place false → one ≡ use_if o c mark place
    → new ≡ old ++ one ∷ [] → old ≡ map (λ k. use_if o c (is_used c k) k) (range_with_len 0 place)
    → new ≡ map (λ k. use_if o c (is_used c k) k) (range_with_len 0 (place + 1))
place_step o c used place mark old new one are within read is pushed before =
    row_more (λ k. use_if o c (is_used c k) k) place old new one pushed before
    (is ∙ ap (λ b. use_if o c b place) (used_at c used place mark are within read))

pub place_end : (o : Outline) (c : ClassDef) (used : List Bool) (place : ℕ) (uses : List Use) → used ≡ map (is_used c) (pool_indices c)
    → place ≡ length used → uses ≡ map (λ k. use_if o c (is_used c k) k) (range_with_len 0 place) → uses ≡ class_uses o c
place_end o c used place uses are end is =
    is ∙ ap (λ n. map (λ k. use_if o c (is_used c k) k) (range_with_len 0 n))
    (end ∙ length-row (is_used c) (length c.pool.entries) used are)

-- ---- all files

pub files_step : (o : Outline) (head : List (List Use)) (files : List GivenFile) (i : ℕ) (file : GivenFile) (old new : List (List Use))
    (one : List Use)
    → i < length files → file ≡ get_or files i file → old ≡ head ++ map (class_uses o) (given_in (take i files))
    → one ≡ class_uses o (class_in file) → new ≡ old ++ one ∷ [] → new ≡ head ++ map (class_uses o) (given_in (take (i + 1) files))
files_step o head files i file old new one within here before is pushed =
    let done = given_in (take i files) in
    let more : take (i + 1) files ≡ take i files ++ file ∷ [] =
    take_more files i file within ∙ ap (λ f. take i files ++ f ∷ []) (sym here) in
    pushed ∙ ap (λ us. us ++ one ∷ []) before ∙ append_assoc head (map (class_uses o) done) (one ∷ [])
    ∙ ap (λ us. head ++ us) (ap (λ u. map (class_uses o) done ++ u ∷ []) is
    ∙ sym (ap (λ fs. map (class_uses o) (given_in fs)) more ∙ ap (map (class_uses o)) (map_push class_in (take i files) file)
    ∙ map_push (class_uses o) done (class_in file)))

pub files_end : (o : Outline) (head : List (List Use)) (files : List GivenFile) (i : ℕ) (uses : List (List Use)) → length files ≤ i
    → uses ≡ head ++ map (class_uses o) (given_in (take i files)) → uses ≡ head ++ map (class_uses o) (given_in files)
files_end o head files i uses end is = is ∙ ap (λ fs. head ++ map (class_uses o) (given_in fs)) (take_all i files end)
