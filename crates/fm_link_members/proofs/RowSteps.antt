-- Rows of members, one after the other and class after class.
use Rattle.std.proofs.Common.{◌≡◌, refl, sym, ◌∙◌, ap, subst, ℕ, zero, suc, ◌+◌, ◌<◌, ◌≤◌, List, [], ◌∷◌, ◌++◌, length, map, take, get_or, Some, slice_get, sum_by, arith, append_assoc, zero-add, ◌⊎◌, inl, inr}
use Rattle.std.proofs.Math.Seq.{get_or-append_seam}
use Rattle.std.proofs.lemmas.Bool.{cases_lt}
use Rattle.std.proofs.lemmas.List.{append-nil, get_or_append_left, get_or_default, length-append, length-map, map-append, map_more, take_all, take-append-le}
use Rattle.std.proofs.lemmas.List.FromFn.{fill_by_all, get_or-map-range_with_len, length-map-range_with_len}
use Rattle.std.proofs.lemmas.Option.{get_or_from_slice_get, none-some, same_Some, slice_get-get_or, slice_get_within}
use Rattle.fm_code.specs.ConstantPool.{utf8_at}
use Rattle.fm_link_names.proofs.FileLemmas.{extends_through}
use Rattle.fm_link_names.proofs.TextLemmas.{number_kept}
use Rattle.fm_link_names.specs.declared.given.GivenFile.{GivenFile}
use Rattle.fm_link_names.specs.declared.texts.Texts.{Texts}
use Rattle.fm_link_names.specs.inner.Declaring.{declared_file, HasTexts}
use Rattle.fm_link_names.specs.inner.Files.{text_in}
use Rattle.fm_link_names.specs.inner.Numbering.{text_of, texts_in, AreTexts, Extends}
use Rattle.fm_world.specs.Declarations.{declared_field, declared_method}
use Rattle.fm_world.specs.Members.{fields_of, methods_of}
use Rattle.fm_world.specs.declared.built_ins.BuiltInClass.{BuiltInClass}
use Rattle.fm_world.specs.declared.declarations.DeclaredClass.{DeclaredClass}
use Rattle.fm_world.specs.inner.BuiltInTable.{class_of_row, field_of_row, method_of_row}
use Rattle.fm_world.specs.inner.Tables.{numbers_below}
use Rattle.fm_link_members.proofs.SectionLemmas.{all_from, field_of_class, fields-alike, fields_in, method_of_class, methods-alike, methods_in}
use Rattle.fm_link_members.proofs.SectionRows.{before, before-next}
use Rattle.fm_link_members.proofs.SignatureLemmas.{length-owned}
use Rattle.fm_link_members.specs.declared.members.MemberRow.{MemberRow}
use Rattle.fm_link_members.specs.declared.members.Members.{Members}
use Rattle.fm_link_members.specs.inner.MemberRows.{field_alike, method_alike, row_alike, AreFieldRows, AreMethodRows, AreRows, Owned}
use Rattle.fm_link_members.specs.inner.MemberSteps.{built_in_field_alike, built_in_method_alike, member_alike, AddsRows, Grows, IsRow}

-- ---- texts that grow

pub grows_none : (texts : Texts) → AreTexts texts → Grows texts texts
grows_none texts are = record { are = are; extends = λ n text at. at }

pub grows_then : (a b c : Texts) → Grows a b → Grows b c → Grows a c
grows_then a b c g h = record { are = h.are; extends = extends_through (texts_in a) (texts_in b) (texts_in c) g.extends h.extends }

pub grows_by : (a b c : Texts) → Grows a b → AreTexts c → Extends (texts_in b) (texts_in c) → Grows a c
grows_by a b c g are extends = record { are = are; extends = extends_through (texts_in a) (texts_in b) (texts_in c) g.extends extends }

text_kept : (old new : List (List ℕ)) → Extends old new → (n : ℕ) → n < length old → slice_get new n ≡ Some (text_of old n)
text_kept old new extends n below = extends n (text_of old n) (slice_get-get_or old n [] below)

-- ---- rows

map_rows : (f g : MemberRow → Owned) (rows : List MemberRow) → ((k : ℕ) (row : MemberRow) → slice_get rows k ≡ Some row → f row ≡ g row)
    → map f rows ≡ map g rows
map_rows f g [] same = refl
map_rows f g (row ∷ rows) same =
    ap (λ o. o ∷ map f rows) (same 0 row refl) ∙ ap (λ os. g row ∷ os) (map_rows f g rows (λ k r at. same (suc k) r at))

pub rows_extend : (old new : List (List ℕ)) (owned : List Owned) (rows : List MemberRow) → Extends old new → AreRows old owned rows
    → AreRows new owned rows
rows_extend old new owned rows extends are = record {
  same = map_rows (row_alike new) (row_alike old) rows alike ∙ are.same;
  names = λ k row at. slice_get_within new row.name (text_of old row.name) (text_kept old new extends row.name (are.names k row at));
  descriptors = λ k row at.
      slice_get_within new row.descriptor (text_of old row.descriptor) (text_kept old new extends row.descriptor (are.descriptors k row at));
} where
  alike : (k : ℕ) (row : MemberRow) → slice_get rows k ≡ Some row → row_alike new row ≡ row_alike old row
  alike k row at =
      ap (λ t. record { class = row.class; name = t; descriptor = text_of new row.descriptor; flags = row.flags })
      (get_or_from_slice_get new row.name (text_of old row.name) [] (text_kept old new extends row.name (are.names k row at)))
      ∙ ap (λ t. record { class = row.class; name = text_of old row.name; descriptor = t; flags = row.flags })
      (get_or_from_slice_get new row.descriptor (text_of old row.descriptor) []
      (text_kept old new extends row.descriptor (are.descriptors k row at)))

pushed : (P : MemberRow → Type 0) (rows : List MemberRow) (row : MemberRow) → ((k : ℕ) (r : MemberRow) → slice_get rows k ≡ Some r → P r) → P row
    → (k : ℕ) (r : MemberRow) → slice_get (rows ++ row ∷ []) k ≡ Some r → P r
pushed P [] row each last zero r at = subst P (same_Some row r at) last
pushed P [] row each last (suc k) r at = absurd (none-some r at)
pushed P (x ∷ rows) row each last zero r at = each 0 r at
pushed P (x ∷ rows) row each last (suc k) r at = pushed P rows row (λ j s there. each (suc j) s there) last k r at

rows_push : (texts : List (List ℕ)) (owned : List Owned) (rows : List MemberRow) (o : Owned) (row : MemberRow) → AreRows texts owned rows
    → IsRow texts o row → AreRows texts (owned ++ o ∷ []) (rows ++ row ∷ [])
rows_push texts owned rows o row are is = record {
  same = map-append (row_alike texts) rows (row ∷ []) ∙ ap (λ xs. xs ++ row_alike texts row ∷ []) are.same ∙ ap (λ x. owned ++ x ∷ []) alike;
  names = pushed (λ r. r.name < length texts) rows row are.names (slice_get_within texts row.name o.name is.name);
  descriptors = pushed (λ r. r.descriptor < length texts) rows row are.descriptors (slice_get_within texts row.descriptor o.descriptor is.descriptor);
} where
  alike : row_alike texts row ≡ o
  alike =
      ap (λ c. record { class = c; name = text_of texts row.name; descriptor = text_of texts row.descriptor; flags = row.flags }) is.class_is
      ∙ ap (λ t. record { class = o.class; name = t; descriptor = text_of texts row.descriptor; flags = row.flags })
      (get_or_from_slice_get texts row.name o.name [] is.name)
      ∙ ap (λ t. record { class = o.class; name = o.name; descriptor = t; flags = row.flags })
      (get_or_from_slice_get texts row.descriptor o.descriptor [] is.descriptor)
      ∙ ap (λ n. record { class = o.class; name = o.name; descriptor = o.descriptor; flags = n }) is.flags

pub adds_none : (texts : List (List ℕ)) (rows : List MemberRow) → AddsRows texts texts [] rows rows
adds_none texts rows owned are = subst (λ os. AreRows texts os rows) (sym (append-nil owned)) are

pub adds_one : (old new : List (List ℕ)) (o : Owned) (row : MemberRow) (rows more : List MemberRow) → Extends old new → IsRow new o row
    → more ≡ rows ++ row ∷ [] → AddsRows old new (o ∷ []) rows more
adds_one old new o row rows more extends is pushes owned are =
    subst (λ rs. AreRows new (owned ++ o ∷ []) rs) (sym pushes) (rows_push new owned rows o row (rows_extend old new owned rows extends are) is)

pub adds_then : (a b c : List (List ℕ)) (xs ys : List Owned) (r s t : List MemberRow) → AddsRows a b xs r s → AddsRows b c ys s t
    → AddsRows a c (xs ++ ys) r t
adds_then a b c xs ys r s t first second owned are =
    subst (λ os. AreRows c os t) (append_assoc owned xs ys) (second (owned ++ xs) (first owned are))

-- ---- class after class

-- the members of these classes are read
pub record IsSoFar {A : Type 0} (members : DeclaredClass → List A) (make : ℕ → A → Owned) (texts : List (List ℕ)) (classes : List DeclaredClass)
    (rows : List MemberRow) (first : List ℕ) : Type 0 where
  pub are : AreRows texts (all_from members make 0 classes) rows
  pub starts : first ≡ map (before members classes) (numbers_below (length classes))

pub so_far_none : {A : Type 0} (members : DeclaredClass → List A) (make : ℕ → A → Owned) (texts : List (List ℕ)) (rows : List MemberRow)
    (first : List ℕ) → rows ≡ [] → first ≡ [] → IsSoFar members make texts [] rows first
so_far_none members make texts rows first no_rows no_first = record {
  are = subst (λ rs. AreRows texts [] rs) (sym no_rows)
      (record { same = refl; names = λ k row at. absurd (none-some row at); descriptors = λ k row at. absurd (none-some row at) });
  starts = no_first;
}

all_from-push : {A : Type 0} (members : DeclaredClass → List A) (make : ℕ → A → Owned) (base : ℕ) (classes : List DeclaredClass) (c : DeclaredClass)
    → all_from members make base (classes ++ c ∷ []) ≡ all_from members make base classes ++ map (make (base + length classes)) (members c)
all_from-push members make base [] c =
    let here : base ≡ base + 0 = omega arith in
    append-nil (map (make base) (members c)) ∙ ap (λ n. map (make n) (members c)) here
all_from-push members make base (d ∷ classes) c =
    let next : base + 1 + length classes ≡ base + suc (length classes) = omega arith in
    ap (λ xs. map (make base) (members d) ++ xs) (all_from-push members make (base + 1) classes c
    ∙ ap (λ n. all_from members make (base + 1) classes ++ map (make n) (members c)) next)
    ∙ sym (append_assoc (map (make base) (members d)) (all_from members make (base + 1) classes)
    (map (make (base + suc (length classes))) (members c)))

length-all : {A : Type 0} (members : DeclaredClass → List A) (make : ℕ → A → Owned) (base : ℕ) (classes : List DeclaredClass)
    → length (all_from members make base classes) ≡ before members classes (length classes)
length-all members make base [] = refl
length-all members make base (c ∷ classes) =
    length-append (map (make base) (members c)) (all_from members make (base + 1) classes)
    ∙ ap (λ n. n + length (all_from members make (base + 1) classes)) (length-map (members c) (make base))
    ∙ ap (λ n. length (members c) + n) (length-all members make (base + 1) classes)
    ∙ sym (before-next members c classes (length classes))

before-push : {A : Type 0} (members : DeclaredClass → List A) (classes : List DeclaredClass) (c : DeclaredClass) (t : ℕ) → t ≤ length classes
    → before members (classes ++ c ∷ []) t ≡ before members classes t
before-push members classes c t below = ap (sum_by (λ d. length (members d))) (take-append-le t classes (c ∷ []) below)

-- one number after those of a list by a function of its places
one_more : (f : ℕ → ℕ) (n last : ℕ) (xs ys : List ℕ) → length xs ≡ n → ((k : ℕ) → k < n → get_or xs k 0 ≡ f k) → last ≡ f n → ys ≡ xs ++ last ∷ []
    → ys ≡ map f (numbers_below (n + 1))
one_more f n last xs ys as_many each at is = fill_by_all f ys (n + 1) 0 long value where
  long : length ys ≡ n + 1
  long = ap length is ∙ length-append xs (last ∷ []) ∙ ap (λ k. k + 1) as_many

  by_place : (k : ℕ) → k < n + 1 → (k < n) ⊎ (n ≤ k) → get_or (xs ++ last ∷ []) k 0 ≡ f k
  by_place k below (inl h) = get_or_append_left xs (last ∷ []) 0 k (omega (arith, h, as_many)) ∙ each k h
  by_place k below (inr h) =
      let there : k ≡ length xs = omega (arith, below, h, as_many) in
      let end : n ≡ k = omega (arith, below, h) in
      ap (λ j. get_or (xs ++ last ∷ []) j 0) there ∙ get_or-append_seam xs last [] 0 ∙ at ∙ ap f end

  value : (k : ℕ) → k < n + 1 → get_or ys k 0 ≡ f k
  value k below = ap (λ zs. get_or zs k 0) is ∙ by_place k below (cases_lt k n)

start_at : {A : Type 0} (members : DeclaredClass → List A) (classes : List DeclaredClass) (first : List ℕ) (k : ℕ)
    → first ≡ map (before members classes) (numbers_below (length classes)) → k < length classes → get_or first k 0 ≡ before members classes k
start_at members classes first k is below =
    ap (λ xs. get_or xs k 0) is ∙ get_or-map-range_with_len (before members classes) 0 (length classes) k k 0 below (zero-add k)

rows_count : {A : Type 0} (members : DeclaredClass → List A) (make : ℕ → A → Owned) (texts : List (List ℕ)) (classes : List DeclaredClass)
    (rows : List MemberRow) (first : List ℕ) → IsSoFar members make texts classes rows first
    → length rows ≡ before members classes (length classes)
rows_count members make texts classes rows first so_far =
    length-owned texts rows (all_from members make 0 classes) so_far.are ∙ length-all members make 0 classes

pub so_far_more : {A : Type 0} (members : DeclaredClass → List A) (make : ℕ → A → Owned) (old new : List (List ℕ)) (classes : List DeclaredClass)
    (c : DeclaredClass) (rows more : List MemberRow) (first starts : List ℕ) (owned : List Owned) → IsSoFar members make old classes rows first
    → owned ≡ map (make (length first)) (members c) → AddsRows old new owned rows more → starts ≡ first ++ length rows ∷ []
    → IsSoFar members make new (classes ++ c ∷ []) more starts
so_far_more members make old new classes c rows more first starts owned so_far are adds is = record {
  are = subst (λ os. AreRows new os more) (ap (λ os. all_from members make 0 classes ++ os) (are ∙ ap (λ n. map (make n) (members c)) place)
      ∙ sym (all_from-push members make 0 classes c)) (adds (all_from members make 0 classes) so_far.are);
  starts = one_more (before members (classes ++ c ∷ [])) (length classes) (length rows) first starts first_count
      (λ k below. start_at members classes first k so_far.starts below ∙ sym (before-push members classes c k (omega (arith, below))))
      (rows_count members make old classes rows first so_far ∙ sym (before-push members classes c (length classes) (omega arith))) is
      ∙ ap (λ n. map (before members (classes ++ c ∷ [])) (numbers_below n)) (sym (length-append classes (c ∷ [])));
} where
  first_count : length first ≡ length classes
  first_count = ap length so_far.starts ∙ length-map-range_with_len (before members classes) 0 (length classes)

  place : length first ≡ 0 + length classes
  place = first_count ∙ sym (zero-add (length classes))

all_starts : {A : Type 0} (members : DeclaredClass → List A) (make : ℕ → A → Owned) (texts : List (List ℕ)) (classes : List DeclaredClass)
    (rows : List MemberRow) (first starts : List ℕ) → IsSoFar members make texts classes rows first → starts ≡ first ++ length rows ∷ []
    → starts ≡ map (before members classes) (numbers_below (length classes + 1))
all_starts members make texts classes rows first starts so_far is =
    one_more (before members classes) (length classes) (length rows) first starts
    (ap length so_far.starts ∙ length-map-range_with_len (before members classes) 0 (length classes))
    (λ k below. start_at members classes first k so_far.starts below) (rows_count members make texts classes rows first so_far) is

pub fields_end : (texts : List (List ℕ)) (classes : List DeclaredClass) (m : Members) (rows : List MemberRow) (first : List ℕ)
    → IsSoFar fields_in field_of_class texts classes rows first → m.rows.items ≡ rows → m.first.items ≡ first ++ length rows ∷ []
    → AreFieldRows texts classes m
unfolding fields_of
fields_end texts classes m rows first so_far same is = record {
  rows = subst (λ rs. AreRows texts (map field_alike (fields_of classes)) rs) (sym same)
      (subst (λ os. AreRows texts os rows) (sym (fields-alike 0 classes)) so_far.are);
  first = all_starts fields_in field_of_class texts classes rows first m.first.items so_far is;
}

pub methods_end : (texts : List (List ℕ)) (classes : List DeclaredClass) (m : Members) (rows : List MemberRow) (first : List ℕ)
    → IsSoFar methods_in method_of_class texts classes rows first → m.rows.items ≡ rows → m.first.items ≡ first ++ length rows ∷ []
    → AreMethodRows texts classes m
unfolding methods_of
methods_end texts classes m rows first so_far same is = record {
  rows = subst (λ rs. AreRows texts (map method_alike (methods_of classes)) rs) (sym same)
      (subst (λ os. AreRows texts os rows) (sym (methods-alike 0 classes)) so_far.are);
  first = all_starts methods_in method_of_class texts classes rows first m.first.items so_far is;
}

-- ---- loops

pub has_kept : (old new : List (List ℕ)) (file : GivenFile) → Extends old new → HasTexts old file → HasTexts new file
has_kept old new file extends has index =
    number_kept old new extends (utf8_at file.class.now.pool.entries index) (text_in file index) (has index)

pub adds_next : {A : Type 0} (f : A → Owned) (xs : List A) (i : ℕ) (x : A) (a b c : List (List ℕ)) (r s t : List MemberRow) → i < length xs
    → x ≡ get_or xs i x → AddsRows a b (map f (take i xs)) r s → AddsRows b c (f x ∷ []) s t → AddsRows a c (map f (take (i + 1) xs)) r t
adds_next f xs i x a b c r s t within is first second owned are =
    subst (λ os. AreRows c (owned ++ os) t) (ap (λ y. map f (take i xs) ++ f y ∷ []) is ∙ sym (map_more f xs i x within))
    (adds_then a b c (map f (take i xs)) (f x ∷ []) r s t first second owned are)

-- the same, of an element that is read with some default
pub adds_next_at : {A : Type 0} (f : A → Owned) (xs : List A) (i : ℕ) (d : A) (a b c : List (List ℕ)) (r s t : List MemberRow) → i < length xs
    → AddsRows a b (map f (take i xs)) r s → AddsRows b c (f (get_or xs i d) ∷ []) s t → AddsRows a c (map f (take (i + 1) xs)) r t
adds_next_at f xs i d a b c r s t within first second =
    adds_next f xs i (get_or xs i d) a b c r s t within (get_or_default xs i d (get_or xs i d) within) first second

pub adds_all : {A : Type 0} (f : A → Owned) (xs : List A) (i : ℕ) (a b : List (List ℕ)) (r s : List MemberRow) → length xs ≤ i
    → AddsRows a b (map f (take i xs)) r s → AddsRows a b (map f xs) r s
adds_all f xs i a b r s all adds owned are =
    subst (λ ys. AreRows b (owned ++ map f ys) s) (take_all i xs all) (adds owned are)

map-map : {A B : Type 0} (f : A → B) (g : B → Owned) (h : A → Owned) (xs : List A) → ((x : A) → h x ≡ g (f x)) → map h xs ≡ map g (map f xs)
map-map f g h [] same = refl
map-map f g h (x ∷ xs) same = ap (λ o. o ∷ map h xs) (same x) ∙ ap (λ os. g (f x) ∷ os) (map-map f g h xs same)

fields_next : (old new : List (List ℕ)) (items : List BuiltInClass) (i : ℕ) (item : BuiltInClass) (rows more : List MemberRow)
    (first starts : List ℕ) → i < length items → item ≡ get_or items i item
    → IsSoFar fields_in field_of_class old (map class_of_row (take i items)) rows first
    → AddsRows old new (map (built_in_field_alike (length first)) item.fields.now) rows more → starts ≡ first ++ length rows ∷ []
    → IsSoFar fields_in field_of_class new (map class_of_row (take (i + 1) items)) more starts
fields_next old new items i item rows more first starts within is so_far adds starts_are =
    subst (λ cs. IsSoFar fields_in field_of_class new cs more starts)
    (ap (λ y. map class_of_row (take i items) ++ class_of_row y ∷ []) is ∙ sym (map_more class_of_row items i item within))
    (so_far_more fields_in field_of_class old new (map class_of_row (take i items)) (class_of_row item) rows more first starts
    (map (built_in_field_alike (length first)) item.fields.now) so_far
    (map-map field_of_row (field_of_class (length first)) (built_in_field_alike (length first)) item.fields.now (λ f. refl)) adds starts_are)

methods_next : (old new : List (List ℕ)) (items : List BuiltInClass) (i : ℕ) (item : BuiltInClass) (rows more : List MemberRow)
    (first starts : List ℕ) → i < length items → item ≡ get_or items i item
    → IsSoFar methods_in method_of_class old (map class_of_row (take i items)) rows first
    → AddsRows old new (map (built_in_method_alike (length first)) item.methods.now) rows more → starts ≡ first ++ length rows ∷ []
    → IsSoFar methods_in method_of_class new (map class_of_row (take (i + 1) items)) more starts
methods_next old new items i item rows more first starts within is so_far adds starts_are =
    subst (λ cs. IsSoFar methods_in method_of_class new cs more starts)
    (ap (λ y. map class_of_row (take i items) ++ class_of_row y ∷ []) is ∙ sym (map_more class_of_row items i item within))
    (so_far_more methods_in method_of_class old new (map class_of_row (take i items)) (class_of_row item) rows more first starts
    (map (built_in_method_alike (length first)) item.methods.now) so_far
    (map-map method_of_row (method_of_class (length first)) (built_in_method_alike (length first)) item.methods.now (λ m. refl)) adds starts_are)

pub fields_next_at : (old new : List (List ℕ)) (items : List BuiltInClass) (i : ℕ) (d : BuiltInClass) (rows more : List MemberRow)
    (first starts : List ℕ) → i < length items → IsSoFar fields_in field_of_class old (map class_of_row (take i items)) rows first
    → AddsRows old new (map (built_in_field_alike (length first)) (get_or items i d).fields.now) rows more → starts ≡ first ++ length rows ∷ []
    → IsSoFar fields_in field_of_class new (map class_of_row (take (i + 1) items)) more starts
fields_next_at old new items i d rows more first starts within so_far adds starts_are =
    fields_next old new items i (get_or items i d) rows more first starts within (get_or_default items i d (get_or items i d) within) so_far adds
    starts_are

pub methods_next_at : (old new : List (List ℕ)) (items : List BuiltInClass) (i : ℕ) (d : BuiltInClass) (rows more : List MemberRow)
    (first starts : List ℕ) → i < length items → IsSoFar methods_in method_of_class old (map class_of_row (take i items)) rows first
    → AddsRows old new (map (built_in_method_alike (length first)) (get_or items i d).methods.now) rows more → starts ≡ first ++ length rows ∷ []
    → IsSoFar methods_in method_of_class new (map class_of_row (take (i + 1) items)) more starts
methods_next_at old new items i d rows more first starts within so_far adds starts_are =
    methods_next old new items i (get_or items i d) rows more first starts within (get_or_default items i d (get_or items i d) within) so_far adds
    starts_are

-- the classes of files after those before
with_file : (before_all : List DeclaredClass) (files : List GivenFile) (i : ℕ) (file : GivenFile) → i < length files → file ≡ get_or files i file
    → (before_all ++ map declared_file (take i files)) ++ declared_file file ∷ [] ≡ before_all ++ map declared_file (take (i + 1) files)
with_file before_all files i file within is =
    append_assoc before_all (map declared_file (take i files)) (declared_file file ∷ [])
    ∙ ap (λ cs. before_all ++ cs) (ap (λ f. map declared_file (take i files) ++ declared_file f ∷ []) is
    ∙ sym (map_more declared_file files i file within))

pub fields_of_file : (old new : List (List ℕ)) (before_all : List DeclaredClass) (files : List GivenFile) (i : ℕ) (file : GivenFile)
    (rows more : List MemberRow) (first starts : List ℕ) → i < length files → file ≡ get_or files i file
    → IsSoFar fields_in field_of_class old (before_all ++ map declared_file (take i files)) rows first
    → AddsRows old new (map (member_alike (length first) file.class.now.pool.entries) file.class.now.fields) rows more
    → starts ≡ first ++ length rows ∷ []
    → IsSoFar fields_in field_of_class new (before_all ++ map declared_file (take (i + 1) files)) more starts
fields_of_file old new before_all files i file rows more first starts within is so_far adds starts_are =
    let entries = file.class.now.pool.entries in
    subst (λ cs. IsSoFar fields_in field_of_class new cs more starts) (with_file before_all files i file within is)
    (so_far_more fields_in field_of_class old new (before_all ++ map declared_file (take i files)) (declared_file file) rows more first starts
    (map (member_alike (length first) entries) file.class.now.fields) so_far
    (map-map (declared_field entries) (field_of_class (length first)) (member_alike (length first) entries) file.class.now.fields (λ f. refl))
    adds starts_are)

pub methods_of_file : (old new : List (List ℕ)) (before_all : List DeclaredClass) (files : List GivenFile) (i : ℕ) (file : GivenFile)
    (rows more : List MemberRow) (first starts : List ℕ) → i < length files → file ≡ get_or files i file
    → IsSoFar methods_in method_of_class old (before_all ++ map declared_file (take i files)) rows first
    → AddsRows old new (map (member_alike (length first) file.class.now.pool.entries) file.class.now.methods) rows more
    → starts ≡ first ++ length rows ∷ []
    → IsSoFar methods_in method_of_class new (before_all ++ map declared_file (take (i + 1) files)) more starts
methods_of_file old new before_all files i file rows more first starts within is so_far adds starts_are =
    let entries = file.class.now.pool.entries in
    subst (λ cs. IsSoFar methods_in method_of_class new cs more starts) (with_file before_all files i file within is)
    (so_far_more methods_in method_of_class old new (before_all ++ map declared_file (take i files)) (declared_file file) rows more first starts
    (map (member_alike (length first) entries) file.class.now.methods) so_far
    (map-map (declared_method entries) (method_of_class (length first)) (member_alike (length first) entries) file.class.now.methods (λ m. refl))
    adds starts_are)
