-- The places of fields that are recorded one after the other are those that a program has.
use Rattle.std.proofs.Common.{◌≡◌, refl, sym, ◌∙◌, ap, ℕ, ◌+◌, ◌-◌, ◌<◌, not, Bool, true, false, cond, List, [], ◌∷◌, ◌++◌, length, map, take, get_or, sum_by, slice_index, zero-add, arith, append_assoc}
use Rattle.std.specs.List.{count_by, fold, range_with_len}
use Rattle.std.proofs.Math.Seq.{get_or-append_seam, take-append_seam}
use Rattle.std.proofs.lemmas.List.{length-append, length-map}
use Rattle.std.proofs.lemmas.List.Sums.{sum_by-append}
use Rattle.fm_code.specs.AccessFlags.{is_static}
use Rattle.fm_world.specs.Chains.{class_at, superclasses_of}
use Rattle.fm_world.specs.Declarations.{no_class, no_field}
use Rattle.fm_world.specs.Members.{OwnedField, fields_from, fields_of, first_field, hidden_fields, instance_fields, instance_slot, is_instance, size_among, slot_of, static_slot, statics_of}
use Rattle.fm_world.specs.declared.declarations.DeclaredClass.{DeclaredClass}
use Rattle.fm_world.specs.declared.declarations.DeclaredField.{DeclaredField}
use Rattle.fm_world.specs.inner.Tables.{numbers_below}
use Rattle.fm_link_records.specs.inner.Fields.{slots_among, slots_told, static_fields}
use Rattle.fm_link_records.proofs.RowSteps.{map-range}

-- where a field is among all, and among those of its class
record StandsAt (classes : List DeclaredClass) (class : ℕ) (before : List OwnedField) (done : List DeclaredField) (f : DeclaredField) (fs : List
    DeclaredField) (more : List OwnedField) : Type 0 where
  all : fields_of classes ≡ before ++ (record { class = class; field = f }) ∷ more
  inside : (class_at classes class).fields ≡ done ++ f ∷ fs
  counted : first_field classes class + length done ≡ length before

-- the place of a field that is there
slot-here : (classes : List DeclaredClass) (class : ℕ) (before : List OwnedField) (done : List DeclaredField) (f : DeclaredField) (fs : List
    DeclaredField)
    (more : List OwnedField) → StandsAt classes class before done f fs more
    → slot_of classes (length before) ≡ cond (is_static f.flags) (count_by (λ g. is_static g.field.flags) before)
    (size_among classes (superclasses_of classes class) + hidden_fields (class_at classes class) + instance_fields done)
unfolding slot_of
slot-here classes class before done f fs more at =
    let here : OwnedField = record { class = class; field = f } in
    let none : OwnedField = record { class = 0; field = no_field } in
    let found : get_or (fields_of classes) (length before) none ≡ here =
    ap (λ gs. get_or gs (length before) none) at.all ∙ get_or-append_seam before here more none in
    let index : length before - first_field classes class ≡ length done = let e = at.counted in omega (arith, e) in
    ap (λ g. cond (is_static g.field.flags) (static_slot classes (length before)) (instance_slot classes g.class (length before - first_field classes
    g.class))) found
    ∙ ap (λ gs. cond (is_static f.flags) (count_by (λ g. is_static g.field.flags) (take (length before) gs))
    (instance_slot classes class (length before - first_field classes class))) at.all
    ∙ ap (λ gs. cond (is_static f.flags) (count_by (λ g. is_static g.field.flags) gs) (instance_slot classes class (length before - first_field
    classes class)))
    (take-append_seam before (here ∷ more))
    ∙ ap (λ k. cond (is_static f.flags) (count_by (λ g. is_static g.field.flags) before) (instance_slot classes class k)) index
    ∙ ap (λ gs. cond (is_static f.flags) (count_by (λ g. is_static g.field.flags) before)
    (size_among classes (superclasses_of classes class) + hidden_fields (class_at classes class) + instance_fields (take (length done) gs))) at.inside
    ∙ ap (λ gs. cond (is_static f.flags) (count_by (λ g. is_static g.field.flags) before)
    (size_among classes (superclasses_of classes class) + hidden_fields (class_at classes class) + instance_fields gs)) (take-append_seam done (f ∷
    fs))

-- ---- counts

one_more : {A : Type 0} (p : A → Bool) (xs : List A) (x : A) → count_by p (xs ++ x ∷ []) ≡ count_by p xs + cond (p x) 1 0
one_more p xs x = sum_by-append (λ y. cond (p y) 1 0) xs (x ∷ []) ∙ ap (λ n. count_by p xs + n) (zero-add (cond (p x) 1 0))

other_one : (b : Bool) → let zero_one : ℕ = cond b 0 1 in cond (not b) 1 0 ≡ zero_one
other_one true = refl
other_one false = refl

-- ---- the fields of one class

among_is : (classes : List DeclaredClass) (class : ℕ) (left done : List DeclaredField) (before more : List OwnedField) (static own : ℕ)
    → fields_of classes ≡ before ++ (map (λ f. record { class = class; field = f }) left ++ more)
    → (class_at classes class).fields ≡ done ++ left
    → first_field classes class + length done ≡ length before
    → static ≡ count_by (λ g. is_static g.field.flags) before
    → own ≡ size_among classes (superclasses_of classes class) + hidden_fields (class_at classes class) + instance_fields done
    → slots_among static own left ≡ map (slot_of classes) (range_with_len (length before) (length left))
among_is classes class [] done before more static own all inside counted s o = refl
among_is classes class (f ∷ fs) done before more static own all inside counted s o =
    let here : OwnedField = record { class = class; field = f } in
    let b = is_static f.flags in
    let next : length (before ++ here ∷ []) ≡ length before + 1 = length-append before (here ∷ []) in
    let at : StandsAt classes class before done f fs (map (λ g. record { class = class; field = g }) fs ++ more)
    = record { all = all; inside = inside; counted = counted } in
    let first : cond b static own ≡ slot_of classes (length before) =
    ap (λ n. cond b n own) s ∙ ap (cond b (count_by (λ g. is_static g.field.flags) before)) o
    ∙ sym (slot-here classes class before done f fs (map (λ g. record { class = class; field = g }) fs ++ more) at) in
    let base = size_among classes (superclasses_of classes class) + hidden_fields (class_at classes class) in
    let more_own : own + cond b 0 1 ≡ base + instance_fields (done ++ f ∷ []) =
    let counts = one_more (λ g. is_instance g.flags) done f in
    let other = other_one b in omega (arith, o, counts, other) in
    ap (λ n. n ∷ slots_among (static + cond b 1 0) (own + cond b 0 1) fs) first
    ∙ ap (λ ns. slot_of classes (length before) ∷ ns)
    (among_is classes class fs (done ++ f ∷ []) (before ++ here ∷ []) more (static + cond b 1 0) (own + cond b 0 1)
    (all ∙ sym (append_assoc before (here ∷ []) (map (λ g. record { class = class; field = g }) fs ++ more)))
    (inside ∙ sym (append_assoc done (f ∷ []) fs))
    (let l = length-append done (f ∷ []) in omega (arith, counted, next, l))
    (ap (λ n. n + cond b 1 0) s ∙ sym (one_more (λ (g : OwnedField). is_static g.field.flags) before here))
    more_own
    ∙ ap (λ n. map (slot_of classes) (range_with_len n (length fs))) next)

-- ---- the fields of all classes

statics_owned : (class : ℕ) (fields : List DeclaredField) (n : ℕ)
    → fold (λ a (g : OwnedField). a + cond (is_static g.field.flags) 1 0) n (map (λ f. record { class = class; field = f }) fields)
    ≡ fold (λ a f. a + cond (is_static f.flags) 1 0) n fields
statics_owned class [] n = refl
statics_owned class (f ∷ fs) n = statics_owned class fs (n + cond (is_static f.flags) 1 0)

told_from : (classes : List DeclaredClass) (bases : List ℕ) (cs passed : List DeclaredClass) (before : List OwnedField) (static : ℕ)
    → ((class : ℕ) → class < length classes
    → slice_index bases class ≡ size_among classes (superclasses_of classes class) + hidden_fields (class_at classes class))
    → classes ≡ passed ++ cs → fields_of classes ≡ before ++ fields_from (length passed) cs
    → sum_by (λ c. length c.fields) passed ≡ length before → static ≡ count_by (λ g. is_static g.field.flags) before
    → slots_told bases static (length passed) cs ≡ map (slot_of classes) (range_with_len (length before) (length (fields_from (length passed) cs)))
told_from classes bases [] passed before static known whole all counted s = refl
told_from classes bases (c ∷ cs) passed before static known whole all counted s =
    let class = length passed in
    let own_of : DeclaredField → OwnedField = λ f. record { class = class; field = f } in
    let own : List OwnedField = map own_of c.fields in
    let more = fields_from (class + 1) cs in
    let here : class_at classes class ≡ c = ap (λ ds. get_or ds class no_class) whole ∙ get_or-append_seam passed c cs no_class in
    let first : first_field classes class ≡ length before =
    ap (λ ds. sum_by (λ (d : DeclaredClass). length d.fields) (take class ds)) whole
    ∙ ap (sum_by (λ (d : DeclaredClass). length d.fields)) (take-append_seam passed (c ∷ cs)) ∙ counted in
    let within : class < length classes = let e = ap length whole in let l = length-append passed (c ∷ cs) in omega (arith, e, l) in
    let next : length (passed ++ c ∷ []) ≡ class + 1 = length-append passed (c ∷ []) in
    let long : length own ≡ length c.fields = length-map c.fields own_of in
    let among = among_is classes class c.fields [] before more static (slice_index bases class) all
    (ap (λ (d : DeclaredClass). d.fields) here) (let e = first in omega (arith, e)) s
    (known class within ∙ (let b = size_among classes (superclasses_of classes class) + hidden_fields (class_at classes class) in omega arith)) in
    let later = told_from classes bases cs (passed ++ c ∷ []) (before ++ own) (static + static_fields c.fields) known
    (whole ∙ sym (append_assoc passed (c ∷ []) cs))
    (all ∙ sym (append_assoc before own more) ∙ ap (λ k. (before ++ own) ++ fields_from k cs) (sym next))
    (sum_by-append (λ (d : DeclaredClass). length d.fields) passed (c ∷ [])
    ∙ (let l = length-append before own in let one : sum_by (λ (d : DeclaredClass). length d.fields) (c ∷ [])
    ≡ length c.fields = zero-add (length c.fields) in omega (arith, counted, l, one, long)))
    (ap (λ n. n + static_fields c.fields) s
    ∙ sym (sum_by-append (λ (g : OwnedField). cond (is_static g.field.flags) 1 0) before own
    ∙ ap (λ n. count_by (λ (g : OwnedField). is_static g.field.flags) before + n) (statics_owned class c.fields 0))) in
    ap (λ ns. ns ++ slots_told bases (static + static_fields c.fields) (class + 1) cs) among
    ∙ ap (λ ns. map (slot_of classes) (range_with_len (length before) (length c.fields)) ++ ns)
    (ap (λ k. slots_told bases (static + static_fields c.fields) k cs) (sym next) ∙ later
    ∙ ap (λ k. map (slot_of classes) (range_with_len (length (before ++ own)) (length (fields_from k cs)))) next
    ∙ ap (λ n. map (slot_of classes) (range_with_len n (length more))) (length-append before own ∙ ap (λ k. length before + k) long))
    ∙ sym (map-range (slot_of classes) (length before) (length c.fields) (length more))
    ∙ ap (λ n. map (slot_of classes) (range_with_len (length before) n)) (sym (length-append own more ∙ ap (λ k. k + length more) long))

pub slots-all : (classes : List DeclaredClass) (bases : List ℕ)
    → ((class : ℕ) → class < length classes
    → slice_index bases class ≡ size_among classes (superclasses_of classes class) + hidden_fields (class_at classes class))
    → slots_told bases 0 0 classes ≡ map (slot_of classes) (numbers_below (length (fields_of classes)))
unfolding fields_of
slots-all classes bases known = told_from classes bases classes [] [] 0 known refl refl refl refl

-- the number of static fields
statics_from : (class : ℕ) (cs : List DeclaredClass) → count_by (λ g. is_static g.field.flags) (fields_from class cs)
    ≡ sum_by (λ c. static_fields c.fields) cs
statics_from class [] = refl
statics_from class (c ∷ cs) =
    let static : OwnedField → ℕ = λ g. cond (is_static g.field.flags) 1 0 in
    let of_class : DeclaredClass → ℕ = λ d. static_fields d.fields in
    let here : sum_by of_class (c ∷ []) ≡ static_fields c.fields = zero-add (static_fields c.fields) in
    sum_by-append static (map (λ f. record { class = class; field = f }) c.fields) (fields_from (class + 1) cs)
    ∙ ap (λ n. n + sum_by static (fields_from (class + 1) cs)) (statics_owned class c.fields 0)
    ∙ ap (λ n. static_fields c.fields + n) (statics_from (class + 1) cs)
    ∙ sym (sum_by-append of_class (c ∷ []) cs ∙ ap (λ n. n + sum_by of_class cs) here)

pub statics-all : (classes : List DeclaredClass) → sum_by (λ c. static_fields c.fields) classes ≡ statics_of classes
unfolding fields_of
statics-all classes = sym (statics_from 0 classes)
