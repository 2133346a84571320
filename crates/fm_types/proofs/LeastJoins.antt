-- The join of two types is the least one that both fit.
use Rattle.std.proofs.Common.{◌≡◌, ◌⊎◌, inl, inr, refl, sym, ◌∙◌, ap, subst, ℕ, ◌≤◌, ◌&&◌, Bool, true, false, List, nat_eq, cond, min, arith}
use Rattle.std.proofs.Math.Nat.{le-min, min-le_left, min-le_right}
use Rattle.std.proofs.lemmas.Bool.{and_from, and_parts, eqb-true, eq-eqb, false≢true}
use Rattle.fm_base.specs.declared.kinds.Base.{Base}
use Rattle.fm_base.specs.declared.kinds.Base.TheVariants as base
use Rattle.fm_base.specs.declared.kinds.TypeRef.{TypeRef}
use Rattle.fm_types.proofs.ClassTree.{common-above, common-least, common-proper, IsCommon, seen-object}
use Rattle.fm_types.proofs.Order.{below_objects-fits, fits_type-cases, fits-top, IsBelowObjects, IsLevel, level-depth, level-fits, type-refl}
use Rattle.fm_types.specs.Fits.{AreTree, depth_of, fits, fits_base, fits_type, is_object_base, is_seen_as_object, object_of}
use Rattle.fm_types.specs.Joins.{are_classes, common_base, common_class, is_interface_base, IsChosen, IsJoin, join, join_type, objects_with}
use Rattle.fm_types.specs.declared.slots.Slot.{Slot}
use Rattle.fm_types.specs.declared.slots.Slot.TheVariants as slot
use Rattle.fm_world.proofs.TableLemmas.{same_base-refl}
pub use Rattle.fm_world.proofs.TypeTests.{same_type-eq}
use Rattle.fm_world.specs.Chains.{same_base, same_type}
use Rattle.fm_world.specs.Programs.{Outline}
use Rattle.fm_world.specs.declared.declarations.DeclaredClass.{DeclaredClass}

-- ---- equal types

pub same_type-refl : (a : TypeRef) → same_type a a ≡ true
same_type-refl a = and_from (nat_eq a.dims a.dims) (same_base a.base a.base) (eq-eqb a.dims a.dims refl) (same_base-refl a.base)

-- ---- what two bases fit

-- the sorts of bases by number: classes, and each letter
sort_of : Base → ℕ
sort_of (base.OfClass c) = 0
sort_of base.Boolean = 1
sort_of base.Byte = 2
sort_of base.Char = 3
sort_of base.Short = 4
sort_of base.Int = 5
sort_of base.Long = 6

fits-sort : (classes : List DeclaredClass) (a b : Base) → fits_base classes a b ≡ true → sort_of a ≡ sort_of b
unfolding sort_of
fits-sort classes (base.OfClass c) (base.OfClass d) h = refl
fits-sort classes base.Boolean base.Boolean h = refl
fits-sort classes base.Byte base.Byte h = refl
fits-sort classes base.Char base.Char h = refl
fits-sort classes base.Short base.Short h = refl
fits-sort classes base.Int base.Int h = refl
fits-sort classes base.Long base.Long h = refl
fits-sort classes a b h = absurd (false≢true h)

sort-cases : (a b : Base) → nat_eq (sort_of a) (sort_of b) ≡ true → (are_classes a b ≡ true) ⊎ (same_base a b ≡ true)
unfolding sort_of
sort-cases (base.OfClass c) (base.OfClass d) h = inl refl
sort-cases base.Boolean base.Boolean h = inr refl
sort-cases base.Byte base.Byte h = inr refl
sort-cases base.Char base.Char h = inr refl
sort-cases base.Short base.Short h = inr refl
sort-cases base.Int base.Int h = inr refl
sort-cases base.Long base.Long h = inr refl
sort-cases a b h = absurd (false≢true h)

-- two bases that fit a third one are classes, or the same letter
meet-cases : (classes : List DeclaredClass) (a b c : Base) → fits_base classes a c ≡ true → fits_base classes b c ≡ true
    → (are_classes a b ≡ true) ⊎ (same_base a b ≡ true)
meet-cases classes a b c f g = sort-cases a b (eq-eqb (sort_of a) (sort_of b) (fits-sort classes a c f ∙ sym (fits-sort classes b c g)))

-- ---- types

pub record IsTypeJoin (classes : List DeclaredClass) (a b joined : TypeRef) : Type 0 where
  pub first : fits_type classes a joined ≡ true
  pub second : fits_type classes b joined ≡ true
  pub least : (x : TypeRef) → fits_type classes a x ≡ true → fits_type classes b x ≡ true → fits_type classes joined x ≡ true
  pub proper : ¬ (a ≡ b) → is_interface_base classes joined.base ≡ false

-- the classes of two types of equal dimensions
level-join : (classes : List DeclaredClass) → AreTree classes → (dims : ℕ) (a b : Base) → are_classes a b ≡ true
    → IsTypeJoin classes (record { dims = dims; base = a }) (record { dims = dims; base = b })
    (record { dims = dims; base = common_base classes a b })
level-join classes tree dims (base.OfClass c) (base.OfClass d) h = record {
  first = by_first (common-above classes c.0 d.0);
  second = by_second (common-above classes c.0 d.0);
  least = (λ x f g. by_ways x (fits_type-cases classes first_type x f) (fits_type-cases classes second_type x g));
  proper = (λ apart. common-proper classes tree c.0 d.0 (λ e. apart (ap (λ n. record { dims = dims; base = base.OfClass (record { 0 = n }) }) e)));
} where
  first_type : TypeRef
  first_type = record { dims = dims; base = base.OfClass c }

  second_type : TypeRef
  second_type = record { dims = dims; base = base.OfClass d }

  joined : TypeRef
  joined = record { dims = dims; base = common_base classes (base.OfClass c) (base.OfClass d) }

  is_object : common_class classes c.0 d.0 ≡ object_of classes → is_seen_as_object classes (common_class classes c.0 d.0) ≡ true
  is_object e = ap (is_seen_as_object classes) e ∙ seen-object classes

  by_first : IsCommon classes c.0 d.0 (common_class classes c.0 d.0) ⊎ (common_class classes c.0 d.0 ≡ object_of classes)
      → fits_type classes first_type joined ≡ true
  by_first (inl w) = level-fits classes first_type joined refl w.first
  by_first (inr e) = below_objects-fits classes first_type joined (omega arith) (is_object e)

  by_second : IsCommon classes c.0 d.0 (common_class classes c.0 d.0) ⊎ (common_class classes c.0 d.0 ≡ object_of classes)
      → fits_type classes second_type joined ≡ true
  by_second (inl w) = level-fits classes second_type joined refl w.second
  by_second (inr e) = below_objects-fits classes second_type joined (omega arith) (is_object e)

  least_base : (e : Base) → fits_base classes (base.OfClass c) e ≡ true → fits_base classes (base.OfClass d) e ≡ true
      → fits_base classes (common_base classes (base.OfClass c) (base.OfClass d)) e ≡ true
  least_base (base.OfClass e) f g = common-least classes tree c.0 d.0 e.0 f g
  least_base e f g = absurd (false≢true f)

  by_ways : (x : TypeRef) → IsBelowObjects classes first_type x ⊎ IsLevel classes first_type x
      → IsBelowObjects classes second_type x ⊎ IsLevel classes second_type x
      → fits_type classes joined x ≡ true
  by_ways x (inl v) w = below_objects-fits classes joined x v.within v.objects
  by_ways x (inr v) (inl w) = below_objects-fits classes joined x w.within w.objects
  by_ways x (inr v) (inr w) = level-fits classes joined x v.dims (least_base x.base v.bases w.bases)
level-join classes tree dims a b h = absurd (false≢true h)

-- two types that aren't level have arrays of Object in common
apart-join : (classes : List DeclaredClass) → AreTree classes → (a b : TypeRef) → same_type a b ≡ false
    → (nat_eq a.dims b.dims && are_classes a.base b.base) ≡ false
    → IsTypeJoin classes a b (objects_with classes (min (depth_of a) (depth_of b)))
apart-join classes tree a b differ apart = record {
  first = below_objects-fits classes a joined (min-le_left (depth_of a) (depth_of b)) (seen-object classes);
  second = below_objects-fits classes b joined (min-le_right (depth_of a) (depth_of b)) (seen-object classes);
  least = (λ x f g. by_ways x (fits_type-cases classes a x f) (fits_type-cases classes b x g));
  proper = (λ ne. tree.object_is_class);
} where
  joined : TypeRef
  joined = objects_with classes (min (depth_of a) (depth_of b))

  below_both : (x : TypeRef) → x.dims ≤ depth_of a → x.dims ≤ depth_of b → is_object_base classes x.base ≡ true → fits_type classes joined x ≡ true
  below_both x f g objects = below_objects-fits classes joined x (le-min f g) objects

  level_both : a.dims ≡ b.dims → (are_classes a.base b.base ≡ true) ⊎ (same_base a.base b.base ≡ true) → ⊥
  level_both e (inl h) = false≢true (sym apart ∙ and_from (nat_eq a.dims b.dims) (are_classes a.base b.base) (eq-eqb a.dims b.dims e) h)
  level_both e (inr h) = false≢true (sym differ ∙ and_from (nat_eq a.dims b.dims) (same_base a.base b.base) (eq-eqb a.dims b.dims e) h)

  by_ways : (x : TypeRef) → IsBelowObjects classes a x ⊎ IsLevel classes a x → IsBelowObjects classes b x ⊎ IsLevel classes b x
      → fits_type classes joined x ≡ true
  by_ways x (inl v) (inl w) = below_both x v.within w.within v.objects
  by_ways x (inl v) (inr w) = below_both x v.within (omega (arith, level-depth classes b x w v.objects)) v.objects
  by_ways x (inr v) (inl w) = below_both x (omega (arith, level-depth classes a x v w.objects)) w.within w.objects
  by_ways x (inr v) (inr w) = absurd (level_both (v.dims ∙ sym w.dims) (meet-cases classes a.base b.base x.base v.bases w.bases))

pub type-join : (classes : List DeclaredClass) → AreTree classes → (a b : TypeRef) → IsTypeJoin classes a b (join_type classes a b)
unfolding join_type
type-join classes tree a b = by_same (same_type a b) refl where
  others : TypeRef
  others = objects_with classes (min (depth_of a) (depth_of b))

  level : TypeRef
  level = record { dims = a.dims; base = common_base classes a.base b.base }

  of_equal : a ≡ b → IsTypeJoin classes a b a
  of_equal e = record {
    first = type-refl classes tree a;
    second = (let P : TypeRef → Type 0 = λ x. fits_type classes x a ≡ true in subst P e (type-refl classes tree a));
    least = (λ x f g. f);
    proper = (λ ne. absurd (ne e));
  }

  of_level : (nat_eq a.dims b.dims && are_classes a.base b.base) ≡ true → IsTypeJoin classes a b level
  of_level h =
      let parts = and_parts (nat_eq a.dims b.dims) (are_classes a.base b.base) h in
      let P : ℕ → Type 0 = λ n. IsTypeJoin classes a (record { dims = n; base = b.base }) level in
      subst P (eqb-true a.dims b.dims parts.0) (level-join classes tree a.dims a.base b.base parts.1)

  by_level : (t : Bool) → (nat_eq a.dims b.dims && are_classes a.base b.base) ≡ t → same_type a b ≡ false
      → IsTypeJoin classes a b (cond t level others)
  by_level true h differ = of_level h
  by_level false h differ = apart-join classes tree a b differ h

  by_same : (t : Bool) → same_type a b ≡ t
      → IsTypeJoin classes a b (cond t a (cond (nat_eq a.dims b.dims && are_classes a.base b.base) level others))
  by_same true h = of_equal (same_type-eq a b h)
  by_same false h = by_level (nat_eq a.dims b.dims && are_classes a.base b.base) refl h

join_type-same : (classes : List DeclaredClass) (a b : TypeRef) → a ≡ b → join_type classes a b ≡ a
unfolding join_type
join_type-same classes a b e =
    let same : same_type a b ≡ true = (let P : TypeRef → Type 0 = λ x. same_type a x ≡ true in subst P e (same_type-refl a)) in
    ap (λ t. cond t a (cond (nat_eq a.dims b.dims && are_classes a.base b.base) level others)) same where
      level : TypeRef
      level = record { dims = a.dims; base = common_base classes a.base b.base }

      others : TypeRef
      others = objects_with classes (min (depth_of a) (depth_of b))

-- ---- slots

-- the kinds of slots by number: null is of the kind of references
kind_of : Slot → ℕ
kind_of slot.Top = 0
kind_of slot.Int = 1
kind_of slot.Long = 2
kind_of slot.Null = 3
kind_of (slot.Ref t) = 3
kind_of (slot.Uninit item) = 4
kind_of slot.UninitThis = 5

fits-kind : (o : Outline) (a b : Slot) → fits o a b ≡ true → (b ≡ slot.Top) ⊎ (kind_of a ≡ kind_of b)
unfolding fits kind_of
fits-kind o a slot.Top h = inl refl
fits-kind o slot.Int slot.Int h = inr refl
fits-kind o slot.Long slot.Long h = inr refl
fits-kind o slot.Null slot.Null h = inr refl
fits-kind o slot.Null (slot.Ref t) h = inr refl
fits-kind o (slot.Ref s) (slot.Ref t) h = inr refl
fits-kind o (slot.Uninit i) (slot.Uninit j) h = inr refl
fits-kind o slot.UninitThis slot.UninitThis h = inr refl
fits-kind o a b h = absurd (false≢true h)

-- both fit Top alone
top-least : (o : Outline) (a b : Slot) → ¬ (kind_of a ≡ kind_of b) → (x : Slot) → fits o a x ≡ true → fits o b x ≡ true → fits o slot.Top x ≡ true
top-least o a b apart x f g = by_kinds (fits-kind o a x f) (fits-kind o b x g) where
  at_top : x ≡ slot.Top → fits o slot.Top x ≡ true
  at_top e = let P : Slot → Type 0 = λ s. fits o slot.Top s ≡ true in subst P (sym e) (fits-top o slot.Top)

  by_kinds : (x ≡ slot.Top) ⊎ (kind_of a ≡ kind_of x) → (x ≡ slot.Top) ⊎ (kind_of b ≡ kind_of x) → fits o slot.Top x ≡ true
  by_kinds (inl e) w = at_top e
  by_kinds (inr e) (inl w) = at_top w
  by_kinds (inr e) (inr w) = absurd (apart (e ∙ sym w))

top-join : (o : Outline) (a b : Slot) → ¬ (kind_of a ≡ kind_of b) → IsChosen o a b slot.Top → IsJoin o a b slot.Top
top-join o a b apart chosen = record { first = fits-top o a; second = fits-top o b; least = top-least o a b apart; chosen = chosen }

chosen-apart : (o : Outline) (a b : Slot) → nat_eq (kind_of a) (kind_of b) ≡ false → IsChosen o a b slot.Top
unfolding kind_of
chosen-apart o slot.Null (slot.Ref t) h = absurd (false≢true (sym h))
chosen-apart o (slot.Ref t) slot.Null h = absurd (false≢true (sym h))
chosen-apart o a b h = (λ e. absurd (false≢true (sym h ∙ eq-eqb (kind_of a) (kind_of b) (ap kind_of e))), λ ne. refl)

apart-slots : (o : Outline) (a b : Slot) → nat_eq (kind_of a) (kind_of b) ≡ false → IsJoin o a b slot.Top
apart-slots o a b h = top-join o a b (λ e. false≢true (sym h ∙ eq-eqb (kind_of a) (kind_of b) e)) (chosen-apart o a b h)

uninit-join : (o : Outline) (i j : ℕ) (t : Bool) → nat_eq i j ≡ t → IsJoin o (slot.Uninit i) (slot.Uninit j) (cond t (slot.Uninit i) slot.Top)
unfolding fits
uninit-join o i j true h =
    let same : i ≡ j = eqb-true i j h in
    record {
      first = eq-eqb i i refl;
      second = eq-eqb j i (sym same);
      least = (λ x f g. f);
      chosen = (λ e. refl, λ ne. absurd (ne (ap (λ n. slot.Uninit n) same)));
    }
uninit-join o i j false h = record {
  first = refl;
  second = refl;
  least = least;
  chosen = (λ e. absurd (false≢true (sym h ∙ eq-eqb i j (cc))), λ ne. refl);
} where
  least : (x : Slot) → fits o (slot.Uninit i) x ≡ true → fits o (slot.Uninit j) x ≡ true → fits o slot.Top x ≡ true
  least slot.Top f g = refl
  least (slot.Uninit k) f g = absurd (false≢true (sym h ∙ eq-eqb i j (eqb-true i k f ∙ sym (eqb-true j k g))))
  least x f g = absurd (false≢true f)

ref-join : (o : Outline) → AreTree o.classes → (s t : TypeRef) → IsJoin o (slot.Ref s) (slot.Ref t) (slot.Ref (join_type o.classes s t))
unfolding fits
ref-join o tree s t = record {
  first = w.first;
  second = w.second;
  least = least;
  chosen = (λ e. ap (λ u. slot.Ref u) (join_type-same o.classes s t (cc)), λ ne. w.proper (λ e. ne (ap (λ u. slot.Ref u) e)));
} where
  w : IsTypeJoin o.classes s t (join_type o.classes s t)
  w = type-join o.classes tree s t

  least : (x : Slot) → fits o (slot.Ref s) x ≡ true → fits o (slot.Ref t) x ≡ true → fits o (slot.Ref (join_type o.classes s t)) x ≡ true
  least slot.Top f g = refl
  least (slot.Ref u) f g = w.least u f g
  least x f g = absurd (false≢true f)

pub join-least : (o : Outline) → AreTree o.classes → (a b : Slot) → IsJoin o a b (join o a b)
unfolding join fits kind_of
join-least o tree slot.Top slot.Top = record { first = refl; second = refl; least = (λ x f g. f); chosen = (λ e. refl, λ ne. refl) }
join-least o tree slot.Int slot.Int = record { first = refl; second = refl; least = (λ x f g. f); chosen = (λ e. refl, λ ne. refl) }
join-least o tree slot.Long slot.Long = record { first = refl; second = refl; least = (λ x f g. f); chosen = (λ e. refl, λ ne. refl) }
join-least o tree slot.Null slot.Null = record { first = refl; second = refl; least = (λ x f g. f); chosen = (λ e. refl, λ ne. refl) }
join-least o tree slot.Null (slot.Ref t) = record { first = refl; second = type-refl o.classes tree t; least = (λ x f g. g); chosen = refl }
join-least o tree (slot.Ref t) slot.Null = record { first = type-refl o.classes tree t; second = refl; least = (λ x f g. f); chosen = refl }
join-least o tree (slot.Ref s) (slot.Ref t) = ref-join o tree s t
join-least o tree (slot.Uninit i) (slot.Uninit j) = uninit-join o i j (nat_eq i j) refl
join-least o tree slot.UninitThis slot.UninitThis = record { first = refl; second = refl; least = (λ x f g. f); chosen = (λ e. refl, λ ne. refl) }
join-least o tree a b = apart-slots o a b refl
