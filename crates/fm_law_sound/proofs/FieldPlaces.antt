-- Where fields lie in objects: the places of a class are those of its superclass and then its own, so a field keeps its place and its kind in objects of all
-- classes below.
use Rattle.std.proofs.Common.{◌≡◌, ℕ, zero, suc, ◌+◌, ◌-◌, ◌<◌, ◌≤◌, ◌⊎◌, inl, inr, not, Bool, true, false, cond, List, [], ◌∷◌, ◌++◌, length, take, reverse, get_or, sum_by, Option, Some, None, refl, sym, ◌∙◌, ap, slice_get, arith}
use Rattle.std.specs.List.{cons_option, count_by, filter_map, flat_map}
use Rattle.std.specs.Prelude.{if◌then◌else◌}
use Rattle.std.proofs.lemmas.Bool.{cases_lt, false≢true}
use Rattle.std.proofs.lemmas.Grind.{flat_map-append}
use Rattle.std.proofs.lemmas.List.{append-nil, get_or_append_left, get_or-append-add, get_or-map, length-append, length-map, reverse-append}
use Rattle.std.proofs.lemmas.List.Concat.{flat_map-cons}
use Rattle.std.proofs.lemmas.List.Sums.{sum_by-cons}
use Rattle.std.proofs.lemmas.Option.{same_Some, slice_get-get_or}
use Rattle.fm_base.proofs.ListFacts.{slice_get-append_left, slice_get-append_right}
use Rattle.fm_base.specs.declared.kinds.Kind.{Kind}
use Rattle.fm_code.specs.AccessFlags.{is_static}
use Rattle.fm_code.specs.Names.{object}
use Rattle.fm_types.specs.Fits.{AreTree}
use Rattle.fm_world.proofs.Displays.{chain_ends}
use Rattle.fm_world.specs.BuiltIns.{string_name}
use Rattle.fm_world.specs.Descriptors.{declared_kind, typed}
use Rattle.fm_world.specs.Chains.{chain_of, class_at, is_among, superclasses_of}
use Rattle.fm_world.specs.Declarations.{no_class, no_field}
use Rattle.fm_world.specs.Members.{field_at, field_kind, fields_from, fields_of, first_field, hidden_fields, instance_fields, instance_slot, is_instance, kinds_of, own_kinds, own_size, owned_fields, OwnedField, size_among, slot_of, static_slot}
use Rattle.fm_world.specs.Numbers.{type_of_class}
use Rattle.fm_world.specs.Programs.{kind_at}
use Rattle.fm_world.specs.declared.declarations.DeclaredClass.{DeclaredClass}
use Rattle.fm_world.specs.declared.declarations.DeclaredField.{DeclaredField}

-- ---- a kind that a class gives or not

one_given : (b : Bool) (k : Kind) (ks : List Kind) → length (cons_option (cond b (Some k) None) ks) ≡ cond b 1 0 + length ks
one_given true k ks = omega arith
one_given false k ks = omega arith

skipped : (b : Bool) (k : Kind) (ks : List Kind) (n : ℕ) → slice_get (cons_option (cond b (Some k) None) ks) (cond b 1 0 + n) ≡ slice_get ks n
skipped true k ks n = let next : 1 + n ≡ suc n = omega arith in ap (λ m. slice_get (k ∷ ks) m) next
skipped false k ks n = let same : 0 + n ≡ n = omega arith in ap (λ m. slice_get ks m) same

first_given : (b : Bool) (k : Kind) (ks : List Kind) → b ≡ true → slice_get (cons_option (cond b (Some k) None) ks) 0 ≡ Some k
first_given true k ks is = refl
first_given false k ks is = absurd (false≢true is)

hidden_one : (b : Bool) (k : Kind) → length (cond b (k ∷ []) []) ≡ cond b 1 0
hidden_one true k = refl
hidden_one false k = refl

module _ (classes : List DeclaredClass) where
  abbrev hidden_given : Bool → List Kind
  hidden_given hidden = if hidden then declared_kind classes (typed 0 (object string_name)) ∷ [] else []

  hidden_many : (b : Bool) → length (hidden_given b) ≡ cond b 1 0
  hidden_many b = hidden_one b (declared_kind classes (typed 0 (object string_name)))

  abbrev own : ℕ → List Kind
  own class = own_kinds classes (class_at classes class)

  abbrev kinds_along : List ℕ → List Kind
  kinds_along chain = flat_map own (reverse chain)

  -- ---- the kinds of a class and of those above it

  upper_first : (class : ℕ) (chain : List ℕ) → kinds_along (class ∷ chain) ≡ kinds_along chain ++ own class
  upper_first class chain =
      ap (flat_map own) (reverse-append (class ∷ []) chain) ∙ flat_map-append own (reverse chain) (class ∷ [])
      ∙ ap (λ ks. kinds_along chain ++ ks) (flat_map-cons own class [] ∙ append-nil (own class))

  -- objects of a class have the kinds of each superclass, and then more
  pub kinds_grow : AreTree classes → (class above : ℕ) → class < length classes → is_among above (chain_of classes class) ≡ true
      → (more : List Kind) × (kinds_of classes class ≡ kinds_of classes above ++ more)
  unfolding kinds_of
  kinds_grow tree class above within among =
      let ends = chain_ends classes tree.linear (length (chain_of classes class)) class above (omega arith) within among in (
        flat_map own (reverse ends.front),
        ap kinds_along ends.joined ∙ ap (flat_map own) (reverse-append ends.front (chain_of classes above))
            ∙ flat_map-append own (reverse (chain_of classes above)) (reverse ends.front),
      )

  -- ---- how many they are

  abbrev kind_given : DeclaredField → Option Kind
  kind_given f = if is_instance f.flags then Some (field_kind classes f) else None

  abbrev is_given : DeclaredField → Bool
  is_given f = is_instance f.flags

  given_many : (fields : List DeclaredField) → length (filter_map kind_given fields) ≡ count_by is_given fields
  given_many [] = refl
  given_many (f ∷ fields) =
      one_given (is_instance f.flags) (field_kind classes f) (filter_map kind_given fields)
      ∙ ap (λ n. cond (is_instance f.flags) 1 0 + n) (given_many fields) ∙ sym (sum_by-cons (λ g. cond (is_given g) 1 0) f fields)

  own_many : (c : DeclaredClass) → length (own_kinds classes c) ≡ own_size c
  own_many c =
      length-append (hidden_given c.hidden) (filter_map kind_given c.fields)
      ∙ ap (λ n. n + length (filter_map kind_given c.fields)) (hidden_many c.hidden)
      ∙ ap (λ n. hidden_fields c + n) (given_many c.fields)

  pub kinds_many : (chain : List ℕ) → length (kinds_along chain) ≡ size_among classes chain
  kinds_many [] = refl
  kinds_many (class ∷ chain) =
      let more : length (kinds_along chain ++ own class) ≡ length (kinds_along chain) + length (own class) = length-append (kinds_along chain) (own class) in
      let all : length (kinds_along (class ∷ chain)) ≡ length (kinds_along chain ++ own class) = ap length (upper_first class chain) in
      let above : length (kinds_along chain) ≡ size_among classes chain = kinds_many chain in
      let here : length (own class) ≡ own_size (class_at classes class) = own_many (class_at classes class) in
      let sum : size_among classes (class ∷ chain) ≡ own_size (class_at classes class) + size_among classes chain =
      sum_by-cons (λ n. own_size (class_at classes n)) class chain in
      omega (arith, more, all, above, here, sum)

  -- ---- one field of a class

  given_found : (fields : List DeclaredField) (k : ℕ) (f : DeclaredField) → slice_get fields k ≡ Some f → is_instance f.flags ≡ true
      → slice_get (filter_map kind_given fields) (instance_fields (take k fields)) ≡ Some (field_kind classes f)
  given_found [] k f at is = absurd (cc)
  given_found (g ∷ fields) zero f at is =
      let same : g ≡ f = same_Some g f at in
      first_given (is_instance g.flags) (field_kind classes g) (filter_map kind_given fields) (ap (λ (h : DeclaredField). is_instance h.flags) same ∙ is)
      ∙ ap (λ (h : DeclaredField). Some (field_kind classes h)) same
  given_found (g ∷ fields) (suc k) f at is =
      ap (λ n. slice_get (filter_map kind_given (g ∷ fields)) n) (sum_by-cons (λ h. cond (is_given h) 1 0) g (take k fields))
      ∙ skipped (is_instance g.flags) (field_kind classes g) (filter_map kind_given fields) (instance_fields (take k fields))
      ∙ given_found fields k f at is

  chain_first : (class : ℕ) → chain_of classes class ≡ class ∷ superclasses_of classes class
  unfolding chain_of
  chain_first class = refl

  kinds_parted : (class : ℕ) → kinds_of classes class ≡ kinds_along (superclasses_of classes class) ++ own class
  unfolding kinds_of
  kinds_parted class = ap kinds_along (chain_first class) ∙ upper_first class (superclasses_of classes class)

  own_place : (class k : ℕ) (f : DeclaredField) → slice_get (class_at classes class).fields k ≡ Some f → is_instance f.flags ≡ true
      → slice_get (kinds_of classes class) (instance_slot classes class k) ≡ Some (field_kind classes f)
  own_place class k f at is =
      let c : DeclaredClass = class_at classes class in
      let before : ℕ = instance_fields (take k c.fields) in
      let above : length (kinds_along (superclasses_of classes class)) ≡ size_among classes (superclasses_of classes class) =
      kinds_many (superclasses_of classes class) in
      let hidden : length (hidden_given c.hidden) ≡ hidden_fields c = hidden_many c.hidden in
      let place : instance_slot classes class k ≡ length (kinds_along (superclasses_of classes class)) + (length (hidden_given c.hidden) + before) =
      omega (arith, above, hidden) in
      ap (λ ks. slice_get ks (instance_slot classes class k)) (kinds_parted class)
      ∙ ap (λ n. slice_get (kinds_along (superclasses_of classes class) ++ own class) n) place
      ∙ slice_get-append_right (kinds_along (superclasses_of classes class)) (own class) (length (hidden_given c.hidden) + before)
      ∙ slice_get-append_right (hidden_given c.hidden) (filter_map kind_given c.fields) before
      ∙ given_found c.fields k f at is

  -- ---- fields by their numbers

  abbrev none : OwnedField
  none = record { class = 0; field = no_field }

  -- where a field is in its class, of those that these classes have
  record IsOwned (number : ℕ) (cs : List DeclaredClass) (index : ℕ) : Type 0 where
    ahead : ℕ
    class_is : (get_or (fields_from number cs) index none).class ≡ number + ahead
    first : sum_by (λ c. length c.fields) (take ahead cs) ≤ index
    at : slice_get (get_or cs ahead no_class).fields (index - sum_by (λ c. length c.fields) (take ahead cs))
        ≡ Some (get_or (fields_from number cs) index none).field

  here_or_later : (number : ℕ) (c : DeclaredClass) (cs : List DeclaredClass) (index : ℕ) → index < length (fields_from number (c ∷ cs))
      → ((i : ℕ) → i < length (fields_from (number + 1) cs) → IsOwned (number + 1) cs i) → IsOwned number (c ∷ cs) index
  here_or_later number c cs index within later = by_place (cases_lt index (length c.fields)) where
    mine : List OwnedField
    mine = owned_fields number c

    many : length mine ≡ length c.fields
    many = length-map c.fields (λ f. record { class = number; field = f })

    here : index < length c.fields → IsOwned number (c ∷ cs) index
    here inside =
        let found : get_or (mine ++ fields_from (number + 1) cs) index none ≡ record { class = number; field = get_or c.fields index no_field } =
        get_or_append_left mine (fields_from (number + 1) cs) none index (omega (arith, many, inside))
        ∙ get_or-map (λ f. record { class = number; field = f }) c.fields index no_field none inside in
        let none_before : index - 0 ≡ index = omega arith in
        record {
          ahead = 0;
          class_is = let zero_on : number ≡ number + 0 = omega arith in ap (λ (g : OwnedField). g.class) found ∙ zero_on;
          first = omega arith;
          at = ap (λ n. slice_get c.fields n) none_before ∙ slice_get-get_or c.fields index no_field inside
              ∙ sym (ap (λ (g : OwnedField). Some g.field) found);
        }

    further : length c.fields ≤ index → IsOwned number (c ∷ cs) index
    further outside =
        let i : ℕ = index - length c.fields in
        let all : length (mine ++ fields_from (number + 1) cs) ≡ length mine + length (fields_from (number + 1) cs) =
        length-append mine (fields_from (number + 1) cs) in
        let owned : IsOwned (number + 1) cs i = later i (omega (arith, all, many, within, outside)) in
        let place : index ≡ length mine + i = omega (arith, many, outside) in
        let found : get_or (mine ++ fields_from (number + 1) cs) index none ≡ get_or (fields_from (number + 1) cs) i none =
        ap (λ n. get_or (mine ++ fields_from (number + 1) cs) n none) place ∙ get_or-append-add mine (fields_from (number + 1) cs) i none in
        let sum : sum_by (λ d. length d.fields) (c ∷ take owned.ahead cs) ≡ length c.fields + sum_by (λ d. length d.fields) (take owned.ahead cs) =
        sum_by-cons (λ (d : DeclaredClass). length d.fields) c (take owned.ahead cs) in
        let first : sum_by (λ d. length d.fields) (take owned.ahead cs) ≤ i = owned.first in
        let left : index - sum_by (λ d. length d.fields) (c ∷ take owned.ahead cs) ≡ i - sum_by (λ d. length d.fields) (take owned.ahead cs) =
        omega (arith, sum, first, outside) in
        let next : number + 1 + owned.ahead ≡ number + suc owned.ahead = omega arith in
        record {
          ahead = suc owned.ahead;
          class_is = ap (λ (g : OwnedField). g.class) found ∙ owned.class_is ∙ next;
          first = omega (arith, sum, first, outside);
          at = ap (λ n. slice_get (get_or cs owned.ahead no_class).fields n) left ∙ owned.at ∙ sym (ap (λ (g : OwnedField). Some g.field) found);
        }

    by_place : (index < length c.fields) ⊎ (length c.fields ≤ index) → IsOwned number (c ∷ cs) index
    by_place (inl inside) = here inside
    by_place (inr outside) = further outside

  owned_at : (number : ℕ) (cs : List DeclaredClass) (index : ℕ) → index < length (fields_from number cs) → IsOwned number cs index
  owned_at number [] index within = absurd (omega (arith, within))
  owned_at number (c ∷ cs) index within = here_or_later number c cs index within (λ i inside. owned_at (number + 1) cs i inside)

  -- a field by its number is at its index in its class
  field_in_class : (field : ℕ) → field < length (fields_of classes)
      → slice_get (class_at classes (field_at classes field).class).fields (field - first_field classes (field_at classes field).class)
      ≡ Some (field_at classes field).field
  unfolding fields_of
  field_in_class field within =
      let owned : IsOwned 0 classes field = owned_at 0 classes field within in
      let zero_on : 0 + owned.ahead ≡ owned.ahead = omega arith in
      ap (λ n. slice_get (class_at classes n).fields (field - first_field classes n)) (owned.class_is ∙ zero_on) ∙ owned.at

  -- the place of a field of objects is the same, and has its kind, in all objects that have the field
  pub field_place : AreTree classes → (class field : ℕ) → class < length classes → field < length (fields_of classes)
      → is_static (field_at classes field).field.flags ≡ false → is_among (field_at classes field).class (chain_of classes class) ≡ true
      → kind_at classes (type_of_class class) (slot_of classes field) ≡ Some (field_kind classes (field_at classes field).field)
  unfolding slot_of
  field_place tree class field within there not_static among =
      let owned : OwnedField = field_at classes field in
      let index : ℕ = field - first_field classes owned.class in
      let grows = kinds_grow tree class owned.class within among in
      ap (λ b. slice_get (kinds_of classes class) (cond b (static_slot classes field) (instance_slot classes owned.class index))) not_static
      ∙ ap (λ ks. slice_get ks (instance_slot classes owned.class index)) grows.1
      ∙ slice_get-append_left (kinds_of classes owned.class) grows.0 (instance_slot classes owned.class index) (field_kind classes owned.field)
      (own_place owned.class index owned.field (field_in_class field there) (ap not not_static))
