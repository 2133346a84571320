-- A method that has code is one of a class file, and what its instructions name is what the file's pool is resolved to.
use Rattle.std.proofs.Common.{◌≡◌, refl, sym, ◌∙◌, ap, subst, ℕ, zero, suc, ◌+◌, ◌-◌, ◌<◌, ◌≤◌, ◌⊎◌, inl, inr, Bool, true, false, cond, List, [], ◌∷◌, ◌++◌, length, map, replicate, get_or, slice_get, Contains, Option, Some, None, zero-add, arith}
use Rattle.std.specs.List.{flat_map, slice_index_or}
use Rattle.std.specs.Option.{option_map}
use Rattle.std.proofs.lemmas.Bool.{cases_lt}
use Rattle.std.proofs.lemmas.List.{get_or-append_right, get_or_past, length-replicate}
use Rattle.std.proofs.lemmas.List.FromFn.{get_or-map-range_with_len, length-map-range_with_len}
use Rattle.std.proofs.lemmas.Option.{none-some, same_Some}
use Rattle.fm_base.proofs.ContainsFacts.{Contains-flat_map}
use Rattle.fm_code.proofs.EdgesLemmas.{Contains-later}
use Rattle.fm_code.specs.Edges.{insn_of}
use Rattle.fm_code.specs.Members.{code_of}
use Rattle.fm_code.specs.declared.class_file.ClassDef.{ClassDef}
use Rattle.fm_code.specs.declared.class_file.Member.{Member}
use Rattle.fm_code.specs.declared.code_array.Code.{Code}
use Rattle.fm_code.specs.declared.code_array.Item.{Item}
use Rattle.fm_code.specs.declared.instructions.Insn.{Insn}
use Rattle.fm_law_linked.proofs.Rows.{all_methods}
use Rattle.fm_world.specs.BuiltIns.{built_in}
use Rattle.fm_world.specs.Declarations.{declared_from, declared_method, no_method}
use Rattle.fm_world.specs.Members.{method_at, methods_from, methods_of, OwnedMethod}
use Rattle.fm_world.specs.Programs.{class_uses, classes_of, codes_of, Outline, resolved_at, uses_of}
use Rattle.fm_world.specs.Uses.{class_items, is_used, items_of}
use Rattle.fm_world.specs.declared.uses.Use.{Use}
use Rattle.fm_world.specs.declared.uses.Use.TheVariants as resolved
use Rattle.fm_link_names.proofs.MarkLemmas.{items_some}

-- ---- where code is

-- the code is that of a method of the file at this place, whose class has this number
pub record IsCodeOf (given : List ClassDef) (class : ℕ) (code : Code) : Type 0 where
  pub place : ℕ
  pub file : ClassDef
  pub file_is : slice_get given place ≡ Some file
  pub class_is : class ≡ length built_in + place
  pub member : Member
  pub among : Contains file.methods member
  pub code_is : code_of member ≡ Some code

-- methods beside their codes
AreBesideCodes : List ClassDef → List OwnedMethod → List (Option Code) → Type 0
AreBesideCodes given [] [] = Unit {0}
AreBesideCodes given [] (o ∷ codes) = ⊥
AreBesideCodes given (m ∷ methods) [] = ⊥
AreBesideCodes given (m ∷ methods) (o ∷ codes) = ((code : Code) → o ≡ Some code → IsCodeOf given m.class code) × AreBesideCodes given methods codes

AreBesideCodes-append : (given : List ClassDef) (methods more : List OwnedMethod) (codes others : List (Option Code)) → AreBesideCodes given methods codes → AreBesideCodes given more others
    → AreBesideCodes given (methods ++ more) (codes ++ others)
unfolding AreBesideCodes
AreBesideCodes-append given [] more [] others first second = second
AreBesideCodes-append given [] more (o ∷ codes) others first second = absurd first
AreBesideCodes-append given (m ∷ methods) more [] others first second = absurd first
AreBesideCodes-append given (m ∷ methods) more (o ∷ codes) others first second = (first.0, AreBesideCodes-append given methods more codes others first.1 second)

AreBesideCodes-none : (given : List ClassDef) (methods : List OwnedMethod) → AreBesideCodes given methods (replicate (length methods) None)
unfolding AreBesideCodes
AreBesideCodes-none given [] = tt
AreBesideCodes-none given (m ∷ methods) = (λ code is. absurd (none-some code is), AreBesideCodes-none given methods)

AreBesideCodes-members : (given : List ClassDef) (class place : ℕ) (c : ClassDef) → slice_get given place ≡ Some c → class ≡ length built_in + place → (members : List Member)
    → ((m : Member) → Contains members m → Contains c.methods m)
    → AreBesideCodes given (map (λ m. record { class = class; method = m }) (map (declared_method c.pool.entries) members)) (map code_of members)
unfolding AreBesideCodes
AreBesideCodes-members given class place c at is [] among = tt
AreBesideCodes-members given class place c at is (m ∷ members) among = (
  λ code has. record {
    place = place;
    file = c;
    file_is = at;
    class_is = is;
    member = m;
    among = among m (0, omega arith, refl);
    code_is = has;
  },
  AreBesideCodes-members given class place c at is members (λ n there. among n (Contains-later m members n there)),
)

AreBesideCodes-files : (given : List ClassDef) (class place file : ℕ) (files : List ClassDef) → class ≡ length built_in + place
    → ((k : ℕ) (c : ClassDef) → slice_get files k ≡ Some c → slice_get given (place + k) ≡ Some c)
    → AreBesideCodes given (methods_from class (declared_from file files)) (flat_map (λ c. map code_of c.methods) files)
unfolding AreBesideCodes
AreBesideCodes-files given class place file [] is each = tt
AreBesideCodes-files given class place file (c ∷ files) is each =
    let here : place + 0 ≡ place = omega arith in
    AreBesideCodes-append given (map (λ m. record { class = class; method = m }) (map (declared_method c.pool.entries) c.methods))
    (methods_from (class + 1) (declared_from (file + 1) files)) (map code_of c.methods) (flat_map (λ d. map code_of d.methods) files)
    (AreBesideCodes-members given class place c (ap (slice_get given) (sym here) ∙ each 0 c refl) is c.methods (λ m there. there))
    (AreBesideCodes-files given (class + 1) (place + 1) (file + 1) files (omega (arith, is))
    (λ k d at. let next : place + 1 + k ≡ place + suc k = omega arith in ap (slice_get given) next ∙ each (suc k) d at))

AreBesideCodes-at : (given : List ClassDef) (methods : List OwnedMethod) (codes : List (Option Code)) → AreBesideCodes given methods codes → (k : ℕ) (code : Code)
    → get_or codes k None ≡ Some code
    → IsCodeOf given (get_or methods k (record { class = 0; method = no_method })).class code
unfolding AreBesideCodes
AreBesideCodes-at given [] [] told k code is = absurd (none-some code is)
AreBesideCodes-at given [] (o ∷ codes) told k code is = absurd told
AreBesideCodes-at given (m ∷ methods) [] told k code is = absurd told
AreBesideCodes-at given (m ∷ methods) (o ∷ codes) told zero code is = told.0 code is
AreBesideCodes-at given (m ∷ methods) (o ∷ codes) told (suc k) code is = AreBesideCodes-at given methods codes told.1 k code is

AreBesideCodes-all : (given : List ClassDef) → AreBesideCodes given (methods_of (classes_of given)) (codes_of given)
unfolding codes_of
AreBesideCodes-all given =
    subst (λ ms. AreBesideCodes given ms (codes_of given)) (sym (all_methods given))
    (AreBesideCodes-append given (methods_of built_in) (methods_from (length built_in) (declared_from 0 given)) (replicate (length (methods_of built_in)) None)
    (flat_map (λ c. map code_of c.methods) given) (AreBesideCodes-none given (methods_of built_in))
    (AreBesideCodes-files given (length built_in) 0 0 given (omega arith) (λ k c at. ap (slice_get given) (zero-add k) ∙ at)))

-- code is that of a method of a file
pub code_there : (given : List ClassDef) (method : ℕ) (code : Code) → slice_index_or (codes_of given) method None ≡ Some code
    → IsCodeOf given (method_at (classes_of given) method).class code
code_there given method code is = AreBesideCodes-at given (methods_of (classes_of given)) (codes_of given) (AreBesideCodes-all given) method code is

-- ---- what the indices of a file are resolved to

mapped : {X Y : Type 0} (f : X → Y) (xs : List X) (k : ℕ) (x : X) (d : Y) → slice_get xs k ≡ Some x → get_or (map f xs) k d ≡ f x
mapped f [] k x d at = absurd (none-some x at)
mapped f (y ∷ ys) zero x d at = ap f (same_Some y x at)
mapped f (y ∷ ys) (suc k) x d at = mapped f ys k x d at

pub uses_of_file : (o : Outline) (given : List ClassDef) (place : ℕ) (c : ClassDef) → slice_get given place ≡ Some c
    → get_or (uses_of o given) (length built_in + place) [] ≡ class_uses o c
unfolding uses_of
uses_of_file o given place c at =
    let none : List (List Use) = replicate (length built_in) [] in
    let long : length none ≡ length built_in = length-replicate (length built_in) [] in
    let rest : length built_in + place - length built_in ≡ place = omega arith in
    get_or-append_right none (map (class_uses o) given) (length built_in) (length built_in + place) [] long (omega arith)
    ∙ ap (λ k. get_or (map (class_uses o) given) k []) rest ∙ mapped (class_uses o) given place c [] at

-- an index of a file that is used, and what it is resolved to
pub record IsUseAt (o : Outline) (c : ClassDef) (index : ℕ) (u : Use) : Type 0 where
  pub within : index < length c.pool.entries
  pub used : is_used c index ≡ true
  pub resolved_is : resolved_at o c.pool.entries index ≡ u

pub use_at : (o : Outline) (c : ClassDef) (index : ℕ) (u : Use) → (resolved.Unused ≡ u → ⊥) → get_or (class_uses o c) index resolved.Unused ≡ u
    → IsUseAt o c index u
use_at o c index u some is = by_place (cases_lt index (length c.pool.entries)) where
  use_of : ℕ → Use
  use_of k = cond (is_used c k) (resolved_at o c.pool.entries k) resolved.Unused

  long : length (class_uses o c) ≡ length c.pool.entries
  long = length-map-range_with_len use_of 0 (length c.pool.entries)

  by_use : index < length c.pool.entries → (b : Bool) → is_used c index ≡ b → cond b (resolved_at o c.pool.entries index) resolved.Unused ≡ u
      → IsUseAt o c index u
  by_use within true used resolved_is = record { within = within; used = used; resolved_is = resolved_is }
  by_use within false used none = absurd (some none)

  by_place : (index < length c.pool.entries) ⊎ (length c.pool.entries ≤ index) → IsUseAt o c index u
  by_place (inl within) =
      by_use within (is_used c index) refl
      (sym (get_or-map-range_with_len use_of 0 (length c.pool.entries) index index resolved.Unused within (zero-add index)) ∙ is)
  by_place (inr past) = absurd (some (sym (get_or_past (class_uses o c) index resolved.Unused (omega (arith, past, long))) ∙ is))

-- ---- items

pub contains_at : {X : Type 0} (xs : List X) (k : ℕ) (x : X) → slice_get xs k ≡ Some x → Contains xs x
contains_at [] k x at = absurd (none-some x at)
contains_at (y ∷ ys) zero x at = (0, omega arith, same_Some y x at)
contains_at (y ∷ ys) (suc k) x at = Contains-later y ys x (contains_at ys k x at)

-- an item of the class of the code, with this instruction
pub record IsItemOf (c : ClassDef) (i : Insn) : Type 0 where
  pub item : Item
  pub among : Contains (class_items c) item
  pub insn_is : item.insn ≡ i

pub item_there : (c : ClassDef) (m : Member) (code : Code) (place : ℕ) (i : Insn) → Contains c.methods m → code_of m ≡ Some code → insn_of code place ≡ Some i
    → IsItemOf c i
item_there c m code place i among is named = by_item (slice_get code.items place) refl named where
  by_item : (o : Option Item) → slice_get code.items place ≡ o → option_map (λ (item : Item). item.insn) o ≡ Some i → IsItemOf c i
  by_item None at e = absurd (none-some i e)
  by_item (Some item) at e = record {
    item = item;
    among =
        let P : List Item → Type 0 = λ items. Contains items item in
        Contains-flat_map items_of c.methods m item among (subst P (sym (items_some m code is)) (contains_at code.items place item at));
    insn_is = same_Some item.insn i e;
  }
