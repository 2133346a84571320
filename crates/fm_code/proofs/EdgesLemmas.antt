-- Edges as a list that computes, the code of a method, and paths to a load.
use Rattle.std.proofs.Common.{◌≡◌, ℕ, ◌+◌, ◌<◌, ◌⊎◌, ◌&&◌, Bool, true, false, cond, nat_le, nat_lt, List, [], ◌∷◌, ◌++◌, length, map, Option, Some, None, IsSomeAnd, Contains, refl, ap, sym, ◌∙◌, subst, inl, inr, ⊎_elim, arith, slice_get}
use Rattle.std.proofs.lemmas.Bool.{lt-ltb, le-leb, ltb-true, leb-true, false≢true, and_parts}
use Rattle.std.proofs.lemmas.List.Elements.{Contains-append_left, Contains-append_right, Contains-append_cases, All-contains, All-from_recursion}
use Rattle.std.proofs.lemmas.Option.{slice_get_within}
use Rattle.std.specs.List.{AllByRecursion, Any, filter, flat_map}
use Rattle.fm_base.proofs.ContainsFacts.{Contains-cons_cases}
use Rattle.fm_base.proofs.OptionFacts.{option_map-some}
use Rattle.fm_code.specs.AccessFlags.{is_interface}
use Rattle.fm_code.proofs.Tested.{read, meant, items_spelled}
use Rattle.fm_code.specs.ClassBytes.{item_bytes}
use Rattle.fm_code.specs.CodeRules.{CodeIsValid}
use Rattle.fm_code.specs.InstructionTable.{insn_at}
use Rattle.fm_code.specs.Edges.{FallsOff, MeetsCodeRules, insn_of, falls_through, LeadsTo, Catches, IsHandlerEdge, IsEdge, IsReachable, onward, handlers_of, edges_listed}
use Rattle.fm_code.specs.EdgesExample.{example_code, example_items, falling_code}
use Rattle.fm_code.specs.Live.{Keeps, Live}
use Rattle.fm_code.specs.Members.{code_of, MethodAttrIsValid, MethodIsValid}
use Rattle.fm_code.specs.Spells.{HasSpelling}
use Rattle.fm_code.specs.SpellsCode.{targets_of, SpellsCode}
use Rattle.fm_code.specs.declared.class_file.ClassDef.{ClassDef}
use Rattle.fm_code.specs.declared.class_file.Member.{Member}
use Rattle.fm_code.specs.declared.class_file.MemberAttr.{MemberAttr}
use Rattle.fm_code.specs.declared.class_file.MemberAttr.TheVariants as attribute
use Rattle.fm_code.specs.declared.code_array.Code.{Code}
use Rattle.fm_code.specs.declared.code_array.Handler.{Handler}
use Rattle.fm_code.specs.declared.code_array.Item.{Item}
use Rattle.fm_code.specs.declared.constant_pool.Entry.{Entry}
use Rattle.fm_code.specs.declared.instructions.Insn.{Insn}

-- ---- lists

-- the first element is one
pub Contains-first : {X : Type 0} (y : X) (xs : List X) (x : X) → x ≡ y → Contains (y ∷ xs) x
Contains-first y xs x same = (0, omega arith, sym same)

-- and so are those of the rest
pub Contains-later : {X : Type 0} (y : X) (xs : List X) (x : X) → Contains xs x → Contains (y ∷ xs) x
Contains-later y xs x found = Contains-append_right (y ∷ []) xs x found

-- an element that passes the test stays
pub Contains-filter : {X : Type 0} (test : X → Bool) (xs : List X) (x : X) → Contains xs x → test x ≡ true → Contains (filter test xs) x
Contains-filter test [] x (k, inside, there) passes = absurd (omega arith)
Contains-filter test (y ∷ xs) x found passes =
    elim (test y) as (λ b. test y ≡ b → Contains (cond b (y ∷ filter test xs) (filter test xs)) x) [
      | true ↦ (λ e. ⊎_elim (λ same. Contains-first y (filter test xs) x same)
          (λ later. Contains-later y (filter test xs) x (Contains-filter test xs x later passes))
          (Contains-cons_cases y xs x found))
      | false ↦ (λ e. ⊎_elim (λ (same : x ≡ y). absurd (false≢true (sym e ∙ ap test (sym same) ∙ passes)))
          (λ later. Contains-filter test xs x later passes)
          (Contains-cons_cases y xs x found))
    ] refl

-- an element that stays was one, and passes the test
pub Contains-from_filter : {X : Type 0} (test : X → Bool) (xs : List X) (x : X) → Contains (filter test xs) x → Contains xs x × (test x ≡ true)
Contains-from_filter test [] x (k, inside, there) = absurd (omega arith)
Contains-from_filter test (y ∷ xs) x found =
    (elim (test y) as (λ b. test y ≡ b → Contains (cond b (y ∷ filter test xs) (filter test xs)) x → Contains (y ∷ xs) x × (test x ≡ true)) [
      | true ↦ (λ e stays. ⊎_elim (λ (same : x ≡ y). (Contains-first y xs x same, ap test same ∙ e))
          (λ later. let was = Contains-from_filter test xs x later in (Contains-later y xs x was.0, was.1))
          (Contains-cons_cases y (filter test xs) x stays))
      | false ↦ (λ e stays. let was = Contains-from_filter test xs x stays in (Contains-later y xs x was.0, was.1))
    ]) refl found

-- what an element is mapped to is an element
pub Contains-map : {X Y : Type 0} (f : X → Y) (xs : List X) (x : X) → Contains xs x → Contains (map f xs) (f x)
Contains-map f [] x (k, inside, there) = absurd (omega arith)
Contains-map f (y ∷ xs) x found =
    ⊎_elim (λ (same : x ≡ y). Contains-first (f y) (map f xs) (f x) (ap f same))
    (λ later. Contains-later (f y) (map f xs) (f x) (Contains-map f xs x later))
    (Contains-cons_cases y xs x found)

-- an element of the mapped list is what some element is mapped to
pub Contains-from_map : {X Y : Type 0} (f : X → Y) (xs : List X) (y : Y) → Contains (map f xs) y → (x : X) × Contains xs x × (f x ≡ y)
Contains-from_map f [] y (k, inside, there) = absurd (omega arith)
Contains-from_map f (x ∷ xs) y found =
    ⊎_elim (λ (same : y ≡ f x). (x, Contains-first x xs x refl, sym same))
    (λ later. let was = Contains-from_map f xs y later in (was.0, Contains-later x xs was.0 was.1, was.2))
    (Contains-cons_cases (f x) (map f xs) y found)

-- ---- edges as a list

onward_from : (o : Option Insn) (j next : ℕ) → IsSomeAnd o (λ i. LeadsTo i j next) → Contains (onward j o) next
onward_from None j next leads = absurd leads
onward_from (Some i) j next (inl named) = Contains-append_left (targets_of i) _ next named
onward_from (Some i) j next (inr (falls, is)) =
    let P : Bool → Type 0 = λ b. Contains (cond b ((j + 1) ∷ []) []) next in
    Contains-append_right (targets_of i) _ next (subst P (sym falls) (Contains-first (j + 1) [] next is))

onward_tells : (o : Option Insn) (j next : ℕ) → Contains (onward j o) next → IsSomeAnd o (λ i. LeadsTo i j next)
onward_tells None j next (k, inside, there) = absurd (omega arith)
onward_tells (Some i) j next found =
    ⊎_elim (λ named. inl named)
    (λ (after : Contains (cond (falls_through i) ((j + 1) ∷ []) []) next).
    inr
    ((elim (falls_through i) as (λ b. Contains (cond b ((j + 1) ∷ []) []) next → (b ≡ true) × (next ≡ j + 1)) [
      | true ↦ (λ one. (
        refl,
        ⊎_elim (λ same. same) (λ (none : Contains [] next). let inside = none.1 in absurd (omega arith))
            (Contains-cons_cases (j + 1) [] next one),
      ))
      | false ↦ (λ none. let inside = none.1 in absurd (omega arith))
    ]) after))
    (Contains-append_cases (targets_of i) (cond (falls_through i) ((j + 1) ∷ []) []) next found)

handlers_from : (j handler : ℕ) (hs : List Handler) → Any (Catches j handler) hs →
    Contains (map (λ (h : Handler). h.handler) (filter (λ (h : Handler). nat_le h.start j && nat_lt j h.end) hs)) handler
handlers_from j handler hs (k, h, within, there, catches) =
    let test : Handler → Bool = λ h. nat_le h.start j && nat_lt j h.end in
    let passes : test h ≡ true = (λ k. le-leb h.start j catches.after_start k && lt-ltb j h.end catches.before_end k) in
    let P : ℕ → Type 0 = λ n. Contains (map (λ (h : Handler). h.handler) (filter test hs)) n in
    subst P catches.handler_is (Contains-map (λ (h : Handler). h.handler) (filter test hs) h (Contains-filter test hs h (k, within, there) passes))

handlers_tell : (j handler : ℕ) (hs : List Handler) →
    Contains (map (λ (h : Handler). h.handler) (filter (λ (h : Handler). nat_le h.start j && nat_lt j h.end) hs)) handler → Any (Catches j handler) hs
handlers_tell j handler hs found =
    let test : Handler → Bool = λ h. nat_le h.start j && nat_lt j h.end in
    let one = Contains-from_map (λ (h : Handler). h.handler) (filter test hs) handler found in
    let h = one.0 in
    let was = Contains-from_filter test hs h one.1 in
    let passed = and_parts (nat_le h.start j) (nat_lt j h.end) was.1 in
    (was.0.0, h, was.0.1, was.0.2, record { after_start = leb-true h.start j passed.0; before_end = ltb-true j h.end passed.1; handler_is = one.2 })

-- an edge is in the list
pub edges_listed-from_edge : (code : Code) (j next : ℕ) → IsEdge code j next → Contains (edges_listed code j) next
edges_listed-from_edge code j next (inl edge) =
    Contains-filter (λ n. nat_lt n (length code.items)) _ next
    (Contains-append_left (onward j (insn_of code j)) (handlers_of code j) next (onward_from (insn_of code j) j next edge.leads))
    (lt-ltb next (length code.items) edge.inside)
edges_listed-from_edge code j next (inr edge) =
    let hs = map (λ (h : Handler). h.handler) (filter (λ (h : Handler). nat_le h.start j && nat_lt j h.end) code.handlers) in
    let P : Bool → Type 0 = λ b. Contains (cond b hs []) next in
    let caught : Contains (handlers_of code j) next =
    subst P (sym (lt-ltb j (length code.items) edge.from_item)) (handlers_from j next code.handlers edge.caught) in
    Contains-filter (λ n. nat_lt n (length code.items)) _ next (Contains-append_right (onward j (insn_of code j)) (handlers_of code j) next caught)
    (lt-ltb next (length code.items) edge.inside)

-- what is in the list is an edge
pub edge-from_edges_listed : (code : Code) (j next : ℕ) → Contains (edges_listed code j) next → IsEdge code j next
edge-from_edges_listed code j next found =
    let was = Contains-from_filter (λ n. nat_lt n (length code.items)) (onward j (insn_of code j) ++ handlers_of code j) next found in
    let inside : next < length code.items = ltb-true next (length code.items) was.1 in
    let hs = map (λ (h : Handler). h.handler) (filter (λ (h : Handler). nat_le h.start j && nat_lt j h.end) code.handlers) in
    ⊎_elim (λ normal. inl (record { inside = inside; leads = onward_tells (insn_of code j) j next normal }))
    (λ (caught : Contains (cond (nat_lt j (length code.items)) hs []) next).
    inr
    ((elim (nat_lt j (length code.items)) as
    (λ b. nat_lt j (length code.items) ≡ b → Contains (cond b hs []) next → IsHandlerEdge code j next) [
      | true ↦ (λ e found. record { inside = inside; from_item = ltb-true j (length code.items) e; caught = handlers_tell j next code.handlers found })
      | false ↦ (λ e none. let within = none.1 in absurd (omega arith))
    ]) refl caught))
    (Contains-append_cases (onward j (insn_of code j)) (handlers_of code j) next was.0)

-- ---- live locals

-- a local is live where it is live at the end of an edge and isn't stored over
pub Live-before_edge : (code : Code) (k j next : ℕ) → IsEdge code j next → Live code k next → Keeps code k j → Live code k j
Live-before_edge code k j next edge (path, leads) keeps = (next ∷ path, (keeps, edge, leads))

-- ---- the example

pub handler_reached : IsReachable example_code 7
handler_reached = (
  1 ∷ 2 ∷ 7 ∷ [],
  (
    edge-from_edges_listed example_code 0 1 (0, omega arith, refl),
    (
      edge-from_edges_listed example_code 1 2 (1, omega arith, refl),
      (
        edge-from_edges_listed example_code 2 7 (1, omega arith, refl),
        refl,
      ),
    ),
  ),
)

pub live_by_handler : Live example_code 0 3
live_by_handler = (
  7 ∷ 8 ∷ [],
  (
    refl,
    edge-from_edges_listed example_code 3 7 (0, omega arith, refl),
    (
      refl,
      edge-from_edges_listed example_code 7 8 (0, omega arith, refl),
      refl,
    ),
  ),
)

pub stored_over : Live example_code 2 7 → ⊥
stored_over ([], loads) = absurd cc
stored_over (next ∷ rest, (keeps, edge, leads)) = false≢true (sym keeps)

example_read : map read example_items ≡ map (meant example_items) example_items
unfolding insn_at
example_read = refl

-- the example's bytes spell its items
example_spelled : SpellsCode (flat_map item_bytes example_items) example_items
example_spelled = record {
  bytes_are = refl;
  offsets = (refl, (refl, (refl, (refl, (refl, (refl, (refl, (refl, (refl, (refl, (refl, (refl, tt))))))))))));
  spelled = items_spelled example_items example_items example_read refl;
}

pub example_meets_rules : MeetsCodeRules example_code
example_meets_rules = (
  [],
  record {
    not_empty = omega arith;
    not_long = omega arith;
    measured = refl;
    spelled = example_spelled;
    locals = (omega arith, (tt, (omega arith, (tt, (omega arith, (tt, (tt, (omega arith, (omega arith, (tt, (omega arith, (tt, tt))))))))))));
    operands = (tt, (tt, (tt, (tt, (tt, (tt, (tt, (tt, (tt, (tt, (tt, (tt, tt))))))))))));
    handlers = (record { not_empty = omega arith; end = omega arith; handler = omega arith; catch_class = inl refl }, tt);
    attributes = tt;
  },
)

falling_read : map read falling_code.items ≡ map (meant falling_code.items) falling_code.items
unfolding insn_at
falling_read = refl

pub falling_meets_rules : MeetsCodeRules falling_code
falling_meets_rules = (
  [],
  record {
    not_empty = omega arith;
    not_long = omega arith;
    measured = refl;
    spelled = record { bytes_are = refl; offsets = (refl, tt); spelled = items_spelled falling_code.items falling_code.items falling_read refl };
    locals = (tt, tt);
    operands = (tt, tt);
    handlers = tt;
    attributes = tt;
  },
)

pub falls_off : FallsOff falling_code
falls_off = record { item = 0; reachable = ([], refl); last = refl; falls = refl }

-- ---- the code of a method

-- the first code among the attributes meets the rules, as each does
first_code_valid : (entries : List Entry) (m : Member) (attributes : List MemberAttr) (code : Code) →
    AllByRecursion (MethodAttrIsValid entries) attributes → code_of (record m { attributes = attributes }) ≡ Some code →
    CodeIsValid entries code
first_code_valid entries m [] code valid found = absurd cc
first_code_valid entries m (attribute.Constant name value ∷ rest) code valid found = absurd valid.0
first_code_valid entries m (attribute.Coded name first ∷ rest) code valid found =
    let same : first ≡ code = cc in
    subst (λ c. CodeIsValid entries c) same valid.0.1
first_code_valid entries m (attribute.Other raw ∷ rest) code valid found = first_code_valid entries m rest code valid.1 found

pub MeetsCodeRules-method : (c : ClassDef) (m : Member) (code : Code) → HasSpelling c → Contains c.methods m → code_of m ≡ Some code → MeetsCodeRules code
MeetsCodeRules-method c m code (bytes, spells) declared found =
    let IsValid : Member → Type 0 = MethodIsValid (is_interface c.flags) c.pool.entries in
    let valid : IsValid m = All-contains IsValid c.methods m (All-from_recursion IsValid c.methods spells.methods) declared in
    (c.pool.entries, first_code_valid c.pool.entries m m.attributes code valid.attributes found)

-- an item with an instruction is within the code
pub insn_inside : (code : Code) (j : ℕ) (i : Insn) → insn_of code j ≡ Some i → j < length code.items
insn_inside code j i is =
    let found = option_map-some (λ (item : Item). item.insn) (slice_get code.items j) i is in slice_get_within code.items j found.0 found.1
