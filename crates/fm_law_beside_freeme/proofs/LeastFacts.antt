-- Two sets of exact facts over least typings agree on a method, but for the numbers of its classes.
use Rattle.std.proofs.Common.{◌≡◌, refl, sym, ◌∙◌, ap, ℕ, zero, suc, ◌+◌, ◌-◌, ◌&&◌, ◌||◌, not, Bool, true, false, cond, List, [], ◌∷◌, length, map, take, reverse, Option, Some, None, is_some, option_and_then, IsSomeAnd, Contains, eq-eqb}
use Rattle.std.specs.Prelude.{filter, nat_eq, nat_lt, slice_get}
use Rattle.std.specs.List.{list_any, range_with_len, slice_index_or}
use Rattle.std.specs.Option.{option_map}
use Rattle.std.proofs.lemmas.Bool.{and_parts, eqb-true, false≢true}
use Rattle.fm_summ_shapes.proofs.LeastLemmas.{below_same, calls_same, depth_same, joined_kept, least_alike, linked_kept, node_kept, stack_fits, told_same, AreAlike}
use Rattle.fm_base.proofs.TestFacts.{same_test}
use Rattle.fm_base.specs.declared.kinds.Kind.{Kind}
use Rattle.fm_base.specs.declared.limits.TheConstants.{MAX_LOCAL_WORDS}
use Rattle.fm_code.proofs.EdgesLemmas.{Contains-later}
use Rattle.fm_code.specs.Edges.{insn_of}
use Rattle.fm_code.specs.Edges.{edges_listed}
use Rattle.fm_code.specs.declared.code_array.Code.{Code}
use Rattle.fm_code.specs.declared.instructions.Insn.{Insn}
use Rattle.fm_code.specs.declared.instructions.Insn.TheVariants as insn
use Rattle.fm_conn.proofs.ListLemmas.{Contains-first}
use Rattle.fm_conn.specs.Facts.{AreFactsOf, Facts}
use Rattle.fm_conn.specs.Links.{typed_method, Linked}
use Rattle.fm_conn.specs.Nodes.{depth_at, Global, Local, Node, Return, Slot, TypedMethod, word_at}
use Rattle.fm_conn.specs.Pairs.{call_of, depth_below, use_at, IsEnd}
use Rattle.fm_conn.specs.Rows.{is_reference_kind}
use Rattle.fm_conn.specs.Summaries.{same_number}
use Rattle.fm_conn.specs.declared.ends.End2.{End2}
use Rattle.fm_conn.specs.declared.ends.End2.TheVariants as end
use Rattle.fm_place.proofs.BusyLemmas.{node-word, word-node}
use Rattle.fm_place.proofs.HolderLemmas.{made}
use Rattle.fm_place.proofs.PlanLemmas.{full_of}
use Rattle.fm_place.proofs.SiteLemmas.{parameter_listed}
use Rattle.fm_place.specs.Insertions.{all_insertions, full_insertions, Holder, Insertions, numbers_of}
use Rattle.fm_place.specs.Places.{is_busy, is_place, is_reference_word, leads_busily}
use Rattle.fm_place.specs.Safe.{full_plans}
use Rattle.fm_place.specs.Sites.{constructs, Constructs, held_sites, is_captured, is_captured_site, is_doubled, kind_of_site, makes_array, MakesArray, may_give_old, names_constructor, new_item, new_item_at, receives_new, ReceivesNew, reference_parameters, site_class, site_kind, site_node}
use Rattle.fm_place.specs.declared.limits.TheConstants.{MAX_HOLDING_STACK_WORDS}
use Rattle.fm_check_rows.proofs.WordLemmas.{reverse-map}
use Rattle.fm_same.proofs.SiteNodes.{refers}
use Rattle.fm_same.proofs.TargetMethods.{target_alike}
use Rattle.fm_law_beside_freeme.proofs.PlainPlans.{plain, plains, unnumbered}
use Rattle.fm_law_beside_freeme.specs.Exact.{AreLeastFacts}
use Rattle.fm_types.specs.Fits.{fits}
use Rattle.fm_types.specs.Named.{result_of}
use Rattle.fm_types.specs.States.{all_fit, is_reference, state_fits, TypeState}
use Rattle.fm_types.specs.Typed.{entry_slots, state_at}
use Rattle.fm_types.specs.declared.slots.Slot as slots
use Rattle.fm_types.specs.declared.slots.Slot.TheVariants as slot
use Rattle.fm_world.specs.Descriptors.{result_kind}
use Rattle.fm_world.specs.Programs.{code_at, Outline, Program, targets}
use Rattle.fm_world.specs.declared.calls.Call.{Call}

-- ---- words of states

new_item_same : (o : Outline) (a b : slots.Slot) → fits o a b ≡ true → fits o b a ≡ true → new_item a ≡ new_item b
unfolding fits
new_item_same o (slot.Uninit item) (slot.Uninit other) up down = ap Some (eqb-true item other up)
new_item_same o (slot.Uninit item) slot.Top up down = absurd (false≢true down)
new_item_same o (slot.Uninit item) b up down = absurd (false≢true up)
new_item_same o a (slot.Uninit other) up down = absurd (false≢true up)
new_item_same o a b up down = refl

new_items_same : (o : Outline) (xs ys : List slots.Slot) → all_fit o xs ys ≡ true → all_fit o ys xs ≡ true → map new_item xs ≡ map new_item ys
new_items_same o [] [] up down = refl
new_items_same o [] (y ∷ ys) up down = absurd (false≢true up)
new_items_same o (x ∷ xs) [] up down = absurd (false≢true up)
new_items_same o (x ∷ xs) (y ∷ ys) up down =
    let above = and_parts (fits o x y) (all_fit o xs ys) up in
    let below = and_parts (fits o y x) (all_fit o ys xs) down in
    (λ k. new_item_same o x y above.0 below.0 k ∷ new_items_same o xs ys above.1 below.1 k)

-- the items of the objects in the words of a state, the lowest first
abbrev new_items : Option TypeState → List (Option ℕ)
new_items None = []
new_items (Some s) = map new_item (reverse s.stack)

items_agree : (o : Outline) (s t : TypeState) → state_fits o s t ≡ true → state_fits o t s ≡ true → new_items (Some s) ≡ new_items (Some t)
items_agree o s t up down =
    sym (reverse-map new_item s.stack)
    ∙ ap reverse (new_items_same o s.stack t.stack (stack_fits o s t up) (stack_fits o t s down))
    ∙ reverse-map new_item t.stack

-- the one at a depth
abbrev item_in : List (Option ℕ) → ℕ → Option ℕ
item_in items depth = option_and_then (λ (o : Option ℕ). o) (slice_get items depth)

item_of_word : (words : List slots.Slot) (depth : ℕ) → option_and_then new_item (slice_get words depth) ≡ item_in (map new_item words) depth
item_of_word [] depth = refl
item_of_word (s ∷ words) zero = refl
item_of_word (s ∷ words) (suc depth) = item_of_word words depth

item_of_state : (o : Option TypeState) (depth : ℕ)
    → option_and_then new_item (option_and_then (λ (s : TypeState). slice_get (reverse s.stack) depth) o) ≡ item_in (new_items o) depth
item_of_state None depth = refl
item_of_state (Some s) depth = item_of_word (reverse s.stack) depth

-- ---- tests

-- a reference at first is an end
end_there : (given : List slots.Slot) (k : ℕ) → is_reference (slice_index_or given k slot.Top) ≡ true
    → IsSomeAnd (slice_get given k) (λ s. is_reference s ≡ true)
end_there [] k holds = absurd (false≢true holds)
end_there (s ∷ given) zero holds = holds
end_there (s ∷ given) (suc k) holds = end_there given k holds

any_same : (test other : ℕ → Bool) (xs : List ℕ) → ((x : ℕ) → Contains xs x → test x ≡ other x) → list_any test xs ≡ list_any other xs
any_same test other [] same = refl
any_same test other (x ∷ xs) same =
    (λ k. same x (Contains-first x xs) k || any_same test other xs (λ y found. same y (Contains-later x xs y found)) k)

result_there : (o : Option Kind) → refers o ≡ true → IsSomeAnd o (λ k. is_reference_kind k ≡ true)
result_there None holds = absurd (false≢true holds)
result_there (Some k) holds = holds

-- ---- holders

-- the numbers, from one on, of the elements that pass a test, rising
abbrev numbers_by : (ℕ → Bool) → ℕ → List ℕ → List ℕ
numbers_by test number [] = []
numbers_by test number (x ∷ xs) = let rest = numbers_by test (number + 1) xs in cond (test x) (number ∷ rest) rest

numbers_of-map : (test : Holder → Bool) (to : ℕ → Holder) (n : ℕ) (sites : List ℕ) → numbers_of test n (map to sites) ≡ numbers_by (λ s. test (to s)) n sites
numbers_of-map test to n [] = refl
numbers_of-map test to n (s ∷ sites) = ap (λ ks. cond (test (to s)) (n ∷ ks) ks) (numbers_of-map test to (n + 1) sites)

unnumbered_holders : (class : ℕ → ℕ) (sites : List ℕ) → map unnumbered (map (made class) sites) ≡ map (made (λ s. 0)) sites
unnumbered_holders class [] = refl
unnumbered_holders class (s ∷ sites) = ap (λ (hs : List Holder). made (λ s. 0) s ∷ hs) (unnumbered_holders class sites)

-- the plan, if there are sites
abbrev planned : Insertions → List ℕ → Option Insertions
planned plan [] = None
planned plan (s ∷ sites) = Some plan

plain_full : (facts : Facts) (x : TypedMethod) (sites : List ℕ) → option_map plain (full_of facts x sites) ≡ planned (plain (all_insertions facts x)) sites
plain_full facts x [] = refl
plain_full facts x (s ∷ sites) = refl

-- ---- links

module _ (p : Program) (f g : Facts) (first : AreLeastFacts p f) (second : AreLeastFacts p g) where
  links_up : (m : ℕ) (a b : End2) → Linked p f.typing m a b → Linked p g.typing m a b
  links_up m a b linked = (linked.0, linked_kept p f.typing g.typing first.least second.least linked.0 m a b linked.1)

  links_down : (m : ℕ) (a b : End2) → Linked p g.typing m a b → Linked p f.typing m a b
  links_down m a b linked = (linked.0, linked_kept p g.typing f.typing second.least first.least linked.0 m a b linked.1)

  linked_same : (m : ℕ) (a b : End2) → IsEnd p.outline m a → IsEnd p.outline m b → f.linked m a b ≡ g.linked m a b
  linked_same m a b one other =
      same_test (f.linked m a b) (g.linked m a b)
      (λ is. (second.exact.linked m a b one other).1 (links_up m a b ((first.exact.linked m a b one other).0 is)))
      (λ is. (first.exact.linked m a b one other).1 (links_down m a b ((second.exact.linked m a b one other).0 is)))

  old_same : (m : ℕ) → refers (result_of p.outline m) ≡ true → may_give_old p.outline f m ≡ may_give_old p.outline g m
  old_same m result =
      let returned : IsEnd p.outline m end.Return = result_there (result_of p.outline m) result in
      let parameters : list_any (λ n. f.linked m end.Return (end.Parameter n)) (reference_parameters p.outline m)
      ≡ list_any (λ n. g.linked m end.Return (end.Parameter n)) (reference_parameters p.outline m) =
      any_same (λ n. f.linked m end.Return (end.Parameter n)) (λ n. g.linked m end.Return (end.Parameter n)) (reference_parameters p.outline m)
      (λ n found. linked_same m end.Return (end.Parameter n) returned (end_there (entry_slots p.outline m) n (parameter_listed p.outline m n found))) in
      (λ k. linked_same m end.Return end.Global returned tt k || parameters k)

  -- whatever a call that gives a reference leads to gives one
  targets_same : (called : Call) → refers (result_of p.outline called.method.0) ≡ true
      → list_any (may_give_old p.outline f) (targets p called) ≡ list_any (may_give_old p.outline g) (targets p called)
  targets_same called result =
      any_same (may_give_old p.outline f) (may_give_old p.outline g) (targets p called)
      (λ target found.
      old_same target
      (ap (λ descriptor. refers (result_kind p.outline.classes descriptor)) (target_alike p called target found).descriptor ∙ result))

  -- the same of a method that may be called
  called_same : (m : ℕ) (code : Code) (o : Option Call)
      → receives_new f (typed_method p f.typing m code) o ≡ receives_new g (typed_method p g.typing m code) o
  called_same m code None = refl
  called_same m code (Some called) = by_result (refers (result_of p.outline called.method.0)) refl where
    by_result : (b : Bool) → refers (result_of p.outline called.method.0) ≡ b
        → ((b && nat_lt 0 (length (targets p called))) && not (list_any (may_give_old p.outline f) (targets p called)))
        ≡ ((b && nat_lt 0 (length (targets p called))) && not (list_any (may_give_old p.outline g) (targets p called)))
    by_result false is = refl
    by_result true is = λ k. nat_lt 0 (length (targets p called)) && not (targets_same called is k)

-- ---- a method

module _ (p : Program) (f g : Facts) (first : AreLeastFacts p f) (second : AreLeastFacts p g) (m : ℕ) (code : Code) (coded : code_at p m ≡ Some code) where
  abbrev x : TypedMethod
  x = typed_method p f.typing m code

  abbrev y : TypedMethod
  y = typed_method p g.typing m code

  one : AreFactsOf p f m code
  one = first.exact.methods m code coded

  two : AreFactsOf p g m code
  two = second.exact.methods m code coded

  there : AreAlike (f.typing m) (g.typing m)
  there = least_alike p m (f.typing m) (g.typing m) (first.least m code coded) (second.least m code coded)

  back : AreAlike (g.typing m) (f.typing m)
  back = least_alike p m (g.typing m) (f.typing m) (second.least m code coded) (first.least m code coded)

  depths : (j : ℕ) → depth_at x j ≡ depth_at y j
  depths = depth_same p m code (f.typing m) (g.typing m) there

  class_same : (a b : Node) → nat_eq (f.class m a) (f.class m b) ≡ nat_eq (g.class m a) (g.class m b)
  class_same a b =
      same_test (nat_eq (f.class m a) (f.class m b)) (nat_eq (g.class m a) (g.class m b))
      (λ is.
      eq-eqb (g.class m a) (g.class m b)
      ((two.class a b).1
      (joined_kept p m code (f.typing m) (g.typing m) there (Linked p f.typing) (Linked p g.typing) (links_up p f g first second) a b
      ((one.class a b).0 (eqb-true (f.class m a) (f.class m b) is)))))
      (λ is.
      eq-eqb (f.class m a) (f.class m b)
      ((one.class a b).1
      (joined_kept p m code (g.typing m) (f.typing m) back (Linked p g.typing) (Linked p f.typing) (links_down p f g first second) a b
      ((two.class a b).0 (eqb-true (g.class m a) (g.class m b) is)))))

  live_same : (local item : ℕ) → f.live m local item ≡ g.live m local item
  live_same local item =
      same_test (f.live m local item) (g.live m local item) (λ is. (two.live local item).1 ((one.live local item).0 is))
      (λ is. (one.live local item).1 ((two.live local item).0 is))

  reached_same : (j : ℕ) → is_some (state_at (f.typing m) j) ≡ is_some (state_at (g.typing m) j)
  reached_same =
      told_same (λ (o : Option TypeState). is_some o) p m (f.typing m) (g.typing m) (λ s t up down. refl) (first.least m code coded) (second.least m code coded)

  -- ---- sites

  item_same : (j depth : ℕ) → new_item_at x j depth ≡ new_item_at y j depth
  item_same j depth =
      item_of_state (state_at (f.typing m) j) depth
      ∙ ap (λ items. item_in items depth)
      (told_same new_items p m (f.typing m) (g.typing m) (items_agree p.outline) (first.least m code coded) (second.least m code coded) j)
      ∙ sym (item_of_state (state_at (g.typing m) j) depth)

  doubled_same : (j depth : ℕ) → is_doubled x j depth ≡ is_doubled y j depth
  doubled_same j zero = refl
  doubled_same j (suc below) = λ k. same_number (item_same j (suc below) k) (item_same j below k)

  constructs_same : (j : ℕ) (i : Insn) → constructs x j i ≡ constructs y j i
  constructs_same j (insn.Special index) =
      ap (λ b. names_constructor p.outline (use_at x (insn.Special index)) && b)
      (ap (is_doubled x j) (below_same p m code (f.typing m) (g.typing m) there j (insn.Special index))
      ∙ doubled_same j (depth_below y j (insn.Special index)))
  constructs_same j i = refl

  receives_same : (i : Insn) → receives_new f x (call_of x i) ≡ receives_new g y (call_of y i)
  receives_same i =
      called_same p f g first second m code (call_of x i) ∙ ap (receives_new g y) (calls_same p m code (f.typing m) (g.typing m) there i)

  kind_same : (j : ℕ) (i : Insn) → kind_of_site f x j i ≡ kind_of_site g y j i
  kind_same j i =
      λ k. cond (makes_array i) (Some MakesArray)
      (cond (constructs_same j i k) (Some Constructs) (cond (receives_same i k) (Some ReceivesNew) None))

  site_same : (j : ℕ) → site_kind f x j ≡ site_kind g y j
  site_same j = λ k. cond (reached_same j k) (option_and_then (λ i. kind_same j i k) (insn_of code j)) None

  pub node_same : (j : ℕ) → site_node x j ≡ site_node y j
  node_same j = ap (λ d. Slot (j + 1) (d - 1)) (depths (j + 1))

  captured_same : (n : Node) → is_captured f x (f.class m n) ≡ is_captured g y (g.class m n)
  captured_same n =
      λ k. (not (class_same Global n k) && not (class_same Return n k))
      && not (list_any (λ local. class_same (Local local) n k) (reference_parameters p.outline m))

  pub captured_site_same : (j : ℕ) → is_captured_site f x j ≡ is_captured_site g y j
  captured_site_same j =
      let class : is_captured f x (site_class f x j) ≡ is_captured g y (site_class g y j) =
      captured_same (site_node x j) ∙ ap (λ n. is_captured g y (g.class m n)) (node_same j) in
      (λ k. is_some (site_same j k) && class k)

  held_same : held_sites f x ≡ held_sites g y
  held_same =
      λ k. cond (nat_lt MAX_HOLDING_STACK_WORDS code.max_stack) []
      (take (MAX_LOCAL_WORDS - code.max_locals) (filter (λ j. captured_site_same j k) (range_with_len 0 (length code.items))))

  -- ---- places

  reference_same : (j depth : ℕ) → is_reference_word (word_at x j depth) ≡ is_reference_word (word_at y j depth)
  reference_same j depth =
      same_test (is_reference_word (word_at x j depth)) (is_reference_word (word_at y j depth))
      (λ is. node-word (word_at y j depth) (node_kept p m code (f.typing m) (g.typing m) there (Slot j depth) (word-node (word_at x j depth) is)))
      (λ is. node-word (word_at x j depth) (node_kept p m code (g.typing m) (f.typing m) back (Slot j depth) (word-node (word_at y j depth) is)))

  pub busy_same : (n : Node) (j : ℕ) → is_busy f x (f.class m n) j ≡ is_busy g y (g.class m n) j
  busy_same n j =
      λ k. reached_same j k
      && (list_any (λ depth. reference_same j depth k && class_same (Slot j depth) n k) (range_with_len 0 (depths j k))
      || list_any (λ local. live_same local j k && class_same (Local local) n k) (range_with_len 0 code.max_locals))

  leads_same : (n : Node) (edges j last : ℕ) → leads_busily f x (f.class m n) edges j last ≡ leads_busily g y (g.class m n) edges j last
  leads_same n zero j last = refl
  leads_same n (suc edges) j last =
      λ k. nat_eq j last || (busy_same n j k && list_any (λ next. leads_same n edges next last k) (edges_listed code j))

  place_same : (site : ℕ) (n : Node) (j : ℕ) → is_place f x site (f.class m n) j ≡ is_place g y site (g.class m n) j
  place_same site n j = λ k. not (busy_same n j k) && leads_same n (length code.items) (site + 1) j k

  site_place_same : (site j : ℕ) → is_place f x site (site_class f x site) j ≡ is_place g y site (site_class g y site) j
  site_place_same site j = place_same site (site_node x site) j ∙ ap (λ n. is_place g y site (g.class m n) j) (node_same site)

  -- ---- insertions

  freed_same : (j : ℕ)
      → numbers_of (λ h. is_place f x h.site h.class j) 0 (map (made (site_class f x)) (held_sites f x))
      ≡ numbers_of (λ h. is_place g y h.site h.class j) 0 (map (made (site_class g y)) (held_sites g y))
  freed_same j =
      numbers_of-map (λ h. is_place f x h.site h.class j) (made (site_class f x)) 0 (held_sites f x)
      ∙ (λ k. numbers_by (λ site. site_place_same site j k) 0 (held_same k))
      ∙ sym (numbers_of-map (λ h. is_place g y h.site h.class j) (made (site_class g y)) 0 (held_sites g y))

  holders_same : map unnumbered (map (made (site_class f x)) (held_sites f x)) ≡ map unnumbered (map (made (site_class g y)) (held_sites g y))
  holders_same =
      unnumbered_holders (site_class f x) (held_sites f x) ∙ ap (map (made (λ s. 0))) held_same ∙ sym (unnumbered_holders (site_class g y) (held_sites g y))

  plain_same : plain (all_insertions f x) ≡ plain (all_insertions g y)
  plain_same = λ k. record { holders = holders_same k; before = map (λ j. freed_same j k) (range_with_len 0 (length code.items)) }

  full_same : option_map plain (full_insertions f x) ≡ option_map plain (full_insertions g y)
  full_same =
      plain_full f x (held_sites f x) ∙ (λ k. planned (plain_same k) (held_same k)) ∙ sym (plain_full g y (held_sites g y))

-- ---- all methods

pub plans_same : (p : Program) (f g : Facts) → AreLeastFacts p f → AreLeastFacts p g → (method : ℕ) → plains (full_plans p f) method ≡ plains (full_plans p g) method
plans_same p f g first second method = by_code (code_at p method) refl where
  by_code : (o : Option Code) → code_at p method ≡ o
      → option_map plain (option_and_then (full_insertions f) (option_map (typed_method p f.typing method) o))
      ≡ option_map plain (option_and_then (full_insertions g) (option_map (typed_method p g.typing method) o))
  by_code None none = refl
  by_code (Some code) coded = full_same p f g first second method code coded
