-- A method with safe insertions is typed again, and so are all methods of classes with such.
use Rattle.std.proofs.Common.{◌≡◌, ◌≢◌, refl, sym, ◌∙◌, ap, subst, ℕ, zero, suc, ◌+◌, ◌<◌, ◌≤◌, ◌==◌, ◌⊎◌, inl, inr, Bool, true, false, cond, List, [], ◌∷◌, length, map, Option, Some, None, is_some, option_and_then, option_map, Contains, slice_get, ⊎_elim, arith}
use Rattle.std.specs.Prelude.{if◌then◌else◌}
use Rattle.std.specs.List.{AllByRecursion}
use Rattle.std.proofs.lemmas.Bool.{cases_eq, cases_lt, eqb-true, false≢true}
use Rattle.std.proofs.lemmas.List.{get_or_past, length-map}
use Rattle.std.proofs.lemmas.Option.{none-some, same_Some, slice_get_within}
use Rattle.fm_link_supers.proofs.ParentRefusals.{spelled_at}
use Rattle.fm_law_relinked.proofs.Codes.{codes_chained, no_code}
use Rattle.fm_law_relinked.proofs.FreeUse.{called_use, ClassTypesAreNumbered, has_free, HasFree}
use Rattle.fm_law_spelled.proofs.Growing.{chain_in, grows}
use Rattle.fm_law_relinked.proofs.Links.{written_chained}
use Rattle.fm_law_spelled.specs.Calling.{FreeMeMethod, CallsChain, CallsFree, CallsLink, entry_of, MayCall}
use Rattle.fm_law_relinked.specs.Codes.{code_with}
use Rattle.fm_base.proofs.ContainsFacts.{Contains-cons_cases, Contains-none}
use Rattle.fm_base.proofs.ListFacts.{AllByRecursion-at}
use Rattle.fm_base.proofs.OptionFacts.{IsSomeAnd-from_some, option_map-some, same_value, Some-from_some_and}
use Rattle.fm_base.proofs.TestFacts.{and_left}
use Rattle.fm_base.specs.declared.ids.MethodId.{MethodId}
use Rattle.fm_base.specs.declared.ids.TypeId.{TypeId}
use Rattle.fm_base.specs.declared.kinds.TypeRef.{TypeRef}
use Rattle.fm_chain.proofs.LoopedPlans.{ArePlannedSafely, looped_from, looped_holder, looped_safely, planned_safely}
use Rattle.fm_chain.specs.Chained.{chained_code, holds_chain, looped_at}
use Rattle.fm_chain.specs.Chaining.{chained_class, chained_classes, class_calls, class_has_chain, plan_has_chain}
use Rattle.fm_chain.specs.SafeChains.{looped_plans, SafeChainsOf}
use Rattle.fm_chain.specs.declared.calls.Calls.{Calls}
use Rattle.fm_code.proofs.EdgesLemmas.{Contains-first, Contains-from_map, Contains-later, insn_inside, MeetsCodeRules-method}
use Rattle.fm_code.specs.AccessFlags.{is_static}
use Rattle.fm_code.specs.Edges.{falls_through, insn_of, MeetsCodeRules}
use Rattle.fm_code.specs.Spells.{HasSpelling}
use Rattle.fm_code.specs.SpellsCode.{LocalsFit}
use Rattle.fm_code.specs.declared.class_file.ClassDef.{ClassDef}
use Rattle.fm_code.specs.declared.code_array.Code.{Code}
use Rattle.fm_code.specs.declared.code_array.Handler.{Handler}
use Rattle.fm_code.specs.declared.code_array.Item.{Item}
use Rattle.fm_code.specs.declared.instructions.Insn.{Insn}
use Rattle.fm_code.specs.declared.instructions.Insn.TheVariants as insn
use Rattle.fm_conn.specs.Facts.{AreFacts, Facts}
use Rattle.fm_conn.specs.Links.{typed_method}
use Rattle.fm_conn.specs.Nodes.{TypedMethod}
use Rattle.fm_conn.specs.Pairs.{depth_below}
use Rattle.fm_law_woven_flow.specs.Laws.{CodesStand, HasRoles}
use Rattle.fm_law_woven_flow.specs.Roles.{CanStand, FreeBefore, HasInsn, IsOpposite, IsRetargeted, Keep, LinkAfter}
use Rattle.fm_place.proofs.FullLemmas.{numbers-found}
use Rattle.fm_place.proofs.SameTypings.{made_same, other_typing, same_typing, used_same}
use Rattle.fm_place.specs.Insertions.{after_at, before_at, Holder, Insertions}
use Rattle.fm_place.specs.Rewriting.{Plans}
use Rattle.fm_place.specs.Safe.{AreSafe, IsSafeHolder, method_in_facts, narrowed_to, SafeOf}
use Rattle.fm_place.specs.Sites.{is_captured, kind_of_site, new_item_at, site_class, site_kind}
use Rattle.fm_law_linked.proofs.CodedMethods.{contains_at}
use Rattle.fm_law_linked.specs.Laws.{IsLinkedWell, ProgramsAreLinkedWell, StepsAreLinked, StepsOfProgramsAreLinked}
use Rattle.fm_law_retyped.proofs.FreeMeRows.{chain_row, free_row, link_row}
use Rattle.fm_law_retyped.proofs.KeptRows.{same_row}
use Rattle.fm_law_retyped.proofs.Retypes.{retyped}
use Rattle.fm_law_retyped.proofs.RoleStates.{AllGoOn, CanRetype, Frees, given_slot, held_slot, held_slots, IsHeld, Links, Retyping, role_states}
use Rattle.fm_law_retyped.proofs.SiteStates.{IsSameAt, leaves-if, LeavesObject, site-gives}
use Rattle.fm_law_retyped.proofs.Trims.{all_trimmed, length_trimmed, locals_at, trimmed_at, trimmed_row, trimmed_twice, typings_trimmed}
use Rattle.fm_law_retyped.proofs.WrittenMethods.{HasMember, IsWritten, written_method}
use Rattle.fm_law_retyped.proofs.WrittenUses.{called, handler_use, insn_use, outlines_same, program_outline, used_by_item}
use Rattle.fm_law_retyped.specs.Retyped.{AreNoCopies, AreReadyAtHeld, ChainedClassesAreTyped, EndsBehind, NoneUnready, receiver_new, SafeClassesAreTyped}
use Rattle.fm_law_retyped.proofs.Trimmed.{trimmed, trimmed_state}
use Rattle.fm_types.specs.Fits.{AreTree, object_of}
use Rattle.fm_types.specs.Named.{object_slot}
use Rattle.fm_types.specs.Rows.{row_after}
use Rattle.fm_types.specs.States.{local_at, pushed, TypeState}
use Rattle.fm_types.specs.Typed.{after_item, IsTyping, IsTypingOf, made_at, state_at, Typed, use_by, use_in}
use Rattle.fm_types.specs.declared.slots.Slot.{Slot}
use Rattle.fm_types.specs.declared.slots.Slot.TheVariants as slot
use Rattle.fm_world.specs.Members.{method_at}
use Rattle.fm_world.specs.Numbers.{type_of_class}
use Rattle.fm_world.specs.Programs.{code_at, Outline, outline_of, Program, program_of}
use Rattle.fm_code.specs.Operands.{pool_index}
use Rattle.fm_world.specs.declared.uses.Use.TheVariants as resolved
use Rattle.fm_same.proofs.SiteNodes.{sites-fall}

-- ---- lists

contained_mapped : (moved : Handler → Handler) (handlers : List Handler) (h : Handler) → Contains handlers h → Contains (map moved handlers) (moved h)
contained_mapped moved [] h (k, inside, there) = absurd (omega (arith, inside))
contained_mapped moved (x ∷ handlers) h (zero, inside, there) = Contains-first (moved x) (map moved handlers) (moved h) (ap moved (sym there))
contained_mapped moved (x ∷ handlers) h (suc k, inside, there) =
    Contains-later (moved x) (map moved handlers) (moved h) (contained_mapped moved handlers h (k, omega (arith, inside), there))

-- ---- the types of holders

-- the type of the reference on top, where there is one
abbrev top_of : List Slot → TypeRef
top_of (slot.Ref t ∷ stack) = t
top_of stack = type_of_class 0

abbrev top_type : Option TypeState → TypeRef
top_type None = type_of_class 0
top_type (Some s) = top_of s.stack

held_of : (type : Holder → TypeRef) (holders : List Holder) (h : ℕ) (holder : Holder) → slice_get holders h ≡ Some holder
    → local_at (held_slots (map type holders)) h ≡ slot.Ref (type holder)
held_of type [] h holder at = absurd (none-some holder at)
held_of type (g ∷ holders) zero holder at = ap (λ (x : Holder). slot.Ref (type x)) (same_Some g holder at)
held_of type (g ∷ holders) (suc h) holder at = held_of type holders h holder at

holder_there : (holders : List Holder) (h : ℕ) → h < length holders → (holder : Holder) × (slice_get holders h ≡ Some holder)
holder_there [] h within = absurd (omega (arith, within))
holder_there (g ∷ holders) zero within = (g, refl)
holder_there (g ∷ holders) (suc h) within = holder_there holders h (omega (arith, within))

-- ---- sites

-- an item that is a site has an instruction of that kind
record IsSiteAt (facts : Facts) (x : TypedMethod) (j : ℕ) : Type 0 where
  i : Insn
  there : insn_of x.code j ≡ Some i
  kind_some : is_some (kind_of_site facts x j i) ≡ true
  same : site_kind facts x j ≡ kind_of_site facts x j i

site_at : (facts : Facts) (x : TypedMethod) (j : ℕ) → is_some (site_kind facts x j) ≡ true → IsSiteAt facts x j
site_at facts x j is = by_state (is_some (state_at x.states j)) refl is where
  by_insn : is_some (state_at x.states j) ≡ true → (found : Option Insn) → insn_of x.code j ≡ found
      → is_some (option_and_then (kind_of_site facts x j) found) ≡ true → IsSiteAt facts x j
  by_insn so None there some = absurd (false≢true some)
  by_insn so (Some i) there some = record {
    i = i;
    there = there;
    kind_some = some;
    same = λ k. cond (so k) (option_and_then (kind_of_site facts x j) (there k)) None;
  }

  by_state : (b : Bool) → is_some (state_at x.states j) ≡ b → is_some (cond b (option_and_then (kind_of_site facts x j) (insn_of x.code j)) None) ≡ true
      → IsSiteAt facts x j
  by_state true so some = by_insn so (insn_of x.code j) refl some
  by_state false so some = absurd (false≢true some)

-- the same of equal states
carried : (Same : Type 0) (s t after other : TypeState) → s ≡ t → after ≡ other → LeavesObject Same s after → LeavesObject Same t other
carried Same s t after other first second g = subst (LeavesObject Same t) second (subst (λ z. LeavesObject Same z after) first g)

-- a handler's range ends right behind an item
abbrev OneEnds : List Handler → ℕ → Type 0
OneEnds handlers j = (handler : Handler) × Contains handlers handler × EndsBehind j handler

-- one does, or all go on
one_ends : (handlers : List Handler) (j : ℕ) → OneEnds handlers j ⊎ AllGoOn handlers j
one_ends [] j = inr (λ handler there. absurd (Contains-none handler there))
one_ends (first ∷ handlers) j = by_rest (one_ends handlers j) where
  with_first : ((first.start ≤ j) → (j < first.end) → j + 1 < first.end) → AllGoOn handlers j → AllGoOn (first ∷ handlers) j
  with_first own rest handler there start within =
      ⊎_elim (λ (same : handler ≡ first).
      subst (λ (z : Handler). j + 1 < z.end) (sym same) (own (subst (λ (z : Handler). z.start ≤ j) same start) (subst (λ (z : Handler). j < z.end) same within)))
      (λ later. rest handler later start within) (Contains-cons_cases first handlers handler there)

  by_place : (first.end ≢ j + 1) → (j + 1 < first.end) ⊎ (first.end ≤ j + 1) → j < first.end → j + 1 < first.end
  by_place other (inl more) within = more
  by_place other (inr past) within = absurd (other (omega (arith, past, within)))

  by_end : AllGoOn handlers j → (j < first.start) ⊎ (first.start ≤ j) → (first.end ≡ j + 1) ⊎ (first.end ≢ j + 1)
      → OneEnds (first ∷ handlers) j ⊎ AllGoOn (first ∷ handlers) j
  by_end rest (inl before) end = inr (with_first (λ start within. absurd (omega (arith, start, before))) rest)
  by_end rest (inr start) (inl end) = inl (first, Contains-first first handlers first refl, (start, end))
  by_end rest (inr start) (inr other) = inr (with_first (λ start within. by_place other (cases_lt (j + 1) first.end) within) rest)

  by_rest : OneEnds handlers j ⊎ AllGoOn handlers j → OneEnds (first ∷ handlers) j ⊎ AllGoOn (first ∷ handlers) j
  by_rest (inl (handler, there, ends)) = inl (handler, Contains-later first handlers handler there, ends)
  by_rest (inr rest) = by_end rest (cases_lt j first.start) (cases_eq first.end (j + 1))

-- ---- holders

-- a holder that is named after an item, with its site
pub record IsHolder (facts : Facts) (t : TypedMethod) (plan : Insertions) (j h : ℕ) : Type 0 where
  pub holder : Holder
  pub at : slice_get plan.holders h ≡ Some holder
  pub site_is : holder.site ≡ j
  pub some : is_some (site_kind facts t j) ≡ true

pub holder_after : (facts : Facts) (t : TypedMethod) (plan : Insertions) → AreSafe facts t plan → (j h : ℕ) → Contains (after_at plan j) h
    → IsHolder facts t plan j h
holder_after facts t plan safe j h there =
    let n = numbers-found (λ (g : Holder). g.site == j) 0 plan.holders h there in
    let number : n.place ≡ h = let is = n.number in omega (arith, is) in
    let site_is : n.holder.site ≡ j = eqb-true n.holder.site j n.passes in
    let one = AllByRecursion-at (IsSafeHolder facts t) plan.holders n.place n.holder safe.holders n.there in
    record {
      holder = n.holder;
      at = ap (slice_get plan.holders) (sym number) ∙ n.there;
      site_is = site_is;
      some = ap (λ k. is_some (site_kind facts t k)) (sym site_is)
          ∙ and_left (is_some (site_kind facts t n.holder.site)) (is_captured facts t (site_class facts t n.holder.site)) one.captured;
    }

-- what is inserted safely can be
pub safe_can : (facts : Facts) (t : TypedMethod) (plan : Insertions) → AreSafe facts t plan → CanStand t.code plan
safe_can facts t plan safe = record {
  some = safe.some;
  goes_on = λ j h there.
      let site = site_at facts t j (holder_after facts t plan safe j h there).some in
      IsSomeAnd-from_some (insn_of t.code j) (λ i. falls_through i ≡ true) site.i site.there (sites-fall facts t j site.i site.kind_some);
}

-- ---- a method

module _ (numbered : ClassTypesAreNumbered) (stand : CodesStand) (given : List ClassDef) (main : List ℕ) (plans : Plans) (spelled : AllByRecursion HasSpelling given)
    (linked : IsLinkedWell (program_of given main)) (steps : StepsAreLinked (program_of given main)) (made : Option (List Bool)) (facts : Facts)
    (exact : AreFacts (narrowed_to (program_of given main) made) facts) (method : ℕ) (code : Code)
    (code_is : code_at (program_of given main) method ≡ Some code) where
  -- the program in which the insertions are safe
  abbrev p : Program
  p = narrowed_to (program_of given main) made

  x : IsWritten given main plans method code
  x = written_method given main plans method code code_is

  outline : (program_of (chained_classes plans given) main).outline ≡ (program_of given main).outline
  outline = outlines_same given main plans spelled

  typing : IsTypingOf (program_of given main) method code (facts.typing method)
  typing = other_typing p (program_of given main) refl refl method code (facts.typing method) (exact.methods method code code_is).typing

  -- its new code is among the methods of the written class
  member_of : (new : Code) → code_at (program_of (chained_classes plans given) main) method ≡ Some new
      → HasMember (chained_class plans x.start x.own).methods (Some new)
  member_of new new_is = record { member = x.new.member; among = x.new.among; code_is = x.new.code_is ∙ new_is }

  -- without a plan it is typed as it was
  unplanned : plans method ≡ None → IsTyping (program_of (chained_classes plans given) main) method (facts.typing method)
  unplanned none =
      let new_is : code_at (program_of (chained_classes plans given) main) method ≡ Some code =
      x.new_is ∙ ap (λ o. code_with (class_calls plans x.start x.own) o (Some code)) none in
      let member = member_of code new_is in
      IsSomeAnd-from_some (code_at (program_of (chained_classes plans given) main) method)
      (λ c. IsTypingOf (program_of (chained_classes plans given) main) method c (facts.typing method)) code new_is
      (same_typing (program_of given main) (program_of (chained_classes plans given) main) method code outline
      (λ j i at. insn_use numbered given main plans spelled method code x i i j j code refl at member at)
      (λ h listed. handler_use numbered given main plans spelled method code x h h code refl listed member listed) (facts.typing method) typing)

  -- ---- with a plan

  module _ (plan : Insertions) (planned : plans method ≡ Some plan)
      (safe : AreSafe facts (typed_method (narrowed_to (program_of given main) made) facts.typing method code) plan)
      (ready : AreReadyAtHeld facts (typed_method (narrowed_to (program_of given main) made) facts.typing method code) plan) where
    abbrev t : TypedMethod
    t = typed_method p facts.typing method code

    abbrev calls : Calls
    calls = class_calls plans x.start x.own

    -- where a holder holds a chain the class may call the other methods
    may_chain : (h : ℕ) → looped_at plan h ≡ true → class_has_chain plans x.start x.own ≡ true
    may_chain h looped =
        (grows plans x.start x.own).chained x.offset x.inside
        (ap plan_has_chain (ap plans x.number ∙ planned) ∙ chain_in plan.holders h looped)

    abbrev new : Code
    new = chained_code (class_calls plans x.start x.own) code plan

    new_is : code_at (program_of (chained_classes plans given) main) method ≡ Some (chained_code (class_calls plans x.start x.own) code plan)
    new_is = x.new_is ∙ ap (λ o. code_with (class_calls plans x.start x.own) o (Some code)) planned

    member : HasMember (chained_class plans x.start x.own).methods (Some (chained_code (class_calls plans x.start x.own) code plan))
    member = member_of (chained_code (class_calls plans x.start x.own) code plan) new_is

    rules : MeetsCodeRules code
    rules = MeetsCodeRules-method x.own x.old.member code (spelled_at given x.place x.own spelled x.at) x.old.among x.old.code_is

    fit : AllByRecursion (λ (item : Item). LocalsFit code.max_locals item.insn) code.items
    fit = (rules.1).locals

    abbrev states : List (Option TypeState)
    states = all_trimmed (facts.typing method)

    can : CanStand code plan
    can = safe_can facts t plan safe

    roles : HasRoles (class_calls plans x.start x.own) code plan
    roles = stand (class_calls plans x.start x.own) code plan rules can

    -- the type of a holder's objects: what the site's row leaves on top
    abbrev type_of : Holder → TypeRef
    type_of h = top_type (option_and_then (after_item (program_of given main) method code h.site) (state_at (all_trimmed (facts.typing method)) h.site))

    -- the type of what a holder holds: of a chain's objects it is Object
    abbrev type_by : Bool → Holder → TypeRef
    type_by true h = type_of_class (object_of (program_of given main).outline.classes)
    type_by false h = type_of h

    abbrev w : Retyping
    w = record {
      given = program_of given main;
      written = program_of (chained_classes plans given) main;
      method = method;
      calls = class_calls plans x.start x.own;
      code = code;
      plan = plan;
      woven = chained_code (class_calls plans x.start x.own) code plan;
      states = all_trimmed (facts.typing method);
      types = map (λ (h : Holder). type_by h.looped h) plan.holders;
      gives = map type_of plan.holders;
      roles = roles.roles;
      numbers = roles.numbers;
      moved = roles.moved;
    }

    -- ---- what a site gives

    no_static : (j : ℕ) (i : Insn) → insn_of code j ≡ Some i → (index : ℕ) (m : MethodId) (n : TypeId) → i ≡ insn.Special index
        → use_by (program_of given main) method (insn.Special index) ≡ resolved.OfMethod m n
        → is_static (method_at (program_of given main).outline.classes m.0).method.flags ≡ false
    no_static j i there index m n is used =
        linked.calls method (insn.Special index) m n false
        (record { code = code; code_is = code_is; item = j; insn_is = there ∙ ap Some is; use_is = used }) refl

    gives : (j h : ℕ) → IsHolder facts t plan j h → (s after : TypeState) → state_at (facts.typing method) j ≡ Some s
        → after_item (program_of given main) method code j s ≡ Some after → LeavesObject (OneEnds code.handlers j) s after
    gives j h holder s after at is =
        let site = site_at facts t j holder.some in
        let i = site.i in
        let row = ap (λ u. row_after (program_of given main).outline method j (made_at (program_of given main) method code) u i s)
        (used_same (program_of given main) p refl refl method i)
        ∙ sym (ap (option_and_then (λ k.
        row_after (program_of given main).outline method j (made_at (program_of given main) method code) (use_by (program_of given main) method k) k s)) site.there) ∙ is in
        leaves-if (IsSameAt facts t j (made_at (program_of given main) method code) s after steps.constructors i) (OneEnds code.handlers j) s after
        (λ one kind.
        subst (λ (new : Option ℕ). AreNoCopies new s.locals)
        (ap (receiver_new t) holder.site_is ∙ ap (option_and_then (λ (k : Insn). new_item_at t j (depth_below t j k))) site.there)
        (ready holder.holder s one.0 (contains_at plan.holders h holder.holder holder.at) (ap (site_kind facts t) holder.site_is ∙ site.same ∙ kind)
        (ap (state_at (facts.typing method)) holder.site_is ∙ at) one.1 (subst (λ k. EndsBehind k one.0) (sym holder.site_is) one.2)))
        (site-gives facts t j (made_at (program_of given main) method code) s after steps.constructors i site.kind_some at (no_static j i site.there) row)

    -- the same where states are trimmed
    gives_trimmed : (j h : ℕ) → IsHolder facts t plan j h → (s after : TypeState) → state_at (all_trimmed (facts.typing method)) j ≡ Some s
        → after_item (program_of given main) method code j s ≡ Some after → LeavesObject (OneEnds code.handlers j) s after
    gives_trimmed j h holder s after at is =
        let found = option_map-some trimmed_state (state_at (facts.typing method) j) s (sym (trimmed_at (facts.typing method) j) ∙ at) in
        let first = found.0 in
        let meets = typing.items j first found.1 in
        let row = Some-from_some_and (after_item (program_of given main) method code j first) _ meets.row in
        let r = trimmed_row (program_of given main) linked.tree method code j first row.0
        (λ i there. subst (λ n. LocalsFit n i) (sym meets.locals) (locals_at code fit j i there)) row.1 in
        let g = gives j h holder first r.after found.1 r.is in
        let other_is : after_item (program_of given main) method code j s ≡ Some r.other =
        subst (λ z. after_item (program_of given main) method code j z ≡ Some r.other) found.2 r.other_is in
        let same : r.other ≡ after = same_value (after_item (program_of given main) method code j s) r.other after other_is is in
        carried (OneEnds code.handlers j) (trimmed_state first) s r.other after found.2 same (leaves first r.after r.other g r.leaves) where
          leaves : (s after other : TypeState) → LeavesObject (OneEnds code.handlers j) s after
              → (other ≡ trimmed_state after) ⊎ ((other ≡ after) × (trimmed s.locals ≡ s.locals))
              → LeavesObject (OneEnds code.handlers j) (trimmed_state s) other
          leaves s after other g (inl is) = record {
            type = g.type;
            rest = g.rest;
            top = ap (λ (z : TypeState). z.stack) is ∙ g.top;
            count = ap (λ (z : TypeState). length z.locals) is ∙ length_trimmed after.locals ∙ g.count ∙ sym (length_trimmed s.locals);
            short = λ short.
                ap (λ (z : TypeState). trimmed z.locals) is ∙ trimmed_twice after.locals ∙ sym (ap (λ (z : TypeState). z.locals) is);
            locals = λ one. ap (λ (z : TypeState). z.locals) is ∙ ap trimmed (g.locals one);
            built = ap (λ (z : TypeState). z.built) is ∙ g.built;
          }
          leaves s after other g (inr (is, same)) = record {
            type = g.type;
            rest = g.rest;
            top = ap (λ (z : TypeState). z.stack) is ∙ g.top;
            count = ap (λ (z : TypeState). length z.locals) is ∙ g.count ∙ sym (length_trimmed s.locals);
            short = λ short. ap (λ (z : TypeState). trimmed z.locals) is ∙ g.short same ∙ sym (ap (λ (z : TypeState). z.locals) is);
            locals = λ one. ap (λ (z : TypeState). z.locals) is ∙ g.locals one ∙ sym same;
            built = ap (λ (z : TypeState). z.built) is ∙ g.built;
          }

    short_at : (j : ℕ) (s : TypeState) → state_at (all_trimmed (facts.typing method)) j ≡ Some s → trimmed s.locals ≡ s.locals
    short_at j s at =
        let found = option_map-some trimmed_state (state_at (facts.typing method) j) s (sym (trimmed_at (facts.typing method) j) ∙ at) in
        subst (λ (z : TypeState). trimmed z.locals ≡ z.locals) found.2 (trimmed_twice found.0.locals)

    held : (j h : ℕ) (s after : TypeState) → Contains (after_at plan j) h → state_at (all_trimmed (facts.typing method)) j ≡ Some s
        → after_item (program_of given main) method code j s ≡ Some after → IsHeld w j h s after
    held j h s after there at is =
        let holder = holder_after facts t plan safe j h there in
        let g = gives_trimmed j h holder s after at is in
        let row = after_item (program_of given main) method code in
        let type_is : type_of holder.holder ≡ g.type =
        ap (λ k. top_type (option_and_then (row k) (state_at (all_trimmed (facts.typing method)) k))) holder.site_is
        ∙ ap top_type (ap (option_and_then (row j)) at ∙ is) ∙ ap top_of g.top in
        record {
          rest = g.rest;
          top = g.top ∙ ap (λ z. z ∷ g.rest) (sym (held_of type_of plan.holders h holder.holder holder.at ∙ ap slot.Ref type_is));
          count = g.count;
          short = g.short (short_at j s at);
          locals = ⊎_elim (λ one. inl (g.locals one)) inr (one_ends code.handlers j);
          built = g.built;
        }

    -- ---- what is named

    uses : (j : ℕ) (i : Insn) → insn_of code j ≡ Some i
        → use_by (program_of (chained_classes plans given) main) method i ≡ use_by (program_of given main) method i
    uses j i there =
        let stands = roles.stands in
        let within = insn_inside code j i there in
        let kept = Some-from_some_and (insn_of new (roles.numbers j)) (HasInsn calls code plan (Keep j)) (stands.insns (roles.numbers j) (Keep j) (stands.numbered j within)) in
        let old = Some-from_some_and (insn_of code j) (λ k. IsRetargeted k kept.0 ⊎ IsOpposite k kept.0) kept.2 in
        let same : old.0 ≡ i = same_value (insn_of code j) old.0 i old.1 there in
        insn_use numbered given main plans spelled method code x i kept.0 j (roles.numbers j) new
        ((same_row old.0 kept.0 old.2).operand ∙ ap pool_index same) there member kept.1

    -- the entry of the method that frees what a holder holds
    abbrev free_call : Bool → ℕ
    free_call looped = if looped then calls.free_chain else calls.free

    tree : AreTree (outline_of given main).classes
    tree = subst (λ (o : Outline). AreTree o.classes) (program_outline given main) linked.tree

    has : HasFree (outline_of given main)
    has = has_free numbered given main

    -- an inserted call is resolved to its method
    resolved_call : (n : ℕ) (m : FreeMeMethod) → MayCall (class_has_chain plans x.start x.own) m → insn_of new n ≡ Some (insn.Static (entry_of calls m))
        → use_in (program_of (chained_classes plans given) main) method (entry_of calls m) ≡ called_use m
    resolved_call n m may there =
        called numbered given main plans spelled method code x m may
        (used_by_item (chained_class plans x.start x.own) new member n (insn.Static (entry_of calls m)) (entry_of calls m) there refl)

    -- so its row is that of the method
    call_row : (n : ℕ) (m : FreeMeMethod) → MayCall (class_has_chain plans x.start x.own) m → insn_of new n ≡ Some (insn.Static (entry_of calls m))
        → (item : ℕ) (news : ℕ → Option TypeRef) (s : TypeState)
        → row_after (program_of given main).outline method item news
        (use_by (program_of (chained_classes plans given) main) method (insn.Static (entry_of calls m))) (insn.Static (entry_of calls m)) s
        ≡ row_after (outline_of given main) method item news (called_use m) (insn.Static (entry_of calls m)) s
    call_row n m may there item news s =
        ap (λ u. row_after (program_of given main).outline method item news u (insn.Static (entry_of calls m)) s) (resolved_call n m may there)
        ∙ ap (λ (o : Outline). row_after o method item news (called_use m) (insn.Static (entry_of calls m)) s) (program_outline given main)

    frees : (n j h : ℕ) → slice_get roles.roles n ≡ Some (FreeBefore j h) → Frees w (if looped_at plan h then calls.free_chain else calls.free)
    frees n j h there = by_flag (looped_at plan h) refl where
      found : (i : Insn) × (insn_of new n ≡ Some i) × HasInsn calls code plan (FreeBefore j h) i
      found = Some-from_some_and (insn_of new n) (HasInsn calls code plan (FreeBefore j h)) (roles.stands.insns n (FreeBefore j h) there)

      at : (b : Bool) → looped_at plan h ≡ b → insn_of new n ≡ Some (insn.Static (free_call b))
      at b is = found.1 ∙ ap Some (found.2 ∙ ap (λ looped. insn.Static (free_call looped)) is)

      by_flag : (b : Bool) → looped_at plan h ≡ b → Frees w (free_call b)
      by_flag true is item news r s =
          call_row n CallsChain (may_chain h is) (at true is) item news (pushed (slot.Ref r ∷ []) s)
          ∙ chain_row given main tree has method item news calls.free_chain r s
      by_flag false is item news r s =
          call_row n CallsFree tt (at false is) item news (pushed (slot.Ref r ∷ []) s)
          ∙ free_row given main tree has method item news calls.free r s

    links : (n j h : ℕ) → slice_get roles.roles n ≡ Some (LinkAfter j h) → Links w
    links n j h there item news a b s =
        let found = Some-from_some_and (insn_of new n) (HasInsn calls code plan (LinkAfter j h)) (roles.stands.insns n (LinkAfter j h) there) in
        let looped = (roles.stands.holders n (LinkAfter j h) there).1 in
        call_row n CallsLink (may_chain h looped) (found.1 ∙ ap Some found.2) item news (pushed (slot.Ref a ∷ slot.Ref b ∷ []) s)
        ∙ link_row given main tree has method item news calls.link a b s
        ∙ ap (λ (o : Outline). Some (pushed (object_slot o ∷ []) s)) (sym (program_outline given main))

    -- ---- what holders hold

    held_by : (h : ℕ) (holder : Holder) → slice_get plan.holders h ≡ Some holder → held_slot w h ≡ slot.Ref (type_by (looped_at plan h) holder)
    held_by h holder at =
        held_of (λ (g : Holder). type_by g.looped g) plan.holders h holder at ∙ ap (λ b. slot.Ref (type_by b holder)) (sym (ap holds_chain at))

    plain_slot : (h : ℕ) → h < length plan.holders → looped_at plan h ≡ false → held_slot w h ≡ given_slot w h
    plain_slot h within is =
        let found = holder_there plan.holders h within in
        held_by h found.0 found.1 ∙ ap (λ b. slot.Ref (type_by b found.0)) is ∙ sym (held_of type_of plan.holders h found.0 found.1)

    chain_slot : (h : ℕ) → h < length plan.holders → looped_at plan h ≡ true → held_slot w h ≡ object_slot (program_of given main).outline
    chain_slot h within is =
        let found = holder_there plan.holders h within in held_by h found.0 found.1 ∙ ap (λ b. slot.Ref (type_by b found.0)) is

    before : (j h : ℕ) → Contains (before_at plan j) h → h < length plan.holders
    before j h there = by_place (cases_lt j (length code.items)) where
      by_place : (j < length code.items) ⊎ (length code.items ≤ j) → h < length plan.holders
      by_place (inl within) =
          let may = (safe.items j within).may h there in slice_get_within plan.holders h may.holder may.is
      by_place (inr past) =
          let count = safe.one_each in
          absurd (Contains-none h (subst (λ l. Contains l h) (get_or_past plan.before j [] (omega (arith, past, count))) there))

    can_retype : CanRetype w
    can_retype = record {
      tree = linked.tree;
      outline = outline;
      typing = typings_trimmed (program_of given main) linked.tree method code (facts.typing method) fit typing;
      fit = fit;
      short = short_at;
      can = can;
      stands = roles.stands;
      more_locals = refl;
      more_stack = refl;
      uses = λ j i s there at. uses j i there;
      made = λ j i there. made_same (program_of given main) (program_of (chained_classes plans given) main) method outline i (uses j i there);
      caught = λ h listed.
          handler_use numbered given main plans spelled method code x h (roles.moved h) new (roles.stands.catch_class h) listed member
          (subst (λ l. Contains l (roles.moved h)) (sym roles.stands.handlers_are) (contained_mapped roles.moved code.handlers h listed));
      frees = frees;
      links = links;
      counted = length-map plan.holders (λ (h : Holder). type_by h.looped h);
      given_counted = length-map plan.holders type_of;
      plain = plain_slot;
      chained = chain_slot;
      before = before;
      after = λ j h there. let holder = holder_after facts t plan safe j h there in slice_get_within plan.holders h holder.holder holder.at;
      held = held;
    }

    planned_typed : IsTyping (program_of (chained_classes plans given) main) method (role_states w)
    planned_typed =
        IsSomeAnd-from_some (code_at (program_of (chained_classes plans given) main) method)
        (λ c. IsTypingOf (program_of (chained_classes plans given) main) method c (role_states w)) new new_is (retyped w can_retype)

-- ---- all methods

-- where the insertions are safe in the program narrowed to some classes, or to none, whichever holders hold chains
typed_in : ClassTypesAreNumbered → CodesStand → (given : List ClassDef) (main : List ℕ) → IsLinkedWell (program_of given main) → StepsAreLinked (program_of given main)
    → AllByRecursion HasSpelling given → (made : Option (List Bool)) (facts : Facts) → AreFacts (narrowed_to (program_of given main) made) facts
    → (plans : Plans) → ArePlannedSafely (narrowed_to (program_of given main) made) facts plans → NoneUnready (narrowed_to (program_of given main) made) facts plans
    → (written : List ClassDef) → written ≡ chained_classes plans given
    → (method : ℕ) (new : Code) → code_at (program_of written main) method ≡ Some new → Typed (program_of written main) method
typed_in numbered stand given main linked steps spelled made facts exact plans safe ready written written_is method new new_is =
    subst (λ files. Typed (program_of files main) method) (sym written_is)
    (by_code (code_at (program_of given main) method) refl (subst (λ files. code_at (program_of files main) method ≡ Some new) written_is new_is)) where
      by_plan : (code : Code) (is : code_at (program_of given main) method ≡ Some code) → (plan : Option Insertions) → plans method ≡ plan
          → Typed (program_of (chained_classes plans given) main) method
      by_plan code is None so = (facts.typing method, unplanned numbered stand given main plans spelled linked steps made facts exact method code is so)
      by_plan code is (Some plan) so =
          let p = narrowed_to (program_of given main) made in
          let typed = typed_method p facts.typing method code in
          let there : method_in_facts p facts method ≡ Some typed = ap (option_map (typed_method p facts.typing method)) is in (
            _,
            planned_typed numbered stand given main plans spelled linked steps made facts exact method code is plan so (safe method code plan is so)
                (ready method plan typed so there),
          )

      by_code : (old : Option Code) → code_at (program_of given main) method ≡ old → code_at (program_of (chained_classes plans given) main) method ≡ Some new
          → Typed (program_of (chained_classes plans given) main) method
      by_code None is there =
          let woven = codes_chained given main plans method in
          absurd (none-some new (sym (woven.new_is ∙ ap (code_with woven.calls (plans method)) is ∙ no_code woven.calls (plans method)) ∙ there))
      by_code (Some code) is there = by_plan code is (plans method) refl

pub safe_typed : ClassTypesAreNumbered → CodesStand → ProgramsAreLinkedWell → StepsOfProgramsAreLinked → SafeClassesAreTyped
safe_typed numbered stand links linked_steps given main p program_is written marks spelled none safe ready method new new_is =
    subst (λ (z : Program). (safe : SafeOf z given written marks) → NoneUnready z safe.facts safe.plans → Typed (program_of written main) method) (sym program_is)
    (λ own own_ready.
    let first = narrowed_to (program_of given main) p.made in
    typed_in numbered stand given main (links given main spelled none) (linked_steps given main spelled none) spelled p.made own.facts own.exact own.plans
    (planned_safely first own.facts own.plans own.methods) own_ready written (written_chained first given written marks own) method new new_is) safe ready

-- ---- where holders hold chains

-- their sites are those of the holders of single objects
ready_looped : (p : Program) (facts : Facts) (plans : Plans) → NoneUnready p facts plans → NoneUnready p facts (looped_plans p plans)
ready_looped p facts plans ready method plan x so there h s handler among kind at caught ends =
    let coded = option_map-some (typed_method p facts.typing method) (code_at p method) x there in
    let from = looped_from p plans method coded.0 plan coded.1 so in
    let own = Contains-from_map (looped_holder coded.0) from.own.holders h (subst (λ (q : Insertions). Contains q.holders h) (sym from.is) among) in
    let site : own.0.site ≡ h.site = ap (λ (g : Holder). g.site) own.2 in
    subst (λ k. AreNoCopies (receiver_new x k) s.locals) site
    (ready method from.own x from.planned there own.0 s handler own.1 (ap (site_kind facts x) site ∙ kind) (ap (state_at x.states) site ∙ at) caught
    (subst (λ k. EndsBehind k handler) (sym site) ends))

pub chained_typed : ClassTypesAreNumbered → CodesStand → ProgramsAreLinkedWell → StepsOfProgramsAreLinked → ChainedClassesAreTyped
chained_typed numbered stand links linked_steps given main p program_is written marks spelled none safe ready method new new_is =
    subst (λ (z : Program). (safe : SafeChainsOf z given written marks) → NoneUnready z safe.facts safe.plans → Typed (program_of written main) method)
    (sym program_is)
    (λ own own_ready.
    let first = narrowed_to (program_of given main) p.made in
    typed_in numbered stand given main (links given main spelled none) (linked_steps given main spelled none) spelled p.made own.facts own.exact
    (looped_plans first own.plans) (looped_safely first own.facts own.plans (planned_safely first own.facts own.plans own.methods))
    (ready_looped first own.facts own.plans own_ready) written own.written_is method new new_is) safe ready
