-- A typing of code stays one in another program of the same outline, where names refer to the same.
use Rattle.std.proofs.Common.{◌≡◌, refl, sym, ◌∙◌, ap, cond, subst, ℕ, List, [], ◌∷◌, Option, Some, None, option_and_then, IsSomeAnd, Contains, true, slice_index_or}
use Rattle.std.specs.Prelude.{◌==◌}
use Rattle.std.specs.List.{AllByRecursion}
use Rattle.fm_base.proofs.OptionFacts.{IsSomeAnd-from_some, Some-from_some_and}
use Rattle.fm_base.specs.declared.kinds.TypeRef.{TypeRef}
use Rattle.fm_code.proofs.EdgesLemmas.{Contains-first, Contains-later}
use Rattle.fm_code.specs.Edges.{insn_of, IsNormalEdge}
use Rattle.fm_code.specs.Operands.{pool_index}
use Rattle.fm_code.specs.declared.code_array.Code.{Code}
use Rattle.fm_code.specs.declared.code_array.Handler.{Handler}
use Rattle.fm_code.specs.declared.instructions.Insn.{Insn}
use Rattle.fm_code.specs.declared.instructions.Insn.TheVariants as insn
use Rattle.fm_types.specs.Fits.{fits_type}
use Rattle.fm_types.specs.Named.{class_of_method, throwable_type}
use Rattle.fm_types.specs.Rows.{row_after}
use Rattle.fm_types.specs.States.{state_fits, TypeState}
use Rattle.fm_types.specs.Typed.{after_item, caught_type, entry_state, FitsAt, FitsHandler, handler_state, IsTypingOf, made_at, MeetsItem, state_at, type_of_use, use_by, use_in}
use Rattle.fm_world.specs.Programs.{Outline, Program}
use Rattle.fm_world.specs.declared.uses.Use.{Use}
use Rattle.fm_world.specs.declared.uses.Use.TheVariants as resolved

-- ---- what is caught

abbrev below_throwable : Outline → TypeRef → Option TypeRef
below_throwable o t = cond (fits_type o.classes t (throwable_type o)) (Some t) None

pub caught_same : (p q : Program) (method : ℕ) (h other : Handler) → q.outline ≡ p.outline → other.catch_class ≡ h.catch_class
    → use_in q method h.catch_class ≡ use_in p method h.catch_class → caught_type q method other ≡ caught_type p method h
unfolding caught_type
caught_same p q method h other outline class used =
    ap (λ c. cond (c == 0) (Some (throwable_type q.outline)) (option_and_then (below_throwable q.outline) (type_of_use q.outline (use_in q method c)))) class
    ∙ (λ k. cond (h.catch_class == 0) (Some (throwable_type (outline k))) (option_and_then (below_throwable (outline k)) (type_of_use (outline k) (used k))))

-- ---- what is made

-- the type of which an instruction makes an object, if it is a `new`
abbrev pub made_by : Program → ℕ → Insn → Option TypeRef
made_by p method (insn.New index) = type_of_use p.outline (use_in p method index)
made_by p method i = None

-- what a `new` makes follows from what it names
pub made_same : (p q : Program) (method : ℕ) → q.outline ≡ p.outline → (i : Insn) → use_by q method i ≡ use_by p method i
    → made_by q method i ≡ made_by p method i
made_same p q method outline (insn.New index) used = λ k. type_of_use (outline k) (used k)
made_same p q method outline i used = refl

each_with : (P Q : Handler → Type 0) (handlers : List Handler) → ((h : Handler) → Contains handlers h → P h → Q h) → AllByRecursion P handlers
    → AllByRecursion Q handlers
each_with P Q [] implies all = tt
each_with P Q (h ∷ handlers) implies all =
    (implies h (Contains-first h handlers h refl) all.0, each_with P Q handlers (λ g there. implies g (Contains-later h handlers g there)) all.1)

module _ (p q : Program) (method : ℕ) (code : Code) (outline : q.outline ≡ p.outline)
    (uses : (j : ℕ) (i : Insn) → insn_of code j ≡ Some i → use_by q method i ≡ use_by p method i)
    (caught : (h : Handler) → Contains code.handlers h → use_in q method h.catch_class ≡ use_in p method h.catch_class) where
  news_same : (n : ℕ) → made_at q method code n ≡ made_at p method code n
  news_same n = by_insn (insn_of code n) refl where
    by_insn : (found : Option Insn) → insn_of code n ≡ found → option_and_then (made_by q method) found ≡ option_and_then (made_by p method) found
    by_insn None there = refl
    by_insn (Some i) there = made_same p q method outline i (uses n i there)

  after_same : (j : ℕ) (s : TypeState) → after_item q method code j s ≡ after_item p method code j s
  after_same j s = by_insn (insn_of code j) refl where
    row : Program → Insn → Option TypeState
    row r i = row_after r.outline method j (made_at r method code) (use_by r method i) i s

    by_insn : (found : Option Insn) → insn_of code j ≡ found → option_and_then (row q) found ≡ option_and_then (row p) found
    by_insn None there = refl
    by_insn (Some i) there = λ k. row_after (outline k) method j (λ n. news_same n k) (uses j i there k) i s

  module _ (states : List (Option TypeState)) where
    fits_other : (j : ℕ) (brought : TypeState) → FitsAt p states j brought → FitsAt q states j brought
    fits_other j brought fit = subst (λ (o : Outline). IsSomeAnd (state_at states j) (λ s. state_fits o brought s ≡ true)) (sym outline) fit

    handler_other : (j : ℕ) (s : TypeState) (h : Handler) → Contains code.handlers h → FitsHandler p method states j s h → FitsHandler q method states j s h
    handler_other j s h listed fit catches =
        let found = Some-from_some_and (caught_type p method h) (λ t. FitsAt p states h.handler (handler_state t s)) (fit catches) in
        IsSomeAnd-from_some (caught_type q method h) (λ t. FitsAt q states h.handler (handler_state t s)) found.0
        (caught_same p q method h h outline refl (caught h listed) ∙ found.1) (fits_other h.handler (handler_state found.0 s) found.2)

    meets_other : (j : ℕ) (s : TypeState) → MeetsItem p method code states j s → MeetsItem q method code states j s
    meets_other j s meets =
        let row = Some-from_some_and (after_item p method code j s) (λ after. (next : ℕ) → IsNormalEdge code j next → FitsAt p states next after) meets.row in
        record {
          locals = meets.locals;
          stack = meets.stack;
          whole = meets.whole;
          row = IsSomeAnd-from_some (after_item q method code j s) (λ after. (next : ℕ) → IsNormalEdge code j next → FitsAt q states next after) row.0
              (after_same j s ∙ row.1) (λ next edge. fits_other next row.0 (row.2 next edge));
          handlers = each_with (FitsHandler p method states j s) (FitsHandler q method states j s) code.handlers (handler_other j s) meets.handlers;
        }

    pub same_typing : IsTypingOf p method code states → IsTypingOf q method code states
    same_typing typing = record {
      one_each = typing.one_each;
      reachable = typing.reachable;
      stays_inside = typing.stays_inside;
      first = typing.first ∙ (λ k. Some (entry_state (sym outline k) method code));
      items = λ j s at. meets_other j s (typing.items j s at);
    }

-- ---- programs of the same outline and uses

module _ (p q : Program) (outline : q.outline ≡ p.outline) (uses : q.uses ≡ p.uses) (method : ℕ) where
  -- an index refers to the same
  pub index_same : (index : ℕ) → use_in q method index ≡ use_in p method index
  index_same index = λ k. slice_index_or (slice_index_or (uses k) (class_of_method (outline k) method) []) index resolved.Unused

  abbrev used_at : Program → Option ℕ → Use
  used_at r None = resolved.Unused
  used_at r (Some index) = use_in r method index

  -- and so does an instruction
  pub used_same : (i : Insn) → use_by q method i ≡ use_by p method i
  used_same i = by_index (pool_index i) where
    by_index : (index : Option ℕ) → used_at q index ≡ used_at p index
    by_index None = refl
    by_index (Some index) = index_same index

  -- a typing of the one is one of the other
  pub other_typing : (code : Code) (states : List (Option TypeState)) → IsTypingOf p method code states → IsTypingOf q method code states
  other_typing code states typing =
      same_typing p q method code outline (λ j i there. used_same i) (λ h listed. index_same h.catch_class) states typing
