-- The slots of holders, and the first state with them.
use Rattle.std.proofs.Common.{◌≡◌, refl, sym, ◌∙◌, ap, ℕ, zero, suc, ◌+◌, ◌-◌, ◌<◌, ◌≤◌, Bool, true, false, not, cond, List, [], ◌∷◌, ◌++◌, length, length-append, map, replicate, set, None, option_map, append_assoc, zero-add, arith}
use Rattle.std.specs.List.{AllByRecursion, AllZip, flat_map}
use Rattle.std.proofs.lemmas.List.{length-map, length-replicate, map-append}
use Rattle.std.proofs.lemmas.Option.{slice_get_past}
use Rattle.fm_law_relinked.specs.Rows.{IsReady, slot_with}
use Rattle.fm_base.specs.declared.kinds.Kind.{Kind}
use Rattle.fm_base.specs.declared.kinds.Kind.TheVariants as kind
use Rattle.fm_base.specs.declared.kinds.TypeRef.{TypeRef}
use Rattle.fm_code.specs.AccessFlags.{is_static}
use Rattle.fm_code.specs.Edges.{insn_of}
use Rattle.fm_code.specs.declared.code_array.Code.{Code}
use Rattle.fm_code.specs.declared.code_array.Item.{Item}
use Rattle.fm_law_retyped.proofs.HolderRows.{IsShort}
use Rattle.fm_law_retyped.proofs.RoleStates.{begun, held_slots}
use Rattle.fm_law_retyped.proofs.Trimmed.{trimmed}
use Rattle.fm_types.proofs.Order.{fits-refl}
use Rattle.fm_types.proofs.StateOrder.{Fitting}
use Rattle.fm_types.proofs.Zips.{zip-refl}
use Rattle.fm_types.specs.CallRows.{is_constructor}
use Rattle.fm_types.specs.Fits.{AreTree, fits}
use Rattle.fm_types.specs.Named.{parameters_of, this_class}
use Rattle.fm_types.specs.States.{local_at, local_slots}
use Rattle.fm_types.specs.Typed.{entry_slots, entry_state, receiver_slots}
use Rattle.fm_types.specs.declared.slots.Slot.{Slot}
use Rattle.fm_types.specs.declared.slots.Slot.TheVariants as slot
use Rattle.fm_world.specs.Members.{method_at}
use Rattle.fm_world.specs.Numbers.{type_of_class}
use Rattle.fm_world.specs.Programs.{Outline}

-- ---- what holders hold

pub held_each : (P : Slot → Type 0) → ((t : TypeRef) → P (slot.Ref t)) → (types : List TypeRef) → AllByRecursion P (held_slots types)
held_each P each [] = tt
held_each P each (t ∷ types) = (each t, held_each P each types)

pub held_ready : (types : List TypeRef) → AllByRecursion IsReady (held_slots types)
held_ready types = held_each IsReady (λ t. tt) types

pub held_short : (types : List TypeRef) → AllByRecursion IsShort (held_slots types)
held_short types = held_each IsShort (λ t. refl) types

pub held_count : (types : List TypeRef) → length (held_slots types) ≡ length types
held_count types = length-map types (λ t. slot.Ref t)

pub held_is : (types : List TypeRef) (h : ℕ) → h < length types → (t : TypeRef) × (local_at (held_slots types) h ≡ slot.Ref t)
held_is [] h within = absurd (omega (arith, within))
held_is (t ∷ types) zero within = (t, refl)
held_is (t ∷ types) (suc h) within = held_is types h (omega (arith, within))

-- ---- trimmed locals, and instructions

pub trimmed_still : (numbers : ℕ → ℕ) (locals : List Slot) → trimmed locals ≡ locals → trimmed (map (slot_with numbers) locals) ≡ map (slot_with numbers) locals
trimmed_still numbers locals same = each locals ∙ ap (map (slot_with numbers)) same where
  each : (locals : List Slot) → trimmed (map (slot_with numbers) locals) ≡ map (slot_with numbers) (trimmed locals)
  each [] = refl
  each (slot.Top ∷ []) = refl
  each (slot.Int ∷ []) = refl
  each (slot.Long ∷ []) = refl
  each (slot.Null ∷ []) = refl
  each (slot.Ref t ∷ []) = refl
  each (slot.Uninit item ∷ []) = refl
  each (slot.UninitThis ∷ []) = refl
  each (s ∷ t ∷ locals) = ap (λ l. slot_with numbers s ∷ l) (each (t ∷ locals))

pub no_insn : (code : Code) (j : ℕ) → length code.items ≤ j → insn_of code j ≡ None
no_insn code j past = ap (option_map (λ (item : Item). item.insn)) (slice_get_past code.items j past)

-- ---- begun

pub begun_count : (h : ℕ) (types : List TypeRef) → length (begun h types) ≡ length types
begun_count h [] = refl
begun_count zero (t ∷ types) = ap suc (begun_count zero types)
begun_count (suc h) (t ∷ types) = ap suc (begun_count h types)

pub begun_short : (h : ℕ) (types : List TypeRef) → AllByRecursion IsShort (begun h types)
begun_short h [] = tt
begun_short zero (t ∷ types) = (refl, begun_short zero types)
begun_short (suc h) (t ∷ types) = (refl, begun_short h types)

pub begun_none : (types : List TypeRef) → begun 0 types ≡ replicate (length types) slot.Top
begun_none [] = refl
begun_none (t ∷ types) = ap (λ l. slot.Top ∷ l) (begun_none types)

pub begun_all : (h : ℕ) (types : List TypeRef) → h ≡ length types → begun h types ≡ held_slots types
begun_all h [] is = refl
begun_all zero (t ∷ types) is = absurd (omega (arith, is))
begun_all (suc h) (t ∷ types) is = ap (λ l. slot.Ref t ∷ l) (begun_all h types (omega (arith, is)))

module _ (o : Outline) (tree : AreTree o.classes) where
  null_fits : (t : TypeRef) → Fitting o slot.Null (slot.Ref t)
  unfolding fits
  null_fits t = refl

  same_fits : (slots : List Slot) → AllZip (Fitting o) slots slots
  same_fits slots = zip-refl (Fitting o) (fits-refl o tree) slots

  -- a holder that is null now holds something
  pub begun_more : (h : ℕ) (types : List TypeRef) → h < length types → AllZip (Fitting o) (set (begun h types) h slot.Null) (begun (suc h) types)
  begun_more h [] within = absurd (omega (arith, within))
  begun_more zero (t ∷ types) within = (null_fits t, same_fits (begun zero types))
  begun_more (suc h) (t ∷ types) within = (fits-refl o tree (slot.Ref t), begun_more h types (omega (arith, within)))

  pub held_nulled : (h : ℕ) (types : List TypeRef) → h < length types → AllZip (Fitting o) (set (held_slots types) h slot.Null) (held_slots types)
  held_nulled h [] within = absurd (omega (arith, within))
  held_nulled zero (t ∷ types) within = (null_fits t, same_fits (held_slots types))
  held_nulled (suc h) (t ∷ types) within = (fits-refl o tree (slot.Ref t), held_nulled h types (omega (arith, within)))

-- ---- the first state

module _ (numbers : ℕ → ℕ) where
  abbrev other : Slot → Slot
  other = slot_with numbers

  abbrev Same : List Slot → Type 0
  Same slots = map other slots ≡ slots

  joined : (xs ys : List Slot) → Same xs → Same ys → Same (xs ++ ys)
  joined xs ys first second = map-append other xs ys ∙ (λ k. first k ++ second k)

  kind_same : (k : Kind) → Same (local_slots k)
  kind_same kind.Boolean = refl
  kind_same kind.Byte = refl
  kind_same kind.Char = refl
  kind_same kind.Short = refl
  kind_same kind.Int = refl
  kind_same kind.Long = refl
  kind_same (kind.Ref t) = refl

  kinds_same : (kinds : List Kind) → Same (flat_map local_slots kinds)
  kinds_same [] = refl
  kinds_same (k ∷ kinds) = joined (local_slots k) (flat_map local_slots kinds) (kind_same k) (kinds_same kinds)

  tops_same : (n : ℕ) → Same (replicate n slot.Top)
  tops_same zero = refl
  tops_same (suc n) = ap (λ l. slot.Top ∷ l) (tops_same n)

  receiver_same : (o : Outline) (method : ℕ) → Same (receiver_slots o method)
  receiver_same o method = by_flags (is_static (method_at o.classes method).method.flags) (is_constructor o method) where
    by_flags : (s c : Bool) → Same (cond s [] (cond c (slot.UninitThis ∷ []) (slot.Ref (type_of_class (this_class o method)) ∷ [])))
    by_flags true c = refl
    by_flags false true = refl
    by_flags false false = refl

  -- it has no object of a `new`
  pub entry_same : (o : Outline) (method : ℕ) (code : Code) → Same (entry_state o method code).locals
  unfolding entry_state
  entry_same o method code =
      joined (entry_slots o method) (replicate (code.max_locals - length (entry_slots o method)) slot.Top)
      (joined (receiver_slots o method) (flat_map local_slots (parameters_of o method)) (receiver_same o method) (kinds_same (parameters_of o method)))
      (tops_same (code.max_locals - length (entry_slots o method)))

tops_joined : (m n : ℕ) → replicate m slot.Top ++ replicate n slot.Top ≡ replicate (m + n) slot.Top
tops_joined zero n = ap (λ k. replicate k slot.Top) (sym (zero-add n))
tops_joined (suc m) n =
    let number : suc (m + n) ≡ suc m + n = omega arith in
    ap (λ l. slot.Top ∷ l) (tops_joined m n) ∙ ap (λ k. replicate k slot.Top) number

-- the first state of code with more locals has Top behind
pub entry_more : (o : Outline) (method : ℕ) (code woven : Code) (more : ℕ) → woven.max_locals ≡ code.max_locals + more
    → length (entry_state o method code).locals ≡ code.max_locals
    → entry_state o method woven
    ≡ record {
      locals = (entry_state o method code).locals ++ replicate more slot.Top;
      stack = [];
      built = (entry_state o method code).built;
    }
unfolding entry_state
entry_more o method code woven more is count =
    let slots = entry_slots o method in
    let n = code.max_locals - length slots in
    let both : length slots + n ≡ code.max_locals =
    let parts = length-append slots (replicate n slot.Top) in let tops = length-replicate n slot.Top in omega (arith, parts, tops, count) in
    let rest : woven.max_locals - length slots ≡ n + more = omega (arith, is, both) in
    let locals : slots ++ replicate (woven.max_locals - length slots) slot.Top ≡ (slots ++ replicate n slot.Top) ++ replicate more slot.Top =
    ap (λ k. slots ++ replicate k slot.Top) rest ∙ ap (λ l. slots ++ l) (sym (tops_joined n more))
    ∙ sym (append_assoc slots (replicate n slot.Top) (replicate more slot.Top)) in
    λ k. record { locals = locals k; stack = []; built = not (is_constructor o method) }
