-- The rows of casts, athrow, returns and switches.
use Rattle.std.proofs.Common.{◌≡◌, ◌≢◌, ℕ, ◌+◌, ◌-◌, ◌<◌, true, false, List, [], ◌∷◌, length, Option, Some, None, codes, refl, sym, ◌∙◌, ap, subst, inl, slice_get, arith, ⊎_elim}
use Rattle.std.proofs.lemmas.Bool.{cases_eq, false≢true}
use Rattle.fm_base.proofs.OptionFacts.{cond-some_then, IsSomeAnd-from_some}
use Rattle.fm_base.specs.declared.kinds.Kind.{Kind}
use Rattle.fm_base.specs.declared.kinds.Kind.TheVariants as kind
use Rattle.fm_code.specs.Edges.{IsNormalEdge}
use Rattle.fm_code.specs.declared.instructions.Insn.{Insn}
use Rattle.fm_code.specs.declared.instructions.Insn.TheVariants as insn
use Rattle.fm_code.specs.declared.operations.Reg.{Reg}
use Rattle.fm_code.specs.declared.operations.Reg.TheVariants as reg
use Rattle.fm_conn.specs.Facts.{AreFacts, Facts}
use Rattle.fm_conn.specs.Nodes.{Global, IsNode, Return, Slot}
use Rattle.fm_conn.specs.Pairs.{IsEnd, StandsAt}
use Rattle.fm_conn.specs.declared.ends.End2.TheVariants as end
use Rattle.fm_conn.specs.Rows as pairs
use Rattle.fm_types.specs.CallRows.{return_row, returned_by, same_reg}
use Rattle.fm_types.specs.Fits.{fits}
use Rattle.fm_types.specs.Named.{result_of, throwable_type}
use Rattle.fm_types.specs.Rows.{row_after}
use Rattle.fm_types.specs.States.{is_reference, is_whole, stack_slots, taken, TypeState, worked}
use Rattle.fm_types.specs.declared.slots.Slot as slots
use Rattle.fm_types.specs.declared.slots.Slot.TheVariants as slot
use Rattle.fm_types.proofs.StateOrder.{long_below, whole-long}
use Rattle.fm_world.specs.Chains.{is_sub}
use Rattle.fm_world.specs.Programs.{Outline, Program}
use Rattle.fm_world.specs.declared.uses.Use.{Use}
use Rattle.fm_frames.specs.Effects.{Returns, going, words}
use Rattle.fm_frames.specs.JumpRows.{return_effect, throw_effect}
use Rattle.fm_frames.specs.ObjectRows.{cast_effect}
use Rattle.fm_frames.specs.Operands.{thrown}
use Rattle.fm_frames.specs.Sights.{Sight}
use Rattle.fm_frames.specs.States.{Frame}
use Rattle.fm_same.specs.Evenness.{word}
use Rattle.fm_law_sound.proofs.Cases.{by_held, by_if, by_object, by_on_type}
use Rattle.fm_same.proofs.EdgesKeep.{live_before}
use Rattle.fm_same.proofs.ItemFacts.{AtInsn, given_word, joined_class, point, row, stays_class, taken_word, x}
use Rattle.fm_same.proofs.MoveRows.{not_taken, row_gives}
use Rattle.fm_same.proofs.ObjectRows.{mapped_some, taken_top}
use Rattle.fm_same.proofs.PlainRows.{faulty_obeys, null_obeys, Owes, stuck_obeys, thrown_obeys}
use Rattle.fm_law_sound.proofs.JumpRows.{return_by, return_is}

module _ (p : Program) (facts : Facts) (exact : AreFacts p facts) (f : Frame) where
  -- ---- casts

  -- the word that is cast stays, and the pairs join it with itself
  cast_stays : (index : ℕ) (h : AtInsn p facts f (insn.Cast index)) (depth next : ℕ) → depth < length f.stack → IsNormalEdge h.code f.item next
      → IsNode (x p facts exact f (insn.Cast index) h) (Slot f.item depth) → IsNode (x p facts exact f (insn.Cast index) h) (Slot next depth)
      → facts.class f.method (Slot f.item depth) ≡ facts.class f.method (Slot next depth)
  unfolding pairs.words_taken pairs.joined_by
  cast_stays index h depth next lt edge first second =
      let i : Insn = insn.Cast index in
      ⊎_elim
      (λ (top : depth ≡ length f.stack - 1).
      let before : length f.stack - 1 - 0 ≡ depth = omega arith in
      let after : length f.stack - 1 + 0 ≡ depth = omega arith in
      joined_class p facts exact f i h (pairs.Taken 0) (pairs.Given 0) (Slot f.item depth) (Slot next depth) (0, omega arith, refl)
      (subst (λ d. StandsAt (x p facts exact f i h) f.item i (pairs.Taken 0) (Slot f.item d)) before (taken_word p facts exact f i h 0))
      (subst (λ d. StandsAt (x p facts exact f i h) f.item i (pairs.Given 0) (Slot next d)) after (given_word p facts exact f i h next 0 edge))
      first second)
      (λ (apart : depth ≢ length f.stack - 1). stays_class p facts exact f i h depth next (omega arith) edge first second)
      (cases_eq depth (length f.stack - 1))

  cast_words : (index : ℕ) (h : AtInsn p facts f (insn.Cast index)) → Owes p facts exact f (insn.Cast index) h (words 0 [])
  cast_words index h = record {
    home = 0;
    acts = tt;
    leads = refl;
    goes = λ next going edge. record {
      stays = λ depth lt first second. cast_stays index h depth next (omega arith) edge first second;
      gives = λ q s at node. absurd (cc);
      writes = tt;
      lives = λ k live unwritten.
          live_before p facts exact f.method h.code h.code_is f.item next k (insn.Cast index) h.insn_is (inl edge) refl live;
    };
    ends = tt;
  }

  pub cast_obeys : (index : ℕ) (h : AtInsn p facts f (insn.Cast index)) (u : Use) (s : List Sight)
      → Owes p facts exact f (insn.Cast index) h (cast_effect p.outline u s)
  unfolding cast_effect
  cast_obeys index h u s =
      let i : Insn = insn.Cast index in
      by_on_type (Owes p facts exact f i h) p.outline u _ (stuck_obeys p facts exact f i h)
      (λ n t is there. by_held (Owes p facts exact f i h) (words 0 []) s 0 _ (cast_words index h) (stuck_obeys p facts exact f i h)
      (faulty_obeys p facts exact f i h 0)
      (λ it seen. by_if (Owes p facts exact f i h) (is_sub p.outline.classes it.type t) (words 0 []) (thrown p.outline (codes "java/lang/ClassCastException"))
      (λ passes. cast_words index h)
      (λ fails. thrown_obeys p facts exact f i h (λ k. refl) (codes "java/lang/ClassCastException"))))

  -- ---- athrow

  pub throw_obeys : (h : AtInsn p facts f insn.Throw) (s : List Sight) → Owes p facts exact f insn.Throw h (throw_effect p.outline s)
  unfolding throw_effect pairs.joined_by
  throw_obeys h s =
      let i : Insn = insn.Throw in
      by_object (Owes p facts exact f i h) p.outline (throwable_type p.outline) s 0 _ (null_obeys p facts exact f i h (λ k. refl))
      (stuck_obeys p facts exact f i h) (faulty_obeys p facts exact f i h 0)
      (λ it seen fits_it. record {
        home = 0;
        acts = tt;
        leads = tt;
        goes = λ next going edge. absurd going;
        ends = (
          tt,
          λ node. joined_class p facts exact f i h (pairs.Taken 0) pairs.Outside (word (point p facts exact f i h) 0) Global (0, omega arith, refl)
              (taken_word p facts exact f i h 0) refl node tt,
          λ k. refl,
        );
      })

  -- ---- returns

  returns_with : (value : Option Reg) (h : AtInsn p facts f (insn.Return value)) (n : ℕ)
      → ((q : ℕ) → q < n → IsNode (x p facts exact f (insn.Return value) h) (word (point p facts exact f (insn.Return value) h) q)
      → (facts.class f.method (word (point p facts exact f (insn.Return value) h) q) ≡ facts.class f.method Return)
      × IsEnd p.outline f.method end.Return × (n ≡ 1))
      → Owes p facts exact f (insn.Return value) h (going 0 (Returns n))
  returns_with value h n evenly = record { home = 0; acts = tt; leads = tt; goes = λ next going edge. absurd going; ends = evenly }

pub record IsReturned (o : Outline) (method : ℕ) (r : Reg) (s : TypeState) : Type 0 where
  pub kind : Kind
  pub result : result_of o method ≡ Some kind
  pub same : same_reg r (returned_by kind) ≡ true
  pub rest : List slots.Slot
  pub stack : taken o (stack_slots (kind ∷ [])) s.stack ≡ Some rest

returned_case : (o : Outline) (method : ℕ) (r : Reg) (s after : TypeState) (result : Option Kind) → result_of o method ≡ result
    → return_by o s r result ≡ Some after → IsReturned o method r s
returned_case o method r s after None is h = absurd (cc)
returned_case o method r s after (Some k) is h =
    let parts = cond-some_then (same_reg r (returned_by k)) (worked o (stack_slots (k ∷ [])) [] s) after h in
    let rest = mapped_some _ (taken o (stack_slots (k ∷ [])) s.stack) after parts.1 in
    record { kind = k; result = is; same = parts.0; rest = rest.0; stack = rest.1 }

pub returned_from : (o : Outline) (method : ℕ) (r : Reg) (s after : TypeState) → return_row o method (Some r) s ≡ Some after → IsReturned o method r s
returned_from o method r s after h = returned_case o method r s after (result_of o method) refl (sym (return_is o method r s) ∙ h)

int_below : (o : Outline) (s : slots.Slot) → fits o s slot.Int ≡ true → is_reference s ≡ false
unfolding fits
int_below o slot.Int h = refl
int_below o s h = absurd (false≢true h)

int_top : (o : Outline) (stack rest : List slots.Slot) → taken o (slot.Int ∷ []) stack ≡ Some rest
    → (s : slots.Slot) × (slice_get stack 0 ≡ Some s) × (is_reference s ≡ false)
int_top o stack rest h =
    let top = taken_top o slot.Int [] stack rest h in (top.0, top.1, int_below o top.0 top.2)

-- an int on top, where the result is one
int_result : (o : Outline) (k : Kind) (stack rest : List slots.Slot) → same_reg reg.Int (returned_by k) ≡ true → taken o (stack_slots (k ∷ [])) stack ≡ Some rest
    → (s : slots.Slot) × (slice_get stack 0 ≡ Some s) × (is_reference s ≡ false)
int_result o kind.Long stack rest same h = absurd (false≢true same)
int_result o (kind.Ref t) stack rest same h = absurd (false≢true same)
int_result o k stack rest same h = int_top o stack rest h

long_top : (o : Outline) (stack rest : List slots.Slot) → taken o (slot.Top ∷ slot.Long ∷ []) stack ≡ Some rest → is_whole stack ≡ true
    → (slice_get stack 0 ≡ Some slot.Top) × (slice_get stack 1 ≡ Some slot.Long)
unfolding fits
long_top o [] rest h whole = absurd (cc)
long_top o (s ∷ []) rest h whole = absurd (cc)
long_top o (s ∷ t ∷ stack) rest h whole =
    let is : t ≡ slot.Long = long_below o t (cond-some_then (fits o t slot.Long) (Some stack) rest h).0 in
    let top : s ≡ slot.Top = (whole-long s stack (sym (ap (λ q. is_whole (s ∷ q ∷ stack)) is) ∙ whole)).0 in
    (ap Some top, ap Some is)

long_result : (o : Outline) (k : Kind) (stack rest : List slots.Slot) → same_reg reg.Long (returned_by k) ≡ true
    → taken o (stack_slots (k ∷ [])) stack ≡ Some rest → is_whole stack ≡ true
    → (slice_get stack 0 ≡ Some slot.Top) × (slice_get stack 1 ≡ Some slot.Long)
long_result o kind.Long stack rest same h whole = long_top o stack rest h whole
long_result o (kind.Ref t) stack rest same h whole = absurd (false≢true same)
long_result o k stack rest same h whole = absurd (false≢true same)

reference_result : (k : Kind) → same_reg reg.Ref (returned_by k) ≡ true → pairs.is_reference_kind k ≡ true
reference_result (kind.Ref t) same = refl
reference_result kind.Long same = absurd (false≢true same)
reference_result k same = absurd (false≢true same)

module _ (p : Program) (facts : Facts) (exact : AreFacts p facts) (f : Frame) where
  typed_return : (r : Reg) (h : AtInsn p facts f (insn.Return (Some r))) → IsReturned p.outline f.method r h.state
  unfolding row_after
  typed_return r h =
      let after = row_gives p facts exact f (insn.Return (Some r)) h (return_row p.outline f.method (Some r) h.state) (row p facts exact f (insn.Return (Some r)) h) in
      returned_from p.outline f.method r h.state after.0 after.1

  return_int : (h : AtInsn p facts f (insn.Return (Some reg.Int))) → Owes p facts exact f (insn.Return (Some reg.Int)) h (going 0 (Returns 1))
  return_int h =
      let i : Insn = insn.Return (Some reg.Int) in
      let t : IsReturned p.outline f.method reg.Int h.state = typed_return reg.Int h in
      let top : (s : slots.Slot) × (slice_get h.state.stack 0 ≡ Some s) × (is_reference s ≡ false) =
      int_result p.outline t.kind h.state.stack t.rest t.same t.stack in
      returns_with p facts exact f (Some reg.Int) h 1
      (λ q lt node.
      let zero_is : q ≡ 0 = omega arith in
      absurd (not_taken p facts exact f i h 0 top.0 top.1 top.2 (subst (λ n. IsNode (x p facts exact f i h) (word (point p facts exact f i h) n)) zero_is node)))

  return_long : (h : AtInsn p facts f (insn.Return (Some reg.Long))) → Owes p facts exact f (insn.Return (Some reg.Long)) h (going 0 (Returns 2))
  return_long h =
      let i : Insn = insn.Return (Some reg.Long) in
      let t : IsReturned p.outline f.method reg.Long h.state = typed_return reg.Long h in
      let whole : is_whole h.state.stack ≡ true = ((exact.methods f.method h.code h.code_is).typing.items f.item h.state h.state_is).whole in
      let both : (slice_get h.state.stack 0 ≡ Some slot.Top) × (slice_get h.state.stack 1 ≡ Some slot.Long) =
      long_result p.outline t.kind h.state.stack t.rest t.same t.stack whole in
      returns_with p facts exact f (Some reg.Long) h 2
      (λ q lt node. ⊎_elim
      (λ (zero_is : q ≡ 0).
      absurd (not_taken p facts exact f i h 0 slot.Top both.0 refl (subst (λ n. IsNode (x p facts exact f i h) (word (point p facts exact f i h) n)) zero_is node)))
      (λ (other : q ≢ 0).
      let one_is : q ≡ 1 = omega arith in
      absurd (not_taken p facts exact f i h 1 slot.Long both.1 refl (subst (λ n. IsNode (x p facts exact f i h) (word (point p facts exact f i h) n)) one_is node)))
      (cases_eq q 0))

  return_reference : (h : AtInsn p facts f (insn.Return (Some reg.Ref))) → Owes p facts exact f (insn.Return (Some reg.Ref)) h (going 0 (Returns 1))
  unfolding pairs.joined_by
  return_reference h =
      let i : Insn = insn.Return (Some reg.Ref) in
      let t : IsReturned p.outline f.method reg.Ref h.state = typed_return reg.Ref h in
      returns_with p facts exact f (Some reg.Ref) h 1
      (λ q lt node.
      let zero_is : q ≡ 0 = omega arith in
      let same : facts.class f.method (word (point p facts exact f i h) 0) ≡ facts.class f.method Return =
      joined_class p facts exact f i h (pairs.Taken 0) pairs.AsResult (word (point p facts exact f i h) 0) Return (0, omega arith, refl)
      (taken_word p facts exact f i h 0) refl (subst (λ n. IsNode (x p facts exact f i h) (word (point p facts exact f i h) n)) zero_is node) tt in (
        subst (λ n. facts.class f.method (word (point p facts exact f i h) n) ≡ facts.class f.method Return) (sym zero_is) same,
        IsSomeAnd-from_some (result_of p.outline f.method) (λ k. pairs.is_reference_kind k ≡ true) t.kind t.result (reference_result t.kind t.same),
        refl,
      ))

  pub return_obeys : (value : Option Reg) (h : AtInsn p facts f (insn.Return value)) → Owes p facts exact f (insn.Return value) h (return_effect value)
  unfolding return_effect
  return_obeys None h = returns_with p facts exact f None h 0 (λ q lt node. absurd (omega arith))
  return_obeys (Some reg.Int) h = return_int h
  return_obeys (Some reg.Long) h = return_long h
  return_obeys (Some reg.Ref) h = return_reference h
