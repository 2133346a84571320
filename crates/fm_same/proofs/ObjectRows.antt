-- The rows of objects, fields, casts and arrays: what is read from an object is of its class, and so is what is put into it; a new object's home is the word
-- that it becomes.
use Rattle.std.proofs.Common.{◌≡◌, ℕ, zero, suc, ◌+◌, ◌-◌, ◌<◌, ◌≤◌, Bool, true, false, cond, List, [], ◌∷◌, ◌++◌, length, Option, Some, None, option_map, Contains, refl, sym, ◌∙◌, ap, subst, inl, slice_get, arith, ⊎_elim, length-append}
use Rattle.std.proofs.lemmas.Bool.{false≢true}
use Rattle.std.proofs.lemmas.Option.{same_Some, slice_get_within}
use Rattle.fm_base.proofs.OptionFacts.{cond-some_then, option_and_then-some, Some-from_some_and}
use Rattle.fm_base.specs.declared.ids.FieldId.{FieldId}
use Rattle.fm_base.specs.declared.ids.TypeId.{TypeId}
use Rattle.fm_base.specs.declared.kinds.Kind.{Kind}
use Rattle.fm_base.specs.declared.kinds.Kind.TheVariants as kind
use Rattle.fm_base.specs.declared.kinds.TypeRef.{TypeRef}
use Rattle.fm_code.specs.Edges.{falls_through, insn_of, IsNormalEdge, LeadsTo}
use Rattle.fm_code.specs.Live.{stores_over}
use Rattle.fm_code.specs.SpellsCode.{targets_of}
use Rattle.fm_code.specs.declared.code_array.Code.{Code}
use Rattle.fm_code.specs.declared.instructions.Insn.{Insn}
use Rattle.fm_code.specs.declared.instructions.Insn.TheVariants as insn
use Rattle.fm_conn.specs.Facts.{AreFacts, Facts}
use Rattle.fm_conn.specs.Nodes.{Global, IsNode}
use Rattle.fm_conn.specs.Rows as pairs
use Rattle.fm_types.specs.Fits.{fits}
use Rattle.fm_types.specs.Named as named_rows
use Rattle.fm_types.specs.ObjectRows.{get_static_row, put_field_row, put_static_row}
use Rattle.fm_types.specs.Rows.{row_after}
use Rattle.fm_types.specs.States.{is_reference, stack_slots, taken, TypeState}
use Rattle.fm_types.specs.declared.slots.Slot as slots
use Rattle.fm_types.specs.declared.slots.Slot.TheVariants as slot
use Rattle.fm_base.specs.Kinds.{kind_words}
use Rattle.fm_world.specs.Members.{slot_of}
use Rattle.fm_world.specs.Programs.{class_of_type, Outline, Program}
use Rattle.fm_world.specs.declared.uses.Use.{Use}
use Rattle.fm_world.specs.declared.uses.Use.TheVariants as resolved
use Rattle.fm_frames.specs.Effects.{Make, Put, SetStatic, Effect, Plain, OfOperand, OfPlace, OfStatic, OfMade, acting, loaded, making, words}
use Rattle.fm_frames.specs.ObjectRows.{class_of_field, get_field_effect, get_static_effect, kind_of_field, made_of, new_effect, put_field_effect, put_static_effect, starting}
use Rattle.fm_frames.specs.Operands.{size_of_type}
use Rattle.fm_frames.specs.Sights.{Sight}
use Rattle.fm_frames.specs.States.{Frame}
use Rattle.fm_frames.specs.declared.values.Value.TheVariants as value
use Rattle.fm_same.specs.Evenness.{given, LeadsOn, word}
use Rattle.fm_law_sound.proofs.Cases.{by_object, by_on_field, by_on_type}
use Rattle.fm_same.proofs.ItemFacts.{AtInsn, goes_obey, joined_class, node_of_slot, point, row, taken_word, used, x}
use Rattle.fm_same.proofs.MoveRows.{given_stands, gives_one, gives_two, not_given, row_gives}
use Rattle.fm_same.proofs.PlainRows.{faulty_obeys, null_obeys, Owes, stuck_obeys, words_obey}

-- ---- uses

-- a field of references, as the pairs ask for it
reference_field : (o : Outline) (u : Use) (f : FieldId) (n : TypeId) (t : TypeRef) → u ≡ resolved.OfField f n → kind_of_field o f.0 ≡ kind.Ref t
    → pairs.is_reference_field o u ≡ true
reference_field o u f n t is kind_is = ap (pairs.is_reference_field o) is ∙ ap pairs.is_reference_kind kind_is

field_words_is : (o : Outline) (u : Use) (f : FieldId) (n : TypeId) → u ≡ resolved.OfField f n → pairs.field_word_count o u ≡ kind_words (kind_of_field o f.0)
field_words_is o u f n is = ap (pairs.field_word_count o) is

row_there : (b : Bool) (places : List (pairs.RowPlace × pairs.RowPlace)) (place : pairs.RowPlace × pairs.RowPlace) → b ≡ true → Contains places place
    → Contains (cond b places []) place
row_there true places place e h = h
row_there false places place e h = absurd (false≢true e)

-- ---- the one item that follows

pub only_next : (code : Code) (j next : ℕ) (i : Insn) → insn_of code j ≡ Some i → targets_of i ≡ [] → IsNormalEdge code j next → next ≡ j + 1
only_next code j next i at none edge =
    let found : (other : Insn) × (insn_of code j ≡ Some other) × LeadsTo other j next =
    Some-from_some_and (insn_of code j) (λ other. LeadsTo other j next) edge.leads in
    let same : found.0 ≡ i = same_Some found.0 i (sym found.1 ∙ at) in
    ⊎_elim
    (λ named.
    let here : Contains [] next = subst (λ (ts : List ℕ). Contains ts next) (ap targets_of same ∙ none) named in
    let within : here.0 < 0 = here.1 in absurd (omega arith))
    (λ falls. falls.1) found.2

module _ (p : Program) (facts : Facts) (exact : AreFacts p facts) (f : Frame) (i : Insn) (h : AtInsn p facts f i) where
  -- the class of the word that is given at the next item
  abbrev pub home_of : Effect → ℕ
  home_of e = facts.class f.method (given (point p facts exact f i h) e (f.item + 1) 0)

  -- an object is made and given, and nothing is taken that the pairs don't take
  pub making_obeys : ((k : ℕ) → stores_over k i ≡ false) → falls_through i ≡ true → targets_of i ≡ [] → (takes : ℕ) (t : TypeRef) (len : ℕ)
      → pairs.words_taken p.outline (used p facts exact f i h) i ≤ takes → Owes p facts exact f i h (making takes (Make t len []))
  making_obeys keeps falls none takes t len le =
      let e : Effect = making takes (Make t len []) in
      goes_obey p facts exact f i h e (home_of e) (inl refl, tt) falls tt
      (gives_one p facts exact f i h e (home_of e) (OfMade 0) refl
      (λ next edge there. ap (λ n. facts.class f.method (given (point p facts exact f i h) e n 0))
      (sym (only_next h.code f.item next i h.insn_is none edge))))
      tt (λ k unwritten. keeps k) le

  -- an element of an operand's object is read, where the pairs join the operand with what is given
  pub loaded_obeys : ((k : ℕ) → stores_over k i ≡ false) → falls_through i ≡ true → (takes operand place : ℕ) (k : Kind)
      → takes ≡ pairs.words_taken p.outline (used p facts exact f i h) i
      → ((t : TypeRef) → k ≡ kind.Ref t
      → Contains (pairs.joined_by p.outline (used p facts exact f i h) i) (pairs.Taken operand, pairs.Given 0))
      → Owes p facts exact f i h (words takes (loaded k (OfPlace operand place k)))
  loaded_obeys keeps falls takes operand place kind.Boolean taken joins = words_obey p facts exact f i h keeps falls takes _ (tt, tt) (omega arith)
  loaded_obeys keeps falls takes operand place kind.Byte taken joins = words_obey p facts exact f i h keeps falls takes _ (tt, tt) (omega arith)
  loaded_obeys keeps falls takes operand place kind.Char taken joins = words_obey p facts exact f i h keeps falls takes _ (tt, tt) (omega arith)
  loaded_obeys keeps falls takes operand place kind.Short taken joins = words_obey p facts exact f i h keeps falls takes _ (tt, tt) (omega arith)
  loaded_obeys keeps falls takes operand place kind.Int taken joins = words_obey p facts exact f i h keeps falls takes _ (tt, tt) (omega arith)
  loaded_obeys keeps falls takes operand place kind.Long taken joins = words_obey p facts exact f i h keeps falls takes _ (tt, (tt, tt)) (omega arith)
  loaded_obeys keeps falls takes operand place (kind.Ref t) taken joins =
      let e : Effect = words takes (OfPlace operand place (kind.Ref t) ∷ []) in
      goes_obey p facts exact f i h e 0 tt falls tt
      (gives_one p facts exact f i h e 0 (OfPlace operand place (kind.Ref t)) refl
      (λ next edge there taken_node. joined_class p facts exact f i h (pairs.Taken operand) (pairs.Given 0) (word (point p facts exact f i h) operand)
      (given (point p facts exact f i h) e next 0) (joins t refl) (taken_word p facts exact f i h operand)
      (given_stands p facts exact f i h e next 0 0 edge taken refl) taken_node there))
      tt (λ k unwritten. keeps k) (omega arith)

  -- a value is put into an operand's object, where the pairs join both
  pub put_obeys : ((k : ℕ) → stores_over k i ≡ false) → falls_through i ≡ true → (takes object place v : ℕ) (k : Kind)
      → pairs.words_taken p.outline (used p facts exact f i h) i ≤ takes
      → ((t : TypeRef) → k ≡ kind.Ref t
      → Contains (pairs.joined_by p.outline (used p facts exact f i h) i) (pairs.Taken object, pairs.Taken v) × LeadsOn (point p facts exact f i h) (OfOperand v))
      → Owes p facts exact f i h (acting takes (Put (OfOperand object) place k (OfOperand v) ∷ []))
  put_obeys keeps falls takes object place v (kind.Ref t) taken joins =
      let e : Effect = acting takes (Put (OfOperand object) place (kind.Ref t) (OfOperand v) ∷ []) in
      let pair = joins t refl in
      goes_obey p facts exact f i h e 0 (
        (
          facts.class f.method (word (point p facts exact f i h) v),
          tt,
          λ node. joined_class p facts exact f i h (pairs.Taken object) (pairs.Taken v) (word (point p facts exact f i h) object)
              (word (point p facts exact f i h) v) pair.0 (taken_word p facts exact f i h object) (taken_word p facts exact f i h v) node pair.1.0,
          (λ node. refl),
          pair.1,
        ),
        tt,
      )
      falls tt (λ next edge q s at node. absurd (cc)) tt (λ k unwritten. keeps k) taken
  put_obeys keeps falls takes object place v k taken joins =
      goes_obey p facts exact f i h (acting takes (Put (OfOperand object) place k (OfOperand v) ∷ [])) 0 (tt, tt) falls tt
      (λ next edge q s at node. absurd (cc)) tt (λ k unwritten. keeps k) taken

  -- a word of the state whose slot fits a reference is a reference
  pub leads_operand : (n : ℕ) (s : slots.Slot) → slice_get h.state.stack n ≡ Some s → is_reference s ≡ true → LeadsOn (point p facts exact f i h) (OfOperand n)
  leads_operand n s at is =
      let within : n < length h.state.stack = slice_get_within h.state.stack n s at in
      let level = h.depth in
      (node_of_slot p facts exact f i h n s at is, omega (arith, level))

  -- a class that is started first owes nothing more
  pub started_obeys : (class : ℕ) (e : Effect) → Owes p facts exact f i h e → Owes p facts exact f i h (starting class e)
  started_obeys class e owes = record {
    home = owes.home;
    acts = owes.acts;
    leads = owes.leads;
    goes = λ next going edge.
        let on = owes.goes next going edge in
        record { stays = on.stays; gives = on.gives; writes = on.writes; lives = on.lives };
    ends = owes.ends;
  }

-- ---- what rows require of slots

pub mapped_some : {X Y : Type 0} (k : X → Y) (o : Option X) (y : Y) → option_map k o ≡ Some y → (x : X) × (o ≡ Some x)
mapped_some k None y h = absurd (cc)
mapped_some k (Some x) y h = (x, refl)

pub fits_reference : (o : Outline) (s : slots.Slot) (t : TypeRef) → fits o s (slot.Ref t) ≡ true → is_reference s ≡ true
unfolding fits
fits_reference o slot.Null t h = refl
fits_reference o (slot.Ref s) t h = refl
fits_reference o s t h = absurd (false≢true h)

pub taken_top : (o : Outline) (wanted : slots.Slot) (more stack rest : List slots.Slot) → taken o (wanted ∷ more) stack ≡ Some rest
    → (s : slots.Slot) × (slice_get stack 0 ≡ Some s) × (fits o s wanted ≡ true)
taken_top o wanted more [] rest h = absurd (cc)
taken_top o wanted more (s ∷ stack) rest h = (s, refl, (cond-some_then (fits o s wanted) (taken o more stack) rest h).0)

-- where a reference is wanted on top, one is there
pub reference_on_top : (o : Outline) (wanted more stack rest : List slots.Slot) (t : TypeRef) → wanted ≡ slot.Ref t ∷ more → taken o wanted stack ≡ Some rest
    → (s : slots.Slot) × (slice_get stack 0 ≡ Some s) × (is_reference s ≡ true)
reference_on_top o wanted more stack rest t is h =
    let top : (s : slots.Slot) × (slice_get stack 0 ≡ Some s) × (fits o s (slot.Ref t) ≡ true) =
    taken_top o (slot.Ref t) more stack rest (ap (λ w. taken o w stack) (sym is) ∙ h) in
    (top.0, top.1, fits_reference o top.0 t top.2)

-- the words of a field of references
field_slot : (o : Outline) (f : ℕ) (t : TypeRef) → kind_of_field o f ≡ kind.Ref t → named_rows.field_words o f ≡ slot.Ref t ∷ []
field_slot o f t is = ap (λ k. stack_slots (k ∷ [])) is

put_field_top : (o : Outline) (method : ℕ) (f : FieldId) (n : TypeId) (t : TypeRef) (s after : TypeState) → kind_of_field o f.0 ≡ kind.Ref t
    → put_field_row o method (resolved.OfField f n) s ≡ Some after
    → (top : slots.Slot) × (slice_get s.stack 0 ≡ Some top) × (is_reference top ≡ true)
unfolding put_field_row
put_field_top o method f n t s after is h =
    let named = option_and_then-some _ (slice_get o.types n.0) after h in
    let rest = option_and_then-some _ (taken o (named_rows.field_words o f.0) s.stack) after named.2 in
    reference_on_top o (named_rows.field_words o f.0) [] s.stack rest.0 t (field_slot o f.0 t is) rest.1

put_static_top : (o : Outline) (f : FieldId) (n : TypeId) (t : TypeRef) (s after : TypeState) → kind_of_field o f.0 ≡ kind.Ref t
    → put_static_row o (resolved.OfField f n) s ≡ Some after
    → (top : slots.Slot) × (slice_get s.stack 0 ≡ Some top) × (is_reference top ≡ true)
unfolding put_static_row
put_static_top o f n t s after is h =
    let named = option_and_then-some _ (slice_get o.types n.0) after h in
    let rest = mapped_some _ (taken o (named_rows.field_words o f.0) s.stack) after named.2 in
    reference_on_top o (named_rows.field_words o f.0) [] s.stack rest.0 t (field_slot o f.0 t is) rest.1

get_static_stack : (o : Outline) (f : FieldId) (n : TypeId) (s after : TypeState) → get_static_row o (resolved.OfField f n) s ≡ Some after
    → after.stack ≡ named_rows.field_words o f.0 ++ s.stack
unfolding get_static_row
get_static_stack o f n s after h =
    let named = option_and_then-some _ (slice_get o.types n.0) after h in
    ap (λ (q : TypeState). q.stack) (same_Some after _ (sym named.2))

front_found : (xs ys : List slots.Slot) (q : ℕ) (s : slots.Slot) → slice_get xs q ≡ Some s → slice_get (xs ++ ys) q ≡ Some s
front_found [] ys q s h = absurd (cc)
front_found (x ∷ xs) ys zero s h = h
front_found (x ∷ xs) ys (suc q) s h = front_found xs ys q s h

-- ---- objects and fields

module _ (p : Program) (facts : Facts) (exact : AreFacts p facts) (f : Frame) where
  made_of_obeys : (index : ℕ) (h : AtInsn p facts f (insn.New index)) (t : TypeRef) (class : Option ℕ)
      → Owes p facts exact f (insn.New index) h (made_of p.outline t class)
  unfolding pairs.words_taken
  made_of_obeys index h t None = stuck_obeys p facts exact f (insn.New index) h
  made_of_obeys index h t (Some class) =
      started_obeys p facts exact f (insn.New index) h class (making 0 (Make t (size_of_type p.outline t) []))
      (making_obeys p facts exact f (insn.New index) h (λ k. refl) refl refl 0 t (size_of_type p.outline t) (omega arith))

  pub new_obeys : (index : ℕ) (h : AtInsn p facts f (insn.New index)) (u : Use) → Owes p facts exact f (insn.New index) h (new_effect p.outline u)
  unfolding new_effect
  new_obeys index h u =
      by_on_type (Owes p facts exact f (insn.New index) h) p.outline u _ (stuck_obeys p facts exact f (insn.New index) h)
      (λ n t is there. made_of_obeys index h t (class_of_type t))

  pub get_field_obeys : (index : ℕ) (h : AtInsn p facts f (insn.GetField index)) (s : List Sight)
      → Owes p facts exact f (insn.GetField index) h (get_field_effect p.outline (used p facts exact f (insn.GetField index) h) s)
  unfolding get_field_effect pairs.words_taken pairs.joined_by
  get_field_obeys index h s =
      let i : Insn = insn.GetField index in
      let u : Use = used p facts exact f i h in
      by_on_field (Owes p facts exact f i h) p.outline u _ (stuck_obeys p facts exact f i h)
      (λ m n t is there. by_object (Owes p facts exact f i h) p.outline t s 0 _
      (null_obeys p facts exact f i h (λ k. refl)) (stuck_obeys p facts exact f i h) (faulty_obeys p facts exact f i h 0)
      (λ it seen fits_it. loaded_obeys p facts exact f i h (λ k. refl) refl 1 0 (slot_of p.outline.classes m.0) (kind_of_field p.outline m.0) refl
      (λ ref kind_is. row_there (pairs.is_reference_field p.outline u) _ _ (reference_field p.outline u m n ref is kind_is) (0, omega arith, refl))))

  -- the value of a field that is put: the object lies below the words of the value
  put_by_kind : (index : ℕ) (h : AtInsn p facts f (insn.PutField index)) (m : FieldId) (n : TypeId)
      → used p facts exact f (insn.PutField index) h ≡ resolved.OfField m n → (k : Kind) → kind_of_field p.outline m.0 ≡ k
      → Owes p facts exact f (insn.PutField index) h
      (acting (kind_words k + 1) (Put (OfOperand (kind_words k)) (slot_of p.outline.classes m.0) k (OfOperand (kind_words k - 1)) ∷ []))
  unfolding pairs.words_taken pairs.joined_by row_after
  put_by_kind index h m n is k kind_is =
      let i : Insn = insn.PutField index in
      let u : Use = used p facts exact f i h in
      let count : pairs.field_word_count p.outline u ≡ kind_words k = field_words_is p.outline u m n is ∙ ap kind_words kind_is in
      put_obeys p facts exact f i h (λ l. refl) refl (kind_words k + 1) (kind_words k) (slot_of p.outline.classes m.0) (kind_words k - 1) k
      (omega (arith, count))
      (λ ref k_is.
      let after = row_gives p facts exact f i h (put_field_row p.outline f.method u h.state) (row p facts exact f i h) in
      let top : (s : slots.Slot) × (slice_get h.state.stack 0 ≡ Some s) × (is_reference s ≡ true) =
      put_field_top p.outline f.method m n ref h.state after.0 (kind_is ∙ k_is)
      (ap (λ v. put_field_row p.outline f.method v h.state) (sym is) ∙ after.1) in
      let one : kind_words k ≡ 1 = ap kind_words k_is in
      let below : 1 - 1 ≡ kind_words k - 1 = omega (arith, one) in (
        subst (λ a. Contains (pairs.joined_by p.outline u i) (pairs.Taken a, pairs.Taken (kind_words k - 1))) (sym one)
            (subst (λ b. Contains (pairs.joined_by p.outline u i) (pairs.Taken 1, pairs.Taken b)) below
            (row_there (pairs.is_reference_field p.outline u) _ _ (reference_field p.outline u m n ref is (kind_is ∙ k_is)) (0, omega arith, refl))),
        subst (λ b. LeadsOn (point p facts exact f i h) (OfOperand b)) below (leads_operand p facts exact f i h 0 top.0 top.1 top.2),
      ))

  pub put_field_obeys : (index : ℕ) (h : AtInsn p facts f (insn.PutField index)) (s : List Sight)
      → Owes p facts exact f (insn.PutField index) h (put_field_effect p.outline (used p facts exact f (insn.PutField index) h) s)
  unfolding put_field_effect
  put_field_obeys index h s =
      let i : Insn = insn.PutField index in
      by_on_field (Owes p facts exact f i h) p.outline (used p facts exact f i h) _ (stuck_obeys p facts exact f i h)
      (λ m n t is there. by_object (Owes p facts exact f i h) p.outline t s (kind_words (kind_of_field p.outline m.0)) _
      (null_obeys p facts exact f i h (λ k. refl)) (stuck_obeys p facts exact f i h)
      (faulty_obeys p facts exact f i h (kind_words (kind_of_field p.outline m.0)))
      (λ it seen fits_it. put_by_kind index h m n is (kind_of_field p.outline m.0) refl))

  -- ---- static fields

  set_by_kind : (index : ℕ) (h : AtInsn p facts f (insn.PutStatic index)) (m : FieldId) (n : TypeId)
      → used p facts exact f (insn.PutStatic index) h ≡ resolved.OfField m n → (k : Kind) → kind_of_field p.outline m.0 ≡ k
      → Owes p facts exact f (insn.PutStatic index) h
      (acting (kind_words k) (SetStatic (slot_of p.outline.classes m.0) k (OfOperand (kind_words k - 1)) ∷ []))
  unfolding pairs.words_taken pairs.joined_by row_after
  set_by_kind index h m n is (kind.Ref ref) kind_is =
      let i : Insn = insn.PutStatic index in
      let u : Use = used p facts exact f i h in
      let count : pairs.field_word_count p.outline u ≡ 1 = field_words_is p.outline u m n is ∙ ap kind_words kind_is in
      let after = row_gives p facts exact f i h (put_static_row p.outline u h.state) (row p facts exact f i h) in
      let top : (s : slots.Slot) × (slice_get h.state.stack 0 ≡ Some s) × (is_reference s ≡ true) =
      put_static_top p.outline m n ref h.state after.0 kind_is (ap (λ v. put_static_row p.outline v h.state) (sym is) ∙ after.1) in
      goes_obey p facts exact f i h (acting 1 (SetStatic (slot_of p.outline.classes m.0) (kind.Ref ref) (OfOperand 0) ∷ [])) 0 (
        (
          λ node. joined_class p facts exact f i h (pairs.Taken 0) pairs.Outside (word (point p facts exact f i h) 0) Global
              (row_there (pairs.is_reference_field p.outline u) _ _ (reference_field p.outline u m n ref is kind_is) (0, omega arith, refl))
              (taken_word p facts exact f i h 0) refl node tt,
          leads_operand p facts exact f i h 0 top.0 top.1 top.2,
        ),
        tt,
      )
      refl tt (λ next edge q s at node. absurd (cc)) tt (λ l unwritten. refl) (omega (arith, count))
  set_by_kind index h m n is k kind_is =
      let i : Insn = insn.PutStatic index in
      let u : Use = used p facts exact f i h in
      let count : pairs.field_word_count p.outline u ≡ kind_words k = field_words_is p.outline u m n is ∙ ap kind_words kind_is in
      goes_obey p facts exact f i h (acting (kind_words k) (SetStatic (slot_of p.outline.classes m.0) k (OfOperand (kind_words k - 1)) ∷ [])) 0
      (tt, tt) refl tt (λ next edge q s at node. absurd (cc)) tt (λ l unwritten. refl) (omega (arith, count))

  pub put_static_obeys : (index : ℕ) (h : AtInsn p facts f (insn.PutStatic index))
      → Owes p facts exact f (insn.PutStatic index) h (put_static_effect p.outline (used p facts exact f (insn.PutStatic index) h))
  unfolding put_static_effect
  put_static_obeys index h =
      let i : Insn = insn.PutStatic index in
      by_on_field (Owes p facts exact f i h) p.outline (used p facts exact f i h) _ (stuck_obeys p facts exact f i h)
      (λ m n t is there. started_obeys p facts exact f i h (class_of_field p.outline m.0) _ (set_by_kind index h m n is (kind_of_field p.outline m.0) refl))

  -- a static field of numbers gives a word that is no reference
  number_given : (index : ℕ) (h : AtInsn p facts f (insn.GetStatic index)) (m : FieldId) (n : TypeId)
      → used p facts exact f (insn.GetStatic index) h ≡ resolved.OfField m n → (e : Effect) (q : ℕ) (s : slots.Slot)
      → slice_get (named_rows.field_words p.outline m.0) q ≡ Some s → is_reference s ≡ false
      → length (named_rows.field_words p.outline m.0) ≡ length e.gives → e.takes ≡ 0
      → (next : ℕ) → IsNormalEdge h.code f.item next
      → IsNode (x p facts exact f (insn.GetStatic index) h) (given (point p facts exact f (insn.GetStatic index) h) e next q) → ⊥
  unfolding row_after
  number_given index h m n is e q s at plain size none next edge node =
      let i : Insn = insn.GetStatic index in
      let u : Use = used p facts exact f i h in
      let after = row_gives p facts exact f i h (get_static_row p.outline u h.state) (row p facts exact f i h) in
      let stack : after.0.stack ≡ named_rows.field_words p.outline m.0 ++ h.state.stack =
      get_static_stack p.outline m n h.state after.0 (ap (λ v. get_static_row p.outline v h.state) (sym is) ∙ after.1) in
      let sizes : length after.0.stack ≡ length (named_rows.field_words p.outline m.0) + length h.state.stack = ap length stack ∙ simp length-append in
      let level = h.depth in
      not_given p facts exact f i h e after.0 next q s (after.2 next edge)
      (ap (λ xs. slice_get xs q) stack ∙ front_found (named_rows.field_words p.outline m.0) h.state.stack q s at) plain (omega (arith, level)) node

  static_int : (index : ℕ) (h : AtInsn p facts f (insn.GetStatic index)) (m : FieldId) (n : TypeId)
      → used p facts exact f (insn.GetStatic index) h ≡ resolved.OfField m n → named_rows.field_words p.outline m.0 ≡ slot.Int ∷ []
      → Owes p facts exact f (insn.GetStatic index) h (words 0 (OfStatic (slot_of p.outline.classes m.0) ∷ []))
  unfolding pairs.words_taken
  static_int index h m n is slots_are =
      let i : Insn = insn.GetStatic index in
      let e : Effect = words 0 (OfStatic (slot_of p.outline.classes m.0) ∷ []) in
      goes_obey p facts exact f i h e 0 tt refl tt
      (gives_one p facts exact f i h e 0 (OfStatic (slot_of p.outline.classes m.0)) refl
      (λ next edge there. absurd (number_given index h m n is e 0 slot.Int (ap (λ xs. slice_get xs 0) slots_are) refl (ap length slots_are) refl next edge there)))
      tt (λ l unwritten. refl) (omega arith)

  static_by_kind : (index : ℕ) (h : AtInsn p facts f (insn.GetStatic index)) (m : FieldId) (n : TypeId)
      → used p facts exact f (insn.GetStatic index) h ≡ resolved.OfField m n → (k : Kind) → kind_of_field p.outline m.0 ≡ k
      → Owes p facts exact f (insn.GetStatic index) h (words 0 (loaded k (OfStatic (slot_of p.outline.classes m.0))))
  unfolding pairs.words_taken pairs.joined_by
  static_by_kind index h m n is (kind.Ref ref) kind_is =
      let i : Insn = insn.GetStatic index in
      let u : Use = used p facts exact f i h in
      let e : Effect = words 0 (OfStatic (slot_of p.outline.classes m.0) ∷ []) in
      goes_obey p facts exact f i h e 0 tt refl tt
      (gives_one p facts exact f i h e 0 (OfStatic (slot_of p.outline.classes m.0)) refl
      (λ next edge there. sym (joined_class p facts exact f i h (pairs.Given 0) pairs.Outside (given (point p facts exact f i h) e next 0) Global
      (row_there (pairs.is_reference_field p.outline u) _ _ (reference_field p.outline u m n ref is kind_is) (0, omega arith, refl))
      (given_stands p facts exact f i h e next 0 0 edge refl refl) refl there tt)))
      tt (λ l unwritten. refl) (omega arith)
  static_by_kind index h m n is kind.Long kind_is =
      let i : Insn = insn.GetStatic index in
      let e : Effect = words 0 (Plain value.Top ∷ OfStatic (slot_of p.outline.classes m.0) ∷ []) in
      let slots_are : named_rows.field_words p.outline m.0 ≡ slot.Top ∷ slot.Long ∷ [] = ap (λ k. stack_slots (k ∷ [])) kind_is in
      goes_obey p facts exact f i h e 0 tt refl tt
      (gives_two p facts exact f i h e 0 (Plain value.Top) (OfStatic (slot_of p.outline.classes m.0)) refl (λ next edge there. tt)
      (λ next edge there. absurd (number_given index h m n is e 1 slot.Long (ap (λ xs. slice_get xs 1) slots_are) refl (ap length slots_are) refl next edge there)))
      tt (λ l unwritten. refl) (omega arith)
  static_by_kind index h m n is k kind_is = static_int index h m n is (ap (λ q. stack_slots (q ∷ [])) kind_is)

  pub get_static_obeys : (index : ℕ) (h : AtInsn p facts f (insn.GetStatic index))
      → Owes p facts exact f (insn.GetStatic index) h (get_static_effect p.outline (used p facts exact f (insn.GetStatic index) h))
  unfolding get_static_effect
  get_static_obeys index h =
      let i : Insn = insn.GetStatic index in
      by_on_field (Owes p facts exact f i h) p.outline (used p facts exact f i h) _ (stuck_obeys p facts exact f i h)
      (λ m n t is there. started_obeys p facts exact f i h (class_of_field p.outline m.0) _ (static_by_kind index h m n is (kind_of_field p.outline m.0) refl))
