-- The rows of built-in methods: what they give or keep is joined through the ends that they link, and a new text's home is the word that it becomes, or the
-- object that it is put into.
use Rattle.std.proofs.Common.{◌≡◌, ℕ, not, ◌||◌, zero, suc, ◌+◌, ◌-◌, ◌≤◌, ◌==◌, ◌&&◌, Bool, true, false, List, [], ◌∷◌, length, Option, Some, cond, refl, sym, ◌∙◌, ap, subst, inl, inr, slice_get, arith, eqb-true}
use Rattle.std.proofs.lemmas.Bool.{and_parts}
use Rattle.std.proofs.lemmas.Option.{same_Some}
use Rattle.fm_base.proofs.OptionFacts.{IsSomeAnd-from_some}
use Rattle.fm_base.specs.declared.kinds.TypeRef.{TypeRef}
use Rattle.fm_code.specs.Edges.{falls_through, IsNormalEdge}
use Rattle.fm_code.specs.Live.{stores_over}
use Rattle.fm_code.specs.declared.instructions.Insn.{Insn}
use Rattle.fm_conn.specs.Facts.{AreFacts, Facts}
use Rattle.fm_conn.specs.Links.{IsNativeLink, Linked, LinkedIn, native_links, result_and_receiver}
use Rattle.fm_conn.specs.Nodes.{IsNode, Node, Slot}
use Rattle.fm_conn.specs.Pairs.{IsEnd, StandsFor}
use Rattle.fm_conn.specs.declared.ends.End2.{End2}
use Rattle.fm_conn.specs.declared.ends.End2.TheVariants as end
use Rattle.fm_world.specs.BuiltIns.{built_in}
use Rattle.fm_world.specs.Chains.{chain_of}
use Rattle.fm_world.specs.Members.{method_at, methods_of}
use Rattle.fm_world.specs.Programs.{Program}
use Rattle.fm_frames.specs.Effects.{Copy, giving_literal, OfLiteral, Put, Effect, OfMade, OfOperand, OfPlace, Plain, acting, Exits, Faults, going, int_word, making, printing, words}
use Rattle.fm_frames.specs.NativeRows as table
use Rattle.fm_frames.specs.Natives.{native_of_row, natives}
use Rattle.fm_frames.specs.declared.natives.Native.{Native}
use Rattle.fm_frames.specs.declared.natives.Shown.{Shown}
use Rattle.fm_frames.specs.declared.natives.Native.TheVariants.{Append, FreeMeFree, FreeMeFreeChain, FreeMeLink, GetMessage, ObjectClone, ObjectGetClass, StringToString, ThrowableInitOf}
use Rattle.fm_frames.specs.declared.natives.Shown.TheVariants.{Boolean as ShownBoolean, Char as ShownChar, Int as ShownInt, Long as ShownLong, Text as ShownText}
use Rattle.fm_frames.specs.States.{Frame}
use Rattle.fm_frames.specs.Effects.{SameOperands, Source}
use Rattle.fm_conn.specs.Pairs.{depth_below}
use Rattle.std.specs.List.{AllByRecursion}
use Rattle.fm_frames.specs.States.{null}
use Rattle.fm_frames.specs.Sights.{Sight}
use Rattle.fm_frames.proofs.Failures.{Failures, name_of, NotCloneable, TextOutside}
use Rattle.fm_frames.proofs.NativeCases.{NativeLeaves, Takes}
use Rattle.fm_frames.proofs.UsualAsks.{Any, each_native}
use Rattle.fm_frames.specs.Literals.{class_literal}
use Rattle.fm_same.specs.Covering.{CallsNative, native_words, NativeEnds}
use Rattle.fm_same.specs.Evenness.{EndsEvenly, given, LeadsRight, word}
use Rattle.fm_same.proofs.EdgesKeep.{call_falls, call_keeps, call_no_targets}
use Rattle.fm_same.proofs.ItemFacts.{AtInsn, depth_level, goes_obey, pair_at, point, x}
use Rattle.fm_same.proofs.MoveRows.{given_stands, gives_one}
use Rattle.fm_same.proofs.ObjectRows.{home_of, only_next}
use Rattle.fm_same.proofs.PlainRows.{fault_obeys, faulty_obeys, IsPlainSource, Owes, plain_obeys, stuck_obeys, thrown_obeys, words_obey}

-- ---- rows by number

abbrev same_shown : Shown → Shown → Bool
same_shown ShownInt ShownInt = true
same_shown ShownLong ShownLong = true
same_shown ShownChar ShownChar = true
same_shown ShownBoolean ShownBoolean = true
same_shown ShownText ShownText = true
same_shown shown other = false

itself : (shown : Shown) → same_shown shown shown ≡ true
itself ShownInt = refl
itself ShownLong = refl
itself ShownChar = refl
itself ShownBoolean = refl
itself ShownText = refl

-- whether two rows are the same, and link ends
abbrev same_linking : Native → Native → Bool
same_linking StringToString StringToString = true
same_linking (Append shown) (Append other) = same_shown shown other
same_linking ThrowableInitOf ThrowableInitOf = true
same_linking GetMessage GetMessage = true
same_linking ObjectClone ObjectClone = true
same_linking row other = false

abbrev place_from : ℕ → List Native → Native → ℕ
place_from k [] row = k
place_from k (first ∷ rows) row = cond (same_linking first row) k (place_from (suc k) rows row)

-- the place of a row that links ends in the list of all
abbrev place_of : Native → ℕ
place_of row = place_from 0 natives row

abbrev are_numbered : ℕ → List Native → Bool
are_numbered k [] = true
are_numbered k (row ∷ rows) = (not (same_linking row row) || (place_of row == k)) && are_numbered (suc k) rows

placed : (k : ℕ) (rows : List Native) (n : ℕ) (row : Native) → same_linking row row ≡ true → are_numbered k rows ≡ true → slice_get rows n ≡ Some row
    → k + n ≡ place_of row
placed k [] n row links h at = absurd (cc)
placed k (first ∷ rows) zero row links h at =
    let parts = and_parts (not (same_linking first first) || (place_of first == k)) (are_numbered (suc k) rows) h in
    let same : first ≡ row = same_Some first row at in
    let numbered : (not (same_linking row row) || (place_of row == k)) ≡ true =
    subst (λ r. (not (same_linking r r) || (place_of r == k)) ≡ true) same parts.0 in
    let is : (place_of row == k) ≡ true = sym (ap (λ b. not b || (place_of row == k)) links) ∙ numbered in
    let there : place_of row ≡ k = eqb-true (place_of row) k is in
    omega (arith, there)
placed k (first ∷ rows) (suc n) row links h at =
    let parts = and_parts (not (same_linking first first) || (place_of first == k)) (are_numbered (suc k) rows) h in
    let rest : suc k + n ≡ place_of row = placed (suc k) rows n row links parts.1 at in
    omega (arith, rest)

number_of : (number : ℕ) (row : Native) → same_linking row row ≡ true → native_of_row number ≡ Some row → number ≡ place_of row
number_of number row links at = let is : 0 + number ≡ place_of row = placed 0 natives number row links refl at in omega (arith, is)

-- ---- what rows link

to_string_link : IsNativeLink (place_of StringToString) end.Return (end.Parameter 0)
unfolding native_links built_in methods_of chain_of
to_string_link = record { links = result_and_receiver; row_has = (0, omega arith, refl); among = inl (0, omega arith, refl) }

append_link : (shown : Shown) → IsNativeLink (place_of (Append shown)) end.Return (end.Parameter 0)
unfolding native_links built_in methods_of chain_of
append_link ShownInt = record { links = result_and_receiver; row_has = (1, omega arith, refl); among = inl (0, omega arith, refl) }
append_link ShownLong = record { links = result_and_receiver; row_has = (2, omega arith, refl); among = inl (0, omega arith, refl) }
append_link ShownChar = record { links = result_and_receiver; row_has = (3, omega arith, refl); among = inl (0, omega arith, refl) }
append_link ShownBoolean = record { links = result_and_receiver; row_has = (4, omega arith, refl); among = inl (0, omega arith, refl) }
append_link ShownText = record { links = result_and_receiver; row_has = (5, omega arith, refl); among = inl (0, omega arith, refl) }

message_link : IsNativeLink (place_of ThrowableInitOf) (end.Parameter 0) (end.Parameter 1)
unfolding native_links built_in methods_of chain_of
message_link = record { links = (end.Parameter 0, end.Parameter 1) ∷ []; row_has = (6, omega arith, refl); among = inl (0, omega arith, refl) }

get_message_link : IsNativeLink (place_of GetMessage) end.Return (end.Parameter 0)
unfolding native_links built_in methods_of chain_of
get_message_link = record { links = result_and_receiver; row_has = (7, omega arith, refl); among = inl (0, omega arith, refl) }

-- after those of FreeMe.link
clone_link : IsNativeLink (place_of ObjectClone) end.Return (end.Parameter 0)
unfolding native_links built_in methods_of chain_of
clone_link = record { links = result_and_receiver; row_has = (10, omega arith, refl); among = inl (0, omega arith, refl) }

-- a built-in method's links are there at once
linked_by_row : (p : Program) (facts : Facts) (target number : ℕ) (a b : End2) → (method_at p.outline.classes target).method.row ≡ Some number
    → IsNativeLink number a b → Linked p facts.typing target a b
unfolding LinkedIn
linked_by_row p facts target number a b is link =
    (0, inr (IsSomeAnd-from_some (method_at p.outline.classes target).method.row (λ row. IsNativeLink row a b) number is link))

-- ---- at a call

module _ (p : Program) (facts : Facts) (exact : AreFacts p facts) (f : Frame) (i : Insn) (h : AtInsn p facts f i) (target : ℕ) (row : Native) (c : CallsNative p facts f h.code i target row) where
  abbrev Row : Effect → Type 0
  Row e = Owes p facts exact f i h e

  keeps : (k : ℕ) → stores_over k i ≡ false
  keeps k = call_keeps (x p facts exact f i h) i c.call c.call_is k

  falls : falls_through i ≡ true
  falls = call_falls (x p facts exact f i h) i c.call c.call_is

  native_class : (one other : End2) (a b : Node) → IsEnd p.outline target one → IsEnd p.outline target other → IsNativeLink c.number one other
      → StandsFor (x p facts exact f i h) f.item i one a → StandsFor (x p facts exact f i h) f.item i other b
      → IsNode (x p facts exact f i h) a → IsNode (x p facts exact f i h) b → facts.class f.method a ≡ facts.class f.method b
  native_class one other a b first_end second_end link first second first_node second_node =
      pair_at p facts exact f i h a b first_node second_node (inr (inr (inl (record {
        called = c.call;
        is = c.call_is;
        target = target;
        among = c.among;
        one = one;
        other = other;
        first_end = first_end;
        second_end = second_end;
        links = linked_by_row p facts target c.number one other c.number_is link;
        first = first;
        second = second;
      }))))

  -- the words of the parameters: the receiver is the lowest that is taken
  parameter_word : (n k : ℕ) → n + k + 1 ≡ native_words row → StandsFor (x p facts exact f i h) f.item i (end.Parameter k) (word (point p facts exact f i h) n)
  parameter_word n k place =
      let taken = c.words in
      let deep = c.deep in
      let level : length f.stack - 1 - n ≡ depth_below (x p facts exact f i h) f.item i + k = let same = depth_level p facts exact f i h in omega (arith, same, taken) in
      ap (λ d. Slot f.item d) level

  result_word : (e : Effect) (next : ℕ) → IsNormalEdge h.code f.item next → length e.gives ≡ 1 → e.takes ≡ native_words row
      → StandsFor (x p facts exact f i h) f.item i end.Return (given (point p facts exact f i h) e next 0)
  result_word e next edge one takes =
      let taken = c.words in given_stands p facts exact f i h e next 0 0 edge (takes ∙ sym taken) (sym one)

  -- ---- shapes

  words_of : (takes : ℕ) (gives : List Source) → native_words row ≤ takes → AllByRecursion IsPlainSource gives → Row (words takes gives)
  words_of takes gives le plain = let taken = c.words in words_obey p facts exact f i h keeps falls takes gives plain (omega (arith, taken))

  plain_of : (e : Effect) → e.actions ≡ [] → e.writes ≡ [] → AllByRecursion IsPlainSource e.gives → LeadsRight i e.next
      → EndsEvenly p.outline (point p facts exact f i h) 0 i e.next → native_words row ≤ e.takes → Row e
  plain_of e acts writes plain leads ends le =
      let taken = c.words in plain_obeys p facts exact f i h keeps e acts writes plain leads ends (omega (arith, taken))

  text_of : (takes : ℕ) (units : List ℕ) → native_words row ≤ takes → Row (making takes (table.text_made p.outline units))
  text_of takes units le =
      let taken = c.words in
      let e : Effect = making takes (table.text_made p.outline units) in
      goes_obey p facts exact f i h e (home_of p facts exact f i h e) (inr refl, tt) falls tt
      (gives_one p facts exact f i h e (home_of p facts exact f i h e) (OfMade 0) refl
      (λ next edge there. ap (λ n. facts.class f.method (given (point p facts exact f i h) e n 0))
      (sym (only_next h.code f.item next i h.insn_is (call_no_targets (x p facts exact f i h) i c.call c.call_is) edge))))
      tt (λ k unwritten. keeps k) (omega (arith, taken))

  null_put : (takes : ℕ) → native_words row ≤ takes → Row (acting takes (Put (OfOperand 0) 0 (table.text_kind p.outline) (Plain null) ∷ []))
  null_put takes le =
      let taken = c.words in
      goes_obey p facts exact f i h (acting takes (Put (OfOperand 0) 0 (table.text_kind p.outline) (Plain null) ∷ [])) 0
      ((facts.class f.method (word (point p facts exact f i h) 0), tt, (λ node. refl), refl, refl), tt) falls tt (λ next edge q s at node. absurd (cc)) tt
      (λ k unwritten. keeps k) (omega (arith, taken))

  -- a new text is put into an operand's object
  text_put : (takes operand : ℕ) (units : List ℕ) → native_words row ≤ takes → Row (acting takes (table.has_text p.outline operand units))
  text_put takes operand units le =
      let taken = c.words in
      let home : ℕ = facts.class f.method (word (point p facts exact f i h) operand) in
      goes_obey p facts exact f i h (acting takes (table.has_text p.outline operand units)) home
      (inr refl, ((home, tt, (λ node. refl), refl, tt), tt)) falls tt (λ next edge q s at node. absurd (cc)) tt
      (λ k unwritten. keeps k) (omega (arith, taken))

  -- an operand that the receiver is is given back
  receiver_given : (e : Effect) (home next n : ℕ) → IsNormalEdge h.code f.item next → length e.gives ≡ 1 → e.takes ≡ native_words row
      → n + 1 ≡ native_words row → IsEnd p.outline target end.Return → IsEnd p.outline target (end.Parameter 0)
      → IsNativeLink c.number end.Return (end.Parameter 0)
      → IsNode (x p facts exact f i h) (given (point p facts exact f i h) e next 0) → IsNode (x p facts exact f i h) (word (point p facts exact f i h) n)
      → facts.class f.method (word (point p facts exact f i h) n) ≡ facts.class f.method (given (point p facts exact f i h) e next 0)
  receiver_given e home next n edge one takes place result receiver link there node =
      sym (native_class end.Return (end.Parameter 0) (given (point p facts exact f i h) e next 0) (word (point p facts exact f i h) n) result receiver link
      (result_word e next edge one takes) (parameter_word n 0 (omega (arith, place))) there node)

  -- append: the receiver gets the longer text, and is given back
  append_put : (n : ℕ) (units : List ℕ) → n + 1 ≡ native_words row → IsEnd p.outline target end.Return → IsEnd p.outline target (end.Parameter 0)
      → IsNativeLink c.number end.Return (end.Parameter 0)
      → Row (record (acting (n + 1) (table.has_text p.outline n units)) { gives = OfOperand n ∷ [] })
  append_put n units place result receiver link =
      let taken = c.words in
      let home : ℕ = facts.class f.method (word (point p facts exact f i h) n) in
      let e : Effect = record (acting (n + 1) (table.has_text p.outline n units)) { gives = OfOperand n ∷ [] } in
      goes_obey p facts exact f i h e home (inr refl, ((home, tt, (λ node. refl), refl, tt), tt)) falls tt
      (gives_one p facts exact f i h e home (OfOperand n) refl
      (λ next edge there node. receiver_given e home next n edge refl place place result receiver link there node))
      tt (λ k unwritten. keeps k) (omega (arith, taken, place))

  -- ---- how rows end

  failures : Failures p.outline Row
  failures = record {
    raised = λ name. thrown_obeys p facts exact f i h keeps (name_of name);
    none = stuck_obeys p facts exact f i h;
    lost = λ n. faulty_obeys p facts exact f i h n;
  }

  lost_inside : (n : ℕ) → Row (going 0 (Faults (OfPlace n 0 (table.text_kind p.outline))))
  lost_inside n = fault_obeys p facts exact f i h 0 (OfPlace n 0 (table.text_kind p.outline))

  enough : (n : ℕ) → Takes row n → native_words row ≤ n
  enough n takes = omega (arith, takes)

  -- ---- what only one row does

  ends_of : (one : Native) → row ≡ one → NativeEnds p.outline target one
  ends_of one is = subst (λ r. NativeEnds p.outline target r) is c.ends

  link_of : (one : Native) → row ≡ one → same_linking one one ≡ true → (a b : End2) → IsNativeLink (place_of one) a b → IsNativeLink c.number a b
  link_of one is links a b link =
      subst (λ n. IsNativeLink n a b) (sym (number_of c.number one links (c.row_is ∙ ap Some is))) link

  itself_given : row ≡ StringToString → Row (words 1 (OfOperand 0 ∷ []))
  itself_given is =
      let taken = c.words in
      let one : 1 ≡ native_words row = sym (ap native_words is) in
      let ends = ends_of StringToString is in
      let e : Effect = words 1 (OfOperand 0 ∷ []) in
      goes_obey p facts exact f i h e 0 tt falls tt
      (gives_one p facts exact f i h e 0 (OfOperand 0) refl
      (λ next edge there node. receiver_given e 0 next 0 edge refl one (omega (arith, one)) ends.0 ends.1
      (link_of StringToString is refl end.Return (end.Parameter 0) to_string_link) there node))
      tt (λ k unwritten. keeps k) (omega (arith, taken, one))

  message_given : row ≡ GetMessage → Row (words 1 (OfPlace 0 0 (table.text_kind p.outline) ∷ []))
  message_given is =
      let taken = c.words in
      let one : 1 ≡ native_words row = sym (ap native_words is) in
      let ends = ends_of GetMessage is in
      let e : Effect = words 1 (OfPlace 0 0 (table.text_kind p.outline) ∷ []) in
      goes_obey p facts exact f i h e 0 tt falls tt
      (gives_one p facts exact f i h e 0 (OfPlace 0 0 (table.text_kind p.outline)) refl
      (λ next edge there node. receiver_given e 0 next 0 edge refl one (omega (arith, one)) ends.0 ends.1
      (link_of GetMessage is refl end.Return (end.Parameter 0) get_message_link) there node))
      tt (λ k unwritten. keeps k) (omega (arith, taken, one))

  appended : (shown : Shown) → row ≡ Append shown → (units : List ℕ)
      → Row (record (acting (table.shown_words shown + 1) (table.has_text p.outline (table.shown_words shown) units)) { gives = OfOperand (table.shown_words shown) ∷ [] })
  appended shown is units =
      let ends = ends_of (Append shown) is in
      append_put (table.shown_words shown) units (sym (ap native_words is)) ends.0 ends.1
      (link_of (Append shown) is (itself shown) end.Return (end.Parameter 0) (append_link shown))

  message_put : row ≡ ThrowableInitOf → Row (acting 2 (Put (OfOperand 1) 0 (table.text_kind p.outline) (OfOperand 0) ∷ []))
  message_put is =
      let taken = c.words in
      let deep = c.deep in
      let two : 2 ≡ native_words row = sym (ap native_words is) in
      let ends = ends_of ThrowableInitOf is in
      let level : length f.stack - native_words row + 1 ≡ length f.stack - 1 - 0 = omega (arith, two) in
      let node : IsNode (x p facts exact f i h) (word (point p facts exact f i h) 0) =
      subst (λ d. IsNode (x p facts exact f i h) (Slot f.item d)) level (c.arguments 1 ends.1) in
      goes_obey p facts exact f i h (acting 2 (Put (OfOperand 1) 0 (table.text_kind p.outline) (OfOperand 0) ∷ [])) 0 (
        (
          facts.class f.method (word (point p facts exact f i h) 0),
          tt,
          (λ there. native_class (end.Parameter 0) (end.Parameter 1) (word (point p facts exact f i h) 1) (word (point p facts exact f i h) 0) ends.0 ends.1
              (link_of ThrowableInitOf is refl (end.Parameter 0) (end.Parameter 1) message_link)
              (parameter_word 1 0 (omega (arith, two))) (parameter_word 0 1 (omega (arith, two))) there node),
          (λ there. refl),
          (node, omega (arith, two)),
        ),
        tt,
      )
      falls tt (λ next edge q s at there. absurd (cc)) tt (λ k unwritten. keeps k) (omega (arith, taken, two))

  -- what lives for ever has any region
  class_of : row ≡ ObjectGetClass → (type : ℕ) → Row (giving_literal 1 (class_literal p.outline type))
  class_of is type =
      let taken = c.words in
      let one : 1 ≡ native_words row = sym (ap native_words is) in
      let e : Effect = giving_literal 1 (class_literal p.outline type) in
      goes_obey p facts exact f i h e 0 (tt, tt) falls tt
      (gives_one p facts exact f i h e 0 (OfLiteral (class_literal p.outline type)) refl (λ next edge there. tt))
      tt (λ k unwritten. keeps k) (omega (arith, taken, one))

  -- a copy is made in the class of the receiver, and is given
  copy_given : row ≡ ObjectClone → (t : TypeRef) (len : ℕ) → Row (making 1 (Copy t len 0))
  copy_given is t len =
      let taken = c.words in
      let one : 1 ≡ native_words row = sym (ap native_words is) in
      let ends = ends_of ObjectClone is in
      let e : Effect = making 1 (Copy t len 0) in
      let home : ℕ = facts.class f.method (word (point p facts exact f i h) 0) in
      let level : length f.stack - native_words row + 0 ≡ length f.stack - 1 - 0 = omega (arith, one) in
      let node : IsNode (x p facts exact f i h) (word (point p facts exact f i h) 0) =
      subst (λ d. IsNode (x p facts exact f i h) (Slot f.item d)) level (c.arguments 0 ends.1) in
      goes_obey p facts exact f i h e home ((λ there. refl), tt) falls tt
      (gives_one p facts exact f i h e home (OfMade 0) refl
      (λ next edge there.
      receiver_given e home next 0 edge refl one (omega (arith, one)) ends.0 ends.1
      (link_of ObjectClone is refl end.Return (end.Parameter 0) clone_link) there node))
      tt (λ k unwritten. keeps k) (omega (arith, taken, one))

  -- ---- all rows: those of FreeMe have no ends

  leaves : (s : List Sight) → NativeLeaves p.outline s row Any Row
  leaves s = record {
    nothing = λ n takes returns. words_of n [] (enough n takes) tt;
    number = λ n shown is takes returns z. words_of n (int_word z) (enough n takes) (tt, tt);
    same = λ n takes returns. words_of n (SameOperands ∷ []) (enough n takes) (tt, tt);
    text_given = λ n takes returns units fit. text_of n units (enough n takes);
    byte = λ n takes returns z. plain_of (record (words n (int_word z)) { reads = true }) refl refl (tt, tt) falls tt (enough n takes);
    printed = λ n takes returns bytes. plain_of (printing n bytes) refl refl tt falls tt (enough n takes);
    exits = λ n takes z. plain_of (going n (Exits z)) refl refl tt tt tt (enough n takes);
    outside = failures.raised TextOutside;
    begun = λ it seen hides takes returns. null_put 1 (enough 1 takes);
    text_put = λ n operand it seen hides takes returns units fit. text_put n operand units (enough n takes);
    itself = λ is. itself_given is;
    appended = λ shown is it seen builds units fit. appended shown is units;
    message_put = λ is it seen may. message_put is;
    message_given = λ is it seen may. message_given is;
    class_given = λ is it seen type inside. class_of is type;
    unnumbered = λ is it seen none. failures.none;
    freed = λ is it seen. absurd (ends_of FreeMeFree is);
    unlinked = λ is. absurd (ends_of FreeMeLink is);
    linked = λ is it seen loose. absurd (ends_of FreeMeLink is);
    chain_freed = λ is. absurd (ends_of FreeMeFreeChain is);
    copied = λ is it seen may. copy_given is it.type it.len;
    uncopied = λ is. failures.raised NotCloneable;
  }

module _ (p : Program) (facts : Facts) (exact : AreFacts p facts) (f : Frame) (i : Insn) (h : AtInsn p facts f i) (target : ℕ) where
  pub native_obeys : (row : Native) (c : CallsNative p facts f h.code i target row) (byte : Option ℕ) (s : List Sight)
      → Owes p facts exact f i h (table.native_effect p.outline row byte s)
  native_obeys row c byte s =
      each_native p.outline s (Row p facts exact f i h target row c) (failures p facts exact f i h target row c)
      (λ n it seen hides. lost_inside p facts exact f i h target row c n) row (leaves p facts exact f i h target row c s) byte
