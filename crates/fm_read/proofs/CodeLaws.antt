-- The code that is read from the bytes of a Code attribute is the one that they spell.
use Rattle.std.proofs.Common.{◌≡◌, ℕ, ◌<◌, ◌≤◌, true, false, cond, eqb, leb, List, [], ◌∷◌, ◌++◌, length, Option, Some, None, refl, sym, ap, subst, ◌∙◌, append_assoc, arith, inl, inr}
use Rattle.std.specs.List.{flat_map}
use Rattle.std.proofs.lemmas.Bool.{cases_Bool, eqb-true, eqb-false, ne_eqb, leb-true, le-leb}
use Rattle.std.proofs.lemmas.List.{append-nil}
use Rattle.fm_base.proofs.ListFacts.{AllByRecursion-both, AllByRecursion-weaker}
use Rattle.fm_base.proofs.OptionFacts.{same_value, cond-some_then}
use Rattle.fm_code.specs.ClassBytes.{code_attribute_bytes, code_bytes, counted, handler_bytes, item_bytes}
use Rattle.fm_code.specs.CodeRules.{CodeAttrIsValid, HandlerIsValid}
use Rattle.fm_code.specs.Fits.{AreBytes, CodeAttrFits, CountedFits, FitsFour, FitsTwo}
use Rattle.fm_code.specs.Numbers.{two, four}
use Rattle.fm_code.specs.Operands.{OperandIsValid}
use Rattle.fm_code.specs.SpellsCode.{LocalsFit}
use Rattle.fm_code.specs.inner.Reading.{◌>>=◌, Fails, number_at, bytes_at, counted_at}
use Rattle.fm_code.specs.declared.code_array.TheConstants.{MAX_CODE_BYTES}
use Rattle.fm_code.specs.declared.code_array.Code.{Code}
use Rattle.fm_code.specs.declared.code_array.CodeAttr.{CodeAttr}
use Rattle.fm_code.specs.declared.code_array.Handler.{Handler}
use Rattle.fm_code.specs.declared.code_array.Item.{Item}
use Rattle.fm_code.specs.declared.constant_pool.Entry.{Entry}
use Rattle.fm_code.specs.declared.error.PieceFail.{PieceFail}
use Rattle.fm_code.specs.declared.error.PieceFail.TheVariants as fail
use Rattle.fm_code.proofs.CodeItems.{AreLaid, AreLaid-code, one_code}
use Rattle.fm_code.proofs.CodePrefixes.{AreBytes-items}
use Rattle.fm_code.proofs.Pieces.{all_of, then_all, bind_some, some_is, Takes, Takes-then, IsPiece, two_piece, four_piece, bytes_takes, bytes_again, counted_piece}
use Rattle.fm_read.specs.inner.Items.{AreItemsOf, ItemIsValid}
use Rattle.fm_read.specs.inner.Places.{offsets_of}
use Rattle.fm_read.specs.inner.ReadingCode.{CodeHead, CodeTables, attribute_at, handler_at, head_at, is_code_length, tables_of}
use Rattle.fm_read.specs.Code.{IsCodeOf}
use Rattle.fm_read.proofs.AttributePieces.{CodeAttrIsRight, attribute_piece}
use Rattle.fm_read.proofs.TablePieces.{HandlerIsRight, handler_piece}
use Rattle.fm_read.proofs.PlaceLaws.{NamePlaces, NamePlaces-laid}

-- ---- what is before the tables

-- a code array may have this number of bytes
pub record IsCodeLength (size : ℕ) : Type 0 where
  pub some : 0 < size
  pub short : size ≤ MAX_CODE_BYTES

is_code_length-holds : (size : ℕ) → is_code_length size ≡ true → IsCodeLength size
is_code_length-holds size e =
    elim (cases_Bool (eqb size 0)) [
      | inl none ↦ absurd (let no : false ≡ true = rw none at e in cc)
      | inr other ↦ (let apart = eqb-false size 0 other in let short : leb size MAX_CODE_BYTES ≡ true = rw other at e in
          record { some = omega arith; short = leb-true size MAX_CODE_BYTES short })
    ]

is_code_length-from : (size : ℕ) → IsCodeLength size → is_code_length size ≡ true
is_code_length-from size right =
    let some = right.some in
    rw (ne_eqb size 0 (λ same. omega arith), le-leb size MAX_CODE_BYTES right.short) refl

abbrev pub head_bytes : CodeHead → List ℕ
head_bytes h = two h.max_stack ++ (two h.max_locals ++ (four (length h.code) ++ h.code))

pub record HeadIsRight (h : CodeHead) : Type 0 where
  pub max_stack : FitsTwo h.max_stack
  pub max_locals : FitsTwo h.max_locals
  pub size : IsCodeLength (length h.code)

head_takes : (bytes : List ℕ) (x : CodeHead × List ℕ) → AreBytes bytes → head_at bytes ≡ Some x → Takes bytes (head_bytes x.0) x.1 × HeadIsRight x.0 × AreBytes x.0.code
unfolding head_at
head_takes bytes x fits e =
    let done : ℕ × List ℕ → ℕ × List ℕ → ℕ × List ℕ → List ℕ × List ℕ → Option (CodeHead × List ℕ) = λ stack locals size code.
    cond (is_code_length size.0) (Some (record { max_stack = stack.0; max_locals = locals.0; code = code.0 }, code.1)) None in
    let a = bind_some (number_at 2 bytes) (λ stack. number_at 2 stack.1 >>= λ locals. number_at 4 locals.1 >>= λ size. bytes_at size.0 size.1 >>= done stack locals size) x e in
    let b = bind_some (number_at 2 a.0.1) (λ locals. number_at 4 locals.1 >>= λ size. bytes_at size.0 size.1 >>= done a.0 locals size) x a.2 in
    let c = bind_some (number_at 4 b.0.1) (λ size. bytes_at size.0 size.1 >>= done a.0 b.0 size) x b.2 in
    let d = bind_some (bytes_at c.0.0 c.0.1) (done a.0 b.0 c.0) x c.2 in
    let h : CodeHead = record { max_stack = a.0.0; max_locals = b.0.0; code = d.0.0 } in
    let long = cond-some_then (is_code_length c.0.0) (Some (h, d.0.1)) x d.2 in
    let t0 = two_piece.takes bytes a.0 fits a.1 in
    let t1 = two_piece.takes a.0.1 b.0 t0.0.rest_fits b.1 in
    let t2 = four_piece.takes b.0.1 c.0 t1.0.rest_fits c.1 in
    let t3 = bytes_takes c.0.0 c.0.1 d.0 t2.0.rest_fits d.1 in
    let sized : Takes b.0.1 (four (length d.0.0)) c.0.1 = subst (λ (n : ℕ). Takes b.0.1 (four n) c.0.1) {x = c.0.0} {y = length d.0.0} (sym {a = length d.0.0} {b = c.0.0} t3.1) t2.0 in
    let size : IsCodeLength (length d.0.0) = subst IsCodeLength {x = c.0.0} {y = length d.0.0} (sym {a = length d.0.0} {b = c.0.0} t3.1) (is_code_length-holds c.0.0 long.0) in
    let e2 = Takes-then b.0.1 (four (length d.0.0)) c.0.1 d.0.0 d.0.1 sized t3.0 in
    let e1 = Takes-then a.0.1 (two b.0.0) b.0.1 (four (length d.0.0) ++ d.0.0) d.0.1 t1.0 e2 in
    let e0 = Takes-then bytes (two a.0.0) a.0.1 (two b.0.0 ++ (four (length d.0.0) ++ d.0.0)) d.0.1 t0.0 e1 in
    subst (λ (y : CodeHead × List ℕ). Takes bytes (head_bytes y.0) y.1 × HeadIsRight y.0 × AreBytes y.0.code) {x = (h, d.0.1)} {y = x} (some_is (h, d.0.1) x long.1)
    (e0, record { max_stack = t0.1; max_locals = t1.1; size = size }, t3.2)

head_again : (h : CodeHead) (rest : List ℕ) → HeadIsRight h → head_at (head_bytes h ++ rest) ≡ Some (h, rest)
unfolding head_at
head_again h rest right =
    let size_fits : FitsFour (length h.code) = let short = right.size.short in omega arith in
    let regrouped : head_bytes h ++ rest ≡ two h.max_stack ++ (two h.max_locals ++ (four (length h.code) ++ (h.code ++ rest))) = simp append_assoc in
    ap head_at regrouped
    ∙ rw (two_piece.again h.max_stack (two h.max_locals ++ (four (length h.code) ++ (h.code ++ rest))) right.max_stack, two_piece.again h.max_locals (four (length h.code) ++ (h.code ++ rest)) right.max_locals, four_piece.again (length h.code) (h.code ++ rest) size_fits, bytes_again (length h.code) h.code rest refl, is_code_length-from (length h.code) right.size) refl

-- ---- the tables

abbrev pub tables_bytes : Code → CodeTables → List ℕ
tables_bytes code t = counted (handler_bytes code) t.handlers ++ counted (code_attribute_bytes code) t.attributes

pub record TablesAreRight (entries : List Entry) (code : Code) (t : CodeTables) : Type 0 where
  pub handlers : CountedFits (HandlerIsRight entries code) t.handlers
  pub attributes : CountedFits (CodeAttrIsRight entries code) t.attributes

handlers_piece : (entries : List Entry) (offsets : List ℕ) (code : Code) → NamePlaces offsets code → IsPiece (counted_at (handler_at entries offsets)) (counted (handler_bytes code)) (CountedFits (HandlerIsRight entries code))
handlers_piece entries offsets code names = counted_piece (handler_at entries offsets) (handler_bytes code) (HandlerIsRight entries code) (handler_piece entries offsets code names)

attributes_piece : (entries : List Entry) (offsets : List ℕ) (code : Code) → NamePlaces offsets code → IsPiece (counted_at (attribute_at entries offsets)) (counted (code_attribute_bytes code)) (CountedFits (CodeAttrIsRight entries code))
attributes_piece entries offsets code names = counted_piece (attribute_at entries offsets) (code_attribute_bytes code) (CodeAttrIsRight entries code) (attribute_piece entries offsets code names)

tables_takes : (entries : List Entry) (offsets : List ℕ) (code : Code) → NamePlaces offsets code → (bytes : List ℕ) (t : CodeTables) → AreBytes bytes → tables_of entries offsets bytes ≡ Some t
    → (bytes ≡ tables_bytes code t) × TablesAreRight entries code t
unfolding tables_of
tables_takes entries offsets code names bytes t fits e =
    let done : List Handler × List ℕ → List CodeAttr × List ℕ → Option CodeTables = λ handlers attributes.
    cond (eqb (length attributes.1) 0) (Some (record { handlers = handlers.0; attributes = attributes.0 })) None in
    let a = bind_some (counted_at (handler_at entries offsets) bytes) (λ handlers. counted_at (attribute_at entries offsets) handlers.1 >>= done handlers) t e in
    let b = bind_some (counted_at (attribute_at entries offsets) a.0.1) (done a.0) t a.2 in
    let made : CodeTables = record { handlers = a.0.0; attributes = b.0.0 } in
    let g = cond-some_then (eqb (length b.0.1) 0) (Some made) t b.2 in
    let t0 = (handlers_piece entries offsets code names).takes bytes a.0 fits a.1 in
    let t1 = (attributes_piece entries offsets code names).takes a.0.1 b.0 t0.0.rest_fits b.1 in
    let last = all_of a.0.1 (counted (code_attribute_bytes code) b.0.0) b.0.1 t1.0 (eqb-true _ _ g.0) in
    let all : bytes ≡ tables_bytes code made = then_all bytes (counted (handler_bytes code) a.0.0) a.0.1 _ t0.0 last in
    subst (λ (u : CodeTables). (bytes ≡ tables_bytes code u) × TablesAreRight entries code u) {x = made} {y = t} (some_is made t g.1)
    (all, record { handlers = t0.1; attributes = t1.1 })

tables_again : (entries : List Entry) (offsets : List ℕ) (code : Code) → NamePlaces offsets code → (t : CodeTables) → TablesAreRight entries code t → tables_of entries offsets (tables_bytes code t) ≡ Some t
unfolding tables_of
tables_again entries offsets code names t right =
    let attributes = counted (code_attribute_bytes code) t.attributes in
    let second : counted_at (attribute_at entries offsets) attributes ≡ Some (t.attributes, []) =
    ap (counted_at (attribute_at entries offsets)) (sym (append-nil attributes)) ∙ (attributes_piece entries offsets code names).again t.attributes [] right.attributes in
    rw ((handlers_piece entries offsets code names).again t.handlers attributes right.handlers, second) refl

-- ---- the whole

-- the parts of a code
abbrev pub head_of : Code → CodeHead
head_of code = record { max_stack = code.max_stack; max_locals = code.max_locals; code = flat_map item_bytes code.items }

abbrev pub tables_in : Code → CodeTables
tables_in code = record { handlers = code.handlers; attributes = code.attributes }

-- a code's bytes are those of its parts
code_bytes-parts : (code : Code) → code.length ≡ length (flat_map item_bytes code.items) → code_bytes code ≡ head_bytes (head_of code) ++ tables_bytes code (tables_in code)
unfolding code_bytes
code_bytes-parts code measured = rw measured (simp (append_assoc, append-nil))

-- the items of a code that is spelled are the ones to be found
pub items_of-code : (entries : List Entry) (bytes : List ℕ) (code : Code) → IsCodeOf entries bytes code → AreItemsOf entries code.max_locals (flat_map item_bytes code.items) code.items
items_of-code entries bytes code is =
    let FitsHere : Item → Type 0 = λ item. LocalsFit code.max_locals item.insn in
    record {
      spelled = is.valid.spelled;
      valid = AllByRecursion-weaker (λ item. FitsHere item × OperandIsValid entries item) (ItemIsValid entries code.max_locals) (λ item both. record { locals = both.0; operand = both.1 }) code.items
          (AllByRecursion-both FitsHere (OperandIsValid entries) code.items is.valid.locals is.valid.operands);
    }

-- its head is what is read
pub head_at-code : (entries : List Entry) (bytes : List ℕ) (code : Code) → IsCodeOf entries bytes code → head_at bytes ≡ Some (head_of code, tables_bytes code (tables_in code))
head_at-code entries bytes code is =
    let measured = is.valid.measured in
    let some = is.valid.not_empty in
    let short = is.valid.not_long in
    let right : HeadIsRight (head_of code) = record { max_stack = is.fits.max_stack; max_locals = is.fits.max_locals; size = record { some = omega arith; short = omega arith } } in
    ap head_at (is.bytes_are ∙ code_bytes-parts code measured) ∙ head_again (head_of code) (tables_bytes code (tables_in code)) right

-- its items lie one after the other
laid_code : (entries : List Entry) (bytes : List ℕ) (code : Code) → IsCodeOf entries bytes code → AreLaid 0 code.items code.length
laid_code entries bytes code is = subst (AreLaid 0 code.items) (sym is.valid.measured) (AreLaid-code (flat_map item_bytes code.items) code.items is.valid.spelled)

-- and its tables are what is read
pub tables_of-code : (entries : List Entry) (bytes : List ℕ) (code : Code) → IsCodeOf entries bytes code → tables_of entries (offsets_of code.items code.length) (tables_bytes code (tables_in code)) ≡ Some (tables_in code)
tables_of-code entries bytes code is =
    let names = NamePlaces-laid code (laid_code entries bytes code is) is.valid.not_long in
    let CatchFits : Handler → Type 0 = λ h. FitsTwo h.catch_class in
    let count = length code.items in
    let right : TablesAreRight entries code (tables_in code) = record {
      handlers = record { count = is.fits.handlers.count; each = AllByRecursion-both CatchFits (HandlerIsValid entries count) code.handlers is.fits.handlers.each is.valid.handlers };
      attributes = record { count = is.fits.attributes.count; each = AllByRecursion-both CodeAttrFits (CodeAttrIsValid entries count) code.attributes is.fits.attributes.each is.valid.attributes };
    } in
    tables_again entries (offsets_of code.items code.length) code names (tables_in code) right

-- a code whose parts are those that were read
pub record IsMade (entries : List Entry) (bytes : List ℕ) (code : Code) (rest : List ℕ) : Type 0 where
  pub head : head_at bytes ≡ Some (head_of code, rest)
  pub measured : code.length ≡ length (flat_map item_bytes code.items)
  pub items : AreItemsOf entries code.max_locals (flat_map item_bytes code.items) code.items
  pub tables : tables_of entries (offsets_of code.items code.length) rest ≡ Some (tables_in code)

-- is the code of the bytes
pub IsCodeOf-made : (entries : List Entry) (bytes : List ℕ) (code : Code) (rest : List ℕ) → AreBytes bytes → FitsFour (length bytes) → IsMade entries bytes code rest → IsCodeOf entries bytes code
IsCodeOf-made entries bytes code rest fits size made =
    let h = head_takes bytes (head_of code, rest) fits made.head in
    let some = h.1.size.some in
    let short = h.1.size.short in
    let measured = made.measured in
    let not_long : code.length ≤ MAX_CODE_BYTES = omega arith in
    let laid : AreLaid 0 code.items code.length = subst (AreLaid 0 code.items) (sym measured) (AreLaid-code (flat_map item_bytes code.items) code.items made.items.spelled) in
    let names = NamePlaces-laid code laid not_long in
    let t = tables_takes entries (offsets_of code.items code.length) code names rest (tables_in code) h.0.rest_fits made.tables in
    let bytes_are : bytes ≡ code_bytes code = h.0.parts ∙ ap (λ (r : List ℕ). head_bytes (head_of code) ++ r) t.0 ∙ sym (code_bytes-parts code measured) in
    let CatchFits : Handler → Type 0 = λ x. FitsTwo x.catch_class in
    let FitsHere : Item → Type 0 = λ item. LocalsFit code.max_locals item.insn in
    let count = length code.items in
    record {
      bytes_are = bytes_are;
      fits = record {
        max_stack = h.1.max_stack;
        max_locals = h.1.max_locals;
        code_length = omega arith;
        items = AreBytes-items code.items h.2;
        handlers = record { count = t.1.handlers.count; each = AllByRecursion-weaker (HandlerIsRight entries code) CatchFits (λ x right. right.0) code.handlers t.1.handlers.each };
        attributes = record { count = t.1.attributes.count; each = AllByRecursion-weaker (CodeAttrIsRight entries code) CodeAttrFits (λ x right. right.0) code.attributes t.1.attributes.each };
        size = subst (λ (b : List ℕ). FitsFour (length b)) bytes_are size;
      };
      valid = record {
        not_empty = omega arith;
        not_long = not_long;
        measured = measured;
        spelled = made.items.spelled;
        locals = AllByRecursion-weaker (ItemIsValid entries code.max_locals) FitsHere (λ item valid. valid.locals) code.items made.items.valid;
        operands = AllByRecursion-weaker (ItemIsValid entries code.max_locals) (OperandIsValid entries) (λ item valid. valid.operand) code.items made.items.valid;
        handlers = AllByRecursion-weaker (HandlerIsRight entries code) (HandlerIsValid entries count) (λ x right. right.1) code.handlers t.1.handlers.each;
        attributes = AllByRecursion-weaker (CodeAttrIsRight entries code) (CodeAttrIsValid entries count) (λ x right. right.1) code.attributes t.1.attributes.each;
      };
    }

-- ---- why nothing is read

-- what is spelled can't be malformed
pub not_malformed : {Y : Type 0} (e : PieceFail) (reading : Option Y) (y : Y) → Fails e reading → reading ≡ Some y → e ≡ fail.Malformed → ⊥
not_malformed fail.Malformed reading y fails there e = absurd cc
not_malformed fail.NoMemory reading y fails there e = absurd cc

-- ---- what was read, and what is spelled

-- the code array that was read has a length that it may have
pub head_length : (bytes : List ℕ) (h : CodeHead) (rest : List ℕ) → AreBytes bytes → head_at bytes ≡ Some (h, rest) → length h.code ≤ MAX_CODE_BYTES
head_length bytes h rest fits e = (head_takes bytes (h, rest) fits e).1.size.short

-- the head that was read is that of the code
same_head : (entries : List Entry) (bytes : List ℕ) (code : Code) (h : CodeHead) (rest : List ℕ) → head_at bytes ≡ Some (h, rest) → IsCodeOf entries bytes code
    → (head_of code ≡ h) × (tables_bytes code (tables_in code) ≡ rest)
same_head entries bytes code h rest e is =
    let same = same_value (head_at bytes) (head_of code, tables_bytes code (tables_in code)) (h, rest) (head_at-code entries bytes code is) e in
    (ap (λ (x : CodeHead × List ℕ). x.0) same, ap (λ (x : CodeHead × List ℕ). x.1) same)

-- so are the items
pub items_there : (entries : List Entry) (bytes : List ℕ) (code : Code) (h : CodeHead) (rest : List ℕ) → head_at bytes ≡ Some (h, rest) → IsCodeOf entries bytes code
    → AreItemsOf entries h.max_locals h.code code.items
items_there entries bytes code h rest e is =
    subst (λ (x : CodeHead). AreItemsOf entries x.max_locals x.code code.items) (same_head entries bytes code h rest e is).0 (items_of-code entries bytes code is)

-- and the tables
pub tables_there : (entries : List Entry) (bytes : List ℕ) (code : Code) (h : CodeHead) (rest : List ℕ) (items : List Item) (offsets : List ℕ) → head_at bytes ≡ Some (h, rest) → AreItemsOf entries h.max_locals h.code items
    → offsets ≡ offsets_of items (length h.code) → IsCodeOf entries bytes code → tables_of entries offsets rest ≡ Some (tables_in code)
tables_there entries bytes code h rest items offsets e are places is =
    let head = same_head entries bytes code h rest e is in
    let same_items : items ≡ code.items = one_code h.code items code.items are.spelled (items_there entries bytes code h rest e is).spelled in
    let same_length : length h.code ≡ code.length = ap (λ (x : CodeHead). length x.code) (sym head.0) ∙ sym is.valid.measured in
    let same_places : offsets ≡ offsets_of code.items code.length = places ∙ (λ k. offsets_of (same_items k) (same_length k)) in
    (λ k. tables_of entries (same_places k) (sym head.1 k)) ∙ tables_of-code entries bytes code is

-- the code that is made of what was read is that of the bytes
pub code_found : (entries : List Entry) (bytes : List ℕ) (code : Code) (h : CodeHead) (rest : List ℕ) (items : List Item) (offsets : List ℕ) (t : CodeTables) → AreBytes bytes → FitsFour (length bytes)
    → head_at bytes ≡ Some (h, rest) → AreItemsOf entries h.max_locals h.code items → offsets ≡ offsets_of items (length h.code) → tables_of entries offsets rest ≡ Some t
    → code.max_stack ≡ h.max_stack → code.max_locals ≡ h.max_locals → code.items ≡ items → code.length ≡ length h.code → tables_in code ≡ t → IsCodeOf entries bytes code
code_found entries bytes code h rest items offsets t fits size head are places tables stack locals items_are length_is tables_are =
    let array : flat_map item_bytes code.items ≡ h.code = ap (flat_map item_bytes) items_are ∙ sym are.spelled.bytes_are in
    let same_head : h ≡ head_of code = λ k. record { max_stack = sym stack k; max_locals = sym locals k; code = sym array k } in
    let same_places : offsets ≡ offsets_of code.items code.length = places ∙ (λ k. offsets_of (sym items_are k) (sym length_is k)) in
    IsCodeOf-made entries bytes code rest fits size (record {
      head = head ∙ ap (λ (x : CodeHead). Some (x, rest)) same_head;
      measured = length_is ∙ ap length (sym array);
      items = let are_here : AreItemsOf entries code.max_locals (flat_map item_bytes code.items) items = subst (λ (x : CodeHead). AreItemsOf entries x.max_locals x.code items) same_head are in
          subst (AreItemsOf entries code.max_locals (flat_map item_bytes code.items)) (sym items_are) are_here;
      tables = ap (λ (os : List ℕ). tables_of entries os rest) (sym same_places) ∙ tables ∙ ap Some (sym tables_are);
    })
