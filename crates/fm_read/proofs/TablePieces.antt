-- The entries of a Code attribute's tables: what is read is spelled so and meets its rule, and what is spelled so is read.
use Rattle.std.proofs.Common.{◌≡◌, ℕ, ◌+◌, ◌-◌, ◌<◌, ◌≤◌, ◌⊎◌, inl, inr, Bool, true, cond, eqb, ltb, List, [], ◌++◌, length, Option, Some, None, IsSome, refl, sym, ap, subst, ◌∙◌, append_assoc, arith}
use Rattle.std.specs.Option.{is_some}
use Rattle.std.proofs.lemmas.Bool.{cases_Bool, cases_lt, eqb-true, eq-eqb, ltb-true, lt-ltb}
use Rattle.fm_base.proofs.OptionFacts.{cond-some_then}
use Rattle.fm_code.specs.ClassBytes.{handler_bytes, line_bytes, offset_of, var_bytes}
use Rattle.fm_code.specs.CodeRules.{HandlerIsValid, VarIsValid}
use Rattle.fm_code.specs.ConstantPool.{class_name_at, utf8_at}
use Rattle.fm_code.specs.Fits.{AreBytes, FitsTwo, VarFits}
use Rattle.fm_code.specs.Numbers.{two}
use Rattle.fm_code.specs.inner.Reading.{◌>>=◌, number_at}
use Rattle.fm_code.specs.declared.code_array.Code.{Code}
use Rattle.fm_code.specs.declared.code_array.Handler.{Handler}
use Rattle.fm_code.specs.declared.code_array.Line.{Line}
use Rattle.fm_code.specs.declared.code_array.Var.{Var}
use Rattle.fm_code.specs.declared.constant_pool.Entry.{Entry}
use Rattle.fm_code.proofs.Pieces.{bind_some, some_is, Takes, Takes-then, IsPiece, two_piece}
use Rattle.fm_read.specs.inner.Places.{find_item, find_place}
use Rattle.fm_read.specs.inner.ReadingCode.{catch_class_at, handler_at, is_catch_class, line_at, named_item_at, named_place_at, text_index_at, var_at}
use Rattle.fm_read.proofs.PlaceLaws.{NamePlaces, find_item-at, find_item-some}

-- ---- numbers that name something

-- the bytes of a place are those of its offset
abbrev pub place_bytes : Code → ℕ → List ℕ
place_bytes code k = two (offset_of code k)

abbrev pub IsPlace : Code → ℕ → Type 0
IsPlace code k = k ≤ length code.items

abbrev pub IsItem : Code → ℕ → Type 0
IsItem code k = k < length code.items

place_takes : (offsets : List ℕ) (code : Code) → NamePlaces offsets code → (bytes : List ℕ) (x : ℕ × List ℕ) → AreBytes bytes → named_place_at offsets bytes ≡ Some x
    → Takes bytes (place_bytes code x.0) x.1 × IsPlace code x.0
unfolding named_place_at
place_takes offsets code names bytes x fits e =
    let a = bind_some (number_at 2 bytes) (λ offset. find_place offsets offset.0 >>= λ place. Some (place, offset.1)) x e in
    let b = bind_some (find_place offsets a.0.0) (λ place. Some (place, a.0.1)) x a.2 in
    let t = two_piece.takes bytes a.0 fits a.1 in
    let there = names.found a.0.0 b.0 b.1 in
    let made : ℕ × List ℕ = (b.0, a.0.1) in
    subst (λ (y : ℕ × List ℕ). Takes bytes (place_bytes code y.0) y.1 × IsPlace code y.0) (some_is made x b.2)
    (subst (λ (n : ℕ). Takes bytes (two n) a.0.1) (sym there.1) t.0, there.0)

place_again : (offsets : List ℕ) (code : Code) → NamePlaces offsets code → (k : ℕ) (rest : List ℕ) → IsPlace code k → named_place_at offsets (place_bytes code k ++ rest) ≡ Some (k, rest)
unfolding named_place_at
place_again offsets code names k rest within = rw (two_piece.again (offset_of code k) rest (names.fit k), names.finds k within) refl

pub place_piece : (offsets : List ℕ) (code : Code) → NamePlaces offsets code → IsPiece (named_place_at offsets) (place_bytes code) (IsPlace code)
place_piece offsets code names = record { takes = place_takes offsets code names; again = place_again offsets code names }

item_takes : (offsets : List ℕ) (code : Code) → NamePlaces offsets code → (bytes : List ℕ) (x : ℕ × List ℕ) → AreBytes bytes → named_item_at offsets bytes ≡ Some x
    → Takes bytes (place_bytes code x.0) x.1 × IsItem code x.0
unfolding named_item_at
item_takes offsets code names bytes x fits e =
    let a = bind_some (number_at 2 bytes) (λ offset. find_item offsets offset.0 >>= λ item. Some (item, offset.1)) x e in
    let b = bind_some (find_item offsets a.0.0) (λ item. Some (item, a.0.1)) x a.2 in
    let t = two_piece.takes bytes a.0 fits a.1 in
    let item = find_item-some offsets a.0.0 b.0 b.1 in
    let there = names.found a.0.0 b.0 item.0 in
    let count = names.count in
    let inside : IsItem code b.0 = omega (arith, item.1) in
    let made : ℕ × List ℕ = (b.0, a.0.1) in
    subst (λ (y : ℕ × List ℕ). Takes bytes (place_bytes code y.0) y.1 × IsItem code y.0) (some_is made x b.2)
    (subst (λ (n : ℕ). Takes bytes (two n) a.0.1) (sym there.1) t.0, inside)

item_again : (offsets : List ℕ) (code : Code) → NamePlaces offsets code → (k : ℕ) (rest : List ℕ) → IsItem code k → named_item_at offsets (place_bytes code k ++ rest) ≡ Some (k, rest)
unfolding named_item_at
item_again offsets code names k rest inside =
    let count = names.count in
    let item = find_item-at offsets (offset_of code k) k (names.finds k (omega arith)) (omega arith) in
    rw (two_piece.again (offset_of code k) rest (names.fit k), item) refl

pub item_piece : (offsets : List ℕ) (code : Code) → NamePlaces offsets code → IsPiece (named_item_at offsets) (place_bytes code) (IsItem code)
item_piece offsets code names = record { takes = item_takes offsets code names; again = item_again offsets code names }

-- 0, or the index of a class
abbrev pub IsCatchClass : List Entry → ℕ → Type 0
IsCatchClass entries index = (index ≡ 0) ⊎ IsSome (class_name_at entries index)

is_catch_class-holds : (entries : List Entry) (index : ℕ) → is_catch_class entries index ≡ true → IsCatchClass entries index
is_catch_class-holds entries index e =
    elim (cases_Bool (eqb index 0)) [
      | inl zero_is ↦ inl (eqb-true index 0 zero_is)
      | inr other ↦ inr (rw other at e)
    ]

is_catch_class-from : (entries : List Entry) (index : ℕ) → IsCatchClass entries index → is_catch_class entries index ≡ true
is_catch_class-from entries index (inl none) = rw (eq-eqb index 0 none) refl
is_catch_class-from entries index (inr class) =
    elim (cases_Bool (eqb index 0)) as (λ _. is_catch_class entries index ≡ true) [
      | inl zero_is ↦ rw zero_is refl
      | inr other ↦ rw other class
    ]

abbrev pub CatchClassFits : List Entry → ℕ → Type 0
CatchClassFits entries index = FitsTwo index × IsCatchClass entries index

-- an index that passes a test
tested_takes : (test : ℕ → Bool) (bytes : List ℕ) (x : ℕ × List ℕ) → AreBytes bytes → (number_at 2 bytes >>= λ index. cond (test index.0) (Some index) None) ≡ Some x
    → Takes bytes (two x.0) x.1 × FitsTwo x.0 × (test x.0 ≡ true)
tested_takes test bytes x fits e =
    let a = bind_some (number_at 2 bytes) (λ index. cond (test index.0) (Some index) None) x e in
    let passed = cond-some_then (test a.0.0) (Some a.0) x a.2 in
    let t = two_piece.takes bytes a.0 fits a.1 in
    subst (λ (y : ℕ × List ℕ). Takes bytes (two y.0) y.1 × FitsTwo y.0 × (test y.0 ≡ true)) (some_is a.0 x passed.1) (t.0, t.1, passed.0)

tested_again : (test : ℕ → Bool) (index : ℕ) (rest : List ℕ) → FitsTwo index → test index ≡ true → (number_at 2 (two index ++ rest) >>= λ index. cond (test index.0) (Some index) None) ≡ Some (index, rest)
tested_again test index rest fits passed = rw (two_piece.again index rest fits, passed) refl

pub catch_class_piece : (entries : List Entry) → IsPiece (catch_class_at entries) two (CatchClassFits entries)
unfolding catch_class_at
catch_class_piece entries = record {
  takes = λ bytes x fits e. (let t = tested_takes (is_catch_class entries) bytes x fits e in (t.0, (t.1, is_catch_class-holds entries x.0 t.2)));
  again = λ index rest fits. tested_again (is_catch_class entries) index rest fits.0 (is_catch_class-from entries index fits.1);
}

abbrev pub TextIndexFits : List Entry → ℕ → Type 0
TextIndexFits entries index = FitsTwo index × IsSome (utf8_at entries index)

pub text_index_piece : (entries : List Entry) → IsPiece (text_index_at entries) two (TextIndexFits entries)
unfolding text_index_at
text_index_piece entries = record {
  takes = λ bytes x fits e. (let t = tested_takes (λ index. is_some (utf8_at entries index)) bytes x fits e in (t.0, (t.1, t.2)));
  again = λ index rest fits. tested_again (λ index. is_some (utf8_at entries index)) index rest fits.0 fits.1;
}

-- ---- the exception table

-- nothing after the last piece
Takes-last : (bytes text rest : List ℕ) → AreBytes rest → Takes bytes text rest → Takes bytes (text ++ []) rest
Takes-last bytes text rest fits t = Takes-then bytes text rest [] rest t (record { parts = refl; rest_fits = fits })

abbrev pub HandlerIsRight : List Entry → Code → Handler → Type 0
HandlerIsRight entries code h = FitsTwo h.catch_class × HandlerIsValid entries (length code.items) h

handler_takes : (entries : List Entry) (offsets : List ℕ) (code : Code) → NamePlaces offsets code → (bytes : List ℕ) (x : Handler × List ℕ) → AreBytes bytes → handler_at entries offsets bytes ≡ Some x
    → Takes bytes (handler_bytes code x.0) x.1 × HandlerIsRight entries code x.0
unfolding handler_at
handler_takes entries offsets code names bytes x fits e =
    let place = place_piece offsets code names in
    let item = item_piece offsets code names in
    let done : ℕ × List ℕ → ℕ × List ℕ → ℕ × List ℕ → ℕ × List ℕ → Option (Handler × List ℕ) = λ start end handler class.
    cond (ltb start.0 end.0) (Some (record { start = start.0; end = end.0; handler = handler.0; catch_class = class.0 }, class.1)) None in
    let a = bind_some (named_place_at offsets bytes) (λ start. named_place_at offsets start.1 >>= λ end. named_item_at offsets end.1 >>= λ handler. catch_class_at entries handler.1 >>= done start end handler) x e in
    let b = bind_some (named_place_at offsets a.0.1) (λ end. named_item_at offsets end.1 >>= λ handler. catch_class_at entries handler.1 >>= done a.0 end handler) x a.2 in
    let c = bind_some (named_item_at offsets b.0.1) (λ handler. catch_class_at entries handler.1 >>= done a.0 b.0 handler) x b.2 in
    let d = bind_some (catch_class_at entries c.0.1) (done a.0 b.0 c.0) x c.2 in
    let made : Handler × List ℕ = (record { start = a.0.0; end = b.0.0; handler = c.0.0; catch_class = d.0.0 }, d.0.1) in
    let before = cond-some_then (ltb a.0.0 b.0.0) (Some made) x d.2 in
    let t0 = place.takes bytes a.0 fits a.1 in
    let t1 = place.takes a.0.1 b.0 t0.0.rest_fits b.1 in
    let t2 = item.takes b.0.1 c.0 t1.0.rest_fits c.1 in
    let t3 = (catch_class_piece entries).takes c.0.1 d.0 t2.0.rest_fits d.1 in
    let e3 = Takes-last c.0.1 (two d.0.0) d.0.1 t3.0.rest_fits t3.0 in
    let e2 = Takes-then b.0.1 (place_bytes code c.0.0) c.0.1 (two d.0.0 ++ []) d.0.1 t2.0 e3 in
    let e1 = Takes-then a.0.1 (place_bytes code b.0.0) b.0.1 (place_bytes code c.0.0 ++ (two d.0.0 ++ [])) d.0.1 t1.0 e2 in
    let e0 = Takes-then bytes (place_bytes code a.0.0) a.0.1 (place_bytes code b.0.0 ++ (place_bytes code c.0.0 ++ (two d.0.0 ++ []))) d.0.1 t0.0 e1 in
    subst (λ (y : Handler × List ℕ). Takes bytes (handler_bytes code y.0) y.1 × HandlerIsRight entries code y.0) {x = made} {y = x} (some_is made x before.1)
    (e0, (t3.1.0, record { not_empty = ltb-true _ _ before.0; end = t1.1; handler = t2.1; catch_class = t3.1.1 }))

handler_again : (entries : List Entry) (offsets : List ℕ) (code : Code) → NamePlaces offsets code → (h : Handler) (rest : List ℕ) → HandlerIsRight entries code h → handler_at entries offsets (handler_bytes code h ++ rest) ≡ Some (h, rest)
unfolding handler_at
handler_again entries offsets code names h rest (fits, valid) =
    let place = place_piece offsets code names in
    let item = item_piece offsets code names in
    let start : IsPlace code h.start = let below = valid.not_empty in let end = valid.end in omega arith in
    let before : ltb h.start h.end ≡ true = lt-ltb h.start h.end valid.not_empty in
    let regrouped : handler_bytes code h ++ rest ≡ place_bytes code h.start ++ (place_bytes code h.end ++ (place_bytes code h.handler ++ (two h.catch_class ++ rest))) = simp append_assoc in
    ap (handler_at entries offsets) regrouped
    ∙ rw (place.again h.start (place_bytes code h.end ++ (place_bytes code h.handler ++ (two h.catch_class ++ rest))) start, place.again h.end (place_bytes code h.handler ++ (two h.catch_class ++ rest)) valid.end, item.again h.handler (two h.catch_class ++ rest) valid.handler, (catch_class_piece entries).again h.catch_class rest (fits, valid.catch_class), before) refl

pub handler_piece : (entries : List Entry) (offsets : List ℕ) (code : Code) → NamePlaces offsets code → IsPiece (handler_at entries offsets) (handler_bytes code) (HandlerIsRight entries code)
handler_piece entries offsets code names = record { takes = handler_takes entries offsets code names; again = handler_again entries offsets code names }

-- ---- lines

abbrev pub LineIsRight : Code → Line → Type 0
LineIsRight code l = FitsTwo l.line × IsItem code l.item

line_takes : (offsets : List ℕ) (code : Code) → NamePlaces offsets code → (bytes : List ℕ) (x : Line × List ℕ) → AreBytes bytes → line_at offsets bytes ≡ Some x
    → Takes bytes (line_bytes code x.0) x.1 × LineIsRight code x.0
unfolding line_at
line_takes offsets code names bytes x fits e =
    let a = bind_some (named_item_at offsets bytes) (λ item. number_at 2 item.1 >>= λ line. Some (record { item = item.0; line = line.0 }, line.1)) x e in
    let b = bind_some (number_at 2 a.0.1) (λ line. Some (record { item = a.0.0; line = line.0 }, line.1)) x a.2 in
    let t0 = (item_piece offsets code names).takes bytes a.0 fits a.1 in
    let t1 = two_piece.takes a.0.1 b.0 t0.0.rest_fits b.1 in
    let made : Line × List ℕ = (record { item = a.0.0; line = b.0.0 }, b.0.1) in
    subst (λ (y : Line × List ℕ). Takes bytes (line_bytes code y.0) y.1 × LineIsRight code y.0) (some_is made x b.2)
    (Takes-then bytes (place_bytes code a.0.0) a.0.1 (two b.0.0) b.0.1 t0.0 t1.0, (t1.1, t0.1))

line_again : (offsets : List ℕ) (code : Code) → NamePlaces offsets code → (l : Line) (rest : List ℕ) → LineIsRight code l → line_at offsets (line_bytes code l ++ rest) ≡ Some (l, rest)
unfolding line_at
line_again offsets code names l rest (fits, inside) =
    let regrouped : line_bytes code l ++ rest ≡ place_bytes code l.item ++ (two l.line ++ rest) = append_assoc (place_bytes code l.item) (two l.line) rest in
    ap (line_at offsets) regrouped
    ∙ rw ((item_piece offsets code names).again l.item (two l.line ++ rest) inside, two_piece.again l.line rest fits) refl

pub line_piece : (offsets : List ℕ) (code : Code) → NamePlaces offsets code → IsPiece (line_at offsets) (line_bytes code) (LineIsRight code)
line_piece offsets code names = record { takes = line_takes offsets code names; again = line_again offsets code names }

-- ---- variables

abbrev pub VarIsRight : List Entry → Code → Var → Type 0
VarIsRight entries code v = VarFits v × VarIsValid entries (length code.items) v

-- a later place has no lower offset, and a place with no lower offset is no earlier one
places_rise : (offsets : List ℕ) (code : Code) → NamePlaces offsets code → (k l : ℕ) → k ≤ l → IsPlace code l → offset_of code k ≤ offset_of code l
places_rise offsets code names k l before within =
    elim (cases_lt k l) [
      | inl lt ↦ (let rises = names.rise k l lt within in omega arith)
      | inr ge ↦ (let same : k ≡ l = omega arith in let equal = ap (offset_of code) same in omega arith)
    ]

places_before : (offsets : List ℕ) (code : Code) → NamePlaces offsets code → (k l : ℕ) → IsPlace code k → offset_of code k ≤ offset_of code l → k ≤ l
places_before offsets code names k l within below =
    elim (cases_lt l k) [
      | inl lt ↦ (let rises = names.rise l k lt within in absurd (omega arith))
      | inr ge ↦ ge
    ]

-- the pieces of a variable come one after the other
var_parts : (offsets : List ℕ) (code : Code) → NamePlaces offsets code → (bytes r0 r1 r2 r3 rest : List ℕ) (start size : ℕ) (v : Var)
    → Takes bytes (two start) r0 → Takes r0 (two size) r1 → Takes r1 (two v.name) r2 → Takes r2 (two v.kind) r3 → Takes r3 (two v.index) rest
    → find_place offsets start ≡ Some v.start → find_place offsets (start + size) ≡ Some v.end → Takes bytes (var_bytes code v) rest × (v.start ≤ v.end) × IsPlace code v.end
var_parts offsets code names bytes r0 r1 r2 r3 rest start size v t0 t1 t2 t3 t4 start_is end_is =
    let first = names.found start v.start start_is in
    let last = names.found (start + size) v.end end_is in
    let length_is : size ≡ offset_of code v.end - offset_of code v.start = omega (arith, first.1, last.1) in
    let start_there : Takes bytes (place_bytes code v.start) r0 = subst (λ (n : ℕ). Takes bytes (two n) r0) (sym first.1) t0 in
    let size_there : Takes r0 (two (offset_of code v.end - offset_of code v.start)) r1 = subst (λ (n : ℕ). Takes r0 (two n) r1) length_is t1 in
    let e4 = Takes-last r3 (two v.index) rest t4.rest_fits t4 in
    let e3 = Takes-then r2 (two v.kind) r3 (two v.index ++ []) rest t3 e4 in
    let e2 = Takes-then r1 (two v.name) r2 (two v.kind ++ (two v.index ++ [])) rest t2 e3 in
    let e1 = Takes-then r0 (two (offset_of code v.end - offset_of code v.start)) r1 (two v.name ++ (two v.kind ++ (two v.index ++ []))) rest size_there e2 in
    let e0 = Takes-then bytes (place_bytes code v.start) r0 (two (offset_of code v.end - offset_of code v.start) ++ (two v.name ++ (two v.kind ++ (two v.index ++ [])))) rest start_there e1 in
    (e0, places_before offsets code names v.start v.end first.0 (omega (arith, first.1, last.1)), last.0)

var_takes : (entries : List Entry) (offsets : List ℕ) (code : Code) → NamePlaces offsets code → (bytes : List ℕ) (x : Var × List ℕ) → AreBytes bytes → var_at entries offsets bytes ≡ Some x
    → Takes bytes (var_bytes code x.0) x.1 × VarIsRight entries code x.0
unfolding var_at
var_takes entries offsets code names bytes x fits e =
    let text = text_index_piece entries in
    let last : ℕ × List ℕ → ℕ × List ℕ → ℕ × List ℕ → ℕ → ℕ → Option (Var × List ℕ) = λ name kind index first end.
    Some (record { start = first; end = end; name = name.0; kind = kind.0; index = index.0 }, index.1) in
    let places : ℕ × List ℕ → ℕ × List ℕ → ℕ × List ℕ → ℕ × List ℕ → ℕ × List ℕ → Option (Var × List ℕ) = λ start size name kind index.
    find_place offsets start.0 >>= λ first. find_place offsets (start.0 + size.0) >>= last name kind index first in
    let a = bind_some (number_at 2 bytes) (λ start. number_at 2 start.1 >>= λ size. text_index_at entries size.1 >>= λ name. text_index_at entries name.1 >>= λ kind. number_at 2 kind.1 >>= places start size name kind) x e in
    let b = bind_some (number_at 2 a.0.1) (λ size. text_index_at entries size.1 >>= λ name. text_index_at entries name.1 >>= λ kind. number_at 2 kind.1 >>= places a.0 size name kind) x a.2 in
    let c = bind_some (text_index_at entries b.0.1) (λ name. text_index_at entries name.1 >>= λ kind. number_at 2 kind.1 >>= places a.0 b.0 name kind) x b.2 in
    let d = bind_some (text_index_at entries c.0.1) (λ kind. number_at 2 kind.1 >>= places a.0 b.0 c.0 kind) x c.2 in
    let i = bind_some (number_at 2 d.0.1) (places a.0 b.0 c.0 d.0) x d.2 in
    let f = bind_some (find_place offsets a.0.0) (λ first. find_place offsets (a.0.0 + b.0.0) >>= last c.0 d.0 i.0 first) x i.2 in
    let g = bind_some (find_place offsets (a.0.0 + b.0.0)) (last c.0 d.0 i.0 f.0) x f.2 in
    let t0 = two_piece.takes bytes a.0 fits a.1 in
    let t1 = two_piece.takes a.0.1 b.0 t0.0.rest_fits b.1 in
    let t2 = text.takes b.0.1 c.0 t1.0.rest_fits c.1 in
    let t3 = text.takes c.0.1 d.0 t2.0.rest_fits d.1 in
    let t4 = two_piece.takes d.0.1 i.0 t3.0.rest_fits i.1 in
    let v : Var = record { start = f.0; end = g.0; name = c.0.0; kind = d.0.0; index = i.0.0 } in
    let parts = var_parts offsets code names bytes a.0.1 b.0.1 c.0.1 d.0.1 i.0.1 a.0.0 b.0.0 v t0.0 t1.0 t2.0 t3.0 t4.0 f.1 g.1 in
    subst (λ (y : Var × List ℕ). Takes bytes (var_bytes code y.0) y.1 × VarIsRight entries code y.0) {x = (v, i.0.1)} {y = x} (some_is (v, i.0.1) x g.2)
    (parts.0, (record { name = t2.1.0; kind = t3.1.0; index = t4.1 }, record { start = parts.1; end = parts.2; name = t2.1.1; kind = t3.1.1 }))

var_again : (entries : List Entry) (offsets : List ℕ) (code : Code) → NamePlaces offsets code → (v : Var) (rest : List ℕ) → VarIsRight entries code v → var_at entries offsets (var_bytes code v ++ rest) ≡ Some (v, rest)
unfolding var_at
var_again entries offsets code names v rest (fits, valid) =
    let text = text_index_piece entries in
    let start = offset_of code v.start in
    let size = offset_of code v.end - offset_of code v.start in
    let rises = places_rise offsets code names v.start v.end valid.start valid.end in
    let both : offset_of code v.start + (offset_of code v.end - offset_of code v.start) ≡ offset_of code v.end = omega arith in
    let size_fits : FitsTwo (offset_of code v.end - offset_of code v.start) = let high = names.fit v.end in omega arith in
    let within : IsPlace code v.start = let a = valid.start in let b = valid.end in omega arith in
    let regrouped : var_bytes code v ++ rest ≡ two start ++ (two size ++ (two v.name ++ (two v.kind ++ (two v.index ++ rest)))) = simp append_assoc in
    ap (var_at entries offsets) regrouped
    ∙ rw (two_piece.again start (two size ++ (two v.name ++ (two v.kind ++ (two v.index ++ rest)))) (names.fit v.start), two_piece.again size (two v.name ++ (two v.kind ++ (two v.index ++ rest))) size_fits, text.again v.name (two v.kind ++ (two v.index ++ rest)) (fits.name, valid.name), text.again v.kind (two v.index ++ rest) (fits.kind, valid.kind), two_piece.again v.index rest fits.index, names.finds v.start within, both, names.finds v.end valid.end) refl

pub var_piece : (entries : List Entry) (offsets : List ℕ) (code : Code) → NamePlaces offsets code → IsPiece (var_at entries offsets) (var_bytes code) (VarIsRight entries code)
var_piece entries offsets code names = record { takes = var_takes entries offsets code names; again = var_again entries offsets code names }
