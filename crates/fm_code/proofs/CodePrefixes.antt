-- The bytes of a Code attribute determine its record.
use Rattle.std.proofs.Common.{◌≡◌, ℕ, ◌-◌, ◌*◌, ◌<◌, ◌≤◌, true, false, List, [], ◌∷◌, ◌++◌, length, codes, refl, ap, sym, ◌∙◌, subst, arith, inl, inr, length-append}
use Rattle.std.proofs.lemmas.Bool.{cases_order}
use Rattle.std.specs.List.{AllByRecursion, flat_map, concat}
use Rattle.fm_code.specs.Numbers.{two, four}
use Rattle.fm_code.specs.ClassBytes.{counted, attribute_bytes, raw_bytes, offset_in, offset_of, item_bytes, code_attribute_bytes, code_bytes}
use Rattle.fm_code.specs.Fits.{FitsTwo, FitsFour, CountedFits, VarFits, CodeAttrFits, CodeFits, AreBytes}
use Rattle.fm_code.specs.SpellsCode.{SpellsCode}
use Rattle.fm_code.specs.CodeRules.{HandlerIsValid, VarIsValid, CodeAttrIsValid, CodeIsValid}
use Rattle.fm_code.specs.declared.constant_pool.Entry.{Entry}
use Rattle.fm_code.specs.declared.code_array.Code.{Code}
use Rattle.fm_code.specs.declared.code_array.Item.{Item}
use Rattle.fm_code.specs.declared.code_array.Handler.{Handler}
use Rattle.fm_code.specs.declared.code_array.CodeAttr.{CodeAttr}
use Rattle.fm_code.specs.declared.code_array.CodeAttr.TheVariants as code_attribute
use Rattle.fm_code.specs.declared.code_array.Line.{Line}
use Rattle.fm_code.specs.declared.code_array.Var.{Var}
use Rattle.fm_code.proofs.Bytes.{length-two}
use Rattle.fm_code.proofs.Prefixes.{Cancels, Tells, Cancels-two, Cancels-counted, cancel_attribute, CountedFits-both, ◌then◌, ◌so◌, tells_two, tells_four, tells_counted, tells_same, tells_nothing, told_alone, same_text, text_meets}
use Rattle.fm_code.proofs.CodeItems.{AreLaid, AreLaid-code, offset_le_end, offset_rises, one_code}

-- ---- offsets for the numbers of items

-- the offsets fit two bytes, and rise with the items up to the end
pub record ArePlaces (place : ℕ → ℕ) (count : ℕ) : Type 0 where
  pub fit : (k : ℕ) → FitsTwo (place k)
  pub rise : (k l : ℕ) → k < l → l ≤ count → place k < place l

-- a place is of one item only
place_injective : (place : ℕ → ℕ) (count k l : ℕ) → ArePlaces place count → k ≤ count → l ≤ count → place k ≡ place l → k ≡ l
place_injective place count k l places k_in l_in e =
    elim (cases_order k l) [
      | inl same ↦ same
      | inr (inl before) ↦ (let rises = places.rise k l before l_in in absurd (omega arith))
      | inr (inr after) ↦ (let rises = places.rise l k after k_in in absurd (omega arith))
    ]

-- an item is determined by the two bytes of its offset
tells_place : (place : ℕ → ℕ) (count k l : ℕ) → ArePlaces place count → k ≤ count → l ≤ count → Tells (two (place k)) (two (place l)) (k ≡ l)
tells_place place count k l places k_in l_in = record {
  cancel = λ r s e.
      let parts = Cancels-two (place k) (place l) r s (places.fit k) (places.fit l) e in (place_injective place count k l places k_in l_in parts.0, parts.1);
}

-- the bytes of the tables, by the offsets
abbrev handler_by : (ℕ → ℕ) → Handler → List ℕ
handler_by place h = concat (two (place h.start) ∷ two (place h.end) ∷ two (place h.handler) ∷ two h.catch_class ∷ [])

abbrev line_by : (ℕ → ℕ) → Line → List ℕ
line_by place l = two (place l.item) ++ two l.line

abbrev var_by : (ℕ → ℕ) → Var → List ℕ
var_by place v = concat (two (place v.start) ∷ two (place v.end - place v.start) ∷ two v.name ∷ two v.kind ∷ two v.index ∷ [])

-- ---- the tables

-- an entry of the exception table that fits and is valid, and its bytes determine it
abbrev HandlerIsRight : List Entry → ℕ → Handler → Type 0
HandlerIsRight entries count h = FitsTwo h.catch_class × HandlerIsValid entries count h

Cancels-handler : (place : ℕ → ℕ) (entries : List Entry) (count : ℕ) → ArePlaces place count → Cancels (handler_by place) (HandlerIsRight entries count)
Cancels-handler place entries count places x y r s (x_class, x_valid) (y_class, y_valid) e =
    let x_start : x.start ≤ count = let below = x_valid.not_empty in let end = x_valid.end in omega arith in
    let y_start : y.start ≤ count = let below = y_valid.not_empty in let end = y_valid.end in omega arith in
    let x_handler : x.handler ≤ count = let below = x_valid.handler in omega arith in
    let y_handler : y.handler ≤ count = let below = y_valid.handler in omega arith in
    let told =
    tells_place place count x.start y.start places x_start y_start
    then tells_place place count x.end y.end places x_valid.end y_valid.end
    then tells_place place count x.handler y.handler places x_handler y_handler
    then tells_two x.catch_class y.catch_class x_class y_class
    then tells_nothing in
    let ((start, (end, (handler, (class, _)))), rest) = told.cancel r s e in
    (λ k. record { start = start k; end = end k; handler = handler k; catch_class = class k }, rest)

-- the same for a line
abbrev LineIsRight : ℕ → Line → Type 0
LineIsRight count l = FitsTwo l.line × (l.item < count)

Cancels-line : (place : ℕ → ℕ) (count : ℕ) → ArePlaces place count → Cancels (line_by place) (LineIsRight count)
Cancels-line place count places x y r s (x_line, x_item) (y_line, y_item) e =
    let told = tells_place place count x.item y.item places (omega arith) (omega arith) then tells_two x.line y.line x_line y_line in
    let ((item, line), rest) = told.cancel r s e in
    (λ k. record { item = item k; line = line k }, rest)

-- the same for a variable
abbrev VarIsRight : List Entry → ℕ → Var → Type 0
VarIsRight entries count v = VarFits v × VarIsValid entries count v

-- offsets at the end of a range that has the same start and the same length
same_end : (place : ℕ → ℕ) (count a b c d : ℕ) → ArePlaces place count → a ≤ b → b ≤ count → c ≤ d → d ≤ count →
    a ≡ c → place b - place a ≡ place d - place c → b ≡ d
same_end place count a b c d places a_b b_in c_d d_in starts sizes =
    let up : (k l : ℕ) → k ≤ l → l ≤ count → place k ≤ place l = λ k l before inside.
    elim (cases_order k l) [
      | inl same ↦ (let e = ap place same in omega arith)
      | inr (inl below) ↦ (let rises = places.rise k l below inside in omega arith)
      | inr (inr above) ↦ absurd (omega arith)
    ] in
    let first = up a b a_b b_in in
    let second = up c d c_d d_in in
    let start : place a ≡ place c = ap place starts in
    place_injective place count b d places b_in d_in (omega arith)

Cancels-var : (place : ℕ → ℕ) (entries : List Entry) (count : ℕ) → ArePlaces place count → Cancels (var_by place) (VarIsRight entries count)
Cancels-var place entries count places x y r s (x_fits, x_valid) (y_fits, y_valid) e =
    let x_start : x.start ≤ count = let a = x_valid.start in let b = x_valid.end in omega arith in
    let y_start : y.start ≤ count = let a = y_valid.start in let b = y_valid.end in omega arith in
    let x_size : FitsTwo (place x.end - place x.start) = let a = places.fit x.end in omega arith in
    let y_size : FitsTwo (place y.end - place y.start) = let a = places.fit y.end in omega arith in
    let told =
    tells_place place count x.start y.start places x_start y_start
    then tells_two (place x.end - place x.start) (place y.end - place y.start) x_size y_size
    then tells_two x.name y.name x_fits.name y_fits.name
    then tells_two x.kind y.kind x_fits.kind y_fits.kind
    then tells_two x.index y.index x_fits.index y_fits.index
    then tells_nothing in
    let ((start, (size, (name, (kind, (index, _))))), rest) = told.cancel r s e in
    let end = same_end place count x.start x.end y.start y.end places x_valid.start x_valid.end y_valid.start y_valid.end start size in
    (λ k. record { start = start k; end = end k; name = name k; kind = kind k; index = index k }, rest)

-- ---- the attributes of a Code attribute

-- the index of an attribute's name, and its bytes after their number
abbrev name_of : CodeAttr → ℕ
name_of (code_attribute.Lines name lines) = name
name_of (code_attribute.Vars name types vars) = name
name_of (code_attribute.Other raw) = raw.name

abbrev body_by : (ℕ → ℕ) → CodeAttr → List ℕ
body_by place (code_attribute.Lines name lines) = counted (line_by place) lines
body_by place (code_attribute.Vars name types vars) = counted (var_by place) vars
body_by place (code_attribute.Other raw) = raw.bytes

abbrev attribute_by : (ℕ → ℕ) → CodeAttr → List ℕ
attribute_by place a = attribute_bytes (name_of a) (body_by place a)

-- an attribute is its name and its body
attribute_by_is : (code : Code) (a : CodeAttr) → code_attribute_bytes code a ≡ attribute_by (offset_of code) a
unfolding raw_bytes
attribute_by_is code (code_attribute.Lines name lines) = refl
attribute_by_is code (code_attribute.Vars name types vars) = refl
attribute_by_is code (code_attribute.Other raw) = refl

-- elements of one length
length-elements : {X : Type 0} (spell : X → List ℕ) (n : ℕ) → ((x : X) → length (spell x) ≡ n) → (xs : List X) →
    length (flat_map spell xs) ≡ length xs * n
length-elements spell n each [] = omega arith
length-elements spell n each (x ∷ xs) =
    let rest = length-elements spell n each xs in
    let here = each x in
    let both = length-append (spell x) (flat_map spell xs) in
    grind arith

-- a line takes four bytes, and a variable ten
length-line : (place : ℕ → ℕ) (l : Line) → length (line_by place l) ≡ 4
length-line place l = simp (length-append, length-two)

length-var : (place : ℕ → ℕ) (v : Var) → length (var_by place v) ≡ 10
length-var place v = simp (length-append, length-two)

-- the name and the length of the body fit their bytes
name_fits : (a : CodeAttr) → CodeAttrFits a → FitsTwo (name_of a)
name_fits (code_attribute.Lines name lines) fits = fits.0
name_fits (code_attribute.Vars name types vars) fits = fits.0
name_fits (code_attribute.Other raw) fits = fits.name

body_fits : (place : ℕ → ℕ) (a : CodeAttr) → CodeAttrFits a → FitsFour (length (body_by place a))
body_fits place (code_attribute.Lines name lines) (_, fits) =
    let count = length-two (length lines) in
    let each = length-elements (line_by place) 4 (length-line place) lines in
    let both = length-append (two (length lines)) (flat_map (line_by place) lines) in
    let few = fits.count in
    omega arith
body_fits place (code_attribute.Vars name types vars) (_, fits) =
    let count = length-two (length vars) in
    let each = length-elements (var_by place) 10 (length-var place) vars in
    let both = length-append (two (length vars)) (flat_map (var_by place) vars) in
    let few = fits.count in
    omega arith
body_fits place (code_attribute.Other raw) fits = fits.size

-- an attribute that fits and is valid
abbrev CodeAttrIsRight : List Entry → ℕ → CodeAttr → Type 0
CodeAttrIsRight entries count a = CodeAttrFits a × CodeAttrIsValid entries count a

-- the names that are read are three
lines_vars : (P : Type 0) → codes "LineNumberTable" ≡ codes "LocalVariableTable" → P
lines_vars P e = let same : length (codes "LineNumberTable") ≡ length (codes "LocalVariableTable") = ap length e in absurd (omega arith)

lines_types : (P : Type 0) → codes "LineNumberTable" ≡ codes "LocalVariableTypeTable" → P
lines_types P e = let same : length (codes "LineNumberTable") ≡ length (codes "LocalVariableTypeTable") = ap length e in absurd (omega arith)

vars_types : (P : Type 0) → codes "LocalVariableTable" ≡ codes "LocalVariableTypeTable" → P
vars_types P e = let same : length (codes "LocalVariableTable") ≡ length (codes "LocalVariableTypeTable") = ap length e in absurd (omega arith)

-- the two halves of that for a line
abbrev pub LineFits : Line → Type 0
LineFits l = FitsTwo l.line

abbrev LineIsValid : ℕ → Line → Type 0
LineIsValid count l = l.item < count

-- a table of lines is determined by its bytes
same_lines : (place : ℕ → ℕ) (count : ℕ) → ArePlaces place count → (xs ys : List Line) → CountedFits LineFits xs → AllByRecursion (LineIsValid count) xs →
    CountedFits LineFits ys → AllByRecursion (LineIsValid count) ys → counted (line_by place) xs ≡ counted (line_by place) ys → xs ≡ ys
same_lines place count places xs ys xs_fit xs_valid ys_fit ys_valid e =
    let cancels = Cancels-counted (line_by place) (LineIsRight count) (Cancels-line place count places) in
    told_alone (counted (line_by place)) (CountedFits (LineIsRight count)) cancels xs ys
    (CountedFits-both LineFits (LineIsValid count) xs xs_fit xs_valid) (CountedFits-both LineFits (LineIsValid count) ys ys_fit ys_valid) e

-- a table of variables is determined by its bytes
same_vars : (place : ℕ → ℕ) (entries : List Entry) (count : ℕ) → ArePlaces place count → (xs ys : List Var) → CountedFits VarFits xs → AllByRecursion (VarIsValid entries count) xs →
    CountedFits VarFits ys → AllByRecursion (VarIsValid entries count) ys → counted (var_by place) xs ≡ counted (var_by place) ys → xs ≡ ys
same_vars place entries count places xs ys xs_fit xs_valid ys_fit ys_valid e =
    let cancels = Cancels-counted (var_by place) (VarIsRight entries count) (Cancels-var place entries count places) in
    told_alone (counted (var_by place)) (CountedFits (VarIsRight entries count)) cancels xs ys
    (CountedFits-both VarFits (VarIsValid entries count) xs xs_fit xs_valid) (CountedFits-both VarFits (VarIsValid entries count) ys ys_fit ys_valid) e

-- the name and the body determine the attribute
same_attribute : (place : ℕ → ℕ) (entries : List Entry) (count : ℕ) → ArePlaces place count → (a b : CodeAttr) →
    CodeAttrIsRight entries count a → CodeAttrIsRight entries count b → name_of a ≡ name_of b → body_by place a ≡ body_by place b → a ≡ b
same_attribute place entries count places (code_attribute.Lines n xs) (code_attribute.Lines m ys) (a_fits, a_valid) (b_fits, b_valid) names bodies =
    let lines = same_lines place count places xs ys a_fits.1 a_valid.1 b_fits.1 b_valid.1 bodies in λ k. code_attribute.Lines (names k) (lines k)
same_attribute place entries count places (code_attribute.Lines n xs) (code_attribute.Vars m false ys) a_right b_right names bodies =
    lines_vars _ (same_text entries n m _ _ names a_right.1.0 b_right.1.0)
same_attribute place entries count places (code_attribute.Lines n xs) (code_attribute.Vars m true ys) a_right b_right names bodies =
    lines_types _ (same_text entries n m _ _ names a_right.1.0 b_right.1.0)
same_attribute place entries count places (code_attribute.Lines n xs) (code_attribute.Other raw) a_right b_right names bodies =
    absurd ((text_meets _ entries n raw.name _ names a_right.1.0 b_right.1).0 refl)
same_attribute place entries count places (code_attribute.Vars n false xs) (code_attribute.Lines m ys) a_right b_right names bodies =
    lines_vars _ (same_text entries m n _ _ (sym names) b_right.1.0 a_right.1.0)
same_attribute place entries count places (code_attribute.Vars n true xs) (code_attribute.Lines m ys) a_right b_right names bodies =
    lines_types _ (same_text entries m n _ _ (sym names) b_right.1.0 a_right.1.0)
same_attribute place entries count places (code_attribute.Vars n false xs) (code_attribute.Vars m true ys) a_right b_right names bodies =
    vars_types _ (same_text entries n m _ _ names a_right.1.0 b_right.1.0)
same_attribute place entries count places (code_attribute.Vars n true xs) (code_attribute.Vars m false ys) a_right b_right names bodies =
    vars_types _ (same_text entries m n _ _ (sym names) b_right.1.0 a_right.1.0)
same_attribute place entries count places (code_attribute.Vars n false xs) (code_attribute.Vars m false ys) (a_fits, a_valid) (b_fits, b_valid) names bodies =
    let vars = same_vars place entries count places xs ys a_fits.1 a_valid.1 b_fits.1 b_valid.1 bodies in λ k. code_attribute.Vars (names k) false (vars k)
same_attribute place entries count places (code_attribute.Vars n true xs) (code_attribute.Vars m true ys) (a_fits, a_valid) (b_fits, b_valid) names bodies =
    let vars = same_vars place entries count places xs ys a_fits.1 a_valid.1 b_fits.1 b_valid.1 bodies in λ k. code_attribute.Vars (names k) true (vars k)
same_attribute place entries count places (code_attribute.Vars n false xs) (code_attribute.Other raw) a_right b_right names bodies =
    absurd ((text_meets _ entries n raw.name _ names a_right.1.0 b_right.1).1 refl)
same_attribute place entries count places (code_attribute.Vars n true xs) (code_attribute.Other raw) a_right b_right names bodies =
    absurd ((text_meets _ entries n raw.name _ names a_right.1.0 b_right.1).2 refl)
same_attribute place entries count places (code_attribute.Other raw) (code_attribute.Lines m ys) a_right b_right names bodies =
    absurd ((text_meets _ entries m raw.name _ (sym names) b_right.1.0 a_right.1).0 refl)
same_attribute place entries count places (code_attribute.Other raw) (code_attribute.Vars m false ys) a_right b_right names bodies =
    absurd ((text_meets _ entries m raw.name _ (sym names) b_right.1.0 a_right.1).1 refl)
same_attribute place entries count places (code_attribute.Other raw) (code_attribute.Vars m true ys) a_right b_right names bodies =
    absurd ((text_meets _ entries m raw.name _ (sym names) b_right.1.0 a_right.1).2 refl)
same_attribute place entries count places (code_attribute.Other raw) (code_attribute.Other other) a_right b_right names bodies =
    λ k. code_attribute.Other (record { name = names k; bytes = bodies k })

-- an attribute is determined by its bytes
Cancels-attribute : (place : ℕ → ℕ) (entries : List Entry) (count : ℕ) → ArePlaces place count → Cancels (attribute_by place) (CodeAttrIsRight entries count)
Cancels-attribute place entries count places a b r s a_right b_right e =
    let parts = cancel_attribute (name_of a) (name_of b) (body_by place a) (body_by place b) r s (name_fits a a_right.0) (name_fits b b_right.0)
    (body_fits place a a_right.0) (body_fits place b b_right.0) e in
    (same_attribute place entries count places a b a_right b_right parts.0 parts.1, parts.2)

-- ---- the whole

-- a Code attribute that fits and is valid
pub record CodeIsRight (entries : List Entry) (code : Code) : Type 0 where
  pub fits : CodeFits code
  pub valid : CodeIsValid entries code

-- the items of a valid code lie from 0 to its length
pub AreLaid-items : (entries : List Entry) (code : Code) → CodeIsValid entries code → AreLaid 0 code.items code.length
AreLaid-items entries code valid = subst (AreLaid 0 code.items) (sym valid.measured) (AreLaid-code (flat_map item_bytes code.items) code.items valid.spelled)

-- so their offsets fit two bytes and rise
ArePlaces-code : (entries : List Entry) (code : Code) → CodeIsValid entries code → ArePlaces (offset_of code) (length code.items)
ArePlaces-code entries code valid =
    let laid = AreLaid-items entries code valid in
    record {
      fit = λ k. let inside = offset_le_end 0 code.length code.items k laid in let short = valid.not_long in omega arith;
      rise = λ k l before inside. offset_rises 0 code.length code.items k l laid before inside;
    }

-- a table of places, where both codes have the same places
tells_table : {X : Type 0} (spell : (ℕ → ℕ) → X → List ℕ) (Fits : ℕ → X → Type 0) (c d : Code) →
    Cancels (spell (offset_of c)) (Fits (length c.items)) → c.items ≡ d.items → c.length ≡ d.length → (xs ys : List X) → CountedFits (Fits (length c.items)) xs → CountedFits (Fits (length d.items)) ys →
    Tells (counted (spell (offset_of c)) xs) (counted (spell (offset_of d)) ys) (xs ≡ ys)
tells_table spell Fits c d cancels items lengths xs ys xs_fit ys_fit =
    let places : offset_of c ≡ offset_of d = λ k. offset_in (items k) (lengths k) in
    let ys_fit_there : CountedFits (Fits (length c.items)) ys = subst (λ (is : List Item). CountedFits (Fits (length is)) ys) (sym items) ys_fit in
    subst (λ (place : ℕ → ℕ). Tells (counted (spell (offset_of c)) xs) (counted (spell place) ys) (xs ≡ ys)) places
    (tells_counted (spell (offset_of c)) (Fits (length c.items)) cancels xs ys xs_fit ys_fit_there)

-- valid codes of the same bytes have the same items
same_code_items : (entries : List Entry) (c d : Code) → CodeIsValid entries c → CodeIsValid entries d →
    flat_map item_bytes c.items ≡ flat_map item_bytes d.items → c.items ≡ d.items
same_code_items entries c d c_valid d_valid bytes =
    one_code (flat_map item_bytes c.items) c.items d.items c_valid.spelled (subst (λ (code : List ℕ). SpellsCode code d.items) (sym bytes) d_valid.spelled)

-- the class that a handler catches fits its bytes
abbrev CatchFits : Handler → Type 0
CatchFits h = FitsTwo h.catch_class

-- the bytes of a Code attribute, with its attributes spelled so
abbrev bytes_by : (CodeAttr → List ℕ) → Code → List ℕ
bytes_by spell code =
    concat (two code.max_stack ∷ two code.max_locals ∷ four code.length ∷ flat_map item_bytes code.items
    ∷ counted (handler_by (offset_of code)) code.handlers ∷ counted spell code.attributes ∷ [])

-- that spells what the code's own function does
code_bytes_by : (code : Code) → code_bytes code ≡ bytes_by (attribute_by (offset_of code)) code
unfolding code_bytes
code_bytes_by code = λ k. bytes_by (λ a. attribute_by_is code a k) code

-- the bytes of a Code attribute after its length determine it
pub one_code_attribute : (entries : List Entry) (c d : Code) → CodeIsRight entries c → CodeIsRight entries d → code_bytes c ≡ code_bytes d → c ≡ d
one_code_attribute entries c d c_right d_right e =
    let count = length c.items in
    let place = offset_of c in
    let places = ArePlaces-code entries c c_right.valid in
    let c_fits = c_right.fits in
    let d_fits = d_right.fits in
    let c_valid = c_right.valid in
    let d_valid = d_right.valid in
    let c_handlers = CountedFits-both CatchFits (HandlerIsValid entries count) c.handlers c_fits.handlers c_valid.handlers in
    let d_handlers = CountedFits-both CatchFits (HandlerIsValid entries (length d.items)) d.handlers d_fits.handlers d_valid.handlers in
    let c_attributes = CountedFits-both CodeAttrFits (CodeAttrIsValid entries count) c.attributes c_fits.attributes c_valid.attributes in
    let d_attributes = CountedFits-both CodeAttrFits (CodeAttrIsValid entries (length d.items)) d.attributes d_fits.attributes d_valid.attributes in
    let handlers = tells_table handler_by (HandlerIsRight entries) c d (Cancels-handler place entries count places) in
    let attributes = tells_table attribute_by (CodeAttrIsRight entries) c d (Cancels-attribute place entries count places) in
    let told =
    tells_two c.max_stack d.max_stack c_fits.max_stack d_fits.max_stack
    then tells_two c.max_locals d.max_locals c_fits.max_locals d_fits.max_locals
    then tells_four c.length d.length c_fits.code_length d_fits.code_length
    so λ lengths. tells_same (flat_map item_bytes c.items) (flat_map item_bytes d.items) (sym c_valid.measured ∙ lengths ∙ d_valid.measured)
    so λ bytes. (let items = same_code_items entries c d c_valid d_valid bytes in
    handlers items lengths c.handlers d.handlers c_handlers d_handlers
    then attributes items lengths c.attributes d.attributes c_attributes d_attributes
    then tells_nothing) in
    let ((stack, (locals, (lengths, (bytes, (same_handlers, (same_attributes, _)))))), _) =
    told.cancel [] [] (ap (λ (bs : List ℕ). bs ++ []) (sym (code_bytes_by c) ∙ e ∙ code_bytes_by d)) in
    let items = same_code_items entries c d c_valid d_valid bytes in
    λ k. record {
      max_stack = stack k;
      max_locals = locals k;
      items = items k;
      length = lengths k;
      handlers = same_handlers k;
      attributes = same_attributes k;
    }

-- the parts of bytes are bytes
pub AreBytes-parts : (xs ys : List ℕ) → AreBytes (xs ++ ys) → AreBytes xs × AreBytes ys
AreBytes-parts [] ys fits = (tt, fits)
AreBytes-parts (x ∷ xs) ys (here, fits) = let rest = AreBytes-parts xs ys fits in ((here, rest.0), rest.1)

-- and so is each item of a code
pub AreBytes-items : (items : List Item) → AreBytes (flat_map item_bytes items) → AllByRecursion (λ (item : Item). AreBytes item.bytes) items
AreBytes-items [] fits = tt
AreBytes-items (item ∷ items) fits = let parts = AreBytes-parts item.bytes (flat_map item_bytes items) fits in (parts.0, AreBytes-items items parts.1)
