-- The attributes of a Code attribute: what is read is spelled so and meets its rule, and what is spelled so is read.
use Rattle.std.proofs.Common.{◌≡◌, ◌≢◌, ℕ, ◌<◌, Bool, true, false, cond, eqb, List, [], ◌++◌, length, codes, Option, Some, refl, sym, ap, subst, ◌∙◌}
use Rattle.std.specs.List.{AllByRecursion}
use Rattle.std.specs.Str.{bytes_eq}
use Rattle.std.proofs.lemmas.Bool.{eqb-true, false≢true}
use Rattle.std.proofs.lemmas.List.{append-nil}
use Rattle.std.proofs.lemmas.Slice.Eq.{bytes_eq-Decides}
use Rattle.fm_base.proofs.ListFacts.{AllByRecursion-both, AllByRecursion-weaker}
use Rattle.fm_base.proofs.OptionFacts.{IsSomeAnd-from_some, Some-from_some_and, cond-some_then}
use Rattle.fm_base.proofs.TestFacts.{bytes_eq-other}
use Rattle.fm_code.specs.ClassBytes.{attribute_bytes, code_attribute_bytes, counted, line_bytes, raw_bytes, var_bytes}
use Rattle.fm_code.specs.CodeRules.{CodeAttrIsValid, VarIsValid}
use Rattle.fm_code.specs.ConstantPool.{utf8_at}
use Rattle.fm_code.specs.Fits.{AreBytes, CodeAttrFits, CountedFits, FitsFour, FitsTwo, RawFits, VarFits}
use Rattle.fm_code.specs.inner.Reading.{◌>>=◌, counted_at, raw_at}
use Rattle.fm_code.specs.declared.class_file.Raw.{Raw}
use Rattle.fm_code.specs.declared.code_array.Code.{Code}
use Rattle.fm_code.specs.declared.code_array.CodeAttr.{CodeAttr}
use Rattle.fm_code.specs.declared.code_array.CodeAttr.TheVariants as code_attribute
use Rattle.fm_code.specs.declared.code_array.Line.{Line}
use Rattle.fm_code.specs.declared.code_array.Var.{Var}
use Rattle.fm_code.specs.declared.constant_pool.Entry.{Entry}
use Rattle.fm_code.proofs.CodePrefixes.{LineFits}
use Rattle.fm_code.proofs.Pieces.{all_of, bind_some, some_is, Takes, IsPiece, counted_piece, raw_again, raw_piece}
use Rattle.fm_code.proofs.TableLengths.{lines_fit, vars_fit}
use Rattle.fm_read.specs.declared.code_attributes.AttributeKind.{AttributeKind}
use Rattle.fm_read.specs.declared.code_attributes.AttributeKind.TheVariants as kind
use Rattle.fm_read.specs.inner.ReadingCode.{attribute_at, attribute_of, attribute_of_kind, kind_at, kind_of, line_at, lines_of, var_at, vars_of, whole}
use Rattle.fm_read.proofs.PlaceLaws.{NamePlaces}
use Rattle.fm_read.proofs.TablePieces.{LineIsRight, VarIsRight, line_piece, var_piece}

-- ---- the kinds of attributes

-- a text is the name of a kind of attribute
abbrev IsOfKind : AttributeKind → List ℕ → Type 0
IsOfKind kind.Lines text = text ≡ codes "LineNumberTable"
IsOfKind kind.Vars text = text ≡ codes "LocalVariableTable"
IsOfKind kind.Types text = text ≡ codes "LocalVariableTypeTable"
IsOfKind kind.Other text = (text ≢ codes "LineNumberTable") × (text ≢ codes "LocalVariableTable") × (text ≢ codes "LocalVariableTypeTable")

-- ---- bytes that are one piece

whole_takes : {X : Type 0} (piece_at : List ℕ → Option (X × List ℕ)) (spell : X → List ℕ) (Fits : X → Type 0) → IsPiece piece_at spell Fits
    → (bytes : List ℕ) (x : X) → AreBytes bytes → (piece_at bytes >>= whole) ≡ Some x → (spell x ≡ bytes) × Fits x
whole_takes piece_at spell Fits piece bytes x fits e =
    let a = bind_some (piece_at bytes) whole x e in
    let g = cond-some_then (eqb (length a.0.1) 0) (Some a.0.0) x a.2 in
    let t = piece.takes bytes a.0 fits a.1 in
    let all : bytes ≡ spell a.0.0 = all_of bytes (spell a.0.0) a.0.1 t.0 (eqb-true _ _ g.0) in
    subst (λ y. (spell y ≡ bytes) × Fits y) (some_is a.0.0 x g.1) (sym all, t.1)

whole_again : {X : Type 0} (piece_at : List ℕ → Option (X × List ℕ)) (spell : X → List ℕ) (Fits : X → Type 0) → IsPiece piece_at spell Fits
    → (x : X) → Fits x → (piece_at (spell x) >>= whole) ≡ Some x
whole_again piece_at spell Fits piece x fits =
    let again : piece_at (spell x) ≡ Some (x, []) = ap piece_at (sym (append-nil (spell x))) ∙ piece.again x [] fits in
    rw again refl

-- ---- what a name says

differs : (text other : List ℕ) → bytes_eq text other ≡ false → text ≢ other
differs text other e = λ same. false≢true (sym e ∙ (bytes_eq-Decides text other).1 same)

abbrev kind_by : Bool → Bool → Bool → AttributeKind
kind_by lines vars types = cond lines kind.Lines (cond vars kind.Vars (cond types kind.Types kind.Other))

kind_by-is : (text : List ℕ) (a b c : Bool) → bytes_eq text (codes "LineNumberTable") ≡ a → bytes_eq text (codes "LocalVariableTable") ≡ b → bytes_eq text (codes "LocalVariableTypeTable") ≡ c
    → IsOfKind (kind_by a b c) text
kind_by-is text true b c a_is b_is c_is = (bytes_eq-Decides text (codes "LineNumberTable")).0 a_is
kind_by-is text false true c a_is b_is c_is = (bytes_eq-Decides text (codes "LocalVariableTable")).0 b_is
kind_by-is text false false true a_is b_is c_is = (bytes_eq-Decides text (codes "LocalVariableTypeTable")).0 c_is
kind_by-is text false false false a_is b_is c_is = (differs text (codes "LineNumberTable") a_is, differs text (codes "LocalVariableTable") b_is, differs text (codes "LocalVariableTypeTable") c_is)

kind_of-is : (text : List ℕ) → IsOfKind (kind_of text) text
kind_of-is text = kind_by-is text _ _ _ refl refl refl

kind_of-from : (k : AttributeKind) (text : List ℕ) → IsOfKind k text → kind_of text ≡ k
kind_of-from kind.Lines text is = ap kind_of is
kind_of-from kind.Vars text is = ap kind_of is
kind_of-from kind.Types text is = ap kind_of is
kind_of-from kind.Other text (lines, vars, types) =
    rw (bytes_eq-other text (codes "LineNumberTable") lines, bytes_eq-other text (codes "LocalVariableTable") vars, bytes_eq-other text (codes "LocalVariableTypeTable") types) refl

-- ---- the attribute of a name and bytes

-- an attribute that fits and meets its rule
abbrev pub CodeAttrIsRight : List Entry → Code → CodeAttr → Type 0
CodeAttrIsRight entries code a = CodeAttrFits a × CodeAttrIsValid entries (length code.items) a

-- the halves of what is counted
CountedFits-first : {X : Type 0} (P Q : X → Type 0) (xs : List X) → CountedFits (λ x. P x × Q x) xs → CountedFits P xs
CountedFits-first P Q xs fits = record { count = fits.count; each = AllByRecursion-weaker (λ x. P x × Q x) P (λ x both. both.0) xs fits.each }

CountedFits-second : {X : Type 0} (P Q : X → Type 0) (xs : List X) → CountedFits (λ x. P x × Q x) xs → AllByRecursion Q xs
CountedFits-second P Q xs fits = AllByRecursion-weaker (λ x. P x × Q x) Q (λ x both. both.1) xs fits.each

abbrev LineIsValid : Code → Line → Type 0
LineIsValid code l = l.item < length code.items

lines_piece : (offsets : List ℕ) (code : Code) → NamePlaces offsets code → IsPiece (counted_at (line_at offsets)) (counted (line_bytes code)) (CountedFits (LineIsRight code))
lines_piece offsets code names = counted_piece (line_at offsets) (line_bytes code) (LineIsRight code) (line_piece offsets code names)

vars_piece : (entries : List Entry) (offsets : List ℕ) (code : Code) → NamePlaces offsets code → IsPiece (counted_at (var_at entries offsets)) (counted (var_bytes code)) (CountedFits (VarIsRight entries code))
vars_piece entries offsets code names = counted_piece (var_at entries offsets) (var_bytes code) (VarIsRight entries code) (var_piece entries offsets code names)

lines_take : (offsets : List ℕ) (code : Code) → NamePlaces offsets code → (bytes : List ℕ) (lines : List Line) → AreBytes bytes → lines_of offsets bytes ≡ Some lines
    → (counted (line_bytes code) lines ≡ bytes) × CountedFits LineFits lines × AllByRecursion (LineIsValid code) lines
lines_take offsets code names bytes lines fits e =
    let t = whole_takes (counted_at (line_at offsets)) (counted (line_bytes code)) (CountedFits (LineIsRight code)) (lines_piece offsets code names) bytes lines fits e in
    (t.0, CountedFits-first LineFits (LineIsValid code) lines t.1, CountedFits-second LineFits (LineIsValid code) lines t.1)

vars_take : (entries : List Entry) (offsets : List ℕ) (code : Code) → NamePlaces offsets code → (bytes : List ℕ) (vars : List Var) → AreBytes bytes → vars_of entries offsets bytes ≡ Some vars
    → (counted (var_bytes code) vars ≡ bytes) × CountedFits VarFits vars × AllByRecursion (VarIsValid entries (length code.items)) vars
vars_take entries offsets code names bytes vars fits e =
    let t = whole_takes (counted_at (var_at entries offsets)) (counted (var_bytes code)) (CountedFits (VarIsRight entries code)) (vars_piece entries offsets code names) bytes vars fits e in
    (t.0, CountedFits-first VarFits (VarIsValid entries (length code.items)) vars t.1, CountedFits-second VarFits (VarIsValid entries (length code.items)) vars t.1)

of_kind_takes : (entries : List Entry) (offsets : List ℕ) (code : Code) → NamePlaces offsets code → (raw : Raw) (k : AttributeKind) (text : List ℕ) (a : CodeAttr) → RawFits raw
    → utf8_at entries raw.name ≡ Some text → IsOfKind k text → attribute_of_kind entries offsets raw k ≡ Some a → (code_attribute_bytes code a ≡ raw_bytes raw) × CodeAttrIsRight entries code a
unfolding raw_bytes
of_kind_takes entries offsets code names raw kind.Lines text a fits named is e =
    let lines = bind_some (lines_of offsets raw.bytes) (λ lines. Some (code_attribute.Lines raw.name lines)) a e in
    let t = lines_take offsets code names raw.bytes lines.0 fits.bytes lines.1 in
    subst (λ b. (code_attribute_bytes code b ≡ raw_bytes raw) × CodeAttrIsRight entries code b) (some_is (code_attribute.Lines raw.name lines.0) a lines.2)
    (ap (attribute_bytes raw.name) t.0, ((fits.name, t.1), (named ∙ ap Some is, t.2)))
of_kind_takes entries offsets code names raw kind.Vars text a fits named is e =
    let vars = bind_some (vars_of entries offsets raw.bytes) (λ vars. Some (code_attribute.Vars raw.name false vars)) a e in
    let t = vars_take entries offsets code names raw.bytes vars.0 fits.bytes vars.1 in
    subst (λ b. (code_attribute_bytes code b ≡ raw_bytes raw) × CodeAttrIsRight entries code b) (some_is (code_attribute.Vars raw.name false vars.0) a vars.2)
    (ap (attribute_bytes raw.name) t.0, ((fits.name, t.1), (named ∙ ap Some is, t.2)))
of_kind_takes entries offsets code names raw kind.Types text a fits named is e =
    let vars = bind_some (vars_of entries offsets raw.bytes) (λ vars. Some (code_attribute.Vars raw.name true vars)) a e in
    let t = vars_take entries offsets code names raw.bytes vars.0 fits.bytes vars.1 in
    subst (λ b. (code_attribute_bytes code b ≡ raw_bytes raw) × CodeAttrIsRight entries code b) (some_is (code_attribute.Vars raw.name true vars.0) a vars.2)
    (ap (attribute_bytes raw.name) t.0, ((fits.name, t.1), (named ∙ ap Some is, t.2)))
of_kind_takes entries offsets code names raw kind.Other text a fits named is e =
    subst (λ b. (code_attribute_bytes code b ≡ raw_bytes raw) × CodeAttrIsRight entries code b) (some_is (code_attribute.Other raw) a e)
    (refl, (fits, IsSomeAnd-from_some (utf8_at entries raw.name) (IsOfKind kind.Other) text named is))

attribute_of-takes : (entries : List Entry) (offsets : List ℕ) (code : Code) → NamePlaces offsets code → (raw : Raw) (a : CodeAttr) → RawFits raw → attribute_of entries offsets raw ≡ Some a
    → (code_attribute_bytes code a ≡ raw_bytes raw) × CodeAttrIsRight entries code a
unfolding attribute_of
attribute_of-takes entries offsets code names raw a fits e =
    let k = bind_some (kind_at entries raw.name) (attribute_of_kind entries offsets raw) a e in
    let text = bind_some (utf8_at entries raw.name) (λ text. Some (kind_of text)) k.0 k.1 in
    let is = subst (λ kind. IsOfKind kind text.0) (some_is (kind_of text.0) k.0 text.2) (kind_of-is text.0) in
    of_kind_takes entries offsets code names raw k.0 text.0 a fits text.1 is k.2

attribute_of-kind : (entries : List Entry) (offsets : List ℕ) (raw : Raw) (k : AttributeKind) (text : List ℕ) → utf8_at entries raw.name ≡ Some text → IsOfKind k text
    → attribute_of entries offsets raw ≡ attribute_of_kind entries offsets raw k
unfolding attribute_of
attribute_of-kind entries offsets raw k text named is = rw (named, kind_of-from k text is) refl

-- ---- attributes

attribute_takes : (entries : List Entry) (offsets : List ℕ) (code : Code) → NamePlaces offsets code → (bytes : List ℕ) (x : CodeAttr × List ℕ) → AreBytes bytes → attribute_at entries offsets bytes ≡ Some x
    → Takes bytes (code_attribute_bytes code x.0) x.1 × CodeAttrIsRight entries code x.0
unfolding attribute_at
attribute_takes entries offsets code names bytes x fits e =
    let a = bind_some (raw_at bytes) (λ raw. attribute_of entries offsets raw.0 >>= λ attribute. Some (attribute, raw.1)) x e in
    let b = bind_some (attribute_of entries offsets a.0.0) (λ attribute. Some (attribute, a.0.1)) x a.2 in
    let t = raw_piece.takes bytes a.0 fits a.1 in
    let there = attribute_of-takes entries offsets code names a.0.0 b.0 t.1 b.1 in
    subst (λ (y : CodeAttr × List ℕ). Takes bytes (code_attribute_bytes code y.0) y.1 × CodeAttrIsRight entries code y.0) {x = (b.0, a.0.1)} {y = x} (some_is (b.0, a.0.1) x b.2)
    (subst (λ (text : List ℕ). Takes bytes text a.0.1) (sym there.0) t.0, there.1)

-- an attribute from its name and its bytes
from_raw : (entries : List Entry) (offsets : List ℕ) (raw : Raw) (a : CodeAttr) (rest : List ℕ) → FitsTwo raw.name → FitsFour (length raw.bytes) → attribute_of entries offsets raw ≡ Some a
    → attribute_at entries offsets (raw_bytes raw ++ rest) ≡ Some (a, rest)
unfolding attribute_at
from_raw entries offsets raw a rest name_fits size_fits is = rw (raw_again raw rest name_fits size_fits, is) refl

attribute_again : (entries : List Entry) (offsets : List ℕ) (code : Code) → NamePlaces offsets code → (a : CodeAttr) (rest : List ℕ) → CodeAttrIsRight entries code a
    → attribute_at entries offsets (code_attribute_bytes code a ++ rest) ≡ Some (a, rest)
unfolding raw_bytes
attribute_again entries offsets code names (code_attribute.Lines name lines) rest (fits, valid) =
    let raw : Raw = record { name = name; bytes = counted (line_bytes code) lines } in
    let right : CountedFits (LineIsRight code) lines = record { count = fits.1.count; each = AllByRecursion-both LineFits (LineIsValid code) lines fits.1.each valid.1 } in
    let read = whole_again (counted_at (line_at offsets)) (counted (line_bytes code)) (CountedFits (LineIsRight code)) (lines_piece offsets code names) lines right in
    let is : attribute_of entries offsets raw ≡ Some (code_attribute.Lines name lines) =
    attribute_of-kind entries offsets raw kind.Lines (codes "LineNumberTable") valid.0 refl ∙ ap (λ o. o >>= λ lines. Some (code_attribute.Lines name lines)) read in
    from_raw entries offsets raw (code_attribute.Lines name lines) rest fits.0 (lines_fit code lines fits.1.count) is
attribute_again entries offsets code names (code_attribute.Vars name false vars) rest (fits, valid) =
    let raw : Raw = record { name = name; bytes = counted (var_bytes code) vars } in
    let right : CountedFits (VarIsRight entries code) vars = record { count = fits.1.count; each = AllByRecursion-both VarFits (VarIsValid entries (length code.items)) vars fits.1.each valid.1 } in
    let read = whole_again (counted_at (var_at entries offsets)) (counted (var_bytes code)) (CountedFits (VarIsRight entries code)) (vars_piece entries offsets code names) vars right in
    let is : attribute_of entries offsets raw ≡ Some (code_attribute.Vars name false vars) =
    attribute_of-kind entries offsets raw kind.Vars (codes "LocalVariableTable") valid.0 refl ∙ ap (λ o. o >>= λ vars. Some (code_attribute.Vars name false vars)) read in
    from_raw entries offsets raw (code_attribute.Vars name false vars) rest fits.0 (vars_fit code vars fits.1.count) is
attribute_again entries offsets code names (code_attribute.Vars name true vars) rest (fits, valid) =
    let raw : Raw = record { name = name; bytes = counted (var_bytes code) vars } in
    let right : CountedFits (VarIsRight entries code) vars = record { count = fits.1.count; each = AllByRecursion-both VarFits (VarIsValid entries (length code.items)) vars fits.1.each valid.1 } in
    let read = whole_again (counted_at (var_at entries offsets)) (counted (var_bytes code)) (CountedFits (VarIsRight entries code)) (vars_piece entries offsets code names) vars right in
    let is : attribute_of entries offsets raw ≡ Some (code_attribute.Vars name true vars) =
    attribute_of-kind entries offsets raw kind.Types (codes "LocalVariableTypeTable") valid.0 refl ∙ ap (λ o. o >>= λ vars. Some (code_attribute.Vars name true vars)) read in
    from_raw entries offsets raw (code_attribute.Vars name true vars) rest fits.0 (vars_fit code vars fits.1.count) is
attribute_again entries offsets code names (code_attribute.Other raw) rest (fits, valid) =
    let text = Some-from_some_and (utf8_at entries raw.name) (IsOfKind kind.Other) valid in
    from_raw entries offsets raw (code_attribute.Other raw) rest fits.name fits.size (attribute_of-kind entries offsets raw kind.Other text.0 text.1 text.2)

pub attribute_piece : (entries : List Entry) (offsets : List ℕ) (code : Code) → NamePlaces offsets code → IsPiece (attribute_at entries offsets) (code_attribute_bytes code) (CodeAttrIsRight entries code)
attribute_piece entries offsets code names = record { takes = attribute_takes entries offsets code names; again = attribute_again entries offsets code names }
