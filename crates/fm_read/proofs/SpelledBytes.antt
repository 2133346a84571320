-- What spells a record whose numbers fit is bytes.
use Rattle.std.proofs.Common.{ℕ, ◌-◌, List, [], ◌∷◌, ◌++◌, length}
use Rattle.std.specs.List.{concat, flat_map, AllByRecursion}
use Rattle.std.proofs.lemmas.List.Concat.{flat_map-cons}
use Rattle.fm_base.proofs.ListFacts.{AllByRecursion-from_every}
use Rattle.fm_code.specs.Numbers.{two, four}
use Rattle.fm_code.specs.ClassBytes.{attribute_bytes, code_attribute_bytes, code_bytes, counted, handler_bytes, item_bytes, line_bytes, offset_of, raw_bytes, var_bytes}
use Rattle.fm_code.specs.Fits.{AreBytes, CodeAttrFits, CodeFits, RawFits}
use Rattle.fm_code.specs.declared.class_file.Raw.{Raw}
use Rattle.fm_code.specs.declared.code_array.Code.{Code}
use Rattle.fm_code.specs.declared.code_array.CodeAttr.{CodeAttr}
use Rattle.fm_code.specs.declared.code_array.CodeAttr.TheVariants as attribute
use Rattle.fm_code.specs.declared.code_array.Handler.{Handler}
use Rattle.fm_code.specs.declared.code_array.Item.{Item}
use Rattle.fm_code.specs.declared.code_array.Line.{Line}
use Rattle.fm_code.specs.declared.code_array.Var.{Var}
use Rattle.fm_code.proofs.Bytes.{AreBytes-append, AreBytes-two, AreBytes-four}

-- pieces of bytes
AreBytes-concat : (pieces : List (List ℕ)) → AllByRecursion AreBytes pieces → AreBytes (concat pieces)
AreBytes-concat [] all = tt
AreBytes-concat (piece ∷ pieces) all = AreBytes-append piece (concat pieces) all.0 (AreBytes-concat pieces all.1)

AreBytes-flat_map : {X : Type 0} (spell : X → List ℕ) (Fits : X → Type 0) → ((x : X) → Fits x → AreBytes (spell x)) → (xs : List X) → AllByRecursion Fits xs → AreBytes (flat_map spell xs)
AreBytes-flat_map spell Fits each [] all = tt
AreBytes-flat_map spell Fits each (x ∷ xs) all =
    rw flat_map-cons (AreBytes-append (spell x) (flat_map spell xs) (each x all.0) (AreBytes-flat_map spell Fits each xs all.1))

AreBytes-counted : {X : Type 0} (spell : X → List ℕ) (Fits : X → Type 0) → ((x : X) → Fits x → AreBytes (spell x)) → (xs : List X) → AllByRecursion Fits xs → AreBytes (counted spell xs)
AreBytes-counted spell Fits each xs all =
    AreBytes-append (two (length xs)) (flat_map spell xs) (AreBytes-two (length xs)) (AreBytes-flat_map spell Fits each xs all)

-- elements that are spelled in bytes whatever they are
AreBytes-counted_numbers : {X : Type 0} (spell : X → List ℕ) → ((x : X) → AreBytes (spell x)) → (xs : List X) → AreBytes (counted spell xs)
AreBytes-counted_numbers spell each xs = AreBytes-counted spell (λ x. Unit {0}) (λ x any. each x) xs (AllByRecursion-from_every (λ x. Unit {0}) (λ x. tt) xs)

AreBytes-attribute : (name : ℕ) (body : List ℕ) → AreBytes body → AreBytes (attribute_bytes name body)
AreBytes-attribute name body all =
    AreBytes-append (two name) (four (length body) ++ body) (AreBytes-two name) (AreBytes-append (four (length body)) body (AreBytes-four (length body)) all)

AreBytes-raw : (raw : Raw) → RawFits raw → AreBytes (raw_bytes raw)
unfolding raw_bytes
AreBytes-raw raw fits = AreBytes-attribute raw.name raw.bytes fits.bytes

AreBytes-handler : (code : Code) (h : Handler) → AreBytes (handler_bytes code h)
AreBytes-handler code h =
    AreBytes-concat (two (offset_of code h.start) ∷ two (offset_of code h.end) ∷ two (offset_of code h.handler) ∷ two h.catch_class ∷ [])
    (AreBytes-two _, (AreBytes-two _, (AreBytes-two _, (AreBytes-two _, tt))))

AreBytes-line : (code : Code) (l : Line) → AreBytes (line_bytes code l)
AreBytes-line code l = AreBytes-append (two (offset_of code l.item)) (two l.line) (AreBytes-two _) (AreBytes-two _)

AreBytes-var : (code : Code) (v : Var) → AreBytes (var_bytes code v)
AreBytes-var code v =
    AreBytes-concat (two (offset_of code v.start) ∷ two (offset_of code v.end - offset_of code v.start) ∷ two v.name ∷ two v.kind ∷ two v.index ∷ [])
    (AreBytes-two _, (AreBytes-two _, (AreBytes-two _, (AreBytes-two _, (AreBytes-two _, tt)))))

AreBytes-code_attribute : (code : Code) (a : CodeAttr) → CodeAttrFits a → AreBytes (code_attribute_bytes code a)
AreBytes-code_attribute code (attribute.Lines name lines) fits =
    AreBytes-attribute name (counted (line_bytes code) lines) (AreBytes-counted_numbers (line_bytes code) (AreBytes-line code) lines)
AreBytes-code_attribute code (attribute.Vars name types vars) fits =
    AreBytes-attribute name (counted (var_bytes code) vars) (AreBytes-counted_numbers (var_bytes code) (AreBytes-var code) vars)
AreBytes-code_attribute code (attribute.Other raw) fits = AreBytes-raw raw fits

-- what spells code is bytes
pub AreBytes-code : (code : Code) → CodeFits code → AreBytes (code_bytes code)
unfolding code_bytes
AreBytes-code code fits =
    AreBytes-concat (two code.max_stack ∷ two code.max_locals ∷ four code.length ∷ flat_map item_bytes code.items
    ∷ counted (handler_bytes code) code.handlers ∷ counted (code_attribute_bytes code) code.attributes ∷ []) (
      AreBytes-two code.max_stack,
      (
        AreBytes-two code.max_locals,
        (
          AreBytes-four code.length,
          (
            AreBytes-flat_map item_bytes (λ (item : Item). AreBytes item.bytes) (λ item all. all) code.items fits.items,
            (
              AreBytes-counted_numbers (handler_bytes code) (AreBytes-handler code) code.handlers,
              (AreBytes-counted (code_attribute_bytes code) CodeAttrFits (AreBytes-code_attribute code) code.attributes fits.attributes.each, tt),
            ),
          ),
        ),
      ),
    )
