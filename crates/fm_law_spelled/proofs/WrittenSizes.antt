-- How many bytes a woven code has in its class file: no more than the old one with its code array.
use Rattle.std.proofs.Common.{◌≡◌, ℕ, ◌+◌, ◌-◌, ◌*◌, ◌≤◌, List, [], ◌∷◌, ◌++◌, length, map, ap, ◌∙◌, arith, length-append}
use Rattle.std.specs.List.{AllByRecursion, concat, filter_map, flat_map}
use Rattle.std.proofs.lemmas.List.{length-map}
use Rattle.fm_code.proofs.Bytes.{length-four, length-two}
use Rattle.fm_code.specs.ClassBytes.{attribute_bytes, class_bytes, code_attribute_bytes, code_bytes, counted, handler_bytes, item_bytes, line_bytes, magic, member_attribute_bytes, member_bytes, offset_of, pool_bytes, raw_bytes, var_bytes}
use Rattle.fm_code.specs.Numbers.{four, two}
use Rattle.fm_code.specs.declared.class_file.ClassDef.{ClassDef}
use Rattle.fm_code.specs.declared.class_file.Member.{Member}
use Rattle.fm_code.specs.declared.class_file.MemberAttr.{MemberAttr}
use Rattle.fm_code.specs.declared.class_file.MemberAttr.TheVariants as attribute
use Rattle.fm_code.specs.declared.code_array.Code.{Code}
use Rattle.fm_code.specs.declared.code_array.CodeAttr.{CodeAttr}
use Rattle.fm_code.specs.declared.code_array.CodeAttr.TheVariants as code_attribute
use Rattle.fm_code.specs.declared.code_array.Handler.{Handler}
use Rattle.fm_code.specs.declared.code_array.Line.{Line}
use Rattle.fm_code.specs.declared.code_array.Var.{Var}
use Rattle.fm_layout.specs.Tables.{moved_attribute, moved_handler, moved_line, moved_var}

-- ---- parts of lists

-- each piece is no longer than all of them
pub short_pieces : {X : Type 0} (f : X → List ℕ) (n : ℕ) (xs : List X) → length (flat_map f xs) ≤ n → AllByRecursion (λ x. length (f x) ≤ n) xs
short_pieces f n [] short = tt
short_pieces f n (x ∷ xs) short =
    let both = length-append (f x) (flat_map f xs) in
    (omega (arith, both, short), short_pieces f n xs (omega (arith, both, short)))

short_part : (front : List (List ℕ)) (piece : List ℕ) (back : List (List ℕ)) → length piece ≤ length (concat (front ++ piece ∷ back))
short_part [] piece back = let both = length-append piece (concat back) in omega (arith, both)
short_part (first ∷ front) piece back =
    let rest = short_part front piece back in
    let both = length-append first (concat (front ++ piece ∷ back)) in
    omega (arith, rest, both)

short_counted : {X : Type 0} (f : X → List ℕ) (xs : List X) → length (flat_map f xs) ≤ length (counted f xs)
short_counted f xs = let both = length-append (two (length xs)) (flat_map f xs) in omega (arith, both)

-- the methods of a class are no longer than its file
methods_short : (c : ClassDef) → length (flat_map member_bytes c.methods) ≤ length (class_bytes c)
unfolding class_bytes
methods_short c =
    let all = short_part (magic ∷ two c.minor ∷ two c.major ∷ pool_bytes c.pool ∷ two c.flags ∷ two c.this_class ∷ two c.super_class
    ∷ counted two c.interfaces ∷ counted member_bytes c.fields ∷ []) (counted member_bytes c.methods) (counted raw_bytes c.attributes ∷ []) in
    let own = short_counted member_bytes c.methods in
    omega (arith, all, own)

attributes_short : (m : Member) → length (flat_map member_attribute_bytes m.attributes) ≤ length (member_bytes m)
unfolding member_bytes
attributes_short m =
    let all = short_part (two m.flags ∷ two m.name ∷ two m.descriptor ∷ []) (counted member_attribute_bytes m.attributes) [] in
    let own = short_counted member_attribute_bytes m.attributes in
    omega (arith, all, own)

code_short : (name : ℕ) (code : Code) → length (code_bytes code) ≤ length (member_attribute_bytes (attribute.Coded name code))
unfolding member_attribute_bytes
code_short name code =
    let rest = length-append (four (length (code_bytes code))) (code_bytes code) in
    let all = length-append (two name) (four (length (code_bytes code)) ++ code_bytes code) in
    omega (arith, rest, all)

-- an attribute that is code isn't longer than this
abbrev pub HasShortCode : ℕ → MemberAttr → Type 0
HasShortCode n (attribute.Coded name code) = length (code_bytes code) ≤ n
HasShortCode n a = Unit {0}

short_attributes : (n : ℕ) (attributes : List MemberAttr) → AllByRecursion (λ a. length (member_attribute_bytes a) ≤ n) attributes → AllByRecursion (HasShortCode n) attributes
short_attributes n [] short = tt
short_attributes n (attribute.Coded name code ∷ attributes) short =
    let own = code_short name code in (omega (arith, own, short.0), short_attributes n attributes short.1)
short_attributes n (attribute.Constant name value ∷ attributes) short = (tt, short_attributes n attributes short.1)
short_attributes n (attribute.Other raw ∷ attributes) short = (tt, short_attributes n attributes short.1)

short_methods : (n : ℕ) (methods : List Member) → AllByRecursion (λ m. length (member_bytes m) ≤ n) methods → AllByRecursion (λ m. AllByRecursion (HasShortCode n) m.attributes) methods
short_methods n [] short = tt
short_methods n (m ∷ methods) short =
    let own = attributes_short m in
    (short_attributes n m.attributes (short_pieces member_attribute_bytes n m.attributes (omega (arith, own, short.0))), short_methods n methods short.1)

pub codes_short : (n : ℕ) (c : ClassDef) → length (class_bytes c) ≤ n → AllByRecursion (λ (m : Member). AllByRecursion (HasShortCode n) m.attributes) c.methods
codes_short n c short =
    let all = methods_short c in short_methods n c.methods (short_pieces member_bytes n c.methods (omega (arith, all, short)))

-- ---- tables

four_twos : (a b c d : ℕ) → length (concat (two a ∷ two b ∷ two c ∷ two d ∷ [])) ≡ 8
four_twos a b c d =
    omega (
      arith,
      length-append (two a) (concat (two b ∷ two c ∷ two d ∷ [])),
      length-append (two b) (concat (two c ∷ two d ∷ [])),
      length-append (two c) (concat (two d ∷ [])),
      length-append (two d) [],
      length-two a,
      length-two b,
      length-two c,
      length-two d,
    )

handlers_size : (code : Code) (handlers : List Handler) → length (flat_map (handler_bytes code) handlers) ≡ 8 * length handlers
handlers_size code [] = omega arith
handlers_size code (h ∷ handlers) =
    let rest = handlers_size code handlers in
    let own = four_twos (offset_of code h.start) (offset_of code h.end) (offset_of code h.handler) h.catch_class in
    let both = length-append (handler_bytes code h) (flat_map (handler_bytes code) handlers) in
    omega (arith, rest, own, both)

lines_size : (code : Code) (lines : List Line) → length (flat_map (line_bytes code) lines) ≡ 4 * length lines
lines_size code [] = omega arith
lines_size code (l ∷ lines) =
    let rest = lines_size code lines in
    let own = length-append (two (offset_of code l.item)) (two l.line) in
    let both = length-append (line_bytes code l) (flat_map (line_bytes code) lines) in
    omega (arith, rest, own, both, length-two (offset_of code l.item), length-two l.line)

five_twos : (a b c d e : ℕ) → length (concat (two a ∷ two b ∷ two c ∷ two d ∷ two e ∷ [])) ≡ 10
five_twos a b c d e =
    let rest = four_twos b c d e in
    let both = length-append (two a) (concat (two b ∷ two c ∷ two d ∷ two e ∷ [])) in
    omega (arith, rest, both, length-two a)

vars_size : (code : Code) (vars : List Var) → length (flat_map (var_bytes code) vars) ≡ 10 * length vars
vars_size code [] = omega arith
vars_size code (v ∷ vars) =
    let rest = vars_size code vars in
    let own = five_twos (offset_of code v.start) (offset_of code v.end - offset_of code v.start) v.name v.kind v.index in
    let both = length-append (var_bytes code v) (flat_map (var_bytes code) vars) in
    omega (arith, rest, own, both)

-- an attribute of a list whose pieces have one size each
counted_size : {X : Type 0} (f : X → List ℕ) (size name : ℕ) (xs : List X) → length (flat_map f xs) ≡ size * length xs
    → length (attribute_bytes name (counted f xs)) ≡ 8 + size * length xs
counted_size f size name xs pieces =
    let body = length-append (two (length xs)) (flat_map f xs) in
    let rest = length-append (four (length (counted f xs))) (counted f xs) in
    let all = length-append (two name) (four (length (counted f xs)) ++ counted f xs) in
    omega (arith, body, rest, all, pieces, length-two (length xs), length-two name, length-four (length (counted f xs)))

-- the attributes that stay are no longer than all old ones
moved_size : (old new : Code) (firsts anchors : List ℕ) (attributes : List CodeAttr)
    → length (flat_map (code_attribute_bytes new) (filter_map (moved_attribute firsts anchors) attributes)) ≤ length (flat_map (code_attribute_bytes old) attributes)
moved_size old new firsts anchors [] = omega arith
moved_size old new firsts anchors (code_attribute.Lines name lines ∷ attributes) =
    let rest = moved_size old new firsts anchors attributes in
    let moved = map (moved_line firsts anchors) lines in
    let first = counted_size (line_bytes new) 4 name moved (lines_size new moved) in
    let second = counted_size (line_bytes old) 4 name lines (lines_size old lines) in
    let count = length-map lines (moved_line firsts anchors) in
    let new_both = length-append (code_attribute_bytes new (code_attribute.Lines name moved)) (flat_map (code_attribute_bytes new) (filter_map (moved_attribute firsts anchors) attributes)) in
    let old_both = length-append (code_attribute_bytes old (code_attribute.Lines name lines)) (flat_map (code_attribute_bytes old) attributes) in
    omega (arith, rest, first, second, count, new_both, old_both)
moved_size old new firsts anchors (code_attribute.Vars name types vars ∷ attributes) =
    let rest = moved_size old new firsts anchors attributes in
    let moved = map (moved_var firsts anchors) vars in
    let first = counted_size (var_bytes new) 10 name moved (vars_size new moved) in
    let second = counted_size (var_bytes old) 10 name vars (vars_size old vars) in
    let count = length-map vars (moved_var firsts anchors) in
    let new_both = length-append (code_attribute_bytes new (code_attribute.Vars name types moved)) (flat_map (code_attribute_bytes new) (filter_map (moved_attribute firsts anchors) attributes)) in
    let old_both = length-append (code_attribute_bytes old (code_attribute.Vars name types vars)) (flat_map (code_attribute_bytes old) attributes) in
    omega (arith, rest, first, second, count, new_both, old_both)
moved_size old new firsts anchors (code_attribute.Other raw ∷ attributes) =
    let rest = moved_size old new firsts anchors attributes in
    let old_both = length-append (code_attribute_bytes old (code_attribute.Other raw)) (flat_map (code_attribute_bytes old) attributes) in
    omega (arith, rest, old_both)

-- ---- code

-- the parts of a code's bytes
code_size : (code : Code) → length (code_bytes code)
    ≡ 12 + length (flat_map item_bytes code.items) + 8 * length code.handlers + length (flat_map (code_attribute_bytes code) code.attributes)
unfolding code_bytes
code_size code =
    let attributes = counted (code_attribute_bytes code) code.attributes in
    let handlers = counted (handler_bytes code) code.handlers in
    let items = flat_map item_bytes code.items in
    omega (
      arith,
      length-append (two code.max_stack) (concat (two code.max_locals ∷ four code.length ∷ items ∷ handlers ∷ attributes ∷ [])),
      length-append (two code.max_locals) (concat (four code.length ∷ items ∷ handlers ∷ attributes ∷ [])),
      length-append (four code.length) (concat (items ∷ handlers ∷ attributes ∷ [])),
      length-append items (concat (handlers ∷ attributes ∷ [])),
      length-append handlers (concat (attributes ∷ [])),
      length-append attributes [],
      length-append (two (length code.handlers)) (flat_map (handler_bytes code) code.handlers),
      length-append (two (length code.attributes)) (flat_map (code_attribute_bytes code) code.attributes),
      handlers_size code code.handlers,
      length-two code.max_stack,
      length-two code.max_locals,
      length-four code.length,
      length-two (length code.handlers),
      length-two (length code.attributes),
    )

-- a code whose tables are moved ones has no more bytes than the old one and its own code array
pub woven_size : (old new : Code) (firsts anchors : List ℕ) → new.handlers ≡ map (moved_handler firsts anchors) old.handlers
    → new.attributes ≡ filter_map (moved_attribute firsts anchors) old.attributes
    → length (code_bytes new) ≤ length (code_bytes old) + length (flat_map item_bytes new.items)
woven_size old new firsts anchors handlers attributes =
    let was = code_size old in
    let is = code_size new in
    let count = ap length handlers ∙ length-map old.handlers (moved_handler firsts anchors) in
    let moved = moved_size old new firsts anchors old.attributes in
    let same = ap (λ xs. length (flat_map (code_attribute_bytes new) xs)) attributes in
    omega (arith, was, is, count, moved, same)
