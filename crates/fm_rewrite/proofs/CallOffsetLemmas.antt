-- The offset at which a method calls FreeMe fits two bytes.
use Rattle.std.proofs.Common.{◌≡◌, refl, ap, ℕ, ◌+◌, ◌<◌, ◌≤◌, ◌^◌, Bool, true, false, cond, List, [], ◌∷◌, length, Option, Some, None, arith, length-append}
use Rattle.std.specs.List.{flat_map, range_with_len}
use Rattle.std.specs.Option.{option_map, option_or}
use Rattle.fm_summ_shapes.proofs.ShapesLemmas.{code_facts}
use Rattle.fm_summ_shapes.specs.Analysed.{AreAnalysable}
use Rattle.fm_check.specs.Checking.{coded}
use Rattle.fm_code.specs.ClassBytes.{item_bytes}
use Rattle.fm_code.specs.SpellsCode.{AreOffsets}
use Rattle.fm_code.specs.declared.code_array.Code.{Code}
use Rattle.fm_code.specs.declared.code_array.Item.{Item}
use Rattle.fm_conn.proofs.CodedLemmas.{coded_at}
use Rattle.fm_rewrite.specs.FreeCalls.{call_among, call_in_code, call_in_items, call_in_method, calls_free, first_call}
use Rattle.fm_world.specs.Members.{methods_of}
use Rattle.fm_world.specs.Programs.{method_info, Program}
use Rattle.fm_world.specs.declared.records.Body.{Body}
use Rattle.fm_world.specs.declared.records.Body.TheVariants as body

-- no item begins after the end of all
offset_within : (p : Program) (method start : ℕ) (items : List Item) (offset : ℕ) → AreOffsets start items → call_in_items p method items ≡ Some offset
    → offset ≤ start + length (flat_map item_bytes items)
offset_within p method start [] offset are is = absurd cc
offset_within p method start (item ∷ items) offset are is =
    by_test (calls_free p method item.insn) is (offset_within p method (start + length item.bytes) items offset are.1) where
      by_test : (b : Bool) → cond b (Some item.offset) (call_in_items p method items) ≡ Some offset
          → (call_in_items p method items ≡ Some offset → offset ≤ start + length item.bytes + length (flat_map item_bytes items))
          → offset ≤ start + length (flat_map item_bytes (item ∷ items))
      by_test true first later = let same : item.offset ≡ offset = cc in let begins = are.0 in omega (arith, same, begins)
      by_test false found later =
          let rest = later found in
          let both = length-append item.bytes (flat_map item_bytes items) in
          omega (arith, rest, both)

code_offset : (p : Program) (method : ℕ) (code : Code) (offset : ℕ) → AreAnalysable p → (method_info p method).body ≡ body.Coded code
    → call_in_items p method code.items ≡ Some offset → offset < 2 ^ 16
code_offset p method code offset may own is =
    let rules = (code_facts p method code may (coded_at p method code own)).0.spelled in
    let within = offset_within p method 0 code.items offset rules.1.spelled.offsets is in
    let size = rules.1.measured in
    let short = rules.1.not_long in
    omega (arith, within, size, short)

method_offset : (p : Program) (method offset : ℕ) → AreAnalysable p → call_in_method p method ≡ Some offset → offset < 2 ^ 16
method_offset p method offset may is = by_body (method_info p method).body refl is where
  by_body : (b : Body) → (method_info p method).body ≡ b → call_in_code p method (coded b) ≡ Some offset → offset < 2 ^ 16
  by_body (body.Coded code) own found = code_offset p method code offset may own found
  by_body (body.Native row) own found = absurd cc
  by_body body.Abstract own found = absurd cc

among_offset : (p : Program) (methods : List ℕ) (call : ℕ × ℕ) → AreAnalysable p → call_among p methods ≡ Some call → call.1 < 2 ^ 16
among_offset p [] call may is = absurd cc
among_offset p (method ∷ methods) call may is = by_first (call_in_method p method) refl is (among_offset p methods call may) where
  by_first : (o : Option ℕ) → call_in_method p method ≡ o → option_or (option_map (λ offset. (method, offset)) o) (call_among p methods) ≡ Some call
      → (call_among p methods ≡ Some call → call.1 < 2 ^ 16) → call.1 < 2 ^ 16
  by_first None none found later = later found
  by_first (Some offset) here found later =
      let both : ◌≡◌ {A = ℕ × ℕ} (method, offset) call = cc in
      let same : offset ≡ call.1 = ap (λ (c : ℕ × ℕ). c.1) both in
      let fits = method_offset p method offset may here in
      omega (arith, same, fits)

pub call_offset : (p : Program) (call : ℕ × ℕ) → AreAnalysable p → first_call p ≡ Some call → call.1 < 2 ^ 16
unfolding first_call
call_offset p call may is = among_offset p (range_with_len 0 (length (methods_of p.outline.classes))) call may is
