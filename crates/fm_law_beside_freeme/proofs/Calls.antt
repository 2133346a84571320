-- The first call of a method of FreeMe is one.
use Rattle.std.proofs.Common.{◌≡◌, refl, ℕ, Bool, true, false, cond, List, [], ◌∷◌, length, Option, Some, None, Contains, subst}
use Rattle.std.specs.List.{range_with_len}
use Rattle.std.specs.Option.{option_map, option_or}
use Rattle.fm_check.specs.Checking.{coded}
use Rattle.fm_code.proofs.EdgesLemmas.{Contains-first, Contains-later}
use Rattle.fm_code.specs.declared.code_array.Item.{Item}
use Rattle.fm_conn.proofs.CodedLemmas.{coded_at}
use Rattle.fm_rewrite.specs.FreeCalls.{call_among, call_in_code, call_in_items, call_in_method, calls_free, first_call}
use Rattle.fm_law_beside_freeme.specs.Told.{CallsFreeAt}
use Rattle.fm_world.specs.Members.{methods_of}
use Rattle.fm_world.specs.Programs.{method_info, Program}
use Rattle.fm_world.specs.declared.records.Body.{Body}
use Rattle.fm_world.specs.declared.records.Body.TheVariants as body

-- one of these items calls a method of FreeMe, and is at the offset
record IsCall (p : Program) (method : ℕ) (items : List Item) (offset : ℕ) : Type 0 where
  item : Item
  there : Contains items item
  begins : item.offset ≡ offset
  calls : calls_free p method item.insn ≡ true

in_items : (p : Program) (method : ℕ) (items : List Item) (offset : ℕ) → call_in_items p method items ≡ Some offset → IsCall p method items offset
in_items p method [] offset is = cc
in_items p method (item ∷ items) offset is = by_test (calls_free p method item.insn) refl is (in_items p method items offset) where
  by_test : (b : Bool) → calls_free p method item.insn ≡ b → cond b (Some item.offset) (call_in_items p method items) ≡ Some offset
      → (call_in_items p method items ≡ Some offset → IsCall p method items offset) → IsCall p method (item ∷ items) offset
  by_test true calls found later =
      let same : item.offset ≡ offset = cc in
      record { item = item; there = Contains-first item items item refl; begins = same; calls = calls }
  by_test false calls found later =
      let rest = later found in
      record { item = rest.item; there = Contains-later item items rest.item rest.there; begins = rest.begins; calls = rest.calls }

in_method : (p : Program) (method offset : ℕ) → call_in_method p method ≡ Some offset → CallsFreeAt p method offset
in_method p method offset is = by_body (method_info p method).body refl is where
  by_body : (b : Body) → (method_info p method).body ≡ b → call_in_code p method (coded b) ≡ Some offset → CallsFreeAt p method offset
  by_body (body.Coded code) own found =
      let call = in_items p method code.items offset found in
      record {
        code = code;
        coded = coded_at p method code own;
        item = call.item;
        there = call.there;
        begins = call.begins;
        calls = call.calls;
      }
  by_body (body.Native row) own found = cc
  by_body body.Abstract own found = cc

in_methods : (p : Program) (methods : List ℕ) (call : ℕ × ℕ) → call_among p methods ≡ Some call → CallsFreeAt p call.0 call.1
in_methods p [] call is = cc
in_methods p (method ∷ methods) call is = by_first (call_in_method p method) refl is (in_methods p methods call) where
  by_first : (o : Option ℕ) → call_in_method p method ≡ o → option_or (option_map (λ offset. (method, offset)) o) (call_among p methods) ≡ Some call
      → (call_among p methods ≡ Some call → CallsFreeAt p call.0 call.1) → CallsFreeAt p call.0 call.1
  by_first None none found later = later found
  by_first (Some offset) here found later =
      let both : ◌≡◌ {A = ℕ × ℕ} (method, offset) call = cc in
      subst (λ (c : ℕ × ℕ). CallsFreeAt p c.0 c.1) both (in_method p method offset here)

pub call_there : (p : Program) (call : ℕ × ℕ) → first_call p ≡ Some call → CallsFreeAt p call.0 call.1
unfolding first_call
call_there p call is = in_methods p (range_with_len 0 (length (methods_of p.outline.classes))) call is
