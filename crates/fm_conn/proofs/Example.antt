-- The chain of pairs of the example, one pair for each of three items.
use Rattle.std.proofs.Common.{refl, inl, inr, [], ◌∷◌, arith}
use Rattle.fm_code.specs.declared.instructions.Insn.TheVariants as insn
use Rattle.fm_code.specs.Edges.{IsNormalEdge}
use Rattle.fm_code.specs.declared.operations.Reg.TheVariants as reg
use Rattle.fm_types.specs.Example.{typed_code}
use Rattle.fm_world.specs.BuiltIns.{built_in}
use Rattle.fm_world.specs.Chains.{chain_of}
use Rattle.fm_world.specs.Lookups.{resolved_field, resolved_method}
use Rattle.fm_world.specs.Members.{fields_of, methods_of}
use Rattle.fm_world.specs.Numbers.{texts_of, types_of}
use Rattle.fm_world.specs.Programs.{classes_of, outline_of, uses_of, codes_of, program_of}
use Rattle.fm_world.specs.Uses.{used_indices}
use Rattle.fm_conn.specs.Example.{example, kept_in, linked_in_example, made_word}
use Rattle.fm_conn.specs.Nodes.{Slot}
use Rattle.fm_conn.specs.Pairs.{Joined, PairAt}
use Rattle.fm_conn.specs.Rows.{joined_by, words_taken, Taken, Given, InLocal}

-- each of the first four items leads to the one after it
dup_leads : IsNormalEdge typed_code 1 2
dup_leads = record { inside = omega arith; leads = inr (refl, refl) }

call_leads : IsNormalEdge typed_code 2 3
call_leads = record { inside = omega arith; leads = inr (refl, refl) }

copied : PairAt linked_in_example example 1 made_word (Slot 2 0)
unfolding built_in chain_of resolved_field resolved_method fields_of methods_of texts_of types_of classes_of outline_of uses_of codes_of program_of used_indices words_taken joined_by
copied = record {
  insn = insn.Dup;
  is = refl;
  reachable = tt;
  first = refl;
  second = refl;
  paired = inr (inl (record {
    one = Taken 0;
    other = Given 0;
    row = (1, omega arith, refl);
    first = refl;
    second = (2, (dup_leads, refl));
  }));
}

stayed : PairAt linked_in_example example 2 (Slot 2 0) (Slot 3 0)
unfolding built_in chain_of resolved_field resolved_method fields_of methods_of texts_of types_of classes_of outline_of uses_of codes_of program_of used_indices words_taken joined_by
stayed = record {
  insn = insn.Special 10;
  is = refl;
  reachable = tt;
  first = refl;
  second = refl;
  paired = inl (record { depth = 0; next = 3; below = omega arith; edge = call_leads; before = refl; after = refl });
}

kept : PairAt linked_in_example example 3 (Slot 3 0) kept_in
unfolding built_in chain_of resolved_field resolved_method fields_of methods_of texts_of types_of classes_of outline_of uses_of codes_of program_of used_indices words_taken joined_by
kept = record {
  insn = insn.Store reg.Ref 1;
  is = refl;
  reachable = tt;
  first = refl;
  second = tt;
  paired = inr (inl (record {
    one = Taken 0;
    other = InLocal 1;
    row = (0, omega arith, refl);
    first = refl;
    second = refl;
  }));
}

pub joined_in_example : Joined linked_in_example example made_word kept_in
joined_in_example = (Slot 2 0 ∷ Slot 3 0 ∷ kept_in ∷ [], ((1, inl copied), ((2, inl stayed), ((3, inl kept), refl))))
