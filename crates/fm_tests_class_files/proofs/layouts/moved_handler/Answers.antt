use Rattle.std.proofs.Common.{subst, sym}
use Rattle.fm_code.specs.Edges.{MeetsCodeRules}
use Rattle.fm_code.specs.declared.code_array.Code.{Code}
use Rattle.fm_layout.proofs.ExampleLemmas.{popped_meets_rules, popped_anchors_ready}
use Rattle.fm_layout.specs.Example.{popped_anchors, popped_code}
use Rattle.fm_layout.specs.Tables.{AreAnchors}
use Rattle.fm_layout.specs.declared.laying.Laid.{Laid}
use Rattle.fm_tests_class_files.proofs.layouts.moved_handler.Goals as goal

pub move_tables-requires : goal.move_tables-requires
move_tables-requires c = record {
  spelled = subst (λ (code : Code). MeetsCodeRules code) (sym c.in_ok-code.ensures) popped_meets_rules;
  anchors = subst (λ (code : Code). AreAnchors code c.in_ok-laid.laid popped_anchors) (sym c.in_ok-code.ensures)
      (subst (λ (laid : Laid). AreAnchors popped_code laid popped_anchors) (sym c.in_ok-laid.ensures) popped_anchors_ready);
}
