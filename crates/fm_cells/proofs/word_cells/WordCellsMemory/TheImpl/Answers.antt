use Rattle.std.proofs.Common.{◌≡◌, ◌≤◌, ◌↔◌}
use Rattle.std.specs.Prelude.{Err, IfOk, OnOk}
use Rattle.fm_cells.specs.Changes.{made_by, RefuseStore}
use Rattle.fm_cells.specs.Choices.{TakesCell, last_choice}
use Rattle.fm_cells.specs.Objects.{request_of}
use Rattle.fm_cells.specs.Stores.{words_needed}
use Rattle.fm_cells.specs.declared.answers.MakeFail.{MakeFail}
use Rattle.fm_cells.proofs.Choices.{lawful-holds, lawful_choice-may}
use Rattle.fm_cells.proofs.word_cells.WordCellsMemory.TheImpl.Goals as goal

pub make-tells : goal.make-tells
make-tells c =
    let old = c.args.self.now in
    let request = request_of c.args.class c.args.len c.args.pack c.args.fixed in
    record {
      taken = lawful-holds last_choice old request c.ensures.may_reuse (λ choice. IfOk c.result (λ cell. TakesCell choice cell.0)) c.ensures.taken;
      made = lawful-holds last_choice old request c.ensures.may_reuse (λ choice. OnOk c.result (c.new.self.now ≡ made_by old request choice)) c.ensures.made;
      budget = c.ensures.budget;
      full = lawful-holds last_choice old request c.ensures.may_reuse (λ choice. (c.result ≡ Err MakeFail.Store) ↔ ((words_needed old request ≤ old.budget) × (choice ≡ RefuseStore))) c.ensures.full;
      refused = c.ensures.refused;
      may_reuse = lawful_choice-may old request (last_choice old request);
    }
