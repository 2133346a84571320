use Rattle.std.proofs.Common.{◌≡◌, Result, Ok, Err, Some, ap, ◌∙◌, false}
use Rattle.fm_cells.specs.Objects.{new_object, request_of}
use Rattle.fm_cells.specs.declared.answers.Cell.{Cell}
use Rattle.fm_cells.specs.declared.answers.MakeFail.{MakeFail}
use Rattle.fm_frames.specs.States.{State}
use Rattle.fm_frames.proofs.Makings.{made-object, not-over, one-full, one-made}
use Rattle.fm_frames.proofs.machine.Machine.make_one.Goals as goal

not_refused : (cell : Cell) (fail : MakeFail) → ◌≡◌ {A = Result Cell MakeFail} (Ok cell) (Err fail) → ⊥
not_refused cell fail e = cc

pub returns-in-Ok-clause-makes : goal.returns-in-Ok-clause-makes
returns-in-Ok-clause-makes g c p t e request actions deep =
    one-made p g.M.Memory.choose _ c.args.self.now e t c.args.len (request_of c.args.class.0 c.args.len c.args.pack false)
    (g.M.Memory.store c.make.new.self) c.in-Ok.cell c.in-Ok.ensures.taken.0 c.self.view_is request actions deep
    (not-over (g.M.Memory.store c.self.inside.memory) (request_of c.args.class.0 c.args.len c.args.pack false)
    (λ over. not_refused _ _ (c.in-Ok.ensures.budget.1 over))) c.in-Ok.ensures.taken.1 c.in-Ok.ensures.made

pub returns-in-Err-Store-clause-makes : goal.returns-in-Err-Store-clause-makes
returns-in-Err-Store-clause-makes g c p t e request actions deep =
    let refused = c.in-Err-Store.ensures.full.0 (ap Err c.in-Err-Store.field-0-is) in
    one-full p g.M.Memory.choose _ c.args.self.now e t c.args.len (request_of c.args.class.0 c.args.len c.args.pack false)
    (g.M.Memory.store c.make.new.self) c.made_words.result c.object_cell_words-words.result c.self.view_is c.in-Err-Store.ensures.refused
    request actions deep refused.0 refused.1 c.made_words.ensures c.object_cell_words-words.ensures

pub returns-in-Ok-clause-object : goal.returns-in-Ok-clause-object
returns-in-Ok-clause-object g c =
    made-object (g.M.Memory.store c.self.inside.memory) (g.M.Memory.store c.make.new.self)
    (request_of c.args.class.0 c.args.len c.args.pack false)
    (g.M.Memory.choose (g.M.Memory.store c.self.inside.memory) (request_of c.args.class.0 c.args.len c.args.pack false))
    c.in-Ok.cell.0 c.in-Ok.ensures.taken.0 c.in-Ok.ensures.taken.1 c.in-Ok.ensures.made
    ∙ ap (λ (x : State). Some (new_object x.areas.store.births (request_of c.args.class.0 c.args.len c.args.pack false))) c.self.view_is
