use Rattle.std.proofs.Common.{◌≡◌, sym, ◌∙◌}
use Rattle.fm_world.proofs.TableLemmas.{from_parts}
use Rattle.fm_world.proofs.TypeTests.{index_of_type}
use Rattle.fm_world.specs.Numbers.{type_number}
use Rattle.fm_world.proofs.program.Program.id_of.Goals as goal

pub returns-in-Some : goal.returns-in-Some
returns-in-Some c =
    let x = c.self.inside.parts in
    sym c.in-Some.is
    ∙ from_parts (λ p. c.get_index_of.result ≡ type_number p.outline.types c.args.t) x c.args.self.now c.self.view_is
    (c.get_index_of.ensures.index ∙ index_of_type x.types.keys c.args.t)

pub returns-in-None : goal.returns-in-None
returns-in-None c =
    let x = c.self.inside.parts in
    sym c.in-None.is
    ∙ from_parts (λ p. c.get_index_of.result ≡ type_number p.outline.types c.args.t) x c.args.self.now c.self.view_is
    (c.get_index_of.ensures.index ∙ index_of_type x.types.keys c.args.t)
