use Rattle.std.proofs.Common.{◌≡◌, ◌<◌, ◌-◌, ◌+◌, ◌^◌, ap, sym, refl, ◌∙◌, subst, arith, slice_set, slice_index_or, true}
use Rattle.fm_cells.specs.Sizes.{cell_words, size_class}
use Rattle.fm_cells.specs.Objects.{request_of, IsRequest}
use Rattle.fm_cells.specs.Changes.{Take, made_by}
use Rattle.fm_cells.specs.Choices.{never_choice}
use Rattle.fm_cells.specs.inner.PlainStores.{plain_store, IsPlain}
use Rattle.fm_cells.specs.declared.plain_cells.PlainCells.TheInside.{Inside}
use Rattle.fm_cells.proofs.SizeLaws.{size_class-lt}
use Rattle.fm_cells.proofs.PlainStores.{lawful-next, same_residents, pushed, new_resident}
use Rattle.fm_cells.proofs.Soundness.{request_words_bound}
use Rattle.fm_cells.proofs.plain_cells.PlainCellsMemory.make.Goals as goal

pub invariant_of-self : goal.invariant_of-self
invariant_of-self c = (same_residents c.self.inside _ c.push.new.self c.in_err-push.ensures.items c.self.invariant refl).1

pub bounds-self-inside-size_class : goal.bounds-self-inside-size_class
bounds-self-inside-size_class c =
    let asked : IsRequest (request_of c.args.class c.args.len c.args.pack c.args.fixed) = record { class_fits = c.requires.class_fits; len_fits = c.requires.len_fits; pack_is = c.requires.pack_is } in
    let bound = request_words_bound _ asked in
    omega (arith, c.size_class.ensures, c.object_words-words.ensures, size_class-lt c.object_words-words.result)

pub bounds-self-inside-size_class-2 : goal.bounds-self-inside-size_class-2
bounds-self-inside-size_class-2 c =
    let asked : IsRequest (request_of c.args.class c.args.len c.args.pack c.args.fixed) = record { class_fits = c.requires.class_fits; len_fits = c.requires.len_fits; pack_is = c.requires.pack_is } in
    let bound = request_words_bound _ asked in
    omega (arith, c.size_class.ensures, c.object_words-words.ensures, size_class-lt c.object_words-words.result)

-- the fields at the end
abbrev after : goal.After-self-4-1 → Inside
after c = record c.self.inside {
  residents = c.push.new.self;
  live = c.self.inside.live + c.object_words-words.result;
  peak = c.max-self-inside.result;
  made_words = c.self.inside.made_words + c.cell_words-cell_words.result;
  made = slice_set c.self.inside.made c.size_class.result (slice_index_or c.self.inside.made c.size_class.result 0 + 1);
}

-- the choice, the store and the fields after the resident was pushed
both : (c : goal.After-self-4-1)
    → (Take (c.self.inside.residents.len + 1) true ≡ never_choice (plain_store c.self.inside) (request_of c.args.class c.args.len c.args.pack c.args.fixed))
    × (plain_store (after c) ≡ made_by (plain_store c.self.inside) (request_of c.args.class c.args.len c.args.pack c.args.fixed) (never_choice (plain_store c.self.inside) (request_of c.args.class c.args.len c.args.pack c.args.fixed)))
    × IsPlain (after c)
both c =
    let request = request_of c.args.class c.args.len c.args.pack c.args.fixed in
    let asked : IsRequest request = record { class_fits = c.requires.class_fits; len_fits = c.requires.len_fits; pack_is = c.requires.pack_is } in
    pushed c.self.inside _ c.push.new.self _ request c.object_words-words.result c.cell_words-cell_words.result c.max-self-inside.result c.size_class.result c.self.invariant asked
    (subst (λ s. s.births < 2 ^ 32 - 1) (sym c.self.view_is) c.requires.birth_fits)
    c.in_ok-push.ensures.items (new_resident c.args.class c.len-birth.result c.self.inside.residents.len c.args.pack c.args.fixed c.args.len c.in_ok-elements.elements.items c.len-birth.ensures c.in_ok-elements.ensures)
    c.object_words-words.ensures
    (c.cell_words-cell_words.ensures ∙ ap cell_words c.object_words-words.ensures) c.max-self-inside.ensures (c.size_class.ensures ∙ ap size_class c.object_words-words.ensures)
    c.if-words-self.false c.if-cell_words-self.false refl

pub invariant_of-self-2 : goal.invariant_of-self-2
invariant_of-self-2 c = (both c).2

pub returns-clause-taken : goal.returns-clause-taken
returns-clause-taken c =
    let request = request_of c.args.class c.args.len c.args.pack c.args.fixed in
    (true, lawful-next c.self.inside c.args.self.now request c.self.view_is c.self.invariant ∙ sym (ap (λ n. Take (n + 1) true) c.len-birth.ensures ∙ (both c).0 ∙ ap (λ s. never_choice s request) c.self.view_is))

pub returns-clause-made : goal.returns-clause-made
returns-clause-made c =
    let request = request_of c.args.class c.args.len c.args.pack c.args.fixed in
    (both c).1 ∙ ap (λ s. made_by s request (never_choice s request)) c.self.view_is
    ∙ sym (ap (made_by c.args.self.now request) (lawful-next c.self.inside c.args.self.now request c.self.view_is c.self.invariant))
