use Rattle.std.proofs.Common.{◌≡◌, ◌<◌, ◌≤◌, ℕ, List, [], ◌∷◌, false, ap, sym, ◌∙◌, subst, get_or, set, max, arith}
use Rattle.fm_cells.specs.Changes.{Take, made_by}
use Rattle.fm_cells.specs.Choices.{last_choice}
use Rattle.fm_cells.specs.Objects.{request_of, IsRequest, request_size_class}
use Rattle.fm_cells.specs.Sizes.{size_class}
use Rattle.fm_cells.specs.Soundness.{IsSound, IsLastReused}
use Rattle.fm_cells.specs.Stores.{free_cells, words_needed, live_words, made_count, held_count}
use Rattle.fm_cells.proofs.Choices.{MayReuse-last_choice}
use Rattle.fm_cells.proofs.LastReused.{take-refuse, last_choice-head, last_choice-full, last_choice-refused, made-most_held-head}
use Rattle.fm_cells.proofs.Soundness.{request_size_class-lt}
use Rattle.fm_cells.proofs.WordMakes.{head-none, head-some, fresh-taken, fresh-made, fresh-most_held}
use Rattle.fm_cells.proofs.word_cells.WordCellsMemory.make.Goals as goal

pub bounds-self-inside-size_class : goal.bounds-self-inside-size_class
bounds-self-inside-size_class c =
    let asked : IsRequest (request_of c.args.class c.args.len c.args.pack c.args.fixed) = record { class_fits = c.requires.class_fits; len_fits = c.requires.len_fits; pack_is = c.requires.pack_is } in
    subst (λ n. n < 64) (sym (c.size_class.ensures ∙ ap size_class c.object_words-words.ensures)) (request_size_class-lt (request_of c.args.class c.args.len c.args.pack c.args.fixed))

pub make_in_new_cell-requires-clause-none : goal.make_in_new_cell-requires-clause-none
make_in_new_cell-requires-clause-none c =
    let asked : IsRequest (request_of c.args.class c.args.len c.args.pack c.args.fixed) = record { class_fits = c.requires.class_fits; len_fits = c.requires.len_fits; pack_is = c.requires.pack_is } in
    head-none c.self.inside c.args.self.now (get_or c.self.inside.heads c.size_class.result 0) (request_of c.args.class c.args.len c.args.pack c.args.fixed) c.self.view_is c.self.invariant asked (ap (λ n. get_or c.self.inside.heads n 0) (sym (c.size_class.ensures ∙ ap size_class c.object_words-words.ensures))) c.if-head-eq0.true

pub make_in_freed_cell-requires-clause-head : goal.make_in_freed_cell-requires-clause-head
make_in_freed_cell-requires-clause-head c =
    let asked : IsRequest (request_of c.args.class c.args.len c.args.pack c.args.fixed) = record { class_fits = c.requires.class_fits; len_fits = c.requires.len_fits; pack_is = c.requires.pack_is } in
    head-some c.self.inside c.args.self.now (get_or c.self.inside.heads c.size_class.result 0) (request_of c.args.class c.args.len c.args.pack c.args.fixed) c.self.view_is c.self.invariant asked (ap (λ n. get_or c.self.inside.heads n 0) (sym (c.size_class.ensures ∙ ap size_class c.object_words-words.ensures))) c.if-head-eq0.false

-- no cell of the size class is free
none_free : (c : goal.After-make_in_new_cell) → free_cells c.args.self.now (request_size_class (request_of c.args.class c.args.len c.args.pack c.args.fixed)) ≡ []
none_free c =
    let asked : IsRequest (request_of c.args.class c.args.len c.args.pack c.args.fixed) = record { class_fits = c.requires.class_fits; len_fits = c.requires.len_fits; pack_is = c.requires.pack_is } in
    head-none c.self.inside c.args.self.now (get_or c.self.inside.heads c.size_class.result 0) (request_of c.args.class c.args.len c.args.pack c.args.fixed) c.self.view_is c.self.invariant asked (ap (λ n. get_or c.self.inside.heads n 0) (sym (c.size_class.ensures ∙ ap size_class c.object_words-words.ensures))) c.if-head-eq0.true

pub returns-then-head-eq0-clause-taken : goal.returns-then-head-eq0-clause-taken
returns-then-head-eq0-clause-taken c =
    fresh-taken c.args.self.now c.make_in_new_cell.new.self (request_of c.args.class c.args.len c.args.pack c.args.fixed) c.make_in_new_cell.result (none_free c) c.make_in_new_cell.ensures.made c.make_in_new_cell.ensures.room

pub returns-then-head-eq0-clause-made : goal.returns-then-head-eq0-clause-made
returns-then-head-eq0-clause-made c =
    fresh-made c.args.self.now c.make_in_new_cell.new.self (request_of c.args.class c.args.len c.args.pack c.args.fixed) c.make_in_new_cell.result (none_free c) c.make_in_new_cell.ensures.made c.make_in_new_cell.ensures.room

pub returns-then-head-eq0-clause-full : goal.returns-then-head-eq0-clause-full
returns-then-head-eq0-clause-full c =
    let request = request_of c.args.class c.args.len c.args.pack c.args.fixed in
    let sound : IsSound c.args.self.now = subst (λ s. IsSound s) c.self.view_is c.self.invariant.sound in
    let live : c.self.inside.live ≡ live_words c.args.self.now = c.self.invariant.live_is ∙ ap live_words c.self.view_is in
    let budget : c.self.inside.budget ≡ c.args.self.now.budget = ap (λ s. s.budget) c.self.view_is in
    let within : words_needed c.args.self.now request ≤ c.args.self.now.budget = omega (arith, sound.live_within_peak, sound.peak_within_budget, c.object_words-words.ensures) in
    (λ full. (within, sym (last_choice-full c.args.self.now request (none_free c) (c.make_in_new_cell.ensures.full.0 full))), λ both. c.make_in_new_cell.ensures.full.1 (last_choice-refused c.args.self.now request (none_free c) both.1))

pub returns-then-head-eq0-clause-most_held : goal.returns-then-head-eq0-clause-most_held
returns-then-head-eq0-clause-most_held c =
    let last : IsLastReused c.args.self.now = subst (λ s. IsLastReused s) c.self.view_is c.self.invariant.last_reused in
    fresh-most_held c.args.self.now c.make_in_new_cell.new.self (request_of c.args.class c.args.len c.args.pack c.args.fixed) c.make_in_new_cell.result last (none_free c) c.make_in_new_cell.ensures.made

-- the list of the size class begins with the head
free_from : (c : goal.After-make_in_freed_cell) → (rest : List ℕ) × (free_cells c.args.self.now (request_size_class (request_of c.args.class c.args.len c.args.pack c.args.fixed)) ≡ get_or c.self.inside.heads c.size_class.result 0 ∷ rest)
free_from c =
    let asked : IsRequest (request_of c.args.class c.args.len c.args.pack c.args.fixed) = record { class_fits = c.requires.class_fits; len_fits = c.requires.len_fits; pack_is = c.requires.pack_is } in
    head-some c.self.inside c.args.self.now (get_or c.self.inside.heads c.size_class.result 0) (request_of c.args.class c.args.len c.args.pack c.args.fixed) c.self.view_is c.self.invariant asked (ap (λ n. get_or c.self.inside.heads n 0) (sym (c.size_class.ensures ∙ ap size_class c.object_words-words.ensures))) c.if-head-eq0.false

-- the choice is the head
chosen : (c : goal.After-make_in_freed_cell) → Take (get_or c.self.inside.heads c.size_class.result 0) false ≡ last_choice c.args.self.now (request_of c.args.class c.args.len c.args.pack c.args.fixed)
chosen c = let free = free_from c in last_choice-head c.args.self.now (request_of c.args.class c.args.len c.args.pack c.args.fixed) _ free.0 free.1

pub returns-else-head-eq0-clause-taken : goal.returns-else-head-eq0-clause-taken
returns-else-head-eq0-clause-taken c = (false, sym (chosen c))

pub returns-else-head-eq0-clause-made : goal.returns-else-head-eq0-clause-made
returns-else-head-eq0-clause-made c = c.make_in_freed_cell.ensures ∙ ap (made_by c.args.self.now (request_of c.args.class c.args.len c.args.pack c.args.fixed)) (chosen c)

pub returns-else-head-eq0-clause-full : goal.returns-else-head-eq0-clause-full
returns-else-head-eq0-clause-full c = (λ no. absurd (cc), λ both. absurd (take-refuse (get_or c.self.inside.heads c.size_class.result 0) false (chosen c ∙ both.1)))

pub returns-else-head-eq0-clause-most_held : goal.returns-else-head-eq0-clause-most_held
returns-else-head-eq0-clause-most_held c =
    let last : IsLastReused c.args.self.now = subst (λ s. IsLastReused s) c.self.view_is c.self.invariant.last_reused in
    let free = free_from c in
    subst (λ s. s.made ≡ set c.args.self.now.made (request_size_class (request_of c.args.class c.args.len c.args.pack c.args.fixed)) (max (made_count c.args.self.now (request_size_class (request_of c.args.class c.args.len c.args.pack c.args.fixed))) (held_count s (request_size_class (request_of c.args.class c.args.len c.args.pack c.args.fixed))))) (sym c.make_in_freed_cell.ensures) (made-most_held-head c.args.self.now (request_of c.args.class c.args.len c.args.pack c.args.fixed) _ free.0 last free.1)

pub returns-then-words-self-clause-may_reuse : goal.returns-then-words-self-clause-may_reuse
returns-then-words-self-clause-may_reuse c = MayReuse-last_choice c.args.self.now (request_of c.args.class c.args.len c.args.pack c.args.fixed) (subst (λ s. IsLastReused s) c.self.view_is c.self.invariant.last_reused)

pub returns-then-head-eq0-clause-may_reuse : goal.returns-then-head-eq0-clause-may_reuse
returns-then-head-eq0-clause-may_reuse c = MayReuse-last_choice c.args.self.now (request_of c.args.class c.args.len c.args.pack c.args.fixed) (subst (λ s. IsLastReused s) c.self.view_is c.self.invariant.last_reused)

pub returns-else-head-eq0-clause-may_reuse : goal.returns-else-head-eq0-clause-may_reuse
returns-else-head-eq0-clause-may_reuse c = MayReuse-last_choice c.args.self.now (request_of c.args.class c.args.len c.args.pack c.args.fixed) (subst (λ s. IsLastReused s) c.self.view_is c.self.invariant.last_reused)
