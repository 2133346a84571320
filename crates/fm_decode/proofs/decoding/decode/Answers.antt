use Rattle.std.proofs.Common.{◌≡◌, ℕ, List, length, map, sym, ap, subst, ◌∙◌}
use Rattle.std.proofs.lemmas.Result.{err_from_is_err_and}
use Rattle.fm_code.specs.SpellsCode.{SpellsCode}
use Rattle.fm_code.specs.declared.code_array.Item.{Item}
use Rattle.fm_decode.specs.inner.Targets.{AreRising, AllWithin, AreStarts, item_offset, numbered_items}
use Rattle.fm_decode.proofs.GivesLemmas.{gives_found, gives_read, not_malformed}
use Rattle.fm_decode.proofs.TargetsLemmas.{offsets_of, drafts_of, drafts_rise, drafts_within, drafts_take, items_drafts, items_again_of}
use Rattle.fm_decode.proofs.decoding.decode.Goals as goal

pub returns-in_err-drafts-clause-read : goal.returns-in_err-drafts-clause-read
returns-in_err-drafts-clause-read c = λ items spells.
    let p = err_from_is_err_and c.from_residual.result c.from_residual.ensures.1 in
    rw (p.1, p.2) (c.in_err-drafts.ensures.read (drafts_of items items) (items_drafts c.args.code.now items spells))

pub returns-in_err-drafts-clause-malformed : goal.returns-in_err-drafts-clause-malformed
returns-in_err-drafts-clause-malformed c = λ e items spells. not_malformed _ c.from_residual.result (returns-in_err-drafts-clause-read c items spells) e

pub of-requires : goal.of-requires
of-requires c =
    let drafts = c.in_ok-drafts.drafts.items in
    let are = c.in_ok-drafts.ensures.found in
    record {
      rising = subst (λ (items : List Item). AreRising (map item_offset items)) (sym c.as_slice.ensures.value) (drafts_rise c.args.code.now drafts are);
      within = subst (λ (items : List Item). AllWithin (length c.args.code.now) (map item_offset items)) (sym c.as_slice.ensures.value)
          (drafts_within c.args.code.now drafts are);
      short = c.requires;
    }

-- what a search for the numbers of the drafts finds
starts_are : (drafts slice : List Item) (numbers : List ℕ) → slice ≡ drafts → AreStarts (map item_offset slice) numbers → AreStarts (offsets_of drafts) numbers
starts_are drafts slice numbers same starts = subst (λ (items : List Item). AreStarts (map item_offset items) numbers) same starts

pub returns-in_err-starts-clause-read : goal.returns-in_err-starts-clause-read
returns-in_err-starts-clause-read c = λ items spells.
    let p = err_from_is_err_and c.from_residual-in_err-starts.result c.from_residual-in_err-starts.ensures.1 in
    rw (p.1, p.2) c.in_err-starts.ensures.err

pub returns-in_err-starts-clause-malformed : goal.returns-in_err-starts-clause-malformed
returns-in_err-starts-clause-malformed c = λ e items spells. not_malformed _ c.from_residual-in_err-starts.result (returns-in_err-starts-clause-read c items spells) e

pub returns-clause-found : goal.returns-clause-found
returns-clause-found c =
    let drafts = c.in_ok-drafts.drafts.items in
    let numbers = c.in_ok-starts.starts.numbers.items in
    let starts = starts_are drafts c.as_slice.result.now numbers c.as_slice.ensures.value c.in_ok-starts.ensures.ok in
    gives_found (λ v. v.items) c.numbered_items.result (numbered_items numbers drafts) (SpellsCode c.args.code.now) c.numbered_items.ensures
    (λ items e. drafts_take c.args.code.now drafts items numbers starts c.in_ok-drafts.ensures.found e)

pub returns-clause-read : goal.returns-clause-read
returns-clause-read c = λ items spells.
    let numbers = c.in_ok-starts.starts.numbers.items in
    let starts = starts_are c.in_ok-drafts.drafts.items c.as_slice.result.now numbers c.as_slice.ensures.value c.in_ok-starts.ensures.ok in
    let same : c.in_ok-drafts.drafts.items ≡ drafts_of items items =
    c.in_ok-drafts.ensures.read (drafts_of items items) (items_drafts c.args.code.now items spells) in
    gives_read (λ v. v.items) c.numbered_items.result (numbered_items numbers c.in_ok-drafts.drafts.items) items c.numbered_items.ensures
    (ap (numbered_items numbers) same
    ∙ items_again_of c.args.code.now items numbers spells (subst (λ (drafts : List Item). AreStarts (offsets_of drafts) numbers) same starts))

pub returns-clause-malformed : goal.returns-clause-malformed
returns-clause-malformed c = λ e items spells. not_malformed _ c.numbered_items.result (returns-clause-read c items spells) e
