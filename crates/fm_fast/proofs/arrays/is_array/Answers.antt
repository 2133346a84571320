use Rattle.std.proofs.Common.{◌≡◌, true, ap, sym, ◌∙◌, subst, rules}
use Rattle.std.proofs.lemmas.Bool.{eq-eqb, eqb-true}
use Rattle.fm_code.specs.declared.operations.Elem.{Elem}
use Rattle.fm_code.specs.declared.operations.Elem.TheVariants as elem
use Rattle.fm_fast.proofs.Packing.{array-pack, packed-bytes, packed-ints}
use Rattle.fm_fast.proofs.arrays.is_array.Goals as goal
use Rattle.fm_frames.specs.Sights.{type_numbered}
use Rattle.fm_types.specs.ArrayRows.{is_array_of}

pub returns-in-Int : goal.returns-in-Int
returns-in-Int c =
    let o = c.args.program.now.outline in
    let t = type_numbered o c.args.head.class in
    let Is : Elem → Type 0 = λ e. is_array_of e t ≡ true in (
      λ told. subst Is (sym c.in-Int.is) (packed-ints o t (sym c.requires.1 ∙ eqb-true c.args.head.pack 2 told)),
      λ array. eq-eqb c.args.head.pack 2 (c.requires.1 ∙ array-pack o t elem.Int (subst Is c.in-Int.is array)),
    )

pub returns-in-Byte : goal.returns-in-Byte
returns-in-Byte c =
    let o = c.args.program.now.outline in
    let t = type_numbered o c.args.head.class in
    let Is : Elem → Type 0 = λ e. is_array_of e t ≡ true in (
      λ told. subst Is (sym c.in-Byte.is) (packed-bytes o t (sym c.requires.1 ∙ eqb-true c.args.head.pack 8 told)),
      λ array. eq-eqb c.args.head.pack 8 (c.requires.1 ∙ array-pack o t elem.Byte (subst Is c.in-Byte.is array)),
    )

pub returns-then-array : goal.returns-then-array
returns-then-array c =
    let o = c.args.program.now.outline in
    let t = type_numbered o c.args.head.class in
    let test : c.is_array_of-array.result ≡ true = search rules in
    let array = ap (is_array_of c.args.e) (sym c.type_there-t.ensures) ∙ sym c.is_array_of-array.ensures ∙ test in
    (λ told. array, λ is. eq-eqb c.args.head.pack c.pack_of.result (c.requires.1 ∙ array-pack o t c.args.e is ∙ sym c.pack_of.ensures))

pub returns-else-array : goal.returns-else-array
returns-else-array c =
    let row = ap (is_array_of c.args.e) (sym c.type_there-t.ensures) ∙ sym c.is_array_of-array.ensures in (λ told. row ∙ told, λ is. sym row ∙ is)
