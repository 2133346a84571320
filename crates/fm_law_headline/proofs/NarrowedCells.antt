-- What linking makes sure of, so that each cell fits its place, holds of a narrowed program too: none of it looks at which classes are made.
use Rattle.std.proofs.Common.{ℕ, Bool, List, Option}
use Rattle.fm_base.specs.declared.kinds.TypeRef.{TypeRef}
use Rattle.fm_code.specs.declared.instructions.Insn.TheVariants as insn
use Rattle.fm_law_no_fault.specs.CellsResolved.{BuiltInsFit, CallsFit, CellsAreResolved, PlacesFit, Selects}
use Rattle.fm_law_unwoven.proofs.NarrowedLinks.{named_whole}
use Rattle.fm_place.specs.Safe.{narrowed_to}
use Rattle.fm_world.specs.Programs.{Program}
use Rattle.fm_world.specs.declared.uses.Use.TheVariants as resolved

module _ (p : Program) (made : Option (List Bool)) where
  abbrev q : Program
  q = narrowed_to p made

  selects : (of : TypeRef) (method : ℕ) → Selects p of method → Selects q of method
  selects of method is = record { target = is.target; selected = is.selected; receives = is.receives }

  built_ins : BuiltInsFit p → BuiltInsFit q
  built_ins fit = record {
    text_plain = fit.text_plain;
    class_plain = fit.class_plain;
    output_plain = fit.output_plain;
    input_plain = fit.input_plain;
    builders = fit.builders;
    throwables = fit.throwables;
    thrown = fit.thrown;
    output = fit.output;
    input = fit.input;
    methods = fit.methods;
  }

  places : PlacesFit p → PlacesFit q
  places fit = record {
    subtypes = fit.subtypes;
    texts = fit.texts;
    hidden = fit.hidden;
    main = fit.main;
    constants = fit.constants;
  }

  calls : CallsFit p → CallsFit q
  calls fit = record {
    virtual = λ method index m t type of named at ordinary met fits.
        selects of m.0
        (fit.virtual method index m t type of (named_whole p made method (insn.Virtual index) (resolved.OfMethod m t) named) at ordinary met fits);
    interface = λ method index m t type of named at ordinary met fits.
        selects of m.0
        (fit.interface method index m t type of (named_whole p made method (insn.Interface index) (resolved.OfMethod m t) named) at ordinary met fits);
    special = λ method index m t type named.
        fit.special method index m t type (named_whole p made method (insn.Special index) (resolved.OfMethod m t) named);
    constructors = λ method index m t type named.
        fit.constructors method index m t type (named_whole p made method (insn.Special index) (resolved.OfMethod m t) named);
    selves = fit.selves;
  }

  pub cells_narrowed : CellsAreResolved p → CellsAreResolved q
  cells_narrowed are = record { built_in = built_ins are.built_in; places = places are.places; calls = calls are.calls }
