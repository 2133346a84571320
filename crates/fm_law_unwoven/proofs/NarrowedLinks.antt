-- What linking makes sure of holds of a narrowed program too, as none of it looks at which classes are made.
use Rattle.std.proofs.Common.{ℕ, Bool, List, Option, refl, sym, ◌∙◌}
use Rattle.fm_base.proofs.OptionFacts.{IsSomeAnd-weaker}
use Rattle.fm_code.specs.declared.code_array.Code.{Code}
use Rattle.fm_code.specs.declared.instructions.Insn.{Insn}
use Rattle.fm_code.specs.declared.instructions.Insn.TheVariants as insn
use Rattle.fm_frames.specs.Runnable.{IsRunnable}
use Rattle.fm_law_sound.specs.Making.{IsMakeable, MakesAreResolved}
use Rattle.fm_law_sound.specs.Resolved.{CallsAreResolved, IsNamed, MainIsReady, StepsAreResolved}
use Rattle.fm_law_sound.specs.Sound.{AreTyped, Typings}
use Rattle.fm_law_two_memories.specs.Runs.{IsWithoutFrees}
use Rattle.fm_place.proofs.SameTypings.{other_typing, used_same}
use Rattle.fm_place.specs.Safe.{narrowed_to}
use Rattle.fm_same.specs.Resolved.{IsResolved}
use Rattle.fm_types.specs.Typed.{IsTypingOf}
use Rattle.fm_world.specs.Programs.{code_at, Program}
use Rattle.fm_world.specs.declared.uses.Use.{Use}
use Rattle.fm_world.specs.declared.uses.Use.TheVariants as resolved

module _ (p : Program) (made : Option (List Bool)) where
  abbrev q : Program
  q = narrowed_to p made

  -- ---- what is named, and typings

  pub named_whole : (method : ℕ) (i : Insn) (u : Use) → IsNamed q method i u → IsNamed p method i u
  named_whole method i u named = record {
    code = named.code;
    code_is = named.code_is;
    item = named.item;
    insn_is = named.insn_is;
    use_is = sym (used_same p q refl refl method i) ∙ named.use_is;
  }

  pub typed_narrowed : (typings : Typings) → AreTyped p typings → AreTyped q typings
  typed_narrowed typings typed method code is =
      IsSomeAnd-weaker (code_at p method) (λ (c : Code). IsTypingOf p method c (typings method)) (λ (c : Code). IsTypingOf q method c (typings method))
      (λ c typing. other_typing p q refl refl method c (typings method) typing) (typed method code is)

  pub typed_whole : (typings : Typings) → AreTyped q typings → AreTyped p typings
  typed_whole typings typed method code is =
      IsSomeAnd-weaker (code_at p method) (λ (c : Code). IsTypingOf q method c (typings method)) (λ (c : Code). IsTypingOf p method c (typings method))
      (λ c typing. other_typing q p refl refl method c (typings method) typing) (typed method code is)

  -- ---- what linking makes sure of

  runnable_narrowed : IsRunnable p → IsRunnable q
  runnable_narrowed is = record {
    given = is.given;
    classes = is.classes;
    completed = is.completed;
    few_types = is.few_types;
    sizes = is.sizes;
    types = is.types;
    owners = is.owners;
    uses = is.uses;
    codes = is.codes;
    no_row = is.no_row;
  }

  pub resolved_narrowed : IsResolved p → IsResolved q
  resolved_narrowed is = record {
    runnable = runnable_narrowed is.runnable;
    class_types = is.class_types;
    rows = is.rows;
    calls = λ method i m t wanted named. is.calls method i m t wanted (named_whole method i (resolved.OfMethod m t) named);
    tree = is.tree;
    below_object = is.below_object;
    no_interface = λ method index m t type class named.
        is.no_interface method index m t type class (named_whole method (insn.Virtual index) (resolved.OfMethod m t) named);
    fields = λ method i f t type of named. is.fields method i f t type of (named_whole method i (resolved.OfField f t) named);
    message = is.message;
    constants = is.constants;
  }

  calls_narrowed : CallsAreResolved p → CallsAreResolved q
  calls_narrowed is = record {
    runnable = runnable_narrowed is.runnable;
    rows = is.rows;
    coded = is.coded;
    concrete = is.concrete;
    constructors = is.constructors;
    calls = λ method i m t wanted named. is.calls method i m t wanted (named_whole method i (resolved.OfMethod m t) named);
    selected = is.selected;
    special = λ method index m t type named. is.special method index m t type (named_whole method (insn.Special index) (resolved.OfMethod m t) named);
  }

  pub steps_narrowed : StepsAreResolved p → StepsAreResolved q
  steps_narrowed is = record {
    calls = calls_narrowed is.calls;
    tree = is.tree;
    fields = λ method i u named. is.fields method i u (named_whole method i u named);
    places = λ method i f t type of named. is.places method i f t type of (named_whole method i (resolved.OfField f t) named);
    targets = is.targets;
    items = is.items;
  }

  makeable_narrowed : IsMakeable p → IsMakeable q
  makeable_narrowed is = record {
    runnable = runnable_narrowed is.runnable;
    tree = is.tree;
    class_types = is.class_types;
    elements = is.elements;
    texts = is.texts;
    arguments = is.arguments;
  }

  pub makes_narrowed : MakesAreResolved p → MakesAreResolved q
  makes_narrowed are = record {
    makeable = makeable_narrowed are.makeable;
    names = are.names;
    constants = are.constants;
    made = λ method i u named. are.made method i u (named_whole method i u named);
  }

  pub main_narrowed : MainIsReady p → MainIsReady q
  main_narrowed is = record { code = is.code; code_is = is.code_is; arguments = is.arguments; takes = is.takes }

  pub without_narrowed : (typings : Typings) → IsWithoutFrees p typings → IsWithoutFrees q typings
  without_narrowed typings is = record {
    typed = typed_narrowed typings is.typed;
    steps = steps_narrowed is.steps;
    makes = makes_narrowed is.makes;
    main = main_narrowed is.main;
    no_free = λ method i m t row named. is.no_free method i m t row (named_whole method i (resolved.OfMethod m t) named);
    hidden = is.hidden;
    constants = is.constants;
  }
