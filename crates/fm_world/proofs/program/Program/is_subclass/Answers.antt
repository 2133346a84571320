use Rattle.std.proofs.Common.{◌≡◌, refl, sym, ◌∙◌, ap, ◌||◌, Bool, true, false}
use Rattle.std.proofs.lemmas.Bool.{false≢true}
use Rattle.fm_code.specs.AccessFlags.{is_interface}
use Rattle.fm_world.specs.Chains.{chain_of, interfaces_of, is_among, class_at}
use Rattle.fm_world.proofs.Told.{class_info-flags}
use Rattle.fm_world.proofs.program.Program.is_subclass.Goals as goal

pub returns-else-has_flag : goal.returns-else-has_flag
returns-else-has_flag c =
    let classes = c.args.self.now.outline.classes in
    let flags = ap (λ m. is_interface m.flags) c.class.ensures ∙ ap is_interface (class_info-flags c.args.self.now.outline c.args.d.0) in
    let none : is_interface (class_at classes c.args.d.0).flags ≡ false = sym flags ∙ sym c.has_flag.ensures ∙ c.if-has_flag.false in
    let below : is_among c.args.d.0 (chain_of classes c.args.c.0) ≡ false = sym c.is_in_chain.ensures ∙ c.if-is_in_chain.false in
    sym (ap (λ b. b || is_among c.args.d.0 (interfaces_of classes c.args.c.0)) below
    ∙ ap (is_among c.args.d.0) (sym c.interfaces-interfaces.ensures.value)
    ∙ unlisted (is_among c.args.d.0 c.interfaces-interfaces.result.now)
    (λ e. false≢true (sym none ∙ c.interfaces-interfaces.ensures.only c.args.d.0 e))) where
      unlisted : (b : Bool) → (b ≡ true → ⊥) → b ≡ false
      unlisted false h = refl
      unlisted true h = absurd (h refl)
