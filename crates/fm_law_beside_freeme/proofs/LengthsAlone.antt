-- Of files that hold accepted classes only lengths are left to refuse.
use Rattle.std.proofs.Common.{◌≡◌, ℕ, zero, suc, List, [], ◌∷◌, ◌++◌, length, Option, Some, None, IsSomeAnd, refl, ap, append-nil, sym, subst, ◌∙◌}
use Rattle.std.specs.Prelude.{slice_get}
use Rattle.std.proofs.lemmas.Option.{none-some}
use Rattle.fm_base.proofs.OptionFacts.{same_value}
use Rattle.fm_code.proofs.ClassLaw.{one_record}
use Rattle.fm_code.specs.ClassBytes.{class_bytes}
use Rattle.fm_code.specs.Spells.{Spells}
use Rattle.fm_code.specs.declared.class_file.ClassDef.{ClassDef}
use Rattle.fm_files.specs.Files.{Bytes, Contents}
use Rattle.fm_load.specs.Given.{AreGiven, Given, made_classes}
use Rattle.fm_load.proofs.RefusalLemmas.{refused_not_taken}
use Rattle.fm_load.specs.Taking.{AreTaken, IsRefused, IsTaken, total_bytes}
use Rattle.fm_load.specs.declared.class_refusal.ClassRefusal.{ClassRefusal}
use Rattle.fm_cli.specs.Outside.{IsKnownMissing, IsKnownSuch}
use Rattle.fm_check_program.specs.Untyped.{AreTyped}
use Rattle.fm_world.specs.Linking.{refusals}
use Rattle.fm_world.specs.Programs.{program_of}
use Rattle.fm_law_beside_freeme.specs.Lengths.{AcceptedHaveLengthsAlone, AreHeld, IsHeld}

-- ---- one file

-- the class of a file
held_at : (held : Bytes → Option Bytes) (files : List Bytes) (classes : List ClassDef) (k : ℕ) (file : Bytes) → AreHeld held files classes
    → slice_get files k ≡ Some file → (c : ClassDef) × IsHeld held file c
held_at held [] [] k file all there = absurd (none-some file there)
held_at held [] (c ∷ classes) k file all there = absurd all
held_at held (f ∷ files) [] k file all there = absurd all
held_at held (f ∷ files) (c ∷ classes) zero file all there =
    let same : f ≡ file = same_value (Some f) f file refl there in
    (c, subst (λ (x : Bytes). IsHeld held x c) same all.0)
held_at held (f ∷ files) (c ∷ classes) (suc k) file all there = held_at held files classes k file all.1 there

-- it isn't missing
not_missing : (held : Bytes → Option Bytes) (file : Bytes) (c : ClassDef) (contents : Contents) → contents ≡ Some held → IsHeld held file c
    → IsKnownMissing contents file → ⊥
not_missing held file c contents known is missing =
    none-some (class_bytes c) (sym (subst (λ (o : Contents). IsSomeAnd o (λ h. h file ≡ None)) known missing) ∙ is.holds)

-- and isn't refused by its bytes
not_refused : (held : Bytes → Option Bytes) (file : Bytes) (c : ClassDef) (contents : Contents) (r : ClassRefusal) (total : ℕ) → contents ≡ Some held
    → IsHeld held file c → IsKnownSuch contents file (IsRefused r total) → ⊥
not_refused held file c contents r total known is such =
    let here = subst (λ (o : Contents). IsSomeAnd o (λ h. IsSomeAnd (h file) (IsRefused r total))) known such in
    let refused = subst (λ (o : Option Bytes). IsSomeAnd o (IsRefused r total)) is.holds here in
    refused_not_taken (class_bytes c) r c refused.refused is.spelled is.profile

-- ---- all files

-- files are taken as the classes that they hold
one_class : (held : Bytes → Option Bytes) (file : Bytes) (c d : ClassDef) → IsTaken (Some held) file c → IsHeld held file d → c ≡ d
one_class held file c d taken is =
    let same : class_bytes d ≡ class_bytes c = same_value (held file) (class_bytes d) (class_bytes c) is.holds taken.holds in
    one_record (class_bytes c) c d taken.spelled (subst (λ (bytes : Bytes). Spells bytes d) same is.spelled)

same_classes : (held : Bytes → Option Bytes) (files : List Bytes) (others classes : List ClassDef) → AreTaken (Some held) files others
    → AreHeld held files classes → others ≡ classes
same_classes held [] [] [] taken all = refl
same_classes held [] [] (c ∷ classes) taken all = absurd all
same_classes held [] (d ∷ others) classes taken all = absurd taken
same_classes held (f ∷ files) [] classes taken all = absurd taken
same_classes held (f ∷ files) (d ∷ others) [] taken all = absurd all
same_classes held (f ∷ files) (d ∷ others) (c ∷ classes) taken all =
    let first = one_class held f d c taken.0 all.0 in
    let rest = same_classes held files others classes taken.1 all.1 in
    λ k. first k ∷ rest k

known_classes : (held : Bytes → Option Bytes) (files : List Bytes) (others classes : List ClassDef) (contents : Contents) → contents ≡ Some held
    → AreTaken contents files others → AreHeld held files classes → others ≡ classes
known_classes held files others classes contents known taken all =
    same_classes held files others classes (subst (λ (o : Contents). AreTaken o files others) known taken) all

-- the classes that are given, where none is made, are these
given_known : (held : Bytes → Option Bytes) (given : Given) (others classes : List ClassDef) (contents : Contents) → contents ≡ Some held → given.made ≡ None
    → AreGiven given contents others → AreHeld held given.files classes → others ≡ classes
given_known held given others classes contents known none are all =
    are.classes_are ∙ ap (λ (number : Option ℕ). are.read ++ made_classes number) none ∙ append-nil are.read
    ∙ known_classes held given.files are.read classes contents known are.taken.taken all

pub lengths_alone : AcceptedHaveLengthsAlone
lengths_alone held given classes none all links typed old known = record {
  there = λ m. (let c = held_at held given.files classes (length m.before) m.file all m.reaches.there in not_missing held m.file c.0 old.contents known c.1 m.missing);
  taken = λ status m.
      (let c = held_at held given.files classes (length m.before) m.file all m.reaches.there in
      not_refused held m.file c.0 old.contents m.refusal (total_bytes m.before) known c.1 m.refused);
  linked = λ m.
      (let same = given_known held given m.classes classes old.contents known none m.source all in
      m.refused (subst (λ (cs : List ClassDef). refusals cs given.main ≡ []) (sym same) links));
  typed = λ m.
      (let same = given_known held given m.classes classes old.contents known none m.linked.source all in
      m.untyped (subst (λ (cs : List ClassDef). AreTyped (program_of cs given.main)) (sym same) typed));
}
