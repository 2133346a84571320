use Rattle.std.proofs.Common.{◌≡◌, ℕ, ◌+◌, ◌<◌, ◌∷◌, ◌++◌, [], ◌↔◌, List, Contains, true, sym, ◌∙◌, ap, arith}
use Rattle.std.proofs.lemmas.Bool.{false≢true}
use Rattle.fm_code.specs.Edges.{falls_through}
use Rattle.fm_code.specs.SpellsCode.{targets_of}
use Rattle.fm_flow.proofs.OnwardLemmas.{Onward, Onward-next, Onward-targets}
use Rattle.fm_flow.proofs.RisingLemmas.{IsRisingListOf-same}
use Rattle.fm_flow.proofs.item_edges.normal_edges.Goals.{then-falls_through+then-count-j-gt1+in_ok-push, else-falls_through, else-falls_through-via-then-falls_through+else-count-j-gt1, else-falls_through-via-else-falls_through}
use Rattle.fm_flow.proofs.item_edges.normal_edges.Goals as goal

pub returns : goal.returns
returns c =
    let i = c.args.insn.now in
    let j = c.args.j in
    let count = c.args.count in
    let inside = c.requires.targets in
    let targets : c.in_ok-list.list.items ≡ targets_of i = c.in_ok-list.ensures in
    let Members : List ℕ → Type 0 = λ list. (x : ℕ) → Contains list x ↔ Onward i j count x in
    let members : Members c.if-falls_through.list.items =
    elim c.if-falls_through.branch [
      | then-falls_through+then-count-j-gt1+in_ok-push w ↦
          let pushed : w.push.new.self.items ≡ targets_of i ++ (j + 1) ∷ [] = w.in_ok-push.ensures.items ∙ ap (λ list. list ++ (j + 1) ∷ []) targets in
          rw (w.list-is, pushed) (Onward-next i j count inside (sym c.falls_through.ensures ∙ w.if-falls_through.true) (omega (arith, w.if-count-j-gt1.true)))
      | else-falls_through w ↦
          let stays : falls_through i ≡ true → j + 1 < count → ⊥ = λ falls below.
          elim w.else-falls_through.branch [
            | else-falls_through-via-then-falls_through+else-count-j-gt1 w' ↦ omega (arith, w'.if-count-j-gt1.false)
            | else-falls_through-via-else-falls_through w' ↦ false≢true (sym w'.if-falls_through.false ∙ c.falls_through.ensures ∙ falls)
          ] in
          rw (w.list-is, targets) (Onward-targets i j count inside stays)
    ] in
    IsRisingListOf-same (Contains c.if-falls_through.list.items) (Onward i j count) c.sort_once.new.list.items c.sort_once.ensures members
