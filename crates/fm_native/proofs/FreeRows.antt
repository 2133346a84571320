-- The effects of the rows of FreeMe, by what their operands are; and steps that free or chain.
use Rattle.std.proofs.Common.{◌≡◌, ℕ, suc, ◌+◌, ◌<◌, Bool, false, if◌then◌else◌, List, [], ◌∷◌, length, drop, map, get_or, Option, Some, None, Result, Ok, Err, IfOk, IfSome, refl, ap, sym, ◌∙◌, subst, arith}
use Rattle.std.proofs.Math.Seq.{drop-cons}
use Rattle.fm_cells.specs.Stores.{Store}
use Rattle.fm_cells.specs.declared.answers.Cell.{Cell}
use Rattle.fm_cells.specs.declared.answers.Head.{Head}
use Rattle.fm_frames.proofs.Acting.{done-none, done-one}
use Rattle.fm_frames.specs.Acts.{all_freed, cell_of, chain_freed, chain_from, chained, Choose, Did, freed, LostAt, performed, Performed}
use Rattle.fm_frames.specs.Effects.{Effect, Faults, Free, FreeChain, OfOperand, Plain, SetChain, acting, going, words}
use Rattle.fm_frames.specs.NativeRows.{free_native, linked, native_effect}
use Rattle.fm_frames.specs.declared.natives.Native.TheVariants.{FreeMeFree, FreeMeFreeChain, FreeMeLink}
use Rattle.fm_frames.specs.Sights.{looks, Sight}
use Rattle.fm_frames.specs.States.{Frame, silent, State, word_at}
use Rattle.fm_frames.specs.Steps.{attempted, continued, done_by, stack_of}
use Rattle.fm_frames.specs.declared.values.Value.{Value}
use Rattle.fm_frames.specs.declared.values.Value.TheVariants as value
use Rattle.fm_frames.specs.inner.Doings.{DoesIn, NextFits}
use Rattle.fm_frames.specs.inner.Places.{CountsFrees}
use Rattle.fm_native.specs.declared.asked.Held.{Held}
use Rattle.fm_native.specs.declared.asked.OperandRefusal.{OperandRefusal}
use Rattle.fm_native.specs.inner.Asked.{AsksHeldOrNull, IsHeldAt, on_found, passed_by, refused}
use Rattle.fm_world.specs.Programs.{Outline, Program}

-- ---- effects

abbrev pub freeing : Effect
freeing = acting 1 (Free 0 ∷ [])

pub free-is : (o : Outline) (store : Store) (x : State) (byte : Option ℕ) (s : List Sight) (found : Result (Option Held) OperandRefusal)
    → AsksHeldOrNull o store s 0 found → IfOk found (λ held. IfSome held (IsHeldAt store x 0))
    → native_effect o FreeMeFree byte s ≡ passed_by (words 1 []) o 0 found (λ held. freeing)
unfolding native_effect free_native
free-is o store x byte s (Ok (Some held)) asks known = asks (words 1 []) (λ it. freeing) ∙ ap (on_found o store (λ it. freeing)) known.at
free-is o store x byte s (Ok None) asks known = asks (words 1 []) (λ it. freeing)
free-is o store x byte s (Err r) asks known = asks (words 1 []) (λ it. freeing)

-- the object is linked, or where it lives for ever the other one is given
abbrev pub linking : Bool → Effect
linking is_fixed = if is_fixed then words 2 (OfOperand 0 ∷ []) else record (acting 2 (SetChain 1 0 ∷ [])) { gives = OfOperand 1 ∷ [] }

abbrev pub passed_over : Effect
passed_over = words 2 (OfOperand 0 ∷ [])

pub link-held : (o : Outline) (store : Store) (x : State) (byte : Option ℕ) (s : List Sight) (held : Held)
    → AsksHeldOrNull o store s 1 (Ok (Some held)) → IsHeldAt store x 1 held → native_effect o FreeMeLink byte s ≡ linking held.head.fixed
unfolding native_effect free_native looks
link-held o store x byte s held asks known =
    asks passed_over linked ∙ ap (on_found o store linked) known.at ∙ ap (λ (h : Head). linking h.fixed) known.head_is

pub link-null : (o : Outline) (store : Store) (byte : Option ℕ) (s : List Sight) → AsksHeldOrNull o store s 1 (Ok None)
    → native_effect o FreeMeLink byte s ≡ passed_over
unfolding native_effect free_native
link-null o store byte s asks = asks passed_over linked

pub link-refused : (o : Outline) (store : Store) (byte : Option ℕ) (s : List Sight) (r : OperandRefusal) → AsksHeldOrNull o store s 1 (Err r)
    → native_effect o FreeMeLink byte s ≡ refused o 1 r
unfolding native_effect free_native
link-refused o store byte s r asks = asks passed_over linked

abbrev pub freeing_chain : Effect
freeing_chain = acting 1 (FreeChain 0 ∷ [])

pub chain-is : (o : Outline) (byte : Option ℕ) (s : List Sight) → native_effect o FreeMeFreeChain byte s ≡ freeing_chain
unfolding native_effect free_native
chain-is o byte s = refl

-- ---- steps

free-performed : (p : Program) (choose : Choose) (x : State)
    → attempted p choose x freeing ≡ done_by p 1 freeing x (Did (freed x.areas (cell_of (word_at (stack_of x) 0))) [])
unfolding performed
free-performed p choose x = refl

pub freed-done : (p : Program) (choose : Choose) (x y z : State) (cell : Cell) → NextFits x.frames → word_at (stack_of x) 0 ≡ value.Ref cell
    → y ≡ record x { areas = freed x.areas cell.0 } → silent z ≡ attempted p choose y (words 1 []) → DoesIn p choose x z freeing
freed-done p choose x y z cell fits word is took =
    took ∙ ap (λ (y : State). attempted p choose y (words 1 [])) is
    ∙ done-none p choose x (freed x.areas cell.0) 1 (Free 0 ∷ []) [] x.frames fits
    ∙ ap (λ v. done_by p 1 freeing x (Did (freed x.areas (cell_of v)) [])) (sym word)
    ∙ sym (free-performed p choose x)

link-performed : (p : Program) (choose : Choose) (x : State)
    → attempted p choose x (linking false)
    ≡ done_by p 1 (linking false) x (Did (chained x.areas (cell_of (word_at (stack_of x) 1)) (cell_of (word_at (stack_of x) 0))) [])
unfolding performed
link-performed p choose x = refl

pub linked-done : (p : Program) (choose : Choose) (x y z : State) (cell : Cell) (to : ℕ) (v : Value) → NextFits x.frames → word_at (stack_of x) 1 ≡ value.Ref cell
    → to ≡ cell_of (word_at (stack_of x) 0) → v ≡ word_at (stack_of x) 1
    → y ≡ record x { areas = chained x.areas cell.0 to } → silent z ≡ attempted p choose y (words 2 (Plain v ∷ [])) → DoesIn p choose x z (linking false)
linked-done p choose x y z cell to v fits word to_is v_is is given =
    given ∙ ap (λ (y : State). attempted p choose y (words 2 (Plain v ∷ []))) is
    ∙ ap (λ v. attempted p choose (record x { areas = chained x.areas cell.0 to }) (words 2 (Plain v ∷ []))) v_is
    ∙ done-one p choose x (chained x.areas cell.0 to) 2 (SetChain 1 0 ∷ []) [] (OfOperand 1) x.frames fits
    ∙ (λ i. done_by p 1 (linking false) x (Did (chained x.areas (cell_of (sym word i)) (to_is i)) []))
    ∙ sym (link-performed p choose x)

-- what comes of the cells of a chain
abbrev chain_then : Program → State → Option (List ℕ) → Performed
chain_then p x cells = chain_freed x.areas (word_at (stack_of x) 0) cells (λ areas. Did areas [])

chain-performed : (p : Program) (choose : Choose) (x : State) (cells : Option (List ℕ)) → chain_from x.areas.store (cell_of (word_at (stack_of x) 0)) ≡ cells
    → attempted p choose x freeing_chain ≡ done_by p 1 freeing_chain x (chain_then p x cells)
unfolding performed
chain-performed p choose x cells is = ap (λ cells. done_by p 1 freeing_chain x (chain_then p x cells)) is

pub chain-done : (p : Program) (choose : Choose) (x y z : State) (cells : List ℕ) → NextFits x.frames
    → chain_from x.areas.store (cell_of (word_at (stack_of x) 0)) ≡ Some cells
    → y ≡ record x { areas = all_freed x.areas cells } → silent z ≡ attempted p choose y (words 1 []) → DoesIn p choose x z freeing_chain
chain-done p choose x y z cells fits found is took =
    took ∙ ap (λ (y : State). attempted p choose y (words 1 [])) is
    ∙ done-none p choose x (all_freed x.areas cells) 1 (FreeChain 0 ∷ []) [] x.frames fits
    ∙ sym (chain-performed p choose x (Some cells) found)

lost-frames : (p : Program) (choose : Choose) (x : State) (v : Value) (frames : List Frame) → NextFits frames → v ≡ word_at (stack_of (record x { frames = frames })) 0
    → attempted p choose (record x { frames = frames }) (going 0 (Faults (OfOperand 0)))
    ≡ done_by p 1 freeing_chain (record x { frames = frames }) (LostAt v)
unfolding performed continued
lost-frames p choose x v [] fits is = absurd fits
lost-frames p choose x v (f ∷ callers) fits is =
    ap (λ v. done_by p 1 freeing_chain (record x { frames = f ∷ callers }) (LostAt v)) (sym is)

pub chain-lost : (p : Program) (choose : Choose) (x z : State) → NextFits x.frames → chain_from x.areas.store (cell_of (word_at (stack_of x) 0)) ≡ None
    → DoesIn p choose x z (going 0 (Faults (OfOperand 0))) → DoesIn p choose x z freeing_chain
chain-lost p choose x z fits found ended =
    ended ∙ lost-frames p choose x (word_at (stack_of x) 0) x.frames fits refl ∙ sym (chain-performed p choose x None found)

-- ---- all cells of a list are freed, one after the other

-- the objects of the cells before a place are freed, and those from there on are left
pub record FreesRest (x y : State) (cells : List Cell) (place : ℕ) : Type 0 where
  pub same : y ≡ record x { areas = y.areas }
  pub rest : all_freed y.areas (map (λ (cell : Cell). cell.0) (drop place cells)) ≡ all_freed x.areas (map (λ (cell : Cell). cell.0) cells)
  pub counts : CountsFrees y.areas

pub frees-start : (x : State) (cells : List Cell) → CountsFrees x.areas → FreesRest x x cells 0
frees-start x cells counts = record { same = refl; rest = refl; counts = counts }

pub frees-next : (x y z : State) (cells : List Cell) (place : ℕ) (cell default : Cell) → FreesRest x y cells place → place < length cells
    → cell ≡ get_or cells place default → z ≡ record y { areas = freed y.areas cell.0 } → CountsFrees z.areas → FreesRest x z cells (place + 1)
frees-next x y z cells place cell default so within is after counts = subst (FreesRest x z cells) next (record {
  same = after ∙ (λ i. record (so.same i) { areas = (sym after i).areas });
  rest =
      ap (λ (z : State). all_freed z.areas (map (λ (cell : Cell). cell.0) (drop (suc place) cells))) after
      ∙ ap (λ (c : Cell). all_freed (freed y.areas c.0) (map (λ (cell : Cell). cell.0) (drop (suc place) cells))) is
      ∙ sym (ap (λ cs. all_freed y.areas (map (λ (cell : Cell). cell.0) cs)) (drop-cons cells place default within))
      ∙ so.rest;
  counts = counts;
}) where
  next : suc place ≡ place + 1
  next = omega arith

pub frees-end : (x y : State) (cells : List Cell) (place : ℕ) → FreesRest x y cells place → drop place cells ≡ []
    → y ≡ record x { areas = all_freed x.areas (map (λ (cell : Cell). cell.0) cells) }
frees-end x y cells place so none =
    so.same ∙ ap (λ areas. record x { areas = areas }) (sym (ap (λ cs. all_freed y.areas (map (λ (cell : Cell). cell.0) cs)) none) ∙ so.rest)
