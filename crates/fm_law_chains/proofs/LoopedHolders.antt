-- Where all held sites have holders, each held site in a loop has one that holds a chain.
use Rattle.std.proofs.Common.{◌≡◌, ℕ, true, false, List, [], ◌∷◌, Option, Some, None, option_and_then, option_map, Contains, slice_get, refl, sym, ap, subst, ◌∙◌, arith}
use Rattle.std.specs.Prelude.{nat_eq}
use Rattle.std.proofs.lemmas.Bool.{eq-eqb}
use Rattle.std.proofs.lemmas.Option.{slice_get-get_or, slice_get-map}
use Rattle.fm_base.proofs.ContainsFacts.{Contains-none}
use Rattle.fm_chain.specs.Loops.{is_looped}
use Rattle.fm_chain.specs.SafeChains.{full_chains, looped_plan, with_loops}
use Rattle.fm_code.specs.declared.code_array.Code.{Code}
use Rattle.fm_conn.specs.Facts.{Facts}
use Rattle.fm_conn.specs.Links.{typed_method}
use Rattle.fm_conn.specs.Nodes.{TypedMethod}
use Rattle.fm_law_unwoven.specs.WovenFrom.{inserted_by}
use Rattle.fm_place.proofs.FullLemmas.{numbers-from}
use Rattle.fm_place.specs.Insertions.{after_at, all_holders, all_insertions, full_insertions, Holder, Insertions, numbers_of}
use Rattle.fm_place.specs.Rewriting.{Plans}
use Rattle.fm_place.specs.Safe.{full_plans}
use Rattle.fm_place.specs.Sites.{held_sites, site_class}
use Rattle.fm_world.specs.Programs.{code_at, Program}

-- a holder of a chain gets what this item gives, for this class
pub record HasChain (plan : Insertions) (site class : ℕ) : Type 0 where
  pub h : ℕ
  pub among : Contains (after_at plan site) h
  pub holder : Holder
  pub holder_is : slice_get plan.holders h ≡ Some holder
  pub looped : holder.looped ≡ true
  pub class_is : holder.class ≡ class

-- so it is of each held site in a loop
abbrev pub HaveChains : Program → Facts → Plans → Type 0
HaveChains p facts plans =
    (method : ℕ) (code : Code) → code_at p method ≡ Some code
    → (site : ℕ) → Contains (held_sites facts (typed_method p facts.typing method code)) site → is_looped code site ≡ true
    → HasChain (inserted_by (plans method)) site (site_class facts (typed_method p facts.typing method code) site)

-- ---- where all held sites have holders

module _ (p : Program) (facts : Facts) (method : ℕ) (code : Code) (code_is : code_at p method ≡ Some code) (site : ℕ)
    (held : Contains (held_sites facts (typed_method p facts.typing method code)) site) (looped : is_looped code site ≡ true) where
  abbrev x : TypedMethod
  x = typed_method p facts.typing method code

  abbrev plan : Insertions
  plan = with_loops code (all_insertions facts (typed_method p facts.typing method code))

  -- the holder of a site, and with its flag
  abbrev plain : ℕ → Holder
  plain j = record { site = j; class = site_class facts (typed_method p facts.typing method code) j; looped = false }

  abbrev flagged : Holder → Holder
  flagged h = record h { looped = is_looped code h.site }

  holder_there : slice_get (with_loops code (all_insertions facts (typed_method p facts.typing method code))).holders held.0
      ≡ Some (record { site = site; class = site_class facts (typed_method p facts.typing method code) site; looped = is_looped code site })
  holder_there =
      slice_get-map flagged (all_holders facts x) held.0
      ∙ ap (option_map flagged)
      (slice_get-map plain (held_sites facts x) held.0
      ∙ ap (option_map plain) (slice_get-get_or (held_sites facts x) held.0 site held.1 ∙ ap (λ n. Some n) held.2))

  -- the plan of the method
  full_is : full_insertions facts (typed_method p facts.typing method code) ≡ Some (all_insertions facts (typed_method p facts.typing method code))
  full_is = of_sites (held_sites facts x) refl where
    plan_of : List ℕ → Option Insertions
    plan_of [] = None
    plan_of (first ∷ sites) = Some (all_insertions facts x)

    of_sites : (sites : List ℕ) → held_sites facts x ≡ sites → plan_of sites ≡ Some (all_insertions facts x)
    of_sites [] none = absurd (Contains-none site (subst (λ sites. Contains sites site) none held))
    of_sites (first ∷ sites) some = refl

  plan_is : full_chains p facts method ≡ Some (with_loops code (all_insertions facts (typed_method p facts.typing method code)))
  plan_is =
      let full : full_plans p facts method ≡ Some (all_insertions facts x) =
      ap (λ o. option_and_then (full_insertions facts) (option_map (typed_method p facts.typing method) o)) code_is ∙ full_is in
      (λ k. looped_plan (code_is k) (full k))

  has_chain : HasChain (inserted_by (full_chains p facts method)) site (site_class facts (typed_method p facts.typing method code) site)
  has_chain =
      subst (λ o. HasChain (inserted_by o) site (site_class facts x site)) (sym plan_is)
      (record {
        h = held.0;
        among = subst (Contains (numbers_of (λ h. nat_eq h.site site) 0 plan.holders)) (omega arith)
            (numbers-from (λ h. nat_eq h.site site) 0 plan.holders held.0 (record { site = site; class = site_class facts x site; looped = is_looped code site })
            holder_there (eq-eqb site site refl));
        holder = record { site = site; class = site_class facts x site; looped = is_looped code site };
        holder_is = holder_there;
        looped = looped;
        class_is = refl;
      })

pub full_have_chains : (p : Program) (facts : Facts) → HaveChains p facts (full_chains p facts)
full_have_chains p facts method code code_is site held looped = has_chain p facts method code code_is site held looped
