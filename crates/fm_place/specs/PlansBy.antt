-- What is inserted into a method as pairs of an item and a holder, and the facts of one method that
-- its classes and its live locals give.
use Rattle.std.specs.Prelude.{◌≡◌, ◌↔◌, ℕ, true, false, List, length, map, Option}
use Rattle.std.specs.List.{filter_map, flat_map, range_with_len}
use Rattle.std.specs.Option.{option_map}
use Rattle.fm_conn.specs.Classes.{class_of, has_class, local_count}
use Rattle.fm_conn.specs.Facts.{Facts}
use Rattle.fm_conn.specs.Nodes.{IsNode, Node, Slot, TypedMethod}
use Rattle.fm_conn.specs.declared.class_numbers.Classes.{Classes}
use Rattle.fm_flow.specs.LiveRows.{is_live}
use Rattle.fm_flow.specs.declared.live_rows.LiveRows.{LiveRows}
use Rattle.fm_place.specs.Insertions.{after_at, before_at, Holder, Insertions}
use Rattle.fm_place.specs.declared.found_sites.Site.{Site}
use Rattle.fm_place.specs.declared.plans.Plan.{Plan}

-- ---- what is known of the method

-- the classes have a number for each node of the method
pub record HasNodesOf (x : TypedMethod) (c : Classes) : Type 0 where
  pub locals : local_count c ≡ x.code.max_locals
  pub slots : (j depth : ℕ) → (has_class c j depth ≡ true) ↔ IsNode x (Slot j depth)

-- facts, maybe of a whole program, agree on a method with its classes and its live locals
pub record IsToldBy (facts : Facts) (method : ℕ) (classes : Classes) (live : LiveRows) : Type 0 where
  pub class : (node : Node) → facts.class method node ≡ class_of classes node
  pub lives : (k j : ℕ) → facts.live method k j ≡ is_live live k j

-- ---- holders

-- the holder of a site, if it has one
abbrev pub holder_of : Site → Option Holder
holder_of site = option_map (λ (h : ℕ). record { site = site.item; class = site.class; looped = false }) site.holder

-- the holders of sites, in their order
abbrev pub holders_in : List Site → List Holder
holders_in sites = filter_map holder_of sites

-- ---- pairs

-- an item with each number that is listed for it
abbrev pub paired : (ℕ → List ℕ) → ℕ → List (ℕ × ℕ)
paired listed j = map (λ h. (j, h)) (listed j)

-- the pairs are the same insertions: for each item in its order the holders of its object, and those that are freed before it
pub record IsPlanOf (insertions : Insertions) (plan : Plan) : Type 0 where
  pub holders : plan.holders ≡ length insertions.holders
  pub after : plan.after.items ≡ flat_map (paired (after_at insertions)) (range_with_len 0 (length insertions.before))
  pub before : plan.before.items ≡ flat_map (paired (before_at insertions)) (range_with_len 0 (length insertions.before))
