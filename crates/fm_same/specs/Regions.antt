-- Regions: where the objects of a class of nodes belong, while methods call one another. A class of
-- nodes that no one outside of a frame can reach has a region of its own for as long as the frame
-- exists.
use Rattle.std.specs.Prelude.{ℕ, suc, ◌+◌, ◌==◌, ◌&&◌, Bool, true, false, List, [], ◌∷◌, length, Option, Some, None, if◌then◌else◌}
use Rattle.fm_types.specs.States.{is_reference}
use Rattle.fm_types.specs.Typed.{entry_slots}
use Rattle.fm_types.specs.declared.slots.Slot as slots
use Rattle.fm_world.specs.Programs.{Outline}
use Rattle.fm_conn.specs.Facts.{Facts}
use Rattle.fm_conn.specs.Nodes.{Node, Local, Slot, Global}
use Rattle.fm_frames.specs.States.{Frame}

-- what static fields and thrown objects lead to; what main was given; a class of nodes, by its
-- number, of the frame that has this many others below it; and what nothing leads to any longer
pub data Region : Type 0 where
  Everywhere : Region
  Given : Region
  Own : (depth class : ℕ) → Region
  Retired : Region

-- ---- parameters

-- the first reference of the class among a method's parameters, whose slots from local k on are these
abbrev pub parameter_from : (ℕ → ℕ) → ℕ → ℕ → List slots.Slot → Option ℕ
parameter_from class_of class k [] = None
parameter_from class_of class k (s ∷ more) =
    if is_reference s && (class_of k == class) then Some k else parameter_from class_of class (suc k) more

-- of a method by its number
abbrev pub parameter_in : Outline → Facts → ℕ → ℕ → Option ℕ
parameter_in o facts method class = parameter_from (λ k. facts.class method (Local k)) class 0 (entry_slots o method)

-- ---- the region of a class

-- by whether Global is in the class, and which parameter is
abbrev pub region_by : Bool → Option ℕ → Region → (ℕ → Region) → Region
region_by true parameter own given = Everywhere
region_by false None own given = own
region_by false (Some k) own given = given k

-- the word of a caller's stack at its call that became the parameter
abbrev pub argument : Frame → ℕ → Node
argument caller k = Slot caller.item (length caller.stack + k)

-- That of a class of a method whose frame lies on these. A class with a parameter has the region of
-- what the caller handed over: a caller is at its call, and its stack has lost the arguments.
unfoldable pub region : Outline → Facts → ℕ → List Frame → ℕ → Region
region o facts method [] class =
    region_by (facts.class method Global == class) (parameter_in o facts method class) (Own 0 class) (λ k. Given)
region o facts method (f ∷ callers) class =
    region_by (facts.class method Global == class) (parameter_in o facts method class) (Own (length (f ∷ callers)) class)
    (λ k. region o facts f.method callers (facts.class f.method (argument f k)))
