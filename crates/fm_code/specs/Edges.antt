-- The edges of the flow of control between the items of a code array, and the items that they reach (JVMS 4.7.3, 4.10, 6.5).
use Rattle.std.specs.Prelude.{◌≡◌, ℕ, ◌+◌, ◌<◌, ◌≤◌, ◌⊎◌, ◌&&◌, nat_le, nat_lt, Bool, true, false, List, [], ◌∷◌, ◌++◌, length, map, filter, Option, Some, None, IsSomeAnd, Any, Contains, slice_get, if◌then◌else◌}
use Rattle.std.specs.List.{AllByRecursion}
use Rattle.std.specs.Option.{option_map}
use Rattle.fm_code.specs.CodeRules.{CodeIsValid}
use Rattle.fm_code.specs.Profile.{is_left_out}
use Rattle.fm_code.specs.SpellsCode.{targets_of}
use Rattle.fm_code.specs.declared.constant_pool.Entry.{Entry}
use Rattle.fm_code.specs.declared.code_array.Code.{Code}
use Rattle.fm_code.specs.declared.code_array.Handler.{Handler}
use Rattle.fm_code.specs.declared.code_array.Item.{Item}
use Rattle.fm_code.specs.declared.instructions.Insn.{Insn}
use Rattle.fm_code.specs.declared.instructions.Insn.TheVariants as insn

-- ---- which code is asked

-- the code meets the rules of a Code attribute, over some constant pool (JVMS 4.7.3)
abbrev pub MeetsCodeRules : Code → Type 0
MeetsCodeRules code = (entries : List Entry) × CodeIsValid entries code

-- no item is an instruction that is left out of what is supported
abbrev pub HasNoLeftOut : Code → Type 0
HasNoLeftOut code = AllByRecursion (λ (item : Item). is_left_out item.insn ≡ false) code.items

-- ---- edges

-- the instruction of an item, where there is that item
abbrev pub insn_of : Code → ℕ → Option Insn
insn_of code j = option_map (λ (item : Item). item.insn) (slice_get code.items j)

-- whether control can go on to the item after the instruction: not after a jump that is always taken, a switch, a return or athrow (JVMS 6.5)
abbrev pub falls_through : Insn → Bool
falls_through (insn.Goto target) = false
falls_through (insn.Table low others targets) = false
falls_through (insn.Lookup others keys targets) = false
falls_through (insn.Return value) = false
falls_through insn.Throw = false
falls_through i = true

-- the instruction of item j leads to this number: it names it as a target, or goes on to the item after it
abbrev pub LeadsTo : Insn → ℕ → ℕ → Type 0
LeadsTo i j next = Contains (targets_of i) next ⊎ ((falls_through i ≡ true) × (next ≡ j + 1))

-- an edge that control takes where item j ends as usual; what isn't an item is the end of no edge
pub record IsNormalEdge (code : Code) (j next : ℕ) : Type 0 where
  pub inside : next < length code.items
  pub leads : IsSomeAnd (insn_of code j) (λ i. LeadsTo i j next)

-- the range of an entry of the exception table holds item j, and this is its handler (JVMS 4.7.3)
pub record Catches (j handler : ℕ) (h : Handler) : Type 0 where
  pub after_start : h.start ≤ j
  pub before_end : j < h.end
  pub handler_is : h.handler ≡ handler

-- an edge that control takes where item j throws (JVMS 2.10)
pub record IsHandlerEdge (code : Code) (j handler : ℕ) : Type 0 where
  pub inside : handler < length code.items
  pub from_item : j < length code.items
  pub caught : Any (Catches j handler) code.handlers

-- control may come next from one item to the other
abbrev pub IsEdge : Code → ℕ → ℕ → Type 0
IsEdge code j next = IsNormalEdge code j next ⊎ IsHandlerEdge code j next

-- ---- edges as a list that computes

-- the numbers to which item j leads where it ends as usual
abbrev pub onward : ℕ → Option Insn → List ℕ
onward j None = []
onward j (Some i) = targets_of i ++ (if falls_through i then (j + 1) ∷ [] else [])

-- the handlers of item j
abbrev pub handlers_of : Code → ℕ → List ℕ
handlers_of code j =
    if nat_lt j (length code.items)
    then map (λ (h : Handler). h.handler) (filter (λ (h : Handler). nat_le h.start j && nat_lt j h.end) code.handlers)
    else []

-- the edges of item j: normal ones, and then those to handlers
abbrev pub edges_listed : Code → ℕ → List ℕ
edges_listed code j = filter (λ next. nat_lt next (length code.items)) (onward j (insn_of code j) ++ handlers_of code j)

-- ---- what is reached

-- the items lead from one end to the other, each with an edge to the next
abbrev pub IsFlowPath : Code → ℕ → List ℕ → ℕ → Type 0
IsFlowPath code j [] last = j ≡ last
IsFlowPath code j (next ∷ rest) last = IsEdge code j next × IsFlowPath code next rest last

-- a path of edges leads from the first item to this one
abbrev pub IsReachable : Code → ℕ → Type 0
IsReachable code j = (path : List ℕ) × IsFlowPath code 0 path j

-- a reachable item is the last one, and control can go on past it (JVMS 4.9.2)
pub record FallsOff (code : Code) : Type 0 where
  pub item : ℕ
  pub reachable : IsReachable code item
  pub last : item + 1 ≡ length code.items
  pub falls : IsSomeAnd (insn_of code item) (λ i. falls_through i ≡ true)
