-- Which ends of a method are linked by what it does, and by what the methods that it calls do: in
-- rounds, the first of which has only built-in methods.
use Rattle.std.specs.Prelude.{◌≡◌, ℕ, zero, suc, ◌<◌, ◌⊎◌, List, [], ◌∷◌, ◌++◌, length, map, codes, option_to_list, IsSomeAnd, Contains}
use Rattle.fm_code.specs.declared.code_array.Code.{Code}
pub use Rattle.fm_types.specs.States.{Typings}
use Rattle.fm_world.specs.Members.{method_at, methods_of}
use Rattle.fm_world.specs.Programs.{code_at, Program}
use Rattle.fm_world.specs.Rows.{row_of}
use Rattle.fm_conn.specs.Nodes.{Node, Local, Return, Global, TypedMethod}
use Rattle.fm_conn.specs.Pairs.{Joined, Linking}
use Rattle.fm_conn.specs.declared.ends.End2.{End2}
use Rattle.fm_conn.specs.declared.ends.End2.TheVariants as end

-- ---- built-in methods

-- the result is the receiver, or what it kept
abbrev pub result_and_receiver : List (End2 × End2)
result_and_receiver = (end.Return, end.Parameter 0) ∷ []

-- these links for the row of a built-in method, by its class, its name and its descriptor
abbrev pub of_row : List ℕ → List ℕ → List ℕ → List (End2 × End2) → List (ℕ × List (End2 × End2))
of_row class name descriptor links = map (λ row. (row, links)) (option_to_list (row_of class name descriptor))

-- `StringBuilder.append` with this descriptor returns its receiver
abbrev pub appended : List ℕ → List (ℕ × List (End2 × End2))
appended letter =
    of_row (codes "java/lang/StringBuilder") (codes "append") (codes "(" ++ letter ++ codes ")Ljava/lang/StringBuilder;") result_and_receiver

-- what built-in methods link, by their rows: a result that is the receiver or that it kept, a
-- message that is kept, what FreeMe chains, a class literal, which lives for ever, and a copy that leads where the receiver does
unfoldable pub native_links : List (ℕ × List (End2 × End2))
native_links =
    of_row (codes "java/lang/String") (codes "toString") (codes "()Ljava/lang/String;") result_and_receiver
    ++ appended (codes "I") ++ appended (codes "J") ++ appended (codes "C") ++ appended (codes "Z") ++ appended (codes "Ljava/lang/String;")
    ++ of_row (codes "java/lang/Throwable") (codes "<init>") (codes "(Ljava/lang/String;)V") ((end.Parameter 0, end.Parameter 1) ∷ [])
    ++ of_row (codes "java/lang/Throwable") (codes "getMessage") (codes "()Ljava/lang/String;") result_and_receiver
    ++ of_row (codes "FreeMe") (codes "link") (codes "(Ljava/lang/Object;Ljava/lang/Object;)Ljava/lang/Object;")
    ((end.Return, end.Parameter 0) ∷ (end.Return, end.Parameter 1) ∷ (end.Parameter 0, end.Parameter 1) ∷ [])
    ++ of_row (codes "java/lang/Object") (codes "getClass") (codes "()Ljava/lang/Class;") ((end.Return, end.Global) ∷ [])
    ++ of_row (codes "java/lang/Object") (codes "clone") (codes "()Ljava/lang/Object;") result_and_receiver

-- a row links two ends, in one order or the other
pub record IsNativeLink (row : ℕ) (a b : End2) : Type 0 where
  pub links : List (End2 × End2)
  pub row_has : Contains native_links (row, links)
  pub among : Contains links (a, b) ⊎ Contains links (b, a)

-- ---- methods that have code

-- the node of an end in the method itself
abbrev pub node_of : End2 → Node
node_of (end.Parameter k) = Local k
node_of end.Return = Return
node_of end.Global = Global

-- a method by its number and its code, with its states
abbrev pub typed_method : Program → Typings → ℕ → Code → TypedMethod
typed_method p typings method code = record { program = p; number = method; code = code; states = typings method }

-- ---- rounds

-- what is linked whatever calls do: an end of a method that is there with itself, and the ends that a row of a built-in method links
abbrev pub IsLinkedAtOnce : Program → Linking
IsLinkedAtOnce p method a b =
    ((method < length (methods_of p.outline.classes)) × (a ≡ b))
    ⊎ IsSomeAnd (method_at p.outline.classes method).method.row (λ row. IsNativeLink row a b)

-- what is linked in a round: at once in each, and by a method that has code what its own pairs and those of its calls by the round before join;
-- a method without code is never called
unfoldable pub LinkedIn : Program → Typings → ℕ → Linking
LinkedIn p typings zero method a b = IsLinkedAtOnce p method a b
LinkedIn p typings (suc round) method a b =
    IsLinkedAtOnce p method a b
    ⊎ IsSomeAnd (code_at p method) (λ code. Joined (LinkedIn p typings round) (typed_method p typings method code) (node_of a) (node_of b))

-- in some round
abbrev pub Linked : Program → Typings → Linking
Linked p typings method a b = (round : ℕ) × LinkedIn p typings round method a b
