-- What only serves the code and the proofs: the numbers of nodes, and the pairs of a method as a
-- list of numbers.
pub mod NodeTables
pub mod ListedEnds
pub mod PairLists
