-- Distances and next hops, as 01 means them. `paths` and the searches below it compute what is defined here.
-- The definitions, in reading order:
--     Topology         the links of an area, read off its metric table
--     Usable           the metric of one link, as the code of this crate reads it
--     Walk             walks over used links, and their sums
--     Distance         the least sum
--     NextHops         the first links of the least walks
--     Cells            both, as the cells of tables
--     Graph            what laws ask of a topology: few routers, links between them alone, and metrics from 1 on
-- The laws that proofs cite, in proofs/:
--     WalkLaws         a walk can be made to take fewer links than there are routers
--     SumLaws          the sums that `distance` lists are those of walks
--     DistanceLaws     so `distance` is the distance; distances over one link, and through a third router
--     ReversalLaws     a walk has the same sum from either end, and so has the distance
--     NextHopLaws      who has a next hop, and how next hops are handed on
--     TopologyLaws     what a metric table's topology has of a graph
--     CellLaws         the cells of two routers, and the others
--     LargestLaws      an area that has the largest real distance
pub mod Topology
pub mod Usable
pub mod Walk
pub mod Distance
pub mod NextHops
pub mod Cells
pub mod Graph
