-- Why writing in order is free of loops: the argument over two topologies and any pointers, with no machine in it. No
-- code: `loop_free` says of the machine that it keeps the order, and gets its theorem from here.
--     Pointers         pointers, walks along them, and what is to be shown of these
--     Change           what is given: the two topologies, the sets in both, the order of writing
--     Convergence      what is promised
-- The argument is in proofs/:
--     PointerLaws      walks along any pointers
--     ThroughRoot      which routers a change concerns
--     Separation       the main step: pointers do not lead from a router with lo's set to one with hi's
--     NoLoop           so no walk meets a router twice
--     Arrival          and each can be prolonged to the destination
--     ConvergenceLaws  both, for a rise and for a fall
pub mod Pointers
pub mod Change
pub mod Convergence
