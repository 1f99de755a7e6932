-- Write and resize of a blob, slot by slot, in numbers.
-- What code cites, from outside in:
--   HeldAfter: what any slot holds after the call (written_held, shorter_held, longer_held, resized_held);
--   Sites: where a block stands (height, first leaf) and rules on that; Cuts: the rules of write and of shorter;
--   Forms: the numbers of longer: which block is made p-th, what it holds, what old blocks get, what the root holds.
-- What the proofs go through: Grow (all new blocks made at once), Room, Place, Made, Spot.
pub mod Sites
pub mod Cuts
pub mod Forms
pub mod HeldAfter
pub mod Grow
pub mod Room
pub mod Place
pub mod Made
pub mod Spot
