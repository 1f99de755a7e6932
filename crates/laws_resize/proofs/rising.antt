-- RootByHeight: the root at each height.
pub mod RootByHeight
-- Bounds: how heights, leaf counts and block totals bound each other.
pub mod Bounds
-- Rises: the root and the new blocks of a blob that gets longer.
pub mod Rises
-- SameByCount: whether a resized block is as it was, by two numbers.
pub mod SameByCount
-- HeldByPlace: what a block of the blob holds at most, by where it stands.
pub mod HeldByPlace
-- Roots: whether the root is as it was.
pub mod Roots
