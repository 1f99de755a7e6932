-- What each slot holds after write and resize. The final statements, for a blob that stands: shaped, no slot twice, none of them free
-- (walk_standing, pool_standing: so it is of every blob that a walk found, and that a pool check lists):
--   ResizedBySlot: write_slot, resize_slot (with longer_slot, shorter_slot): held (cells_of new) s ≡ written_held .. s, resized_held .. s;
--     write_changes, resize_changes: the call's list of changes, by those functions;
--   WhereBlocksStand: root_site, left_site, left_step: where blocks stand, from the root down;
--   Changes: a slot's change, case by case;
--   FormsByCases: each form case by case, for a program's branches and turns.
-- Sites, WrittenBySlot, Cut, ShorterBySlot: write and shorter.
pub mod FormsByCases
pub mod Sites
pub mod WrittenBySlot
pub mod Cut
pub mod ShorterBySlot
-- Grow, RoomAtTheRoot: leaf by leaf is all at once. NewSubtreePlaces, Order, PthOfSubtree, PthMade, Higher, RootAsItRises: which block is made
-- p-th. Held, Taller, Blocks, HeldInTheEnd: what slots hold then.
pub mod Grow
pub mod RoomAtTheRoot
pub mod NewSubtreePlaces
pub mod Held
pub mod Taller
pub mod Order
pub mod PthOfSubtree
pub mod PthMade
pub mod Higher
pub mod RootAsItRises
pub mod Blocks
pub mod HeldInTheEnd
-- Rooms, Kept, LongerBySlot: the same by numbers, and of a shaped blob. RoomOfWholeTree: the numbers with which the root rises, as differences.
pub mod Rooms
pub mod RoomOfWholeTree
pub mod Kept
pub mod LongerBySlot
-- Usable, NoSlotTwice, ResizedBySlot, ListedBlobsStand: of the blob that a walk found, with the pool's usable slots.
pub mod Usable
pub mod NoSlotTwice
pub mod ResizedBySlot
pub mod ListedBlobsStand
pub mod WhereBlocksStand
pub mod Changes
