-- The seats of new blocks, as code computes them: what each definition is from one height lower, and bounds on it.
-- Values come with their equations, `w ≡ fan ^ h`, as code has them.
use mathlib.Core.Path.{◌≡◌, refl, sym, ap, ◌∙◌}
use Prim.Native.Nat.{ℕ, zero, suc, ◌+◌, ◌-◌, ◌*◌, ◌/◌, ◌%◌, ◌^◌, ◌≤◌, ◌<◌}
use native.Mathlib.Nat.{mul-le-mul_left, div-add-mod'}
use native.Mathlib.Omega.{arith}
use Rattle.laws_resize.specs.growth.Forms.{bulk, locate, in_row, room, space, seat}
use Rattle.laws_resize.proofs.growth.FormsByCases.{locate_top, locate_leaf, locate_down, seat_below, seat_beside}
use Rattle.plan_tree.proofs.subtrees.SubtreesFromBelow.{bulk_leaves}
use Rattle.plan_tree.specs.declared.seats.Seat.{Seat}
use Rattle.plan_tree.specs.seats.{Sits}

-- the leaves of the full subtrees before block p, and no more than the blocks of the rest, are p or fewer
pub share_fits : (fan h p size w f : ℕ) → 1 ≤ fan → size ≡ bulk fan h → w ≡ fan ^ h → f ≤ p % size → p / size * w + f ≤ p
share_fits fan h p size w f some whole wide rest =
    let low : w ≤ size = omega (arith, bulk_leaves fan h some) in
    omega (arith, mul-le-mul_left (p / size) low, div-add-mod' p size)

pub share_two : (fan h p size w f : ℕ) → 2 ≤ fan → size ≡ bulk fan h → w ≡ fan ^ h → f ≤ p % size → p / size * w + f ≤ p
share_two fan h p size w f two = share_fits fan h p size w f (omega arith)

pub share_of_left : (fan h left size w : ℕ) → 2 ≤ fan → size ≡ bulk fan h → w ≡ fan ^ h → left / size * w ≤ left
share_of_left fan h left size w two whole wide = omega (arith, share_two fan h left size w 0 two whole wide (omega arith))

-- the definition's step down, from one height lower
locate_back : (fan h p : ℕ) → 0 < h → (p ≡ 0 → ⊥) → locate fan h p ≡ (
  (locate fan (h - 1) ((p - 1) % bulk fan (h - 1))).0,
  (p - 1) / bulk fan (h - 1) * fan ^ (h - 1) + (locate fan (h - 1) ((p - 1) % bulk fan (h - 1))).1,
)
locate_back fan zero p tall more = absurd (omega arith)
locate_back fan (suc h) zero tall more = absurd (more refl)
locate_back fan (suc h) (suc p) tall more =
    let y : suc h - 1 ≡ h = omega arith in
    let z : suc p - 1 ≡ p = omega arith in
    rw (y, z) (locate_down fan h p)

-- on the way down to block p of a new subtree of height h: it is block left of a subtree of this height, before which lie first leaves
pub record Nears (fan h p height left first : ℕ) : Type 0 where
  pub low : height ≤ h
  pub few : first + left ≤ p
  pub level : (locate fan h p).0 ≡ (locate fan height left).0
  pub before : (locate fan h p).1 ≡ first + (locate fan height left).1

-- at first that is the whole subtree
pub nears_start : (fan h p : ℕ) → Nears fan h p h p 0
nears_start fan h p = record { low = omega arith; few = omega arith; level = refl; before = omega arith }

-- then a child of the one before
pub nears_down : (fan h p height left first size w : ℕ) → 2 ≤ fan → Nears fan h p height left first → 0 < height → (left ≡ 0 → ⊥)
    → size ≡ bulk fan (height - 1) → w ≡ fan ^ (height - 1)
    → Nears fan h p (height - 1) ((left - 1) % size) (first + (left - 1) / size * w)
nears_down fan h p height left first size w two nears tall more whole wide =
    let e = locate_back fan height left tall more in
    let share = share_fits fan (height - 1) (left - 1) size w ((left - 1) % size) (omega arith) whole wide (omega arith) in
    record {
      low = omega (arith, nears.low);
      few = omega (arith, nears.few, share);
      level = rw whole (nears.level ∙ ap (λ (l : ℕ × ℕ). l.0) e);
      before = rw (whole, wide) (omega (arith, nears.before, ap (λ (l : ℕ × ℕ). l.1) e));
    }

-- in the end the block is the top of its subtree, or a leaf
pub sits_top : (fan h p height left first : ℕ) → Nears fan h p height left first → left ≡ 0
    → Sits (record { height = height; first = first }) (locate fan h p)
sits_top fan h p height left first nears is =
    let e : locate fan height left ≡ (height, 0) = rw is (locate_top fan height) in
    let top : (locate fan height left).1 ≡ 0 = ap (λ (l : ℕ × ℕ). l.1) e in
    record { height = sym (nears.level ∙ ap (λ (l : ℕ × ℕ). l.0) e); first = omega (arith, nears.before, top) }

pub sits_above : (fan h p height left first : ℕ) → Nears fan h p height left first → 0 < height → left ≡ 0
    → Sits (record { height = height - 1 + 1; first = first }) (locate fan h p)
sits_above fan h p height left first nears tall is =
    let z : height - 1 + 1 ≡ height = omega arith in
    let sits = sits_top fan h p height left first nears is in
    record { height = z ∙ sits.height; first = sits.first }

pub sits_leaf : (fan h p height left first : ℕ) → Nears fan h p height left first → height ≤ 0
    → Sits (record { height = 0; first = first }) (locate fan h p)
sits_leaf fan h p height left first nears low =
    let is : height ≡ 0 = omega arith in
    let e : locate fan height left ≡ (0, 0) = rw is (locate_leaf fan left) in
    let leaf : (locate fan height left).1 ≡ 0 = ap (λ (l : ℕ × ℕ). l.1) e in
    record { height = sym (nears.level ∙ ap (λ (l : ℕ × ℕ). l.0) e); first = omega (arith, nears.before, leaf) }

-- and of a row of them
pub sits_row : (fan h j p size w : ℕ) (s : Seat) → size ≡ bulk fan h → w ≡ fan ^ h → Sits s (locate fan h (p % size))
    → Sits (record { height = s.height; first = j + p / size * w + s.first }) (in_row fan h j p)
unfolding in_row
sits_row fan h j p size w s whole wide sits =
    let at : Sits s (locate fan h (p % bulk fan h)) = rw whole at sits in
    record { height = at.height; first = rw (whole, wide, at.first) refl }

-- where a new block of the right edge stands, if it stands where one of height g does: nowhere, below the last child, or beside it
pub edge_none : (fan h n p g : ℕ) → seat fan h n p ≡ seat fan g n p → g ≤ 0 → Sits (record { height = 0; first = 0 }) (seat fan h n p)
unfolding seat
edge_none fan h n p g same low =
    let is : g ≡ 0 = omega arith in
    rw (same, is) (record { height = refl; first = refl })

pub edge_below : (fan h n p g b : ℕ) → seat fan h n p ≡ seat fan g n p → 0 < g → b ≡ space fan (g - 1) n → p < b
    → seat fan h n p ≡ seat fan (g - 1) n p
edge_below fan h n p zero b same tall all less = absurd (omega arith)
edge_below fan h n p (suc g) b same tall all less =
    let z : suc g - 1 ≡ g = omega arith in
    let few : p < space fan g n = rw (all, z) at less in
    rw z (same ∙ seat_below fan g n p few)

pub edge_beside : (fan h n p g b j : ℕ) (s : Seat) → seat fan h n p ≡ seat fan g n p → 0 < g → b ≡ space fan (g - 1) n → b ≤ p
    → j ≡ room fan (g - 1) n → Sits s (in_row fan (g - 1) j (p - b)) → Sits s (seat fan h n p)
edge_beside fan h n p zero b j s same tall all more here sits = absurd (omega arith)
edge_beside fan h n p (suc g) b j s same tall all more here sits =
    let z : suc g - 1 ≡ g = omega arith in
    let many : space fan (suc g - 1) n ≤ p = omega arith in
    let at : Sits s (in_row fan (suc g - 1) (room fan (suc g - 1) n) (p - space fan (suc g - 1) n)) = rw (all, here) at sits in
    let at' : Sits s (in_row fan g (room fan g n) (p - space fan g n)) = rw z at at in
    rw (same, seat_beside fan g n p (rw z at many)) at'
