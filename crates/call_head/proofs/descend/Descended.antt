-- The descent, block by block: what code reads in a slot that the pool has, and answers for one that it has not, is the definition's; and one step down is
-- one unfolding of `below`.
use mathlib.Core.Path.{◌≡◌, refl, ◌∙◌, sym}
use mathlib.Core.List.{List, []}
use Prim.Native.Nat.{ℕ, zero, suc, ◌+◌, ◌-◌, ◌*◌, ◌/◌, ◌%◌, ◌≤◌, ◌<◌, min}
use native.Mathlib.Nat.{mul-le-mul_left, div-add-mod, zero-min}
use native.Mathlib.Omega.{arith}
use lib.ListN.{length}
use Rattle.meaning.specs.declared.Edition.{Edition}
use Rattle.meaning.specs.Lists.{part, number}
use Rattle.meaning.specs.Edition.{Proper}
use Rattle.meaning.specs.Bytes.{block, height_of}
use Rattle.meaning.specs.Calls.{slots_in}
use Rattle.meaning.specs.Head.{block_at, child_at, below, height_at}
use Rattle.laws.proofs.Descent.{block_there, block_gone}

-- no part of nothing
part_nil : (a k : ℕ) → part {A = ℕ} a k [] ≡ []
unfolding part
part_nil zero zero = refl
part_nil zero (suc k) = refl
part_nil (suc a) zero = refl
part_nil (suc a) (suc k) = refl

-- a slot, in the pool or not
module _ (e : Edition) (P : List ℕ) (s : ℕ) where
  pub slot_there : Proper e → s < length P / e.size → e.size * s + e.size ≤ length P
  slot_there p l =
      let k : e.size * (s + 1) ≤ e.size * (length P / e.size) = mul-le-mul_left e.size (omega arith) in
      omega (arith, k, div-add-mod (length P) e.size)

  pub block_read : s < length P / e.size → block_at e P s ≡ block e P s
  unfolding slots_in
  block_read l = block_there e P s l

  pub block_none : length P / e.size ≤ s → block_at e P s ≡ []
  unfolding slots_in
  block_none l = block_gone e P s l

  pub child_there : s < length P / e.size → (i : ℕ) (b : List ℕ) → b ≡ block e P s → (x : ℕ) → x ≡ number (part (16 + 4 * i) 4 b) → x ≡ child_at e P s i
  unfolding child_at
  child_there l i b eb x ex = ex ∙ rw (block_read l, eb)

  pub child_gone : length P / e.size ≤ s → (i : ℕ) → 0 ≡ child_at e P s i
  unfolding child_at number
  child_gone l i = rw (block_none l, part_nil (16 + 4 * i) 4)

  pub height_there : s < length P / e.size → (b : List ℕ) → b ≡ block e P s → (h : ℕ) → h ≡ height_of b → (x : ℕ) → x ≡ min h e.top → x ≡ height_at e P s
  unfolding height_at
  height_there l b eb h eh x ex = ex ∙ rw (block_read l, eh, eb)

  pub height_gone : length P / e.size ≤ s → 0 ≡ height_at e P s
  unfolding height_at height_of
  height_gone l = rw (block_none l) (sym (zero-min e.top))

-- one step
module _ (e : Edition) (P : List ℕ) (d r j : ℕ) where
  pub at_root : d ≡ 0 → r ≡ below e P d r j
  unfolding below
  at_root z = rw z

  pub one_lower : (d ≡ 0 → ⊥) → (q : ℕ) → q ≡ below e P (d - 1) r (j / e.fan) → (x : ℕ) → x ≡ child_at e P q (j % e.fan) → x ≡ below e P d r j
  unfolding below
  one_lower n q eq x ex =
      let k : d ≡ suc (d - 1) = omega arith in
      rw k (ex ∙ rw eq)

  pub one_below : d ≡ 1 → (x : ℕ) → x ≡ child_at e P r (j % e.fan) → x ≡ below e P d r j
  unfolding below
  one_below o x ex = ex ∙ rw o

  -- two heights at once: from a block, as all there are, and as the last two
  pub two_below : (q : ℕ) → q ≡ child_at e P r (j / e.fan % e.fan) → (x : ℕ) → x ≡ child_at e P q (j % e.fan) → x ≡ below e P 2 r j
  unfolding below
  two_below q eq x ex = ex ∙ rw eq

  pub two_only : d ≡ 2 → (x : ℕ) → x ≡ below e P 2 r j → x ≡ below e P d r j
  two_only o x ex = ex ∙ rw o

  pub two_lower : (d ≡ 0 → ⊥) → (d ≡ 1 → ⊥) → (q : ℕ) → q ≡ below e P (d - 2) r (j / e.fan / e.fan) → (x : ℕ) → x ≡ below e P 2 q j → x ≡ below e P d r j
  unfolding below
  two_lower n m q eq x ex =
      let k : d ≡ suc (suc (d - 2)) = omega arith in
      rw k (ex ∙ rw eq)
