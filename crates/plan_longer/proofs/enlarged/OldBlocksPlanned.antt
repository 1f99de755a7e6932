-- What the root and the other blocks of a blob become, a law for each way out: what was drawn is compared with the block that is there.
use mathlib.Core.Path.{◌≡◌, ◌∙◌, sym}
use mathlib.Core.Bool.{Bool, true, false}
use mathlib.Core.List.{List, []}
use Prim.Native.Nat.{ℕ, ◌-◌, ◌≤◌}
use borrow.Author.Tests.{eq-eqb, ne_eqb, eqb-true}
use lib.Dec.{eqb}
use lib.ListN.{get_or}
use Rattle.meaning.specs.declared.Edition.{Edition}
use Rattle.meaning.specs.Edition.{Proper}
use Rattle.meaning.specs.Lists.{pick, both}
use Rattle.meaning.specs.Bytes.{Cell, block, height_of, count_of}
use Rattle.meaning.specs.Shape.{most_count}
use Rattle.meaning.specs.Resize.{share}
use Rattle.laws.proofs.Codec.{items_of, padded_length}
use Rattle.laws.proofs.Inversions.{both_true}
use Rattle.laws_resize.specs.growth.Forms.{grown_row}
use Rattle.laws_resize.specs.rising.{top_at}
use Rattle.plan_slot.specs.declared.payload.Drawn.{Drawn}
use Rattle.plan_slot.specs.payload.{Draws}
use Rattle.plan_slot.specs.declared.turn.Turn.{Turn}
use Rattle.plan_slot.specs.declared.turn.Turn.TheVariants.{Stays, Renews}
use Rattle.plan_slot.specs.turn.{turned, Rises}
use Rattle.plan_slot.specs.renewal.{renewal}
use Rattle.plan_slot.proofs.renewal.DrawnIsChanged.{renewal_turned, renewal_rises}
use Rattle.plan_longer.specs.declared.fresh.Growth.{Growth}
use Rattle.plan_longer.specs.declared.towers.Tower.{Tower}
use Rattle.plan_longer.specs.enlarged.{Spot, Redraws, root_end, old_end}

-- a drawn cell that is compared with the block of its slot
pub redrawn : (e : Edition) → Proper e → (c : Cell) (d : Drawn) (x : List ℕ) → Draws e c d x → (b : List ℕ) (t : Turn)
    → t ≡ pick (both (eqb d.height (height_of b)) (eqb d.count (count_of b))) Stays (Renews d) → Redraws e b c t x
redrawn e p c d x draws b t et = record {
  changes = λ R s. renewal_turned e p c d x draws b t et R s;
  rises = λ v l. renewal_rises e p c d x draws b t et v l;
}

-- the root's, and another block's
pub redrawn_root : (e : Edition) → Proper e → (g : Growth) (t : Tower) (free kept : List ℕ) (d : Drawn) (x : List ℕ)
    → Draws e (top_at e g.length g.leaves t.blocks free t.height (items_of t.height kept) t.top) d x → (u : Turn)
    → u ≡ pick (both (eqb d.height (height_of kept)) (eqb d.count (count_of kept))) Stays (Renews d)
    → Redraws e kept (root_end e g t free kept) u x
unfolding root_end
redrawn_root e p g t free kept d x draws u eu = redrawn e p _ d x draws kept u eu

pub redrawn_old : (e : Edition) → Proper e → (g : Growth) (P free hs fs : List ℕ) (i h first : ℕ) → h ≡ get_or hs i 0 - 1 → first ≡ get_or fs i 0
    → (b : List ℕ) → b ≡ block e P i → (d : Drawn) (x : List ℕ)
    → Draws e (record { height = h; items = grown_row e g.length g.leaves free h first (items_of h b) }) d x → (u : Turn)
    → u ≡ pick (both (eqb d.height (height_of b)) (eqb d.count (count_of b))) Stays (Renews d)
    → Redraws e (block e P i) (old_end e g P free hs fs i) u x
unfolding old_end
redrawn_old e p g P free hs fs i h first eh ef b eb d x draws u eu = rw (← eh, ← ef, ← eb) (redrawn e p _ d x draws b u eu)

-- whether a block of height h is a leaf with all its bytes: by each way out of the test
module _ (e : Edition) (long : ℕ) (b : List ℕ) (h first : ℕ) where
  abbrev settled : Bool
  settled = both (eqb h 0) (both (eqb (height_of b) 0) (eqb (count_of b) (share e long first)))

  pub settled_inner : (h ≡ 0 → ⊥) → false ≡ settled
  unfolding both
  settled_inner n = rw (ne_eqb h 0 n)

  pub settled_height : h ≡ 0 → (x : ℕ) → x ≡ height_of b → (x ≡ 0 → ⊥) → false ≡ settled
  unfolding both
  settled_height z x ex n = rw (eq-eqb h 0 z, ne_eqb (height_of b) 0 (λ q. n (ex ∙ q)))

  pub settled_count : h ≡ 0 → (x : ℕ) → x ≡ height_of b → x ≡ 0 → (m : ℕ) → m ≡ count_of b → (k : ℕ) → k ≡ share e long first → eqb m k ≡ settled
  unfolding both
  settled_count z x ex n m em k ek = rw (eq-eqb h 0 z, eq-eqb (height_of b) 0 (sym ex ∙ n), em, ek)

-- a leaf with all its bytes stays: its height and count do
settled_stays : (e : Edition) (g : Growth) (free b : List ℕ) (h first : ℕ) → both (eqb h 0) (both (eqb (height_of b) 0) (eqb (count_of b) (share e g.length first))) ≡ true
    → (R : List ℕ) (s : ℕ) → renewal e R s b (record { height = h; items = grown_row e g.length g.leaves free h first (items_of h b) }) ≡ []
unfolding renewal grown_row pick both
settled_stays e g free b h first t R s =
    let u = both_true (eqb h 0) (both (eqb (height_of b) 0) (eqb (count_of b) (share e g.length first))) t in
    let v = both_true (eqb (height_of b) 0) (eqb (count_of b) (share e g.length first)) u.1 in
    let z : h ≡ 0 = eqb-true h 0 u.0 in
    let y : height_of b ≡ 0 = eqb-true (height_of b) 0 v.0 in
    let k : count_of b ≡ share e g.length first = eqb-true (count_of b) (share e g.length first) v.1 in
    rw (z, y, padded_length (share e g.length first) (items_of 0 b), eq-eqb (share e g.length first) (count_of b) (sym k))

pub redrawn_settled : (e : Edition) (g : Growth) (P free hs fs : List ℕ) (i h first : ℕ) → h ≡ get_or hs i 0 - 1 → first ≡ get_or fs i 0
    → (b : List ℕ) → b ≡ block e P i → (t : Bool)
    → t ≡ both (eqb h 0) (both (eqb (height_of b) 0) (eqb (count_of b) (share e g.length first))) → t ≡ true → (x : List ℕ)
    → Redraws e (block e P i) (old_end e g P free hs fs i) Stays x
unfolding old_end turned Rises
redrawn_settled e g P free hs fs i h first eh ef b eb t et q x = rw (← eh, ← ef, ← eb) (record {
  changes = λ R s. sym (settled_stays e g free b h first (sym et ∙ q) R s);
  rises = λ v l. tt;
})

-- a block of the blob, by where it stands
module _ (e : Edition) (g : Growth) (P hs fs : List ℕ) (i : ℕ) (spot : Spot e g P hs fs i) (some : 1 ≤ get_or hs i 0) (b : List ℕ)
    (eb : b ≡ block e P i) where
  pub old_most : count_of b ≤ most_count e (get_or hs i 0 - 1)
  old_most = rw eb (spot.most some)

  pub old_share : get_or hs i 0 - 1 ≡ 0 → count_of b ≤ share e g.length (get_or fs i 0)
  old_share low = rw eb (spot.share some low)
