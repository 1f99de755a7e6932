-- What the code asks for, out of what is known of the blob: the numbers are small, the root's block is not too full, and each slot can be planned.
use mathlib.Core.Path.{◌≡◌, ap, ◌∙◌, sym}
use mathlib.Core.Bool.{false}
use mathlib.Core.List.{List}
use Prim.Native.Nat.{ℕ, ◌-◌, ◌^◌, ◌≤◌, ◌<◌}
use native.Mathlib.Nat.{pow-zero, pow-le-pow_right, mul-le-mul_left}
use native.Mathlib.Omega.{arith}
use borrow.Author.Tests.{eqb-true, eqb-false}
use lib.Dec.{eqb}
use lib.ListN.{length, get_or}
use Rattle.meaning.specs.declared.Edition.{Edition}
use Rattle.meaning.specs.Edition.{Proper}
use Rattle.meaning.specs.Bytes.{block, height_of, count_of}
use Rattle.meaning.specs.Tree.{Blob, leaves_of, length_of}
use Rattle.meaning.specs.Shape.{leaves_for, total, most_count, Shaped}
use Rattle.meaning.specs.Resize.{share}
use Rattle.meaning.specs.Calls.{usable}
use Rattle.laws.proofs.Codec.{items_of}
use Rattle.laws.proofs.Inversions.{by_test}
use Rattle.laws.proofs.Totals.{total_le}
use Rattle.laws.proofs.Shapes.{shaped_leaves, shaped_height}
use Rattle.laws.proofs.Walked.{block_length}
use Rattle.laws.proofs.Ranges.{usable_few}
use Rattle.laws_resize.specs.growth.Sites.{sites_of, at, sited, root_row}
use Rattle.laws_resize.specs.growth.HeldAfter.{taken}
use Rattle.laws_resize.proofs.growth.WhereBlocksStand.{root_site}
use Rattle.laws_resize.proofs.rising.Bounds.{want_some, want_total, power_within}
use Rattle.laws_resize.proofs.rising.HeldByPlace.{leaf_share, root_most, root_share}
use Rattle.check_blob.proofs.visit.VisitAsDefined.{slot_fits}
use Rattle.check_gate.specs.Gate.{Whole}
use Rattle.check_survey.specs.sites.Spelt.{blob_at, site_at}
use Rattle.check_survey.specs.sites.Known.{Known}
use Rattle.check_survey.specs.worn.{worn_among}
use Rattle.check_survey.proofs.worn.WornByHeights.{unworn_slot, unworn_site}
use Rattle.plan_longer.specs.declared.fresh.Growth.{Growth}
use Rattle.plan_longer.specs.fresh.{Grows}
use Rattle.plan_longer.specs.declared.towers.Tower.{Tower}
use Rattle.plan_longer.specs.towers.{Towers, RootBlock}
use Rattle.plan_longer.specs.enlarged.{Spot}
use Rattle.plan_longer.specs.Plans.{Numbers, Here, AllHere}
use Rattle.plan_longer.proofs.NoneHigher.{site_low}

module _ (e : Edition) (p : Proper e) (n : ℕ) (P R : List ℕ) (r bytes leaves : ℕ) (row hs fs : List ℕ)
    (k : Known e n P R r bytes leaves row hs fs) (w : Whole e n P R) where
  -- the blob
  abbrev b : Blob
  b = blob_at e P r

  shaped : Shaped e b
  shaped = k.standing.shaped

  -- it has few leaves, and so it is low
  pub blob_few : length (leaves_of b) ≤ 2 ^ 32
  blob_few = omega (arith, k.few, k.leaves, w.few, p.small)

  blob_some : 1 ≤ length (leaves_of b)
  blob_some = omega (arith, want_some e p (length_of b), shaped_leaves e p.some p.two b shaped)

  blob_low : e.fan ^ b.height ≤ 2 ^ 50
  blob_low =
      omega (
        arith,
        ap (λ (h : ℕ). e.fan ^ h) (shaped_height e p.some p.two b shaped),
        power_within e.fan (length (leaves_of b)) p.two blob_some,
        mul-le-mul_left {m = length (leaves_of b)} {n = 2 ^ 32} e.fan blob_few,
        p.byte,
        p.fills,
      )

  -- where the root's block stands
  root_at_lem : sited (sites_of b) r ≡ at (record { height = b.height; first = 0; items = root_row b })
  root_at_lem = ap (sited (sites_of b)) (sym k.named) ∙ root_site e p b shaped k.standing.once

  pub root_row_lem : root_row b ≡ items_of b.height (block e P r)
  root_row_lem = (k.fit r _ root_at_lem).1

  pub root_count : length (root_row b) ≡ count_of (block e P r)
  root_count = (k.fit r _ root_at_lem).2

  pub root_height : height_of (block e P r) ≡ b.height
  root_height = (k.fit r _ root_at_lem).0.height

  -- a slot whose height is noted
  module _ (s : ℕ) (noted : get_or hs s 0 ≡ 0 → ⊥) where
    pub noted_at : sited (sites_of b) s ≡ at (site_at e P s (get_or hs s 0) (get_or fs s 0))
    noted_at = k.sites.some s noted

    pub noted_height : height_of (block e P s) ≡ get_or hs s 0 - 1
    unfolding site_at
    noted_height = (k.fit s _ noted_at).0.height

    noted_most : count_of (block e P s) ≤ most_count e (get_or hs s 0 - 1)
    unfolding site_at
    noted_most = (k.fit s _ noted_at).0.most

    pub noted_count : length (items_of (get_or hs s 0 - 1) (block e P s)) ≡ count_of (block e P s)
    unfolding site_at
    noted_count = (k.fit s _ noted_at).2

    pub noted_share : (len : ℕ) → bytes ≤ len → get_or hs s 0 - 1 ≡ 0 → count_of (block e P s) ≤ share e len (get_or fs s 0)
    unfolding site_at
    noted_share len long low =
        let z = leaf_share e p b shaped s _ noted_at len (omega (arith, k.bytes)) low in
        omega (arith, z, noted_count)

    noted_low : e.fan ^ (get_or hs s 0 - 1) ≤ 2 ^ 50
    unfolding site_at
    noted_low =
        omega (arith, blob_low, pow-le-pow_right {n = e.fan} (omega (arith, p.two)) (site_low b s _ noted_at))

  -- another has no height
  slot_low : (s : ℕ) → e.fan ^ (get_or hs s 0 - 1) ≤ 2 ^ 50
  slot_low s =
      by_test (eqb (get_or hs s 0) 0)
      (λ t. let z : get_or hs s 0 - 1 ≡ 0 = omega (arith, eqb-true (get_or hs s 0) 0 t) in rw (z, pow-zero e.fan) (omega arith))
      (λ t. noted_low s (eqb-false (get_or hs s 0) 0 t))

  module _ (g : Growth) (t : Tower) (num : Numbers e b g t) (long : bytes ≤ g.length) where
    longer : length_of b ≤ g.length
    longer = omega (arith, k.bytes)

    -- a slot has its place
    known_spot : (s : ℕ) → s < n → Spot e g P hs fs s
    known_spot s l = record {
      place = slot_fits e.size n s P w.pool l;
      heights = omega (arith, k.heights);
      firsts = omega (arith, k.firsts);
      low = slot_low s;
      most = λ some. noted_most s (λ z. omega arith);
      share = λ some low. noted_share s (λ z. omega arith) g.length long low;
    }

    -- and can be planned, if the blob is not worn
    known_here : worn_among R hs n ≡ false → (s : ℕ) → s < n → Here e g P R hs fs r s
    known_here unworn s l = record {
      spot = known_spot s l;
      line = slot_fits 12 n s R w.records l;
      small = omega (arith, w.few, p.small);
      version = λ some. unworn_slot e n P R r bytes leaves row hs fs k unworn s l (λ z. omega arith);
      root_version = λ q. unworn_site e n P R r bytes leaves row hs fs k unworn s _ (ap (sited (sites_of b)) q ∙ root_at_lem);
    }

    pub known_all_here : worn_among R hs n ≡ false → AllHere e g n P R hs fs r
    known_all_here unworn = record { each = known_here unworn }

    -- the blob's numbers are those of one that gets longer
    pub known_towers : Towers e g t
    known_towers = record {
      blob = b;
      shaped = shaped;
      long = longer;
      leaves = num.leaves;
      height = num.height;
      top = num.top;
      blocks = num.blocks;
      taken = num.taken;
    }

    -- the root's block
    pub known_root : RootBlock e g t (block e P r)
    known_root = record {
      size = block_length e p n P w.pool r k.within;
      most = rw num.height (omega (arith, root_most e p b shaped, root_count));
      share = λ low. omega (arith, root_share e p b shaped g.length longer (sym num.height ∙ low), root_count);
    }

    -- usable slots are enough
    module _ (enough : t.taken ≤ length (usable e n P R)) where
      -- so it will have few leaves
      wanted_few : leaves_for e.leaf g.length ≤ 2 ^ 35
      unfolding taken
      wanted_few =
          let q : t.taken ≡ total e.fan (leaves_for e.leaf g.length) - total e.fan (length (leaves_of b)) = num.taken in
          omega (
            arith,
            q,
            want_total e p g.length,
            total_le e.fan (length (leaves_of b)) p.two,
            usable_few e n P R,
            blob_few,
            w.few,
            p.small,
          )

      -- and its numbers are small
      pub known_grows : Grows e g
      known_grows = record {
        some = omega (arith, blob_some, num.leaves);
        more = num.more;
        few = omega (arith, wanted_few, num.more, num.leaves, blob_few);
      }
