-- A blob that gets shorter: what the code below asks for, and that what it does is the definition's changes.
use mathlib.Core.Path.{◌≡◌, ap, ◌∙◌}
use mathlib.Core.List.{List}
use Prim.Native.Nat.{ℕ, ◌+◌, ◌*◌, ◌^◌, ◌≤◌}
use lib.ListN.{length}
use mir.Syntax.{w64}
use mir.Val.{Fits}
use Rattle.meaning.specs.declared.Edition.{Edition}
use Rattle.meaning.specs.Edition.{Proper}
use Rattle.meaning.specs.Bytes.{block, height_of}
use Rattle.meaning.specs.Shape.{height_for}
use Rattle.meaning.specs.Tree.{cells_of}
use Rattle.meaning.specs.Change.{puts}
use Rattle.meaning.specs.Resize.{resized}
use Rattle.meaning.specs.Calls.{usable, become}
use Rattle.laws_resize.specs.growth.Cuts.{height_of_length}
use Rattle.check_blob.proofs.visit.VisitAsDefined.{slot_fits}
use Rattle.check_survey.specs.sites.Spelt.{blob_at}
use Rattle.call_reshape.specs.shorter.{CutStart}
use Rattle.call_resize.specs.fit.Found.{resized_to, Shorter}
use Rattle.base_shape.proofs.vacancy.RoomInSums.{leaves_totalled}

module _ (e : Edition) (n : ℕ) (P R : List ℕ) (r : ℕ) (hs fs : List ℕ) (len want : ℕ) (o : Shorter e n P R r hs fs len want) where
  -- the root lies in the pool
  pub short_place : e.size * r + e.size ≤ length P
  short_place = slot_fits e.size n r P o.roomy.whole.pool o.roomy.found.known.within

  -- the leaves are few
  pub short_few : Proper e → Fits w64 len → want ≤ 2 ^ 62
  short_few p fits = leaves_totalled e p len want fits o.roomy.wanted

  -- the blob can be cut
  pub short_start : (top : ℕ) → top ≡ height_for e.fan want → CutStart e (record { length = len; leaves = want; top = top }) n P R r hs fs
  unfolding height_of_length
  short_start top et =
      let g = o.roomy in
      record {
        len = o.bytes;
        k = o.leaves;
        row = g.found.row;
        whole = g.whole;
        known = g.found.known;
        leaves = g.wanted;
        top = et ∙ ap (height_for e.fan) g.wanted;
        short = o.short;
        fresh = g.fresh;
      }

-- a height that was read
pub height_read : (e : Edition) (P : List ℕ) (r : ℕ) (b : List ℕ) → b ≡ block e P r → (h : ℕ) → h ≡ height_of b → h ≡ height_of (block e P r)
height_read e P r b eb h eh = eh ∙ ap height_of eb

-- what was stored is the definition's changes
pub short_pool : (e : Edition) (n : ℕ) (P R : List ℕ) (r len : ℕ) (P' : List ℕ)
    → P' ≡ puts e.size (λ c. c.block) (become e n P R 1 (cells_of (blob_at e P r)) (cells_of (resized e len (usable e n P R) (blob_at e P r)))) P
    → P' ≡ puts e.size (λ c. c.block) (resized_to e n P R r len) P
unfolding resized_to
short_pool e n P R r len P' q = q

pub short_records : (e : Edition) (n : ℕ) (P R : List ℕ) (r len : ℕ) (R' : List ℕ)
    → R' ≡ puts 12 (λ c. c.line) (become e n P R 1 (cells_of (blob_at e P r)) (cells_of (resized e len (usable e n P R) (blob_at e P r)))) R
    → R' ≡ puts 12 (λ c. c.line) (resized_to e n P R r len) R
unfolding resized_to
short_records e n P R r len R' q = q
