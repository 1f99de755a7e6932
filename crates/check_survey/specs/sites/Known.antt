-- What a changing call knows of its blob once the pool check has passed and the blob's sites are noted.
use Rattle.std.specs.Prelude.{◌≡◌, ℕ, ◌≤◌, ◌<◌, length, get_or, take}
use mathlib.Core.List.{List, Memᴰ}
use Rattle.meaning.specs.declared.Edition.{Edition}
use Rattle.meaning.specs.Bytes.{block, count_of, state}
use Rattle.meaning.specs.Tree.{Blob, root_of, leaves_of, length_of}
use Rattle.meaning.specs.Walk.{fine, pool_check}
use Rattle.laws.proofs.Walked.{leaf_slots}
use Rattle.laws.proofs.Codec.{items_of}
use Rattle.laws_resize.specs.growth.Sites.{Site, sites_of, absent, at, sited}
use Rattle.laws_resize.proofs.growth.ResizedBySlot.{Standing}
use Rattle.check_survey.specs.sites.Spelt.{Fit, blob_at, site_at}

-- the rows of heights and firsts say where each slot's block stands in the blob; a place with 0 is no block of it
pub record Sites (e : Edition) (n : ℕ) (P : List ℕ) (b : Blob) (heights firsts : List ℕ) : Type 0 where
  pub none : (s : ℕ) → get_or heights s 0 ≡ 0 → sited (sites_of b) s ≡ absent
  pub some : (s : ℕ) → (get_or heights s 0 ≡ 0 → ⊥) → sited (sites_of b) s ≡ at (site_at e P s (get_or heights s 0) (get_or firsts s 0))

-- what is known of the blob of root r, whose length is len: it is `blob_at e P r`
pub record Known (e : Edition) (n : ℕ) (P R : List ℕ) (r len k : ℕ) (row hs fs : List ℕ) : Type 0 where
  -- the pool check's own list has it
  pub blobs : List Blob
  pub seen : List ℕ
  pub passed : pool_check e n P R ≡ fine blobs seen
  pub among : Memᴰ (blob_at e P r) blobs
  -- its root is a root's slot
  pub within : r < n
  pub root : state R r ≡ 2
  pub named : root_of (blob_at e P r) ≡ r
  -- it has its shape, no slot twice, and no free slot
  pub standing : Standing e R (blob_at e P r)
  -- its length, its leaves and their slots
  pub bytes : len ≡ length_of (blob_at e P r)
  pub leaves : k ≡ length (leaves_of (blob_at e P r))
  pub few : k ≤ n
  pub slots : take k row ≡ leaf_slots (blob_at e P r)
  -- where its blocks stand
  pub heights : length hs ≡ n
  pub firsts : length fs ≡ n
  pub sites : Sites e n P (blob_at e P r) hs fs
  -- what lies in the slots of its blocks
  pub fit : (s : ℕ) (x : Site) → sited (sites_of (blob_at e P r)) s ≡ at x
      → Fit e n P x.height s × (x.items ≡ items_of x.height (block e P s)) × (length x.items ≡ count_of (block e P s))
