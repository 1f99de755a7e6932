-- What a resize is lent to draw in, what it knows of its blob once the pool check has passed, and what it changes.
use Rattle.std.specs.Prelude.{◌≡◌, false, List, ℕ, ◌-◌, ◌≤◌, ◌<◌, length}
use Rattle.meaning.specs.declared.Edition.{Edition}
use Rattle.meaning.specs.Shape.{leaves_for, total}
use Rattle.meaning.specs.Tree.{cells_of}
use Rattle.meaning.specs.Change.{Change}
use Rattle.meaning.specs.Resize.{resized}
use Rattle.meaning.specs.Calls.{usable, become}
use Rattle.check_gate.specs.Gate.{Whole}
use Rattle.base_slot.specs.usable.{usable_from}
use Rattle.check_survey.specs.worn.{worn_among}
use Rattle.check_survey.specs.sites.Spelt.{blob_at}
use Rattle.check_survey.specs.sites.Known.{Known}

-- the changes of the definition, of the blob of root r that gets that length
unfoldable pub resized_to : Edition → (n : ℕ) → (P R : List ℕ) → (r len : ℕ) → List Change
resized_to e n P R r len = become e n P R 1 (cells_of (blob_at e P r)) (cells_of (resized e len (usable e n P R) (blob_at e P r)))

-- the blob of root r, whatever the row of leaf slots holds by now
pub record Found (e : Edition) (n : ℕ) (P R : List ℕ) (r len k : ℕ) (hs fs : List ℕ) : Type 0 where
  pub row : List ℕ
  pub known : Known e n P R r len k row hs fs

-- a copy of one block, one payload, and the scratch in which a block is built
pub record Drafts (e : Edition) (kept payload scratch : List ℕ) : Type 0 where
  pub copy : length kept ≡ e.size
  pub part : length payload ≡ e.leaf
  pub whole : length scratch ≡ e.size

-- past refusals 12 and 11: no block is worn, free is the list of usable slots, and they are enough for `want` leaves
pub record Roomy (e : Edition) (n : ℕ) (P R : List ℕ) (r bytes leaves : ℕ) (hs fs free : List ℕ) (len want : ℕ) : Type 0 where
  pub whole : Whole e n P R
  pub found : Found e n P R r bytes leaves hs fs
  pub fresh : worn_among R hs n ≡ false
  pub list : free ≡ usable_from R 0 n
  pub wanted : want ≡ leaves_for e.leaf len
  pub room : total e.fan want - total e.fan leaves ≤ length free

-- and it gets shorter; what the code does not use is held within
pub record Shorter (e : Edition) (n : ℕ) (P R : List ℕ) (r : ℕ) (hs fs : List ℕ) (len want : ℕ) : Type 0 where
  pub bytes : ℕ
  pub leaves : ℕ
  pub free : List ℕ
  pub roomy : Roomy e n P R r bytes leaves hs fs free len want
  pub short : len < bytes

-- or it does not
pub record Longer (e : Edition) (n : ℕ) (P R : List ℕ) (r leaves : ℕ) (hs fs free : List ℕ) (len want : ℕ) : Type 0 where
  pub bytes : ℕ
  pub roomy : Roomy e n P R r bytes leaves hs fs free len want
  pub long : bytes ≤ len
