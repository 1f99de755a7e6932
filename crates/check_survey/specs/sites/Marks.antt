-- What is noted of a blob's blocks, in two rows of as many places as there are slots: a block's height and one more, and its first leaf's number.
use Rattle.std.specs.Prelude.{◌≡◌, List, [], ◌∷◌, ℕ, ◌+◌, ◌*◌, ◌^◌, ◌≤◌, ◌<◌, length, set, drop}
use Rattle.meaning.specs.declared.Edition.{Edition}
use Rattle.meaning.specs.Lists.{fours}
use Rattle.meaning.specs.Bytes.{block, height_of}
use Rattle.meaning.specs.Tree.{leaves_of}
use Rattle.laws.proofs.Every.{Every}
use Rattle.laws_resize.specs.growth.Sites.{Site}
use Rattle.check_survey.specs.sites.Spelt.{blob_at, Inside, tree_leaves, row_leaves}

-- in a list, at the slot of each of these sites, what f says of it
unfoldable pub puts : (Site → ℕ) → List (ℕ × Site) → List ℕ → List ℕ
puts f [] l = l
puts f (x ∷ xs) l = puts f xs (set l x.0 (f x.1))

abbrev pub tall : Site → ℕ
tall x = x.height + 1

abbrev pub begin : Site → ℕ
begin x = x.first

-- these sites were noted: hs and fs are the rows before, hs' and fs' those after
pub record Marked (xs : List (ℕ × Site)) (hs fs hs' fs' : List ℕ) : Type 0 where
  pub heights : hs' ≡ puts tall xs hs
  pub firsts : fs' ≡ puts begin xs fs

-- a pool of n slots, and rows of as many places
pub record Ready (e : Edition) (n : ℕ) (P hs fs : List ℕ) : Type 0 where
  pub pool : length P ≡ e.size * n
  pub heights : length hs ≡ n
  pub firsts : length fs ≡ n

-- a block may be noted, after k leaves
pub record BlockStart (e : Edition) (n : ℕ) (P hs fs : List ℕ) (h s k : ℕ) : Type 0 where
  pub ready : Ready e n P hs fs
  pub inside : Inside e P n h s
  pub low : h < 255
  pub few : k + tree_leaves e P h s < 2 ^ 32

-- the children of a block may be noted from number `from` on, of which there are `left`
pub record RowStart (e : Edition) (n : ℕ) (P hs fs : List ℕ) (w p from left k : ℕ) : Type 0 where
  pub ready : Ready e n P hs fs
  pub parent : p < n
  pub room : from + left ≤ e.fan
  pub inside : Every (Inside e P n w) (fours left (drop (16 + 4 * from) (block e P p)))
  pub low : w < 255
  pub few : k + row_leaves e P w (fours left (drop (16 + 4 * from) (block e P p))) < 2 ^ 32

-- a blob may be noted: each of its blocks fits, and its leaves are few enough to be numbered
pub record SitesStart (e : Edition) (n : ℕ) (P hs fs : List ℕ) (r : ℕ) : Type 0 where
  pub ready : Ready e n P hs fs
  pub inside : Inside e P n (height_of (block e P r)) r
  pub low : height_of (block e P r) < 255
  pub few : length (leaves_of (blob_at e P r)) < 2 ^ 32
