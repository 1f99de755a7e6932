-- What is known of a blob before it is cut.
use Rattle.std.specs.Prelude.{◌≡◌, false, List, ℕ, ◌<◌}
use Rattle.meaning.specs.declared.Edition.{Edition}
use Rattle.meaning.specs.Shape.{leaves_for}
use Rattle.laws_resize.specs.growth.Cuts.{height_of_length}
use Rattle.check_gate.specs.Gate.{Whole}
use Rattle.check_survey.specs.sites.Known.{Known}
use Rattle.check_survey.specs.worn.{worn_among}
use Rattle.plan_tree.specs.declared.cuts.Cut.{Cut}

-- the blob of root r, of a pool whose check passed and whose sites are noted, may be cut to c: that is shorter, and no slot of it is worn
pub record CutStart (e : Edition) (c : Cut) (n : ℕ) (P R : List ℕ) (r : ℕ) (hs fs : List ℕ) : Type 0 where
  pub len : ℕ
  pub k : ℕ
  pub row : List ℕ
  pub whole : Whole e n P R
  pub known : Known e n P R r len k row hs fs
  pub leaves : c.leaves ≡ leaves_for e.leaf c.length
  pub top : c.top ≡ height_of_length e c.length
  pub short : c.length < len
  pub fresh : worn_among R hs n ≡ false
