-- A loop over the slots against a list of changes: one turn makes the changes of one slot, and what is left is as at the start.
use mathlib.Core.Path.{◌≡◌, refl, ap, ◌∙◌, sym}
use mathlib.Core.List.{List, [], ◌∷◌, ◌++◌}
use mathlib.Core.Logic.{inl, inr}
use Prim.Native.Nat.{ℕ, zero, suc, ◌+◌, ◌-◌, ◌*◌, ◌≤◌, ◌<◌}
use native.Mathlib.Omega.{arith}
use lib.ListN.{length, take, drop, replicate}
use lib.Seq.{drop-drop}
use Rattle.meaning.specs.Lists.{part, joined, range}
use Rattle.meaning.specs.Bytes.{block, record_at, record_with, record_of}
use Rattle.meaning.specs.Change.{Change, put, puts, changed, changes}
use Rattle.meaning.specs.Tree.{Held}
use Rattle.meaning.specs.declared.Edition.{Edition}
use Rattle.laws.proofs.Parts.{pasted_length, drop_pasted}
use Rattle.laws.proofs.Ranges.{left_step, left_none}
use Rattle.laws.proofs.Puts.{Single}
use Rattle.check_blob.proofs.visit.VisitAsDefined.{slot_fits}
use Rattle.plan_slot.specs.change.Turns.{over, Turning}

-- the changes of the slots from i on
pub over_none : (plan : ℕ → List Change) (i n : ℕ) → n ≤ i → over plan i (n - i) ≡ []
unfolding over joined
over_none plan i n h = rw (left_none i n h)

pub over_step : (plan : ℕ → List Change) (i n : ℕ) → i < n → over plan i (n - i) ≡ plan i ++ over plan (i + 1) (n - (i + 1))
unfolding over joined
over_step plan i n h = rw (left_step i n h)

-- the definition's changes are those of each slot
pub changes_over : (e : Edition) (R : List ℕ) (taken : ℕ) (old new : ℕ → Held) (i k : ℕ)
    → changes e R taken old new (range i k) ≡ over (λ s. changed e R taken s (old s) (new s)) i k
unfolding changes over joined range
changes_over e R taken old new i zero = refl
changes_over e R taken old new i (suc k) = ap (λ (l : List Change). changed e R taken i (old i) (new i) ++ l) (changes_over e R taken old new (suc i) k)

-- what lies behind a slot
left_next : (w i : ℕ) (l₀ l : List ℕ) → drop (w * i) l ≡ drop (w * i) l₀ → drop (w * (i + 1)) l ≡ drop (w * (i + 1)) l₀
left_next w i l₀ l e =
    let k : w * i + w ≡ w * (i + 1) = omega arith in
    rw (← k, ← drop-drop, e, drop-drop)

put_left : (w i : ℕ) (new l : List ℕ) → length new ≡ w → w * i + w ≤ length l → drop (w * (i + 1)) (put w i new l) ≡ drop (w * (i + 1)) l
unfolding put
put_left w i new l e h = drop_pasted (w * i) new l (omega arith) (w * (i + 1)) (omega arith)

put_long : (w i : ℕ) (new l : List ℕ) → length new ≡ w → w * i + w ≤ length l → length (put w i new l) ≡ length l
unfolding put
put_long w i new l e h = pasted_length (w * i) new l (omega arith)

module _ (e : Edition) (n : ℕ) (plan : ℕ → List Change) (P₀ R₀ : List ℕ) where
  pub turning_start : Turning e n plan P₀ R₀ 0 P₀ R₀
  turning_start =
      let z : n - 0 ≡ n = omega arith in
      record { pool = rw z; records = rw z; pool_long = refl; records_long = refl; pool_left = refl; records_left = refl }

  module _ (i : ℕ) (P R : List ℕ) (t : Turning e n plan P₀ R₀ i P R) where
    -- from slot i on, blocks and records are as they were
    pub block_left : block e P i ≡ block e P₀ i
    unfolding block part
    block_left = ap (take e.size) t.pool_left

    pub record_left : record_at R i ≡ record_at R₀ i
    unfolding record_at part
    record_left = ap (take 12) t.records_left

    -- behind the last slot, all of it is done
    pub pool_turned : n ≤ i → P ≡ puts e.size (λ c. c.block) (over plan 0 n) P₀
    unfolding puts
    pool_turned l = sym (t.pool ∙ rw (over_none plan i n l))

    pub records_turned : n ≤ i → R ≡ puts 12 (λ c. c.line) (over plan 0 n) R₀
    unfolding puts
    records_turned l = sym (t.records ∙ rw (over_none plan i n l))

    module _ (l : i < n) where
      -- a slot in which nothing changes
      pub turning_skip : plan i ≡ [] → Turning e n plan P₀ R₀ (i + 1) P R
      turning_skip p =
          record {
            pool = t.pool ∙ rw (over_step plan i n l, p);
            records = t.records ∙ rw (over_step plan i n l, p);
            pool_long = t.pool_long;
            records_long = t.records_long;
            pool_left = left_next e.size i P₀ P t.pool_left;
            records_left = left_next 12 i R₀ R t.records_left;
          }

      -- a slot whose block and record are stored
      pub turning_put : (b line : List ℕ) → plan i ≡ record { slot = i; block = b; line = line } ∷ [] → length b ≡ e.size → length line ≡ 12
          → length P₀ ≡ e.size * n → length R₀ ≡ 12 * n → (P' R' : List ℕ) → P' ≡ put e.size i b P → R' ≡ put 12 i line R
          → Turning e n plan P₀ R₀ (i + 1) P' R'
      unfolding puts
      turning_put b line p lb ll lp lr P' R' ep er =
          let x : e.size * i + e.size ≤ length P = slot_fits e.size n i P (t.pool_long ∙ lp) l in
          let y : 12 * i + 12 ≤ length R = slot_fits 12 n i R (t.records_long ∙ lr) l in
          record {
            pool = t.pool ∙ rw (over_step plan i n l, p, ep);
            records = t.records ∙ rw (over_step plan i n l, p, er);
            pool_long = ap length ep ∙ put_long e.size i b P lb x ∙ t.pool_long;
            records_long = ap length er ∙ put_long 12 i line R ll y ∙ t.records_long;
            pool_left = rw ep (put_left e.size i b P lb x ∙ left_next e.size i P₀ P t.pool_left);
            records_left = rw er (put_left 12 i line R ll y ∙ left_next 12 i R₀ R t.records_left);
          }

-- what is stored is what was built
pub line_stored : (s st v : ℕ) (R R' line : List ℕ) → line ≡ record_with st 0 v → R' ≡ put 12 s line R → R' ≡ put 12 s (record_of st v) R
unfolding record_of
line_stored s st v R R' line el er = er ∙ rw el

pub block_stored : (w s : ℕ) (P P' built b : List ℕ) → built ≡ b → P' ≡ put w s built P → P' ≡ put w s b P
block_stored w s P P' built b eb ep = ep ∙ rw eb

pub zeros_stored : (w s : ℕ) (P P' x x' : List ℕ) → length x ≡ w → x' ≡ replicate (length x) 0 → P' ≡ put w s x' P → P' ≡ put w s (replicate w 0) P
zeros_stored w s P P' x x' l ex ep = ep ∙ rw (ex, l)

-- two plans that say the same of each slot
pub over_same : (plan plan' : ℕ → List Change) (i k : ℕ) → ((s : ℕ) → plan s ≡ plan' s) → over plan i k ≡ over plan' i k
unfolding over joined range
over_same plan plan' i zero h = refl
over_same plan plan' i (suc k) h = rw (h i) (ap (λ (l : List Change). plan' i ++ l) (over_same plan plan' (suc i) k h))

-- one turn, whatever the plan says of the slot: nothing, or one store
pub turning_on : (e : Edition) (n : ℕ) (plan : ℕ → List Change) (P₀ R₀ : List ℕ) (i : ℕ) (P R : List ℕ) → Turning e n plan P₀ R₀ i P R → i < n
    → length P₀ ≡ e.size * n → length R₀ ≡ 12 * n
    → Single e i (plan i) → (P' R' : List ℕ) → P' ≡ puts e.size (λ c. c.block) (plan i) P → R' ≡ puts 12 (λ c. c.line) (plan i) R → Turning e n plan P₀ R₀ (i + 1) P' R'
unfolding puts
turning_on e n plan P₀ R₀ i P R t l lp lr (inl z) P' R' ep er =
    rw (ep, er, z) (turning_skip e n plan P₀ R₀ i P R t l z)
turning_on e n plan P₀ R₀ i P R t l lp lr (inr o) P' R' ep er =
    turning_put e n plan P₀ R₀ i P R t l o.0 o.1 o.2 o.3 o.4 lp lr P' R' (rw o.2 at ep) (rw o.2 at er)
