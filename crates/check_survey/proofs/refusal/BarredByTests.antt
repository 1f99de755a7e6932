-- The refusal of write and resize, test by test; and what no refusal says.
use Rattle.std.specs.Prelude.{Ok, Err}
use mathlib.Core.Path.{◌≡◌, ◌∙◌, sym}
use mathlib.Core.Bool.{Bool, true, false, not}
use mathlib.Core.List.{List}
use Prim.Native.Nat.{ℕ, ◌+◌, ◌-◌, ◌≤◌, ◌<◌}
use native.Mathlib.Omega.{arith}
use borrow.Author.Tests.{not-true, not-false}
use lib.Dec.{ltb}
use Rattle.meaning.specs.Lists.{pick}
use Rattle.meaning.specs.declared.Edition.{Edition}
use Rattle.meaning.specs.Shape.{leaves_for, total}
use Rattle.meaning.specs.declared.Refusal.{Refusal}
use Rattle.meaning.specs.Refusals.{Checked, nowhere}
use Rattle.meaning.specs.declared.Reason.TheVariants.{WornOut, OutOfRange, NoRoom}
use Rattle.laws.proofs.Inversions.{by_test, passed_faultless}
use Rattle.check_survey.specs.worn.{worn_among}
use Rattle.check_survey.specs.refusal.{write_barred, resize_barred}

-- no refusal: the blob is not worn, whatever follows refusal 12
not_worn : (w : Bool) (q : Refusal) (after x : Checked) → x ≡ pick w (Err q) after → x ≡ Ok tt → w ≡ false
unfolding pick
not_worn w q after x ex z = by_test w (λ t. let y = rw t at (sym ex ∙ z) in passed_faultless (sym y)) (λ t. t)

-- of a write
module _ (R hs : List ℕ) (n bytes offset size : ℕ) (w : Bool) (ew : w ≡ worn_among R hs n) where
  pub write_worn : w ≡ true → (q : Refusal) → q ≡ nowhere WornOut → Err q ≡ write_barred R hs n bytes offset size
  unfolding write_barred pick
  write_worn h q eq = rw (← ew, h, eq)

  module _ (q : w ≡ false) (t : Bool) (et : t ≡ not (ltb bytes (offset + size))) where
    pub write_past : not t ≡ true → (r : Refusal) → r ≡ nowhere OutOfRange → Err r ≡ write_barred R hs n bytes offset size
    unfolding write_barred pick
    write_past m r er = rw (← ew, q, er, not-false _ (sym et ∙ not-true t m))

    pub write_none : not t ≡ false → Ok tt ≡ write_barred R hs n bytes offset size
    unfolding write_barred pick
    write_none m = rw (← ew, q, not-true _ (sym et ∙ not-false t m))

-- no refusal: the blob is not worn
pub write_fresh : (R hs : List ℕ) (n bytes offset size : ℕ) (x : Checked) → x ≡ write_barred R hs n bytes offset size → x ≡ Ok tt
    → worn_among R hs n ≡ false
unfolding write_barred
write_fresh R hs n bytes offset size x ex z = not_worn (worn_among R hs n) _ _ x ex z

-- whether a resize lacks room: more new blocks than free slots
abbrev pub lacking : Edition → (leaves len free : ℕ) → Bool
lacking e leaves len free = ltb free (total e.fan (leaves_for e.leaf len) - total e.fan leaves)

-- of a resize
module _ (e : Edition) (R hs : List ℕ) (n leaves len free : ℕ) where
  module _ (w : Bool) (ew : w ≡ worn_among R hs n) where
    pub resize_worn : w ≡ true → (q : Refusal) → q ≡ nowhere WornOut → Err q ≡ resize_barred e R hs n leaves len free
    unfolding resize_barred pick
    resize_worn h q eq = rw (← ew, h, eq)

    module _ (q : w ≡ false) (l : Bool) (el : l ≡ lacking e leaves len free) where
      pub resize_full : l ≡ true → (r : Refusal) → r ≡ nowhere NoRoom → Err r ≡ resize_barred e R hs n leaves len free
      unfolding resize_barred pick
      resize_full t r er = rw (← ew, q, ← el, t, er)

      pub resize_none : l ≡ false → Ok tt ≡ resize_barred e R hs n leaves len free
      unfolding resize_barred pick
      resize_none t = rw (← ew, q, ← el, t)

  -- no refusal: the blob is not worn, and there is room
  module _ (x : Checked) (ex : x ≡ resize_barred e R hs n leaves len free) (z : x ≡ Ok tt) where
    pub resize_fresh : worn_among R hs n ≡ false
    unfolding resize_barred
    resize_fresh = not_worn (worn_among R hs n) _ _ x ex z

    pub resize_room : lacking e leaves len free ≡ false
    unfolding resize_barred pick
    resize_room = by_test (lacking e leaves len free) (λ t. let y = rw (resize_fresh, t) at (sym ex ∙ z) in passed_faultless (sym y)) (λ t. t)
