-- A leaf's place by the row of leaf slots: an equation for each way out, and that the place lies in the pool.
use Rattle.std.specs.Prelude.{Err, Ok}
use mathlib.Core.Path.{◌≡◌, ap, ◌∙◌, sym}
use mathlib.Core.List.{List}
use Prim.Native.Nat.{ℕ, ◌+◌, ◌*◌, ◌≤◌, ◌<◌}
use native.Mathlib.Omega.{arith}
use borrow.Author.Tests.{le-leb, lt-leb}
use lib.ListN.{length, get_or, take}
use lib.Seq.{length-take-le, get_or-take}
use Rattle.meaning.specs.declared.Reason.TheVariants.{OutOfRange}
use Rattle.meaning.specs.Edition.{Proper}
use Rattle.meaning.specs.Bytes.{block, count_of}
use Rattle.meaning.specs.Refusals.{nowhere}
use Rattle.meaning.specs.Calls.{refuse_if}
use Rattle.meaning.specs.Answers.{leaf_answer}
use Rattle.meaning.specs.declared.Edition.{Edition}
use Rattle.meaning.specs.declared.Refusal.{Refusal}
use Rattle.check_blob.proofs.visit.VisitAsDefined.{slot_fits}
use Rattle.call_show.specs.place.{Below, Lies, show_spelt}

-- a leaf in a row
module _ (e : Edition) (n : ℕ) (P row : List ℕ) (k i : ℕ) (lk : k ≤ length row) where
  taken : length (take k row) ≡ k
  taken = length-take-le k row lk

  pub leaf_past : k ≤ i → (q : Refusal) → q ≡ nowhere OutOfRange → Err q ≡ leaf_answer e (show_spelt e P i (take k row))
  unfolding leaf_answer show_spelt refuse_if
  leaf_past l q eq = rw eq (simp (taken, le-leb k i l))

  module _ (l : i < k) (s : ℕ) (es : s ≡ get_or row i 0) where
    slot_is : get_or (take k row) i 0 ≡ s
    slot_is = get_or-take k row i 0 l ∙ sym es

    pub leaf_below : Below e n P (take k row) → s < n
    leaf_below h = rw (← slot_is) (h.slot i (omega (arith, taken)))

    pub leaf_in_pool : Below e n P (take k row) → length P ≡ e.size * n → e.size * s + e.size ≤ length P
    leaf_in_pool h z = slot_fits e.size n s P z (leaf_below h)

    pub leaf_shown_lem : (blk : List ℕ) → blk ≡ block e P s → (c : ℕ) → c ≡ count_of blk → (a : ℕ) → a ≡ e.size * s + 16
        → Ok (a, c) ≡ leaf_answer e (show_spelt e P i (take k row))
    unfolding leaf_answer show_spelt refuse_if
    leaf_shown_lem blk eb c ec a ea = rw (ea, ec, eb) (simp (taken, lt-leb k i l, slot_is))

    pub leaf_lies : Proper e → Below e n P (take k row) → length P ≡ e.size * n → (blk : List ℕ) → blk ≡ block e P s → (c : ℕ) → c ≡ count_of blk
        → (a : ℕ) → a ≡ e.size * s + 16 → Lies (Ok (a, c)) (length P)
    unfolding Lies
    leaf_lies p h z blk eb c ec a ea =
        let u : count_of (block e P s) ≤ e.leaf = rw slot_is at (h.count i (omega (arith, taken))) in
        let v : c ≡ count_of (block e P s) = ec ∙ ap count_of eb in
        omega (arith, p.fits, leaf_in_pool h z)

-- a refusal shows nothing
pub refused_lies : (q : Refusal) (bytes : ℕ) → Lies (Err q) bytes
unfolding Lies
refused_lies q bytes = tt
