-- A slot is worn by its version, and a blob if one of its slots is.
use mathlib.Core.Path.{◌≡◌, refl, ap, ◌∙◌, sym}
use mathlib.Core.Bool.{Bool, false, not}
use mathlib.Core.List.{List, [], ◌∷◌}
use Prim.Native.Nat.{ℕ, ◌<◌}
use native.Mathlib.Omega.{arith}
use borrow.Author.Tests.{eq-eqb, ne_eqb, lt-ltb, le-ltb, eqb-true, eqb-false, not-true, not-false}
use lib.Dec.{eqb, ltb}
use lib.ListN.{get_or}
use Rattle.std.specs.List.{list_any, range_with_len}
use Rattle.meaning.specs.Lists.{pick, both, all, range}
use Rattle.meaning.specs.Bytes.{record_at, recorded_of, last_version}
use Rattle.laws.proofs.Inversions.{by_test}
use Rattle.base_slot.proofs.usable.UsableInOrder.{numbers_same}
use Rattle.laws.proofs.Codec.{version_is}
use Rattle.check_survey.specs.worn.{fresh_slot, fresh_from, worn_among}

-- one slot: none of the blob, or by its version, which is at most the last
module _ (R hs : List ℕ) (s : ℕ) where
  pub slot_other : get_or hs s 0 ≡ 0 → false ≡ not (fresh_slot R hs s)
  unfolding fresh_slot pick
  slot_other z = rw (eq-eqb (get_or hs s 0) 0 z)

  last_or_less : (v : ℕ) → v < 0x1_0000_0000_0000_0000 → eqb v 0xFFFF_FFFF_FFFF_FFFF ≡ not (ltb v 0xFFFF_FFFF_FFFF_FFFF)
  last_or_less v l =
      by_test (eqb v 0xFFFF_FFFF_FFFF_FFFF)
      (λ t. let q = eqb-true v 0xFFFF_FFFF_FFFF_FFFF t in rw (t, le-ltb v 0xFFFF_FFFF_FFFF_FFFF (omega arith)))
      (λ t. let q = eqb-false v 0xFFFF_FFFF_FFFF_FFFF t in rw (t, lt-ltb v 0xFFFF_FFFF_FFFF_FFFF (omega arith)))

  pub slot_version : (get_or hs s 0 ≡ 0 → ⊥) → (rb : List ℕ) → rb ≡ record_at R s → (v : ℕ) → v ≡ recorded_of rb → v < 0x1_0000_0000_0000_0000
      → eqb v 0xFFFF_FFFF_FFFF_FFFF ≡ not (fresh_slot R hs s)
  unfolding fresh_slot pick last_version
  slot_version o rb er v ev l = last_or_less v l ∙ sym (rw (ne_eqb (get_or hs s 0) 0 o, ← version_is R s rb er v ev))

-- one of a list is worn exactly if not all of it are fresh
any_not_all : (p : ℕ → Bool) (l : List ℕ) → list_any (λ i. not (p i)) l ≡ not (all p l)
unfolding all both
any_not_all p [] = refl
any_not_all p (x ∷ l) = by_test (p x) (λ t. rw t (any_not_all p l)) (λ t. rw t refl)

pub worn_any : (R hs : List ℕ) (n : ℕ) (t : Bool) → t ≡ list_any (λ i. not (fresh_slot R hs i)) (range_with_len 0 n) → t ≡ worn_among R hs n
unfolding worn_among fresh_from
worn_any R hs n t e = e ∙ ap (list_any (λ i. not (fresh_slot R hs i))) (numbers_same 0 n) ∙ any_not_all (fresh_slot R hs) (range 0 n)
