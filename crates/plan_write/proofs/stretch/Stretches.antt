-- The touched stretch of a leaf: of content with d put at the offset, the part that a leaf holds is what it held with its stretch of d put. So its
-- bytes stay the same exactly if those of the stretch do.
use mathlib.Core.Path.{◌≡◌, refl, ap, ◌∙◌, sym}
use mathlib.Core.List.{List, [], ◌∷◌, ◌++◌}
use Prim.Native.Nat.{ℕ, ◌+◌, ◌-◌, ◌≤◌, ◌<◌, min}
use native.Mathlib.Omega.{arith}
use borrow.Author.Tests.{eq-eqb, eqb-true, eqb-false, ltb-true, ltb-false, leb-true, leb-false}
use lib.Dec.{eqb, ltb, leb}
use lib.ListN.{length, get_or, take, drop, length-take, length-drop, take-append-drop}
use lib.Seq.{ext_get_or, get_or-take, get_or-drop, drop-drop}
use Rattle.meaning.specs.Lists.{both, part, pasted, same_list}
use Rattle.laws.proofs.Numbers.{part_length}
use Rattle.laws.proofs.Parts.{pasted_none, pasted_length, take_pasted, drop_pasted, part_pasted}
use Rattle.laws.proofs.Inversions.{by_test, same_self}
use Rattle.plan_write.specs.declared.stretch.Stretch.{Stretch}
use Rattle.plan_write.specs.stretch.{touched_by, stretched}

-- an element of a part
at_part : (a n : ℕ) (l : List ℕ) (j : ℕ) → j < n → get_or (part a n l) j 0 ≡ get_or l (a + j) 0
unfolding part
at_part a n l j h = get_or-take n (drop a l) j 0 h ∙ get_or-drop a l j 0

-- an element of a list with something pasted: before it, in it, behind it
module _ (at : ℕ) (new l : List ℕ) (fits : at + length new ≤ length l) where
  at_before : (j : ℕ) → j < at → get_or (pasted at new l) j 0 ≡ get_or l j 0
  at_before j h =
      sym (get_or-take at (pasted at new l) j 0 h) ∙ ap (λ (x : List ℕ). get_or x j 0) (take_pasted at new l fits at (omega arith)) ∙ get_or-take at l j 0 h

  at_inside : (j : ℕ) → j < length new → get_or (pasted at new l) (at + j) 0 ≡ get_or new j 0
  at_inside j h = sym (at_part at (length new) (pasted at new l) j h) ∙ ap (λ (x : List ℕ). get_or x j 0) (part_pasted at new l fits)

  at_behind : (j : ℕ) → at + length new ≤ j → get_or (pasted at new l) j 0 ≡ get_or l j 0
  at_behind j h =
      let z : j + 0 ≡ j = omega arith in
      ap (λ (k : ℕ). get_or (pasted at new l) k 0) (sym z) ∙ sym (get_or-drop j (pasted at new l) 0 0)
      ∙ ap (λ (x : List ℕ). get_or x 0 0) (drop_pasted at new l fits j h) ∙ get_or-drop j l 0 0 ∙ ap (λ (k : ℕ). get_or l k 0) z

-- the numbers of a stretch: where it begins in the leaf and in what is put, and how far it may go
module _ (base c o m : ℕ) where
  abbrev within : ℕ
  within = o - base

  abbrev from : ℕ
  from = base - o

  abbrev count : ℕ
  count = min (c - (o - base)) (m - (base - o))

  meets : base + within ≡ o + from
  meets = omega arith

  pub fits_both : (count ≡ 0 → ⊥) → (within + count ≤ c) × (from + count ≤ m)
  fits_both n = (omega arith, omega arith)

  -- a byte that lies in the leaf and in what is put lies in the stretch, at the same place of both
  pub in_stretch : (j i : ℕ) → base + j ≡ o + i → j < c → i < m → (x : ℕ) × (j ≡ within + x) × (i ≡ from + x) × (x < count)
  in_stretch j i q h g =
      by_test (leb base o)
      (λ t.
      let l : base ≤ o = leb-true base o t in
      let z : base - o ≡ 0 = omega arith in
      let w : o - base + i ≡ j = omega arith in
      (i, omega arith, rw z (omega arith), rw z (omega arith)))
      (λ t.
      let l : o < base = leb-false base o t in
      let z : o - base ≡ 0 = omega arith in
      let w : base - o + j ≡ i = omega arith in
      (j, rw z (omega arith), omega arith, rw z (omega arith)))

-- a leaf of c bytes that begin at base, in content C of which d is put at o
module _ (base c o : ℕ) (d C : List ℕ) (here : c ≤ length C - base) (fits : o + length d ≤ length C) where
  abbrev t : Stretch
  t = record { within = o - base; from = base - o; count = min (c - (o - base)) (length d - (base - o)) }

  -- as long as it was
  row_long : length (part base c C) ≡ c
  unfolding part
  row_long = simp (length-take, length-drop) (omega arith)

  new_long : length (part base c (pasted o d C)) ≡ c
  unfolding part
  new_long = simp (length-take, length-drop, pasted_length o d C fits) (omega arith)

  -- an element of the leaf, by where it lies: before what is put, behind it, or in it
  abbrev Lies : ℕ → List ℕ → Type 0
  Lies j l =
      (base + j < o → get_or l j 0 ≡ get_or C (base + j) 0)
      × (o + length d ≤ base + j → get_or l j 0 ≡ get_or C (base + j) 0)
      × ((k : ℕ) → base + j ≡ o + k → k < length d → get_or l j 0 ≡ get_or d k 0)

  -- so are the leaf's elements
  new_lies : (j : ℕ) → j < c → Lies j (part base c (pasted o d C))
  new_lies j h =
      let q = at_part base c (pasted o d C) j h in (
        λ u. q ∙ at_before o d C fits (base + j) u,
        λ u. q ∙ at_behind o d C fits (base + j) u,
        λ k u v. q ∙ ap (λ (i : ℕ). get_or (pasted o d C) i 0) u ∙ at_inside o d C fits k v,
      )

  -- and those of any list of which that is so are the same
  lies_same : (l : List ℕ) → length l ≡ c → ((j : ℕ) → j < c → Lies j l) → part base c (pasted o d C) ≡ l
  lies_same l long lies =
      ext_get_or 0 (part base c (pasted o d C)) l (new_long ∙ sym long) (λ j h.
      let g : j < c = omega (arith, new_long) in
      let a = new_lies j g in
      let b = lies j g in
      by_test (ltb (base + j) o)
      (λ u. let v = ltb-true (base + j) o u in a.0 v ∙ sym (b.0 v))
      (λ u.
      by_test (ltb (base + j) (o + length d))
      (λ w.
      let k : base + j ≡ o + (base + j - o) = omega (arith, ltb-false (base + j) o u) in
      let m : base + j - o < length d = omega (arith, ltb-true (base + j) (o + length d) w, ltb-false (base + j) o u) in
      a.2 (base + j - o) k m ∙ sym (b.2 (base + j - o) k m))
      (λ w. let v = ltb-false (base + j) (o + length d) w in a.1 v ∙ sym (b.1 v))))

  -- what is not touched stays
  untouched : t.count ≡ 0 → part base c (pasted o d C) ≡ part base c C
  untouched z =
      lies_same (part base c C) row_long (λ j h.
      let q = at_part base c C j h in
      (λ u. q, λ u. q, λ k u v. let x = in_stretch base c o (length d) j k u h v in absurd (none x.0 x.3 z)))
    where
      none : (x : ℕ) → x < t.count → t.count ≡ 0 → ⊥
      none x h z = omega arith

  -- what is touched becomes that stretch of d
  touches : (t.count ≡ 0 → ⊥) → part base c (pasted o d C) ≡ pasted t.within (part t.from t.count d) (part base c C)
  touches some = by t.within t.from t.count (meets base c o (length d)) fitting.0 fitting.1 (in_stretch base c o (length d))
    where
      fitting : (t.within + t.count ≤ c) × (t.from + t.count ≤ length d)
      fitting = fits_both base c o (length d) some

      by : (w f n : ℕ) → base + w ≡ o + f → w + n ≤ c → f + n ≤ length d
          → ((j i : ℕ) → base + j ≡ o + i → j < c → i < length d → (x : ℕ) × (j ≡ w + x) × (i ≡ f + x) × (x < n))
          → part base c (pasted o d C) ≡ pasted w (part f n d) (part base c C)
      by w f n meet wc fd in-it =
          let new : List ℕ = part f n d in
          let size : length new ≡ n = part_length f n d fd in
          let room : w + length new ≤ length (part base c C) = rw (size, row_long) wc in
          lies_same (pasted w new (part base c C)) (pasted_length w new (part base c C) room ∙ row_long) (λ j h.
          let q = at_part base c C j h in (
            λ u. at_before w new (part base c C) room j (omega (arith, meet)) ∙ q,
            λ u. at_behind w new (part base c C) room j (omega (arith, meet)) ∙ q,
            λ k u v.
                let x = in-it j k u h v in
                ap (λ (y : ℕ). get_or (pasted w new (part base c C)) y 0) x.1 ∙ at_inside w new (part base c C) room x.0 (rw size x.3)
                ∙ at_part f n d x.0 x.3 ∙ ap (λ (y : ℕ). get_or d y 0) (sym x.2),
          ))

  -- either way, what the leaf holds is what it held with its stretch put
  pub touched_part : part base c (pasted o d C) ≡ stretched (touched_by base c o (length d)) d (part base c C)
  unfolding touched_by stretched part
  touched_part =
      by_test (eqb t.count 0)
      (λ q. let z = eqb-true t.count 0 q in untouched z ∙ sym (pasted_none t.within _ _ (rw z)))
      (λ q. touches (eqb-false t.count 0 q))

-- two lists behind the same front, and before the same end
same_behind : (a x y : List ℕ) → same_list (a ++ x) (a ++ y) ≡ same_list x y
unfolding same_list both
same_behind [] x y = refl
same_behind (u ∷ a) x y = rw (eq-eqb u u refl) (same_behind a x y)

same_before : (x y c : List ℕ) → length x ≡ length y → same_list (x ++ c) (y ++ c) ≡ same_list x y
unfolding same_list both
same_before [] [] c h = same_self c
same_before [] (v ∷ y) c h = absurd (omega arith)
same_before (u ∷ x) [] c h = absurd (omega arith)
same_before (u ∷ x) (v ∷ y) c h = ap (both (eqb u v)) (same_before x y c (omega arith))

-- a list with something pasted is the same exactly if what was pasted is
pub same_pasted : (at : ℕ) (new l : List ℕ) → at + length new ≤ length l → same_list l (pasted at new l) ≡ same_list (part at (length new) l) new
unfolding pasted part
same_pasted at new l fits =
    let old : List ℕ = take (length new) (drop at l) in
    let k : length old ≡ length new = part_length at (length new) l fits in
    let whole : l ≡ take at l ++ (old ++ drop (at + length new) l) =
    sym (ap (λ (x : List ℕ). take at l ++ (old ++ x)) (sym (drop-drop (length new) at l))
    ∙ ap (λ (x : List ℕ). take at l ++ x) (take-append-drop (length new) (drop at l)) ∙ take-append-drop at l) in
    ap (λ (x : List ℕ). same_list x (take at l ++ (new ++ drop (at + length new) l))) whole
    ∙ same_behind (take at l) (old ++ drop (at + length new) l) (new ++ drop (at + length new) l)
    ∙ same_before old new (drop (at + length new) l) k
