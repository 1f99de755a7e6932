-- Copying, byte by byte: a store at i takes the first i bytes of a part to the first i + 1.
use mathlib.Core.Path.{◌≡◌, ◌∙◌, ap, sym}
use mathlib.Core.List.{List}
use Prim.Native.Nat.{ℕ, ◌+◌, ◌≤◌, ◌<◌}
use native.Mathlib.Numerals.{add-one}
use native.Mathlib.Omega.{arith}
use lib.ListN.{length, get_or, take, drop, set, length-drop}
use lib.Seq.{take-suc, take-suc-set, take_all, get_or-drop}
use Rattle.meaning.specs.Lists.{part}

-- one byte more of s from at on
pub copied_more : (d₀ d s : List ℕ) (at i : ℕ) → at + length d₀ ≤ length s → length d ≡ length d₀ → take i d ≡ part at i s → i < length d₀
    → take (i + 1) (set d i (get_or s (at + i) 0)) ≡ part at (i + 1) s
unfolding part
copied_more d₀ d s at i f k e h =
    let m : i < length d = omega arith in
    let n : i < length (drop at s) = rw length-drop (omega arith) in
    rw (add-one, take-suc-set d i (get_or s (at + i) 0) m, e, take-suc (drop at s) i 0 n, get_or-drop)

-- all of it
pub copied_whole : (d₀ d s : List ℕ) (at i : ℕ) → i ≤ length d₀ → length d₀ ≤ i → length d ≡ length d₀ → take i d ≡ part at i s → d ≡ part at (length d₀) s
copied_whole d₀ d s at i l m k e =
    let n : i ≡ length d₀ = omega arith in
    sym (take_all i d (omega arith)) ∙ e ∙ ap (λ (j : ℕ). part at j s) n
