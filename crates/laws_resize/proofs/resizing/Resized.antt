-- Resize: longer or shorter, as the length asks. The blob has the shape of its new length, its old bytes cut or filled with zeros to that
-- length, its root where it was, its own slots or fewer and, of the free slots, the first new_blocks; if it does not grow, that is none.
use mathlib.Core.Path.{◌≡◌, sym, ap, ◌∙◌}
use mathlib.Core.Logic.{◌⊎◌}
use mathlib.Core.List.Memᴰ
use mathlib.Core.List.{List, ◌++◌, append-nil, Memᴰ}
use Prim.Native.Nat.{ℕ, ◌+◌, ◌-◌, ◌^◌, ◌≤◌, ◌<◌}
use native.Mathlib.Decide.{dec_le}
use native.Mathlib.Omega.{arith}
use lib.ListN.{length, take, replicate}
use lib.Seq.{take_all}
use borrow.Author.Tests.{le-leb, lt-leb}
use Rattle.meaning.specs.declared.Edition.{Edition}
use Rattle.meaning.specs.Lists.{pick, padded}
use Rattle.meaning.specs.Tree.{Blob, root_of, content_of, leaves_of, cells_of, slots_of, length_of}
use Rattle.meaning.specs.Shape.{leaves_for, total, Shaped}
use Rattle.meaning.specs.Resize.{longer, shorter, resized}
use Rattle.meaning.specs.Calls.{new_blocks}
use Rattle.laws.proofs.Totals.{leaves_mono, total_mono, total_ge}
use Rattle.laws.proofs.Heights.{height_least}
use Rattle.laws.proofs.Shapes.{shaped_leaves, shaped_height, shaped_blocks}
use Rattle.laws.proofs.Codec.{padded_length}
use Rattle.laws_resize.proofs.resizing.SlotCounts.{times, times_append, member_times, times_member}
use Rattle.laws_resize.proofs.resizing.Last.{padded_is}
use Rattle.laws_resize.proofs.resizing.Longer.{longer_shaped, longer_content, longer_root, longer_slots}
use Rattle.laws_resize.proofs.resizing.Shorter.{shorter_shaped, shorter_content, shorter_root_lem, shorter_slots}

-- no shorter than it was
pub resized_longer : (e : Edition) (len : ℕ) (free : List ℕ) (b : Blob) → length_of b ≤ len → resized e len free b ≡ longer e len free b
unfolding resized pick
resized_longer e len free b le = rw (le-leb (length_of b) len le)

-- or shorter
pub resized_shorter : (e : Edition) (len : ℕ) (free : List ℕ) (b : Blob) → len < length_of b → resized e len free b ≡ shorter e len b
unfolding resized pick
resized_shorter e len free b lt = rw (lt-leb (length_of b) len lt)

-- a claim by the two cases
by_resized : (P : Blob → Type 0) (e : Edition) (len : ℕ) (free : List ℕ) (b : Blob) → (length_of b ≤ len → P (longer e len free b))
    → (len < length_of b → P (shorter e len b)) → P (resized e len free b)
by_resized P e len free b more less = by (dec_le (length_of b) len)
  where
    by : Dec (length_of b ≤ len) → P (resized e len free b)
    by (yes p) = rw (resized_longer e len free b p) (more p)
    by (no p) = rw (resized_shorter e len free b (omega arith)) (less (omega arith))

module _ (e : Edition) (some : 1 ≤ e.leaf) (two : 2 ≤ e.fan) where
  -- a blob of no more blocks than the largest pool has slots is no higher than a root may be
  pub low_enough : (b : Blob) → Shaped e b → length (cells_of b) ≤ e.most → e.most ≤ e.fan ^ e.top → b.height ≤ e.top
  low_enough b s few room =
      rw (shaped_height e some two b s)
      (height_least e.fan (length (leaves_of b)) e.top two
      (omega (arith, total_ge e.fan (length (leaves_of b)) two, shaped_blocks e some two b s)))

  module _ (b : Blob) (s : Shaped e b) (len : ℕ) (free : List ℕ) where
    -- a resized blob has its shape
    pub resized_shaped : Shaped e (resized e len free b)
    resized_shaped =
        by_resized (Shaped e) e len free b (λ more. longer_shaped e some two b s len more free)
        (λ less. shorter_shaped e some two b s len (omega arith))

    -- its bytes are the old ones, cut or filled with zeros
    pub resized_padded : content_of (resized e len free b) ≡ padded len (content_of b)
    unfolding length_of
    resized_padded =
        by_resized (λ b'. content_of b' ≡ padded len (content_of b)) e len free b
        (λ more. longer_content e some two b s len more free ∙ sym (padded_is len (content_of b) ∙ rw (take_all len (content_of b) more)))
        (λ less.
        let z : len - length (content_of b) ≡ 0 = omega arith in
        shorter_content e some two b s len (omega arith) ∙ sym (padded_is len (content_of b) ∙ rw z (append-nil (take len (content_of b)))))

    -- that is, the front of the old ones and then zeros
    pub resized_content : content_of (resized e len free b) ≡ take len (content_of b) ++ replicate (len - length_of b) 0
    unfolding length_of
    resized_content = resized_padded ∙ padded_is len (content_of b)

    -- as many as was asked
    pub resized_length : length_of (resized e len free b) ≡ len
    unfolding length_of
    resized_length = ap length resized_padded ∙ padded_length len (content_of b)

    -- its root stays in its slot
    pub resized_root : root_of (resized e len free b) ≡ root_of b
    resized_root =
        by_resized (λ b'. root_of b' ≡ root_of b) e len free b (λ more. longer_root e some two b s len more free)
        (λ less. shorter_root_lem e b len)

    -- it has as many blocks as its new length needs
    pub resized_blocks : length (cells_of (resized e len free b)) ≡ total e.fan (leaves_for e.leaf len)
    resized_blocks =
        shaped_blocks e some two (resized e len free b) resized_shaped
        ∙ ap (total e.fan) (shaped_leaves e some two (resized e len free b) resized_shaped ∙ ap (leaves_for e.leaf) resized_length)

    -- if these are no more than the largest pool has slots, it is no higher than a root may be
    pub resized_low : total e.fan (leaves_for e.leaf len) ≤ e.most → e.most ≤ e.fan ^ e.top → (resized e len free b).height ≤ e.top
    resized_low few room = low_enough (resized e len free b) resized_shaped (rw resized_blocks few) room

    module _ (N : ℕ) (P R : List ℕ) where
      -- a blob that does not grow needs no new block
      pub none_new : len ≤ length_of b → new_blocks e N P R len b ≡ 0
      unfolding new_blocks
      none_new less =
          let fewer = leaves_mono e.leaf len (length_of b) some less in
          omega (
            arith,
            total_mono e.fan (leaves_for e.leaf len) (leaves_for e.leaf (length_of b)) two fewer,
            ap (total e.fan) (shaped_leaves e some two b s),
          )

      -- a blob that does not shrink has its old slots and the first new_blocks free ones
      pub resized_taken : length_of b ≤ len → new_blocks e N P R len b ≤ length free → (x : ℕ)
          → times x (slots_of (resized e len free b)) ≡ times x (slots_of b) + times x (take (new_blocks e N P R len b) free)
      unfolding new_blocks
      resized_taken more enough x = rw (resized_longer e len free b more) (longer_slots e some two b s len more free enough x)

      -- one that shrinks has no slot but these
      pub resized_slots : new_blocks e N P R len b ≤ length free → (x : ℕ)
          → times x (slots_of (resized e len free b)) ≤ times x (slots_of b) + times x (take (new_blocks e N P R len b) free)
      resized_slots enough x = by (dec_le (length_of b) len)
        where
          by : Dec (length_of b ≤ len)
              → times x (slots_of (resized e len free b)) ≤ times x (slots_of b) + times x (take (new_blocks e N P R len b) free)
          by (yes more) = omega (arith, resized_taken more enough x)
          by (no less) = rw (resized_shorter e len free b (omega arith)) (omega (arith, shorter_slots e b len x))

      -- so each of its slots is an old one or one of the first new_blocks free ones
      pub resized_from : new_blocks e N P R len b ≤ length free → (x : ℕ) → Memᴰ x (slots_of (resized e len free b))
          → Memᴰ x (slots_of b) ⊎ Memᴰ x (take (new_blocks e N P R len b) free)
      resized_from enough x m =
          let l = slots_of b in
          let f = take (new_blocks e N P R len b) free in
          Memᴰ.append_cases l (times_member x (l ++ f) (omega (arith, member_times x m, resized_slots enough x, times_append x l f)))
