-- Bytes and back. A written block is a header of sixteen bytes, the row's bytes and zeros: each field is read from where it was
-- written, so the block passes checks 2 and 3 and gives its cell. The other way round, those two checks leave no byte open: where
-- header and payload fill a block, one that passes is the written block of the cell that it gives. Records likewise.
use Rattle.std.specs.Prelude.{Some, Ok}
use Rattle.meaning.specs.declared.Reason.TheVariants.{Spoiled}
use mathlib.Core.Path.{◌≡◌, refl, ap, ap₂, ◌∙◌, sym}
use mathlib.Core.Bool.{Bool, true}
use mathlib.Core.List.{List, [], ◌∷◌, ◌++◌, map, append_assoc}
use Prim.Native.Nat.{ℕ, zero, suc, ◌+◌, ◌-◌, ◌*◌, ◌^◌, ◌≤◌, ◌<◌}
use native.Mathlib.Omega.{arith}
use lib.ListN.{length, get_or, take, drop, replicate, length-append, length-take, length-drop, length-replicate, take-append-drop, get_or-replicate}
use lib.Seq.{take_all, take_at, drop_at, take-add, drop-drop, drop-cons, take-append-add, take-append_seam, length-take-le, get_or-take, get_or-drop}
use Rattle.meaning.specs.declared.Edition.{Edition}
use Rattle.meaning.specs.Lists.{pick, part, joined, number, bytes, padded, fours, zeros, same_list}
use Rattle.meaning.specs.Edition.{Proper}
use Rattle.meaning.specs.Bytes.{Cell, item_bytes, header, block_bytes, encoded, height_of, count_of, own_slot, version_of, data_of, children_of}
use Rattle.meaning.specs.Bytes.{record_with, record_of, state_of, recorded_of, record_at, state, recorded, sound_record}
use Rattle.meaning.specs.Shape.{least_count, most_count}
use Rattle.meaning.specs.Refusals.{at}
use Rattle.meaning.specs.Walk.{flaw, used, block_check}
use Rattle.laws.proofs.Numbers.{part_length, part_front, bytes_length, number_bytes, bytes_number}
use Rattle.laws.proofs.Checks.{used_fits}
use Rattle.laws.proofs.Inversions.{by_test, same_list_lem, same_self, zeros_list, list_zeros, passed_sound, sound_passed, sound_record_lem, record_sound}

-- the front of a list of zeros
take_zeros : (j k : ℕ) → j ≤ k → take {A = ℕ} j (replicate k 0) ≡ replicate j 0
take_zeros zero k h = refl
take_zeros (suc j) zero h = absurd (omega arith)
take_zeros (suc j) (suc k) h = ap {B = List ℕ} (λ l. 0 ∷ l) (take_zeros j k (omega arith))

-- what is padded to n is n long
pub padded_length : (n : ℕ) (l : List ℕ) → length (padded n l) ≡ n
unfolding padded
padded_length n l = simp (length-take, length-append, length-replicate) (omega arith)

-- a list that fits is padded with zeros behind it
pub padded_fits : (n : ℕ) (l : List ℕ) → length l ≤ n → padded n l ≡ l ++ replicate (n - length l) 0
unfolding padded
padded_fits n l h =
    let k : length l + (n - length l) ≡ n = omega arith in
    ap (λ (m : ℕ). take m (l ++ replicate n 0)) (sym k) ∙ take-append-add l (replicate n 0) (n - length l)
    ∙ ap (λ (x : List ℕ). l ++ x) (take_zeros (n - length l) n (omega arith))

-- a written block has its edition's size
pub encoded_length : (e : Edition) (c : Cell) (s v : ℕ) → length (encoded e c s v) ≡ e.size
unfolding encoded block_bytes
encoded_length e c s v = padded_length e.size _

-- a header is sixteen bytes
pub header_length : (e : Edition) (h n s v : ℕ) → length e.mark ≡ 2 → length (header e h n s v) ≡ 16
unfolding header
header_length e h n s v m = simp (length-append, bytes_length, m)

-- slot numbers have four bytes each
pub fours_length : (row : List ℕ) → length (joined (map (bytes 4) row)) ≡ 4 * length row
unfolding joined
fours_length [] = refl
fours_length (x ∷ row) = simp (length-append, bytes_length) (omega (arith, fours_length row))

-- a row's bytes are as many as its payload uses
pub item_length : (h : ℕ) (row : List ℕ) → length (item_bytes h row) ≡ used h (length row)
unfolding item_bytes used
item_length zero row = refl
item_length (suc h) row = fours_length row

-- a leaf's row is written as it is
pub row_leaf : (h : ℕ) (row : List ℕ) → h ≡ 0 → item_bytes h row ≡ row
unfolding item_bytes
row_leaf h row z = rw z

-- an inner block's row is written as slot numbers of four bytes each
pub row_inner : (h : ℕ) (row : List ℕ) → (h ≡ 0 → ⊥) → item_bytes h row ≡ joined (map (bytes 4) row)
unfolding item_bytes
row_inner zero row n = absurd (n refl)
row_inner (suc h) row n = refl

-- slot numbers of four bytes each are read back
pub fours_read : (row rest : List ℕ) → ((i : ℕ) → get_or row i 0 < 2 ^ 32) → fours (length row) (joined (map (bytes 4) row) ++ rest) ≡ row
unfolding fours joined
fours_read [] rest h = refl
fours_read (x ∷ row) rest h =
    rw (append_assoc (bytes 4 x) (joined (map (bytes 4) row)) rest)
    (ap₂ {C = List ℕ} (λ y ys. y ∷ ys)
    (ap number (take_at (bytes 4 x) _ 4 (bytes_length 4 x)) ∙ number_bytes 4 x (h 0))
    (ap (fours (length row)) (drop_at (bytes 4 x) _ 4 (bytes_length 4 x)) ∙ fours_read row rest (λ i. h (suc i))))

-- the elements of a front are below what all are below
pub take_small : (n : ℕ) (l : List ℕ) {m : ℕ} → ((i : ℕ) → get_or l i 0 < m) → (i : ℕ) → get_or (take n l) i 0 < m
take_small zero l h i = omega (arith, h 0)
take_small (suc n) [] h i = h i
take_small (suc n) (x ∷ l) h zero = h 0
take_small (suc n) (x ∷ l) h (suc i) = take_small n l (λ j. h (suc j)) i

-- so are those of a rest
pub drop_small : (n : ℕ) (l : List ℕ) {m : ℕ} → ((i : ℕ) → get_or l i 0 < m) → (i : ℕ) → get_or (drop n l) i 0 < m
drop_small n l h i = rw get_or-drop (h (n + i))

-- so are those of a part
pub part_small : (at n : ℕ) (l : List ℕ) {m : ℕ} → ((i : ℕ) → get_or l i 0 < m) → (i : ℕ) → get_or (part at n l) i 0 < m
unfolding part
part_small at n l h = take_small n (drop at l) (drop_small at l h)

-- bytes below 256 whose number is n are n's lowest bytes
pub bytes_of : (k n : ℕ) (l : List ℕ) → length l ≡ k → number l ≡ n → ((i : ℕ) → get_or l i 0 < 256) → bytes k n ≡ l
bytes_of k n l long is h = rw (← long, ← is) (bytes_number l h)

-- what was read as slot numbers of four bytes each is written back
pub fours_written : (n : ℕ) (l : List ℕ) → 4 * n ≤ length l → ((i : ℕ) → get_or l i 0 < 256) → joined (map (bytes 4) (fours n l)) ≡ take (4 * n) l
unfolding fours joined
fours_written zero l k h = refl
fours_written (suc n) l k h =
    let q : 4 * suc n ≡ 4 + 4 * n = omega arith in
    rw (q, take-add 4 (4 * n) l)
    (ap₂ ◌++◌ (bytes_of 4 (number (take 4 l)) (take 4 l) (length-take-le 4 l (omega arith)) refl (take_small 4 l h))
    (fours_written n (drop 4 l) (rw length-drop (omega arith)) (drop_small 4 l h)))

-- what stands in a list of bytes that begins with a header
record Fields (b m : List ℕ) (h n s v : ℕ) (rest : List ℕ) : Type 0 where
  mark : take 2 b ≡ m
  height : get_or b 2 0 ≡ h
  count : get_or b 3 0 ≡ n
  slot : part 4 4 b ≡ bytes 4 s
  version : part 8 8 b ≡ bytes 8 v
  after : drop 16 b ≡ rest

-- two mark bytes, height, count, slot and version, then the rest
headed_fields : (m : List ℕ) (h n s v : ℕ) (rest : List ℕ) → length m ≡ 2
    → Fields ((m ++ (h ∷ n ∷ (bytes 4 s ++ bytes 8 v))) ++ rest) m h n s v rest
unfolding bytes part
headed_fields [] h n s v rest e = absurd (omega arith)
headed_fields (a ∷ []) h n s v rest e = absurd (omega arith)
headed_fields (a ∷ b ∷ []) h n s v rest e = record { mark = refl; height = refl; count = refl; slot = refl; version = refl; after = refl }
headed_fields (a ∷ b ∷ c ∷ m) h n s v rest e = absurd (omega arith)

-- the zeros after a written row
abbrev padding : Edition → Cell → List ℕ
padding e c = replicate (e.size - (16 + length (item_bytes c.height c.items))) 0

-- a block whose cell fits the payload
module _ (e : Edition) (p : Proper e) (c : Cell) (s v : ℕ) (fits : length (item_bytes c.height c.items) ≤ e.leaf) where
  -- its bytes: header, the row's bytes, zeros
  pub encoded_bytes : encoded e c s v ≡ header e c.height (length c.items) s v ++ (item_bytes c.height c.items ++ padding e c)
  unfolding encoded block_bytes
  encoded_bytes =
      let k = header_length e c.height (length c.items) s v p.marked in
      let w : length (header e c.height (length c.items) s v ++ item_bytes c.height c.items) ≡ 16 + length (item_bytes c.height c.items) =
      simp (length-append, k) in
      padded_fits e.size _ (rw w (omega (arith, p.fits))) ∙ rw (w, append_assoc)

  -- its fields
  fields : Fields (encoded e c s v) e.mark c.height (length c.items) s v (item_bytes c.height c.items ++ padding e c)
  unfolding header
  fields = rw encoded_bytes (headed_fields e.mark c.height (length c.items) s v _ p.marked)

  -- its mark is the edition's
  pub mark_read : take 2 (encoded e c s v) ≡ e.mark
  mark_read = fields.mark

  -- its height is read back
  pub height_read : height_of (encoded e c s v) ≡ c.height
  unfolding height_of
  height_read = fields.height

  -- its count is read back
  pub count_read : count_of (encoded e c s v) ≡ length c.items
  unfolding count_of
  count_read = fields.count

  -- its own slot number is read back
  pub slot_read : s < 2 ^ 32 → own_slot (encoded e c s v) ≡ s
  unfolding own_slot
  slot_read h = ap number fields.slot ∙ number_bytes 4 s h

  -- its version is read back
  pub version_read : v < 2 ^ 64 → version_of (encoded e c s v) ≡ v
  unfolding version_of
  version_read h = ap number fields.version ∙ number_bytes 8 v h

  -- a leaf's data bytes are read back
  pub data_read : c.height ≡ 0 → data_of (encoded e c s v) ≡ c.items
  unfolding data_of part
  data_read z =
      ap₂ take count_read (fields.after ∙ ap (λ (l : List ℕ). l ++ padding e c) (row_leaf c.height c.items z))
      ∙ take-append_seam c.items (padding e c)

  -- an inner block's child slots are read back
  pub children_read : (c.height ≡ 0 → ⊥) → ((i : ℕ) → get_or c.items i 0 < 2 ^ 32) → children_of (encoded e c s v) ≡ c.items
  unfolding children_of
  children_read n small =
      ap₂ fours count_read (fields.after ∙ ap (λ (l : List ℕ). l ++ padding e c) (row_inner c.height c.items n))
      ∙ fours_read c.items (padding e c) small

  -- zeros follow the used payload
  pub rest_read : zeros (drop (16 + used c.height (length c.items)) (take (16 + e.leaf) (encoded e c s v))) ≡ true
  unfolding part
  rest_read =
      let u : ℕ = used c.height (length c.items) in
      let k : length (item_bytes c.height c.items) ≡ u = item_length c.height c.items in
      let w : 16 + u + (e.leaf - u) ≡ 16 + e.leaf = omega arith in
      let i : 16 + u ≤ length (encoded e c s v) = rw encoded_length (omega (arith, p.fits)) in
      let d : drop (16 + u) (encoded e c s v) ≡ padding e c =
      sym (drop-drop u 16 (encoded e c s v)) ∙ ap (drop u) fields.after ∙ drop_at (item_bytes c.height c.items) (padding e c) u k in
      let t : drop (16 + u) (take (16 + e.leaf) (encoded e c s v)) ≡ replicate (e.leaf - u) 0 =
      ap (λ (n : ℕ). drop (16 + u) (take n (encoded e c s v))) (sym w) ∙ part_front (16 + u) (e.leaf - u) (encoded e c s v) i
      ∙ ap (take (e.leaf - u)) d
      ∙ take_zeros (e.leaf - u) (e.size - (16 + length (item_bytes c.height c.items))) (omega (arith, p.fits)) in
      ap zeros t ∙ list_zeros (e.leaf - u)

-- a written block passes checks 2 and 3
pub written_passes : (e : Edition) → Proper e → (c : Cell) (h : ℕ) (root edge : Bool) (v s : ℕ) → c.height ≡ h
    → least_count e h edge root ≤ length c.items → length c.items ≤ most_count e h → s < 2 ^ 32 → v < 2 ^ 64
    → block_check e h root edge v s (encoded e c s v) ≡ Ok tt
written_passes e p c h root edge v s eh lo hi hs hv =
    let fits : length (item_bytes c.height c.items) ≤ e.leaf = rw (item_length c.height c.items, eh) (used_fits e p h (length c.items) hi) in
    let n = count_read e p c s v fits in
    sound_passed e h root edge v s (encoded e c s v) (record {
      mark = rw (mark_read e p c s v fits) (same_self e.mark);
      own = slot_read e p c s v fits hs;
      version = version_read e p c s v fits hv;
      height = height_read e p c s v fits ∙ eh;
      least = rw n lo;
      most = rw n hi;
      rest = rw (n, ← eh) (rest_read e p c s v fits);
    })

-- the row that a block gives, read as one of height h
unfoldable pub items_of : (h : ℕ) → List ℕ → List ℕ
items_of zero b = data_of b
items_of (suc h) b = children_of b

-- the cell that it gives
unfoldable pub cell_of : (h : ℕ) → List ℕ → Cell
cell_of h b = record { height = h; items = items_of h b }

-- a written cell is read back whole
pub cell_read : (e : Edition) → Proper e → (c : Cell) (s v : ℕ) → length (item_bytes c.height c.items) ≤ e.leaf
    → ((c.height ≡ 0 → ⊥) → (i : ℕ) → get_or c.items i 0 < 2 ^ 32) → cell_of c.height (encoded e c s v) ≡ c
unfolding cell_of items_of
cell_read e p c s v fits small = λ i. record { height = c.height; items = row_read i }
  where
    by_height : (h : ℕ) → c.height ≡ h → items_of h (encoded e c s v) ≡ c.items
    by_height zero q = data_read e p c s v fits q
    by_height (suc h) q = children_read e p c s v fits (omega arith) (small (omega arith))

    row_read : items_of c.height (encoded e c s v) ≡ c.items
    row_read = by_height c.height refl

-- past the first two bytes: the next two, then the rest
drop_two : (b : List ℕ) → 4 ≤ length b → drop 2 b ≡ get_or b 2 0 ∷ get_or b 3 0 ∷ drop 4 b
drop_two b h = drop-cons b 2 0 (omega arith) ∙ ap (λ (l : List ℕ). get_or b 2 0 ∷ l) (drop-cons b 3 0 (omega arith))

-- a block's first sixteen bytes, apart
front_sixteen : (b : List ℕ) → 16 ≤ length b → take 16 b ≡ take 2 b ++ (get_or b 2 0 ∷ get_or b 3 0 ∷ (part 4 4 b ++ part 8 8 b))
unfolding part
front_sixteen b h =
    let t : take 12 (drop 4 b) ≡ take 4 (drop 4 b) ++ take 8 (drop 8 b) = take-add 4 8 (drop 4 b) ∙ rw drop-drop in
    take-add 2 14 b ∙ ap (λ (l : List ℕ). take 2 b ++ take 14 l) (drop_two b (omega arith))
    ∙ ap (λ (l : List ℕ). take 2 b ++ (get_or b 2 0 ∷ get_or b 3 0 ∷ l)) t

-- as many slot numbers are read as were asked
read_length : (n : ℕ) (l : List ℕ) → length (fours n l) ≡ n
unfolding fours
read_length zero l = refl
read_length (suc n) l = ap suc (read_length n (drop 4 l))

-- a block's row
module _ (b : List ℕ) where
  -- has as many elements as its count says
  pub item_count : (h : ℕ) → 16 + used h (count_of b) ≤ length b → length (items_of h b) ≡ count_of b
  unfolding items_of used data_of children_of
  item_count zero k = part_length 16 (count_of b) b k
  item_count (suc h) k = read_length (count_of b) (drop 16 b)

  -- is written as the bytes that it was read from
  pub row_written : (h : ℕ) → 16 + used h (count_of b) ≤ length b → ((i : ℕ) → get_or b i 0 < 256)
      → item_bytes h (items_of h b) ≡ part 16 (used h (count_of b)) b
  unfolding items_of item_bytes used data_of children_of part
  row_written zero k small = refl
  row_written (suc h) k small = fours_written (count_of b) (drop 16 b) (rw length-drop (omega arith)) (drop_small 16 b small)

-- where header and payload fill a block, one of bytes that passes checks 2 and 3 is the written block of its cell
pub passed_encoded : (e : Edition) → Proper e → e.size ≡ 16 + e.leaf → (h : ℕ) (root edge : Bool) (v s : ℕ) (b : List ℕ) → length b ≡ e.size
    → ((i : ℕ) → get_or b i 0 < 256) → block_check e h root edge v s b ≡ Ok tt → b ≡ encoded e (cell_of h b) s v
unfolding cell_of header height_of count_of own_slot version_of part
passed_encoded e p whole h root edge v s b long small passed =
    let f = passed_sound e h root edge v s b passed in
    let u : ℕ = used h (count_of b) in
    let i : u ≤ e.leaf = used_fits e p h (count_of b) f.most in
    let n : length (items_of h b) ≡ count_of b = item_count b h (omega arith) in
    let r : item_bytes h (items_of h b) ≡ part 16 u b = row_written b h (omega arith) small in
    let k : length (item_bytes h (items_of h b)) ≡ u = ap length r ∙ part_length 16 u b (omega arith) in
    let z : drop u (drop 16 b) ≡ replicate (length (drop u (drop 16 b))) 0 =
    zeros_list (drop u (drop 16 b)) (rw (drop-drop u 16 b) (rw (take_all (16 + e.leaf) b (omega arith)) at f.rest)) in
    let w : length (drop u (drop 16 b)) ≡ e.size - (16 + length (item_bytes h (items_of h b))) = simp length-drop (omega arith) in
    let after : drop 16 b ≡ item_bytes h (items_of h b) ++ padding e (cell_of h b) =
    sym (take-append-drop u (drop 16 b)) ∙ ap₂ ◌++◌ (sym r) (z ∙ ap (λ (m : ℕ). replicate m 0) w) in
    let mark : take 2 b ≡ e.mark = same_list_lem (take 2 b) e.mark f.mark in
    let slot : part 4 4 b ≡ bytes 4 s = sym (bytes_of 4 s (part 4 4 b) (part_length 4 4 b (omega arith)) f.own (part_small 4 4 b small)) in
    let version : part 8 8 b ≡ bytes 8 v = sym (bytes_of 8 v (part 8 8 b) (part_length 8 8 b (omega arith)) f.version (part_small 8 8 b small)) in
    let front : take 16 b ≡ header e h (length (items_of h b)) s v =
    front_sixteen b (omega arith) ∙ (λ j. mark j ++ (f.height j ∷ sym n j ∷ (slot j ++ version j))) in
    sym (take-append-drop 16 b) ∙ ap₂ ◌++◌ front after ∙ sym (encoded_bytes e p (cell_of h b) s v (omega arith))

-- a block of zeros has another mark than any edition's
pub blank_flaw : (e : Edition) → Proper e → (v s : ℕ) → flaw e v s (replicate e.size 0) ≡ Some Spoiled
unfolding flaw pick
blank_flaw e p v s =
    let b : List ℕ = replicate e.size 0 in
    let first : get_or (take 2 b) 0 0 ≡ 0 = get_or-take 2 b 0 0 (omega arith) ∙ get_or-replicate e.size 0 0 0 (omega (arith, p.fits)) in
    by_test (same_list (take 2 b) e.mark)
    (λ t. absurd (omega (arith, p.solid, ap (λ (l : List ℕ). get_or l 0 0) (same_list_lem (take 2 b) e.mark t))))
    (λ t. simp t)

-- a written record is twelve bytes
pub record_length : (st v : ℕ) → length (record_of st v) ≡ 12
unfolding record_of record_with
record_length st v = simp bytes_length

-- its state is read back
pub state_read : (st v : ℕ) → state_of (record_of st v) ≡ st
unfolding state_of record_of record_with
state_read st v = refl

-- its version is read back
pub recorded_read : (st v : ℕ) → v < 2 ^ 64 → recorded_of (record_of st v) ≡ v
unfolding recorded_of record_of record_with part
recorded_read st v h = ap number (take_all 8 (bytes 8 v) (omega (arith, bytes_length 8 v))) ∙ number_bytes 8 v h

-- it keeps its layout if the state is one of the three, and the version of a live one is at least 1
pub record_kept : (st v : ℕ) → st ≤ 2 → v < 2 ^ 64 → ((st ≡ 0 → ⊥) → 1 ≤ v) → sound_record (record_of st v) ≡ true
unfolding record_of record_with
record_kept st v h k live =
    record_sound (record_of st v) (record {
      mark = refl;
      state = rw (state_read st v) h;
      fourth = refl;
      live = λ n. rw (recorded_read st v k) (live (rw (state_read st v) at n));
    })

-- twelve bytes that keep a record's layout are the record of their state and version
pub record_back : (r : List ℕ) → length r ≡ 12 → ((i : ℕ) → get_or r i 0 < 256) → sound_record r ≡ true → r ≡ record_of (state_of r) (recorded_of r)
unfolding record_of record_with state_of recorded_of part
record_back r long small sound =
    let f = sound_record_lem r sound in
    let n : length (drop 4 r) ≡ 8 = length-drop 4 r ∙ omega arith in
    let w : drop 4 r ≡ bytes 8 (number (take 8 (drop 4 r))) =
    sym (bytes_of 8 (number (take 8 (drop 4 r))) (drop 4 r) n (ap number (sym (take_all 8 (drop 4 r) (omega arith)))) (drop_small 4 r small)) in
    sym (take-append-drop 2 r) ∙ ap (λ (l : List ℕ). take 2 r ++ l) (drop_two r (omega arith))
    ∙ (λ i. f.mark i ++ (get_or r 2 0 ∷ f.fourth i ∷ w i))

-- a slot's state and version, from its record
module _ (R : List ℕ) (s : ℕ) (line : List ℕ) (el : line ≡ record_at R s) where
  pub state_is : (st : ℕ) → st ≡ state_of line → st ≡ state R s
  unfolding state
  state_is st es = es ∙ ap state_of el

  pub version_is : (v : ℕ) → v ≡ recorded_of line → v ≡ recorded R s
  unfolding recorded
  version_is v ev = ev ∙ ap recorded_of el

-- the state of a written record
pub state_of_lem : (R : List ℕ) (x st v : ℕ) → record_at R x ≡ record_of st v → state R x ≡ st
unfolding state
state_of_lem R x st v p = rw p (state_read st v)

-- its version
pub recorded_of_lem : (R : List ℕ) (x st v : ℕ) → record_at R x ≡ record_of st v → v < 2 ^ 64 → recorded R x ≡ v
unfolding recorded
recorded_of_lem R x st v p h = rw p (recorded_read st v h)

-- a sound record's state is one of the three
pub state_known : (R : List ℕ) (x : ℕ) → sound_record (record_at R x) ≡ true → state R x ≤ 2
unfolding state
state_known R x s = (sound_record_lem (record_at R x) s).state
