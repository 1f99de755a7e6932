-- What the code's walk says of the tree that the definition's walk finds: its bytes, its leaves, and the row of leaf slots.
use Rattle.std.specs.Prelude.{◌≡◌, Bool, List, [], ◌∷◌, map, ℕ, ◌+◌, ◌*◌, ◌≤◌, ◌<◌, eqb, length, set, Err, Ok, Result}
use Rattle.meaning.specs.Lists.{both, joined}
use Rattle.meaning.specs.Tree.{Tree, Blob, content, leaves}
use Rattle.meaning.specs.Walk.{Found, fault, fine, visit_row, visit, from_root}
use Rattle.meaning.specs.declared.Edition.{Edition}
use Rattle.meaning.specs.declared.Role.{Role}
use Rattle.meaning.specs.declared.Role.TheVariants.{Root, Child}
use Rattle.meaning.specs.declared.Refusal.{Refusal}
use Rattle.laws.proofs.Marks.{marks}
use Rattle.check_blob.specs.visit.{Sized, Within}

-- bytes and leaves so far, and the row in which leaf slots are noted
pub record Noted : Type 0 where
  pub bytes : ℕ
  pub leaves : ℕ
  pub row : List ℕ

-- what a walk answers: the bytes and the leaves so far, or its first fault
abbrev pub Walked : Type 0
Walked = Result (ℕ × ℕ) Refusal

-- the code's answer with the flags and the row that it leaves; at a fault those say nothing
unfoldable pub met : Walked → (seen row : List ℕ) → Found Noted
met (Err r) seen o = fault r
met (Ok (b, k)) seen o = fine (record { bytes = b; leaves = k; row = o }) seen

-- f of what was found
unfoldable pub map_found : {A B : Type 0} → (A → B) → Found A → Found B
map_found f (fault r) = fault r
map_found f (fine a seen) = fine (f a) seen

-- these in place of what stands from at on, as far as there are places
unfoldable pub put_all : (l : List ℕ) → (at : ℕ) → List ℕ → List ℕ
put_all l at [] = l
put_all l at (x ∷ xs) = put_all (set l at x) (at + 1) xs

-- these leaves, of so many bytes, noted after b bytes and k leaves
unfoldable pub note_leaves : (b k : ℕ) → (o : List ℕ) → (bytes : ℕ) → List (ℕ × List ℕ) → Noted
note_leaves b k o bytes ls =
    record { bytes = b + bytes; leaves = k + length ls; row = put_all o k (map (λ l. l.0) ls) }

unfoldable pub note_tree : (h b k : ℕ) → (o : List ℕ) → Tree h → Noted
note_tree h b k o t = note_leaves b k o (length (content h t)) (leaves h t)

unfoldable pub note_row : (h b k : ℕ) → (o : List ℕ) → List (Tree h) → Noted
note_row h b k o ts = note_leaves b k o (length (joined (map (content h) ts))) (joined (map (leaves h) ts))

unfoldable pub note_blob : (o : List ℕ) → Blob → Noted
note_blob o b = note_tree b.height 0 0 o b.tree

module _ (e : Edition) (N : ℕ) (P R : List ℕ) where
  unfoldable pub note : (h : ℕ) → Role → (edge : Bool) → (seen : List ℕ) → (s b k : ℕ) → (o : List ℕ) → Found Noted
  note h role edge seen s b k o = map_found (note_tree h b k o) (visit e N P R h role edge seen s)

  unfoldable pub notes : (w p : ℕ) → (edge : Bool) → (cs seen : List ℕ) → (b k : ℕ) → (o : List ℕ) → Found Noted
  notes w p edge cs seen b k o = map_found (note_row w b k o) (visit_row e N P R (visit e N P R w) p edge cs seen)

  unfoldable pub note_root : (seen : List ℕ) → (s : ℕ) → (o : List ℕ) → Found Noted
  note_root seen s o = map_found (note_blob o) (from_root e N P R seen s)

-- whether a child is on the right edge, of those that are left
unfoldable pub last_of : (edge : Bool) → (left : ℕ) → Bool
last_of edge left = both edge (eqb left 1)

-- no more leaves than slots visited, and at most 255 bytes a leaf: what keeps the code's sums small
pub record Counted (b k : ℕ) (seen : List ℕ) : Type 0 where
  pub leaves : k ≤ marks seen
  pub bytes : b ≤ 255 * k

unfoldable pub Small : Walked → List ℕ → Type 0
Small (Err r) seen = Unit {0}
Small (Ok (b, k)) seen = Counted b k seen

-- the walk from a root starts with no leaf
unfoldable pub Fresh : Role → (k : ℕ) → Type 0
Fresh Root k = k ≡ 0
Fresh (Child p) k = Unit {0}

pub record BlockStart (e : Edition) (n : ℕ) (P R seen : List ℕ) (role : Role) (s b k : ℕ) : Type 0 where
  pub sized : Sized e n P R seen
  pub few : n ≤ e.most
  pub within : Within n role s
  pub counted : Counted b k seen
  pub fresh : Fresh role k

pub record RowStart (e : Edition) (n : ℕ) (P R seen : List ℕ) (parent from left b k : ℕ) : Type 0 where
  pub sized : Sized e n P R seen
  pub few : n ≤ e.most
  pub inside : parent < n
  pub room : from + left ≤ e.fan
  pub counted : Counted b k seen
