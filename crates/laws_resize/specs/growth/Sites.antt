-- Where a block stands in its tree: its height, and the number of its first leaf. A change of a blob, seen slot by slot, is a rule that says what
-- a block becomes by where it stood and what it held.
use Rattle.std.specs.Prelude.{◌≡◌, List, [], ◌∷◌, ◌++◌, map, ℕ, zero, suc, ◌+◌, eqb, length}
use Rattle.meaning.specs.Lists.{pick}
use Rattle.meaning.specs.Bytes.{Cell}
use Rattle.meaning.specs.Tree.{Tree, Blob, slot_of, leaves, Held, nothing, just}

-- where a block stands, and what it holds
pub record Site : Type 0 where
  pub height : ℕ
  pub first : ℕ
  pub items : List ℕ

-- the lists that f makes of the elements, each told how many leaves lie before it
unfoldable pub counting : {A B : Type 0} → (A → ℕ) → (ℕ → A → List B) → ℕ → List A → List B
counting count f i [] = []
counting count f i (x ∷ xs) = f i x ++ counting count f (i + count x) xs

-- each block of a tree whose first leaf has number i, in walk order, with where it stands
unfoldable pub sites : (h i : ℕ) → Tree h → List (ℕ × Site)
sites zero i t = (t.0, record { height = 0; first = i; items = t.1 }) ∷ []
sites (suc h) i t =
    (t.0, record { height = suc h; first = i; items = map (slot_of h) t.1 }) ∷ counting (λ x. length (leaves h x)) (sites h) i t.1

unfoldable pub sites_of : Blob → List (ℕ × Site)
sites_of b = sites b.height 0 b.tree

-- what the top of a tree holds: a leaf's bytes, or its children's slots
unfoldable pub top_row : (h : ℕ) → Tree h → List ℕ
top_row zero t = t.1
top_row (suc h) t = map (slot_of h) t.1

unfoldable pub root_row : Blob → List ℕ
root_row b = top_row b.height b.tree

-- where the block of a slot stands
pub data Sited : Type 0 where
  absent : Sited
  at : Site → Sited

unfoldable pub sited : List (ℕ × Site) → ℕ → Sited
sited [] s = absent
sited (x ∷ xs) s = pick (eqb x.0 s) (at x.1) (sited xs s)

-- what a rule makes of such blocks, and of one of them
unfoldable pub entry : ℕ → Held → List (ℕ × Cell) → List (ℕ × Cell)
entry s nothing cs = cs
entry s (just c) cs = (s, c) ∷ cs

unfoldable pub ruled : (Site → Held) → List (ℕ × Site) → List (ℕ × Cell)
ruled f [] = []
ruled f (x ∷ xs) = entry x.0 (f x.1) (ruled f xs)

unfoldable pub held_by : (Site → Held) → Sited → Held
held_by f absent = nothing
held_by f (at x) = f x

-- the rule that leaves all as it is
unfoldable pub same : Site → Held
same x = just (record { height = x.height; items = x.items })

-- no slot twice
abbrev pub Lacks : List ℕ → ℕ → Type 0
Lacks [] s = Unit {0}
Lacks (x ∷ xs) s = (x ≡ s → ⊥) × Lacks xs s

abbrev pub Once : List ℕ → Type 0
Once [] = Unit {0}
Once (x ∷ xs) = Lacks xs x × Once xs
