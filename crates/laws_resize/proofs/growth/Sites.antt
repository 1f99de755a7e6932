-- Rules on sites: a list that a rule makes of a tree's sites has, in each slot, what the rule makes of that slot's site, for no slot stands twice.
use mathlib.Core.Path.{◌≡◌, refl, sym, ap, ap₂, ◌∙◌}
use mathlib.Core.Bool.{true, false}
use mathlib.Core.List.{List, [], ◌∷◌, ◌++◌, map}
use Prim.Native.Nat.{ℕ, zero, suc, ◌+◌}
use native.Mathlib.Omega.{arith}
use lib.Dec.{eqb}
use lib.ListN.{length}
use borrow.Author.Tests.{eqb-true, eqb-false, ne_eqb}
use Rattle.meaning.specs.Lists.{pick, joined}
use Rattle.meaning.specs.Bytes.{Cell}
use Rattle.meaning.specs.Tree.{Tree, Blob, slot_of, leaves, cells, cells_of, slots_of, Held, nothing, just, held}
use Rattle.laws_resize.specs.growth.Sites.{Site, counting, sites, sites_of, sited, entry, ruled, held_by, same, Lacks, Once}
use Rattle.laws.proofs.Inversions.{by_test}

-- a rule on sites side by side
pub ruled_append : (f : Site → Held) (xs ys : List (ℕ × Site)) → ruled f (xs ++ ys) ≡ ruled f xs ++ ruled f ys
unfolding ruled entry
ruled_append f [] ys = refl
ruled_append f (x ∷ xs) ys = ap (entry x.0 (f x.1)) (ruled_append f xs ys) ∙ entry_append (f x.1)
  where
    entry_append : (v : Held) → entry x.0 v (ruled f xs ++ ruled f ys) ≡ entry x.0 v (ruled f xs) ++ ruled f ys
    entry_append nothing = refl
    entry_append (just c) = refl

-- no site of such slots is in slot s
lacks_ruled : (f : Site → Held) (xs : List (ℕ × Site)) (s : ℕ) → Lacks (map (λ x. x.0) xs) s → held (ruled f xs) s ≡ nothing
unfolding ruled held entry pick
lacks_ruled f [] s n = refl
lacks_ruled f (x ∷ xs) s n = go (f x.1) (lacks_ruled f xs s n.1)
  where
    go : (v : Held) → held (ruled f xs) s ≡ nothing → held (entry x.0 v (ruled f xs)) s ≡ nothing
    go nothing rest = rest
    go (just c) rest = rw (ne_eqb x.0 s n.0) rest

-- what a slot holds by a rule is what the rule makes of its site
pub held_ruled : (f : Site → Held) (xs : List (ℕ × Site)) (s : ℕ) → Once (map (λ x. x.0) xs) → held (ruled f xs) s ≡ held_by f (sited xs s)
unfolding ruled held sited held_by entry pick
held_ruled f [] s n = refl
held_ruled f (x ∷ xs) s n =
    by_test (eqb x.0 s) (λ t. rw t (here t (f x.1))) (λ t. rw t (later t (f x.1) ∙ held_ruled f xs s n.1))
  where
    here : eqb x.0 s ≡ true → (v : Held) → held (entry x.0 v (ruled f xs)) s ≡ v
    here t nothing = lacks_ruled f xs s (rw (eqb-true x.0 s t) at n.0)
    here t (just c) = rw t

    later : eqb x.0 s ≡ false → (v : Held) → held (entry x.0 v (ruled f xs)) s ≡ held (ruled f xs) s
    later t nothing = refl
    later t (just c) = rw t

-- as they are, the sites are the cells
same_row : (h : ℕ) → ((i : ℕ) (t : Tree h) → ruled same (sites h i t) ≡ cells h t) → (i : ℕ) (ts : List (Tree h))
    → ruled same (counting (λ x. length (leaves h x)) (sites h) i ts) ≡ joined (map (cells h) ts)
unfolding counting ruled joined
same_row h each i [] = refl
same_row h each i (t ∷ ts) =
    ruled_append same (sites h i t) _ ∙ ap₂ ◌++◌ (each i t) (same_row h each (i + length (leaves h t)) ts)

-- and so of a tree
pub same_sites : (h i : ℕ) (t : Tree h) → ruled same (sites h i t) ≡ cells h t
unfolding sites ruled same entry cells
same_sites zero i t = refl
same_sites (suc h) i t = ap (◌∷◌ (t.0, record { height = suc h; items = map (slot_of h) t.1 })) (same_row h (same_sites h) i t.1)

-- the slots of a rule that makes nothing of no site are those of the sites
same_slots : (xs : List (ℕ × Site)) → map (λ c. c.0) (ruled same xs) ≡ map (λ x. x.0) xs
unfolding ruled same entry
same_slots [] = refl
same_slots (x ∷ xs) = ap (◌∷◌ x.0) (same_slots xs)

-- the sites of a blob are in its slots
pub site_slots : (b : Blob) → map (λ x. x.0) (sites_of b) ≡ slots_of b
unfolding sites_of slots_of cells_of
site_slots b = sym (same_slots (sites_of b)) ∙ ap (map (λ c. c.0)) (same_sites b.height 0 b.tree)

-- a blob's slot holds what its site says
pub held_site : (b : Blob) (s : ℕ) → Once (slots_of b) → held (cells_of b) s ≡ held_by same (sited (sites_of b) s)
unfolding sites_of cells_of
held_site b s once =
    ap (λ (cs : List (ℕ × Cell)). held cs s) (sym (same_sites b.height 0 b.tree))
    ∙ held_ruled same (sites_of b) s (rw (site_slots b) once)

-- what a list of blocks holds nothing of is a matter of its slots alone
pub lacks_held : (s : ℕ) (cs : List (ℕ × Cell)) → Lacks (map (λ c. c.0) cs) s → held cs s ≡ nothing
unfolding held pick
lacks_held s [] n = refl
lacks_held s (c ∷ cs) n = rw (ne_eqb c.0 s n.0) (lacks_held s cs n.1)

pub held_lacks : (s : ℕ) (cs : List (ℕ × Cell)) → held cs s ≡ nothing → Lacks (map (λ c. c.0) cs) s
unfolding held pick
held_lacks s [] q = tt
held_lacks s (c ∷ cs) q =
    by_test (eqb c.0 s)
    (λ t. let z : ◌≡◌ {A = ℕ} 0 1 = cc in absurd (omega arith))
    (λ t. (eqb-false c.0 s t, held_lacks s cs (rw t at q)))
