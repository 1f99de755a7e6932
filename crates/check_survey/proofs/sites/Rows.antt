-- What the two rows say once a blob's sites are noted in them: no slot stands twice, so each place says where its own block stands.
use mathlib.Core.Path.{◌≡◌, refl, ap, ap₂, ◌∙◌, sym, subst}
use mathlib.Core.List.{List, [], ◌∷◌, map}
use Prim.Native.Nat.{ℕ, zero, suc, ◌+◌, ◌-◌, ◌*◌, ◌<◌}
use native.Mathlib.Omega.{arith}
use borrow.Author.Tests.{eqb-true, eqb-false, ne_eqb}
use lib.Dec.{eqb}
use lib.ListN.{length, get_or, set, replicate, length-set, length-replicate}
use lib.Seq.{get_or-set_same, get_or-set_other}
use Rattle.meaning.specs.declared.Edition.{Edition}
use Rattle.meaning.specs.Lists.{pick}
use Rattle.meaning.specs.Edition.{Proper}
use Rattle.meaning.specs.Bytes.{block, height_of, count_of, children_of}
use Rattle.meaning.specs.Tree.{slot_of, leaves, slots_of}
use Rattle.laws.proofs.Inversions.{by_test}
use Rattle.laws.proofs.Codec.{items_of, item_count}
use Rattle.laws.proofs.Walked.{block_room}
use Rattle.laws.proofs.Every.{Every, every_append}
use Rattle.laws_resize.specs.growth.Sites.{Site, counting, sites, sites_of, Sited, absent, at, sited, Lacks, Once}
use Rattle.laws_resize.proofs.growth.Sites.{site_slots}
use Rattle.check_survey.specs.sites.Spelt.{Fit, tree_at, blob_at, Inside, site_at}
use Rattle.check_survey.specs.sites.Marks.{puts, tall, begin, Marked}
use Rattle.check_survey.specs.sites.Known.{Sites}

-- what f says of where a block stands, and d where it is no block of the blob
unfoldable said : (Site → ℕ) → ℕ → Sited → ℕ
said f d absent = d
said f d (at x) = f x

-- a slot that such sites lack
lacks_sited : (xs : List (ℕ × Site)) (s : ℕ) → Lacks (map (λ x. x.0) xs) s → sited xs s ≡ absent
unfolding sited pick
lacks_sited [] s n = refl
lacks_sited (x ∷ xs) s n = rw (ne_eqb x.0 s n.0) (lacks_sited xs s n.1)

pub puts_length : (f : Site → ℕ) (xs : List (ℕ × Site)) (l : List ℕ) → length (puts f xs l) ≡ length l
unfolding puts
puts_length f [] l = refl
puts_length f (x ∷ xs) l = puts_length f xs (set l x.0 (f x.1)) ∙ length-set l x.0 (f x.1)

-- each place says what f says of its site
puts_said : (f : Site → ℕ) (xs : List (ℕ × Site)) (l : List ℕ) (s : ℕ) → Once (map (λ x. x.0) xs) → Every (λ x. x.0 < length l) xs
    → get_or (puts f xs l) s 0 ≡ said f (get_or l s 0) (sited xs s)
unfolding puts sited pick said
puts_said f [] l s once low = refl
puts_said f (x ∷ xs) l s once low =
    let rest = puts_said f xs (set l x.0 (f x.1)) s once.1 (lower xs low.1) in
    by_test (eqb x.0 s)
    (λ t.
    let q : x.0 ≡ s = eqb-true x.0 s t in
    let out : sited xs s ≡ absent = lacks_sited xs s (rw q at once.0) in
    let here : get_or (set l x.0 (f x.1)) s 0 ≡ f x.1 = rw (← q) (get_or-set_same l x.0 (f x.1) 0 low.0) in
    rw t (rest ∙ ap (said f (get_or (set l x.0 (f x.1)) s 0)) out ∙ here))
    (λ t.
    let other : s ≡ x.0 → ⊥ = λ q. eqb-false x.0 s t (sym q) in
    rw t (rest ∙ ap (λ (d : ℕ). said f d (sited xs s)) (get_or-set_other l x.0 s (f x.1) 0 other)))
  where
    lower : (ys : List (ℕ × Site)) → Every (λ y. y.0 < length l) ys → Every (λ y. y.0 < length (set l x.0 (f x.1))) ys
    lower [] h = tt
    lower (y ∷ ys) h = (rw length-set h.0, lower ys h.1)

-- what lies in the slot of a site of a spelt tree
pub record Here (e : Edition) (n : ℕ) (P : List ℕ) (s : ℕ) (x : Site) : Type 0 where
  pub fit : Fit e n P x.height s
  pub items : x.items ≡ items_of x.height (block e P s)

-- a site that is found has what each has
every_sited : (Q : ℕ → Site → Type 0) (xs : List (ℕ × Site)) (s : ℕ) (x : Site) → Every (λ y. Q y.0 y.1) xs → sited xs s ≡ at x → Q s x
unfolding sited pick
every_sited Q [] s x a q = absurd (let z : ◌≡◌ {A = ℕ} 0 1 = cc in omega arith)
every_sited Q (y ∷ xs) s x a q =
    by_test (eqb y.0 s)
    (λ t.
    let m : at y.1 ≡ at x = rw t at q in
    let i : y.1 ≡ x = cc in
    subst (Q s) i (subst (λ (z : ℕ). Q z y.1) (eqb-true y.0 s t) a.0))
    (λ t. every_sited Q xs s x a.1 (rw t at q))

module _ (e : Edition) (n : ℕ) (P : List ℕ) where
  -- a tree's slot
  tree_slot : (h s : ℕ) → slot_of h (tree_at e P h s) ≡ s
  unfolding slot_of tree_at
  tree_slot zero s = refl
  tree_slot (suc h) s = refl

  row_slots_lem : (h : ℕ) (cs : List ℕ) → map (slot_of h) (map (tree_at e P h) cs) ≡ cs
  row_slots_lem h [] = refl
  row_slots_lem h (c ∷ cs) = ap₂ ◌∷◌ (tree_slot h c) (row_slots_lem h cs)

  -- each site of a row, from those of each tree
  row_here : (h : ℕ) → ((i s : ℕ) → Inside e P n h s → Every (λ y. Here e n P y.0 y.1) (sites h i (tree_at e P h s)))
      → (i : ℕ) (cs : List ℕ) → Every (Inside e P n h) cs
      → Every (λ y. Here e n P y.0 y.1) (counting (λ x. length (leaves h x)) (sites h) i (map (tree_at e P h) cs))
  unfolding counting
  row_here h each i [] a = tt
  row_here h each i (c ∷ cs) a =
      every_append (λ y. Here e n P y.0 y.1) (sites h i (tree_at e P h c)) _ (each i c a.0)
      (row_here h each (i + length (leaves h (tree_at e P h c))) cs a.1)

  -- each site of a tree
  tree_here : (h i s : ℕ) → Inside e P n h s → Every (λ y. Here e n P y.0 y.1) (sites h i (tree_at e P h s))
  unfolding sites tree_at Inside items_of
  tree_here zero i s a = (record { fit = a; items = refl }, tt)
  tree_here (suc h) i s a =
      (record { fit = a.0; items = row_slots_lem h (children_of (block e P s)) }, row_here h (tree_here h) i (children_of (block e P s)) a.1)

  -- each site of a blob
  blob_here : (r : ℕ) → Inside e P n (height_of (block e P r)) r → Every (λ y. Here e n P y.0 y.1) (sites_of (blob_at e P r))
  unfolding sites_of blob_at
  blob_here r a = tree_here (height_of (block e P r)) 0 r a

  module _ (r : ℕ) (inside : Inside e P n (height_of (block e P r)) r) where
    pub site_here : (s : ℕ) (x : Site) → sited (sites_of (blob_at e P r)) s ≡ at x → Here e n P s x
    site_here s x q = every_sited (Here e n P) (sites_of (blob_at e P r)) s x (blob_here r inside) q

    -- a block counts what it holds
    pub site_count : Proper e → length P ≡ e.size * n → (s : ℕ) (x : Site) → sited (sites_of (blob_at e P r)) s ≡ at x
        → length x.items ≡ count_of (block e P s)
    site_count p whole s x q =
        let a = site_here s x q in
        ap length a.items ∙ item_count (block e P s) x.height (block_room e p n P whole x.height s a.fit.within a.fit.most)

    low_slots : (m : ℕ) → m ≡ n → (xs : List (ℕ × Site)) → Every (λ y. Here e n P y.0 y.1) xs → Every (λ y. y.0 < m) xs
    low_slots m q [] a = tt
    low_slots m q (y ∷ ys) a = (omega (arith, a.0.fit.within), low_slots m q ys a.1)

    module _ (once : Once (slots_of (blob_at e P r))) (hs fs hs' fs' : List ℕ) (zero-heights : hs ≡ replicate n 0) (lf : length fs ≡ n)
        (noted : Marked (sites_of (blob_at e P r)) hs fs hs' fs') where
      abbrev all : List (ℕ × Site)
      all = sites_of (blob_at e P r)

      apart : Once (map (λ x. x.0) all)
      apart = rw (site_slots (blob_at e P r)) once

      long : length hs ≡ n
      long = ap length zero-heights ∙ length-replicate n 0

      height_said : (s : ℕ) → get_or hs' s 0 ≡ said tall (get_or hs s 0) (sited all s)
      height_said s =
          ap (λ (l : List ℕ). get_or l s 0) noted.heights ∙ puts_said tall all hs s apart (low_slots (length hs) long all (blob_here r inside))

      first_said : (s : ℕ) → get_or fs' s 0 ≡ said begin (get_or fs s 0) (sited all s)
      first_said s =
          ap (λ (l : List ℕ). get_or l s 0) noted.firsts ∙ puts_said begin all fs s apart (low_slots (length fs) lf all (blob_here r inside))

      no_height : (s : ℕ) → get_or hs s 0 ≡ 0
      no_height s = ap (λ (l : List ℕ). get_or l s 0) zero-heights ∙ zeros n s
        where
          zeros : (m i : ℕ) → ◌≡◌ {A = ℕ} (get_or (replicate m 0) i 0) 0
          zeros zero i = refl
          zeros (suc m) zero = refl
          zeros (suc m) (suc i) = zeros m i

      none_said : (s : ℕ) (v : Sited) → sited all s ≡ v → get_or hs' s 0 ≡ 0 → v ≡ absent
      unfolding said
      none_said s absent q z = refl
      none_said s (at x) q z = absurd (omega (arith, height_said s ∙ ap (said tall (get_or hs s 0)) q))

      some_said : (s : ℕ) (v : Sited) → sited all s ≡ v → (get_or hs' s 0 ≡ 0 → ⊥) → v ≡ at (site_at e P s (get_or hs' s 0) (get_or fs' s 0))
      unfolding said site_at
      some_said s absent q z = absurd (z (height_said s ∙ ap (said tall (get_or hs s 0)) q ∙ no_height s))
      some_said s (at x) q z =
          let h : get_or hs' s 0 ≡ x.height + 1 = height_said s ∙ ap (said tall (get_or hs s 0)) q in
          let f : get_or fs' s 0 ≡ x.first = first_said s ∙ ap (said begin (get_or fs s 0)) q in
          let g : get_or hs' s 0 - 1 ≡ x.height = omega arith in
          rw (g, f) (ap (λ (l : List ℕ). at (record { height = x.height; first = x.first; items = l })) (site_here s x q).items)

      pub sites_said : Sites e n P (blob_at e P r) hs' fs'
      sites_said = record {
        none = λ s z. none_said s (sited all s) refl z;
        some = λ s z. some_said s (sited all s) refl z;
      }
