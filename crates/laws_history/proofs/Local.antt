-- The walk depends only on the blocks of its tree. Over another pool with the same records it goes the same way up to the first block, in
-- walk order, that is not as it was; there it stops with that block's check 2, if every such block fails it. So the blob check gives
-- the same blob, or the fault that names the first block that differs.
use Rattle.std.specs.Prelude.{Err, Ok, Option, None, Some}
use mathlib.Core.Path.{◌≡◌, refl, sym, ap, subst, ◌∙◌}
use mathlib.Core.Bool.{Bool, true, false}
use mathlib.Core.List.{List, [], ◌∷◌, ◌++◌, map}
use Prim.Native.Nat.{ℕ, zero, suc, ◌≤◌, min}
use lib.ListN.{set, replicate}
use Rattle.meaning.specs.declared.Edition.{Edition}
use Rattle.meaning.specs.declared.Role.{Role}
use Rattle.meaning.specs.declared.Role.TheVariants.{Root, Child}
use Rattle.meaning.specs.Lists.{pick, both, same_list, joined}
use Rattle.meaning.specs.Bytes.{block, height_of, data_of, children_of, recorded}
use Rattle.meaning.specs.Tree.{Tree, Blob, slots_of}
use Rattle.meaning.specs.Refusals.{at, number_of}
use Rattle.meaning.specs.Walk.{flaw, block_check, is_root, link_check, Found, fault, fine, and_then, passing}
use Rattle.meaning.specs.Walk.{is_empty, one_visit, visit_row, visit, from_root, blob_check}
use Rattle.meaning.specs.declared.Reason.{Reason}
use Rattle.meaning.specs.declared.Reason.TheVariants.{Spoiled}
use Rattle.laws.proofs.Checks.{check_flaw}
use Rattle.laws.proofs.Inversions.{Sound, never, by_test, same_list_lem, same_self, passed_passing, sound_passed, flaw_number}
use Rattle.laws.proofs.Walked.{leaf_found, inner_found, none_found, row_found, root_found}
use Rattle.laws.proofs.Roots.{visit_slot}
use Rattle.laws.proofs.Every.{Every, every_left, every_right}
use Rattle.laws.proofs.TreeSlots.{slots, below, own_slots, blob_slots}

-- lists that are found different are
pub unlike : (a b : List ℕ) → same_list a b ≡ false → a ≡ b → ⊥
unlike a b t q = never (sym (same_self b) ∙ ap (λ (l : List ℕ). same_list l b) (sym q) ∙ t)

-- slot x holds what it held
abbrev pub Same : Edition → (P P* : List ℕ) → ℕ → Type 0
Same e P P* x = block e P* x ≡ block e P x

-- what check 2 finds wrong at slot x of the other pool
abbrev pub other_flaw : Edition → (P* R : List ℕ) → ℕ → Option Reason
other_flaw e P* R x = flaw e (recorded R x) x (block e P* x)

-- the reason, where something is wrong
pub why_of : Option Reason → Reason
why_of None = Spoiled
why_of (Some why) = why

some_why : (f : Option Reason) → (f ≡ None → ⊥) → f ≡ Some (why_of f)
unfolding why_of
some_why None n = absurd (n refl)
some_why (Some why) n = refl

-- a reason that is found is that one
pub why_found : (f : Option Reason) (why : Reason) → Some why ≡ f → why ≡ why_of f
unfolding why_of
why_found f why q = ap why_of q

-- and that of slot x
abbrev pub other_why : Edition → (P* R : List ℕ) → ℕ → Reason
other_why e P* R x = why_of (other_flaw e P* R x)

-- what passes check 2 at slot x is what it held
abbrev pub Told : Edition → (P P* R : List ℕ) → ℕ → Type 0
Told e P P* R x = other_flaw e P* R x ≡ None → Same e P P* x

module _ (e : Edition) (P P* R : List ℕ) where
  -- f, unless one of these slots is not as it was: then the fault of the first such
  unfoldable pub first_other : {A : Type 0} → List ℕ → Found A → Found A
  first_other [] f = f
  first_other (x ∷ xs) f = pick (same_list (block e P* x) (block e P x)) (first_other xs f) (fault (at (other_why e P* R x) x))

  -- where each of these slots is as it was
  pub other_none : {A : Type 0} (xs : List ℕ) (f : Found A) → Every (Same e P P*) xs → first_other xs f ≡ f
  unfolding first_other pick
  other_none [] f s = refl
  other_none (x ∷ xs) f s =
      let t : same_list (block e P* x) (block e P x) ≡ true = rw s.0 (same_self (block e P x)) in
      rw t (other_none xs f s.1)

  -- where the first is not
  other_here : {A : Type 0} (x : ℕ) (xs : List ℕ) (f : Found A) → same_list (block e P* x) (block e P x) ≡ false
      → first_other (x ∷ xs) f ≡ fault (at (other_why e P* R x) x)
  unfolding first_other pick
  other_here x xs f t = rw t

  -- a slot is as it was, or what it holds fails check 2
  same_or_not : {B : Type 0} (x : ℕ) → Told e P P* R x → (Same e P P* x → B)
      → (same_list (block e P* x) (block e P x) ≡ false → (other_flaw e P* R x ≡ None → ⊥) → B) → B
  same_or_not x told f g =
      by_test (same_list (block e P* x) (block e P x))
      (λ t. f (same_list_lem (block e P* x) (block e P x) t))
      (λ t. g t (λ z. unlike (block e P* x) (block e P x) t (told z)))

  -- a walk goes on from where no slot differs
  other_then : {A B : Type 0} (xs : List ℕ) (a : A) (seen : List ℕ) (k : A → List ℕ → Found B)
      → and_then (first_other xs (fine a seen)) k ≡ first_other xs (k a seen)
  unfolding and_then first_other pick
  other_then [] a seen k = refl
  other_then (x ∷ xs) a seen k =
      by_test (same_list (block e P* x) (block e P x)) (λ t. rw t (other_then xs a seen k)) (λ t. rw t)

  -- slots in two lists
  other_append : {A : Type 0} (xs ys : List ℕ) (f : Found A) → first_other (xs ++ ys) f ≡ first_other xs (first_other ys f)
  unfolding first_other pick
  other_append [] ys f = refl
  other_append (x ∷ xs) ys f =
      by_test (same_list (block e P* x) (block e P x)) (λ t. rw t (other_append xs ys f)) (λ t. rw t)

  -- a walk over the other pool, then one from where it ended
  other_next : {A B : Type 0} (f : Found A) (k : A → List ℕ → Found B) (xs : List ℕ) (a : A) (seen : List ℕ) (g : Found B)
      → f ≡ first_other xs (fine a seen) → k a seen ≡ g → and_then f k ≡ first_other xs g
  other_next f k xs a seen g p q = ap (λ f. and_then f k) p ∙ other_then xs a seen k ∙ ap (first_other xs) q

  -- the first slot that is not as it was
  pub other_first : {A : Type 0} (before : List ℕ) (x : ℕ) (later : List ℕ) (f : Found A) → Every (Same e P P*) before → (Same e P P* x → ⊥)
      → first_other (before ++ (x ∷ later)) f ≡ fault (at (other_why e P* R x) x)
  other_first before x later f same d =
      other_append before (x ∷ later) f ∙ other_none before _ same
      ∙ by_test (same_list (block e P* x) (block e P x))
      (λ t. absurd (d (same_list_lem (block e P* x) (block e P x) t)))
      (λ t. other_here x later f t)

  -- check 2 finds it
  pub other_found : (x : ℕ) → Told e P P* R x → (Same e P P* x → ⊥) → other_flaw e P* R x ≡ Some (other_why e P* R x)
  other_found x told d = some_why (other_flaw e P* R x) (λ z. d (told z))

  -- its number is one of check 2's
  pub other_number : (x : ℕ) → Told e P P* R x → (Same e P P* x → ⊥) → (4 ≤ number_of (other_why e P* R x)) × (number_of (other_why e P* R x) ≤ 7)
  other_number x told d =
      flaw_number e (recorded R x) x (block e P* x) (other_why e P* R x) (other_found x told d)

  -- what fails check 2 fails the block's checks
  faulty : (h : ℕ) (root edge : Bool) (s : ℕ) → (other_flaw e P* R s ≡ None → ⊥)
      → Err (at (other_why e P* R s) s) ≡ block_check e h root edge (recorded R s) s (block e P* s)
  faulty h root edge s n =
      check_flaw e h root edge (recorded R s) s (block e P* s) (other_flaw e P* R s) refl (other_why e P* R s) (some_why (other_flaw e P* R s) n)
      (at (other_why e P* R s) s) refl

  module _ (N : ℕ) where
    -- one visit whose checks pass in the first pool
    visit_one : (h : ℕ) (role : Role) (edge : Bool) (seen : List ℕ) (s : ℕ) → link_check N R seen role s ≡ Ok tt
        → Sound e h (is_root role) edge (recorded R s) s (block e P s) → Told e P P* R s
        → one_visit e N P* R h role edge seen s ≡ first_other (s ∷ []) (fine (block e P s) (set seen s 1))
    unfolding one_visit passing
    visit_one h role edge seen s link sound told =
        same_or_not s told
        (λ same. passed_passing _ _ link ∙ ap checked same
        ∙ passed_passing _ _ (sound_passed e h (is_root role) edge (recorded R s) s (block e P s) sound) ∙ sym (other_none (s ∷ []) _ (same, tt)))
        (λ t n. passed_passing _ _ link
        ∙ ap (λ c. passing c (fine (block e P* s) (set seen s 1))) (sym (faulty h (is_root role) edge s n)) ∙ sym (other_here s [] _ t))
      where
        checked : List ℕ → Found (List ℕ)
        checked b = passing (block_check e h (is_root role) edge (recorded R s) s b) (fine b (set seen s 1))

    -- a block that fails check 2 ends the walk there, whatever height is asked
    visit_flawed : (h : ℕ) (role : Role) (edge : Bool) (seen : List ℕ) (s : ℕ) → link_check N R seen role s ≡ Ok tt → (other_flaw e P* R s ≡ None → ⊥)
        → visit e N P* R h role edge seen s ≡ fault (at (other_why e P* R s) s)
    unfolding visit one_visit passing and_then
    visit_flawed zero role edge seen s link n =
        rw (link, ← faulty zero (is_root role) edge s n)
    visit_flawed (suc h) role edge seen s link n =
        rw (link, ← faulty (suc h) (is_root role) edge s n)

    -- a row, from each child's visit
    rows_other : (h : ℕ)
        → ((q : ℕ) (edge : Bool) (seen : List ℕ) (s : ℕ) (t : Tree h) (seen' : List ℕ) → visit e N P R h (Child q) edge seen s ≡ fine t seen'
        → Every (Told e P P* R) (slots h t) → visit e N P* R h (Child q) edge seen s ≡ first_other (slots h t) (fine t seen'))
        → (q : ℕ) (edge : Bool) (cs seen : List ℕ) (ts : List (Tree h)) (seen' : List ℕ)
        → visit_row e N P R (visit e N P R h) q edge cs seen ≡ fine ts seen' → Every (Told e P P* R) (joined (map (slots h) ts))
        → visit_row e N P* R (visit e N P* R h) q edge cs seen ≡ first_other (joined (map (slots h) ts)) (fine ts seen')
    unfolding visit_row joined first_other
    rows_other h each q edge [] seen ts seen' v told =
        let n = none_found e N P R h q edge seen v in
        rw (← n.0, ← n.1)
    rows_other h each q edge (c ∷ cs) seen ts seen' v told =
        let f = row_found e N P R h q edge c cs seen v in
        let xs = slots h f.first in
        let ys = joined (map (slots h) f.rest) in
        let both_told : Every (Told e P P* R) (xs ++ ys) =
        subst (λ (ts : List (Tree h)). Every (Told e P P* R) (joined (map (slots h) ts))) (sym f.trees) told in
        let one = each q (both edge (is_empty cs)) seen c f.first f.mid f.walked (every_left (Told e P P* R) xs ys both_told) in
        let more = rows_other h each q edge cs f.mid f.rest seen' f.others (every_right (Told e P P* R) xs ys both_told) in
        rw (← f.trees)
        (other_next _ _ xs f.first f.mid _ one (other_next _ _ ys f.rest seen' _ more refl) ∙ sym (other_append xs ys _))

    -- over the other pool a walk goes the same way, up to the first slot of its tree that is not as it was
    pub visit_other : (h : ℕ) (role : Role) (edge : Bool) (seen : List ℕ) (s : ℕ) (t : Tree h) (seen' : List ℕ)
        → visit e N P R h role edge seen s ≡ fine t seen' → Every (Told e P P* R) (slots h t)
        → visit e N P* R h role edge seen s ≡ first_other (slots h t) (fine t seen')
    unfolding visit slots
    visit_other zero role edge seen s t seen' v told =
        let f = leaf_found e N P R role edge seen s v in
        let told' : Every (Told e P P* R) (slots zero (s, data_of (block e P s))) =
        subst (λ (t : Tree zero). Every (Told e P P* R) (slots zero t)) (sym f.tree) told in
        rw (← f.tree, ← f.flags)
        (other_next _ _ (s ∷ []) (block e P s) (set seen s 1) _
        (visit_one zero role edge seen s f.link f.sound told'.0) refl)
    visit_other (suc h) role edge seen s t seen' v told =
        let f = inner_found e N P R h role edge seen s v in
        let told' : Every (Told e P P* R) (slots (suc h) (s, f.below)) =
        subst (λ (t : Tree (suc h)). Every (Told e P P* R) (slots (suc h) t)) (sym f.tree) told in
        rw (← f.tree)
        (other_next _ _ (s ∷ []) (block e P s) (set seen s 1) _
        (visit_one (suc h) role edge seen s f.link f.sound told'.0)
        (other_next _ _ (joined (map (slots h) f.below)) f.below seen' _
        (rows_other h (λ q. visit_other h (Child q)) s edge (children_of (block e P s)) (set seen s 1) f.below seen' f.walked told'.1) refl)
        ∙ sym (other_append (s ∷ []) (joined (map (slots h) f.below)) _))

    -- the blob of a tree found from root r, in the other pool, with the height that its block there asks for
    blob_from : (seen : List ℕ) (r : ℕ) → List ℕ → Found Blob
    blob_from seen r b =
        let h = min (height_of b) e.top in
        and_then (visit e N P* R h Root true seen r) (λ t seen'. fine (record { height = h; tree = t }) seen')

    -- where the root's block is as it was, so is its height; else the walk ends there
    tree_other : (seen : List ℕ) (r : ℕ) (t : Tree (min (height_of (block e P r)) e.top)) (seen' : List ℕ)
        → visit e N P R (min (height_of (block e P r)) e.top) Root true seen r ≡ fine t seen'
        → Every (Told e P P* R) (slots (min (height_of (block e P r)) e.top) t)
        → from_root e N P* R seen r ≡ first_other (slots (min (height_of (block e P r)) e.top) t)
        (fine (record { height = min (height_of (block e P r)) e.top; tree = t }) seen')
    unfolding from_root blob_from link_check and_then
    tree_other seen r t seen' v told =
        let h = min (height_of (block e P r)) e.top in
        let rest = below h t in
        let first : slots h t ≡ r ∷ rest = own_slots h t ∙ ap (λ (x : ℕ). x ∷ rest) (visit_slot e N P R h Root true seen r v) in
        let told-root : Every (Told e P P* R) (r ∷ rest) = subst (λ (l : List ℕ). Every (Told e P P* R) l) first told in
        same_or_not r told-root.0
        (λ same. ap (blob_from seen r) same ∙ other_next _ _ (slots h t) t seen' _ (visit_other h Root true seen r t seen' v told) refl)
        (λ d n.
        let h* = min (height_of (block e P* r)) e.top in
        ap (λ (f : Found (Tree h*)). and_then f (λ t seen''. fine (record { height = h*; tree = t }) seen'')) (visit_flawed h* Root true seen r refl n)
        ∙ sym (ap (λ (l : List ℕ). first_other l (fine (record { height = h; tree = t }) seen')) first ∙ other_here r rest _ d))

    -- so does the walk from a root
    pub from_other : (seen : List ℕ) (r : ℕ) (b : Blob) (seen' : List ℕ) → from_root e N P R seen r ≡ fine b seen' → Every (Told e P P* R) (slots_of b)
        → from_root e N P* R seen r ≡ first_other (slots_of b) (fine b seen')
    from_other seen r b seen' v told =
        let (t, o, q) = root_found e N P R seen r v in
        let h = min (height_of (block e P r)) e.top in
        let b' : Blob = record { height = h; tree = t } in
        let told' : Every (Told e P P* R) (slots h t) = subst (λ (l : List ℕ). Every (Told e P P* R) l) (ap slots_of (sym q) ∙ blob_slots b') told in
        tree_other seen r t seen' o told'
        ∙ ap (λ (l : List ℕ). first_other l (fine b' seen')) (sym (blob_slots b'))
        ∙ ap (λ (c : Blob). first_other (slots_of c) (fine c seen')) q

    -- and the blob check: the same blob, or the fault of the first of its slots that is not as it was
    pub check_other : (r : ℕ) (b : Blob) (seen : List ℕ) → blob_check e N P R r ≡ fine b seen → Every (Told e P P* R) (slots_of b)
        → blob_check e N P* R r ≡ first_other (slots_of b) (fine b seen)
    unfolding blob_check
    check_other r b seen v told = from_other (replicate N 0) r b seen v told
