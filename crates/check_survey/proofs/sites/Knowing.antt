-- What a changing call knows: from the pool check's answer, that the blob's sites may be noted; and from what is noted, `Known`.
use Rattle.std.specs.Prelude.{Err, Ok, Some}
use mathlib.Core.Path.{◌≡◌, refl, ap, ◌∙◌, sym, subst}
use mathlib.Core.Logic.{◌⊎◌, inl, inr}
use mathlib.Core.Bool.{false}
use mathlib.Core.List.Memᴰ
use mathlib.Core.List.{List, [], ◌∷◌, Memᴰ}
use Prim.Native.Nat.{ℕ, ◌+◌, ◌*◌, ◌≤◌, ◌<◌}
use native.Mathlib.Omega.{arith}
use borrow.Author.Tests.{eqb-true, eqb-false, eq-eqb, lt-ltb}
use lib.Dec.{eqb}
use lib.ListN.{length, take, replicate, length-replicate}
use Rattle.meaning.specs.declared.Edition.{Edition}
use Rattle.meaning.specs.declared.Refusal.{Refusal}
use Rattle.meaning.specs.Lists.{pick, both}
use Rattle.meaning.specs.Edition.{Proper}
use Rattle.meaning.specs.Bytes.{state}
use Rattle.meaning.specs.Tree.{Blob, root_of, content_of, leaves_of, length_of}
use Rattle.meaning.specs.Walk.{fault, fine, pool_check}
use Rattle.meaning.specs.Calls.{Outcome, refused, refuse_if, after_check, with_blob, rooted, changing}
use Rattle.laws.proofs.Inversions.{by_test}
use Rattle.laws.proofs.Walked.{leaf_slots, leaf_slots_length}
use Rattle.laws.proofs.Roots.{Listed, pool_names_root}
use Rattle.check_blob.specs.notes.{Noted, met, put_all, note_leaves, note_tree, note_blob, Walked}
use Rattle.check_pool.specs.roots.{kept, is_named, note_if_named, note_named, pool_noted}
use Rattle.check_blob.proofs.notes.Answering.{noted_fault, noted_fine}
use Rattle.laws_resize.specs.growth.Sites.{sites_of}
use Rattle.laws_resize.proofs.growth.ResizedBySlot.{Standing}
use Rattle.laws_resize.proofs.growth.ListedBlobsStand.{pool_standing}
use Rattle.check_blob.proofs.notes.Putting.{put_there, put_length}
use Rattle.check_survey.specs.sites.Spelt.{blob_at}
use Rattle.check_survey.specs.sites.Marks.{tall, begin, Marked, SitesStart}
use Rattle.check_survey.specs.sites.Known.{Known}
use Rattle.check_survey.proofs.sites.Walks.{WalkedTo, pool_walked, walk_spelt, walked_few, walked_start}
use Rattle.check_survey.proofs.sites.Rows.{puts_length, site_here, site_count, sites_said}

-- what was noted tells of the blob: its length, its leaves and their slots
record Tells (n : ℕ) (b : Blob) (x : Noted) : Type 0 where
  bytes : x.bytes ≡ length_of b
  leaves : x.leaves ≡ length (leaves_of b)
  slots : take x.leaves x.row ≡ leaf_slots b
  size : length x.row ≡ n

blob_tells : (n : ℕ) (b : Blob) (o : List ℕ) → length o ≡ n → length (leaves_of b) ≤ n → Tells n b (note_blob o b)
unfolding note_blob note_tree note_leaves length_of content_of leaves_of leaf_slots
blob_tells n b o lo few =
    let s : length (leaf_slots b) ≡ length (leaves_of b) = leaf_slots_length b in
    let q = put_there o 0 (leaf_slots b) (omega arith) in
    let m : 0 + length (leaves_of b) ≡ 0 + length (leaf_slots b) = omega arith in
    record {
      bytes = omega arith;
      leaves = omega arith;
      slots = ap (λ (i : ℕ). take i (put_all o 0 (leaf_slots b))) m ∙ q;
      size = put_length o 0 (leaf_slots b) ∙ lo;
    }

-- among blobs of which those with root r are b, the noted one is b
module _ (n r : ℕ) (b : Blob) (few : length (leaves_of b) ≤ n) where
  abbrev Only : List Blob → Type 0
  Only bs = (c : Blob) → Memᴰ c bs → root_of c ≡ r → c ≡ b

  named_tells : (x : Noted) (c : Blob) → length x.row ≡ n → c ≡ b → Tells n b (note_blob x.row c)
  named_tells x c size q = rw q (blob_tells n b x.row size few)

  kept_tells : (bs : List Blob) → Only bs → (x : Noted) → Tells n b x → Tells n b (note_named (Some r) x bs)
  unfolding note_named note_if_named is_named pick
  kept_tells [] only x t = t
  kept_tells (c ∷ bs) only x t =
      kept_tells bs (λ d m. only d (Memᴰ.tail m)) (note_if_named (Some r) x c)
      (by_test (eqb r (root_of c))
      (λ u. rw u (named_tells x c t.size (only c (Memᴰ.head refl) (sym (eqb-true r (root_of c) u)))))
      (λ u. rw u t))

  got_tells : (bs : List Blob) → Only bs → Memᴰ b bs → root_of b ≡ r → (x : Noted) → length x.row ≡ n → Tells n b (note_named (Some r) x bs)
  unfolding note_named note_if_named is_named pick
  got_tells [] only m is x size = absurd (Memᴰ.not-nil m)
  got_tells (c ∷ bs) only m is x size =
      by_test (eqb r (root_of c))
      (λ u. rw u (kept_tells bs (λ d i. only d (Memᴰ.tail i)) (note_blob x.row c)
      (named_tells x c size (only c (Memᴰ.head refl) (sym (eqb-true r (root_of c) u))))))
      (λ u. rw u (got_tells bs (λ d i. only d (Memᴰ.tail i)) (later u (Memᴰ.cases_cons m)) is x size))
    where
      later : eqb r (root_of c) ≡ false → (b ≡ c) ⊎ Memᴰ b bs → Memᴰ b bs
      later u (inl q) = absurd (eqb-false r (root_of c) u (sym is ∙ ap root_of q))
      later u (inr i) = i

-- a pool check that went well, and a root's slot
module _ (e : Edition) (n : ℕ) (P R : List ℕ) {bs : List Blob} {seen : List ℕ} (passed : pool_check e n P R ≡ fine bs seen) where
  -- each blob that is listed is spelt from its root on
  only_spelt : (r : ℕ) (c : Blob) → Memᴰ c bs → root_of c ≡ r → c ≡ blob_at e P r
  only_spelt r c m q =
      let w = pool_walked e n P R passed c m in
      walk_spelt e n P R w.before (root_of c) w.found w.within ∙ ap (blob_at e P) q

  module _ (r : ℕ) (within : r < n) (is : state R r ≡ 2) where
    there : Listed r bs
    there = pool_names_root e n P R r passed within is

    there_is : there.blob ≡ blob_at e P r
    there_is = only_spelt r there.blob there.among there.named

    root_named : root_of (blob_at e P r) ≡ r
    root_named = rw (← there_is) there.named

    root_among : Memᴰ (blob_at e P r) bs
    root_among = rw (← there_is) there.among

    root_walked : WalkedTo e n P R (blob_at e P r)
    root_walked = pool_walked e n P R passed (blob_at e P r) root_among

    root_met : {A : Type 0} (f : Blob → Outcome A) → with_blob r f bs ≡ f (blob_at e P r)
    root_met f = there.met f ∙ ap f there_is

-- behind refusal 3
rooted_on : (e : Edition) (n : ℕ) (P R : List ℕ) (r : ℕ) → r < n → state R r ≡ 2 → {A : Type 0} (o : Outcome A) → rooted e n P R r o ≡ o
unfolding rooted refuse_if both
rooted_on e n P R r within is o = simp (lt-ltb r n within, eq-eqb (state R r) 2 is)

-- w is the answer of the pool check
module _ (e : Edition) (n : ℕ) (P R : List ℕ) (r : ℕ) (o : List ℕ) (w : Walked) (sx ox : List ℕ) (ew : met w sx ox ≡ pool_noted e n P R (Some r) o) where
  -- a fault is the pool check's
  check_fault : (f : Refusal) → w ≡ Err f → pool_check e n P R ≡ fault f
  unfolding met pool_noted
  check_fault f ef = noted_fault (note_named (Some r) (kept 0 0 o)) f (pool_check e n P R) (rw ef at ew)

  -- and a changing call is refused so
  pub fault_changing : (f : Refusal) → w ≡ Err f → r < n → state R r ≡ 2 → {A : Type 0} (k : Blob → Outcome A) → changing e n P R r k ≡ refused f
  unfolding changing after_check
  fault_changing f ef within is k = rooted_on e n P R r within is _ ∙ rw (check_fault f ef)

  module _ (within : r < n) (is : state R r ≡ 2) (len k : ℕ) (ek : w ≡ Ok (len, k)) where
    passed : (bs : List Blob) × (pool_check e n P R ≡ fine bs sx) × (record { bytes = len; leaves = k; row = ox } ≡ note_named (Some r) (kept 0 0 o) bs)
    unfolding met pool_noted
    passed = noted_fine (note_named (Some r) (kept 0 0 o)) (record { bytes = len; leaves = k; row = ox }) sx (pool_check e n P R) (rw ek at ew)

    module _ (p : Proper e) (whole : length P ≡ e.size * n) (most : n ≤ e.most) (hs fs : List ℕ) (eh : hs ≡ replicate n 0) (lf : length fs ≡ n) where
      walked : WalkedTo e n P R (blob_at e P r)
      walked = root_walked e n P R passed.1 r within is

      named : root_of (blob_at e P r) ≡ r
      named = root_named e n P R passed.1 r within is

      -- the blob's sites may be noted
      pub sites_start : SitesStart e n P hs fs r
      sites_start =
          subst (SitesStart e n P hs fs) named
          (walked_start e p n P R whole most (blob_at e P r) walked hs fs (ap length eh ∙ length-replicate n 0) lf)

      few : length (leaves_of (blob_at e P r)) ≤ n
      few = walked_few e p n P R whole most (blob_at e P r) walked

      tells : length o ≡ n → Tells n (blob_at e P r) (record { bytes = len; leaves = k; row = ox })
      unfolding kept
      tells lo =
          rw passed.2
          (got_tells n r (blob_at e P r) few passed.0 (λ c m q. only_spelt e n P R passed.1 r c m q)
          (root_among e n P R passed.1 r within is) named (kept 0 0 o) lo)

      -- and once they are, all this is known
      pub known : length o ≡ n → (hs' fs' : List ℕ) → Marked (sites_of (blob_at e P r)) hs fs hs' fs' → Known e n P R r len k ox hs' fs'
      known lo hs' fs' noted =
          let t = tells lo in
          let inside = sites_start.inside in
          let stands : Standing e R (blob_at e P r) =
          pool_standing e p n P R whole passed.1 (blob_at e P r) (root_among e n P R passed.1 r within is) in
          record {
            blobs = passed.0;
            seen = sx;
            passed = passed.1;
            among = root_among e n P R passed.1 r within is;
            within = within;
            root = is;
            named = named;
            standing = stands;
            bytes = t.bytes;
            leaves = t.leaves;
            few = omega (arith, t.leaves, few);
            slots = t.slots;
            heights = ap length noted.heights ∙ puts_length tall _ hs ∙ ap length eh ∙ length-replicate n 0;
            firsts = ap length noted.firsts ∙ puts_length begin _ fs ∙ lf;
            sites = sites_said e n P r inside stands.once hs fs hs' fs' eh lf noted;
            fit = λ s x q.
                let a = site_here e n P r inside s x q in
                (a.fit, a.items, site_count e n P r inside p whole s x q);
          }

-- a changing call is what it does on that blob
pub known_changing : (e : Edition) (n : ℕ) (P R : List ℕ) (r len k : ℕ) (row hs fs : List ℕ) → Known e n P R r len k row hs fs
    → {A : Type 0} (f : Blob → Outcome A) → changing e n P R r f ≡ f (blob_at e P r)
unfolding changing after_check
known_changing e n P R r len k row hs fs g f =
    rooted_on e n P R r g.within g.root _ ∙ rw g.passed (root_met e n P R g.passed r g.within g.root f)
