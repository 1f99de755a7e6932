-- Calls that are done: what each makes of every slot, and of the blobs.
use mathlib.Core.Path.{◌≡◌, refl, sym, ap, subst, ◌∙◌}
use mathlib.Core.Logic.{◌⊎◌, inl, inr}
use mathlib.Core.Bool.{false}
use mathlib.Core.List.{List, [], ◌∷◌, ◌++◌, Memᴰ}
use Prim.Native.Nat.{ℕ, ◌+◌, ◌/◌, ◌≤◌, ◌<◌}
use native.Mathlib.Omega.{arith}
use borrow.Author.Tests.{ltb-false, eq-eqb, lt-ltb}
use lib.Dec.{eqb, ltb}
use lib.ListN.{length, take}
use Rattle.meaning.specs.declared.Edition.{Edition}
use Rattle.meaning.specs.Lists.{pick, pasted, padded}
use Rattle.meaning.specs.Edition.{Proper}
use Rattle.meaning.specs.Bytes.{Cell, same_cell, block, record_at, record_of, state, recorded, last_version, usable_slot}
use Rattle.meaning.specs.Shape.{Shaped}
use Rattle.meaning.specs.Tree.{Blob, cells, content, slot_of, root_of, content_of, cells_of, slots_of, length_of, Held, nothing, just, held}
use Rattle.meaning.specs.Walk.{pool_check}
use Rattle.meaning.specs.Change.{Change, Store, changed, changed_by, freed, renewed}
use Rattle.meaning.specs.Resize.{lowest, resized}
use Rattle.meaning.specs.Calls.{Outcome, done, after, slots_in, become, usable, refuse_full, with_blob}
use Rattle.meaning.specs.Calls.{create_call, create_in, create_on, write_call, resize_call, delete_call, delete_in, delete_on}
use Rattle.meaning.specs.Answers.{yields}
use Rattle.meaning.specs.Run.{create, write, resize, delete, says, perform}
use Rattle.meaning.specs.declared.Reason.TheVariants.{NoRoom}
use Rattle.laws.proofs.Inversions.{by_test, true_both, same_self, never}
use Rattle.laws.proofs.Codec.{state_of_lem, recorded_of_lem}
use Rattle.laws.proofs.Ranges.{in_range, in_filter}
use Rattle.laws_resize.proofs.resizing.SlotCounts.{times, member_times, times_member}
use Rattle.laws_resize.proofs.resizing.Resized.{resized_taken, resized_from}
use Rattle.laws_sound.proofs.sound.Cells.{cell_slots}
use Rattle.laws_sound.proofs.sound.TimesListed.{by_times, times_none}
use Rattle.laws_sound.proofs.sound.Blobs.{Lies, lies_within}
use Rattle.laws_sound.proofs.sound.Pools.{pool_one}
use Rattle.laws.proofs.Puts.{left_by, then_pool, then_block, then_record}
use Rattle.laws_sound.proofs.sound.After.{held_none, held_some, same_cell_lem}
use Rattle.laws_sound.proofs.again.Parting.{blob_met}
use Rattle.laws_sound.proofs.again.Outcomes.{Opens, opened_done, after_check_done, refuse_if_done, done_same, sized_lengths, Lengths, changing_done, among_lies}
use Rattle.laws_sound.proofs.again.Done.{empty_blob, create_done, delete_done, among_others}
use Rattle.laws_sound.proofs.again.Turned as again
use Rattle.laws_sound.proofs.again.Turned.{write_done, resize_done}
use Rattle.promises.proofs.Said.{one_number, no_number, said_done, says_create, says_write, says_resize, says_delete}
use Rattle.promises.proofs.Stores.{good_is, pool_is}
use Rattle.promises.specs.Demands.{slots_at, free_at, new_at, Turns, Passes, Became, Freed}

-- cells that are found other are other
other_cell : (a c : Cell) → same_cell a c ≡ false → a ≡ c → ⊥
unfolding same_cell
other_cell a c t q =
    let s = true_both (eqb c.height c.height) _ (eq-eqb c.height c.height refl) (same_self c.items) in
    never (sym s ∙ rw q at t)

-- what the changes of a slot make of it, by what it held and holds
slot_turns : (e : Edition) (S S' : Store) (taken x : ℕ) (o n : Held)
    → block e S'.pool x ≡ left_by (λ c. c.block) (changed e S.records taken x o n) (block e S.pool x)
    → record_at S'.records x ≡ left_by (λ c. c.line) (changed e S.records taken x o n) (record_at S.records x)
    → Turns e S S' taken x o n
unfolding Turns left_by changed freed renewed pick
slot_turns e S S' taken x nothing nothing b r = (b, r)
slot_turns e S S' taken x nothing (just c) b r = (b, r)
slot_turns e S S' taken x (just a) nothing b r = (b, r)
slot_turns e S S' taken x (just a) (just c) b r =
    by_test (same_cell a c)
    (λ t. inl (same_cell_lem a c t, (rw t at b, rw t at r)))
    (λ t. inr (other_cell a c t, (rw t at b, rw t at r)))

-- what cells that become others make of every slot
pub all_turn : (e : Edition) (S S' : Store) (taken : ℕ) (old new : List (ℕ × Cell)) → Lengths e S.pool S.records
    → S' ≡ changed_by e (become e (slots_at e S) S.pool S.records taken old new) S
    → (x : ℕ) → x < slots_at e S → Turns e S S' taken x (held old x) (held new x)
unfolding become
all_turn e S S' taken old new l q x low =
    rw q (slot_turns e S _ taken x (held old x) (held new x)
    (then_block e (slots_at e S) S taken (held old) (held new) l.whole l.lines x low)
    (then_record e (slots_at e S) S taken (held old) (held new) l.whole l.lines x low))

-- some slots of which the lowest is s
first_free : (l : List ℕ) (s : ℕ) → 1 ≤ length l → lowest l ≡ s → (rest : List ℕ) × (l ≡ s ∷ rest)
unfolding lowest
first_free [] s h q = absurd (omega arith)
first_free (x ∷ l) s h q = (l, ap (λ (y : ℕ). y ∷ l) q)

module _ (e : Edition) (p : Proper e) (S : Store) where
  abbrev N : ℕ
  N = slots_at e S

  abbrev P : List ℕ
  P = S.pool

  abbrev R : List ℕ
  R = S.records

  -- the store after an outcome that is done
  done_after : {A : Type 0} (o : Outcome A) (a : A) (cs : List Change) → o ≡ done a cs → after e S o ≡ changed_by e cs S
  unfolding after
  done_after o a cs q = rw q

  -- create
  pub create_turns : (s : ℕ) → says e S create ≡ yields (s ∷ [])
      → (b : Blob) × (rest : List ℕ) × (free_at e S ≡ s ∷ rest) × (root_of b ≡ s) × (content_of b ≡ [])
      × Became e S (perform e S create) 2 [] (b ∷ []) [] (cells_of b)
  unfolding perform create_call create_in create_on refuse_full
  create_turns s h =
      let (a, cs, was, v) = said_done one_number (create_call e P R) (s ∷ []) (sym (says_create e S) ∙ h) in
      let same : a ≡ s = cc in
      let q : create_call e P R ≡ done s cs = was ∙ ap (λ (a : ℕ). done a cs) same in
      let (o, w) = opened_done e P R _ q in
      let l = sized_lengths e P R o.sized in
      let (bs, seen, f, k) = after_check_done (pool_check e N P R) _ w in
      let (t, d) = refuse_if_done (ltb (length (free_at e S)) 1) NoRoom _ k in
      let i = done_same d in
      let m = create_done e p S q in
      let (rest, free) = first_free (free_at e S) s (ltb-false (length (free_at e S)) 1 t) i.0 in
      let after = done_after (create_call e P R) s cs q in (
        empty_blob s,
        rest,
        free,
        unfold empty_blob root_of slot_of in refl,
        unfold empty_blob content_of content in refl,
        record {
          before = m.before;
          after = m.after;
          was = pool_is e S (m.before ++ m.after) o m.was;
          is = subst (λ (T : Store). Passes e T (m.before ++ (empty_blob s ∷ m.after))) (sym after)
              (good_is e (changed_by e cs S) _ m.good);
          slots = all_turn e S (perform e S create) 2 [] (cells_of (empty_blob s)) l
              (after ∙ ap (λ (cs : List Change). changed_by e cs S) (sym i.1 ∙ cell s i.0));
        },
      )
    where
      cell : (s : ℕ) → lowest (free_at e S) ≡ s
          → become e N P R 2 [] ((lowest (free_at e S), record { height = 0; items = [] }) ∷ []) ≡ become e N P R 2 [] (cells_of (empty_blob s))
      cell s q = unfold empty_blob cells_of cells in rw q

  -- the record of a slot that held a cell and holds none
  gone_line : (S' : Store) (x : ℕ) (old new : List (ℕ × Cell)) → 1 ≤ times x (cell_slots old) → times x (cell_slots new) ≡ 0
      → Turns e S S' 1 x (held old x) (held new x) → record_at S'.records x ≡ record_of 0 (recorded R x)
  unfolding Turns
  gone_line S' x old new h z t =
      let (c, q) = held_some old x h in
      let u : Turns e S S' 1 x (just c) nothing =
      subst (λ (o : Held). Turns e S S' 1 x o nothing) q (subst (λ (n : Held). Turns e S S' 1 x (held old x) n) (held_none new x z) t) in
      u.1

  -- such a slot is usable, if it has a version left
  free_again : (S' : Store) (x : ℕ) → slots_at e S' ≡ N → x < N → recorded R x < last_version → record_at S'.records x ≡ record_of 0 (recorded R x)
      → Memᴰ x (free_at e S')
  unfolding usable usable_slot last_version
  free_again S' x n low young line =
      let v : recorded S'.records x ≡ recorded R x = recorded_of_lem S'.records x 0 (recorded R x) line (omega arith) in
      let s : state S'.records x ≡ 0 = state_of_lem S'.records x 0 (recorded R x) line in
      in_filter (usable_slot S'.records) (true_both (eqb (state S'.records x) 0) _ (eq-eqb (state S'.records x) 0 s)
      (lt-ltb (recorded S'.records x) last_version (omega arith))) (in_range 0 (slots_at e S') x (omega arith) (omega arith))

  -- so are all that a blob leaves
  freed_again : (S' : Store) (b : Blob) (new : List (ℕ × Cell)) (left : List ℕ) → ((x : ℕ) → (Memᴰ x left → ⊥) → times x (cell_slots new) ≡ 0)
      → Lengths e P R → Lies e N P R b → S' ≡ changed_by e (become e N P R 1 (cells_of b) new) S → Freed e S S' b left
  unfolding slots_in become cell_slots slots_of
  freed_again S' b new left none l lay q x k out young =
      let low : x < N = lies_within e N P R b lay x (member_times x k) in
      let n : slots_at e S' ≡ N =
      ap (λ (T : Store). length T.pool / e.size) q
      ∙ ap (λ (n : ℕ). n / e.size) (then_pool e N S 1 (held (cells_of b)) (held new) l.whole l.lines) in
      free_again S' x n low young
      (gone_line S' x (cells_of b) new (member_times x k) (none x out) (all_turn e S S' 1 (cells_of b) new l q x low))

  -- a call that turned a blob into another
  module _ {r : ℕ} {Q : (old new : Blob) → Type 0} (cs : List Change) (c : again.Became e S (changed_by e cs S) r Q) (S' : Store)
      (q : S' ≡ changed_by e cs S) (o : Opens e P R) where
    turned_turns : Became e S S' 1 (c.blob ∷ []) (c.made ∷ []) (cells_of c.blob) (cells_of c.made)
    turned_turns = record {
      before = c.before;
      after = c.after;
      was = pool_is e S (c.before ++ (c.blob ∷ c.after)) o c.was;
      is = subst (λ (T : Store). Passes e T (c.before ++ (c.made ∷ c.after))) (sym q) (good_is e (changed_by e cs S) _ c.good);
      slots = all_turn e S S' 1 (cells_of c.blob) (cells_of c.made) (sized_lengths e P R o.sized) (q ∙ c.next);
    }

  -- write
  pub write_turns : (r offset : ℕ) (d vs : List ℕ) → says e S (write r offset d) ≡ yields vs
      → (b b' : Blob) × (root_of b ≡ r) × (root_of b' ≡ r) × (offset + length d ≤ length_of b)
      × (content_of b' ≡ pasted offset d (content_of b)) × (slots_of b' ≡ slots_of b)
      × Became e S (perform e S (write r offset d)) 1 (b ∷ []) (b' ∷ []) (cells_of b) (cells_of b')
  unfolding perform write_call length_of
  write_turns r offset d vs h =
      let (a, cs, q, v) = said_done no_number (write_call e P R r offset d) vs (sym (says_write e S r offset d) ∙ h) in
      let c = write_done e p S r offset d q in (
        c.blob,
        c.made,
        c.at,
        c.stays,
        c.bytes.0,
        c.bytes.1,
        c.bytes.2,
        turned_turns cs c (perform e S (write r offset d)) (done_after (write_call e P R r offset d) a cs q) (opened_done e P R _ q).0,
      )

  -- resize
  pub resize_turns : (r len : ℕ) (vs : List ℕ) → says e S (resize r len) ≡ yields vs
      → (b b' : Blob) × (root_of b ≡ r) × (root_of b' ≡ r) × (b' ≡ resized e len (free_at e S) b) × (content_of b' ≡ padded len (content_of b))
      × ((x : ℕ) → Memᴰ x (slots_of b') → Memᴰ x (slots_of b) ⊎ Memᴰ x (take (new_at e S len b) (free_at e S)))
      × (length_of b ≤ len → (x : ℕ) → Memᴰ x (slots_of b) ⊎ Memᴰ x (take (new_at e S len b) (free_at e S)) → Memᴰ x (slots_of b'))
      × Became e S (perform e S (resize r len)) 1 (b ∷ []) (b' ∷ []) (cells_of b) (cells_of b')
      × Freed e S (perform e S (resize r len)) b (slots_of b')
  unfolding perform resize_call cell_slots slots_of
  resize_turns r len vs h =
      let (a, cs, q, v) = said_done no_number (resize_call e P R r len) vs (sym (says_resize e S r len) ∙ h) in
      let c = resize_done e p S r len q in
      let b : Blob = c.blob in
      let o = (opened_done e P R _ q).0 in
      let lay = among_lies e N P R c.before c.after b c.was in
      let s : Shaped e b = lay.shape in
      let is : c.made ≡ resized e len (free_at e S) b = c.bytes.1 in
      let few : new_at e S len b ≤ length (free_at e S) = c.bytes.2 in (
        b,
        c.made,
        c.at,
        c.stays,
        is,
        c.bytes.0,
        (λ x m. resized_from e p.some p.two b s len (free_at e S) N P R few x (rw is at m)),
        (λ more x m. rw is (times_member x (slots_of (resized e len (free_at e S) b))
            (omega (
              arith,
              resized_taken e p.some p.two b s len (free_at e S) N P R more few x,
              either x (slots_of b) (take (new_at e S len b) (free_at e S)) m,
            )))),
        turned_turns cs c (perform e S (resize r len)) (done_after (resize_call e P R r len) a cs q) o,
        freed_again (perform e S (resize r len)) b (cells_of c.made) (slots_of c.made) (none (slots_of c.made))
            (sized_lengths e P R o.sized) lay (done_after (resize_call e P R r len) a cs q ∙ c.next),
      )
    where
      either : (x : ℕ) (l f : List ℕ) → Memᴰ x l ⊎ Memᴰ x f → 1 ≤ times x l + times x f
      either x l f (inl m) = omega (arith, member_times x m)
      either x l f (inr m) = omega (arith, member_times x m)

      none : (l : List ℕ) (x : ℕ) → (Memᴰ x l → ⊥) → times x l ≡ 0
      none l x out = by_times x l (λ k. absurd (out (times_member x l k))) (λ z. z)

  -- delete
  pub delete_turns : (r : ℕ) (vs : List ℕ) → says e S (delete r) ≡ yields vs
      → (b : Blob) × (root_of b ≡ r) × Became e S (perform e S (delete r)) 1 (b ∷ []) [] (cells_of b) [] × Freed e S (perform e S (delete r)) b []
  unfolding perform delete_call delete_in delete_on cell_slots slots_of
  delete_turns r vs h =
      let (a, cs, q, v) = said_done no_number (delete_call e P R r) vs (sym (says_delete e S r) ∙ h) in
      let (o, w) = opened_done e P R _ q in
      let l = sized_lengths e P R o.sized in
      let c = changing_done e p N P R l.whole r (delete_on e N P R) w in
      let m = c.among in
      let g = delete_done e p S r q in
      let i = done_same c.then in
      let one = pool_one e N P R (m.before ++ (m.blob ∷ m.after)) (g.before ++ (g.blob ∷ g.after)) m.was g.was in
      let same : m.blob ≡ g.blob =
      (done_same (sym (blob_met r (λ b. done b []) m.before m.blob m.after (among_others e N P R r c.blobs m).0 m.at)
      ∙ ap (with_blob r (λ b. done b [])) one ∙ blob_met r (λ b. done b []) g.before g.blob g.after g.others.0 g.at)).0 in
      let next : perform e S (delete r) ≡ changed_by e (become e N P R 1 (cells_of g.blob) []) S =
      done_after (delete_call e P R r) a cs q ∙ ap (λ (cs : List Change). changed_by e cs S)
      (sym i.1 ∙ ap (λ (b : Blob). become e N P R 1 (cells_of b) []) same) in
      let slots = all_turn e S (perform e S (delete r)) 1 (cells_of g.blob) [] l next in
      let lay = among_lies e N P R g.before g.after g.blob g.was in (
        g.blob,
        g.at,
        record {
          before = g.before;
          after = g.after;
          was = pool_is e S (g.before ++ (g.blob ∷ g.after)) o g.was;
          is = subst (λ (T : Store). Passes e T (g.before ++ g.after)) (sym (done_after (delete_call e P R r) a cs q))
              (good_is e (changed_by e cs S) _ g.good);
          slots = slots;
        },
        freed_again (perform e S (delete r)) g.blob [] [] (λ x k. times_none x) l lay next,
      )
