-- Demand three, from the laws of histories: at every moment of a run the store passes every check, so nothing need be assumed of the moment.
use mathlib.Core.Path.{◌≡◌, sym, ap, subst, ◌∙◌}
use mathlib.Core.Logic.{◌↔◌, ⊎_elim}
use mathlib.Core.Bool.{true}
use mathlib.Core.List.{List, [], ◌∷◌, Memᴰ}
use Prim.Native.Nat.{ℕ, ◌+◌, ◌*◌, ◌≤◌}
use lib.ListN.{length}
use Rattle.meaning.specs.declared.Edition.{Edition}
use Rattle.meaning.specs.Edition.{Proper}
use Rattle.meaning.specs.Bytes.{state}
use Rattle.meaning.specs.Tree.{Blob, slots_of}
use Rattle.meaning.specs.Refusals.{at, number_of}
use Rattle.meaning.specs.Walk.{fine, blob_check, pool_check}
use Rattle.meaning.specs.Change.{Store}
use Rattle.meaning.specs.Calls.{Outcome, refused, done, slots_in, sized, audit_call}
use Rattle.meaning.specs.Answers.{yields, refuses, shown_part}
use Rattle.meaning.specs.Run.{Call, audit, tell_length, read, show_leaf, says, run}
use Rattle.meaning.specs.declared.Reason.{Reason}
use Rattle.laws.proofs.Every.{Every, every_mem, mem_every}
use Rattle.laws_history.proofs.Local.{Same}
use Rattle.laws_history.proofs.Started.{blank, held, FromRun, run_slots}
use Rattle.laws_history.proofs.Answered.{Exact, FirstOther, each_or_first}
use Rattle.laws_history.proofs.Demand.{Answers, reading_demand, audit_demand}
use Rattle.promises.proofs.Said.{said_by, one_number, all_bytes, leaf_shown, said_refused, refused_said, said_done, says_audit, says_length, says_read, says_show}
use Rattle.promises.proofs.Stores.{in_middle, moment_passes}
use Rattle.promises.specs.Demands as demands
use Rattle.promises.specs.Demands.{AsItWas, reader, Told, Filled, DemandThree}

-- the first slot that differs, in the words of the demand
first_other_lem : (e : Edition) (P P* : List ℕ) (b : Blob) (f : FirstOther e P P* (slots_of b)) → demands.FirstOther e P P* b f.slot
first_other_lem e P P* b f = (f.before, f.later, f.split, (λ x m. every_mem (Same e P P*) f.same m), f.differs)

-- where the outcomes of a call on two pools are told apart exactly by its blob's blocks, so are its answers
module _ {A : Type 0} (e : Edition) (S : Store) (P* : List ℕ) (b : Blob) (o o* : Outcome A) (x : Exact e S.pool P* S.records b o o*)
    (values values* : A → List ℕ) (agree : Every (Same e S.pool P*) (slots_of b) → said_by values* o* ≡ said_by values o) where
  abbrev P : List ℕ
  P = S.pool

  -- an answer as the writer's comes from the writer's blocks
  said_only : said_by values* o* ≡ said_by values o → Every (Same e P P*) (slots_of b)
  said_only h =
      ⊎_elim (λ all. all)
      (λ f.
      let d : Every (Same e P P*) (slots_of b) → ⊥ = λ all.
      f.differs (every_mem (Same e P P*) all
      (subst (λ (l : List ℕ). Memᴰ f.slot l) (sym f.split) (in_middle f.before f.slot f.later))) in
      let t = x.other d in
      let here = said_refused values o (at t.why t.first.slot) (sym h ∙ refused_said values* o* _ t.answer) in
      x.only (t.answer ∙ sym here))
      (each_or_first e P P* (slots_of b))

  -- otherwise refused, with the first slot that differs
  said_other : (AsItWas e P P* b → ⊥)
      → (why : Reason) × (s : ℕ) × demands.FirstOther e P P* b s × (4 ≤ number_of why) × (number_of why ≤ 7) × (said_by values* o* ≡ refuses (at why s))
  said_other d =
      let t = x.other (λ all. d (λ s m. every_mem (Same e P P*) all m)) in
      (t.why, t.first.slot, first_other_lem e P P* b t.first, t.low, t.high, refused_said values* o* _ t.answer)

  -- so the call tells both ways
  told_by : (c : Call) → says e S c ≡ said_by values o → says e (reader P* S) c ≡ said_by values* o* → Told e S P* b c
  told_by c is is* = record {
    answers = (
      (λ h s m. every_mem (Same e P P*) (said_only (sym is* ∙ h ∙ is)) m),
      (λ all. is* ∙ agree (mem_every (Same e P P*) (slots_of b) all) ∙ sym is),
    );
    refuses = λ d. let (why, s, first, low, high, q) = said_other d in (why, s, first, low, high, is* ∙ q);
  }

-- a shown leaf's answer, where the bytes shown are the same
shown_said : (e : Edition) (P P* : List ℕ) (o o* : Outcome (ℕ × ℕ)) → o* ≡ o → shown_part e P* o* ≡ shown_part e P o
    → said_by (leaf_shown e P*) o* ≡ said_by (leaf_shown e P) o
unfolding said_by shown_part
shown_said e P P* (refused r) o* q h = rw q
shown_said e P P* (done v cs) o* q h = rw q (ap (λ (l : List ℕ). yields ((e.size * v.0 + 16) ∷ v.1 ∷ l)) (rw q at h))

-- each reading call of a blob
module _ (e : Edition) (N : ℕ) (S : Store) (P* : List ℕ) (r : ℕ) (a : Answers e N S.pool P* S.records r) where
  -- length
  length_told : Told e S P* a.blob (tell_length r)
  length_told =
      told_by e S P* a.blob _ _ a.length one_number one_number
      (λ all. ap (said_by one_number) (a.length.same all))
      (tell_length r) (says_length e S r) (says_length e (reader P* S) r)

  -- read
  read_told : (offset size : ℕ) → Told e S P* a.blob (read r offset size)
  read_told offset size =
      told_by e S P* a.blob _ _ (a.read offset size) all_bytes all_bytes
      (λ all. ap (said_by all_bytes) ((a.read offset size).same all))
      (read r offset size) (says_read e S r offset size) (says_read e (reader P* S) r offset size)

  -- show a leaf
  leaf_told : (k : ℕ) → Told e S P* a.blob (show_leaf r k)
  leaf_told k =
      told_by e S P* a.blob _ _ (a.show k) (leaf_shown e S.pool) (leaf_shown e P*)
      (λ all. shown_said e S.pool P* _ _ ((a.show k).same all) (a.shown k all))
      (show_leaf r k) (says_show e S r k) (says_show e (reader P* S) r k)

  -- any of them
  told : (offset size k : ℕ) (c : Call) → Memᴰ c (tell_length r ∷ read r offset size ∷ show_leaf r k ∷ []) → Told e S P* a.blob c
  told offset size k c (Memᴰ.head q) = subst (Told e S P* a.blob) (sym q) length_told
  told offset size k c (Memᴰ.tail (Memᴰ.head q)) = subst (Told e S P* a.blob) (sym q) (read_told offset size)
  told offset size k c (Memᴰ.tail (Memᴰ.tail (Memᴰ.head q))) = subst (Told e S P* a.blob) (sym q) (leaf_told k)
  told offset size k c (Memᴰ.tail (Memᴰ.tail (Memᴰ.tail m))) = elim m [ ]

module _ (e : Edition) (p : Proper e) (S₀ : Store) (good : sized e S₀.pool S₀.records ≡ true) (calls : List Call)
    (S : Store) (moment : Memᴰ S (run e S₀ calls)) (P* : List ℕ) (size : length P* ≡ length S.pool)
    (fill : Filled e S₀ calls P*) where
  -- the filling, in the words of the laws
  filled : FromRun e S₀ calls P*
  filled x h = ⊎_elim (λ q. blank q) (λ (T, y, m, k, q). held T y m k q) (fill x h)

  -- the moment's pool check, with as many slots as the run has
  checks : (bs : List Blob) × (seen : List ℕ) × (pool_check e (slots_in e S₀.pool) S.pool S.records ≡ fine bs seen)
  checks =
      let (bs, (o, (seen, f))) = moment_passes e p S₀ good calls S moment in
      (bs, seen, ap (λ (n : ℕ). pool_check e n S.pool S.records) (sym (run_slots e p S₀ good calls S moment)) ∙ f)

  -- length, read and show
  pub reading_told : (r : ℕ) → state S.records r ≡ 2
      → (b : Blob) × (seen : List ℕ) × (blob_check e (slots_in e S.pool) S.pool S.records r ≡ fine b seen)
      × ((offset size k : ℕ) (c : Call) → Memᴰ c (tell_length r ∷ read r offset size ∷ show_leaf r k ∷ []) → Told e S P* b c)
  reading_told r root =
      let n : ℕ = slots_in e S₀.pool in
      let a = reading_demand e p S₀ good calls S moment _ _ checks.2 P* size filled r root in
      let same = run_slots e p S₀ good calls S moment in
      (a.blob, a.seen, ap (λ (n : ℕ). blob_check e n S.pool S.records r) same ∙ a.found, told e n S P* r a)

  -- the audit
  pub audit_told : ((vs : List ℕ) × (says e (reader P* S) audit ≡ yields vs)) ↔ (P* ≡ S.pool)
  unfolding said_by
  audit_told =
      let a = audit_demand e p S₀ good calls S moment _ _ checks.2 P* size filled in (
        (λ (vs, h). let (n, cs, q, v) = said_done one_number (audit_call e P* S.records) vs (sym (says_audit e (reader P* S)) ∙ h) in a.only n cs q),
        (λ q. (_, says_audit e (reader P* S) ∙ ap (said_by one_number) (a.same q))),
      )

-- demand three
pub three : (e : Edition) → Proper e → DemandThree e
three e p = record {
  told = λ S₀ good calls S m P* size fill.
      (reading_told e p S₀ good calls S m P* size fill, audit_told e p S₀ good calls S m P* size fill);
}
