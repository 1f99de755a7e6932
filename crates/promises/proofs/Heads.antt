-- The reading head's promise. A run of askings, joined, is one piece, and a piece is what one read gives; so where length and read answer alike on two pools, the
-- head opens and hands out alike, and demand three's sentence follows from those of length and read.
use mathlib.Core.Path.{◌≡◌, refl, ap, ap₂, ◌∙◌, sym}
use mathlib.Core.Bool.{true}
use mathlib.Core.List.{List, [], ◌∷◌, Memᴰ}
use Prim.Native.Nat.{ℕ, ◌+◌, ◌-◌, ◌≤◌, min}
use native.Mathlib.Nat.{sub-zero, zero-add}
use native.Mathlib.Omega.{arith}
use lib.ListN.{length}
use Rattle.meaning.specs.declared.Edition.{Edition}
use Rattle.meaning.specs.declared.Refusal.{Refusal}
use Rattle.meaning.specs.Lists.{joined}
use Rattle.meaning.specs.Edition as edition
use Rattle.meaning.specs.Edition.{Proper}
use Rattle.meaning.specs.Bytes.{state}
use Rattle.meaning.specs.Tree.{Blob, length_of}
use Rattle.meaning.specs.Refusals.{at}
use Rattle.meaning.specs.Walk.{fine}
use Rattle.meaning.specs.Change.{Change, Store}
use Rattle.meaning.specs.Calls.{done, sized, length_call}
use Rattle.meaning.specs.Answers.{yields, refuses}
use Rattle.meaning.specs.Run.{Call, tell_length, read, says, run}
use Rattle.meaning.specs.Head.{head_at, head_of, open_head, height_at, piece, handed, handed_out, moved, pieces, sum}
use Rattle.laws.proofs.Editions.{one_proper}
use Rattle.laws.proofs.Pieces.{piece_none, pieces_are, pieces_last}
use Rattle.laws_history.proofs.Demand.{root_within}
use Rattle.laws_sound.proofs.again.Outcomes.{sized_lengths}
use Rattle.promises.proofs.Said.{said_by, one_number, all_bytes, said_refused, said_done, says_length, says_read}
use Rattle.promises.proofs.Stores.{moment_passes, gives_length}
use Rattle.promises.proofs.Three.{reading_told}
use Rattle.promises.proofs.HeadReads.{piece_read}
use Rattle.promises.specs.Demands.{slots_at, blob_at, reader, Told, Filled}
use Rattle.promises.specs.Heads.{opens, hands_out, Next, HeadTold, ReadingHead}

-- an opening that says a length is done with it
opened_done : (e : Edition) (S : Store) (r n : ℕ) → opens e S r ≡ yields (n ∷ []) → (cs : List Change) × (length_call e S.pool S.records r ≡ done n cs)
opened_done e S r n h =
    let (m, cs, d, v) = said_done one_number (length_call e S.pool S.records r) (n ∷ []) (sym (says_length e S r) ∙ h) in
    let same : m ≡ n = cc in
    (cs, d ∙ ap (λ (k : ℕ). done k cs) same)

-- its head stands at the blob's start
opened_head : (e : Edition) (S : Store) (r n : ℕ) {cs : List Change} → length_call e S.pool S.records r ≡ done n cs → open_head e S.pool S.records r ≡ head_at r 0 n
unfolding open_head head_of
opened_head e S r n h = ap (head_of r) h

-- a refused one has nothing left
refused_head : (e : Edition) (S : Store) (r : ℕ) (q : Refusal) → opens e S r ≡ refuses q → open_head e S.pool S.records r ≡ head_at r 0 0
unfolding open_head head_of
refused_head e S r q h = ap (head_of r) (said_refused one_number (length_call e S.pool S.records r) q (sym (says_length e S r) ∙ h))

module _ (e : Edition) (p : Proper e) (S : Store) (r : ℕ) where
  abbrev P : List ℕ
  P = S.pool

  abbrev high : ℕ
  high = height_at e P r

  module _ (n : ℕ) (opening : opens e S r ≡ yields (n ∷ [])) where
    is : open_head e P S.records r ≡ head_at r 0 n
    is = opened_head e S r n (opened_done e S r n opening).1

    -- a piece within the length is what a read says
    piece_said : (at m : ℕ) → at + m ≤ n → says e S (read r at m) ≡ yields (piece e P high r at m)
    unfolding said_by
    piece_said at m l = says_read e S r at m ∙ ap (said_by all_bytes) (piece_read e p P S.records r n (opened_done e S r n opening).1 at m l)

    next : (sizes : List ℕ) (k : ℕ) → Next e S r n sizes k
    unfolding handed
    next sizes k =
        let z : 0 + sum sizes ≡ sum sizes = zero-add (sum sizes) in
        let at = min (sum sizes) n in (
          piece e P high r at (min k (n - at)),
          rw is (pieces_last e P r n sizes k 0 (omega arith) ∙ rw z),
          piece_said at (min k (n - at)) (omega arith),
        )

    joined_said : (sizes : List ℕ) → says e S (read r 0 (min (sum sizes) n)) ≡ yields (joined (hands_out e S r sizes))
    joined_said sizes =
        let z : n - 0 ≡ n = sub-zero n in
        piece_said 0 (min (sum sizes) n) (omega arith)
        ∙ ap yields (sym (ap (λ h. joined (pieces e P h sizes)) is ∙ pieces_are e P r n sizes 0 ∙ rw z))

  nothing : (q : Refusal) → opens e S r ≡ refuses q → (sizes : List ℕ) → joined (hands_out e S r sizes) ≡ []
  nothing q h sizes =
      let z : min (sum sizes) (0 - 0) ≡ 0 = omega arith in
      ap (λ h. joined (pieces e P h sizes)) (refused_head e S r q h) ∙ pieces_are e P r 0 sizes 0 ∙ rw z (piece_none e P high r 0)

-- Two stores whose length and reads of a root say the same: the head opens and hands out the same. Each piece is what one read says, piece by piece.
module _ (e : Edition) (p : Proper e) (S S* : Store) (r n : ℕ) (opening : opens e S r ≡ yields (n ∷ [])) (opening* : opens e S* r ≡ yields (n ∷ []))
    (alike : (at m : ℕ) → says e S* (read r at m) ≡ says e S (read r at m)) where
  same_piece : (at m : ℕ) → at + m ≤ n → piece e S*.pool (height_at e S*.pool r) r at m ≡ piece e S.pool (height_at e S.pool r) r at m
  same_piece at m l =
      let q : yields (piece e S*.pool (height_at e S*.pool r) r at m) ≡ yields (piece e S.pool (height_at e S.pool r) r at m) =
      sym (piece_said e p S* r n opening* at m l) ∙ alike at m ∙ piece_said e p S r n opening at m l in
      cc

  within : (at k : ℕ) → at ≤ n → at + handed n at k ≤ n
  unfolding handed
  within at k l = omega arith

  same_pieces_lem : (sizes : List ℕ) (at : ℕ) → at ≤ n → pieces e S*.pool (head_at r at n) sizes ≡ pieces e S.pool (head_at r at n) sizes
  unfolding pieces handed_out moved
  same_pieces_lem [] at l = refl
  same_pieces_lem (k ∷ ks) at l =
      ap₂ ◌∷◌ (same_piece at (handed n at k) (within at k l)) (same_pieces_lem ks (at + handed n at k) (within at k l))

  same_handed : (sizes : List ℕ) → hands_out e S* r sizes ≡ hands_out e S r sizes
  same_handed sizes =
      ap (λ h. pieces e S*.pool h sizes) (is e p S* r n opening*) ∙ same_pieces_lem sizes 0 (omega arith)
      ∙ sym (ap (λ h. pieces e S.pool h sizes) (is e p S r n opening))

-- demand three's sentence, from what length and read tell
module _ (e : Edition) (p : Proper e) (S : Store) (P* : List ℕ) (r : ℕ) (b : Blob) (length_told : Told e S P* b (tell_length r))
    (read_told : (at m : ℕ) → Told e S P* b (read r at m)) (n : ℕ) (opening : opens e S r ≡ yields (n ∷ [])) where
  head_told : HeadTold e S P* r b
  head_told = record {
    answers = λ sizes. (
      (λ h. length_told.answers.0 h.0),
      (λ was.
          let q = length_told.answers.1 was in
          (q, same_handed e p S (reader P* S) r n opening (q ∙ opening) (λ at m. (read_told at m).answers.1 was) sizes)),
    );
    refuses = λ other.
        let (why, s, first, low, most, q) = length_told.refuses other in
        (why, s, first, low, most, q, nothing e p (reader P* S) r (at why s) q);
  }

module _ (e : Edition) (p : Proper e) (S₀ : Store) (good : sized e S₀.pool S₀.records ≡ true) (calls : List Call) (S : Store)
    (moment : Memᴰ S (run e S₀ calls)) (P* : List ℕ) (size : length P* ≡ length S.pool) (fill : Filled e S₀ calls P*) where
  told : (r : ℕ) → state S.records r ≡ 2 → (b : Blob) × (seen : List ℕ) × (blob_at e S r ≡ fine b seen) × HeadTold e S P* r b
  told r root =
      let (b, seen, found, tells) = reading_told e p S₀ good calls S moment P* size fill r root in
      let of_length = tells 0 0 0 (tell_length r) (Memᴰ.head refl) in
      let of-read : (at m : ℕ) → Told e S P* b (read r at m) = λ at m. tells at m 0 (read r at m) (Memᴰ.tail (Memᴰ.head refl)) in
      let (bs, (o, passed)) = moment_passes e p S₀ good calls S moment in
      let low = root_within S.records (slots_at e S) r (sized_lengths e S.pool S.records o.lengths).lines root in
      let opening : opens e S r ≡ yields (length_of b ∷ []) = gives_length e p S r b (o, (low, root), (seen, found)) in
      (b, seen, found, head_told e p S P* r b of_length of-read (length_of b) opening)

-- the promise, of every proper edition
pub reading_head : (e : Edition) → Proper e → ReadingHead e
reading_head e p = record {
  next = λ S r n opening. next e p S r n opening;
  all_joined = λ S r n opening. joined_said e p S r n opening;
  nothing = λ S r. nothing e p S r;
  told = told e p;
}

-- and of document 01's
pub reading_head_of_one : ReadingHead edition.one
reading_head_of_one = reading_head edition.one one_proper
