-- The customer's three demands, in the words of document 01's definitions and of nothing else. Each record below is one demand, each field of it
-- one sentence; crates/promises/proofs/Demands.antt shows all of them, as `demand_one`, `demand_two` and `demand_three`, of every proper edition.
-- What call c answers on store S is `says e S c`: the number and values of the answer that the code gives, by the maps of Answers that `one_answer`
-- speaks of, such as `value_said (answer_of (length_call ..))`; a read's also has the bytes put in the output, show's the bytes shown.
use Rattle.std.specs.Prelude.{◌≡◌, ◌↔◌, ◌⊎◌, true, false, ℕ, zero, suc, ◌+◌, ◌-◌, ◌^◌, ◌≤◌, ◌<◌, length, get_or, take, replicate, None, Result, Some}
use mathlib.Core.List.{List, [], ◌∷◌, ◌++◌, map, Memᴰ}
use Rattle.meaning.specs.declared.Reason.TheVariants.{BadRecord, NoRoom, NotARoot, OutOfRange, WornOut, WrongLengths}
use Rattle.meaning.specs.Lists.{part, pasted, padded}
use Rattle.meaning.specs.Bytes.{Cell, encoded, block, record_at, record_of, state, recorded, sound_record, last_version}
use Rattle.meaning.specs.Tree.{Tree, Blob, root_of, content_of, leaves_of, cells_of, slots_of, length_of, Held, nothing, just, held}
use Rattle.meaning.specs.Shape.{leaves_for, height_for, total, Shaped}
use Rattle.meaning.specs.Refusals.{at, nowhere, number_of}
use Rattle.meaning.specs.Walk.{Found, fault, fine, and_then, blob_check, pool_check}
use Rattle.meaning.specs.Change.{Store}
use Rattle.meaning.specs.Resize as resizing
use Rattle.meaning.specs.Calls.{Outcome, slots_in, sized, usable, live, new_blocks, read_call, after_wipe}
use Rattle.meaning.specs.Answers.{wipe_answer, data_start, Ends, Wipes, Reads, Said, yields, refuses, value_said, done_said, leaf_said}
use Rattle.meaning.specs.Run.{Call, create, audit, write, resize, delete, tell_length, read, show_leaf, says, perform, run, book_of, blocks_of}
use Rattle.meaning.specs.declared.Edition.{Edition}
use Rattle.meaning.specs.declared.Refusal.{Refusal}
use Rattle.meaning.specs.declared.Reason.{Reason}

-- a store's slots, its two checks, and its usable free slots, rising
abbrev pub slots_at : Edition → Store → ℕ
slots_at e S = slots_in e S.pool

abbrev pub blob_at : Edition → Store → ℕ → Found Blob
blob_at e S r = blob_check e (slots_at e S) S.pool S.records r

abbrev pub pool_at : Edition → Store → Found (List Blob)
pool_at e S = pool_check e (slots_at e S) S.pool S.records

abbrev pub free_at : Edition → Store → List ℕ
free_at e S = usable e (slots_at e S) S.pool S.records

abbrev pub new_at : Edition → Store → (len : ℕ) → Blob → ℕ
new_at e S len b = new_blocks e (slots_at e S) S.pool S.records len b

-- DEMAND ONE. Any pool bytes, records, offsets and lengths may come in; every call ends with its result or with a refusal from document 01's table,
-- given exactly when the table says, and a refused call changes no byte.

-- the root that a call names, if it names one
unfoldable pub named : Call → List ℕ
named create = []
named audit = []
named (write r offset d) = r ∷ []
named (resize r len) = r ∷ []
named (delete r) = r ∷ []
named (tell_length r) = r ∷ []
named (read r offset size) = r ∷ []
named (show_leaf r k) = r ∷ []

abbrev pub IsRoot : Edition → Store → ℕ → Type 0
IsRoot e S r = (r < slots_at e S) × (state S.records r ≡ 2)

-- the walk of a call: the blob check for length, read and show, the pool check for the others; with the blobs that it finds
unfoldable pub walked : Edition → Store → Call → Found (List Blob)
walked e S create = pool_at e S
walked e S audit = pool_at e S
walked e S (write r offset d) = pool_at e S
walked e S (resize r len) = pool_at e S
walked e S (delete r) = pool_at e S
walked e S (tell_length r) = and_then (blob_at e S r) (λ b seen. fine (b ∷ []) seen)
walked e S (read r offset size) = and_then (blob_at e S r) (λ b seen. fine (b ∷ []) seen)
walked e S (show_leaf r k) = and_then (blob_at e S r) (λ b seen. fine (b ∷ []) seen)

-- refusals 1 and 2 do not hold
pub record Opened (e : Edition) (S : Store) : Type 0 where
  pub lengths : sized e S.pool S.records ≡ true
  pub layout : (s : ℕ) → s < slots_at e S → sound_record (record_at S.records s) ≡ true

-- root r's blob is b, by the blob check alone, as the reading calls make it: refusals 1 to 9 do not hold of them
abbrev pub Finds : Edition → Store → ℕ → Blob → Type 0
Finds e S r b = Opened e S × IsRoot e S r × ((seen : List ℕ) × (blob_at e S r ≡ fine b seen))

-- refusals 1 to 9 do not hold of call c, which names root r, and b is that root's blob: the blob check finds it, and the call's own walk passes
pub record Met (e : Edition) (S : Store) (c : Call) (r : ℕ) (b : Blob) : Type 0 where
  pub finds : Finds e S r b
  pub passes : (bs : List Blob) × (seen : List ℕ) × (walked e S c ≡ fine bs seen)

-- blob b has a block at the last version
abbrev pub Worn : Store → Blob → Type 0
Worn S b = (s : ℕ) × Memᴰ s (slots_of b) × (last_version ≤ recorded S.records s)

-- the table: call c is refused with q. Each case says when, and that none before it in the order holds.
pub data Table (e : Edition) (S : Store) (c : Call) (q : Refusal) : Type 0 where
  refusal_1 : sized e S.pool S.records ≡ false → q ≡ nowhere WrongLengths → Table e S c q
  refusal_2 : (s : ℕ) → sized e S.pool S.records ≡ true → s < slots_at e S → sound_record (record_at S.records s) ≡ false
      → ((t : ℕ) → t < s → sound_record (record_at S.records t) ≡ true) → q ≡ at BadRecord s → Table e S c q
  refusal_3 : (r : ℕ) → Opened e S → named c ≡ r ∷ [] → (IsRoot e S r → ⊥) → q ≡ nowhere NotARoot → Table e S c q
  refusals_4_to_9 : Opened e S → ((r : ℕ) → named c ≡ r ∷ [] → IsRoot e S r) → walked e S c ≡ fault q → Table e S c q
  refusal_12_write : (r offset : ℕ) (d : List ℕ) (b : Blob) → c ≡ write r offset d → Met e S c r b → Worn S b → q ≡ nowhere WornOut → Table e S c q
  refusal_12_resize : (r len : ℕ) (b : Blob) → c ≡ resize r len → Met e S c r b → Worn S b → q ≡ nowhere WornOut → Table e S c q
  refusal_10_write : (r offset : ℕ) (d : List ℕ) (b : Blob) → c ≡ write r offset d → Met e S c r b → (Worn S b → ⊥)
      → length_of b < offset + length d → q ≡ nowhere OutOfRange → Table e S c q
  refusal_10_read : (r offset size : ℕ) (b : Blob) → c ≡ read r offset size → Met e S c r b → length_of b < offset + size → q ≡ nowhere OutOfRange → Table e S c q
  refusal_10_show : (r k : ℕ) (b : Blob) → c ≡ show_leaf r k → Met e S c r b → length (leaves_of b) ≤ k → q ≡ nowhere OutOfRange → Table e S c q
  refusal_11_resize : (r len : ℕ) (b : Blob) → c ≡ resize r len → Met e S c r b → (Worn S b → ⊥) → length (free_at e S) < new_at e S len b
      → q ≡ nowhere NoRoom → Table e S c q
  refusal_11_create : (bs : List Blob) (seen : List ℕ) → c ≡ create → Opened e S → pool_at e S ≡ fine bs seen → length (free_at e S) < 1
      → q ≡ nowhere NoRoom → Table e S c q

abbrev pub OneToOne : {X : Type 0} → (X → Said) → Type 0
OneToOne {X} said = (a b : X) → said a ≡ said b → a ≡ b

pub record DemandOne (e : Edition) : Type 1 where
  -- every call ends with its result or a refusal, numbered 1 to 12
  pub ends : (S : Store) (c : Call) → ((vs : List ℕ) × (says e S c ≡ yields vs))
      ⊎ ((q : Refusal) × (says e S c ≡ refuses q) × (1 ≤ number_of q.reason) × (number_of q.reason ≤ 12))
  -- given exactly when the table says
  pub exactly : (S : Store) (c : Call) (q : Refusal) → (says e S c ≡ refuses q) ↔ Table e S c q
  -- a walk's refusals are numbered 4 to 9, and name a slot
  pub walks : (S : Store) (c : Call) (q : Refusal) → walked e S c ≡ fault q → (4 ≤ number_of q.reason) × (number_of q.reason ≤ 9) × ((s : ℕ) × (q.named ≡ Some s))
  -- a refused call changes no byte
  pub untouched : (S : Store) (c : Call) (q : Refusal) → says e S c ≡ refuses q → perform e S c ≡ S
  -- nor does a refused read any byte of the lent output
  pub unfilled : (S : Store) (r offset size : ℕ) (q : Refusal) → says e S (read r offset size) ≡ refuses q → (x : Result (Unit {0}) Refusal) (out out' : List ℕ)
      → Reads (read_call e S.pool S.records r offset size) x out out' → out' ≡ out
  -- wipe checks 1 only
  pub wipe : (S : Store) (q : Refusal) → (done_said (wipe_answer e S.pool S.records) ≡ refuses q) ↔ (sized e S.pool S.records ≡ false) × (q ≡ nowhere WrongLengths)
  -- it leaves the pool all zeros, each record free, version 0, and as many of both as there were; refused, the store as it was
  pub wiping : (S : Store) → sized e S.pool S.records ≡ true
      → ((after_wipe e S).pool ≡ replicate (length S.pool) 0) × (length (after_wipe e S).records ≡ length S.records)
      × ((s : ℕ) → s < slots_at e S → record_at (after_wipe e S).records s ≡ record_of 0 0)
  pub unwiped : (S : Store) → sized e S.pool S.records ≡ false → after_wipe e S ≡ S
  -- two outcomes that meet one promise are equal: answer, pool and records; answer and output
  pub one_end : {A X : Type 0} (say : Outcome A → X) (o : Outcome A) (P R : List ℕ) (x y : X) (P' R' P'' R'' : List ℕ)
      → Ends e say o P R x P' R' → Ends e say o P R y P'' R'' → (x ≡ y) × (P' ≡ P'') × (R' ≡ R'')
  pub one_wipe : (P R : List ℕ) (x y : Result (Unit {0}) Refusal) (P' R' P'' R'' : List ℕ) → Wipes e P R x P' R' → Wipes e P R y P'' R'' → (x ≡ y) × (P' ≡ P'') × (R' ≡ R'')
  pub one_read : (o : Outcome (List ℕ)) (x y : Result (Unit {0}) Refusal) (out out' out'' : List ℕ) → Reads o x out out' → Reads o y out out'' → (x ≡ y) × (out' ≡ out'')
  -- and an answer is one of the paper's: no two answers have the same reason and values, and no two reasons have the same number
  pub one_answer : OneToOne value_said × OneToOne done_said × OneToOne leaf_said
  pub numbers_differ : (a b : Reason) → number_of a ≡ number_of b → a ≡ b

-- DEMAND TWO. Each call gives exactly what document 01's definitions give: bytes, leaf and block counts, versions, slots taken and freed; a length
-- has one shape only.

-- a blob's shape: the tree with its slots and bytes put to zero
unfoldable pub bare_tree : (h : ℕ) → Tree h → Tree h
bare_tree zero t = (0, replicate (length t.1) 0)
bare_tree (suc h) t = (0, map (bare_tree h) t.1)

unfoldable pub shape_of : Blob → Blob
shape_of b = record { height = b.height; tree = bare_tree b.height b.tree }

-- a store that passes every check, with its blobs
abbrev pub Passes : Edition → Store → List Blob → Type 0
Passes e S bs = Opened e S × ((seen : List ℕ) × (pool_at e S ≡ fine bs seen))

-- blobs as a book has them: each one's root and length
abbrev pub as_book : List Blob → List (ℕ × ℕ)
as_book bs = map (λ b. (root_of b, length_of b)) bs

-- slot x after a call, by what it held and holds: as it was; written, block and record alike, at the old version plus one; zeros, its version kept
abbrev pub Same : Edition → (S S' : Store) → ℕ → Type 0
Same e S S' x = (block e S'.pool x ≡ block e S.pool x) × (record_at S'.records x ≡ record_at S.records x)

abbrev pub Written : Edition → (S S' : Store) → (state : ℕ) → ℕ → Cell → Type 0
Written e S S' st x c =
    (block e S'.pool x ≡ encoded e c x (recorded S.records x + 1)) × (record_at S'.records x ≡ record_of st (recorded S.records x + 1))

unfoldable pub Turns : Edition → (S S' : Store) → (taken : ℕ) → ℕ → (old new : Held) → Type 0
Turns e S S' taken x nothing nothing = Same e S S' x
Turns e S S' taken x nothing (just c) = Written e S S' taken x c
Turns e S S' taken x (just a) nothing =
    (block e S'.pool x ≡ replicate e.size 0) × (record_at S'.records x ≡ record_of 0 (recorded S.records x))
Turns e S S' taken x (just a) (just c) = ((a ≡ c) × Same e S S' x) ⊎ ((a ≡ c → ⊥) × Written e S S' (state S.records x) x c)

-- from store S to S' the blobs gone became the blobs made, between others that stay, and each slot turned as its blocks did
pub record Became (e : Edition) (S S' : Store) (taken : ℕ) (gone made : List Blob) (old new : List (ℕ × Cell)) : Type 0 where
  pub before : List Blob
  pub after : List Blob
  pub was : Passes e S (before ++ (gone ++ after))
  pub is : Passes e S' (before ++ (made ++ after))
  pub slots : (x : ℕ) → x < slots_at e S → Turns e S S' taken x (held old x) (held new x)

-- each slot of b but those left may be taken again, unless its version is the last
abbrev pub Freed : Edition → (S S' : Store) → Blob → (left : List ℕ) → Type 0
Freed e S S' b left = (x : ℕ) → Memᴰ x (slots_of b) → (Memᴰ x left → ⊥) → recorded S.records x < last_version → Memᴰ x (free_at e S')

pub record DemandTwo (e : Edition) : Type 0 where
  -- what a check finds has its shape, and so its counts: leaves, least height, block total; a length has one shape only
  pub shaped : (S : Store) (r : ℕ) (b : Blob) (seen : List ℕ) → Opened e S → r < slots_at e S → blob_at e S r ≡ fine b seen → Shaped e b
  pub leaves : (b : Blob) → Shaped e b → length (leaves_of b) ≡ leaves_for e.leaf (length_of b)
  pub height : (b : Blob) → Shaped e b → b.height ≡ height_for e.fan (length (leaves_of b))
  pub least : (n : ℕ) → (n ≤ e.fan ^ height_for e.fan n) × ((d : ℕ) → n ≤ e.fan ^ d → height_for e.fan n ≤ d)
  pub blocks : (b : Blob) → Shaped e b → length (slots_of b) ≡ total e.fan (leaves_for e.leaf (length_of b))
  pub one_shape : (a b : Blob) → Shaped e a → Shaped e b → length_of a ≡ length_of b → shape_of a ≡ shape_of b
  -- length, read and show of a root give its blob's length, its bytes and its leaf's bytes as they lie in the pool: where they start, how many, and which
  pub gives_length : (S : Store) (r : ℕ) (b : Blob) → Finds e S r b → says e S (tell_length r) ≡ yields (length_of b ∷ [])
  pub gives_bytes : (S : Store) (r : ℕ) (b : Blob) → Finds e S r b → (offset size : ℕ) → offset + size ≤ length_of b
      → says e S (read r offset size) ≡ yields (part offset size (content_of b))
  pub gives_leaf : (S : Store) (r : ℕ) (b : Blob) → Finds e S r b → (k s : ℕ) (d : List ℕ) → k < length (leaves_of b)
      → get_or (leaves_of b) k (0, []) ≡ (s, d) → says e S (show_leaf r k) ≡ yields (data_start e s ∷ length d ∷ d)
  -- what a read says fills the whole lent output: as many bytes as were asked for
  pub filled : (S : Store) (r offset size : ℕ) (d : List ℕ) → says e S (read r offset size) ≡ yields d → (x : Result (Unit {0}) Refusal) (out out' : List ℕ)
      → Reads (read_call e S.pool S.records r offset size) x out out' → (out' ≡ d) × (length d ≡ size)
  -- each blob that the pool check finds, the blob check finds from its root
  pub alive : (S : Store) (bs : List Blob) (b : Blob) → Passes e S bs → Memᴰ b bs → Finds e S (root_of b) b
  -- audit gives the count of live slots, on any store that passes: the sum, over its blobs, of the block total for each length
  pub counted : (S : Store) (bs : List Blob) → Passes e S bs
      → (says e S audit ≡ yields (length (live e (slots_at e S) S.pool S.records) ∷ []))
      × (length (live e (slots_at e S) S.pool S.records) ≡ blocks_of e (as_book bs))
  -- create: the lowest usable slot becomes an empty blob
  pub created : (S : Store) (s : ℕ) → says e S create ≡ yields (s ∷ [])
      → (b : Blob) × (rest : List ℕ) × (free_at e S ≡ s ∷ rest) × (root_of b ≡ s) × (content_of b ≡ [])
      × Became e S (perform e S create) 2 [] (b ∷ []) [] (cells_of b)
  -- write: the bytes are put in, the slots stay
  pub wrote : (S : Store) (r offset : ℕ) (d vs : List ℕ) → says e S (write r offset d) ≡ yields vs
      → (b b' : Blob) × (root_of b ≡ r) × (root_of b' ≡ r) × (offset + length d ≤ length_of b)
      × (content_of b' ≡ pasted offset d (content_of b)) × (slots_of b' ≡ slots_of b)
      × Became e S (perform e S (write r offset d)) 1 (b ∷ []) (b' ∷ []) (cells_of b) (cells_of b')
  -- resize: the bytes are cut or filled with zeros; the slots are old ones and the lowest usable, as many as new blocks are needed; longer, all these
  pub resized : (S : Store) (r len : ℕ) (vs : List ℕ) → says e S (resize r len) ≡ yields vs
      → (b b' : Blob) × (root_of b ≡ r) × (root_of b' ≡ r) × (b' ≡ resizing.resized e len (free_at e S) b) × (content_of b' ≡ padded len (content_of b))
      × ((x : ℕ) → Memᴰ x (slots_of b') → Memᴰ x (slots_of b) ⊎ Memᴰ x (take (new_at e S len b) (free_at e S)))
      × (length_of b ≤ len → (x : ℕ) → Memᴰ x (slots_of b) ⊎ Memᴰ x (take (new_at e S len b) (free_at e S)) → Memᴰ x (slots_of b'))
      × Became e S (perform e S (resize r len)) 1 (b ∷ []) (b' ∷ []) (cells_of b) (cells_of b') × Freed e S (perform e S (resize r len)) b (slots_of b')
  -- delete: every block goes
  pub deleted : (S : Store) (r : ℕ) (vs : List ℕ) → says e S (delete r) ≡ yields vs
      → (b : Blob) × (root_of b ≡ r) × Became e S (perform e S (delete r)) 1 (b ∷ []) [] (cells_of b) [] × Freed e S (perform e S (delete r)) b []
  -- so a length given is the length then, and bytes written are the bytes read
  pub then_length : (S : Store) (r len : ℕ) (vs : List ℕ) → says e S (resize r len) ≡ yields vs
      → says e (perform e S (resize r len)) (tell_length r) ≡ yields (len ∷ [])
  pub then_bytes : (S : Store) (r offset : ℕ) (d vs : List ℕ) → says e S (write r offset d) ≡ yields vs
      → says e (perform e S (write r offset d)) (read r offset (length d)) ≡ yields d
  -- new blocks needed are the difference of the block totals; none for a length that is not longer
  pub needs : (S : Store) (len : ℕ) (b : Blob) → Shaped e b → new_at e S len b ≡ total e.fan (leaves_for e.leaf len) - length (slots_of b)
  pub shorter : (S : Store) (len : ℕ) (b : Blob) → Shaped e b → len ≤ length_of b → new_at e S len b ≡ 0
  -- after any run of calls from a wipe, at every moment, the store passes every check
  pub runs : (S : Store) → sized e S.pool S.records ≡ true → (calls : List Call) (M : Store) → Memᴰ M (run e S calls)
      → (bs : List Blob) × Passes e M bs
  -- and after it the live slots number the sum of the block totals of the lengths last given, which the audit answers
  pub sum : (S : Store) → sized e S.pool S.records ≡ true → (calls : List Call) (M : Store) → M ≡ get_or (run e S calls) (length calls) S
      → (length (live e (slots_at e M) M.pool M.records) ≡ blocks_of e (book_of e S calls))
      × (says e M audit ≡ yields (blocks_of e (book_of e S calls) ∷ []))

-- DEMAND THREE. After any run of calls from a wipe, with true records of one moment and a pool filled with any blocks of that history or zeros, a
-- reading call answers as the writer's store would have then exactly if every block of the blob is as it was, and otherwise refuses, naming the
-- first differing block in walk order; the audit passes exactly if the whole pool is as it was.

-- every block of b in pool P* is as it was in pool P; and slot s holds the first, in walk order, that is not
abbrev pub AsItWas : Edition → (P P* : List ℕ) → Blob → Type 0
AsItWas e P P* b = (s : ℕ) → Memᴰ s (slots_of b) → block e P* s ≡ block e P s

abbrev pub FirstOther : Edition → (P P* : List ℕ) → Blob → ℕ → Type 0
FirstOther e P P* b s = (before later : List ℕ) × (slots_of b ≡ before ++ (s ∷ later))
    × ((x : ℕ) → Memᴰ x before → block e P* x ≡ block e P x) × (block e P* s ≡ block e P s → ⊥)

abbrev pub reader : List ℕ → Store → Store
reader P* S = record { pool = P*; records = S.records }

-- on that pool with the records of moment S, call c answers as then exactly if every block of b is as it was; or refuses, naming the first that is not
pub record Told (e : Edition) (S : Store) (P* : List ℕ) (b : Blob) (c : Call) : Type 0 where
  pub answers : (says e (reader P* S) c ≡ says e S c) ↔ AsItWas e S.pool P* b
  pub refuses : (AsItWas e S.pool P* b → ⊥)
      → (why : Reason) × (s : ℕ) × FirstOther e S.pool P* b s × (4 ≤ number_of why) × (number_of why ≤ 7) × (says e (reader P* S) c ≡ refuses (at why s))

-- each slot of pool P* holds zeros, or what some slot held at some moment of the run
abbrev pub Filled : Edition → Store → List Call → List ℕ → Type 0
Filled e S₀ calls P* = (x : ℕ) → x < slots_at e S₀
    → (block e P* x ≡ replicate e.size 0)
    ⊎ ((T : Store) × (y : ℕ) × Memᴰ T (run e S₀ calls) × (y < slots_at e S₀) × (block e P* x ≡ block e T.pool y))

pub record DemandThree (e : Edition) : Type 0 where
  -- at every moment S of a run, for every such pool: each call that reads the blob of a root that is alive then; and the audit
  pub told : (S₀ : Store) → sized e S₀.pool S₀.records ≡ true → (calls : List Call) (S : Store) → Memᴰ S (run e S₀ calls)
      → (P* : List ℕ) → length P* ≡ length S.pool → Filled e S₀ calls P*
      → ((r : ℕ) → state S.records r ≡ 2 → (b : Blob) × (seen : List ℕ) × (blob_at e S r ≡ fine b seen)
      × ((offset size k : ℕ) (c : Call) → Memᴰ c (tell_length r ∷ read r offset size ∷ show_leaf r k ∷ []) → Told e S P* b c))
      × (((vs : List ℕ) × (says e (reader P* S) audit ≡ yields vs)) ↔ (P* ≡ S.pool))
