-- Demand two, from the laws of shapes, of resizing, of calls that are done and of runs.
use Rattle.std.specs.Prelude.{Result}
use mathlib.Core.Path.{◌≡◌, refl, sym, ap, ap₂, subst, ◌∙◌}
use mathlib.Core.Bool.{true}
use mathlib.Core.List.{List, [], ◌∷◌, ◌++◌, map}
use Prim.Native.Nat.{ℕ, zero, suc, ◌+◌, ◌-◌, ◌<◌}
use native.Mathlib.Omega.{arith}
use borrow.Author.Tests.{ltb-false}
use lib.Dec.{ltb}
use lib.ListN.{length, get_or}
use lib.Seq.{take-length}
use Rattle.meaning.specs.declared.Refusal.{Refusal}
use Rattle.meaning.specs.declared.Edition.{Edition}
use Rattle.meaning.specs.Lists.{part}
use Rattle.meaning.specs.Edition.{Proper}
use Rattle.meaning.specs.Bytes.{Cell}
use Rattle.meaning.specs.Tree.{Tree, Blob, root_of, content_of, cells_of, slots_of, length_of}
use Rattle.meaning.specs.Shape.{leaves_for, total, Shaped}
use Rattle.meaning.specs.Walk.{fine, blob_check}
use Rattle.meaning.specs.Change.{Change, Store}
use Rattle.meaning.specs.Calls.{done, sized, rooted, reading, refuse_past, new_blocks, live, read_on, read_in, read_call}
use Rattle.meaning.specs.Answers.{Reads, read_out, yields}
use Rattle.meaning.specs.Run.{Call, audit, write, resize, tell_length, read, says, perform, run, book_of, blocks_of}
use Rattle.meaning.specs.declared.Reason.TheVariants.{NotARoot, OutOfRange}
use Rattle.laws.proofs.Numbers.{part_length}
use Rattle.laws.proofs.Parts.{pasted_length, part_pasted}
use Rattle.laws.proofs.Codec.{padded_length}
use Rattle.laws.proofs.Heights.{height_enough, height_least}
use Rattle.laws.proofs.Shapes.{shaped_leaves, shaped_height, shaped_slots, bare, blank, outline, one_shape}
use Rattle.laws.proofs.Walked.{walk_shaped}
use Rattle.laws_resize.proofs.resizing.SlotCounts.{slots_for}
use Rattle.laws_resize.proofs.resizing.Resized.{none_new}
use Rattle.laws_sound.proofs.again.Outcomes.{done_same, refuse_if_done, after_check_done, sized_lengths, opened_done}
use Rattle.laws_sound.proofs.again.Runs.{run_live, run_end}
use Rattle.promises.proofs.Said.{said_by, one_number, all_bytes, said_done, says_audit, says_read}
use Rattle.promises.proofs.Stores.{in_middle, moment_passes, gives_length, gives_bytes, gives_leaf, gives_count, is_alive}
use Rattle.promises.proofs.Done.{create_turns, write_turns, resize_turns, delete_turns}
use Rattle.promises.specs.Demands.{slots_at, blob_at, new_at, Opened, bare_tree, shape_of, Finds, Became, DemandTwo}

-- two functions that agree map alike
each_is : {A : Type 0} (f g : A → A) → ((x : A) → f x ≡ g x) → (l : List A) → map f l ≡ map g l
each_is f g h [] = refl
each_is f g h (x ∷ l) = ap₂ ◌∷◌ (h x) (each_is f g h l)

-- the two words for a shape
bare_is : (h : ℕ) (t : Tree h) → bare_tree h t ≡ bare blank h t
unfolding bare_tree bare blank
bare_is zero t = refl
bare_is (suc h) t = ap (λ (l : List (Tree h)). (0, l)) (each_is (bare_tree h) (bare blank h) (bare_is h) t.1)

-- and of a blob
shape_is : (b : Blob) → shape_of b ≡ outline b
unfolding shape_of outline
shape_is b = ap (λ (t : Tree b.height). record { height = b.height; tree = t }) (bare_is b.height b.tree)

-- what a check finds has its shape
found_shaped : (e : Edition) → Proper e → (S : Store) (r : ℕ) (b : Blob) (seen : List ℕ) → Opened e S → r < slots_at e S → blob_at e S r ≡ fine b seen
    → Shaped e b
unfolding blob_check
found_shaped e p S r b seen o low h =
    walk_shaped e p (slots_at e S) S.pool S.records (sized_lengths e S.pool S.records o.lengths).whole _ r h low

-- new blocks needed
needed : (e : Edition) → Proper e → (S : Store) (len : ℕ) (b : Blob) → Shaped e b
    → new_at e S len b ≡ total e.fan (leaves_for e.leaf len) - length (slots_of b)
unfolding new_blocks
needed e p S len b s = ap (λ (n : ℕ). total e.fan (leaves_for e.leaf len) - n) (sym (shaped_slots e p.some p.two b s))

-- a blob that was made is found from its root
made_alive : (e : Edition) → Proper e → (S S' : Store) (taken : ℕ) (gone : List Blob) (b : Blob) (old new : List (ℕ × Cell))
    → Became e S S' taken gone (b ∷ []) old new → Finds e S' (root_of b) b
made_alive e p S S' taken gone b old new c = is_alive e p S' (c.before ++ (b ∷ c.after)) c.is b (in_middle c.before b c.after)

-- after a resize, the length
length_then : (e : Edition) → Proper e → (S : Store) (r len : ℕ) (vs : List ℕ) → says e S (resize r len) ≡ yields vs
    → says e (perform e S (resize r len)) (tell_length r) ≡ yields (len ∷ [])
unfolding length_of
length_then e p S r len vs h =
    let (b, b', at, stays, is, bytes, old, new, c, f) = resize_turns e p S r len vs h in
    let g = made_alive e p S (perform e S (resize r len)) 1 (b ∷ []) b' (cells_of b) (cells_of b') c in
    let says_so = gives_length e p (perform e S (resize r len)) (root_of b') b' g in
    let long : length_of b' ≡ len = ap length bytes ∙ padded_length len (content_of b) in
    subst (λ (s : ℕ). says e (perform e S (resize r len)) (tell_length s) ≡ yields (len ∷ [])) stays (says_so ∙ ap (λ (n : ℕ). yields (n ∷ [])) long)

-- after a write, the bytes
bytes_then : (e : Edition) → Proper e → (S : Store) (r offset : ℕ) (d vs : List ℕ) → says e S (write r offset d) ≡ yields vs
    → says e (perform e S (write r offset d)) (read r offset (length d)) ≡ yields d
unfolding length_of
bytes_then e p S r offset d vs h =
    let (b, b', at, stays, fits, bytes, slots, c) = write_turns e p S r offset d vs h in
    let S' = perform e S (write r offset d) in
    let g = made_alive e p S S' 1 (b ∷ []) b' (cells_of b) (cells_of b') c in
    let long : length_of b' ≡ length_of b = ap length bytes ∙ pasted_length offset d (content_of b) fits in
    let says_so = gives_bytes e p S' (root_of b') b' g offset (length d) (omega arith) in
    let same : part offset (length d) (content_of b') ≡ d =
    ap (part offset (length d)) bytes ∙ part_pasted offset d (content_of b) fits in
    subst (λ (s : ℕ). says e S' (read s offset (length d)) ≡ yields d) stays (says_so ∙ ap yields same)

-- a read that is done gives as many bytes as were asked for
read_length : (e : Edition) (S : Store) (r offset size : ℕ) {d : List ℕ} {cs : List Change}
    → read_call e S.pool S.records r offset size ≡ done d cs → length d ≡ size
unfolding read_call read_in reading rooted read_on refuse_past length_of
read_length e S r offset size h =
    let (o, w) = opened_done e S.pool S.records _ h in
    let (t, v) = refuse_if_done _ NotARoot _ w in
    let (b, seen, f, u) = after_check_done (blob_at e S r) _ v in
    let (fits, is) = refuse_if_done (ltb (length_of b) (offset + size)) OutOfRange _ u in
    ap length (sym (done_same is).0) ∙ part_length offset size (content_of b) (ltb-false (length_of b) (offset + size) fits)

-- what a read says is what it leaves in the lent output
read_filled : (e : Edition) (S : Store) (r offset size : ℕ) (d : List ℕ) → says e S (read r offset size) ≡ yields d → (x : Result (Unit {0}) Refusal) (out out' : List ℕ)
    → Reads (read_call e S.pool S.records r offset size) x out out' → (out' ≡ d) × (length d ≡ size)
unfolding read_out
read_filled e S r offset size d h x out out' a =
    let (v, cs, q, same) = said_done all_bytes (read_call e S.pool S.records r offset size) d (sym (says_read e S r offset size) ∙ h) in
    (a.output ∙ ap (λ o. read_out o out) q ∙ same, ap length (sym same) ∙ read_length e S r offset size q)

-- after all calls of a run: its live slots
end_live : (e : Edition) → Proper e → (S : Store) → sized e S.pool S.records ≡ true → (calls : List Call) (M : Store)
    → M ≡ get_or (run e S calls) (length calls) S
    → length (live e (slots_at e M) M.pool M.records) ≡ blocks_of e (book_of e S calls)
end_live e p S h calls M q =
    run_live e p S h calls (length calls) (omega arith) M S q ∙ ap (λ (l : List Call). blocks_of e (book_of e S l)) (take-length calls)

-- and its audit
end_audit : (e : Edition) → Proper e → (S : Store) → sized e S.pool S.records ≡ true → (calls : List Call) (M : Store)
    → M ≡ get_or (run e S calls) (length calls) S → says e M audit ≡ yields (blocks_of e (book_of e S calls) ∷ [])
unfolding said_by
end_audit e p S h calls M q = says_audit e M ∙ ap (said_by one_number) (run_end e p S h calls M S q)

-- demand two
pub two : (e : Edition) → Proper e → DemandTwo e
two e p = record {
  shaped = found_shaped e p;
  leaves = shaped_leaves e p.some p.two;
  height = shaped_height e p.some p.two;
  least = λ n. (height_enough e.fan n p.two, λ d. height_least e.fan n d p.two);
  blocks = slots_for e p.some p.two;
  one_shape = λ a b s t q. shape_is a ∙ one_shape e p.some p.two a b s t q ∙ sym (shape_is b);
  gives_length = gives_length e p;
  gives_bytes = gives_bytes e p;
  gives_leaf = gives_leaf e p;
  filled = read_filled e;
  alive = λ S bs b g m. is_alive e p S bs g b m;
  counted = gives_count e p;
  created = create_turns e p;
  wrote = write_turns e p;
  resized = resize_turns e p;
  deleted = delete_turns e p;
  then_length = length_then e p;
  then_bytes = bytes_then e p;
  needs = needed e p;
  shorter = λ S len b s less. none_new e p.some p.two b s len [] (slots_at e S) S.pool S.records less;
  runs = moment_passes e p;
  sum = λ S h calls M q. (end_live e p S h calls M q, end_audit e p S h calls M q);
}
