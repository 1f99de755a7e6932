-- The place and the output after an asking are the definition's; the place stays within 64 bits, since no asking takes it past the blob's length.
use Rattle.std.specs.Prelude.{Err, Ok, Result}
use Rattle.std.specs.Result.{result_unwrap_or}
use mathlib.Core.Path.{◌≡◌, refl, sym, subst}
use mathlib.Core.List.{List}
use Prim.Native.Nat.{ℕ, ◌+◌, ◌^◌, ◌<◌}
use native.Mathlib.Omega.{arith}
use Rattle.meaning.specs.Edition.{one, Proper}
use Rattle.meaning.specs.declared.Edition.{Edition}
use Rattle.meaning.specs.declared.Refusal.{Refusal}
use Rattle.meaning.specs.Head.{head_at, handed, moved, out_after}
use Rattle.laws.proofs.Editions.{one_proper}
use Rattle.store_head.specs.Held.{bytes_of, head_in, place_after, out_from}

pub one_here : (e : Edition) → e ≡ one → Proper e
one_here e ee = subst (λ (x : Edition). Proper x) (sym ee) one_proper

pub out_one : (e : Edition) → e ≡ one → (P : List ℕ) (root len place : ℕ) (out out' : List ℕ) → out' ≡ out_after e P (head_at root place len) out
    → out' ≡ out_after one P (head_at root place len) out
out_one e ee P root len place out out' eo = rw (← ee) eo

pub stays_word : (len place k c : ℕ) → len < 2 ^ 64 → place < 2 ^ 64 → c ≡ handed len place k → place + c < 2 ^ 64
unfolding handed
stays_word len place k c l m ec = omega arith

pub bytes_or_none : (a : Result ℕ Refusal) → result_unwrap_or a 0 ≡ bytes_of a
unfolding bytes_of
bytes_or_none (Ok n) = refl
bytes_or_none (Err r) = refl

pub bytes_there : (a : Result ℕ Refusal) (n : ℕ) → a ≡ Ok n → n ≡ bytes_of a
unfolding bytes_of
bytes_there a n ea = rw ea

pub bytes_none : (a : Result ℕ Refusal) (q : Refusal) → a ≡ Err q → 0 ≡ bytes_of a
unfolding bytes_of
bytes_none a q ea = rw ea

module _ (root place : ℕ) (a : Result ℕ Refusal) (n : ℕ) (en : n ≡ bytes_of a) where
  pub place_moves : (k c : ℕ) → c ≡ handed n place k → place + c ≡ place_after root place a k
  unfolding place_after moved head_in
  place_moves k c ec = rw (ec, en)

  pub out_handed : (P out out' : List ℕ) → out' ≡ out_after one P (head_at root place n) out → out' ≡ out_from P root place a out
  unfolding out_from head_in
  out_handed P out out' eo = rw (← en) eo
