-- A change is the call that it names: what is said of the change is said of the call. What each of the three is, its member `call` says.
use Rattle.std.specs.Prelude.{Result}
use mathlib.Core.Path.{◌≡◌}
use mathlib.Core.List.{List}
use Prim.Native.Nat.{ℕ}
use Rattle.meaning.specs.declared.Refusal.{Refusal}
use Rattle.meaning.specs.Edition.{one}
use Rattle.meaning.specs.Calls.{delete_call, write_call, resize_call}
use Rattle.meaning.specs.Answers.{answer_of, Ends}
use Rattle.rows_change.specs.declared.change.Delete.{Delete}
use Rattle.rows_change.specs.declared.change.Write.{Write}
use Rattle.rows_change.specs.declared.change.Resize.{Resize}

module _ (P R : List ℕ) (r : ℕ) (a : Result (Unit {0}) Refusal) (P' R' : List ℕ) where
  pub is_delete : (x : Delete) → x.root ≡ r → Ends one answer_of (delete_call one P R x.root) P R a P' R'
      → Ends one answer_of (delete_call one P R r) P R a P' R'
  is_delete x er h = rw er at h

  pub is_write : (x : Write) (offset : ℕ) (d : List ℕ) → x.root ≡ r → x.offset ≡ offset → x.src.now ≡ d
      → Ends one answer_of (write_call one P R x.root x.offset x.src.now) P R a P' R' → Ends one answer_of (write_call one P R r offset d) P R a P' R'
  is_write x offset d er eo ed h = rw (er, eo, ed) at h

  pub is_resize : (x : Resize) (len : ℕ) → x.root ≡ r → x.len ≡ len → Ends one answer_of (resize_call one P R x.root x.len) P R a P' R'
      → Ends one answer_of (resize_call one P R r len) P R a P' R'
  is_resize x len er el h = rw (er, el) at h
