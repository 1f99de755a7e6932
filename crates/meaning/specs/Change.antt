-- What a successful call changes: a list of changes (slot, new block, new record), in rising slot order.
use Rattle.std.specs.Prelude.{List, [], ◌∷◌, ◌++◌, ℕ, ◌+◌, ◌*◌, replicate}
use Rattle.meaning.specs.Lists.{pick, pasted}
use Rattle.meaning.specs.Bytes.{Cell, same_cell, encoded, record_of, state, recorded}
use Rattle.meaning.specs.Tree.{Held, nothing, just}
use Rattle.meaning.specs.declared.Edition.{Edition}

pub record Change : Type 0 where
  pub slot : ℕ
  pub block : List ℕ
  pub line : List ℕ  -- the slot's record

-- pool and records
pub record Store : Type 0 where
  pub pool : List ℕ
  pub records : List ℕ

-- new in the place of slot s, where a slot has that width
unfoldable pub put : (width s : ℕ) → (new l : List ℕ) → List ℕ
put width s new l = pasted (width * s) new l

-- the fields of such changes, put one after the other
unfoldable pub puts : ℕ → (Change → List ℕ) → List Change → List ℕ → List ℕ
puts width field [] l = l
puts width field (c ∷ cs) l = puts width field cs (put width c.slot (field c) l)

unfoldable pub changed_by : Edition → List Change → Store → Store
changed_by e cs S =
    record { pool = puts e.size (λ c. c.block) cs S.pool; records = puts 12 (λ c. c.line) cs S.records }

-- a block that goes leaves zeros and a free record that keeps its version
unfoldable pub freed : Edition → List ℕ → ℕ → Change
freed e R s = record { slot = s; block = replicate e.size 0; line = record_of 0 (recorded R s) }

-- a slot that holds a new cell has its record's old version plus one, in block and record alike
unfoldable pub renewed : Edition → List ℕ → (state : ℕ) → ℕ → Cell → Change
renewed e R st s c = record { slot = s; block = encoded e c s (recorded R s + 1); line = record_of st (recorded R s + 1) }

-- the version rule: what slot s, which held old, becomes when it holds new; taken is the state that a newly taken slot gets.
-- A slot live before and after is unchanged in every byte if its height, count and payload are the same.
unfoldable pub changed : Edition → List ℕ → (taken : ℕ) → ℕ → (old new : Held) → List Change
changed e R taken s nothing nothing = []
changed e R taken s nothing (just new) = renewed e R taken s new ∷ []
changed e R taken s (just old) nothing = freed e R s ∷ []
changed e R taken s (just old) (just new) = pick (same_cell old new) [] (renewed e R (state R s) s new ∷ [])

-- over these slots
unfoldable pub changes : Edition → List ℕ → (taken : ℕ) → (old new : ℕ → Held) → List ℕ → List Change
changes e R taken old new [] = []
changes e R taken old new (s ∷ ss) = changed e R taken s (old s) (new s) ++ changes e R taken old new ss
