-- What a turn changes of a slot: nothing, or one change. A block that is stored has the slot's version plus one, and its payload as it was lent.
use Rattle.std.specs.Prelude.{List, [], ◌∷◌, ℕ, ◌+◌, ◌<◌}
use Rattle.meaning.specs.declared.Edition.{Edition}
use Rattle.meaning.specs.Bytes.{block_bytes, record_of, state, recorded, last_version}
use Rattle.meaning.specs.Change.{Change, freed}
use Rattle.plan_slot.specs.declared.payload.Drawn.{Drawn}
use Rattle.plan_slot.specs.declared.turn.Turn.{Turn}
use Rattle.plan_slot.specs.declared.turn.Turn.TheVariants.{Stays, Goes, Takes, Renews}

-- slot s with a block of that height, count and payload, in that state
unfoldable pub stored : Edition → (R : List ℕ) → (state s : ℕ) → Drawn → (payload : List ℕ) → Change
stored e R st s d payload =
    record { slot = s; block = block_bytes e d.height d.count s (recorded R s + 1) payload; line = record_of st (recorded R s + 1) }

unfoldable pub turned : Edition → (R : List ℕ) → (s : ℕ) → Turn → (payload : List ℕ) → List Change
turned e R s Stays payload = []
turned e R s Goes payload = freed e R s ∷ []
turned e R s (Takes d) payload = stored e R 1 s d payload ∷ []
turned e R s (Renews d) payload = stored e R (state R s) s d payload ∷ []

-- how many changes those are
unfoldable pub turns : Turn → ℕ
turns Stays = 0
turns Goes = 1
turns (Takes d) = 1
turns (Renews d) = 1

-- a slot that is stored has a version that can rise
unfoldable pub Rises : Turn → (version : ℕ) → Type 0
Rises Stays v = Unit {0}
Rises Goes v = Unit {0}
Rises (Takes d) v = v < last_version
Rises (Renews d) v = v < last_version
