-- The three demands, of every proper edition, and of edition one. What each says is in specs/Demands.antt: one record for each, one field for each
-- sentence. Nothing is assumed but that the edition is proper.
use Rattle.meaning.specs.declared.Edition.{Edition}
use Rattle.meaning.specs.Edition as edition
use Rattle.meaning.specs.Edition.{Proper}
use Rattle.laws.proofs.Editions.{one_proper}
use Rattle.promises.proofs.One.{one}
use Rattle.promises.proofs.Two.{two}
use Rattle.promises.proofs.Three.{three}
use Rattle.promises.specs.Demands.{DemandOne, DemandTwo, DemandThree}

-- any input: a result, or a refusal exactly as the table says, which changes no byte
pub demand_one : (e : Edition) → Proper e → DemandOne e
demand_one = one

-- the right results: bytes, shapes, versions, slots, room, and the count that the history of calls says
pub demand_two : (e : Edition) → Proper e → DemandTwo e
demand_two = two

-- no reader with true records is shown another block than the writer's
pub demand_three : (e : Edition) → Proper e → DemandThree e
demand_three = three

-- document 01's edition
pub demand_one_of_one : DemandOne edition.one
demand_one_of_one = demand_one edition.one one_proper

pub demand_two_of_one : DemandTwo edition.one
demand_two_of_one = demand_two edition.one one_proper

pub demand_three_of_one : DemandThree edition.one
demand_three_of_one = demand_three edition.one one_proper
