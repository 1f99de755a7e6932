-- Each way out is a law of check 3: height, too few, too many, and the zeros after the used payload.
use Rattle.laws.proofs.Checks.{formed_height, formed_few, formed_many, formed_zeros}
use Rattle.base_block.proofs.forms.formed_of.Goals as goal

pub returns-then-height_of-h : goal.returns-then-height_of-h
returns-then-height_of-h c = search formed_height

pub returns-then-count-least_of : goal.returns-then-count-least_of
returns-then-count-least_of c = search formed_few

pub returns-then-most_of-count : goal.returns-then-most_of-count
returns-then-most_of-count c = search formed_many

pub returns : goal.returns
returns c = search formed_zeros
