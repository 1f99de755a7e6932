-- One law for each of the six ways out.
use Rattle.laws.proofs.Checks.{least_leaf_root, least_leaf_edge, least_leaf_off, least_inner_root, least_inner_edge, least_inner_off}
use Rattle.base_block.proofs.forms.least_of.Goals as goal

pub returns-then-root : goal.returns-then-root
returns-then-root c = search least_leaf_root

pub returns-else-root : goal.returns-else-root
returns-else-root c = search least_leaf_edge

pub returns-else-edge : goal.returns-else-edge
returns-else-edge c = search least_leaf_off

pub returns-then-root-2 : goal.returns-then-root-2
returns-then-root-2 c = search least_inner_root

pub returns-else-root-2 : goal.returns-else-root-2
returns-else-root-2 c = search least_inner_edge

pub returns-else-edge-2 : goal.returns-else-edge-2
returns-else-edge-2 c = search least_inner_off
