-- The root's block is kept, so what is planned is planned with that block.
use Rattle.call_reshape.proofs.longer.RootKept.{root_place, kept_root, kept_puts}
use borrow.Author.Rules.{rules}
use Rattle.call_reshape.proofs.longer.grow.Goals as goal

pub keep_root-requires : goal.keep_root-requires
keep_root-requires c = (search root_place, search rules)

pub grow_all-requires : goal.grow_all-requires
grow_all-requires c =
    let all = c.requires.all_here in
    let sizes = c.requires.kept_len in
    record {
      proper = search rules;
      grows = search rules;
      towers = search rules;
      root_block = search kept_root;
      whole = search rules;
      all_here = search (all);
      payload_len = (search (sizes), search (sizes));
    }

pub returns : goal.returns
returns c = record { pool_after = search kept_puts; records_after = search kept_puts }
