use Rattle.plan_groups.proofs.jumps.ranked_leaves.Goals as goal

pub push_leaves-requires : goal.push_leaves-requires
push_leaves-requires c = λ k d within. (c.requires k d within).leaves
